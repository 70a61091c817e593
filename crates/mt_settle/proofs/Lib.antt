pub mod EachMore
pub mod Nexts
pub mod SettleTurns
