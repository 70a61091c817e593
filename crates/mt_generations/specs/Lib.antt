pub mod Chains
pub mod Standings
pub mod Turns
pub mod Examples
