pub mod Holds
pub mod Moves
pub mod Taping
pub mod Unlock
