pub mod Keeping
pub mod Settling
pub mod Owing
pub mod Placing
