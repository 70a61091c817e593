pub mod Next
pub mod Parts
pub mod Settles
pub mod Turns
