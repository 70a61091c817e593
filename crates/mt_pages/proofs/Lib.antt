pub mod Ascending
pub mod Walked
pub mod Based
