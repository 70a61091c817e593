pub mod Scans
pub mod Pages
pub mod Walked
