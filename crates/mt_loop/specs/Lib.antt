pub mod Connections
pub mod Steps
pub mod Deeds
pub mod Tables
pub mod Limits
