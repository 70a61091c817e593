pub mod Readings
pub mod Bytewise
pub mod Spanning
pub mod Stored
pub mod Joining
pub mod Ends
