pub mod Files
pub mod Logs
pub mod Turns
pub mod Shows
