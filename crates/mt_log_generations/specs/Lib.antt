pub mod Headers
pub mod Calls
pub mod Reading
