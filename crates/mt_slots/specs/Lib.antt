pub mod Places
pub mod Calls
pub mod Loads
pub mod Keeps
pub mod Crashes
