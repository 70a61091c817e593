pub mod Failures
pub mod Buffering
