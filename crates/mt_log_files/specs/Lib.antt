pub mod Slots
pub mod Shows
pub mod Files
pub mod Workers
pub mod Looks
