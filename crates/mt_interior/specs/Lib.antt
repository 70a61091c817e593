pub mod Places
pub mod Node
pub mod Fences
pub mod Changes
