pub mod Added
pub mod Answered
pub mod Explained
pub mod Stories
