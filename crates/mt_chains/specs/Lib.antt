pub mod Files
pub mod Testing
