pub mod FrameLaws
pub mod Putting
pub mod RequestFields
pub mod RequestLaws
pub mod ReplyLaws
pub mod Stamped
pub mod Tests
