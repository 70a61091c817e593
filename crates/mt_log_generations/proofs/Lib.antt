pub mod HeaderLaws
pub mod Openings
pub mod HeaderReads
