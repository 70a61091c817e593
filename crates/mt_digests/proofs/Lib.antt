pub mod Windows
pub mod DigestLaws
