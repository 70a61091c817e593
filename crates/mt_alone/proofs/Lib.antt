pub mod RunLemmas
pub mod Rows
pub mod Callers
pub mod Texts
pub mod NumberedTexts
pub mod LastNumbers
