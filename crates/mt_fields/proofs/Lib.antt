pub mod Numbers
pub mod Loop
pub mod FieldLaws
pub mod Lists
