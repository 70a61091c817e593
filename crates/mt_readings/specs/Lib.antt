pub mod Reading
pub mod Spans
pub mod Tenancies
