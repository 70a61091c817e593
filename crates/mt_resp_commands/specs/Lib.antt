pub mod Knowing
pub mod Links
pub mod Lists
pub mod Changes
pub mod Scans
pub mod Clears
pub mod Answers
