pub mod Asking
pub mod Telling
pub mod Rounds
pub mod Results
pub mod Clearing
pub mod Pages
pub mod Leading
