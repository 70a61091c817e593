pub mod Transcripts
pub mod Calls
pub mod Asking
pub mod Settles
