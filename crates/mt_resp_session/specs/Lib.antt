pub mod Transcripts
pub mod Answering
