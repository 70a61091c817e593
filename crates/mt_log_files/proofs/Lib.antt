pub mod Refused
pub mod ShowLaws
pub mod FileLaws
pub mod WorkerLaws
pub mod PlainLaws
pub mod LookLaws
