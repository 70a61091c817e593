pub mod CommandLine
pub mod Faults
pub mod Given
pub mod Matches
pub mod Reads
