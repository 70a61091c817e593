pub mod Digests
pub mod Counts
