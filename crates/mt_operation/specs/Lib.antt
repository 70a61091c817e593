pub mod Phases
pub mod Walks
pub mod Tasks
pub mod Ready
pub mod Operations
pub mod Tables
pub mod Scans
