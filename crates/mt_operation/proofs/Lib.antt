pub mod Tables
pub mod Seeing
pub mod Phases
