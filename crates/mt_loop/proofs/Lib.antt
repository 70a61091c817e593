pub mod Sessions
pub mod Deeds
pub mod Asking
pub mod Tables
pub mod Looks
pub mod Settles
