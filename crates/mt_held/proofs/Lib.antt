pub mod GivingBack
pub mod Given
pub mod Holders
pub mod Looks
pub mod Places
pub mod Rely
pub mod Returns
