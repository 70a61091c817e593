pub mod Making
pub mod Linking
pub mod Rely
pub mod Given
pub mod Stamps
