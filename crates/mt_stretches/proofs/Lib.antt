pub mod Fronts
pub mod Beginning
pub mod Checking
pub mod Leasts
pub mod Snapping
