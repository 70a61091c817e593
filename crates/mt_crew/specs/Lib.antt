pub mod Faults
pub mod Servings
