pub mod NewLayers
pub mod KeptLayers
pub mod Builds
