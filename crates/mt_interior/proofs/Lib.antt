pub mod PlaceLemmas
pub mod Shapes
pub mod CallerLemmas
