pub mod Places
pub mod Beginnings
pub mod PlaceLaws
pub mod Ends
pub mod Replacing
pub mod BegunLaws
pub mod OlderLaws
