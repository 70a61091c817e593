pub mod Links
pub mod Places
pub mod QueueLaws
pub mod BeginOrder
pub mod BeginMoves
pub mod TableMoves
pub mod BodySteps
