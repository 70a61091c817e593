pub mod BufferLemmas
pub mod FailureLemmas
pub mod StreamLemmas
