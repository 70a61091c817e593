pub mod CutLemmas
pub mod EndLemmas
pub mod NameLemmas
pub mod NamedLemmas
pub mod PhaseLemmas
pub mod ScriptLemmas
pub mod StepLemmas
pub mod WordLemmas
