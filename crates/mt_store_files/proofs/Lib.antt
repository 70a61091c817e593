mod CallLemmas
mod FoundLemmas
mod CheckLemmas
mod StrangeLemmas
mod LabelLemmas
