pub mod CommandLemmas
pub mod MatchLemmas
pub mod OptionLemmas
pub mod RuleLemmas
