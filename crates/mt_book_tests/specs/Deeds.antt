-- What one period does to a counter, and what a mark knows of it.
use Rattle.std.specs.Prelude.{◌≡◌, ℕ, ◌+◌, List, [], ◌∷◌, ◌++◌}
use mathlib.Core.List.{IsPrefix}
use Rattle.mt_history.specs.{Legal.EndsWith, Views.MarkView}

-- how many steps were made, and how many answers were taken
abbrev pub Counts : Type 0
Counts = ℕ × ℕ

-- a step was made, which has this number; or an answer was taken, which tells how many steps were made
pub data Deed : Type 0 where
  Stepped : ℕ → Deed
  Took : ℕ → Deed

abbrev pub Did : Counts → Deed → Counts → Type 0
Did v (Stepped n) w = (w.0 ≡ v.0 + 1) × (w.1 ≡ v.1) × (n ≡ v.0 + 1)
Did v (Took a) w = (w.0 ≡ v.0) × (w.1 ≡ v.1 + 1) × (a ≡ v.0)

pub record Leads (v w : Counts) : Type 0 where
  pub deed : Deed
  pub did : Did v deed w

-- one state more stands in the history, and the mark has seen all up to it; from the last one before it this was done
pub record Adds (deed : Deed) (old new : MarkView Counts) : Type 0 where
  pub before : List Counts
  pub from : Counts
  pub to : Counts
  pub since : IsPrefix old.log before
  pub ends : EndsWith before from
  pub log : new.log ≡ before ++ to ∷ []
  pub made : new.made ≡ old.made + 1
  pub did : Did from deed to

-- a step and the answer that was taken after it
pub record Calls (answer : ℕ) (old new : MarkView Counts) : Type 0 where
  pub number : ℕ
  pub mid : MarkView Counts
  pub steps : Adds (Stepped number) old mid
  pub takes : Adds (Took answer) mid new
