-- The contents after each step: what the kept fact of an answer speaks of.
use Rattle.std.specs.{Prelude.{◌≡◌, ◌≤◌, ℕ, Some}, FinMap.get}
use Rattle.mt_rows.specs.{Rows.Bytes, Stamps.Stamped, Tenants.Contents}
use Rattle.mt_border.specs.{Contents.{owned, row_of}, Held.Pair}
use Rattle.mt_arena.specs.{Arena.{ArenaView, IsArena, content_of}, Guarantee.LoseHeld, Ways.StandsFor}

-- how many steps were made, and the contents after each of them
pub record Past : Type 0 where
  pub steps : ℕ
  pub contents : ℕ → Contents

-- the step of this number was made, and after it the contents were those of the arena
pub record IsNow (past : Past) (step : ℕ) (v : ArenaView) : Type 0 where
  pub made : step ≤ past.steps
  pub contents : past.contents step ≡ content_of v

-- no fewer steps were made, and after those of before, from this one on, the contents are still told so
pub record ExtendsPast (from : ℕ) (old new : Past) : Type 0 where
  pub steps : old.steps ≤ new.steps
  pub same : (n : ℕ) → from ≤ n → n ≤ old.steps → new.contents n ≡ old.contents n

-- after this step and each one since, the contents had this row, with this stamp, for the key
pub record StoodSince (past : Past) (step : ℕ) (key : Bytes) (row : Stamped) : Type 0 where
  pub made : step ≤ past.steps
  pub stood : (n : ℕ) → step ≤ n → n ≤ past.steps → get (past.contents n) (owned key) ≡ Some row

-- each pair of the arena has stood since the step of its stamp
abbrev pub AreStamped : Past → ArenaView → Type 0
AreStamped past v = (key : Bytes) (layer k i : ℕ) (pair : Pair) → StandsFor v.nodes v.trees key layer k i pair → StoodSince past pair.stamp key (row_of pair)

-- what the step of another operation has to leave to one that remembers a slot: the nodes fit together, each row has stood since its stamp, and a slot
-- that was dropped holds what it held
pub record KeepsRows (old new : ArenaView) (after : Past) : Type 0 where
  pub sound : IsArena new.nodes new.trees
  pub stamped : AreStamped after new
  pub lost : LoseHeld old.nodes new.nodes
