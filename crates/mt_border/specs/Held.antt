-- A pair, and what a slot holds.
use Rattle.std.specs.Prelude.{ℕ, List, Option}
use Rattle.mt_rows.specs.Rows.{Columns}

-- a key's suffix and its row, with the number of the step that placed the row
pub record Pair : Type 0 where
  pub suffix : List ℕ
  pub row : Columns
  pub stamp : ℕ

-- a pair; a pair on its way to a tree of its own, with that tree's number, once it is written; or the number of the tree of all longer keys of the slice
pub data Held : Type 0 where
  Stable : Pair → Held
  Unstable : Pair → Option ℕ → Held
  Link : ℕ → Held
