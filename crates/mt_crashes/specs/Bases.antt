-- The pairs from which a recovery replays: what a checkpoint that was written while the store ran has to be for that.
use Rattle.std.specs.{Prelude.{◌≡◌, ◌⊎◌, ℕ, ◌≤◌, true, nat_lt, List, Option}, List.filter}
use Rattle.mt_rows.specs.{Rows.Bytes, Tenants.{Contents as Pairs}}
use Rattle.mt_crashes.specs.{Fronts.{Numbers, is_void}, Histories.{Placed, pairs_upto}}
use Rattle.std.specs.FinMap as pairs

-- the changes with a number over n
abbrev pub over : ℕ → List Placed → List Placed
over n history = filter (λ p. nat_lt n p.change.stamp) history

-- Pairs that were walked between two numbers: each key is there, or isn't, as at some number between these, with the stamp that it had there. So a
-- replay tells by the stamp which of the key's changes its row has, and a key that stayed throughout is there as it was.
abbrev pub IsBase : ℕ → ℕ → List Placed → Pairs → Type 0
IsBase from to history base = (key : ℕ × Bytes) → (m : ℕ) × (from ≤ m) × (m ≤ to) × (pairs.get base key ≡ pairs.get (pairs_upto m history) key)

-- a checkpoint: walked from one number to another, with these pairs
pub record CheckpointView : Type 0 where
  pub from : ℕ
  pub to : ℕ
  pub pairs : Pairs

-- what was read of the slots, in their order
abbrev pub Slots : Type 0
Slots = List (Option CheckpointView)

-- A checkpoint of a store: its walk has ended, and it is a base of the history; or a recovery made it void as a whole.
pub record IsCheckpointOf (steps : ℕ) (voids : List Numbers) (history : List Placed) (c : CheckpointView) : Type 0 where
  pub order : c.from ≤ c.to
  pub made : c.to ≤ steps
  pub base : (is_void voids c.to ≡ true) ⊎ IsBase c.from c.to history c.pairs
