-- What the phases that make a layer write, and where each leads.
use Rattle.std.specs.Prelude.{◌≡◌, ℕ, ◌<◌, true, drop, length, Some}
use Rattle.mt_slices.specs.Slices.{slice_at, mark_at}
use Rattle.mt_rows.specs.Rows.{Bytes}
use Rattle.mt_border.specs.{declared.entry.Entry.Entry, Held.Pair, Held.Stable, Entry.pair_of}
use Rattle.mt_border.specs.Contents.{owned, key_at}
use Rattle.mt_arena.specs.{Contents.counts, Layers.slot_at, Arena.ArenaView, Accesses.{at, tree_of}}
use Rattle.mt_operation.specs.{declared.phase.Phase.Phase, declared.phase.Phase.TheVariants.MarkUnstable, declared.walk.Taken.TheVariants.Link}
use Rattle.mt_operation.specs.declared.walk.Walk.{Walk}

-- the entry that the pair of a longer key has one layer further down: its suffix begins there
abbrev pub entry_below : Pair → Entry
entry_below pair = record {
  slice = slice_at pair.suffix;
  mark = mark_at pair.suffix;
  held = Stable (record pair { suffix = drop 8 pair.suffix });
}

-- after MakeLayer: with the number of the new tree
abbrev pub walk_linked : Walk → ℕ → Walk
walk_linked w tree = record w { taken = Link tree; phase = MarkUnstable }

-- after the others: at another phase
abbrev pub walk_at : Phase → Walk → Walk
walk_at phase w = record w { phase = phase }

-- slot i of node k, which counts, has a pair of this owner and stamp
pub record HasStamp (v : ArenaView) (k i : ℕ) (owner : ℕ × Bytes) (stamp : ℕ) : Type 0 where
  pub there : k < length v.nodes
  pub counted : counts v.trees (at v k) ≡ true
  pub in_range : i < length (at v k).slots
  pub pair : Pair
  pub is : pair_of (slot_at (at v k) i).held ≡ Some pair
  pub owner_is : owned (key_at (tree_of v k).prefix (slot_at (at v k) i) pair) ≡ owner
  pub stamp_is : pair.stamp ≡ stamp

-- no pair gets another stamp: each that an owner has now it had before
abbrev pub KeepsStamps : ArenaView → ArenaView → Type 0
KeepsStamps old new = (k i : ℕ) (owner : ℕ × Bytes) (stamp : ℕ) → HasStamp new k i owner stamp → (j : ℕ) × (m : ℕ) × HasStamp old j m owner stamp
