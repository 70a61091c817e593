-- What is kept of a put that holds its border node, by its next phase. Each fact speaks of the node and of what was made ready.
use Rattle.std.specs.Prelude.{◌≡◌, ℕ, ◌<◌, true, length, Some, None}
use Rattle.mt_slices.specs.Slices.{slice_of, mark_of, suffix_of}
use Rattle.mt_rows.specs.Rows.{Bytes}
use Rattle.mt_border.specs.{Held.Pair, Held.Stable, declared.entry.FoundKind.TheVariants.{ThisKey, OtherLong}}
use Rattle.mt_border.specs.{Contents.row_of, Entries.IsMissing, Slots.{held_in, next_free, is_dropped}}
use Rattle.mt_arena.specs.{NodeView.place_at, Layers.slot_at, Arena.ArenaView, Accesses.at}
use Rattle.mt_operation.specs.{declared.phase.Phase.Phase, declared.phase.Phase.TheVariants.{Store, Fill, SplitStart}, declared.walk.Walk.Walk}
use Rattle.mt_operation.specs.{declared.task.Task.Task, declared.prepared.Prepared.Prepared}
use Rattle.mt_descent.specs.KeptWalks.{IsInSlot}
use Rattle.mt_held.specs.Holds.{HoldsBy, HoldsBorder}
use Rattle.mt_insert.specs.Puts.{IsReady, IsLeft}

-- at Store: the walk's slot has the key's pair, and what was made ready is the put over its row
pub record IsAtStore (v : ArenaView) (op : ℕ) (task : Task) (prepared : Prepared) (w : Walk) : Type 0 where
  pub holds : HoldsBorder v op task.key w
  pub in_slot : IsInSlot (at v w.place.node) w.slot task.key w.layer ThisKey
  pub pair : Pair
  pub stable : (slot_at (at v w.place.node) (place_at (at v w.place.node) w.slot)).held ≡ Stable pair
  pub ready : IsReady task (Some (row_of pair)) prepared

-- at Fill: the node misses the key and has room for it, and what was made ready is the put over no row
pub record IsAtFill (v : ArenaView) (op : ℕ) (task : Task) (prepared : Prepared) (w : Walk) : Type 0 where
  pub holds : HoldsBorder v op task.key w
  pub missing : IsMissing (at v w.place.node).slots (slice_of task.key w.layer) (mark_of task.key w.layer)
  pub room : length (at v w.place.node).slots < 15
  pub suffix : prepared.suffix ≡ suffix_of task.key w.layer
  pub ready : IsReady task None prepared

-- at Publish: the node misses the key and has room for it, and the free slot that is taken next holds the key's pair, placed by no step; readers wait
-- for the node where that slot was ever dropped
pub record IsAtPublish (v : ArenaView) (op : ℕ) (task : Task) (prepared : Prepared) (w : Walk) : Type 0 where
  pub holds : HoldsBy true v op task.key w
  pub missing : IsMissing (at v w.place.node).slots (slice_of task.key w.layer) (mark_of task.key w.layer)
  pub room : length (at v w.place.node).slots < 15
  pub filled : held_in (at v w.place.node).cells.helds (next_free (at v w.place.node).cells) ≡ Stable (record { suffix = suffix_of task.key w.layer; row = prepared.row; stamp = 0 })
  pub marked : is_dropped (at v w.place.node).cells (next_free (at v w.place.node).cells) ≡ true → (at v w.place.node).version.inserting ≡ true
  pub left : IsLeft task None prepared

-- at SplitStart: the full border node misses the key, and what was made ready is the put over no row
pub record IsAtSplitStart (v : ArenaView) (op : ℕ) (task : Task) (prepared : Prepared) (w : Walk) : Type 0 where
  pub holds : HoldsBorder v op task.key w
  pub missing : IsMissing (at v w.place.node).slots (slice_of task.key w.layer) (mark_of task.key w.layer)
  pub full : length (at v w.place.node).slots ≡ 15
  pub suffix : prepared.suffix ≡ suffix_of task.key w.layer
  pub ready : IsReady task None prepared

-- at MakeLayer: the walk's slot has the pair of another long key at the slice of its own
pub record IsAtMakeLayer (v : ArenaView) (op : ℕ) (key : Bytes) (w : Walk) : Type 0 where
  pub holds : HoldsBorder v op key w
  pub in_slot : IsInSlot (at v w.place.node) w.slot key w.layer OtherLong
  pub pair : Pair
  pub stable : (slot_at (at v w.place.node) (place_at (at v w.place.node) w.slot)).held ≡ Stable pair

-- at the phase that a put comes to once all is made ready: it places the put, fills a slot for it, or begins the split of its node
abbrev pub KeptReady : Phase → ArenaView → ℕ → Task → Prepared → Walk → Type 0
KeptReady Store v op task prepared w = IsAtStore v op task prepared w
KeptReady Fill v op task prepared w = IsAtFill v op task prepared w
KeptReady SplitStart v op task prepared w = IsAtSplitStart v op task prepared w
KeptReady _ v op task prepared w = ⊥
