-- Judge: the key is looked for under the lock, the stamp that stands there is judged, and all growths of the placing step are made.
use Rattle.std.specs.{Prelude.{None, Option, Some, if◌then◌else◌, length, ℕ, ◌==◌, ◌≡◌, ◌⊎◌}, Option.option_map, FinMap.get}
use Rattle.mt_slices.specs.Slices.{mark_of, slice_of, suffix_of}
use Rattle.mt_rows.specs.{Rows.Bytes, Stamps.{Stamped, stamp_in}}
use Rattle.mt_border.specs.{Contents.{owned, row_of}, Entries.IsMissing, Held.Pair, declared.entry.FoundKind.TheVariants.ThisKey, Entry.pair_of}
use Rattle.mt_tape.specs.Tapes.{Kept}
use Rattle.mt_arena.specs.{Arena.{ArenaView, content_of}, NodeView.{NodeView, place_at}, Accesses.at, Layers.slot_at}
use Rattle.mt_operation.specs.{declared.phase.Phase.TheVariants.{MakeLayer, Fill, SplitStart, Store}, declared.phase.Phase.Phase}
use Rattle.mt_operation.specs.{declared.prepared.Prepared.Prepared, declared.task.Task.Task, declared.walk.Walk.Walk, Tasks.ask}
use Rattle.mt_descent.specs.{KeptWalks.IsInSlot, WalkMoves.KeepsPairs}
use Rattle.mt_held.specs.{Unlock.{IsUnlock, MeetsLink}, Taping.reserving}
use Rattle.mt_insert.specs.{KeptPuts.{IsAtMakeLayer, KeptReady}, Puts.{IsReady, MeetsStamp}, declared.phases.judge.Judged.Judged}
use Rattle.mt_insert.specs.declared.phases.judge.Judged.TheVariants.{GoesOn, NoMemory, Ready, Stale}

-- the slot that has the key; none where the node misses it
abbrev pub StandsIn : NodeView → Bytes → ℕ → Option ℕ → Type 0
StandsIn n key layer (Some slot) = IsInSlot n slot key layer ThisKey
StandsIn n key layer None = IsMissing n.slots (slice_of key layer) (mark_of key layer)

-- what stands at the key, by the slot that has it
abbrev pub standing_in : NodeView → Option ℕ → Option Stamped
standing_in n (Some slot) = option_map row_of (pair_of (slot_at n (place_at n slot)).held)
standing_in n None = None

-- what is made ready: the put over the row of the slot that has its key, or over no row, with what follows the key's slice
abbrev pub ReadyFor : NodeView → Task → ℕ → Option ℕ → Prepared → Type 0
ReadyFor n task layer (Some slot) prepared = (pair : Pair) → pair_of (slot_at n (place_at n slot)).held ≡ Some pair → IsReady task (Some (row_of pair)) prepared
ReadyFor n task layer None prepared = IsReady task None prepared × (prepared.suffix ≡ suffix_of task.key layer)

-- to store in the slot that has the key; where it is missing, to fill a free slot, or to split a full node
abbrev pub for_missing : NodeView → Phase
for_missing n = if length n.slots == 15 then SplitStart else Fill

abbrev pub after_judge : NodeView → Option ℕ → Walk → Walk
after_judge n (Some slot) w = record w { slot = slot; phase = Store }
after_judge n None w = record w { phase = for_missing n }

-- all growths of the step that places the put are made, by the slot that has its key
pub record IsMadeReady (op : ℕ) (task : Task) (old new : ArenaView) (tape taped : Kept) (before after : Walk) (prepared : Prepared) : Type 0 where
  pub stays : new ≡ old
  pub slot : Option ℕ
  pub stands : StandsIn (at old before.place.node) task.key before.layer slot
  pub walk : after ≡ after_judge (at old before.place.node) slot before
  pub tape_is : taped ≡ reserving tape
  pub keeps : KeepsPairs op old new before after
  pub kept : KeptReady after.phase old op task prepared after

-- another long key stands in the place of its key: a layer is to be made for both
pub record MeetsOther (op : ℕ) (key : Bytes) (old new : ArenaView) (before after : Walk) : Type 0 where
  pub stays : new ≡ old
  pub slot : ℕ
  pub walk : after ≡ record before { slot = slot; phase = MakeLayer }
  pub keeps : KeepsPairs op old new before after
  pub kept : IsAtMakeLayer old op key after

-- the put asks for another stamp than the one that stands at its key: the lock was given back
pub record FindsStale (op : ℕ) (task : Task) (stamp : ℕ) (old new : ArenaView) (before after : Walk) : Type 0 where
  pub slot : Option ℕ
  pub stands : StandsIn (at old before.place.node) task.key before.layer slot
  pub standing : stamp_in (get (content_of old) (owned task.key)) ≡ stamp
  pub stale : ¬ MeetsStamp (ask task) stamp
  pub unlocks : IsUnlock op old new before after

-- There is no memory for the step that places the put, in the slot that has its key or in one that is wanted. It may write over the stamp that stands
-- there, and the lock was given back.
pub record IsShort (op : ℕ) (task : Task) (old new : ArenaView) (before after : Walk) : Type 0 where
  pub slot : Option ℕ
  pub stands : StandsIn (at old before.place.node) task.key before.layer slot
  pub met : MeetsStamp (ask task) (stamp_in (get (content_of old) (owned task.key)))
  pub unlocks : IsUnlock op old new before after

-- What a put's look at its border node tells. Without its stamp, or without memory, the lock was given back. Room on the tape is taken only where all
-- was made ready.
abbrev pub TellsJudged : ℕ → Task → ArenaView → ArenaView → Kept → Kept → Walk → Walk → Judged → Type 0
TellsJudged op task old new tape taped before after (Ready prepared) = IsMadeReady op task old new tape taped before after prepared
TellsJudged op task old new tape taped before after GoesOn =
    (taped ≡ tape) × (MeetsOther op task.key old new before after ⊎ MeetsLink op task.key old new before after)
TellsJudged op task old new tape taped before after (Stale stamp) = (taped ≡ tape) × FindsStale op task stamp old new before after
TellsJudged op task old new tape taped before after NoMemory = (taped ≡ tape) × IsShort op task old new before after
