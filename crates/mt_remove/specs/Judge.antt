-- Judge: the key is looked for under the lock, and all growths of the step that takes it out are made.
use Rattle.std.specs.{Prelude.{◌≡◌, ℕ, None}, FinMap.get}
use Rattle.mt_border.specs.{declared.entry.Find.Find, declared.entry.Find.TheVariants.{Missing, Slot}}
use Rattle.mt_border.specs.{declared.entry.FoundKind.TheVariants.{ThisKey, OtherLong}, Contents.owned}
use Rattle.mt_tape.specs.Tapes.{Kept}
use Rattle.mt_arena.specs.{Arena.{ArenaView, content_of}, Accesses.at}
use Rattle.mt_operation.specs.{declared.phase.Phase.TheVariants.DropKey, declared.prepared.Prepared.Prepared, declared.task.Task.Task, declared.walk.Walk.Walk}
use Rattle.mt_descent.specs.{KeptWalks.IsInSlot, WalkMoves.{FindsIn, KeepsPairs}}
use Rattle.mt_held.specs.{Unlock.{MeetsLink, IsUnlock}, Taping.reserving}
use Rattle.mt_remove.specs.{KeptRemovals.IsAtDropKey, declared.phases.judge.Looked.Looked}
use Rattle.mt_remove.specs.declared.phases.judge.Looked.TheVariants.{Ready, GoesOn, Absent, NoMemory}

-- all growths of the step that takes the key out of its slot are made
pub record IsMadeReady (op : ℕ) (task : Task) (old new : ArenaView) (tape taped : Kept) (before after : Walk) (prepared : Prepared) : Type 0 where
  pub stays : new ≡ old
  pub slot : ℕ
  pub in_slot : IsInSlot (at old before.place.node) slot task.key before.layer ThisKey
  pub walk : after ≡ record before { slot = slot; phase = DropKey }
  pub tape_is : taped ≡ reserving tape
  pub keeps : KeepsPairs op old new before after
  pub kept : IsAtDropKey old op task prepared after

-- nothing stands there, or another long key
abbrev pub IsAbsent : Find → Type 0
IsAbsent Missing = Unit {0}
IsAbsent (Slot slot OtherLong) = Unit {0}
IsAbsent _ = ⊥

-- the key is missing, or another long one stands in its place: the lock was given back
pub record FindsAbsent (op : ℕ) (task : Task) (old new : ArenaView) (before after : Walk) : Type 0 where
  pub found : Find
  pub finds : FindsIn (at old before.place.node) task.key before.layer found
  pub absent : IsAbsent found
  pub missing : get (content_of old) (owned task.key) ≡ None
  pub unlocks : IsUnlock op old new before after

-- there is no memory for the step that takes the key out of its slot: the lock was given back
pub record IsShort (op : ℕ) (task : Task) (old new : ArenaView) (before after : Walk) : Type 0 where
  pub slot : ℕ
  pub in_slot : IsInSlot (at old before.place.node) slot task.key before.layer ThisKey
  pub unlocks : IsUnlock op old new before after

-- what a removal's look at its border node tells: without memory the lock was given back; room on the tape is taken only where all was made ready
abbrev pub TellsLooked : ℕ → Task → ArenaView → ArenaView → Kept → Kept → Walk → Walk → Looked → Type 0
TellsLooked op task old new tape taped before after (Ready prepared) = IsMadeReady op task old new tape taped before after prepared
TellsLooked op task old new tape taped before after GoesOn = (taped ≡ tape) × MeetsLink op task.key old new before after
TellsLooked op task old new tape taped before after Absent = (taped ≡ tape) × FindsAbsent op task old new before after
TellsLooked op task old new tape taped before after NoMemory = (taped ≡ tape) × IsShort op task old new before after
