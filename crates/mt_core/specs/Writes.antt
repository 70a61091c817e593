-- What the steps that lock, write or give back make of an operation in its place, and of what they write to beside it.
use Rattle.std.specs.Prelude.{◌≡◌, ◌≢◌, ℕ, ◌<◌, ◌⊎◌, true, false, [], Option, Some, None}
use Rattle.mt_rows.specs.{Rows.Columns, Accounts.{Accounts, HasPairs, account_of}, declared.reply.Reply.Reply}
use Rattle.mt_rows.specs.declared.reply.Reply.TheVariants.{Absent, Full, New, NoMemory as NoMemoryReply, Removed, Replaced, Stale}
use Rattle.mt_version.specs.Changes.{CanUnlock}
use Rattle.mt_tape.specs.Tapes.{Kept, last_write}
use Rattle.mt_arena.specs.{Arena.ArenaView, Given.{AreOutUpTo, AreForgotten, MayRenew}, Accesses.at}
use Rattle.mt_operation.specs.declared.phase.Phase.{Phase}
use Rattle.mt_operation.specs.declared.phase.Phase.TheVariants.{Lock, Judge, Store, Fill, Publish, SplitStart, SplitMove, SplitPrev, LockParent, InsertChild, InteriorSplit, Reparent, RootGrow, MakeLayer, MarkUnstable, Link, MarkLayer, DropKey, LockPrev, LockAbove, Unlink, FixNext, Collapse, CleanLayer, Unlock}
use Rattle.mt_operation.specs.{declared.outcome.Outcome.Outcome, declared.prepared.Prepared.Prepared, declared.operation.Operation.Operation}
use Rattle.mt_operation.specs.{Operations.{IsUnsplit, splits_of, scan_of, with_splits}, Phases.{IsClimb, IsLayerPhase, IsRemovalPhase, IsToGrow}, Tasks.ask}
use Rattle.mt_table.specs.{declared.steps.Made.Made, declared.steps.Made.TheVariants.{Step, Blocked, NoMemory, Nothing}}
use Rattle.mt_descent.specs.{KeptWalks.{IsAtBorder, HoldsNothing}, WalkMoves.IsLock}
use Rattle.mt_insert.specs.{Puts.IsPut, KeptPuts.{IsAtStore, IsAtFill, IsAtPublish, IsAtSplitStart}}
use Rattle.mt_insert.specs.{KeptSplits.{HoldsSplits, IsAmong, IsAtSplitMove, IsAtUnlockAll, KeptSplit}, Judge.{FindsStale, IsMadeReady, IsShort, MeetsOther}, Store.IsStore}
use Rattle.mt_insert.specs.{Fill.IsFill, Publish.{IsPublish, IsPublishFull}, SplitStart.{IsSplitStart, IsSplitStopped}, SplitMove.{IsSplitMove, IsSplitMoveFull}}
use Rattle.mt_insert.specs.{Climbs.{AreSame, IsClimbFrom}, Unlock.IsUnlockAll}
use Rattle.mt_held.specs.{Holds.{HoldsBorder, IsAtUnlock}, Unlock.{MeetsLink, IsUnlock}}
use Rattle.mt_layer.specs.{KeptLayers.{KeptLayer, IsAtLeave}, Builds.{IsLayerFrom, IsLeave}}
use Rattle.mt_remove.specs.{Judge.{FindsAbsent, IsMadeReady as IsReadyToDrop, IsShort as IsShortToDrop}, DropKey.IsDropKey}
use Rattle.mt_remove.specs.KeptRemovals.{HoldsRemoval, IsAmong as IsOfRemoval, IsAtDropKey, IsAtUnlockRemoval, IsCleaning, IsUnburdened, KeptRemoval}
use Rattle.mt_remove.specs.{Steps.IsRemovalFrom, Unlock.IsUnlockRemoval, Ways.{Follows, IsLockWay}, Writes.{IsRemoval, is_remove}}
use Rattle.mt_state.specs.Promises.{IsInTheWay}
use Rattle.mt_core.specs.Looks.{led_to}

-- what such a step may change beside its operation
pub record Parts : Type 0 where
  pub arena : ArenaView
  pub tape : Kept
  pub accounts : Accounts

abbrev pub parts : ArenaView → Kept → Accounts → Parts
parts arena tape accounts = record { arena = arena; tape = tape; accounts = accounts }

-- what is told of a step that was made
abbrev pub Telling : Type 1
Telling = Parts → Parts → Operation → Operation → Type 0

-- What a step makes. Where another operation is in its way, all is as it was; and so where memory is refused, but for what the splits have grown.
abbrev pub Writes : ℕ → Telling → Parts → Parts → Operation → Made → Operation → Type 0
Writes o Tells from to op Step after = Tells from to op after
Writes o Tells from to op (Blocked holder) after =
    IsInTheWay from.arena op.walk.phase op.walk (splits_of op.splits) op.removal (scan_of op.task op.scan) holder × (holder ≢ o) × (to ≡ from) × (after ≡ op)
Writes o Tells from to op NoMemory after = IsToGrow op.walk.phase × (to ≡ from) × AreSame op.splits after.splits × (after ≡ with_splits op after.splits)
Writes o Tells from to op Nothing after = ⊥

-- one that has only the nodes, and one that has the tape too
abbrev pub WritesNodes : ℕ → Telling → ArenaView → ArenaView → Operation → Made → Operation → Type 0
WritesNodes o Tells old new op made after = (tape : Kept) (accounts : Accounts) → Writes o Tells (parts old tape accounts) (parts new tape accounts) op made after

abbrev pub WritesTape : ℕ → Telling → ArenaView → ArenaView → Kept → Kept → Operation → Made → Operation → Type 0
WritesTape o Tells old new tape taped op made after = (accounts : Accounts) → Writes o Tells (parts old tape accounts) (parts new taped accounts) op made after

-- a step that is left to others
pub record IsLeft (from to : Parts) (op : Operation) (made : Made) (after : Operation) : Type 0 where
  pub none : made ≡ Nothing
  pub same : to ≡ from
  pub op_is : after ≡ op

-- an operation has walked on, by what the nodes have become, and has this outcome or none; all else of it is as it was, and so are tape and tenants
pub record WalksOn (told : Option Outcome) (from to : Parts) (op after : Operation) : Type 0 where
  pub others : after ≡ led_to op after.walk told
  pub rest : to ≡ record from { arena = to.arena }

-- this reply, which is right just after the step of this number
abbrev pub reply_at : ℕ → Reply → Option Outcome
reply_at step reply = Some (record { reply = reply; at = step })

-- it is to take the lock of its border node, on the way to its key or back to a link
pub record MayLock (o : ℕ) (v : ArenaView) (op : Operation) : Type 0 where
  pub phase : op.walk.phase ≡ Lock
  pub kept : IsAtBorder v op.task.key op.walk
  pub free : HoldsNothing v o
  pub cleaning : op.outcome ≢ None → IsCleaning v op.task.key op.removal

pub record Locks (o : ℕ) (from to : Parts) (op after : Operation) : Type 0 where
  pub untold : op.outcome ≡ None
  pub locks : IsLock o op.task.key from.arena to.arena op.walk after.walk
  pub on : WalksOn op.outcome from to op after

pub record LocksBack (o : ℕ) (from to : Parts) (op after : Operation) : Type 0 where
  pub told : op.outcome ≢ None
  pub locks : IsLockWay o op.task.key from.arena to.arena op.walk after.walk op.removal
  pub on : WalksOn op.outcome from to op after

abbrev pub TellsLocked : ℕ → Parts → Parts → Operation → Operation → Type 0
TellsLocked o from to op after = Locks o from to op after ⊎ LocksBack o from to op after

-- it is to look under its lock, for a put, for a removal, or for a link on its way back
pub record MayJudge (o : ℕ) (v : ArenaView) (op : Operation) : Type 0 where
  pub kept : HoldsBorder v o op.task.key op.walk
  pub puts : is_remove (ask op.task) ≡ false → op.outcome ≡ None → IsPut op.task
  pub removes : is_remove (ask op.task) ≡ true → IsRemoval op.task

-- all was made ready for its change
pub record MakesReady (IsReady : Prepared → Type 0) (from to : Parts) (op after : Operation) : Type 0 where
  pub prepared : Prepared
  pub ready : IsReady prepared
  pub accounts : to.accounts ≡ from.accounts
  pub others : after ≡ record op { walk = after.walk; prepared = Some prepared }

-- A put: all is ready; or another long key, or a link, stands in the place of its key. Or another stamp stands there than it asks for, or there is no memory.
pub record JudgesPut (o step : ℕ) (from to : Parts) (op after : Operation) : Type 0 where
  pub untold : op.outcome ≡ None
  pub stays : is_remove (ask op.task) ≡ false
  pub comes : MakesReady (IsMadeReady o op.task from.arena to.arena from.tape to.tape op.walk after.walk) from to op after
      ⊎ ((MeetsOther o op.task.key from.arena to.arena op.walk after.walk ⊎ MeetsLink o op.task.key from.arena to.arena op.walk after.walk) × WalksOn op.outcome from to op after)
      ⊎ ((stamp : ℕ) × FindsStale o op.task stamp from.arena to.arena op.walk after.walk × WalksOn (reply_at step (Stale stamp)) from to op after)
      ⊎ (IsShort o op.task from.arena to.arena op.walk after.walk × WalksOn (reply_at step NoMemoryReply) from to op after)

-- a removal: all is ready; or a link stands there; or the key is missing; or there is no memory
pub record JudgesRemoval (o step : ℕ) (from to : Parts) (op after : Operation) : Type 0 where
  pub untold : op.outcome ≡ None
  pub removes : is_remove (ask op.task) ≡ true
  pub comes : MakesReady (IsReadyToDrop o op.task from.arena to.arena from.tape to.tape op.walk after.walk) from to op after
      ⊎ (MeetsLink o op.task.key from.arena to.arena op.walk after.walk × WalksOn op.outcome from to op after)
      ⊎ (FindsAbsent o op.task from.arena to.arena op.walk after.walk × WalksOn (reply_at step Absent) from to op after)
      ⊎ (IsShortToDrop o op.task from.arena to.arena op.walk after.walk × WalksOn (reply_at step NoMemoryReply) from to op after)

-- one on its way back follows a link, or finds none
pub record JudgesBack (o : ℕ) (from to : Parts) (op after : Operation) : Type 0 where
  pub told : op.outcome ≢ None
  pub follows : Follows o op.task.key from.arena to.arena op.walk after.walk
  pub on : WalksOn op.outcome from to op after

abbrev pub TellsJudged : ℕ → ℕ → Parts → Parts → Operation → Operation → Type 0
TellsJudged o step from to op after = JudgesPut o step from to op after ⊎ JudgesRemoval o step from to op after ⊎ JudgesBack o from to op after

-- it is to place its change with what it has ready
pub record MayPlace (step : ℕ) (tape : Kept) (op : Operation) (IsAt : Prepared → Type 0) : Type 0 where
  pub has : op.prepared ≢ None
  pub kept : (prepared : Prepared) → op.prepared ≡ Some prepared → IsAt prepared
  pub room : 0 < tape.reserved
  pub later : last_write tape < step

-- by a put
pub record MayPut (step : ℕ) (tape : Kept) (op : Operation) (IsAt : Prepared → Type 0) : Type 0 where
  pub put : IsPut op.task
  pub place : MayPlace step tape op IsAt

-- it has, and this is its reply
pub record PlacesBy (step : ℕ) (reply : Reply) (IsPlaced : Prepared → Type 0) (op after : Operation) : Type 0 where
  pub prepared : Prepared
  pub has : op.prepared ≡ Some prepared
  pub placed : IsPlaced prepared
  pub others : after ≡ record op { walk = after.walk; prepared = None; outcome = reply_at step reply }

-- a row was written over the one that was there
pub record TellsStored (o step : ℕ) (from to : Parts) (op after : Operation) : Type 0 where
  pub was : Columns
  pub places : PlacesBy step Replaced (λ p. IsStore o step op.task p.row from.arena to.arena from.tape to.tape op.walk after.walk was) op after
  pub accounts : to.accounts ≡ from.accounts

-- it is to write the pair that it has ready into a free slot
pub record MayFill (o : ℕ) (v : ArenaView) (op : Operation) : Type 0 where
  pub has : op.prepared ≢ None
  pub kept : (prepared : Prepared) → op.prepared ≡ Some prepared → IsAtFill v o op.task prepared op.walk

-- it has, and what was ready is left without its pair
pub record TellsFilled (o : ℕ) (from to : Parts) (op after : Operation) : Type 0 where
  pub prepared : Prepared
  pub rest : Prepared
  pub has : op.prepared ≡ Some prepared
  pub fills : IsFill o op.task prepared rest from.arena to.arena op.walk after.walk
  pub only : to ≡ record from { arena = to.arena }
  pub others : after ≡ record op { walk = after.walk; prepared = Some rest }

-- the pair was made live, or the quota has no room for it
abbrev pub TellsPublished : ℕ → ℕ → Parts → Parts → Operation → Operation → Type 0
TellsPublished o step from to op after =
    PlacesBy step New (λ p. IsPublish o step op.task p.row from.arena to.arena from.tape to.tape from.accounts to.accounts op.walk after.walk) op after
    ⊎ PlacesBy step Full (λ p. IsPublishFull o op.task from.arena to.arena from.tape to.tape from.accounts to.accounts op.walk after.walk) op after

-- the keys were parted among the halves, with the new pair or without it
abbrev pub TellsParted : ℕ → ℕ → Parts → Parts → Operation → Operation → Type 0
TellsParted o step from to op after =
    PlacesBy step New (λ p. IsSplitMove o step op.task p.row from.arena to.arena from.tape to.tape from.accounts to.accounts op.walk after.walk op.splits) op after
    ⊎ PlacesBy step Full (λ p. IsSplitMoveFull o op.task from.arena to.arena from.tape to.tape from.accounts to.accounts op.walk after.walk op.splits) op after

-- the places that step `least` or an earlier one took out may be given out: nobody holds what stands there, and it may be used once more
pub record MayGive (least : ℕ) (v : ArenaView) : Type 0 where
  pub forgotten : AreForgotten least v
  pub renews : MayRenew least v

-- it is to make the right half of its full node; it has, or there was no memory for it
pub record MayBegin (o least : ℕ) (v : ArenaView) (tape : Kept) (op : Operation) : Type 0 where
  pub kept : (prepared : Prepared) × IsAtSplitStart v o op.task prepared op.walk
  pub none : IsUnsplit op.splits
  pub room : 0 < tape.reserved
  pub gives : MayGive least v

pub record Begins (o least : ℕ) (from to : Parts) (op after : Operation) : Type 0 where
  pub begins : IsSplitStart least o op.task.key from.arena to.arena from.tape to.tape op.walk after.walk op.splits after.splits
  pub accounts : to.accounts ≡ from.accounts
  pub others : after ≡ record op { walk = after.walk; splits = after.splits }

pub record StopsSplit (o step : ℕ) (from to : Parts) (op after : Operation) : Type 0 where
  pub stops : IsSplitStopped o from.arena to.arena from.tape to.tape op.walk after.walk after.splits
  pub accounts : to.accounts ≡ from.accounts
  pub others : after ≡ record op { walk = after.walk; splits = after.splits; prepared = None; outcome = reply_at step NoMemoryReply }

abbrev pub TellsBegun : ℕ → ℕ → ℕ → Parts → Parts → Operation → Operation → Type 0
TellsBegun o step least from to op after = Begins o least from to op after ⊎ StopsSplit o step from to op after

-- its right half is to come to its parent
pub record MayClimb (o least : ℕ) (v : ArenaView) (op : Operation) : Type 0 where
  pub phase : IsClimb op.walk.phase
  pub kept : KeptSplit op.walk.phase v o op.splits
  pub holds : HoldsSplits v o op.splits
  pub gives : MayGive least v

pub record TellsClimbed (o least : ℕ) (from to : Parts) (op after : Operation) : Type 0 where
  pub climbs : IsClimbFrom op.walk.phase least o from.arena to.arena op.walk after.walk op.splits after.splits
  pub rest : to ≡ record from { arena = to.arena }
  pub others : after ≡ record op { walk = after.walk; splits = after.splits }

-- it is to bring a layer nearer; it has, or there was no memory for the layer's tree, and it has given its lock back
pub record MayBuild (o least : ℕ) (v : ArenaView) (op : Operation) : Type 0 where
  pub phase : IsLayerPhase op.walk.phase
  pub kept : KeptLayer op.walk.phase v o op.task.key op.walk
  pub gives : MayGive least v

pub record Builds (o least : ℕ) (from to : Parts) (op after : Operation) : Type 0 where
  pub builds : IsLayerFrom op.walk.phase least o op.task.key from.arena to.arena op.walk after.walk
  pub on : WalksOn op.outcome from to op after

pub record StopsLayer (o step : ℕ) (from to : Parts) (op after : Operation) : Type 0 where
  pub phase : op.walk.phase ≡ MakeLayer
  pub unlocks : IsUnlock o from.arena to.arena op.walk after.walk
  pub on : WalksOn (reply_at step NoMemoryReply) from to op after

abbrev pub TellsBuilt : ℕ → ℕ → ℕ → Parts → Parts → Operation → Operation → Type 0
TellsBuilt o step least from to op after = Builds o least from to op after ⊎ StopsLayer o step from to op after

-- it is to take the pair of its key out
pub record MayDrop (o step : ℕ) (from : Parts) (op : Operation) : Type 0 where
  pub removal : IsRemoval op.task
  pub place : MayPlace step from.tape op (λ prepared. IsAtDropKey from.arena o op.task prepared op.walk)
  pub free : IsUnburdened op.removal
  pub counted : HasPairs (account_of from.accounts op.task.tenant)

pub record TellsDropped (o step : ℕ) (from to : Parts) (op after : Operation) : Type 0 where
  pub drops : IsDropKey o step op.task from.arena to.arena from.tape to.tape from.accounts to.accounts op.walk after.walk op.removal after.removal
  pub others : after ≡ record op { walk = after.walk; prepared = None; outcome = reply_at step Removed; removal = after.removal }

-- it is to bring an empty node or an empty layer nearer to its end; all that is out was taken out by this step or before
pub record MayTake (o step : ℕ) (v : ArenaView) (op : Operation) : Type 0 where
  pub phase : IsRemovalPhase op.walk.phase
  pub kept : KeptRemoval op.walk.phase v o op.task.key op.walk op.removal
  pub holds : HoldsRemoval v o op.walk op.removal
  pub upto : AreOutUpTo step v.retired

pub record TellsTaken (o step : ℕ) (from to : Parts) (op after : Operation) : Type 0 where
  pub takes : IsRemovalFrom op.walk.phase o step op.task.key from.arena to.arena op.walk after.walk op.removal after.removal
  pub rest : to ≡ record from { arena = to.arena }
  pub others : after ≡ record op { walk = after.walk; removal = after.removal }

-- It is to give its locks back: the one under which it has made a layer, those of all its splits, those of a removal, or the one of its border node.
pub record MayUnlock (o : ℕ) (v : ArenaView) (op : Operation) : Type 0 where
  pub leaves : op.outcome ≡ None → IsAtLeave v o op.task.key op.walk × CanUnlock (at v op.walk.place.node).version
  pub all : op.outcome ≢ None → op.splits.halves.items ≢ [] → IsAtUnlockAll v o op.splits × ((k : ℕ) → IsAmong op.splits k → CanUnlock (at v k).version)
  pub removal : op.outcome ≢ None → op.splits.halves.items ≡ [] → is_remove (ask op.task) ≡ true
      → IsAtUnlockRemoval v o op.task.key op.walk op.removal × ((k : ℕ) → IsOfRemoval op.walk op.removal k → CanUnlock (at v k).version)
  pub one : op.outcome ≢ None → op.splits.halves.items ≡ [] → is_remove (ask op.task) ≡ false → IsAtUnlock v o op.walk × CanUnlock (at v op.walk.place.node).version

-- it goes on in the tree of the layer
pub record Leaves (o : ℕ) (from to : Parts) (op after : Operation) : Type 0 where
  pub untold : op.outcome ≡ None
  pub leaves : IsLeave o from.arena to.arena op.walk after.walk
  pub on : WalksOn op.outcome from to op after

-- or it is done
pub record ReturnsAll (o : ℕ) (from to : Parts) (op after : Operation) : Type 0 where
  pub told : op.outcome ≢ None
  pub some : op.splits.halves.items ≢ []
  pub returns : IsUnlockAll o from.arena to.arena op.walk after.walk op.splits after.splits
  pub rest : to ≡ record from { arena = to.arena }
  pub others : after ≡ record op { walk = after.walk; splits = after.splits }

-- or done, or on its way back to a link
pub record ReturnsRemoval (o : ℕ) (from to : Parts) (op after : Operation) : Type 0 where
  pub told : op.outcome ≢ None
  pub none : op.splits.halves.items ≡ []
  pub removes : is_remove (ask op.task) ≡ true
  pub returns : IsUnlockRemoval o from.arena to.arena op.walk after.walk op.removal after.removal
  pub rest : to ≡ record from { arena = to.arena }
  pub others : after ≡ record op { walk = after.walk; removal = after.removal }

pub record ReturnsOne (o : ℕ) (from to : Parts) (op after : Operation) : Type 0 where
  pub told : op.outcome ≢ None
  pub none : op.splits.halves.items ≡ []
  pub stays : is_remove (ask op.task) ≡ false
  pub unlocks : IsUnlock o from.arena to.arena op.walk after.walk
  pub on : WalksOn op.outcome from to op after

abbrev pub TellsUnlocked : ℕ → Parts → Parts → Operation → Operation → Type 0
TellsUnlocked o from to op after = Leaves o from to op after ⊎ ReturnsAll o from to op after ⊎ ReturnsRemoval o from to op after ⊎ ReturnsOne o from to op after

-- an operation of this number may make the step of this number by its phase, and give out what step `least` or an earlier one took out; or it is left to others
abbrev pub MayWrite : Phase → ℕ → ℕ → ℕ → Parts → Operation → Type 0
MayWrite Lock o step least from op = MayLock o from.arena op
MayWrite Judge o step least from op = MayJudge o from.arena op
MayWrite Store o step least from op = MayPut step from.tape op (λ prepared. IsAtStore from.arena o op.task prepared op.walk)
MayWrite Fill o step least from op = MayFill o from.arena op
MayWrite Publish o step least from op = MayPut step from.tape op (λ prepared. IsAtPublish from.arena o op.task prepared op.walk)
MayWrite SplitStart o step least from op = MayBegin o least from.arena from.tape op
MayWrite SplitMove o step least from op = MayPut step from.tape op (λ prepared. IsAtSplitMove from.arena o op.task prepared op.walk op.splits)
MayWrite SplitPrev o step least from op = MayClimb o least from.arena op
MayWrite LockParent o step least from op = MayClimb o least from.arena op
MayWrite InsertChild o step least from op = MayClimb o least from.arena op
MayWrite InteriorSplit o step least from op = MayClimb o least from.arena op
MayWrite Reparent o step least from op = MayClimb o least from.arena op
MayWrite RootGrow o step least from op = MayClimb o least from.arena op
MayWrite MakeLayer o step least from op = MayBuild o least from.arena op
MayWrite MarkUnstable o step least from op = MayBuild o least from.arena op
MayWrite Link o step least from op = MayBuild o least from.arena op
MayWrite MarkLayer o step least from op = MayBuild o least from.arena op
MayWrite DropKey o step least from op = MayDrop o step from op
MayWrite LockPrev o step least from op = MayTake o step from.arena op
MayWrite LockAbove o step least from op = MayTake o step from.arena op
MayWrite Unlink o step least from op = MayTake o step from.arena op
MayWrite FixNext o step least from op = MayTake o step from.arena op
MayWrite Collapse o step least from op = MayTake o step from.arena op
MayWrite CleanLayer o step least from op = MayTake o step from.arena op
MayWrite Unlock o step least from op = MayUnlock o from.arena op
MayWrite _ o step least from op = Unit {0}

-- what it makes then
abbrev pub WritesAt : Phase → ℕ → ℕ → ℕ → Parts → Parts → Operation → Made → Operation → Type 0
WritesAt Lock o step least from to op made after = Writes o (TellsLocked o) from to op made after
WritesAt Judge o step least from to op made after = Writes o (TellsJudged o step) from to op made after
WritesAt Store o step least from to op made after = Writes o (TellsStored o step) from to op made after
WritesAt Fill o step least from to op made after = Writes o (TellsFilled o) from to op made after
WritesAt Publish o step least from to op made after = Writes o (TellsPublished o step) from to op made after
WritesAt SplitStart o step least from to op made after = Writes o (TellsBegun o step least) from to op made after
WritesAt SplitMove o step least from to op made after = Writes o (TellsParted o step) from to op made after
WritesAt SplitPrev o step least from to op made after = Writes o (TellsClimbed o least) from to op made after
WritesAt LockParent o step least from to op made after = Writes o (TellsClimbed o least) from to op made after
WritesAt InsertChild o step least from to op made after = Writes o (TellsClimbed o least) from to op made after
WritesAt InteriorSplit o step least from to op made after = Writes o (TellsClimbed o least) from to op made after
WritesAt Reparent o step least from to op made after = Writes o (TellsClimbed o least) from to op made after
WritesAt RootGrow o step least from to op made after = Writes o (TellsClimbed o least) from to op made after
WritesAt MakeLayer o step least from to op made after = Writes o (TellsBuilt o step least) from to op made after
WritesAt MarkUnstable o step least from to op made after = Writes o (TellsBuilt o step least) from to op made after
WritesAt Link o step least from to op made after = Writes o (TellsBuilt o step least) from to op made after
WritesAt MarkLayer o step least from to op made after = Writes o (TellsBuilt o step least) from to op made after
WritesAt DropKey o step least from to op made after = Writes o (TellsDropped o step) from to op made after
WritesAt LockPrev o step least from to op made after = Writes o (TellsTaken o step) from to op made after
WritesAt LockAbove o step least from to op made after = Writes o (TellsTaken o step) from to op made after
WritesAt Unlink o step least from to op made after = Writes o (TellsTaken o step) from to op made after
WritesAt FixNext o step least from to op made after = Writes o (TellsTaken o step) from to op made after
WritesAt Collapse o step least from to op made after = Writes o (TellsTaken o step) from to op made after
WritesAt CleanLayer o step least from to op made after = Writes o (TellsTaken o step) from to op made after
WritesAt Unlock o step least from to op made after = Writes o (TellsUnlocked o) from to op made after
WritesAt _ o step least from to op made after = IsLeft from to op made after
