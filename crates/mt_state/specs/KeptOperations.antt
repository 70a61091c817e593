-- What a state keeps of each operation, by its phase.
use Rattle.std.specs.{Prelude.{◌≡◌, ◌≢◌, ℕ, ◌≤◌, ◌<◌, Bool, true, false, List, [], ◌∷◌, Option, Some, None, IsSome}, List.Contains}
use Rattle.mt_slices.specs.Keys.{IsStoredKey, stored_key, tenant_of}
use Rattle.mt_rows.specs.{declared.command.Command.Command, declared.command.Command.TheVariants.Scan, Stamps.{Stamped, as_shown, stamp_in}}
use Rattle.mt_rows.specs.{Commands.{key_of, HasColumns, HasShortColumns, HasCount}, Accounts.account_of, Maps.is_scan}
use Rattle.mt_border.specs.Contents.{owned}
use Rattle.mt_tape.specs.{declared.entry.Entry.{Entry as TapeEntry}, Histories.after_of}
use Rattle.mt_arena.specs.{Arena.ArenaView, Accesses.at}
use Rattle.mt_operation.specs.{declared.phase.Phase.Phase, declared.phase.Phase.TheVariants.{Enter, Load, Confirm, Store, Fill, Unlock, Check, Hop}}
use Rattle.mt_operation.specs.{declared.walk.Taken.Taken, declared.walk.Taken.TheVariants.{Missing, Row, Link, Nothing}, declared.outcome.Outcome.Outcome}
use Rattle.mt_operation.specs.{declared.prepared.Prepared.Prepared, declared.operation.Operation.Operation, Phases.{IsOfKind, has_splits, is_done, Kind, row}}
use Rattle.mt_operation.specs.{Tasks.{ask, aim_of}, declared.splits.Halves.Halves, Operations.{ScanView, view_of, scan_of, no_scan, IsUnsplit, no_removal}}
use Rattle.mt_insert.specs.{Puts.{is_put, MeetsStamp}, KeptPuts.{IsAtStore, IsAtFill, IsAtPublish, IsAtSplitStart}, KeptSplits.{IsAtSplitMove, IsAtUnlockAll, KeptSplit}}
use Rattle.mt_descent.specs.{Pasts.Past, Seen.RangeStands, KeptWalks.{HasSlot, IsKept}}
use Rattle.mt_scan.specs.{Snaps.prefix_in, Hops.{IsAtCheck, KeptHop}}
use Rattle.mt_stretches.specs.Scanned.{HasScanned, HasSeen}
use Rattle.mt_held.specs.Holds.{HoldsBorder, IsAtUnlock}
use Rattle.mt_layer.specs.KeptLayers.{KeptLayer}
use Rattle.mt_remove.specs.{Writes.is_remove, KeptRemovals.{IsAtDropKey, IsAtUnlockRemoval, KeptRemoval, IsCleaning}}
use Rattle.mt_state.specs.{Written.{row_left, change_kept}, Views.{Core, shown, past_of}, Notes.{Says, columns_asked}, Steps.change_in, Promises.IsAnswer}
use Rattle.mt_rows.specs.declared.reply.Reply.TheVariants as replies
use Rattle.mt_operation.specs.Phases as kinds

-- what is kept of every operation: its key is one of its tenant's, which is there, and its command's, unless it is a scan, whose key is the fence that it has reached;
-- its numbers are those of steps made; its birth is before its first step; it has made one where it isn't at its beginning; and it remembers nothing of a removal
-- where it removes nothing
pub record IsOpenOperation (c : Core) (op : Operation) : Type 0 where
  pub stored : IsStoredKey op.task.key
  pub tenant_is : tenant_of op.task.key ≡ op.task.tenant
  pub owner : is_scan (ask op.task) ≡ false → owned op.task.key ≡ (op.task.tenant, key_of (ask op.task))
  pub columns : HasColumns (ask op.task)
  pub tenant : IsSome (account_of c.accounts op.task.tenant)
  pub aim : op.walk.aim ≡ aim_of (ask op.task)
  pub kind : IsOfKind op.walk.phase op.walk.aim
  pub order : op.walk.first ≤ op.last
  pub made : op.last ≤ c.steps
  pub born : op.birth ≤ c.steps
  pub birth : 0 < op.walk.first → op.birth < op.walk.first
  pub floor : 0 < op.walk.first → c.tape.floor < op.walk.first
  pub begun : op.walk.phase ≢ Enter → 0 < op.walk.first
  pub short : HasShortColumns (ask op.task)
  pub counts : HasCount (ask op.task)
  pub light : is_remove (ask op.task) ≡ false → op.removal ≡ no_removal

-- the outcome of a get, by what it took: that the key is missing, or the columns that it asks of the row
abbrev pub TellsTaken : Operation → Option Stamped → Taken → Type 0
TellsTaken op row Missing = Says op.outcome replies.Absent op.walk.right_at
TellsTaken op row Row =
    (had : Stamped) × (asked : List ℕ) × (row ≡ Some had) × (columns_asked (ask op.task) ≡ Some asked) × Says op.outcome (replies.Found (as_shown asked had)) op.walk.right_at
TellsTaken op row (Link tree) = op.outcome ≡ None
TellsTaken op row Nothing = op.outcome ≡ None

-- the outcome is there, and right
pub record HasAnswer (c : Core) (op : Operation) : Type 0 where
  pub outcome : Outcome
  pub told : op.outcome ≡ Some outcome
  pub right : IsAnswer (shown c) (view_of op) outcome
  pub unprepared : op.prepared ≡ None

-- a removal that has its outcome, and goes back to the link of a layer that it has left empty
pub record IsGoingBack (c : Core) (op : Operation) : Type 0 where
  pub removes : is_remove (ask op.task) ≡ true
  pub answer : HasAnswer c op
  pub cleans : IsCleaning c.arena op.task.key op.removal

-- before its change nothing is told of an operation, and it remembers nothing of a removal; behind it it goes back
abbrev pub IsBound : Option Outcome → Core → Operation → Type 0
IsBound None c op = op.removal ≡ no_removal
IsBound (Some told) c op = IsGoingBack c op

-- an operation that holds nothing, on its way to its key or back
pub record IsOnItsWay (c : Core) (op : Operation) : Type 0 where
  pub kept : IsKept c.arena (past_of c) op.task.key None op.walk
  pub bound : IsBound op.outcome c op
  pub unprepared : op.prepared ≡ None

-- a get that goes to load: where nobody made a step since, its slot has its key, or a link for it
pub record IsAtLoad (c : Core) (op : Operation) : Type 0 where
  pub way : IsOnItsWay c op
  pub found : op.last ≡ c.steps → HasSlot (at c.arena op.walk.place.node) op.walk.slot op.task.key op.walk.layer

-- a get that goes to confirm what it took
pub record IsAtConfirm (c : Core) (op : Operation) : Type 0 where
  pub row : Option Stamped
  pub kept : IsKept c.arena (past_of c) op.task.key row op.walk
  pub tells : TellsTaken op row op.walk.taken
  pub unprepared : op.prepared ≡ None

-- A scan that has seen the pairs of its border node, from its fence on, and is to compare the node's version: as long as the node's range stands, they were all
-- that some map of its tenant had on that stretch, after a step since its first one.
pub record IsChecking (c : Core) (op : Operation) : Type 0 where
  pub kept : IsAtCheck c.arena op.task.key op.walk op.scan.stop
  pub seen : RangeStands (at c.arena op.walk.place.node) op.walk.place.seen → HasSeen (past_of c) op.walk.first (prefix_in c.arena op.walk) (scan_of op.task op.scan)
  pub untold : op.outcome ≡ None
  pub unprepared : op.prepared ≡ None

-- one that has kept them, and goes on from its next fence
pub record IsHopping (c : Core) (op : Operation) : Type 0 where
  pub kept : KeptHop c.arena op.task.key op.walk op.scan.stop
  pub untold : op.outcome ≡ None
  pub unprepared : op.prepared ≡ None

-- an operation that holds its border node, to judge it
pub record IsJudging (c : Core) (o : ℕ) (op : Operation) : Type 0 where
  pub judges : HoldsBorder c.arena o op.task.key op.walk
  pub bound : IsBound op.outcome c op
  pub unprepared : op.prepared ≡ None

-- one that has all ready to write over its key's row; one that has all ready to make a pair; and one whose pair stands in a free slot
pub record IsStoring (c : Core) (o : ℕ) (op : Operation) : Type 0 where
  pub prepared : Prepared
  pub has : op.prepared ≡ Some prepared
  pub stores : IsAtStore c.arena o op.task prepared op.walk
  pub put : is_put (ask op.task) ≡ true
  pub untold : op.outcome ≡ None

pub record IsFilling (c : Core) (o : ℕ) (op : Operation) : Type 0 where
  pub prepared : Prepared
  pub has : op.prepared ≡ Some prepared
  pub fills : IsAtFill c.arena o op.task prepared op.walk
  pub put : is_put (ask op.task) ≡ true
  pub untold : op.outcome ≡ None

pub record IsPublishing (c : Core) (o : ℕ) (op : Operation) : Type 0 where
  pub prepared : Prepared
  pub has : op.prepared ≡ Some prepared
  pub publishes : IsAtPublish c.arena o op.task prepared op.walk
  pub put : is_put (ask op.task) ≡ true
  pub untold : op.outcome ≡ None

-- one that has all ready to make a pair, in a full node: before its right half is made, and before their keys are parted
pub record IsSplitStarting (c : Core) (o : ℕ) (op : Operation) : Type 0 where
  pub prepared : Prepared
  pub has : op.prepared ≡ Some prepared
  pub starts : IsAtSplitStart c.arena o op.task prepared op.walk
  pub put : is_put (ask op.task) ≡ true
  pub untold : op.outcome ≡ None

pub record IsSplitMoving (c : Core) (o : ℕ) (op : Operation) : Type 0 where
  pub prepared : Prepared
  pub has : op.prepared ≡ Some prepared
  pub moves : IsAtSplitMove c.arena o op.task prepared op.walk op.splits
  pub put : is_put (ask op.task) ≡ true
  pub untold : op.outcome ≡ None

-- one that has all ready to take its key's pair out
pub record IsDropping (c : Core) (o : ℕ) (op : Operation) : Type 0 where
  pub prepared : Prepared
  pub has : op.prepared ≡ Some prepared
  pub drops : IsAtDropKey c.arena o op.task prepared op.walk
  pub removes : is_remove (ask op.task) ≡ true
  pub light : op.removal ≡ no_removal
  pub untold : op.outcome ≡ None

-- one that removes nothing, whose keys are parted, and whose right halves come to their parents
pub record IsClimbing (c : Core) (o : ℕ) (op : Operation) (phase : Phase) : Type 0 where
  pub stays : is_remove (ask op.task) ≡ false
  pub climbs : KeptSplit phase c.arena o op.splits
  pub answer : HasAnswer c op

-- one that has taken the pair out, and takes the empty node out; or that takes an empty layer out
pub record IsUnlinking (c : Core) (o : ℕ) (op : Operation) (phase : Phase) : Type 0 where
  pub removes : is_remove (ask op.task) ≡ true
  pub kept : KeptRemoval phase c.arena o op.task.key op.walk op.removal
  pub answer : HasAnswer c op

-- what it may give back where nothing was split: its border node, and those of its removal
abbrev pub MayUnlockUnsplit : Bool → ArenaView → ℕ → Operation → Type 0
MayUnlockUnsplit true v o op = IsAtUnlockRemoval v o op.task.key op.walk op.removal
MayUnlockUnsplit false v o op = IsAtUnlock v o op.walk

-- what it may give back: that, or each node of the splits, where it removes nothing
abbrev pub MayUnlock : List Halves → ArenaView → ℕ → Operation → Type 0
MayUnlock [] v o op = MayUnlockUnsplit (is_remove (ask op.task)) v o op × IsUnsplit op.splits
MayUnlock (_ ∷ _) v o op = IsAtUnlockAll v o op.splits × (is_remove (ask op.task) ≡ false)

-- one that was placed, and holds its border node, with those of its removal, or the nodes of its splits
pub record IsUnlocking (c : Core) (o : ℕ) (op : Operation) : Type 0 where
  pub unlocks : MayUnlock op.splits.halves.items c.arena o op
  pub answer : HasAnswer c op

-- one that removes nothing, and makes a layer: nothing is told of it, and nothing made ready
pub record IsLayering (c : Core) (o : ℕ) (op : Operation) (phase : Phase) : Type 0 where
  pub stays : is_remove (ask op.task) ≡ false
  pub makes : KeptLayer phase c.arena o op.task.key op.walk
  pub light : op.removal ≡ no_removal
  pub untold : op.outcome ≡ None
  pub unprepared : op.prepared ≡ None

-- one that has made it, and goes on in its tree once it has given the lock back
pub record IsLeaving (c : Core) (o : ℕ) (op : Operation) : Type 0 where
  pub layering : IsLayering c o op Unlock
  pub unsplit : IsUnsplit op.splits

-- one that is to give its locks back, by its outcome: without one it has made a layer
abbrev pub IsReturning : Option Outcome → Core → ℕ → Operation → Type 0
IsReturning None c o op = IsLeaving c o op
IsReturning (Some told) c o op = IsUnlocking c o op

-- an operation that reads for a get, one that reads for a scan, and one that has all ready to write, by the phase
abbrev pub IsReadingAt : Phase → Core → Operation → Type 0
IsReadingAt Load c op = IsAtLoad c op
IsReadingAt Confirm c op = IsAtConfirm c op
IsReadingAt _ c op = IsOnItsWay c op

abbrev pub IsScanningAt : Phase → Core → Operation → Type 0
IsScanningAt Check c op = IsChecking c op
IsScanningAt Hop c op = IsHopping c op
IsScanningAt _ c op = IsOnItsWay c op

abbrev pub IsWritingAt : Phase → Core → ℕ → Operation → Type 0
IsWritingAt Store c o op = IsStoring c o op
IsWritingAt Fill c o op = IsFilling c o op
IsWritingAt _ c o op = IsPublishing c o op

-- what is kept of an operation by what its next step does
abbrev pub IsKeptFor : Kind → Phase → Core → ℕ → Operation → Type 0
IsKeptFor kinds.Descends p c o op = IsOnItsWay c op
IsKeptFor kinds.Locks p c o op = IsOnItsWay c op
IsKeptFor kinds.Reads p c o op = IsReadingAt p c op
IsKeptFor kinds.Scans p c o op = IsScanningAt p c op
IsKeptFor kinds.Judges p c o op = IsJudging c o op
IsKeptFor kinds.Writes p c o op = IsWritingAt p c o op
IsKeptFor kinds.Begins p c o op = IsSplitStarting c o op
IsKeptFor kinds.Splits p c o op = IsSplitMoving c o op
IsKeptFor kinds.Climbs p c o op = IsClimbing c o op p
IsKeptFor kinds.Layers p c o op = IsLayering c o op p
IsKeptFor kinds.Drops p c o op = IsDropping c o op
IsKeptFor kinds.Unlinks p c o op = IsUnlinking c o op p
IsKeptFor kinds.Cleans p c o op = IsUnlinking c o op p
IsKeptFor kinds.Returns p c o op = IsReturning op.outcome c o op
IsKeptFor kinds.Ends p c o op = HasAnswer c op

abbrev pub IsKeptAt : Phase → Core → ℕ → Operation → Type 0
IsKeptAt p c o op = IsKeptFor (row p).kind p c o op

-- A change that an operation has made has its entry in the tape, of its step, worker, tenant and key. The row after it is the one that the command leaves over
-- the one before. That one was there if it removes, and had the stamp that the command asks for, if it asks for one. Over a row that was there a put's entry keeps
-- the change.
pub record IsPlacedOnce (c : Core) (op : Operation) (step : ℕ) : Type 0 where
  pub entry : TapeEntry
  pub there : Contains c.tape.entries entry
  pub step_is : entry.step ≡ step
  pub worker : entry.worker ≡ op.task.worker
  pub tenant : entry.tenant ≡ op.task.tenant
  pub key_is : entry.key ≡ key_of (ask op.task)
  pub makes : after_of entry ≡ row_left entry.step (ask op.task) entry.before
  pub keeps : entry.change ≡ change_kept (ask op.task) entry.before
  pub was : is_remove (ask op.task) ≡ true → IsSome entry.before
  pub met : MeetsStamp (ask op.task) (stamp_in entry.before)

-- what a scan has done so far, by its command: it has walked its tenant's keys up to its fence, from its first step on
abbrev pub HasScannedFor : Command → Past → ℕ → ScanView → Type 0
HasScannedFor (Scan from after count columns) past first s = HasScanned past first from after count columns s
HasScannedFor _ past first s = Unit {0}

abbrev pub KeepsScan : Core → Operation → Type 0
KeepsScan c op = HasScannedFor (ask op.task) (past_of c) op.walk.first (scan_of op.task op.scan)

-- before its first step an operation has scanned nothing; from then on what a scan has done is kept, as long as it has a step left
pub record IsScanKept (c : Core) (op : Operation) : Type 0 where
  pub fresh : op.walk.first ≡ 0 → scan_of op.task op.scan ≡ no_scan (stored_key op.task.tenant (key_of (ask op.task))) (ask op.task)
  pub walked : 0 < op.walk.first → is_done op.walk.phase ≡ false → KeepsScan c op

-- all that is kept of the operation of an id, but for what it has scanned
pub record IsKeptOf (c : Core) (o : ℕ) (op : Operation) : Type 0 where
  pub always : IsOpenOperation c op
  pub kept : IsKeptAt op.walk.phase c o op
  pub unsplit : has_splits op.walk.phase ≡ false → IsUnsplit op.splits
  pub placed : (m : ℕ) → change_in (view_of op) ≡ Some m → IsPlacedOnce c op m
