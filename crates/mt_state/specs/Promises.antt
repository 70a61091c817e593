-- What a step may do, and what it answers.
use Rattle.std.specs.Prelude.{◌≡◌, ◌≢◌, ℕ, ◌+◌, ◌^◌, ◌<◌, ◌≤◌, ◌⊎◌, Bool, true, false, [], ◌∷◌, ◌++◌, Option, Some, None, IsSome, length, slice_set}
use Rattle.std.specs.Option.{option_map}
use Rattle.mt_rows.specs.{declared.reply.Reply.Reply, Commands.key_of, Maps.{reply_of, is_change, is_no_memory, is_scan}, Tenants.tenant_map}
use Rattle.mt_insert.specs.KeptSplits.{last_half}
use Rattle.mt_tape.specs.declared.entry.Entry.{Entry as TapeEntry}
use Rattle.mt_runs.specs.{Placings.maps_after_one, Scans.IsLawfulScan}
use Rattle.mt_walks.specs.Walked.{IsWithin}
use Rattle.mt_arena.specs.{NodeView.NodeView, Arena.ArenaView, Forests.tree_at, Accesses.at}
use Rattle.mt_operation.specs.{declared.phase.Phase.Phase, declared.walk.Walk.Walk, declared.removal.Removal.Removal, declared.outcome.Outcome.Outcome}
use Rattle.mt_operation.specs.Operations.{OperationView, SplitsView, ScanView}
use Rattle.mt_operation.specs.Phases.{Waiting, Never, RootMark, ChildMark, OwnMark, NextMark, OwnSlot, ReadSlot, OwnLock, ParentLock, BeforeLock, AboveLock, BelowLock, row, is_done, IsToGrow}
use Rattle.mt_descent.specs.WalkMoves.{IsBlocked, IsBlockedAt}
use Rattle.mt_scan.specs.Snaps.{IsBlockedAmong}
use Rattle.mt_state.specs.{declared.moves.Move.Move, declared.moves.Move.TheVariants.{Moved, Again, NoMemory as NoMemoryMove, Done as DoneMove, Spent, NoSuch}}
use Rattle.mt_state.specs.{Views.{StateView, contents_of, op_at, map_of, quota_of, KeepsPast, IsPlaced}, Steps.{HasMoved, change_in}, Notes.{key_asked, Notes}}
use Rattle.mt_state.specs.{Growth.MakesFew, Given.ChangesArena, Written.row_left, Touches.Touches}
use Rattle.std.specs.FinMap as pairs

-- nothing of contents and tape changes, and the operation has made no other change
pub record IsQuiet (old new : StateView) (before after : OperationView) : Type 0 where
  pub contents : contents_of new ≡ contents_of old
  pub entries : new.tape.entries ≡ old.tape.entries
  pub change : change_in after ≡ change_in before

-- The step makes exactly its command's change: on its tenant's map, where its key has the row that the command leaves over the one before, with one
-- entry of the tape, of this step's number.
pub record IsPlacing (old new : StateView) (before after : OperationView) : Type 0 where
  pub reply : Reply
  pub told : reply ≡ reply_of (quota_of old before.tenant) before.command (tenant_map before.tenant (contents_of old))
  pub changes : is_change reply ≡ true
  pub outcome : after.outcome ≡ Some (record { reply = reply; at = old.steps + 1 })
  pub makes : (t : ℕ)
      → tenant_map t (contents_of new) ≡ maps_after_one (quota_of old) (old.steps + 1) (Some (record { tenant = before.tenant; command = before.command })) (λ u. tenant_map u (contents_of old)) t
  pub writes : pairs.get (contents_of new) (key_asked before) ≡ row_left (old.steps + 1) before.command (pairs.get (contents_of old) (key_asked before))
  pub entry : TapeEntry
  pub pushes : new.tape.entries ≡ old.tape.entries ++ entry ∷ []
  pub step : entry.step ≡ old.steps + 1
  pub worker : entry.worker ≡ before.worker
  pub tenant : entry.tenant ≡ before.tenant
  pub key_is : entry.key ≡ key_of before.command

-- A finished operation's reply is right at a number from the operation's first step to its last, unless memory stopped the operation; a scan's pairs are lawful
-- by the maps that its tenant had from its first step to its last.
pub record IsAnswer (v : StateView) (op : OperationView) (told : Outcome) : Type 0 where
  pub begun : 0 < op.first
  pub since : op.first ≤ told.at
  pub upto : told.at ≤ op.last
  pub placed : is_no_memory told.reply ≡ false → is_scan op.command ≡ false → IsPlaced v op.tenant op.command told.at told.reply
  pub lawful : IsLawfulScan (map_of v op.tenant) (IsWithin op.first op.last) op.command told.reply

-- a numbered step of operation o: it moves on by one phase, and all other operations stand; the maps just after it are those of now
pub record IsStep (old new : StateView) (o : ℕ) (done : Bool) : Type 0 where
  pub before : OperationView
  pub after : OperationView
  pub there : op_at old.table o ≡ Some before
  pub unfinished : is_done before.phase ≡ false
  pub moves : HasMoved before after (old.steps + 1)
  pub notes : Notes old before before.phase after.phase after.outcome
  pub table : new.table ≡ slice_set old.table o (Some after)
  pub number : new.steps ≡ old.steps + 1
  pub answers : new.answers ≡ old.answers
  pub logs : new.logs ≡ old.logs
  pub grows : KeepsPast old new
  pub arena : ChangesArena old o new.arena
  pub touches : Touches before o old.arena new.arena
  pub effect : IsQuiet old new before after ⊎ IsPlacing old new before after
  pub ends : done ≡ is_done after.phase
  pub answer : done ≡ true → (told : Outcome) × (after.outcome ≡ Some told) × IsAnswer new after told
  pub present : (t : ℕ) → map_of new t new.steps ≡ tenant_map t (contents_of new)
  pub floor : new.tape.floor ≡ old.tape.floor
  pub makes : MakesFew old.arena new.arena

-- the operation is there, and a step of it is left
abbrev pub HasStep : StateView → ℕ → Type 0
HasStep v o = (op : OperationView) × (op_at v.table o ≡ Some op) × (is_done op.phase ≡ false)

-- the node that a step reads or locks for which it may have to wait
abbrev pub node_needed : Waiting → ArenaView → Walk → SplitsView → Removal → Option ℕ
node_needed Never v w s r = None
node_needed RootMark v w s r = Some (tree_at v.trees w.place.tree).root
node_needed ChildMark v w s r = Some w.child
node_needed OwnMark v w s r = Some w.place.node
node_needed OwnSlot v w s r = Some w.place.node
node_needed ReadSlot v w s r = Some w.place.node
node_needed NextMark v w s r = w.next
node_needed OwnLock v w s r = Some w.place.node
node_needed ParentLock v w s r = (at v (last_half s).left).parent
node_needed BeforeLock v w s r = (at v w.place.node).previous
node_needed AboveLock v w s r = (at v w.place.node).parent
node_needed BelowLock v w s r = option_map (λ tree. (tree_at v.trees tree).root) r.cleans

-- how that node is in the way: by its lock, where it is to be locked; by an unstable slot, where that is to be loaded, or is among those that a scan reads;
-- else by its mark; each is its holder's
abbrev pub BlocksBy : Waiting → NodeView → Walk → ScanView → ℕ → Type 0
BlocksBy OwnLock n w g holder = n.holder ≡ Some holder
BlocksBy ParentLock n w g holder = n.holder ≡ Some holder
BlocksBy BeforeLock n w g holder = n.holder ≡ Some holder
BlocksBy AboveLock n w g holder = n.holder ≡ Some holder
BlocksBy BelowLock n w g holder = n.holder ≡ Some holder
BlocksBy OwnSlot n w g holder = IsBlockedAt n w.slot holder
BlocksBy ReadSlot n w g holder = IsBlockedAmong n g w.layer holder
BlocksBy _ n w g holder = IsBlocked n holder

-- the same of the step of a phase
abbrev pub needed_node : Phase → ArenaView → Walk → SplitsView → Removal → Option ℕ
needed_node p v w s r = node_needed (row p).waits v w s r

abbrev pub Blocks : Phase → NodeView → Walk → ScanView → ℕ → Type 0
Blocks p n w g holder = BlocksBy (row p).waits n w g holder

-- who is in the way of the next step of an operation
abbrev pub IsInTheWay : ArenaView → Phase → Walk → SplitsView → Removal → ScanView → ℕ → Type 0
IsInTheWay v phase w s r g holder = (k : ℕ) × (needed_node phase v w s r ≡ Some k) × (k < length v.nodes) × Blocks phase (at v k) w g holder

-- another operation, which has a step left, is in the way
pub record IsHeldByOther (v : StateView) (o holder : ℕ) : Type 0 where
  pub other : holder ≢ o
  pub unfinished : HasStep v holder
  pub op : OperationView
  pub there : op_at v.table o ≡ Some op
  pub holds : IsInTheWay v.arena op.phase op.walk op.splits op.removal op.scan holder

-- the operation has been placed, or has found its quota full, and is to make a node
pub record IsPlacedToGrow (v : StateView) (o : ℕ) : Type 0 where
  pub op : OperationView
  pub there : op_at v.table o ≡ Some op
  pub grows : IsToGrow op.phase
  pub told : IsSome op.outcome

-- what a step may answer
abbrev pub Tells : StateView → StateView → ℕ → Move → Type 0
Tells old new o Moved = IsStep old new o false
Tells old new o DoneMove = IsStep old new o true
Tells old new o (Again holder) = (new ≡ old) × HasStep old o × IsHeldByOther old o holder
Tells old new o Spent = (new ≡ old) × HasStep old o × (old.steps ≡ 2 ^ 59)
Tells old new o NoSuch = (new ≡ old) × ¬ HasStep old o
Tells old new o NoMemoryMove = (new ≡ old) × IsPlacedToGrow old o
