-- The outcome of an operation: who sets it, and what it tells of the state that it was set in.
use Rattle.std.specs.{Prelude.{◌≡◌, ◌≢◌, ℕ, ◌+◌, ◌<◌, ◌≤◌, ◌⊎◌, List, Option, Some, None, length, Bool, true, false}, List.Contains}
use Rattle.mt_rows.specs.{declared.command.Command.Command, declared.command.Command.TheVariants.Get, declared.reply.Reply.Reply}
use Rattle.mt_rows.specs.{Commands.key_of, Rows.Bytes, Stamps.{Stamped, as_shown, stamp_in}}
use Rattle.mt_runs.specs.Scans.{Shown as ShownPairs}
use Rattle.mt_slices.specs.{Keys.stored_key, Slices.slice_of}
use Rattle.mt_border.specs.declared.entry.FoundKind.TheVariants.{Link}
use Rattle.mt_tape.specs.{declared.entry.Entry.{Entry as TapeEntry}, Histories.{written_key, after_of}}
use Rattle.mt_arena.specs.Accesses.{at}
use Rattle.mt_descent.specs.{Seen.Stands, KeptWalks.{GoesThrough, IsInSlot, HasSlot, walk_place}, WalkMoves.TakesOut}
use Rattle.mt_operation.specs.declared.phase.Phase.{Phase}
use Rattle.mt_operation.specs.declared.phase.Phase.TheVariants.{Enter, Search, Load, Confirm, Forward, Judge, Store, Publish, SplitStart, SplitMove, MakeLayer, DropKey, Unlock, Snap, Check, Hop, Done}
use Rattle.mt_operation.specs.{declared.walk.Taken.TheVariants.Row, declared.walk.Walk.Walk, declared.outcome.Outcome.Outcome, Operations.OperationView}
use Rattle.mt_operation.specs.Phases.{is_unplaced}
use Rattle.mt_state.specs.Views.{StateView, contents_of, map_of}
use Rattle.mt_insert.specs.Puts.{MeetsStamp}
use Rattle.mt_remove.specs.Writes.{is_remove}
use Rattle.std.specs.FinMap as pairs
use Rattle.mt_rows.specs.declared.reply.Reply.TheVariants as replies

-- the key that an operation is about, with its tenant
abbrev pub key_asked : OperationView → ℕ × Bytes
key_asked op = (op.tenant, key_of op.command)

-- the columns that a get asks
abbrev pub columns_asked : Command → Option (List ℕ)
columns_asked (Get key columns) = Some columns
columns_asked _ = None

-- an outcome of this reply, placed at this number
abbrev pub Says : Option Outcome → Reply → ℕ → Type 0
Says told reply m = told ≡ Some (record { reply = reply; at = m })

-- the border node of a walk, in the tree of the key's own first bytes, begins at the key or before it, and has in no slot the key, nor a link for it
pub record LacksKey (v : StateView) (w : Walk) (key : Bytes) : Type 0 where
  pub through : GoesThrough v.arena w.place.tree w.layer key
  pub there : w.place.node < length v.arena.nodes
  pub tree_is : (at v.arena w.place.node).tree ≡ w.place.tree
  pub border : (at v.arena w.place.node).level ≡ 0
  pub from : (at v.arena w.place.node).low ≤ slice_of key w.layer
  pub missing : (slot : ℕ) → HasSlot (at v.arena w.place.node) slot key w.layer → ⊥

-- the slot of a walk has a link for the key
pub record HasLink (v : StateView) (w : Walk) (key : Bytes) : Type 0 where
  pub there : w.place.node < length v.arena.nodes
  pub in_slot : IsInSlot (at v.arena w.place.node) w.slot key w.layer Link

-- a get that goes to confirm from its search: its key stood not where it looked, and Absent has this step's number
pub record NotesAbsent (old : StateView) (op : OperationView) (told : Option Outcome) : Type 0 where
  pub says : Says told replies.Absent (old.steps + 1)
  pub lacks : LacksKey old op.walk (stored_key op.tenant (key_of op.command))

-- A pair had this row at this step, and after each step from this number on, which is the get's first step, or a later one by which the row was written, as the
-- tape tells. The pair is that of the get's own key wherever nobody made a step since its search.
pub record StoodSince (old : StateView) (op : OperationView) (row : Stamped) (number : ℕ) : Type 0 where
  pub key : ℕ × Bytes
  pub there : pairs.get (contents_of old) key ≡ Some row
  pub made : number ≤ old.steps
  pub stood : (m : ℕ) → number ≤ m → pairs.get (map_of old key.0 m) key.1 ≡ Some row
  pub wrote : op.first < number
      → (entry : TapeEntry) × Contains old.tape.entries entry × (entry.step ≡ number) × (written_key entry ≡ key) × (after_of entry ≡ Some row)
  pub own : op.last ≡ old.steps → key ≡ key_asked op

-- the get's own key had this row after the step of this number
abbrev pub HadOwn : StateView → OperationView → Stamped → ℕ → Type 0
HadOwn old op row number = (number ≤ old.steps) × (pairs.get (map_of old op.tenant number) (key_of op.command) ≡ Some row)

-- What a load shows is what the get asks of the row in its slot. Where the slot is live, its pair had that row since the reply's number. Where it was dropped, it
-- was the row of the get's own key at that number, if the version stands that the search has seen.
pub record ShowsRow (old : StateView) (op : OperationView) (told : Option Outcome) : Type 0 where
  pub columns : List ℕ
  pub asked : columns_asked op.command ≡ Some columns
  pub row : Stamped
  pub number : ℕ
  pub says : Says told (replies.Found (as_shown columns row)) number
  pub from : TakesOut (at old.arena op.walk.place.node) op.walk (Some row) Row number
  pub since : op.first ≤ number
  pub live : walk_place old.arena op.walk < length (at old.arena op.walk.place.node).slots → StoodSince old op row number
  pub dropped : ¬ (walk_place old.arena op.walk < length (at old.arena op.walk.place.node).slots) → Stands (at old.arena op.walk.place.node) op.walk.place.seen
      → HadOwn old op row number

-- or it shows none, since it took a link, or somebody made a step since its search
pub record ShowsNone (old : StateView) (op : OperationView) (told : Option Outcome) : Type 0 where
  pub none : told ≡ None
  pub why : HasLink old op.walk (stored_key op.tenant (key_of op.command)) ⊎ (op.last ≢ old.steps)

-- memory stopped the operation at this step
abbrev pub IsStopped : StateView → Option Outcome → Type 0
IsStopped old told = Says told replies.NoMemory (old.steps + 1)

-- or the key that it removes was missing at this step
abbrev pub MissesKey : StateView → OperationView → Option Outcome → Type 0
MissesKey old op told = (is_remove op.command ≡ true) × Says told replies.Absent (old.steps + 1)

-- the stamp of what stands at an operation's key, 0 if nothing stands
abbrev pub stamp_there : StateView → OperationView → ℕ
stamp_there v op = stamp_in (pairs.get (contents_of v) (key_asked op))

-- or the key that it puts had another stamp at this step than the one that it asks for
pub record TellsStale (old : StateView) (op : OperationView) (told : Option Outcome) : Type 0 where
  pub stale : ¬ MeetsStamp op.command (stamp_there old op)
  pub says : Says told (replies.Stale (stamp_there old op)) (old.steps + 1)

-- one of these
abbrev pub IsEndedUntold : StateView → OperationView → Option Outcome → Type 0
IsEndedUntold old op told = IsStopped old told ⊎ MissesKey old op told ⊎ TellsStale old op told

-- An operation that ends as it judges was stopped, has missed its key or found another stamp, where it had no outcome. On its way back it has the one that it had.
abbrev pub EndsJudging : Option Outcome → StateView → OperationView → Option Outcome → Type 0
EndsJudging None old op told = IsEndedUntold old op told
EndsJudging (Some had) old op told = told ≡ op.outcome

-- an operation whose change is still to come has no outcome, and had none; any other keeps the one that it had
abbrev pub Keeps : Bool → Option Outcome → Option Outcome → Type 0
Keeps true had told = (told ≡ None) × (had ≡ None)
Keeps false had told = told ≡ had

-- a pair was made, or the quota had no room
abbrev pub IsJudged : StateView → Option Outcome → Type 0
IsJudged old told = Says told replies.New (old.steps + 1) ⊎ Says told replies.Full (old.steps + 1)

-- a scan that is done shows pairs, or was stopped
abbrev pub EndsScan : StateView → Option Outcome → Type 0
EndsScan old told = IsStopped old told ⊎ ((ps : ShownPairs) × Says told (replies.Pairs ps) (old.steps + 1))

-- the outcome after a step, by the phases before and after it: it is set by the step that looks or places, and by the last one of a scan, which has none before;
-- a get that goes on its way again has none; and every other step keeps it
abbrev pub Notes : StateView → OperationView → Phase → Phase → Option Outcome → Type 0
Notes old op Search Confirm told = NotesAbsent old op told
Notes old op Load Confirm told = ShowsRow old op told ⊎ ShowsNone old op told
Notes old op Load Done told = IsStopped old told
Notes old op Confirm Enter told = told ≡ None
Notes old op Confirm Forward told = told ≡ None
Notes old op Judge Done told = EndsJudging op.outcome old op told
Notes old op Store Unlock told = Says told replies.Replaced (old.steps + 1)
Notes old op Publish Unlock told = IsJudged old told
Notes old op SplitStart Done told = IsStopped old told
Notes old op SplitMove _ told = IsJudged old told
Notes old op MakeLayer Done told = IsStopped old told
Notes old op DropKey _ told = Says told replies.Removed (old.steps + 1)
Notes old op Snap Done told = IsStopped old told
Notes old op Check Done told = EndsScan old told
Notes old op Check _ told = Keeps true op.outcome told
Notes old op Hop _ told = Keeps true op.outcome told
Notes old op _ q told = Keeps (is_unplaced q) op.outcome told
