-- What a tidying leaves.
use Rattle.std.specs.{Prelude.{◌≡◌, ℕ, ◌-◌, ◌<◌, ◌≤◌, Box, List, Some, None, vec_len, vec_capacity}, List.All, Global.Global}
use Rattle.mt_tape.specs.Tapes.{later_entries, HandsOut}
use Rattle.mt_operation.specs.{Operations.{OperationView, IsUnsplit}, Tables.{Table, op_at as operation_at}, declared.operation.Operation.Operation}
use Rattle.mt_core.specs.declared.displaced.Displaced.{Displaced}
use Rattle.mt_state.specs.{Views.{StateView, Shown, op_at, map_of, changed_at}, Phases.key_sought}

-- every operation that has made a step made its first one after this number
abbrev pub IsBeforeFirsts : Shown → ℕ → Type 0
IsBeforeFirsts table floor = (o : ℕ) (op : OperationView) → op_at table o ≡ Some op → 0 < op.first → floor < op.first

-- a tape over this floor goes back before the first step of each operation, and up to where each log was given its changes
pub record IsFloorFor (table : Shown) (logs : List ℕ) (steps floor : ℕ) : Type 0 where
  pub made : floor ≤ steps
  pub before : IsBeforeFirsts table floor
  pub given : All (λ m. floor ≤ m) logs

-- the floor that a tape needs: the greatest such number
pub record IsFloorNeeded (table : Shown) (logs : List ℕ) (steps floor : ℕ) : Type 0 where
  pub floors : IsFloorFor table logs steps floor
  pub greatest : (n : ℕ) → IsFloorFor table logs steps n → n ≤ floor

-- nothing but the tape's first writes is gone: every map from its floor on stands, and so does every change after it
pub record Leaves (old new : StateView) : Type 0 where
  pub steps : new.steps ≡ old.steps
  pub answers : new.answers ≡ old.answers
  pub logs : new.logs ≡ old.logs
  pub accounts : new.accounts ≡ old.accounts
  pub arena : new.arena ≡ old.arena
  pub table : new.table ≡ old.table
  pub reserved : new.tape.reserved ≡ old.tape.reserved
  pub rises : old.tape.floor ≤ new.tape.floor
  pub entries : new.tape.entries ≡ later_entries new.tape.floor old.tape.entries
  pub maps : (t m : ℕ) → new.tape.floor ≤ m → map_of new t m ≡ map_of old t m
  pub changes : (m : ℕ) → new.tape.floor < m → changed_at new m ≡ changed_at old m

-- a tidying: the tape begins at the floor that it needs
pub record Tidies (old new : StateView) : Type 0 where
  pub leaves : Leaves old new
  pub needed : IsFloorNeeded old.table old.logs old.steps new.tape.floor

-- a tidying that hands the writes out to a list, up to that floor or till its room is used up
pub record TidiesInto (old new : StateView) (before after : Displaced) : Type 0 where
  pub leaves : Leaves old new
  pub floor : ℕ
  pub needed : IsFloorNeeded old.table old.logs old.steps floor
  pub hands_out : HandsOut floor old.tape new.tape before.writes.items after.writes.items (vec_capacity before.writes - vec_len before.writes)
  pub rest : after.rest ≡ before.rest

-- a take that hands out the rest of its operation, in the place of any other: the key that it looked for, and what it has scanned and does not show, with
-- nothing ready and nothing split, as a finished operation is, and without the outcome, which is told
pub record HandsOutRest (table : Shown) (o : ℕ) (before after : Displaced) : Type 0 where
  pub op : OperationView
  pub there : op_at table o ≡ Some op
  pub rest : Box Operation Global
  pub is : after.rest ≡ Some rest
  pub key : rest.value.task.key ≡ key_sought op
  pub untold : rest.value.outcome ≡ None
  pub unprepared : rest.value.prepared ≡ None
  pub unsplit : IsUnsplit rest.value.splits
  pub collected : rest.value.scan.collected.items ≡ op.scan.collected
  pub seen : rest.value.scan.seen ≡ op.scan.seen
  pub writes : after.writes ≡ before.writes

-- an operation of which the command and the outcome were taken out
abbrev pub IsRestOf : Operation → Operation → Type 0
IsRestOf op rest = rest ≡ record op { task = record op.task { request = rest.task.request }; outcome = None }

-- inside it is all that the operation had but these
pub record DisplacesRest (op : Operation) (before after : Displaced) : Type 0 where
  pub rest : Box Operation Global
  pub is : after.rest ≡ Some rest
  pub all : IsRestOf op rest.value
  pub writes : after.writes ≡ before.writes

-- of the operation that is there
abbrev pub DisplacesRestOf : Table → ℕ → Displaced → Displaced → Type 0
DisplacesRestOf table o before after = (op : Operation) → operation_at table o ≡ Some op → DisplacesRest op before after
