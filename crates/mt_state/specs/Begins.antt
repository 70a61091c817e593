-- A new state, and what a begin and a take make of a state.
use Rattle.std.specs.Prelude.{◌≡◌, ◌≢◌, ℕ, ◌+◌, ◌<◌, max, true, [], replicate, Some, None, slice_set}
use Rattle.mt_rows.specs.{declared.command.Command.Command, declared.tenants.Account.Account, Accounts.{Accounts, account_of}, Commands.key_of}
use Rattle.mt_slices.specs.Keys.{stored_key}
use Rattle.mt_runs.specs.declared.event.Answer.{Answer}
use Rattle.mt_arena.specs.Accesses.{new_arena}
use Rattle.mt_operation.specs.{declared.phase.Phase.TheVariants.{Enter, Done}, Walks.walk_from_top, Operations.{OperationView, no_splits, no_removal, no_scan}}
use Rattle.mt_operation.specs.{Tasks.aim_of, Phases.is_done}
use Rattle.mt_state.specs.{Views.{StateView, Shown, op_at}, Promises.IsAnswer}

-- a state in which nothing has happened, for so many logs
abbrev pub new_state : ℕ → Accounts → StateView
new_state logs accounts = record {
  steps = 0;
  answers = 0;
  logs = replicate logs 0;
  accounts = accounts;
  arena = new_arena;
  tape = record { entries = []; floor = 0; reserved = 0 };
  table = [];
}

-- no tenant has a pair
abbrev pub HaveNoPairs : Accounts → Type 0
HaveNoPairs accounts = (t : ℕ) (a : Account) → account_of accounts t ≡ Some a → a.count ≡ 0

-- a worker is one of those that so many logs have, or the only one where no logs are kept
abbrev pub IsWorker : ℕ → ℕ → Type 0
IsWorker logs worker = worker < max logs 1

-- an operation before its first step, begun after so many steps
abbrev pub begun : ℕ → ℕ → Command → ℕ → OperationView
begun worker tenant command birth = record {
  worker = worker;
  tenant = tenant;
  command = command;
  birth = birth;
  first = 0;
  last = 0;
  phase = Enter;
  outcome = None;
  walk = walk_from_top (aim_of command) 0;
  splits = no_splits;
  removal = no_removal;
  scan = no_scan (stored_key tenant (key_of command)) command;
}

-- an operation more, at an id that was free, with the number of steps made for its birth; all else is as it was
pub record Begins (old new : StateView) (o worker tenant : ℕ) (command : Command) : Type 0 where
  pub free : op_at old.table o ≡ None
  pub there : op_at new.table o ≡ Some (begun worker tenant command old.steps)
  pub others : (q : ℕ) → q ≢ o → op_at new.table q ≡ op_at old.table q
  pub stands : new ≡ record old { table = new.table }

-- the answer is that of an operation that is finished
pub record IsAnswerOf (op : OperationView) (answer : Answer) : Type 0 where
  pub finished : op.phase ≡ Done
  pub told : op.outcome ≡ Some (record { reply = answer.reply; at = answer.at })
  pub command : answer.command ≡ op.command
  pub first : answer.first ≡ op.first
  pub last : answer.last ≡ op.last

-- the operation is gone, with its answer, which is right by the maps that the state keeps; one more answer was taken, and all else is as it was
pub record Takes (old new : StateView) (o : ℕ) (answer : Answer) : Type 0 where
  pub op : OperationView
  pub there : op_at old.table o ≡ Some op
  pub told : IsAnswerOf op answer
  pub right : IsAnswer old op (record { reply = answer.reply; at = answer.at })
  pub gone : new ≡ record old { answers = old.answers + 1; table = slice_set old.table o None }

-- the operation is there, and no step of it is left
abbrev pub IsEnded : Shown → ℕ → Type 0
IsEnded table o = (op : OperationView) × (op_at table o ≡ Some op) × (is_done op.phase ≡ true)
