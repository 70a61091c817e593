-- The states that the steps leave of an operation that locks or writes, or scans.
use Rattle.std.specs.Prelude.{Option, Some, slice_set, ℕ, ◌+◌}
use Rattle.mt_rows.specs.Accounts.{Accounts}
use Rattle.mt_tape.specs.Tapes.{Kept}
use Rattle.mt_arena.specs.Arena.{ArenaView}
use Rattle.mt_operation.specs.{declared.walk.Walk.Walk, declared.outcome.Outcome.Outcome, declared.prepared.Prepared.Prepared}
use Rattle.mt_operation.specs.{declared.operation.Operation.Operation, declared.splits.Splits.Splits, declared.scan.Scan.Scan, declared.task.Task.Task}
use Rattle.mt_operation.specs.{Operations.moved, declared.removal.Removal.Removal}
use Rattle.mt_state.specs.Views.{Core}

-- a state in which operation o has walked on by one more step, with this outcome and what it has made ready, and with another arena, tape and accounts
abbrev pub wrote : Core → ArenaView → Kept → Accounts → ℕ → Operation → Walk → Option Outcome → Option Prepared → Core
wrote c arena tape accounts o op w told prepared = record c {
  steps = c.steps + 1;
  accounts = accounts;
  arena = arena;
  tape = tape;
  table = slice_set c.table o (Some (record (moved op (c.steps + 1) w) { outcome = told; prepared = prepared }));
}

-- a state in which operation o has walked on by one more step with these splits, and with another outcome, arena, tape and accounts
abbrev pub splitting : Core → ArenaView → Kept → Accounts → ℕ → Operation → Walk → Option Outcome → Option Prepared → Splits → Core
splitting c arena tape accounts o op w told prepared splits = record c {
  steps = c.steps + 1;
  accounts = accounts;
  arena = arena;
  tape = tape;
  table = slice_set c.table o (Some (record (moved op (c.steps + 1) w) { outcome = told; prepared = prepared; splits = splits }));
}

-- a state in which operation o has walked on by one more step with this of its removal, and with another outcome, arena, tape and accounts
abbrev pub removing : Core → ArenaView → Kept → Accounts → ℕ → Operation → Walk → Option Outcome → Option Prepared → Removal → Core
removing c arena tape accounts o op w told prepared removal = record c {
  steps = c.steps + 1;
  accounts = accounts;
  arena = arena;
  tape = tape;
  table = slice_set c.table o (Some (record (moved op (c.steps + 1) w) { outcome = told; prepared = prepared; removal = removal }));
}

-- a state in which operation o, a scan, has walked on by one more step with this task, whose key is the fence that it has reached, with this of what it remembers,
-- and with this outcome or none, and all else is as it was
abbrev pub scanned : Core → ℕ → Operation → Task → Walk → Scan → Option Outcome → Core
scanned c o op task w scan told = record c {
  steps = c.steps + 1;
  table = slice_set c.table o (Some (record (moved op (c.steps + 1) w) { task = task; scan = scan; outcome = told }));
}
