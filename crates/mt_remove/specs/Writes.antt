-- What a removal writes: the write of it for the tape.
use Rattle.std.specs.Prelude.{◌≡◌, ℕ, Bool, true, false, Some, None}
use Rattle.mt_rows.specs.{declared.command.Command.Command, declared.command.Command.TheVariants.Remove, Commands.key_of, Stamps.Stamped}
use Rattle.mt_border.specs.{Held.Held, Held.Pair, Entry.pair_of, Contents.{owned, row_of}}
use Rattle.mt_tape.specs.declared.entry.Entry.{Entry as Write}
use Rattle.mt_operation.specs.{declared.task.Task.Task, declared.prepared.Prepared.Prepared, Tasks.ask}

abbrev pub is_remove : Command → Bool
is_remove (Remove key) = true
is_remove _ = false

-- a removal, whose stored key is that of its tenant and its user's key
pub record IsRemoval (task : Task) : Type 0 where
  pub is : ask task ≡ Remove (key_of (ask task))
  pub owner : owned task.key ≡ (task.tenant, key_of (ask task))

-- its write over this row, by the step of this number: the key has no row after it
abbrev pub removal_over : Task → Stamped → ℕ → Write
removal_over task before step = record {
  step = step;
  worker = task.worker;
  tenant = task.tenant;
  key = key_of (ask task);
  before = Some before;
  after = None;
  change = None;
}

-- what is made ready for the step that places it: the write of it, still without its number
abbrev pub IsReady : Task → Stamped → Prepared → Type 0
IsReady task before prepared = prepared.write ≡ removal_over task before 0

-- that is so of the row of the slot which holds this
abbrev pub ReadyIn : Held → Task → Prepared → Type 0
ReadyIn held task prepared = (pair : Pair) → pair_of held ≡ Some pair → IsReady task (row_of pair) prepared
