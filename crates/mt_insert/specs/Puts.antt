-- What a put writes: the row that it makes of the one that stands there, and the write of it for the tape; and over which stamp it may write.
use Rattle.std.specs.{Prelude.{◌≡◌, ℕ, Bool, true, false, [], Option, Some}, Option.{is_none, option_map}, FinMap.get}
use Rattle.mt_rows.specs.{declared.command.Command.Command, declared.command.Command.TheVariants.{Put, PutIf}, Rows.Columns, Changes.{Named, changed}}
use Rattle.mt_rows.specs.{Commands.key_of, Stamps.{Stamped, columns_in, stamp_in}, Tenants.Contents}
use Rattle.mt_border.specs.Contents.{owned}
use Rattle.mt_tape.specs.declared.entry.Entry.{Entry as Write}
use Rattle.mt_operation.specs.{declared.task.Task.Task, declared.prepared.Prepared.Prepared, Tasks.ask}

-- what a put writes; other commands write nothing
abbrev pub change_of : Command → Named
change_of (Put key change) = change
change_of (PutIf key stamp change) = change
change_of _ = []

abbrev pub is_put : Command → Bool
is_put (Put key change) = true
is_put (PutIf key stamp change) = true
is_put _ = false

-- a command may be placed where this stamp stands, 0 for no row: a put that asks for a stamp, where that one stands
abbrev pub MeetsStamp : Command → ℕ → Type 0
MeetsStamp (PutIf key stamp change) standing = standing ≡ stamp
MeetsStamp _ standing = Unit {0}

-- a put, whose stored key is that of its tenant and its user's key
pub record IsPut (task : Task) : Type 0 where
  pub put_is : is_put (ask task) ≡ true
  pub owner : owned task.key ≡ (task.tenant, key_of (ask task))

-- the row that a put makes of this one, or of none
abbrev pub row_over : Task → Option Stamped → Columns
row_over task before = changed (change_of (ask task)) (columns_in before)

-- its write over this row, or over none, by the step of this number: where a row stood, it keeps the change
abbrev pub write_over : Task → Option Stamped → ℕ → Write
write_over task before step = record {
  step = step;
  worker = task.worker;
  tenant = task.tenant;
  key = key_of (ask task);
  before = before;
  after = Some (row_over task before);
  change = option_map (λ was. change_of (ask task)) before;
}

-- its write over what the contents have at its key
abbrev pub write_of : Task → Contents → ℕ → Write
write_of task contents step = write_over task (get contents (owned task.key)) step

-- What is made ready for the step that places a put, which may write over this stamp. It is the row that the put makes of this one, or the pair of a
-- row that it makes of none. And it is the write of it, still without its number.
pub record IsReady (task : Task) (before : Option Stamped) (prepared : Prepared) : Type 0 where
  pub met : MeetsStamp (ask task) (stamp_in before)
  pub row : prepared.row ≡ row_over task before
  pub write : prepared.write ≡ write_over task before 0
  pub whole : prepared.whole ≡ true
  pub paired : prepared.paired ≡ is_none before

-- and what is left of it once its pair stands in a slot
pub record IsLeft (task : Task) (before : Option Stamped) (prepared : Prepared) : Type 0 where
  pub met : MeetsStamp (ask task) (stamp_in before)
  pub row : prepared.row ≡ row_over task before
  pub write : prepared.write ≡ write_over task before 0
