-- What the step that places a put leaves of contents and tape.
use Rattle.std.specs.Prelude.{◌≡◌, ℕ}
use Rattle.mt_slices.specs.Slices.{slice_of, mark_of, suffix_of}
use Rattle.mt_rows.specs.Rows.{Bytes, Columns}
use Rattle.mt_border.specs.{declared.entry.Entry.Entry, Held.Stable}
use Rattle.mt_tape.specs.{Tapes.Kept, Histories.with_write}
use Rattle.mt_arena.specs.Arena.{ArenaView, content_of}
use Rattle.mt_operation.specs.declared.task.Task.{Task}
use Rattle.mt_held.specs.Taping.{pushed}
use Rattle.mt_insert.specs.Puts.{write_of}

-- the entry of a key with this row, placed by the step of this number
abbrev pub entry_of : Bytes → ℕ → Columns → ℕ → Entry
entry_of key layer row step = record {
  slice = slice_of key layer;
  mark = mark_of key layer;
  held = Stable (record { suffix = suffix_of key layer; row = row; stamp = step });
}

-- the step of this number places the put: its write is the one change of the contents, and the last one on the tape
pub record Places (task : Task) (step : ℕ) (old new : ArenaView) (was is : Kept) : Type 0 where
  pub contents : content_of new ≡ with_write (content_of old) (write_of task (content_of old) step)
  pub tape : is ≡ pushed was (write_of task (content_of old) step)
