-- What a placing step writes, as the contents and the tape have it: for `store`, `publish` and the law on the tape.
use Rattle.std.{proofs.Common.{◌≡◌, ℕ, Option, sym, ap, ◌∙◌}, specs.FinMap.{get, insert}}
use Rattle.mt_rows.specs.{Rows.{Bytes, Columns}, Commands.key_of, Stamps.Stamped, Tenants.Contents}
use Rattle.mt_border.specs.Contents.{owned}
use Rattle.mt_tape.specs.{declared.entry.Entry.{Entry as Write}, Tapes.Kept, Histories.with_write}
use Rattle.mt_arena.specs.Arena.{ArenaView, content_of}
use Rattle.mt_operation.specs.{declared.task.Task.Task, declared.prepared.Prepared.Prepared, Tasks.ask}
use Rattle.mt_insert.specs.{Puts.{IsPut, row_over, write_over, write_of}, Placing.Places}
use Rattle.mt_held.specs.Taping.{pushed}

-- the row that is inserted, with the step as its stamp, is that of the put's write
inserts : (task : Task) (contents : Contents) (before : Option Stamped) (row : Columns) (step : ℕ) → IsPut task
    → get contents (owned task.key) ≡ before → row ≡ row_over task before
    → insert contents (owned task.key) (record { stamp = step; row = row }) ≡ with_write contents (write_of task contents step)
inserts task contents before row step put is row_is =
    ap (λ (q : ℕ × Bytes). insert contents q (record { stamp = step; row = row })) put.owner
    ∙ ap (λ (r : Columns). insert contents (task.tenant, key_of (ask task)) (record { stamp = step; row = r })) (row_is ∙ ap (row_over task) (sym is))

-- the write that was made ready is the put's, once it has its number
numbered : (task : Task) (contents : Contents) (before : Option Stamped) (write : Write) (step : ℕ) → get contents (owned task.key) ≡ before
    → write ≡ write_over task before 0
    → record write { step = step } ≡ write_of task contents step
numbered task contents before write step is write_is =
    ap (λ (e : Write). record e { step = step }) write_is ∙ ap (λ (b : Option Stamped). write_over task b step) (sym is)

-- a placing step, from what its two writes make
pub places : (task : Task) (step : ℕ) (old new : ArenaView) (was is : Kept) (before : Option Stamped) (prepared : Prepared) → IsPut task
    → get (content_of old) (owned task.key) ≡ before → prepared.row ≡ row_over task before → prepared.write ≡ write_over task before 0
    → content_of new ≡ insert (content_of old) (owned task.key) (record { stamp = step; row = prepared.row }) → is ≡ pushed was (record prepared.write { step = step })
    → Places task step old new was is
places task step old new was is before prepared put before_is row_is write_is inserted push = record {
  contents = inserted ∙ inserts task (content_of old) before prepared.row step put before_is row_is;
  tape = push ∙ ap (pushed was) (numbered task (content_of old) before prepared.write step before_is write_is);
}
