-- A run of one get, of which only one reply is right on a new state.
use Rattle.std.specs.Prelude.{◌∷◌, []}
use Rattle.mt_rows.specs.declared.reply.Reply.{Reply}
use Rattle.mt_runs.specs.{declared.event.Event.TheVariants.Step, declared.event.Told.TheVariants.Moved, Runs.Run, WrongRuns.{get_k, begins, ends_told}}

-- a get of tenant 7 that searches, confirms and ends, and is told this reply by its second step
abbrev pub one_get : Reply → Run
one_get reply = begins 1 get_k ∷ (Step 1, Moved) ∷ (Step 1, Moved) ∷ ends_told 1 get_k reply 1 2 3 ∷ []
