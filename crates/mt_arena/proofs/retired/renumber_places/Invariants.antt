-- those that were passed are out by the step, and those to come are as they were
use Rattle.std.proofs.Common.{◌≡◌, ◌++◌, take, drop}
use Rattle.mt_arena.specs.Idle.{out_at}
use Rattle.mt_arena.proofs.retired.renumber_places.Given as goal

abbrev pub invariant-loop-retired : goal.invariant-loop-retired
invariant-loop-retired l = l.places ≡ out_at l.step (take l.retired-index l.initial.places) ++ drop l.retired-index l.initial.places
