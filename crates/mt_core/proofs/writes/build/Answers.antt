-- A layer that came one step nearer, or for whose tree there was no memory.
use Rattle.std.proofs.Common.{inl, inr, Some, refl, ap}
use Rattle.mt_operation.specs.declared.outcome.Outcome.{Outcome}
use Rattle.mt_core.specs.Looks.{led_to}
use Rattle.mt_core.proofs.writes.build.Goals as goal

pub build_on-requires-clause-phase : goal.build_on-requires-clause-phase
build_on-requires-clause-phase c = c.requires.phase

pub build_on-requires-clause-kept : goal.build_on-requires-clause-kept
build_on-requires-clause-kept c = c.requires.kept

pub build_on-requires-clause-forgotten : goal.build_on-requires-clause-forgotten
build_on-requires-clause-forgotten c = c.requires.gives.forgotten

pub build_on-requires-clause-renews : goal.build_on-requires-clause-renews
build_on-requires-clause-renews c = c.requires.gives.renews

pub returns-in-Ok : goal.returns-in-Ok
returns-in-Ok c = λ tape accounts. inl (record { builds = c.in-Ok.ensures; on = record { others = refl; rest = refl } })

pub returns-in-Err : goal.returns-in-Err
returns-in-Err c = λ tape accounts. inr (record {
  phase = c.in-Err.ensures.0;
  unlocks = c.in-Err.ensures.1;
  on = record { others = ap (λ (told : Outcome). led_to c.args.operation.now c.build_on.new.walk (Some told)) c.no_memory.ensures; rest = refl };
})
