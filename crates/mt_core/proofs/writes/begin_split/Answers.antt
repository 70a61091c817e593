-- A right half that was made, or no memory for it.
use Rattle.std.proofs.Common.{inl, inr, None, Some, refl, ap}
use Rattle.mt_operation.specs.declared.outcome.Outcome.{Outcome}
use Rattle.mt_core.proofs.writes.begin_split.Goals as goal

pub split_start-requires-clause-kept : goal.split_start-requires-clause-kept
split_start-requires-clause-kept c = (c.args.operation.now.task, c.requires.kept.0, refl, c.requires.kept.1)

pub split_start-requires-clause-none : goal.split_start-requires-clause-none
split_start-requires-clause-none c = c.requires.none

pub split_start-requires-clause-reserved : goal.split_start-requires-clause-reserved
split_start-requires-clause-reserved c = c.requires.room

pub split_start-requires-clause-forgotten : goal.split_start-requires-clause-forgotten
split_start-requires-clause-forgotten c = c.requires.gives.forgotten

pub split_start-requires-clause-renews : goal.split_start-requires-clause-renews
split_start-requires-clause-renews c = c.requires.gives.renews

pub returns-in-Ok : goal.returns-in-Ok
returns-in-Ok c = λ accounts. inl (record { begins = c.in-Ok.ensures.starts; accounts = refl; others = refl })

pub returns-in-Err : goal.returns-in-Err
returns-in-Err c = λ accounts. inr (record {
  stops = c.in-Err.ensures.stops;
  accounts = refl;
  others = ap (λ (told : Outcome). record c.args.operation.now { walk = c.split_start.new.walk; splits = c.split_start.new.splits; prepared = None; outcome = Some told }) c.no_memory.ensures;
})
