-- What a removal finds under its lock.
use Rattle.std.proofs.Common.{inl, inr, Some, refl, ap}
use Rattle.mt_tape.specs.Tapes.{Kept}
use Rattle.mt_operation.specs.declared.outcome.Outcome.{Outcome}
use Rattle.mt_core.specs.{Looks.led_to, Writes.parts}
use Rattle.mt_core.proofs.removals.judge_removal.Goals as goal

pub judge-requires-clause-removal : goal.judge-requires-clause-removal
judge-requires-clause-removal c = c.requires.may.removes c.requires.removes

pub judge-requires-clause-kept : goal.judge-requires-clause-kept
judge-requires-clause-kept c = c.requires.may.kept

pub returns-in-Ready : goal.returns-in-Ready
returns-in-Ready c = λ accounts. inr (inl (record {
  untold = c.requires.untold;
  removes = c.requires.removes;
  comes = inl (record { prepared = _; ready = c.in-Ready.ensures; accounts = refl; others = refl });
}))

pub returns-in-GoesOn : goal.returns-in-GoesOn
returns-in-GoesOn c = λ accounts. inr (inl (record {
  untold = c.requires.untold;
  removes = c.requires.removes;
  comes = inr (inl (c.in-GoesOn.ensures.1, record { others = refl; rest = ap (λ (t : Kept). parts c.judge.new.arena t accounts) c.in-GoesOn.ensures.0 }));
}))

pub returns-in-Absent : goal.returns-in-Absent
returns-in-Absent c = λ accounts. inr (inl (record {
  untold = c.requires.untold;
  removes = c.requires.removes;
  comes = inr (inr (inl (
    c.in-Absent.ensures.1,
    record {
      others = ap (λ (told : Outcome). led_to c.args.operation.now c.judge.new.walk (Some told)) c.absent.ensures;
      rest = ap (λ (t : Kept). parts c.judge.new.arena t accounts) c.in-Absent.ensures.0;
    },
  )));
}))

pub returns-in-NoMemory : goal.returns-in-NoMemory
returns-in-NoMemory c = λ accounts. inr (inl (record {
  untold = c.requires.untold;
  removes = c.requires.removes;
  comes = inr (inr (inr (
    c.in-NoMemory.ensures.1,
    record {
      others = ap (λ (told : Outcome). led_to c.args.operation.now c.judge.new.walk (Some told)) c.no_memory.ensures;
      rest = ap (λ (t : Kept). parts c.judge.new.arena t accounts) c.in-NoMemory.ensures.0;
    },
  )));
}))
