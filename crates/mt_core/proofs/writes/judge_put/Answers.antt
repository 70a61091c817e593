-- What a put finds under its lock.
use Rattle.std.proofs.Common.{inl, inr, Some, refl, ap}
use Rattle.mt_tape.specs.Tapes.{Kept}
use Rattle.mt_operation.specs.declared.outcome.Outcome.{Outcome}
use Rattle.mt_core.specs.{Looks.led_to, Writes.parts}
use Rattle.mt_core.proofs.writes.judge_put.Goals as goal

pub judge-requires-clause-put : goal.judge-requires-clause-put
judge-requires-clause-put c = c.requires.may.puts c.requires.stays c.requires.untold

pub judge-requires-clause-kept : goal.judge-requires-clause-kept
judge-requires-clause-kept c = c.requires.may.kept

pub returns-in-Ready : goal.returns-in-Ready
returns-in-Ready c = λ accounts. inl (record {
  untold = c.requires.untold;
  stays = c.requires.stays;
  comes = inl (record { prepared = _; ready = c.in-Ready.ensures; accounts = refl; others = refl });
})

pub returns-in-GoesOn : goal.returns-in-GoesOn
returns-in-GoesOn c = λ accounts. inl (record {
  untold = c.requires.untold;
  stays = c.requires.stays;
  comes = inr (inl (c.in-GoesOn.ensures.1, record { others = refl; rest = ap (λ (t : Kept). parts c.judge.new.arena t accounts) c.in-GoesOn.ensures.0 }));
})

pub returns-in-Stale : goal.returns-in-Stale
returns-in-Stale c = λ accounts. inl (record {
  untold = c.requires.untold;
  stays = c.requires.stays;
  comes = inr (inr (inl (
    c.in-Stale.stamp,
    c.in-Stale.ensures.1,
    record {
      others = ap (λ (told : Outcome). led_to c.args.operation.now c.judge.new.walk (Some told)) c.placed.ensures;
      rest = ap (λ (t : Kept). parts c.judge.new.arena t accounts) c.in-Stale.ensures.0;
    },
  )));
})

pub returns-in-NoMemory : goal.returns-in-NoMemory
returns-in-NoMemory c = λ accounts. inl (record {
  untold = c.requires.untold;
  stays = c.requires.stays;
  comes = inr (inr (inr (
    c.in-NoMemory.ensures.1,
    record {
      others = ap (λ (told : Outcome). led_to c.args.operation.now c.judge.new.walk (Some told)) c.no_memory.ensures;
      rest = ap (λ (t : Kept). parts c.judge.new.arena t accounts) c.in-NoMemory.ensures.0;
    },
  )));
})
