-- That a put whose stamp differs from the one that stands at its key is told the latter, and that all others may write over it.
use Rattle.std.proofs.Common.{ℕ, rules, refl, sym, ap, subst, ◌∙◌}
use Rattle.mt_rows.specs.Stamps.{stamp_in}
use Rattle.mt_operation.specs.Tasks.{ask}
use Rattle.mt_insert.{specs.Puts.MeetsStamp, proofs.Looks.standing_here}
use Rattle.mt_insert.proofs.phases.judge.judge_stamp.Goals as goal

pub returns-then-not-meets_stamp : goal.returns-then-not-meets_stamp
returns-then-not-meets_stamp c = (
  refl,
  record {
    slot = c.args.slot;
    stands = c.requires.slot;
    standing =
        ap stamp_in (standing_here c.args.arena.now c.args.operation c.args.task.now c.args.walk.now c.args.slot c.facts.ensures.arena c.requires.kept c.requires.slot) ∙ sym c.standing_stamp-stamp.ensures;
    stale = c.meets_stamp.ensures.no (search (rules, c.if-not-meets_stamp.true));
    unlocks = c.unlock.ensures;
  },
)

pub make_ready-requires-clause-met : goal.make_ready-requires-clause-met
make_ready-requires-clause-met c =
    subst (λ (s : ℕ). MeetsStamp (ask c.args.task.now) s) c.standing_stamp-stamp.ensures (c.meets_stamp.ensures.yes (search (rules, c.if-not-meets_stamp.false)))
