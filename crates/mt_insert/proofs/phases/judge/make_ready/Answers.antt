-- What is kept of a put that has made its row ready, and that one without memory has met its stamp.
use Rattle.std.proofs.Common.{Option, rules, refl, sym, subst}
use Rattle.mt_rows.specs.Stamps.{Stamped, stamp_in}
use Rattle.mt_operation.specs.Tasks.{ask}
use Rattle.mt_insert.{specs.Puts.MeetsStamp, proofs.Looks.{kept_ready, border_within, standing_here}}
use Rattle.mt_insert.proofs.phases.judge.make_ready.Goals as goal

pub returns-in-Ok : goal.returns-in-Ok
returns-in-Ok c =
    let ready = kept_ready c.args.arena.now c.args.operation c.args.task.now c.in-Ok.prepared c.args.walk.now c.args.slot c.requires.kept (border_within c.args.arena.now.nodes c.args.arena.now.trees c.facts.ensures.arena c.args.walk.now.place.node c.requires.kept.judged.held.there) c.requires.slot c.in-Ok.ensures.ready in
    record {
      stays = refl;
      slot = c.args.slot;
      stands = c.requires.slot;
      walk = c.go_on.ensures;
      tape_is = c.in-Ok.ensures.reserved;
      keeps = search rules;
      kept = rw c.go_on.ensures ready;
    }

pub returns-in-Err : goal.returns-in-Err
returns-in-Err c = (
  c.in-Err.ensures.unchanged_on_err,
  record {
    slot = c.args.slot;
    stands = c.requires.slot;
    met = subst (λ (row : Option Stamped). MeetsStamp (ask c.args.task.now) (stamp_in row))
        (sym (standing_here c.args.arena.now c.args.operation c.args.task.now c.args.walk.now c.args.slot c.facts.ensures.arena c.requires.kept c.requires.slot)) c.requires.met;
    unlocks = c.unlock.ensures;
  },
)
