-- The lock of the second half may be given back after that of the first, and what both leave to others.
use Rattle.std.proofs.Common.{ap, ◌∙◌}
use Rattle.mt_held.specs.Moves.{given_back}
use Rattle.mt_insert.proofs.Unlocking.{right_still, step_both}
use Rattle.mt_insert.proofs.phases.unlock.unlock_both.Goals as goal

pub unlock-requires-2-clause-settled : goal.unlock-requires-2-clause-settled
unlock-requires-2-clause-settled c =
    let kept = c.requires.kept in
    rw c.unlock.ensures.is (right_still c.args.arena.now c.args.operation kept.0 c.args.halves kept.1).settled

pub returns-clause-step : goal.returns-clause-step
returns-clause-step c =
    let kept = c.requires.kept in
    step_both c.args.operation c.args.arena.now c.unlock.new.self c.unlock-2.new.self kept.0 c.args.halves c.facts.ensures.arena kept.1 c.unlock.ensures.step c.unlock-2.ensures.step
    (c.unlock-2.ensures.is ∙ ap (λ v. given_back v c.args.halves.right) c.unlock.ensures.is)
