-- The phase of an operation is the one that the state shows, for `Inner::phase`.
use Rattle.std.proofs.Common.{sym, ap, ◌∙◌}
use Rattle.mt_state.{specs.Views.{Core, op_at, shown}, proofs.Shown.shown_at}
use Rattle.mt_core.specs.{Shows.phase_in, States.core_of}
use Rattle.mt_core.proofs.inner.Inner.phase.Goals as goal

pub returns : goal.returns
returns c =
    c.next_phase.ensures ∙ sym (ap phase_in (shown_at (core_of c.self.inside).table c.args.id)) ∙ ap (λ (k : Core). phase_in (op_at (shown k).table c.args.id)) c.self.view_is
