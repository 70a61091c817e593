-- That counting anew keeps the invariant, for `renumber`.
use Rattle.std.proofs.Common.{sym, subst}
use Rattle.mt_border.specs.Restamps.{new_stamp}
use Rattle.mt_arena.specs.Arena.{content_of}
use Rattle.mt_state.specs.Views.{Core}
use Rattle.mt_core.{specs.{Renumbers.AreGivenUpto, States.core_of}, proofs.Renumbering.renumber_state}
use Rattle.mt_core.proofs.inner.Inner.renumber.Goals as goal

pub invariant_of-self : goal.invariant_of-self
invariant_of-self c =
    renumber_state c.args.steps (new_stamp c.args.stamps.now) (core_of c.self.inside) _ _ _ _ c.self.invariant c.facts.ensures.arena (rw (← c.self.view_is) at c.requires.idle) c.requires.few
    (subst (λ (v : Core). AreGivenUpto c.args.steps (new_stamp c.args.stamps.now) (content_of v.arena)) (sym c.self.view_is) c.requires.stamps)
    c.give_all.ensures c.renumber.ensures.is c.new.ensures c.new-2.ensures
