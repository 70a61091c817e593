-- What is told where no step can be numbered any more.
use Rattle.std.proofs.Common.{refl, sym, ap, ◌∙◌, arith}
use Rattle.mt_state.specs.Views.{Core}
use Rattle.mt_core.{specs.States.core_of, proofs.NextSteps.next_left}
use Rattle.mt_core.proofs.inner.Inner.spent.Goals as goal

pub returns-in-Some : goal.returns-in-Some
returns-in-Some c = record {
  tells = (
    refl,
    next_left (core_of c.self.inside) c.args.self.now c.args.id c.self.view_is c.next_phase.result c.in-Some.field-0 c.next_phase.ensures c.in-Some.is,
    sym (ap (λ (v : Core). v.steps) c.self.view_is) ∙ omega (arith, c.requires, ap (λ (v : Core). v.steps) c.self.view_is, c.self.invariant.few),
  );
  nears = tt;
  leads = tt;
}
