-- That logs which were given all that was done keep the invariant, for `Inner::keep_logs`.
use Rattle.std.proofs.Common.{List, ℕ, sym, subst}
use Rattle.mt_state.specs.Invariant.{StateInvariant}
use Rattle.mt_core.{specs.States.core_of, proofs.Draining.kept_all}
use Rattle.mt_core.proofs.inner.Inner.keep_logs.Goals as goal

pub invariant_of-self : goal.invariant_of-self
invariant_of-self c =
    subst (λ (logs : List ℕ). StateInvariant (record (core_of c.self.inside) { logs = logs })) (sym c.in_ok-self-inside.ensures)
    (kept_all (core_of c.self.inside) c.args.logs c.self.invariant c.requires)
