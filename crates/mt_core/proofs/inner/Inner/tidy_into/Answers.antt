-- That a tidying that hands out keeps the invariant and what it promises, for `Inner::tidy_into`.
use Rattle.std.proofs.Common.{ℕ, List, refl, ap, subst}
use Rattle.mt_state.specs.Views.{shown}
use Rattle.mt_core.{specs.{States.core_of, Drains.IsLeastOf}, proofs.Tidying.{handed, floor_rises, firsts_made}}
use Rattle.mt_core.proofs.inner.Inner.tidy_into.Goals as goal

pub floor_needed-needed-requires : goal.floor_needed-needed-requires
floor_needed-needed-requires c = firsts_made (core_of c.self.inside) c.self.invariant

pub trim_into-requires : goal.trim_into-requires
trim_into-requires c =
    let least = subst (λ (ns : List ℕ). IsLeastOf ns c.floor_needed-needed.result c.least_of-floor.result) c.deref.ensures.value c.least_of-floor.ensures in
    floor_rises (core_of c.self.inside) c.floor_needed-needed.result c.least_of-floor.result c.self.invariant c.floor_needed-needed.ensures least

pub invariant_of-self : goal.invariant_of-self
invariant_of-self c =
    let least = subst (λ (ns : List ℕ). IsLeastOf ns c.floor_needed-needed.result c.least_of-floor.result) c.deref.ensures.value c.least_of-floor.ensures in
    (handed (core_of c.self.inside) _ c.floor_needed-needed.result c.least_of-floor.result _ c.args.displaced.now (record c.args.displaced.now { writes = c.trim_into.new.given_up }) (ap shown c.self.view_is) c.self.invariant c.floor_needed-needed.ensures least c.trim_into.ensures.hands_out refl).0

pub returns : goal.returns
returns c =
    let least = subst (λ (ns : List ℕ). IsLeastOf ns c.floor_needed-needed.result c.least_of-floor.result) c.deref.ensures.value c.least_of-floor.ensures in
    (handed (core_of c.self.inside) _ c.floor_needed-needed.result c.least_of-floor.result _ c.args.displaced.now (record c.args.displaced.now { writes = c.trim_into.new.given_up }) (ap shown c.self.view_is) c.self.invariant c.floor_needed-needed.ensures least c.trim_into.ensures.hands_out refl).1
