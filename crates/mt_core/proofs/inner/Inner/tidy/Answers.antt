-- That a tidying keeps the invariant and what it promises, for `Inner::tidy`.
use Rattle.std.proofs.Common.{ℕ, List, ap, subst}
use Rattle.mt_state.specs.Views.{shown}
use Rattle.mt_core.{specs.{States.core_of, Drains.IsLeastOf}, proofs.Tidying.{tidied, floor_rises, firsts_made}}
use Rattle.mt_core.proofs.inner.Inner.tidy.Goals as goal

pub floor_needed-needed-requires : goal.floor_needed-needed-requires
floor_needed-needed-requires c = firsts_made (core_of c.self.inside) c.self.invariant

pub trim-requires : goal.trim-requires
trim-requires c =
    let least = subst (λ (ns : List ℕ). IsLeastOf ns c.floor_needed-needed.result c.least_of-floor.result) c.deref.ensures.value c.least_of-floor.ensures in
    floor_rises (core_of c.self.inside) c.floor_needed-needed.result c.least_of-floor.result c.self.invariant c.floor_needed-needed.ensures least

pub invariant_of-self : goal.invariant_of-self
invariant_of-self c =
    let least = subst (λ (ns : List ℕ). IsLeastOf ns c.floor_needed-needed.result c.least_of-floor.result) c.deref.ensures.value c.least_of-floor.ensures in
    (tidied (core_of c.self.inside) _ c.floor_needed-needed.result c.least_of-floor.result _ (ap shown c.self.view_is) c.self.invariant c.floor_needed-needed.ensures least c.trim.ensures).0

pub returns : goal.returns
returns c =
    let least = subst (λ (ns : List ℕ). IsLeastOf ns c.floor_needed-needed.result c.least_of-floor.result) c.deref.ensures.value c.least_of-floor.ensures in
    (tidied (core_of c.self.inside) _ c.floor_needed-needed.result c.least_of-floor.result _ (ap shown c.self.view_is) c.self.invariant c.floor_needed-needed.ensures least c.trim.ensures).1
