use Rattle.std.proofs.Common.{ℕ, List, subst, sym}
use Rattle.std.specs.List.{Contains}
use Rattle.std.proofs.lemmas.List.Filters.{dedup_is}
use Rattle.std.proofs.lemmas.List.Kept.{Contains-dedup_nat, Contains-from_dedup}
use Rattle.std.proofs.lemmas.List.Sorted.{Contains-permutation, IsPermutation-sym}
use Rattle.std.proofs.lemmas.Map.Keys.{IsStrictlyIncreasing-dedup}
use Rattle.mt_service.proofs.TenantNumbers.{listed, lists}
use Rattle.mt_service.proofs.accounts.rising_tenants.Goals as goal

pub returns : goal.returns
returns c =
    let is = dedup_is _ _ _ c.dedup.ensures.filtered in
    let moved = c.sort_unstable.ensures.permutation in
    let are = c.in_ok-numbers.ensures in
    record {
      rise = rw is (IsStrictlyIncreasing-dedup _ c.sort_unstable.ensures.sorted);
      all = λ t l. rw is (Contains-dedup_nat _ t (Contains-permutation _ _ t moved (subst (λ (ns : List ℕ). Contains ns t) (sym are) (listed c.args.tenants.now t l))));
      only = λ t has. lists c.args.tenants.now t (subst (λ (ns : List ℕ). Contains ns t) are (Contains-permutation _ _ t (IsPermutation-sym _ _ moved) (Contains-from_dedup _ _ t (rw is at has))));
    }
