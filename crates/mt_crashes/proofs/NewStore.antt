-- A new store has the invariant.
use Rattle.std.proofs.{Common.{◌≡◌, inl, inr, ℕ, zero, suc, ◌<◌, ◌≤◌, [], ◌∷◌, refl, sym, ◌∙◌, ap, subst, arith, Some, None}, lemmas.Bool.{true≢false}}
use Rattle.std.proofs.lemmas.Option.{same_Some}
use Rattle.std.specs.Prelude.{slice_get}
use Rattle.mt_log.specs.Contents.{Contents, no_batches}
use Rattle.mt_crashes.specs.{Fronts.{In, ServedFrom}, Bases.CheckpointView}
use Rattle.mt_crashes.specs.{Stores.{LogNow, SlotNow, at_rest, only_this, MayLeaveFront, new_logs, new_store, Reaches}, Invariants.{IsFrontOf, HasLog, IsStore}}
use Rattle.mt_crashes.proofs.{Members.no_some, Invariant.{within_place, left_at_rest, new_at, new_long}}

new_front : (count worker : ℕ) (log : LogNow) → 0 < count → count ≤ 64 → HasLog (new_store count) worker log → (left : Contents)
    → MayLeaveFront log left → left ≡ no_batches worker count
new_front count worker log some few there left may =
    let at = new_at count 0 count worker log there in
    left_at_rest (no_batches worker count) left
    (subst (λ (l : LogNow). MayLeaveFront l left) (at.0 ∙ ap (λ (m : ℕ). at_rest (no_batches m count)) (omega arith)) may)

none_new : (k : ℕ) (slot : SlotNow) → slice_get (only_this None ∷ only_this None ∷ []) k ≡ Some slot → (c : CheckpointView) → In (Some c) slot → ⊥
none_new zero slot there c at = not_in c (subst (In (Some c)) (sym (same_Some (only_this None) slot there)) at)
  where
    not_in : (c : CheckpointView) → In (Some c) (only_this None) → ⊥
    not_in c (inl e) = no_some c (sym e)
    not_in c (inr none) = none
none_new (suc zero) slot there c at = not_in c (subst (In (Some c)) (sym (same_Some (only_this None) slot there)) at)
  where
    not_in : (c : CheckpointView) → In (Some c) (only_this None) → ⊥
    not_in c (inl e) = no_some c (sym e)
    not_in c (inr none) = none
none_new (suc (suc k)) slot there c at = absurd (no_some slot there)

pub new_is : (count : ℕ) → 0 < count → count ≤ 64 → IsStore (new_store count)
new_is count some few = record {
  rises = tt;
  made = λ p at. absurd at;
  workers = λ p at. absurd at;
  left = refl;
  gone = λ n h. absurd (true≢false (sym h));
  beyond = omega arith;
  logs = λ worker log there left may.
      subst (λ (f : Contents). IsFrontOf (new_store count) worker f) (sym (new_front count worker log some few there left may)) (record {
        contents = record { numbers = ((omega arith, omega arith), refl); worker = (new_at count 0 count worker log there).1; logs = few; batches = tt };
        joins = tt;
        owner = (refl, sym (new_long count 0 count));
        whole = (refl, refl);
        has = λ r at upto live. absurd at;
        only = λ r at. absurd at;
        voids = λ n h. absurd (true≢false (sym h));
        made = omega arith;
        resumed = λ n at. absurd at;
      });
  guards = λ n h. absurd (true≢false (sym h));
  some = omega (arith, some, new_long count 0 count);
  top = inl first;
  slots = λ k slot there c at. absurd (none_new k slot there c at);
  low = λ off. absurd (true≢false off);
  whole = λ on worker log there left may. omega arith;
  held = λ on over. absurd (omega (arith, over));
  level = λ worker log there left may n over served.
      absurd (subst (ServedFrom n) (new_front count worker log some few there left may) served);
}
  where
    first : (worker : ℕ) × (log : LogNow) × HasLog (new_store count) worker log × Reaches 0 log
    first = let there = within_place (new_logs count 0 count) 0 (omega (arith, some, new_long count 0 count)) in
        (0, there.0, there.1, λ left may. omega arith)
