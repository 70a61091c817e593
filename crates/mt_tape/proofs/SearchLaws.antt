-- Entries by their steps: those up to a step stand before those after it.
use Rattle.std.proofs.Common.{◌≡◌, ℕ, zero, suc, ◌<◌, ◌≤◌, Bool, cond, List, [], ◌∷◌, drop, Some, refl, sym, ◌∙◌, ap, subst, arith}
use Rattle.std.proofs.{lemmas.Bool.{lt-ltb, le-ltb}, lemmas.Option.{same_Some, none-some}}
use Rattle.std.specs.Prelude.{slice_get}
use Rattle.mt_tape.specs.{declared.entry.Entry.Entry, Tapes.{RisesOver, later_entries}}

-- an entry is over the floor, and a later one over an earlier one
pub over_floor : (floor : ℕ) (entries : List Entry) (k : ℕ) (e : Entry) → RisesOver floor entries → slice_get entries k ≡ Some e → floor < e.step
over_floor floor [] k e rises at = absurd (none-some e at)
over_floor floor (d ∷ entries) zero e rises at = subst (λ (x : Entry). floor < x.step) (same_Some d e at) rises.0
over_floor floor (d ∷ entries) (suc k) e rises at = omega (arith, rises.0, over_floor d.step entries k e rises.1 at)

pub in_turn : (floor : ℕ) (entries : List Entry) (i j : ℕ) (d e : Entry) → RisesOver floor entries → i ≤ j → slice_get entries i ≡ Some d → slice_get entries j ≡ Some e → d.step ≤ e.step
in_turn floor [] i j d e rises le at_i at_j = absurd (none-some d at_i)
in_turn floor (x ∷ entries) zero zero d e rises le at_i at_j =
    let same : d ≡ e = sym (same_Some x d at_i) ∙ same_Some x e at_j in
    omega (arith, ap (λ (y : Entry). y.step) same)
in_turn floor (x ∷ entries) zero (suc j) d e rises le at_i at_j =
    omega (arith, ap (λ (y : Entry). y.step) (same_Some x d at_i), over_floor x.step entries j e rises.1 at_j)
in_turn floor (x ∷ entries) (suc i) zero d e rises le at_i at_j = absurd (omega (arith, le))
in_turn floor (x ∷ entries) (suc i) (suc j) d e rises le at_i at_j = in_turn x.step entries i j d e rises.1 (omega (arith, le)) at_i at_j

none_later : (step : ℕ) (entries : List Entry) → ((k : ℕ) (e : Entry) → slice_get entries k ≡ Some e → step < e.step) → later_entries step entries ≡ entries
none_later step [] all = refl
none_later step (d ∷ entries) all =
    ap (λ (b : Bool). cond b (d ∷ later_entries step entries) (later_entries step entries)) (lt-ltb step d.step (all 0 d refl))
    ∙ ap (λ (l : List Entry). d ∷ l) (none_later step entries (λ k e at. all (suc k) e at))

-- entries that are parted so are those after the step, behind the others
pub parted : (step : ℕ) (entries : List Entry) (n : ℕ) → ((k : ℕ) (e : Entry) → k < n → slice_get entries k ≡ Some e → e.step ≤ step)
    → ((k : ℕ) (e : Entry) → n ≤ k → slice_get entries k ≡ Some e → step < e.step) → later_entries step entries ≡ drop n entries
parted step entries zero before behind = none_later step entries (λ k e at. behind k e (omega arith) at)
parted step [] (suc n) before behind = refl
parted step (d ∷ entries) (suc n) before behind =
    ap (λ (b : Bool). cond b (d ∷ later_entries step entries) (later_entries step entries)) (le-ltb step d.step (before 0 d (omega arith) refl))
    ∙ parted step entries n (λ k e lt at. before (suc k) e (omega (arith, lt)) at) (λ k e le at. behind (suc k) e (omega (arith, le)) at)
