-- Where in a history what a clerk added has happened: for the law.
use Rattle.std.proofs.{Common.{◌≡◌, ℕ, ◌+◌, List, [], ◌∷◌, ◌++◌, length, Some, slice_get, sym, ap, subst, ◌∙◌, arith}, lemmas.List.{append_assoc, length-append}}
use mathlib.Core.List.{IsPrefix}
use Rattle.mt_state.specs.Views.{StateView}
use Rattle.mt_history.{specs.{Legal.{last_from, EndsWith}, Views.MarkView}, proofs.Fronts.prefix_length}
use Rattle.mt_book.specs.Happens.{Happening, Happens, Adds}
use Rattle.mt_orders.specs.{Explained.HappensAt, Added.HappenedAt}

abbrev HappensIn : List StateView → ℕ → Happening → Type 0
HappensIn [] place what = ⊥
HappensIn (s ∷ log) place what = HappensAt s log place what

led : (b : StateView) (bs : List StateView) (from to : StateView) (more : List StateView) (what : Happening) → last_from b bs ≡ from → Happens from what to
    → HappensAt b (bs ++ to ∷ more) (length bs) what
led b [] from to more what is d = subst (λ (v : StateView). Happens v what to) (sym is) d
led b (c ∷ cs) from to more what is d = led c cs from to more what is d

pub added : (what : Happening) (old new : MarkView StateView) (s : StateView) (log : List StateView) → Adds what old new → IsPrefix new.log (s ∷ log) → HappenedAt what old new s log
added what old new s log a front = by a.before a.since a.ends a.log
  where
    by : (before : List StateView) → IsPrefix old.log before → EndsWith before a.from → new.log ≡ before ++ a.to ∷ [] → HappenedAt what old new s log
    by [] since ends is = absurd ends
    by (b ∷ bs) since ends is =
        let whole : b ∷ (bs ++ a.to ∷ front.0) ≡ s ∷ log = sym (append_assoc (b ∷ bs) (a.to ∷ []) front.0) ∙ ap (λ w. w ++ front.0) (sym is) ∙ front.1 in
        let long = length-append (b ∷ bs) (a.to ∷ []) in
        let count = ap length is in
        let low = prefix_length old.log (b ∷ bs) since in
        record {
          place = length bs;
          happens = subst (λ (l : List StateView). HappensIn l (length bs) what) whole (led b bs a.from a.to front.0 what ends a.happens);
          since = omega (arith, low);
          upto = omega (arith, count, long);
        }

stands_at : (b : StateView) (bs : List StateView) (from : StateView) (more : List StateView) → last_from b bs ≡ from → slice_get (b ∷ (bs ++ more)) (length bs) ≡ Some from
stands_at b [] from more is = ap Some is
stands_at b (c ∷ cs) from more is = stands_at c cs from more is

-- the state at that place is the one to which it happened
pub added_to : (what : Happening) (old new : MarkView StateView) (s : StateView) (log : List StateView) (a : Adds what old new) → IsPrefix new.log (s ∷ log)
    → (place : ℕ) → length new.log ≡ place + 2 → slice_get (s ∷ log) place ≡ Some a.from
added_to what old new s log a front place upto = by a.before a.ends a.log
  where
    by : (before : List StateView) → EndsWith before a.from → new.log ≡ before ++ a.to ∷ [] → slice_get (s ∷ log) place ≡ Some a.from
    by [] ends is = absurd ends
    by (b ∷ bs) ends is =
        let whole : b ∷ (bs ++ a.to ∷ front.0) ≡ s ∷ log = sym (append_assoc (b ∷ bs) (a.to ∷ []) front.0) ∙ ap (λ w. w ++ front.0) (sym is) ∙ front.1 in
        let long = length-append (b ∷ bs) (a.to ∷ []) in
        let count = ap length is in
        let here : length bs ≡ place = omega (arith, count, long, upto) in
        ap (slice_get (s ∷ log)) (sym here) ∙ sym (ap (λ l. slice_get l (length bs)) whole) ∙ stands_at b bs a.from (a.to ∷ front.0) ends
