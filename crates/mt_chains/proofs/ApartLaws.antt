-- The first start that falls, by the test of each worker's logs.
use Rattle.std.proofs.Common.{◌≡◌, inl, inr, ⊎_elim, ℕ, zero, suc, ◌+◌, ◌<◌, Bool, true, false, ◌==◌, List, [], ◌∷◌, refl, sym, ◌∙◌, ap, subst, arith, Option, Some, None}
use Rattle.std.proofs.lemmas.{Bool.{eqb-false, ne_eqb, cond-true, cond-false}, Option.same_Some}
use Rattle.std.specs.{Option.MatchOption, Prelude.slice_get}
use Rattle.mt_log.specs.Contents.{mark_of}
use Rattle.mt_crashes.{specs.Fronts.In, proofs.Members.no_some}
use Rattle.mt_generations.specs.{Chains.Chain, Standings.{Standing, StartFalls}}
use Rattle.mt_chains.specs.{Files.{FallsFrom, IsFirstApart}, Testing.{apart_start, start_in, or_other, fall_start, or_later, first_apart}}

-- ---- one worker

falls_told : (g : ℕ) (f : Standing) (n : ℕ) → StartFalls g f n → apart_start (f g) (f (g + 1)) ≡ Some n
falls_told g f n s =
    (λ i. apart_start (s.has_first i) (s.has_next i))
    ∙ cond-false (s.next.start == mark_of s.first) None (Some s.next.start) (ne_eqb s.next.start (mark_of s.first) s.apart)
    ∙ ap Some (sym s.is)

told_falls : (g : ℕ) (f : Standing) (x y : Option Chain) (n : ℕ) → f g ≡ x → f (g + 1) ≡ y → apart_start x y ≡ Some n → StartFalls g f n
told_falls g f None y n has_first has_next e = absurd (no_some n e)
told_falls g f (Some a) None n has_first has_next e = absurd (no_some n e)
told_falls g f (Some a) (Some b) n has_first has_next e = by (b.start == mark_of a) refl
  where
    by : (same : Bool) → (b.start == mark_of a) ≡ same → StartFalls g f n
    by true is = absurd (no_some n (sym (cond-true (b.start == mark_of a) None (Some b.start) is) ∙ e))
    by false is = record {
      first = a;
      next = b;
      has_first = has_first;
      has_next = has_next;
      apart = eqb-false b.start (mark_of a) is;
      is = sym (same_Some b.start n (sym (cond-false (b.start == mark_of a) None (Some b.start) is) ∙ e));
    }

no_start : (g : ℕ) (f : Standing) → apart_start (f g) (f (g + 1)) ≡ None → (n : ℕ) → ¬ StartFalls g f n
no_start g f none n falls = no_some n (sym none ∙ falls_told g f n falls)

-- where a start falls in its logs
abbrev fall_in : ℕ → Standing → Option ℕ
fall_in g f = fall_start (f g) (f (g + 1)) (f (g + 2))

from_told : (g : ℕ) (f : Standing) (n : ℕ) → FallsFrom g f n → fall_in g f ≡ Some n
from_told g f n (inl s) = ap (λ (x : Option ℕ). or_other x (start_in (f (g + 2)))) (falls_told g f n s)
from_told g f n (inr later) = by (apart_start (f g) (f (g + 1))) refl
  where
    by : (x : Option ℕ) → apart_start (f g) (f (g + 1)) ≡ x → or_other x (start_in (f (g + 2))) ≡ Some n
    by None is = ap start_in later.1.1 ∙ ap Some (sym later.1.2)
    by (Some m) is = absurd (later.0 m (told_falls g f (f g) (f (g + 1)) m refl refl is))

told_from : (g : ℕ) (f : Standing) (n : ℕ) → fall_in g f ≡ Some n → FallsFrom g f n
told_from g f n e = by (apart_start (f g) (f (g + 1))) refl e
  where
    later : ((m : ℕ) → ¬ StartFalls g f m) → (y : Option Chain) → f (g + 2) ≡ y → start_in y ≡ Some n → FallsFrom g f n
    later none None has e = absurd (no_some n e)
    later none (Some c) has e = inr (none, (c, has, sym (same_Some c.start n e)))

    by : (x : Option ℕ) → apart_start (f g) (f (g + 1)) ≡ x → or_other x (start_in (f (g + 2))) ≡ Some n → FallsFrom g f n
    by (Some m) is e = inl (told_falls g f (f g) (f (g + 1)) n refl refl (is ∙ e))
    by None is e = later (no_start g f is) (f (g + 2)) refl e

no_fall : (g : ℕ) (f : Standing) → fall_in g f ≡ None → (n : ℕ) → ¬ FallsFrom g f n
no_fall g f none n falls = no_some n (sym none ∙ from_told g f n falls)

-- ---- all workers

later : (g : ℕ) (f : Standing) (files : List Standing) (m n : ℕ) → ((k : ℕ) → ¬ FallsFrom g f k) → IsFirstApart g files m n → IsFirstApart g (f ∷ files) (suc m) n
later g f files m n none is = record {
  worker = is.worker;
  there = is.there;
  falls = is.falls;
  first = before;
}
  where
    before : (k : ℕ) (other : Standing) (i : ℕ) → k < suc m → slice_get (f ∷ files) k ≡ Some other → ¬ FallsFrom g other i
    before zero other i lt there falls = none i (subst (λ (x : Standing). FallsFrom g x i) (sym (same_Some f other there)) falls)
    before (suc k) other i lt there falls = is.first k other i (omega (arith, lt)) there falls

none_apart : (g place : ℕ) (files : List Standing) → first_apart g place files ≡ None → (f : Standing) (n : ℕ) → In f files → ¬ FallsFrom g f n
none_apart g place [] e f n at falls = at
none_apart g place (x ∷ files) e f n at falls = by (fall_in g x) refl e (λ none there. none_apart g (place + 1) files none f n there falls)
  where
    by : (o : Option ℕ) → fall_in g x ≡ o → or_later place o (first_apart g (place + 1) files) ≡ None
        → (first_apart g (place + 1) files ≡ None → In f files → ⊥) → ⊥
    by None is e rest = ⊎_elim (λ (same : f ≡ x). no_fall g x is n (subst (λ (y : Standing). FallsFrom g y n) same falls)) (λ there. rest e there) at
    by (Some start) is e rest = no_some (place, start) (sym e)

found_apart : (g place : ℕ) (files : List Standing) (k n : ℕ) → first_apart g place files ≡ Some (k, n) → (m : ℕ) × (k ≡ place + m) × IsFirstApart g files m n
found_apart g place [] k n e = absurd (no_some (k, n) e)
found_apart g place (f ∷ files) k n e = by (fall_in g f) refl e (λ found. found_apart g (place + 1) files k n found)
  where
    by : (o : Option ℕ) → fall_in g f ≡ o → or_later place o (first_apart g (place + 1) files) ≡ Some (k, n)
        → (first_apart g (place + 1) files ≡ Some (k, n) → (m : ℕ) × (k ≡ place + 1 + m) × IsFirstApart g files m n)
        → (m : ℕ) × (k ≡ place + m) × IsFirstApart g (f ∷ files) m n
    by None is e rest =
        let found = rest e in (suc found.0, omega (arith, found.1), later g f files found.0 n (no_fall g f is) found.2)
    by (Some start) is e rest =
        let same = same_Some (place, start) (k, n) e in
        let at_place : place ≡ k = ap (λ (x : ℕ × ℕ). x.0) same in
        let same_start : start ≡ n = ap (λ (x : ℕ × ℕ). x.1) same in (
          0,
          omega (arith, at_place),
          record {
            worker = f;
            there = refl;
            falls = told_from g f n (is ∙ ap Some same_start);
            first = λ j other i lt there falls. omega (arith, lt);
          },
        )

pub apart_or_none : (g : ℕ) (files : List Standing) (o : Option (ℕ × ℕ)) → o ≡ first_apart g 0 files
    → MatchOption o ((f : Standing) (n : ℕ) → In f files → ¬ FallsFrom g f n) (λ x. IsFirstApart g files x.0 x.1)
apart_or_none g files None e = none_apart g 0 files (sym e)
apart_or_none g files (Some x) e =
    let found = found_apart g 0 files x.0 x.1 (sym e) in
    let at_place : found.0 ≡ x.0 = omega (arith, found.1) in
    subst (λ (k : ℕ). IsFirstApart g files k x.1) at_place found.2
