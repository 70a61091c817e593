-- Scans that ran beside changes make a base.
use Rattle.std.proofs.Common.{◌≡◌, inl, inr, ⊎_elim, ℕ, zero, suc, ◌≤◌, Bool, true, false, cond, List, [], ◌∷◌, map, refl, sym, ◌∙◌, ap, subst, arith, Option, Some, None, IsSome, Contains, ◌+◌, ◌-◌, ◌⊎◌}
use Rattle.std.proofs.{lemmas.Cmp.nat_list_cmp_total, lemmas.Bool.{true≢false, cases_lt}, lemmas.List.Elements.All-contains}
use Rattle.std.specs.{declared.cmp.Ordering.Ordering, declared.cmp.Ordering.TheVariants.{Less, Equal, Greater}}
use Rattle.std.specs.{Ordering.{nat_cmp, is_lt, is_le, eq_by_cmp, ordering_reverse}, Cmp.Lexicographic.slice_cmp, FinMap.{get, find, get-from_entries}}
use Rattle.mt_rows.specs.{Rows.Bytes, Maps.{Map, is_walked}, Tenants.{Contents as Pairs}, Stamps.{Stamped, as_shown}}
use Rattle.mt_rows.proofs.ContentLaws.{same_owner, tied_owner, get-tenant_map}
use Rattle.mt_runs.specs.Scans.{IsLawful}
use Rattle.mt_crashes.specs.{Fronts.In, Histories.{Placed, pairs_upto, map_upto}, Bases.IsBase, Walks.{Page, IsFromTo, Walks, joined, AreWalked}}
use Rattle.mt_crashes.specs.Invariants.{RisePlaced}
use Rattle.mt_crashes.proofs.Members.{in_either, in_left, in_right, map_in}

-- ---- keys

tied : (a b : Bytes) → eq_by_cmp (slice_cmp nat_cmp) a b ≡ true → a ≡ b
tied a b e = ap (λ (q : ℕ × Bytes). q.1) (tied_owner (0, a) (0, b) e)

itself : (a : Bytes) → eq_by_cmp (slice_cmp nat_cmp) a a ≡ true
itself a = same_owner (0, a)

past : (key last : Bytes) → is_le (slice_cmp nat_cmp key last) ≡ false → is_lt (slice_cmp nat_cmp last key) ≡ true
past key last above = ap is_lt (nat_list_cmp_total.antisymm last key) ∙ flip (slice_cmp nat_cmp key last) above
  where
    flip : (o : Ordering) → is_le o ≡ false → is_lt (ordering_reverse o) ≡ true
    flip Less e = absurd (true≢false e)
    flip Equal e = absurd (true≢false e)
    flip Greater e = refl

from_first : (key : Bytes) → is_walked [] false key ≡ true
from_first [] = refl
from_first (b ∷ key) = refl

-- ---- members by place

contained_in : {X : Type 0} (xs : List X) (x : X) → Contains xs x → In x xs
contained_in [] x h = absurd (omega (arith, h.1))
contained_in (y ∷ ys) x (zero, within, is) = inl (sym is)
contained_in (y ∷ ys) x (suc k, within, is) = inr (contained_in ys x (k, omega (arith, within), is))

in_contained : {X : Type 0} (xs : List X) (x : X) → In x xs → Contains xs x
in_contained [] x h = absurd h
in_contained (y ∷ ys) x (inl e) = (0, omega arith, sym e)
in_contained (y ∷ ys) x (inr h) = let rest = in_contained ys x h in (suc rest.0, omega (arith, rest.1), rest.2)

-- ---- what pages show

-- a pair that stood at some step from one to another
abbrev StoodSome : (ℕ → Map) → ℕ → ℕ → Bytes × Stamped → Type 0
StoodSome maps from to p = (m : ℕ) × IsFromTo from to m × (get (maps m) p.0 ≡ Some p.1)

one_page : (maps : ℕ → Map) (from to count : ℕ) (start : Bytes) (after : Bool) (page : Page) (p : Bytes × Stamped)
    → IsLawful maps (IsFromTo from to) start after count [] page → In p page → StoodSome maps from to p
one_page maps from to count start after page p is at =
    let real = All-contains (λ (x : Bytes × Stamped). (m : ℕ) × IsFromTo from to m
    × ((row : Stamped) × (get (maps m) x.0 ≡ Some row) × (x.1 ≡ as_shown [] row))) page p is.real (in_contained page p at) in
    (real.0, real.1, real.2.1 ∙ ap (λ (row : Stamped). Some row) (sym real.2.2))

-- each pair shown stood at some step
shows : (maps : ℕ → Map) (from to count : ℕ) (start : Bytes) (after : Bool) (pages : List Page) (p : Bytes × Stamped)
    → Walks maps from to count start after pages → In p (joined pages) → StoodSome maps from to p
shows maps from to count start after [] p is at = absurd is
shows maps from to count start after (page ∷ []) p is at =
    ⊎_elim (λ l. one_page maps from to count start after page p is.0 l) (λ none. absurd none) (in_either p page [] at)
shows maps from to count start after (page ∷ next ∷ pages) p is at =
    ⊎_elim (λ l. one_page maps from to count start after page p is.1 l) (λ r. shows maps from to count is.0 true (next ∷ pages) p is.3 r)
    (in_either p page (joined (next ∷ pages)) at)

shown_key : (page : Page) (key : Bytes) → Contains (map (λ p. p.0) page) key → (p : Bytes × Stamped) × In p page × (key ≡ p.0)
shown_key page key at = map_in (λ p. p.0) key page (contained_in (map (λ p. p.0) page) key at)

-- and a key that was there throughout is shown
there : (maps : ℕ → Map) (from to count : ℕ) (start : Bytes) (after : Bool) (pages : List Page) (key : Bytes)
    → Walks maps from to count start after pages → is_walked start after key ≡ true
    → ((m : ℕ) → IsFromTo from to m → IsSome (get (maps m) key)) → (p : Bytes × Stamped) × In p (joined pages) × (key ≡ p.0)
there maps from to count start after [] key is walked stood = absurd is
there maps from to count start after (page ∷ []) key is walked stood =
    let p = shown_key page key (is.0.whole key walked (λ full. absurd (omega (arith, full, is.1))) stood) in (p.0, in_left p.0 page [] p.1, p.2)
there maps from to count start after (page ∷ next ∷ pages) key is walked stood =
    by (is_le (slice_cmp nat_cmp key is.0)) refl (λ later. there maps from to count is.0 true (next ∷ pages) key is.3 later stood)
  where
    by : (b : Bool) → is_le (slice_cmp nat_cmp key is.0) ≡ b
        → (is_walked is.0 true key ≡ true → (p : Bytes × Stamped) × In p (joined (next ∷ pages)) × (key ≡ p.0))
        → (p : Bytes × Stamped) × In p (joined (page ∷ next ∷ pages)) × (key ≡ p.0)
    by true upto rest = let p = shown_key page key (is.1.whole key walked (λ full. (is.0, is.2, upto)) stood) in
        (p.0, in_left p.0 page (joined (next ∷ pages)) p.1, p.2)
    by false beyond rest = let p = rest (past key is.0 beyond) in (p.0, in_right p.0 page (joined (next ∷ pages)) p.1, p.2)

-- ---- pairs in a list

-- what is found of a key: a pair of the list, or nothing, and then the list has none
found : (es : Page) (key : Bytes) → ((p : Bytes × Stamped) × In p es × (key ≡ p.0) × (find (slice_cmp nat_cmp) key es ≡ Some p.1))
    ⊎ (((p : Bytes × Stamped) → In p es → key ≡ p.0 → ⊥) × (find (slice_cmp nat_cmp) key es ≡ None))
found [] key = inr ((λ p at same. absurd at), refl)
found (e ∷ es) key = by (eq_by_cmp (slice_cmp nat_cmp) key e.0) refl (found es key)
  where
    by : (b : Bool) → eq_by_cmp (slice_cmp nat_cmp) key e.0 ≡ b
        → ((p : Bytes × Stamped) × In p es × (key ≡ p.0) × (find (slice_cmp nat_cmp) key es ≡ Some p.1))
        ⊎ (((p : Bytes × Stamped) → In p es → key ≡ p.0 → ⊥) × (find (slice_cmp nat_cmp) key es ≡ None))
        → ((p : Bytes × Stamped) × In p (e ∷ es) × (key ≡ p.0) × (cond b (Some e.1) (find (slice_cmp nat_cmp) key es) ≡ Some p.1))
        ⊎ (((p : Bytes × Stamped) → In p (e ∷ es) → key ≡ p.0 → ⊥) × (cond b (Some e.1) (find (slice_cmp nat_cmp) key es) ≡ None))
    by true is rest = inl (e, inl refl, tied key e.0 is, refl)
    by false isnt (inl h) = inl (h.0, inr h.1, h.2, h.3)
    by false isnt (inr h) = inr (not_here isnt h.0, h.1)
      where
        not_here : eq_by_cmp (slice_cmp nat_cmp) key e.0 ≡ false → ((p : Bytes × Stamped) → In p es → key ≡ p.0 → ⊥) → (p : Bytes × Stamped) → In p (e ∷ es) → key ≡ p.0 → ⊥
        not_here apart none p (inl same) key_is = absurd
            (true≢false (sym (itself key) ∙ ap (λ (k : Bytes). eq_by_cmp (slice_cmp nat_cmp) key k) (key_is ∙ ap (λ (x : Bytes × Stamped). x.0) same)
            ∙ apart))
        not_here apart none p (inr at) key_is = none p at key_is

-- ---- what was walked

-- something from one number on at each of so many, or nothing at one of them
searched : (f : ℕ → Option Stamped) (from n : ℕ) → ((m : ℕ) → from ≤ m → m ≤ from + n → IsSome (f m)) ⊎ ((m : ℕ) × (from ≤ m) × (m ≤ from + n) × (f m ≡ None))
searched f from zero = by (f from) refl
  where
    by : (w : Option Stamped) → f from ≡ w → ((m : ℕ) → from ≤ m → m ≤ from + 0 → IsSome (f m)) ⊎ ((m : ℕ) × (from ≤ m) × (m ≤ from + 0) × (f m ≡ None))
    by None is = inr (from, omega arith, omega arith, is)
    by (Some row) is = inl (λ m le upto. let same : from ≡ m = omega (arith, le, upto) in subst (λ k. IsSome (f k)) same (subst (λ w. IsSome w) (sym is) refl))
searched f from (suc n) = by (f (from + suc n)) refl (searched f from n)
  where
    by : (w : Option Stamped) → f (from + suc n) ≡ w → ((m : ℕ) → from ≤ m → m ≤ from + n → IsSome (f m)) ⊎ ((m : ℕ) × (from ≤ m) × (m ≤ from + n) × (f m ≡ None))
        → ((m : ℕ) → from ≤ m → m ≤ from + suc n → IsSome (f m)) ⊎ ((m : ℕ) × (from ≤ m) × (m ≤ from + suc n) × (f m ≡ None))
    by None is rest = inr (from + suc n, omega arith, omega arith, is)
    by (Some row) is (inr none) = inr (none.0, none.1, omega (arith, none.2), none.3)
    by (Some row) is (inl some) = inl (λ m le upto. ⊎_elim
        (λ lt. some m le (omega (arith, lt)))
        (λ ge. let same : from + suc n ≡ m = omega (arith, ge, upto) in subst (λ k. IsSome (f k)) same (subst (λ w. IsSome w) (sym is) refl))
        (cases_lt m (from + suc n)))

-- what was walked is a base
pub walked_base : (from to count : ℕ) (history : List Placed) (base : Pairs) → RisePlaced 0 history → from ≤ to → AreWalked from to count history base
    → IsBase from to history base
walked_base from to count history base rises le walked q =
    let w = walked q.0 in
    let maps : ℕ → Map = λ m. map_upto m history q.0 in
    let here : get base q ≡ find (slice_cmp nat_cmp) q.1 (joined w.0) = sym (get-tenant_map q.0 base q.1) ∙ ap (λ (m : Map). get m q.1) w.2 ∙ get-from_entries nat_list_cmp_total (joined w.0) q.1 in
    ⊎_elim
    (λ p.
    let s = shows maps from to count [] false w.0 p.0 w.1 p.1 in
    (s.0, s.1.0, s.1.1, here ∙ p.3 ∙ sym (ap (get (maps s.0)) p.2 ∙ s.2) ∙ get-tenant_map q.0 (pairs_upto s.0 history) q.1))
    (λ none. ⊎_elim
    (λ some.
    let p = there maps from to count [] false w.0 q.1 w.1 (from_first q.1) (λ m within. some m within.0 (omega (arith, within.1, le))) in
    absurd (none.0 p.0 p.1 p.2))
    (λ gone. (gone.0, gone.1, omega (arith, gone.2, le), here ∙ none.1 ∙ sym gone.3 ∙ get-tenant_map q.0 (pairs_upto gone.0 history) q.1))
    (searched (λ m. get (maps m) q.1) from (to - from)))
    (found (joined w.0) q.1)
