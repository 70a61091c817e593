-- One more in a walk over a list whose elements are written one by one, and its end.
use Rattle.std.proofs.Common.{◌≡◌, ◌≢◌, ◌⊎◌, inl, inr, ⊎_elim, ℕ, zero, suc, ◌+◌, ◌<◌, ◌≤◌, List, [], ◌∷◌, length, take, drop, refl, sym, ◌∙◌, ap, subst, arith, Some}
use Rattle.std.proofs.{lemmas.List.length-set, lemmas.Option.same_Some}
use Rattle.std.specs.{Prelude.{◌++◌, slice_get, slice_set, slice_index_or, Result, Ok, Err, OnOk, IfOk, IfErr}, List.AllZip}
use Rattle.mt_crashes.{specs.Fronts.In, proofs.{Members.no_some, Invariant.within_place}}
use Rattle.mt_chains.specs.{declared.worker_logs.WorkerLogs.WorkerLogs, Files.SameNumbered}
use Rattle.mt_chain_files.specs.Lists.{EachBefore, Each, StopsAt}

-- what stands in a list in which one element was written
set_cases : {X : Type 0} (xs : List X) (i k : ℕ) (y z : X) → slice_get (slice_set xs i y) k ≡ Some z
    → ((k ≡ i) × (z ≡ y)) ⊎ ((k ≢ i) × (slice_get xs k ≡ Some z))
set_cases [] i k y z h = absurd (no_some z h)
set_cases (x ∷ xs) zero zero y z h = inl (refl, sym (same_Some y z h))
set_cases (x ∷ xs) zero (suc k) y z h = inr (λ e. omega (arith, e), h)
set_cases (x ∷ xs) (suc i) zero y z h = inr (λ e. omega (arith, e), h)
set_cases (x ∷ xs) (suc i) (suc k) y z h = ⊎_elim (λ l. inl (ap suc l.0, l.1)) (λ r. inr (λ e. r.0 (omega (arith, e)), r.1)) (set_cases xs i k y z h)

pub set_there : {X : Type 0} (xs : List X) (i : ℕ) (y : X) → i < length xs → slice_get (slice_set xs i y) i ≡ Some y
set_there [] i y h = absurd (omega (arith, h))
set_there (x ∷ xs) zero y h = refl
set_there (x ∷ xs) (suc i) y h = set_there xs i y (omega (arith, h))

pub set_other : {X : Type 0} (xs : List X) (i k : ℕ) (y : X) → k ≢ i → slice_get (slice_set xs i y) k ≡ slice_get xs k
set_other [] i k y h = refl
set_other (x ∷ xs) zero zero y h = absurd (h refl)
set_other (x ∷ xs) zero (suc k) y h = refl
set_other (x ∷ xs) (suc i) zero y h = refl
set_other (x ∷ xs) (suc i) (suc k) y h = set_other xs i k y (λ e. h (ap suc e))

-- those before the next place are in the relation
pub one_more : {X : Type 0} (R : ℕ → X → X → Type 0) (place : ℕ) (old now : List X) (new : X) → EachBefore R place old now
    → ((was : X) → slice_get old place ≡ Some was → R place was new) → EachBefore R (place + 1) old (slice_set now place new)
one_more R place old now new before at k was is below there then =
    ⊎_elim
    (λ l. subst (λ (n : ℕ). R n was is) (sym l.0) (subst (R place was) (sym l.1) (at was (subst (λ (n : ℕ). slice_get old n ≡ Some was) l.0 there))))
    (λ r. let other = r.0 in before k was is (omega (arith, below, other)) there r.1)
    (set_cases now place k new is then)

-- those after it are as they were
pub still_left : {X : Type 0} (place : ℕ) (old now : List X) (new : X) → ((k : ℕ) → place ≤ k → slice_get now k ≡ slice_get old k)
    → (k : ℕ) → place + 1 ≤ k → slice_get (slice_set now place new) k ≡ slice_get old k
still_left place old now new left k h = set_other now place k new (λ e. omega (arith, h, e)) ∙ left k (omega (arith, h))

pub same_len : {X : Type 0} (place : ℕ) (old now : List X) (new : X) → length now ≡ length old → length (slice_set now place new) ≡ length old
same_len place old now new len = length-set now place new ∙ len

-- all of them are
pub walked : {X : Type 0} (R : ℕ → X → X → Type 0) (place : ℕ) (old now : List X) → length now ≡ length old → EachBefore R place old now
    → length old ≤ place → Each R old now
walked R place old now len before all = record { len = len; each = λ k was is below. before k was is (omega (arith, below, all)) }

-- the one there has failed
pub stopped : {X : Type 0} (R : ℕ → X → X → Type 0) (Fails : X → X → Type 0) (place : ℕ) (old now : List X) (new : X) → place < length old
    → length now ≡ length old → EachBefore R place old now → ((k : ℕ) → place ≤ k → slice_get now k ≡ slice_get old k)
    → ((was : X) → slice_get old place ≡ Some was → Fails was new) → StopsAt R Fails place old (slice_set now place new)
stopped R Fails place old now new within len before left at =
    let there = within_place old place within in
    record {
      len = same_len place old now new len;
      before = λ k was is below there_then then. before k was is below there_then (sym (set_other now place k new (λ e. omega (arith, below, e))) ∙ then);
      was = there.0;
      was_there = there.1;
      is = new;
      is_there = set_there now place new (omega (arith, within, len));
      fails = at there.0 there.1;
      after = λ k h. still_left place old now new left k (omega (arith, h));
    }

at_or : {X : Type 0} (xs : List X) (i : ℕ) (d x : X) → slice_get xs i ≡ Some x → slice_index_or xs i d ≡ x
at_or [] i d x h = absurd (no_some x h)
at_or (y ∷ xs) zero d x h = same_Some y x h
at_or (y ∷ xs) (suc i) d x h = at_or xs i d x h

-- what a call at the next place is given is what was there
pub next_was : {X : Type 0} (place : ℕ) (old now : List X) (d was : X) → ((k : ℕ) → place ≤ k → slice_get now k ≡ slice_get old k)
    → slice_get old place ≡ Some was → slice_index_or now place d ≡ was
next_was place old now d was left there = at_or now place d was (left place (omega arith) ∙ there)

-- what is read at a place is there
pub index_there : {X : Type 0} (xs : List X) (i : ℕ) (d : X) → i < length xs → slice_get xs i ≡ Some (slice_index_or xs i d)
index_there xs i d within = let there = within_place xs i within in there.1 ∙ ap Some (sym (at_or xs i d there.0 there.1))

pub get_more : {X : Type 0} (xs ys : List X) (i : ℕ) (x : X) → slice_get xs i ≡ Some x → slice_get (xs ++ ys) i ≡ Some x
get_more [] ys i x h = absurd (no_some x h)
get_more (y ∷ xs) ys zero x h = h
get_more (y ∷ xs) ys (suc i) x h = get_more xs ys i x h

pub get_last : {X : Type 0} (xs : List X) (i : ℕ) (x : X) → length xs ≡ i → slice_get (xs ++ x ∷ []) i ≡ Some x
get_last [] i x h = subst (λ (n : ℕ). slice_get (x ∷ []) n ≡ Some x) h refl
get_last (y ∷ xs) zero x h = absurd (omega (arith, h))
get_last (y ∷ xs) (suc i) x h = get_last xs i x (omega (arith, h))

-- what was read of the numbered files stays as it is if a plain one is added
pub same_set : (place : ℕ) (first now : List WorkerLogs) (new d : WorkerLogs) → AllZip SameNumbered first now → new.numbered ≡ (slice_index_or now place d).numbered
    → AllZip SameNumbered first (slice_set now place new)
same_set place [] [] new d same told = tt
same_set place [] (x ∷ now) new d same told = absurd same
same_set place (w ∷ first) [] new d same told = absurd same
same_set zero (w ∷ first) (x ∷ now) new d same told = (same.0 ∙ sym told, same.1)
same_set (suc place) (w ∷ first) (x ∷ now) new d same told = (same.0, same_set place first now new d same.1 told)

pub same_all : (first : List WorkerLogs) → AllZip SameNumbered first first
same_all [] = tt
same_all (w ∷ first) = (refl, same_all first)

pub same_count : (first logs : List WorkerLogs) → AllZip SameNumbered first logs → length logs ≡ length first
same_count [] [] same = refl
same_count [] (x ∷ logs) same = absurd same
same_count (w ∷ first) [] same = absurd same
same_count (w ∷ first) (x ∷ logs) same = ap suc (same_count first logs same.1)

-- ---- places

pub get_within : {X : Type 0} (xs : List X) (i : ℕ) (x : X) → slice_get xs i ≡ Some x → i < length xs
get_within [] i x h = absurd (no_some x h)
get_within (y ∷ xs) zero x h = omega arith
get_within (y ∷ xs) (suc i) x h = let below = get_within xs i x h in omega (arith, below)

pub at_place : {X : Type 0} (x : X) (xs : List X) → In x xs → (k : ℕ) × (slice_get xs k ≡ Some x)
at_place x [] at = absurd at
at_place x (y ∷ xs) (inl e) = (0, ap Some (sym e))
at_place x (y ∷ xs) (inr at) = let rest = at_place x xs at in (suc rest.0, rest.1)

-- lists of the same length whose elements at each place are in a relation
pub zip_of : {A B : Type 0} (R : A → B → Type 0) (xs : List A) (ys : List B) → length ys ≡ length xs
    → ((k : ℕ) (x : A) (y : B) → slice_get xs k ≡ Some x → slice_get ys k ≡ Some y → R x y) → AllZip R xs ys
zip_of R [] [] len each = tt
zip_of R [] (y ∷ ys) len each = absurd (omega (arith, len))
zip_of R (x ∷ xs) [] len each = absurd (omega (arith, len))
zip_of R (x ∷ xs) (y ∷ ys) len each = (each 0 x y refl refl, zip_of R xs ys (omega (arith, len)) (λ k a b there then. each (suc k) a b there then))

pub zip_count : {A B : Type 0} (R : A → B → Type 0) (xs : List A) (ys : List B) → AllZip R xs ys → length ys ≡ length xs
zip_count R [] [] all = refl
zip_count R [] (y ∷ ys) all = absurd all
zip_count R (x ∷ xs) [] all = absurd all
zip_count R (x ∷ xs) (y ∷ ys) all = ap suc (zip_count R xs ys all.1)

-- ---- results

pub of_ok : {A E : Type 0} (r : Result A E) (P Q : Type 0) → (P → Q) → OnOk r P → OnOk r Q
of_ok (Ok x) P Q each h = each h
of_ok (Err e) P Q each h = tt

pub of_some_ok : {A E : Type 0} (r : Result A E) (P Q : A → Type 0) → ((x : A) → P x → Q x) → IfOk r P → IfOk r Q
of_some_ok (Ok x) P Q each h = each x h
of_some_ok (Err e) P Q each h = tt

pub of_some_err : {A E : Type 0} (r : Result A E) (P Q : E → Type 0) → ((e : E) → P e → Q e) → IfErr r P → IfErr r Q
of_some_err (Ok x) P Q each h = tt
of_some_err (Err e) P Q each h = each e h

-- a list that was written through a slice of all of it
written_all : {X : Type 0} (new items : List X) → length new ≡ length items → take (length items) (new ++ drop (length new) items) ≡ new
written_all [] [] same = refl
written_all [] (y ∷ items) same = absurd (omega (arith, same))
written_all (x ∷ new) [] same = absurd (omega (arith, same))
written_all (x ∷ new) (y ∷ items) same = ap (λ (xs : List _). x ∷ xs) (written_all new items (omega (arith, same)))

pub written : {X : Type 0} (len : ℕ) (new items : List X) → len ≡ length items → length new ≡ length items → take len (new ++ drop (length new) items) ≡ new
written len new items count same = ap (λ (n : ℕ). take n (new ++ drop (length new) items)) count ∙ written_all new items same

-- a place is before another one, or it is that, or after it
pub before_or_after : {A : Type 0} (k place : ℕ) → (k < place → A) → (k ≡ place → A) → (place < k → A) → A
before_or_after zero zero below same above = same refl
before_or_after zero (suc place) below same above = below (omega arith)
before_or_after (suc k) zero below same above = above (omega arith)
before_or_after (suc k) (suc place) below same above =
    before_or_after k place (λ h. below (omega (arith, h))) (λ h. same (ap suc h)) (λ h. above (omega (arith, h)))
