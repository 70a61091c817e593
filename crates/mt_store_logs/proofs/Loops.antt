-- One more in a walk over a list whose elements are written one by one, and its end.
use Rattle.std.proofs.Common.{◌≡◌, ◌≢◌, ◌⊎◌, inl, inr, ⊎_elim, ℕ, zero, suc, ◌+◌, ◌<◌, ◌≤◌, List, [], ◌∷◌, length, map, refl, sym, ◌∙◌, ap, subst, arith, Some}
use Rattle.std.proofs.{lemmas.List.{length-set, length-map}, lemmas.Option.same_Some}
use Rattle.std.specs.Prelude.{◌++◌, slice_get, slice_set, slice_index_or, Result, Ok, Err, OnErr}
use Rattle.mt_crashes.proofs.{Members.no_some, Invariant.{within_place, place_map}}
use Rattle.mt_store_logs.specs.{declared.store_log.StoreLog.StoreLog, Places.{worker_of, workers_of}, Lists.{EachBefore, Each, StopsAt}}

-- what stands in a list in which one element was written
pub set_cases : {X : Type 0} (xs : List X) (i k : ℕ) (y z : X) → slice_get (slice_set xs i y) k ≡ Some z
    → ((k ≡ i) × (z ≡ y)) ⊎ ((k ≢ i) × (slice_get xs k ≡ Some z))
set_cases [] i k y z h = absurd (no_some z h)
set_cases (x ∷ xs) zero zero y z h = inl (refl, sym (same_Some y z h))
set_cases (x ∷ xs) zero (suc k) y z h = inr (λ e. omega (arith, e), h)
set_cases (x ∷ xs) (suc i) zero y z h = inr (λ e. omega (arith, e), h)
set_cases (x ∷ xs) (suc i) (suc k) y z h = ⊎_elim (λ l. inl (ap suc l.0, l.1)) (λ r. inr (λ e. r.0 (omega (arith, e)), r.1)) (set_cases xs i k y z h)

pub set_there : {X : Type 0} (xs : List X) (i : ℕ) (y : X) → i < length xs → slice_get (slice_set xs i y) i ≡ Some y
set_there [] i y h = absurd (omega (arith, h))
set_there (x ∷ xs) zero y h = refl
set_there (x ∷ xs) (suc i) y h = set_there xs i y (omega (arith, h))

pub set_other : {X : Type 0} (xs : List X) (i k : ℕ) (y : X) → k ≢ i → slice_get (slice_set xs i y) k ≡ slice_get xs k
set_other [] i k y h = refl
set_other (x ∷ xs) zero zero y h = absurd (h refl)
set_other (x ∷ xs) zero (suc k) y h = refl
set_other (x ∷ xs) (suc i) zero y h = refl
set_other (x ∷ xs) (suc i) (suc k) y h = set_other xs i k y (λ e. h (ap suc e))

-- those before the next place are in the relation
pub one_more : {X : Type 0} (R : ℕ → X → X → Type 0) (place : ℕ) (old now : List X) (new : X) → EachBefore R place old now
    → ((was : X) → slice_get old place ≡ Some was → R place was new) → EachBefore R (place + 1) old (slice_set now place new)
one_more R place old now new before at k was is below there then =
    ⊎_elim
    (λ l. subst (λ (n : ℕ). R n was is) (sym l.0) (subst (R place was) (sym l.1) (at was (subst (λ (n : ℕ). slice_get old n ≡ Some was) l.0 there))))
    (λ r. let other = r.0 in before k was is (omega (arith, below, other)) there r.1)
    (set_cases now place k new is then)

-- those behind it are as they were
pub still_left : {X : Type 0} (place : ℕ) (old now : List X) (new : X) → ((k : ℕ) → place ≤ k → slice_get now k ≡ slice_get old k)
    → (k : ℕ) → place + 1 ≤ k → slice_get (slice_set now place new) k ≡ slice_get old k
still_left place old now new left k h = set_other now place k new (λ e. omega (arith, h, e)) ∙ left k (omega (arith, h))

pub same_len : {X : Type 0} (place : ℕ) (old now : List X) (new : X) → length now ≡ length old → length (slice_set now place new) ≡ length old
same_len place old now new len = length-set now place new ∙ len

-- a log that is written again is of the same worker
pub same_workers : {D : Type 0} (place : ℕ) (logs : List (StoreLog D)) (new d : StoreLog D) → worker_of new ≡ worker_of (slice_index_or logs place d)
    → workers_of (slice_set logs place new) ≡ workers_of logs
same_workers place [] new d same = refl
same_workers zero (log ∷ logs) new d same = ap (λ w. w ∷ workers_of logs) same
same_workers (suc place) (log ∷ logs) new d same = ap (λ ws. worker_of log ∷ ws) (same_workers place logs new d same)

-- all of them are
pub walked : {X : Type 0} (R : ℕ → X → X → Type 0) (place : ℕ) (old now : List X) → length now ≡ length old → EachBefore R place old now
    → length old ≤ place → Each R old now
walked R place old now len before all = record { len = len; each = λ k was is below. before k was is (omega (arith, below, all)) }

-- the one there has failed
pub stopped : {X : Type 0} (R : ℕ → X → X → Type 0) (Fails : X → X → Type 0) (place : ℕ) (old now : List X) (new : X) → place < length old
    → length now ≡ length old → EachBefore R place old now → ((k : ℕ) → place ≤ k → slice_get now k ≡ slice_get old k)
    → ((was : X) → slice_get old place ≡ Some was → Fails was new) → StopsAt R Fails place old (slice_set now place new)
stopped R Fails place old now new within len before left at =
    let there = within_place old place within in
    record {
      len = same_len place old now new len;
      before = λ k was is below there_then then. before k was is below there_then (sym (set_other now place k new (λ e. omega (arith, below, e))) ∙ then);
      was = there.0;
      was_there = there.1;
      is = new;
      is_there = set_there now place new (omega (arith, within, len));
      fails = at there.0 there.1;
      behind = λ k h. still_left place old now new left k (omega (arith, h));
    }

at_or : {X : Type 0} (xs : List X) (i : ℕ) (d x : X) → slice_get xs i ≡ Some x → slice_index_or xs i d ≡ x
at_or [] i d x h = absurd (no_some x h)
at_or (y ∷ xs) zero d x h = same_Some y x h
at_or (y ∷ xs) (suc i) d x h = at_or xs i d x h

-- what a call at the next place is given is what was there
pub next_was : {X : Type 0} (place : ℕ) (old now : List X) (d was : X) → ((k : ℕ) → place ≤ k → slice_get now k ≡ slice_get old k)
    → slice_get old place ≡ Some was → slice_index_or now place d ≡ was
next_was place old now d was left there = at_or now place d was (left place (omega arith) ∙ there)

pub read_or : {X : Type 0} (xs : List X) (i : ℕ) (d : X) → i < length xs → slice_get xs i ≡ Some (slice_index_or xs i d)
read_or [] i d h = absurd (omega (arith, h))
read_or (x ∷ xs) zero d h = refl
read_or (x ∷ xs) (suc i) d h = read_or xs i d (omega (arith, h))

pub get_within : {X : Type 0} (xs : List X) (i : ℕ) (x : X) → slice_get xs i ≡ Some x → i < length xs
get_within [] i x h = absurd (no_some x h)
get_within (y ∷ xs) zero x h = omega arith
get_within (y ∷ xs) (suc i) x h = let below = get_within xs i x h in omega (arith, below)

pub get_more : {X : Type 0} (xs ys : List X) (i : ℕ) (x : X) → slice_get xs i ≡ Some x → slice_get (xs ++ ys) i ≡ Some x
get_more [] ys i x h = absurd (no_some x h)
get_more (y ∷ xs) ys zero x h = h
get_more (y ∷ xs) ys (suc i) x h = get_more xs ys i x h

pub get_last : {X : Type 0} (xs : List X) (i : ℕ) (x : X) → length xs ≡ i → slice_get (xs ++ x ∷ []) i ≡ Some x
get_last [] i x h = subst (λ (n : ℕ). slice_get (x ∷ []) n ≡ Some x) h refl
get_last (y ∷ xs) zero x h = absurd (omega (arith, h))
get_last (y ∷ xs) (suc i) x h = get_last xs i x (omega (arith, h))

below_or_not : (m n : ℕ) → (m < n) ⊎ (n ≤ m)
below_or_not zero zero = inr (omega arith)
below_or_not zero (suc n) = inl (omega arith)
below_or_not (suc m) zero = inr (omega arith)
below_or_not (suc m) (suc n) = ⊎_elim (λ l. inl (omega (arith, l))) (λ r. inr (omega (arith, r))) (below_or_not m n)

-- those before a place are in the relation, and all others in another one that each thing has to itself
pub so_far : {X : Type 0} (R S : ℕ → X → X → Type 0) (place : ℕ) (old now : List X) (new : X) → ((k : ℕ) (x : X) → S k x x)
    → length now ≡ length old → EachBefore R place old now → ((k : ℕ) → place ≤ k → slice_get now k ≡ slice_get old k)
    → ((was : X) → slice_get old place ≡ Some was → S place was new) → Each (λ k was is. S k was is ⊎ R k was is) old (slice_set now place new)
so_far R S place old now new same len before left at = record {
  len = same_len place old now new len;
  each = λ k was is below there then.
      ⊎_elim
      (λ l. inl (subst (λ (n : ℕ). S n was is) (sym l.0) (subst (S place was) (sym l.1) (at was (subst (λ (n : ℕ). slice_get old n ≡ Some was) l.0 there)))))
      (λ r.
      ⊎_elim
      (λ earlier. inr (before k was is earlier there r.1))
      (λ later. inl (subst (S k was) (same_Some was is (sym there ∙ sym (left k later) ∙ r.1)) (same k was)))
      (below_or_not k place))
      (set_cases now place k new is then);
}

pub on_err : {A E P : Type 0} (r : Result A E) → P → OnErr r P
on_err (Ok x) p = tt
on_err (Err e) p = p

-- what each of them is in turn
pub each_of : {X : Type 0} (R S : ℕ → X → X → Type 0) (old new : List X) → ((k : ℕ) (was is : X) → R k was is → S k was is) → Each R old new → Each S old new
each_of R S old new so all = record { len = all.len; each = λ k was is below there then. so k was is (all.each k was is below there then) }

-- what is so of all pairs before a place and of the pair there, is so of all before the next place
pub pairs_more : {X Y : Type 0} (P : X → Y → Type 0) (place : ℕ) (xs : List X) (ys : List Y) (x : X) (y : Y) → slice_get xs place ≡ Some x → slice_get ys place ≡ Some y
    → ((k : ℕ) (a : X) (b : Y) → k < place → slice_get xs k ≡ Some a → slice_get ys k ≡ Some b → P a b) → P x y
    → (k : ℕ) (a : X) (b : Y) → k < place + 1 → slice_get xs k ≡ Some a → slice_get ys k ≡ Some b → P a b
pairs_more P place xs ys x y at_x at_y before here k a b below at_a at_b =
    ⊎_elim
    (λ earlier. before k a b earlier at_a at_b)
    (λ later.
    let same : k ≡ place = omega (arith, below, later) in
    subst (λ (z : _). P z b) (same_Some x a (sym at_x ∙ subst (λ (n : ℕ). slice_get xs n ≡ Some a) same at_a))
    (subst (P x) (same_Some y b (sym at_y ∙ subst (λ (n : ℕ). slice_get ys n ≡ Some b) same at_b)) here))
    (below_or_not k place)

-- a list that has at each place what is made of the element there
pub made_of : {X Y : Type 0} (f : X → Y) (xs : List X) (ys : List Y) → length ys ≡ length xs → ((k : ℕ) (x : X) → slice_get xs k ≡ Some x → slice_get ys k ≡ Some (f x))
    → ys ≡ map f xs
made_of f [] [] len at = refl
made_of f [] (y ∷ ys) len at = absurd (omega (arith, len))
made_of f (x ∷ xs) [] len at = absurd (omega (arith, len))
made_of f (x ∷ xs) (y ∷ ys) len at =
    let rest = made_of f xs ys (omega (arith, len)) (λ k z there. at (suc k) z there) in
    ap (λ h. h ∷ ys) (same_Some y (f x) (at zero x refl)) ∙ ap (λ t. f x ∷ t) rest

-- one more of them
pub made_more : {X Y : Type 0} (f : X → Y) (place : ℕ) (xs : List X) (ys : List Y) (x : X) → length ys ≡ place → slice_get xs place ≡ Some x
    → ((k : ℕ) (z : X) → k < place → slice_get xs k ≡ Some z → slice_get ys k ≡ Some (f z))
    → (k : ℕ) (z : X) → k < place + 1 → slice_get xs k ≡ Some z → slice_get (ys ++ f x ∷ []) k ≡ Some (f z)
made_more f place xs ys x len here before k z below there =
    ⊎_elim
    (λ earlier. get_more ys (f x ∷ []) k (f z) (before k z earlier there))
    (λ later.
    let same : k ≡ place = omega (arith, below, later) in
    let is = same_Some x z (sym here ∙ subst (λ (n : ℕ). slice_get xs n ≡ Some z) same there) in
    subst (λ (n : ℕ). slice_get (ys ++ f x ∷ []) n ≡ Some (f z)) (sym same) (get_last ys place (f x) len ∙ ap (λ (w : _). Some (f w)) is))
    (below_or_not k place)

-- one of them has changed, and each of the others is what it was
pub one_set : {X : Type 0} (R : ℕ → X → X → Type 0) (place : ℕ) (old : List X) (new was : X) → ((k : ℕ) (x : X) → R k x x) → slice_get old place ≡ Some was → R place was new
    → Each R old (slice_set old place new)
one_set R place old new was same at here = record {
  len = length-set old place new;
  each = λ k x y below there then.
      ⊎_elim
      (λ l. subst (λ (n : ℕ). R n x y) (sym l.0)
      (subst (R place x) (sym l.1) (subst (λ (z : _). R place z new) (same_Some was x (sym at ∙ subst (λ (n : ℕ). slice_get old n ≡ Some x) l.0 there)) here)))
      (λ r. subst (R k x) (same_Some x y (sym there ∙ r.1)) (same k x))
      (set_cases old place k new y then);
}

-- one change of them all after another
pub each_after : {X : Type 0} (R S T : ℕ → X → X → Type 0) (old mid new : List X) → ((k : ℕ) (a b c : X) → R k a b → S k b c → T k a c) → Each R old mid → Each S mid new → Each T old new
each_after R S T old mid new so first second = record {
  len = second.len ∙ first.len;
  each = λ k was is below there then.
      let len = first.len in
      let m = within_place mid k (omega (arith, below, len)) in
      so k was m.0 is (first.each k was m.0 below there m.1) (second.each k m.0 is (get_within mid k m.0 m.1) m.1 then);
}

-- what stays of each of them stays of all
pub each_map : {X Y : Type 0} (f : X → Y) (R : ℕ → X → X → Type 0) (old new : List X) → ((k : ℕ) (was is : X) → R k was is → f is ≡ f was) → Each R old new → map f new ≡ map f old
each_map f R old new so all =
    made_of f old (map f new) (length-map new f ∙ all.len)
    (λ k x there.
    let within = get_within old k x there in
    let len = all.len in
    let is = within_place new k (omega (arith, within, len)) in
    place_map f new k is.0 is.1 ∙ ap (λ (y : _). Some y) (so k x is.0 (all.each k x is.0 within there is.1)))
