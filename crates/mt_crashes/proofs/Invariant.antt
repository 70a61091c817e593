-- Parts of the invariant of a store: places of logs, numbers that rise, and what may be left of a log.
use Rattle.std.proofs.Common.{◌≡◌, ◌⊎◌, inl, inr, ⊎_elim, ℕ, zero, suc, ◌+◌, ◌<◌, ◌≤◌, Bool, true, false, cond, List, [], ◌∷◌, ◌++◌, map, length, refl, sym, ◌∙◌, ap, subst, arith, Some}
use Rattle.std.proofs.{lemmas.List.Elements.recursion_from_All, lemmas.Option.same_Some}
use Rattle.std.specs.{Prelude.{slice_get, slice_set}, List.{filter, flat_map, AllZip}}
use Rattle.mt_rows.specs.declared.record.Record.{Record}
use Rattle.mt_log.specs.{declared.batch.LogBatch.LogBatch, declared.batch.LogBatch.TheVariants.{Records, Resume, OldRecords}}
use Rattle.mt_log.specs.Contents.{Contents, Rises, Join, end_of, from_of, to_of, mark_of, with_batch, no_batches}
use Rattle.mt_crashes.specs.{Fronts.{records_in, In, Rise, HoldResume}, Histories.{Placed, changes_of}}
use Rattle.mt_crashes.specs.{Stores.{LogNow, at_rest, MayLeaveFront, new_logs, Reaches}, Invariants.{RisePlaced, Holds}}
use Rattle.mt_crashes.proofs.{Members.{no_some, in_either, all_at}, FrontLaws.{mark_more, resume_left}}

-- ---- places in a list

pub after_set : {X : Type 0} (xs : List X) (i k : ℕ) (y z : X) → slice_get (slice_set xs i y) k ≡ Some z
    → ((k ≡ i) × (z ≡ y)) ⊎ (slice_get xs k ≡ Some z)
after_set [] i k y z h = inr h
after_set (x ∷ xs) zero zero y z h = inl (refl, sym (same_Some y z h))
after_set (x ∷ xs) zero (suc k) y z h = inr h
after_set (x ∷ xs) (suc i) zero y z h = inr h
after_set (x ∷ xs) (suc i) (suc k) y z h = ⊎_elim (λ l. inl (ap suc l.0, l.1)) (λ r. inr r) (after_set xs i k y z h)

pub before_set : {X : Type 0} (xs : List X) (i k : ℕ) (y z : X) → slice_get xs k ≡ Some z
    → ((k ≡ i) × (slice_get (slice_set xs i y) k ≡ Some y)) ⊎ (slice_get (slice_set xs i y) k ≡ Some z)
before_set [] i k y z h = inr h
before_set (x ∷ xs) zero zero y z h = inl (refl, refl)
before_set (x ∷ xs) zero (suc k) y z h = inr h
before_set (x ∷ xs) (suc i) zero y z h = inr h
before_set (x ∷ xs) (suc i) (suc k) y z h = ⊎_elim (λ l. inl (ap suc l.0, l.1)) (λ r. inr r) (before_set xs i k y z h)

pub one_there : {X : Type 0} (xs : List X) (k : ℕ) (y z : X) → slice_get xs k ≡ Some y → slice_get xs k ≡ Some z → y ≡ z
one_there xs k y z a b = same_Some y z (sym a ∙ b)

pub within_place : {X : Type 0} (xs : List X) (k : ℕ) → k < length xs → (y : X) × (slice_get xs k ≡ Some y)
within_place [] k h = absurd (omega (arith, h))
within_place (x ∷ xs) zero h = (x, refl)
within_place (x ∷ xs) (suc k) h = within_place xs k (omega (arith, h))

pub map_place : {X Y : Type 0} (f : X → Y) (xs : List X) (k : ℕ) (y : Y) → slice_get (map f xs) k ≡ Some y
    → (x : X) × (slice_get xs k ≡ Some x) × (y ≡ f x)
map_place f [] k y h = absurd (no_some y h)
map_place f (x ∷ xs) zero y h = (x, refl, sym (same_Some (f x) y h))
map_place f (x ∷ xs) (suc k) y h = map_place f xs k y h

pub place_map : {X Y : Type 0} (f : X → Y) (xs : List X) (k : ℕ) (x : X) → slice_get xs k ≡ Some x → slice_get (map f xs) k ≡ Some (f x)
place_map f [] k x h = absurd (no_some x h)
place_map f (y ∷ xs) zero x h = ap (λ z. Some (f z)) (same_Some y x h)
place_map f (y ∷ xs) (suc k) x h = place_map f xs k x h

pub zip_left : {A B : Type 0} (R : A → B → Type 0) (xs : List A) (ys : List B) (k : ℕ) (x : A) → AllZip R xs ys → slice_get xs k ≡ Some x
    → (y : B) × (slice_get ys k ≡ Some y) × R x y
zip_left R [] ys k x all h = absurd (no_some x h)
zip_left R (a ∷ xs) [] k x all h = absurd all
zip_left R (a ∷ xs) (b ∷ ys) zero x all h = (b, refl, subst (λ z. R z b) (same_Some a x h) all.0)
zip_left R (a ∷ xs) (b ∷ ys) (suc k) x all h = zip_left R xs ys k x all.1 h

pub zip_right : {A B : Type 0} (R : A → B → Type 0) (xs : List A) (ys : List B) (k : ℕ) (y : B) → AllZip R xs ys → slice_get ys k ≡ Some y
    → (x : A) × (slice_get xs k ≡ Some x) × R x y
zip_right R [] [] k y all h = absurd (no_some y h)
zip_right R [] (b ∷ ys) k y all h = absurd all
zip_right R (a ∷ xs) [] k y all h = absurd all
zip_right R (a ∷ xs) (b ∷ ys) zero y all h = (a, refl, subst (R a) (same_Some b y h) all.0)
zip_right R (a ∷ xs) (b ∷ ys) (suc k) y all h = zip_right R xs ys k y all.1 h

-- ---- changes whose numbers rise

pub rise_lower : (low high : ℕ) (ps : List Placed) → low ≤ high → RisePlaced high ps → RisePlaced low ps
rise_lower low high [] le h = tt
rise_lower low high (p ∷ ps) le h = (omega (arith, h.0), h.1)

pub rise_filter : (test : Placed → Bool) (over : ℕ) (ps : List Placed) → RisePlaced over ps → RisePlaced over (filter test ps)
rise_filter test over [] h = tt
rise_filter test over (p ∷ ps) h = by (test p) (rise_filter test p.change.stamp ps h.1)
  where
    by : (b : Bool) → RisePlaced p.change.stamp (filter test ps) → RisePlaced over (cond b (p ∷ filter test ps) (filter test ps))
    by true rest = (h.0, rest)
    by false rest = rise_lower over p.change.stamp (filter test ps) (omega (arith, h.0)) rest

pub rise_push : (over n : ℕ) (ps : List Placed) (p : Placed) → RisePlaced over ps → over ≤ n → ((q : Placed) → In q ps → q.change.stamp ≤ n)
    → n < p.change.stamp → RisePlaced over (ps ++ p ∷ [])
rise_push over n [] p h le all up = (omega (arith, le, up), tt)
rise_push over n (q ∷ ps) p h le all up = (h.0, rise_push q.change.stamp n ps p h.1 (all q (inl refl)) (λ r at. all r (inr at)) up)

pub rise_over : (over : ℕ) (ps : List Placed) (p : Placed) → RisePlaced over ps → In p ps → over < p.change.stamp
rise_over over [] p h at = absurd at
rise_over over (q ∷ ps) p h (inl e) = subst (λ (x : Placed). over < x.change.stamp) (sym e) h.0
rise_over over (q ∷ ps) p h (inr at) = omega (arith, h.0, rise_over q.change.stamp ps p h.1 at)

-- one change has one number
pub same_stamp : (over : ℕ) (ps : List Placed) (p q : Placed) → RisePlaced over ps → In p ps → In q ps → p.change.stamp ≡ q.change.stamp → p ≡ q
same_stamp over [] p q h a b e = absurd a
same_stamp over (x ∷ ps) p q h (inl a) (inl b) e = a ∙ sym b
same_stamp over (x ∷ ps) p q h (inl a) (inr b) e =
    absurd (omega (arith, e, ap (λ (y : Placed). y.change.stamp) a, rise_over x.change.stamp ps q h.1 b))
same_stamp over (x ∷ ps) p q h (inr a) (inl b) e =
    absurd (omega (arith, e, ap (λ (y : Placed). y.change.stamp) b, rise_over x.change.stamp ps p h.1 a))
same_stamp over (x ∷ ps) p q h (inr a) (inr b) e = same_stamp x.change.stamp ps p q h.1 a b e

pub rise_changes : (over : ℕ) (ps : List Placed) → RisePlaced over ps → Rise over (changes_of ps)
rise_changes over [] h = tt
rise_changes over (p ∷ ps) h = (h.0, rise_changes p.change.stamp ps h.1)

-- two lists that rise and have the same members are one
pub rise_in : (over : ℕ) (rs : List Record) (r : Record) → Rise over rs → In r rs → over < r.stamp
rise_in over [] r h at = absurd at
rise_in over (q ∷ rs) r h (inl e) = subst (λ (x : Record). over < x.stamp) (sym e) h.0
rise_in over (q ∷ rs) r h (inr at) = omega (arith, h.0, rise_in q.stamp rs r h.1 at)

pub same_members : (over other : ℕ) (rs qs : List Record) → Rise over rs → Rise other qs → ((r : Record) → In r rs → In r qs)
    → ((r : Record) → In r qs → In r rs) → rs ≡ qs
same_members over other [] [] a b to from = refl
same_members over other [] (q ∷ qs) a b to from = absurd (from q (inl refl))
same_members over other (r ∷ rs) [] a b to from = absurd (to r (inl refl))
same_members over other (r ∷ rs) (q ∷ qs) a b to from =
    let heads = same_heads (to r (inl refl)) (from q (inl refl)) in
    (λ i. heads i ∷ same_members r.stamp q.stamp rs qs a.1 b.1 (λ x at. later x at (to x (inr at)) heads)
    (λ x at. earlier x at (from x (inr at)) heads) i)
  where
    same_heads : In r (q ∷ qs) → In q (r ∷ rs) → r ≡ q
    same_heads (inl e) h = e
    same_heads (inr at) (inl e) = sym e
    same_heads (inr at) (inr back) = absurd (omega (arith, rise_in q.stamp qs r b.1 at, rise_in r.stamp rs q a.1 back))

    later : (x : Record) → In x rs → In x (q ∷ qs) → r ≡ q → In x qs
    later x at (inl e) heads = absurd (omega (arith, rise_in r.stamp rs x a.1 at, ap (λ (y : Record). y.stamp) e, ap (λ (y : Record). y.stamp) heads))
    later x at (inr h) heads = h

    earlier : (x : Record) → In x qs → In x (r ∷ rs) → r ≡ q → In x rs
    earlier x at (inl e) heads =
        absurd (omega (arith, rise_in q.stamp qs x b.1 at, ap (λ (y : Record). y.stamp) e, ap (λ (y : Record). y.stamp) heads))
    earlier x at (inr h) heads = h

-- ---- a log's own numbers

end_from : (mark : ℕ) (bs : List LogBatch) → Join mark bs → mark ≤ end_of mark bs
end_from mark [] h = omega arith
end_from mark (b ∷ bs) h = omega (arith, h.0, order b h.1, end_from (to_of b) bs h.2)
  where
    order : (b : LogBatch) → Rises b → from_of b ≤ to_of b
    order (Records b) is = is.0
    order (OldRecords b) is = is.0
    order (Resume from to kept) is = is.0

pub resume_upto_mark : (n mark : ℕ) (bs : List LogBatch) → Join mark bs → HoldResume n bs → n ≤ end_of mark bs
resume_upto_mark n mark [] h at = absurd at
resume_upto_mark n mark (Records b ∷ bs) h (inl none) = absurd none
resume_upto_mark n mark (OldRecords b ∷ bs) h (inl none) = absurd none
resume_upto_mark n mark (Resume from to kept ∷ bs) h (inl e) = omega (arith, e, end_from to bs h.2)
resume_upto_mark n mark (b ∷ bs) h (inr at) = resume_upto_mark n (to_of b) bs h.2 at

pub stamp_upto_mark : (mark : ℕ) (bs : List LogBatch) (r : Record) → Join mark bs → In r (flat_map records_in bs) → r.stamp ≤ end_of mark bs
stamp_upto_mark mark [] r h at = absurd at
stamp_upto_mark mark (b ∷ bs) r h at =
    ⊎_elim (λ l. omega (arith, in_batch b h.1 l, end_from (to_of b) bs h.2)) (λ m. stamp_upto_mark (to_of b) bs r h.2 m)
    (in_either r (records_in b) (flat_map records_in bs) at)
  where
    in_batch : (b : LogBatch) → Rises b → In r (records_in b) → r.stamp ≤ to_of b
    in_batch (Records b) is l = (all_at (λ x. (b.from < x.stamp) × (x.stamp ≤ b.to)) r b.records (recursion_from_All _ b.records is.1.within) l).1
    in_batch (OldRecords b) is l = (all_at (λ x. (b.from < x.stamp) × (x.stamp ≤ b.to)) r b.records (recursion_from_All _ b.records is.1.within) l).1
    in_batch (Resume from to kept) is l = absurd l

-- ---- what may be left of a log

pub left_at_rest : (front left : Contents) → MayLeaveFront (at_rest front) left → left ≡ front
left_at_rest front left (inl e) = e
left_at_rest front left (inr h) = absurd (no_some h.0 h.1)

pub reaches_more : (n : ℕ) (had : Contents) (b : LogBatch) → Reaches n (at_rest had) → mark_of had ≤ to_of b
    → Reaches n (record { had = had; doubt = Some b })
reaches_more n had b before on left (inl e) = before left (inl e)
reaches_more n had b before on left (inr h) =
    let goes : n ≤ to_of b = omega (arith, before had (inl refl), on) in
    subst (λ (x : Contents). n ≤ mark_of x) (sym h.2)
    (subst (λ (c : LogBatch). n ≤ mark_of (with_batch c had)) (same_Some b h.0 h.1) (subst (λ (m : ℕ). n ≤ m) (sym (mark_more b had)) goes))

pub holds_more : (n : ℕ) (had : Contents) (b : LogBatch) → Holds n (at_rest had) → Holds n (record { had = had; doubt = Some b })
holds_more n had b before left (inl e) = before left (inl e)
holds_more n had b before left (inr h) =
    subst (λ (x : Contents). HoldResume n x.batches) (sym h.2)
    (subst (λ (c : LogBatch). HoldResume n (with_batch c had).batches) (same_Some b h.0 h.1) (resume_left n b had.batches (before had (inl refl))))

pub new_at : (count first n worker : ℕ) (log : LogNow) → slice_get (new_logs count first n) worker ≡ Some log
    → (log ≡ at_rest (no_batches (first + worker) count)) × (worker < n)
new_at count first zero worker log h = absurd (no_some log h)
new_at count first (suc n) zero log h = (sym (same_Some _ log h) ∙ ap (λ (m : ℕ). at_rest (no_batches m count)) (omega arith), omega arith)
new_at count first (suc n) (suc worker) log h =
    let rest = new_at count (suc first) n worker log h in
    (rest.0 ∙ ap (λ (m : ℕ). at_rest (no_batches m count)) (omega arith), omega (arith, rest.1))

pub new_long : (count first n : ℕ) → length (new_logs count first n) ≡ n
new_long count first zero = refl
new_long count first (suc n) = ap suc (new_long count (suc first) n)
