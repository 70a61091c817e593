-- A log in which nothing falls rises: for `first_twice`, and the law that nothing falls just where logs join and rise.
use Rattle.std.proofs.Common.{◌≡◌, inl, inr, ◌∙◌, ap, ℕ, ◌≤◌, Bool, true, false, cond, List, [], ◌∷◌, ◌++◌, map, refl, sym, arith, Option, Some, None}
use Rattle.std.proofs.lemmas.Bool.{and_parts, eqb-true, ltb-true, ltb-false, not-true}
use Rattle.std.specs.List.{flat_map}
use Rattle.mt_rows.specs.declared.record.Record.{Record}
use Rattle.mt_log.specs.{declared.batch.LogBatch.LogBatch, declared.batch.LogBatch.TheVariants.{Records, OldRecords, Resume}, Contents.Contents, Falls.fall_in}
use Rattle.mt_crashes.{specs.Fronts.{In, Rise, records_in, records_of}, proofs.Members.no_some}
use Rattle.mt_recover.specs.Falls.{first_of, fall_behind, fall_of, with_worker, first_fall}

-- neither of two is there where the first that is there is none
pub none_first : {X : Type 0} (one other : Option X) → first_of one other ≡ None → (one ≡ None) × (other ≡ None)
none_first None other h = (refl, h)
none_first (Some x) other h = absurd (no_some x (sym h))

-- where the choice is none, the test held
pub tested : (b : Bool) (x : Option ℕ) (n : ℕ) → cond b x (Some n) ≡ None → (b ≡ true) × (x ≡ None)
tested true x n h = (refl, h)
tested false x n h = absurd (no_some n (sym h))

rise_lower : (low over : ℕ) (rs : List Record) → low ≤ over → Rise over rs → Rise low rs
rise_lower low over [] le h = tt
rise_lower low over (r ∷ rs) le h = (omega (arith, le, h.0), h.1)

-- stamps up to a number, and then stamps over it
rise_on : (last to : ℕ) (rs qs : List Record) → last ≤ to → fall_in last to (map (λ (r : Record). r.stamp) rs) ≡ None → Rise to qs → Rise last (rs ++ qs)
rise_on last to [] qs le h over = rise_lower last to qs le over
rise_on last to (r ∷ rs) qs le h over =
    let is = tested _ _ _ h in
    let tests = and_parts _ _ is.0 in
    (ltb-true last r.stamp tests.0, rise_on r.stamp to rs qs (omega (arith, ltb-false to r.stamp (not-true _ tests.1))) is.1 over)

-- batches behind a mark in which nothing falls rise over it
risen : (mark : ℕ) (bs : List LogBatch) → fall_behind mark bs ≡ None → Rise mark (flat_map records_in bs)
risen mark [] h = tt
risen mark (Records b ∷ bs) h =
    let both = none_first _ _ h in
    let is = tested _ _ _ both.0 in
    let tests = and_parts _ _ is.0 in
    rise_lower mark b.from _ (omega (arith, eqb-true b.from mark tests.0))
    (rise_on b.from b.to b.records (flat_map records_in bs) (omega (arith, ltb-false b.to b.from (not-true _ tests.1))) is.1 (risen b.to bs both.1))
risen mark (OldRecords b ∷ bs) h =
    let both = none_first _ _ h in
    let is = tested _ _ _ both.0 in
    let tests = and_parts _ _ is.0 in
    rise_lower mark b.from _ (omega (arith, eqb-true b.from mark tests.0))
    (rise_on b.from b.to b.records (flat_map records_in bs) (omega (arith, ltb-false b.to b.from (not-true _ tests.1))) is.1 (risen b.to bs both.1))
risen mark (Resume from to kept ∷ bs) h =
    let both = none_first _ _ h in
    let is = tested _ _ _ both.0 in
    let tests = and_parts _ _ is.0 in
    rise_lower mark to _ (omega (arith, eqb-true from mark tests.0, ltb-false to from (not-true _ (and_parts _ _ tests.1).0))) (risen to bs both.1)

with_none : (worker : ℕ) (fall : Option ℕ) → with_worker worker fall ≡ None → fall ≡ None
with_none worker None h = refl
with_none worker (Some stamp) h = absurd (no_some (worker, stamp) (sym h))

-- logs of which none falls: nothing falls in each, and each rises
pub front_falls_not : (fronts : List Contents) (f : Contents) → first_fall fronts ≡ None → In f fronts → fall_of f ≡ None
front_falls_not [] f h at = absurd at
front_falls_not (c ∷ cs) f h (inl e) = ap fall_of e ∙ with_none c.worker _ (none_first _ _ h).0
front_falls_not (c ∷ cs) f h (inr at) = front_falls_not cs f (none_first _ _ h).1 at

-- a log in which nothing falls rises
pub log_rises : (c : Contents) → fall_of c ≡ None → Rise 0 (records_of c)
log_rises c none = rise_lower 0 c.start _ (omega arith) (risen c.start c.batches none)

-- logs of which none falls
pub none_falls : (fronts : List Contents) → ((f : Contents) → In f fronts → fall_of f ≡ None) → first_fall fronts ≡ None
none_falls [] each = refl
none_falls (c ∷ cs) each = ap (λ (o : Option ℕ). first_of (with_worker c.worker o) (first_fall cs)) (each c (inl refl)) ∙ none_falls cs (λ f at. each f (inr at))
