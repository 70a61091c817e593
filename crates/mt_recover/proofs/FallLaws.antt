-- Nothing falls in a log just where its batches join and its stamps rise: for the laws.
use Rattle.std.proofs.Common.{◌≡◌, ℕ, suc, ◌<◌, ◌≤◌, Bool, true, cond, get_or, List, [], ◌∷◌, length, refl, sym, ◌∙◌, ap, subst, arith, Option, Some, None}
use Rattle.std.proofs.lemmas.Bool.{and_parts, and_from, eqb-true, eq-eqb, ltb-true, ltb-false, lt-ltb, le-ltb, not-true, not_from_false}
use Rattle.std.proofs.lemmas.List.Elements.{All-nil, All-cons, All-head, All-tail, All-weaker}
use Rattle.std.specs.{List.All, List.Sorted.IsStrictlyIncreasing}
use Rattle.mt_rows.specs.declared.record.Record.{Record}
use Rattle.mt_log.specs.{declared.batch.LogBatch.LogBatch, declared.batch.LogBatch.TheVariants.{Records, OldRecords, Resume}}
use Rattle.mt_log.specs.{Contents.{Contents, Rises, Join, JoinsAndRises, from_of, to_of}, Falls.fall_in}
use Rattle.mt_log.proofs.Tests.{stamps, Within, suc_more, rising_more, first_within}
use Rattle.mt_recover.{specs.Falls.{first_of, goes_on, stamp_fall, fall_behind, fall_of}, proofs.FallLemmas.{none_first, tested}}

-- ---- records in order

in_order : (last to : ℕ) (rs : List Record) → fall_in last to (stamps rs) ≡ None → IsStrictlyIncreasing (stamps rs) × All (Within last to) rs
in_order last to [] h = (λ k lt. absurd (omega arith), All-nil (Within last to))
in_order last to (r ∷ rs) h =
    let is = tested _ _ _ h in
    let tests = and_parts _ _ is.0 in
    let over : last < r.stamp = ltb-true last r.stamp tests.0 in
    let rest = in_order r.stamp to rs is.1 in (
      rising_more r.stamp (stamps rs) (first_within r.stamp to rs rest.1) rest.0,
      All-cons (Within last to) r rs (over, ltb-false to r.stamp (not-true _ tests.1)) (All-weaker (Within r.stamp to) (Within last to) (λ x h. (omega (arith, over, h.0), h.1)) rs rest.1),
    )

no_fall : (last to : ℕ) (rs : List Record) → (0 < length (stamps rs) → last < get_or (stamps rs) 0 0) → IsStrictlyIncreasing (stamps rs) → All (λ (r : Record). r.stamp ≤ to) rs → fall_in last to (stamps rs) ≡ None
no_fall last to [] over rising upto = refl
no_fall last to (r ∷ rs) over rising upto =
    let small : r.stamp ≤ to = All-head (λ (x : Record). x.stamp ≤ to) r rs upto in
    let rest = no_fall r.stamp to rs (λ lt. rising 0 (omega arith))
    (λ k lt. subst (λ j. get_or (stamps (r ∷ rs)) (suc k) 0 < get_or (stamps (r ∷ rs)) j 0) (sym (suc_more k)) (rising (suc k) (omega arith)))
    (All-tail (λ (x : Record). x.stamp ≤ to) r rs upto) in
    ap (λ (b : Bool). cond b (fall_in r.stamp to (stamps rs)) (Some r.stamp)) (and_from _ _ (lt-ltb last r.stamp (over (omega arith))) (not_from_false _ (le-ltb to r.stamp small))) ∙ rest

-- ---- batches

risen_batch : (b : LogBatch) → goes_on b ≡ true → stamp_fall b ≡ None → Rises b
risen_batch (Records b) on none =
    let order = in_order b.from b.to b.records none in
    (ltb-false b.to b.from (not-true _ on), record { rising = order.0; within = order.1 })
risen_batch (OldRecords b) on none =
    let order = in_order b.from b.to b.records none in
    (ltb-false b.to b.from (not-true _ on), record { rising = order.0; within = order.1 })
risen_batch (Resume from to kept) on none =
    let tests = and_parts _ _ on in
    (ltb-false to from (not-true _ tests.0), ltb-false to kept (not-true _ tests.1))

forward : (b : LogBatch) → Rises b → (goes_on b ≡ true) × (stamp_fall b ≡ None)
forward (Records b) is = (
  not_from_false _ (le-ltb b.to b.from is.0),
  no_fall b.from b.to b.records (first_within b.from b.to b.records is.1.within) is.1.rising (All-weaker (Within b.from b.to) (λ (r : Record). r.stamp ≤ b.to) (λ r h. h.1) b.records is.1.within),
)
forward (OldRecords b) is = (
  not_from_false _ (le-ltb b.to b.from is.0),
  no_fall b.from b.to b.records (first_within b.from b.to b.records is.1.within) is.1.rising (All-weaker (Within b.from b.to) (λ (r : Record). r.stamp ≤ b.to) (λ r h. h.1) b.records is.1.within),
)
forward (Resume from to kept) is = (and_from _ _ (not_from_false _ (le-ltb to from is.0)) (not_from_false _ (le-ltb to kept is.1)), refl)

joins_behind : (mark : ℕ) (bs : List LogBatch) → fall_behind mark bs ≡ None → Join mark bs
joins_behind mark [] h = tt
joins_behind mark (b ∷ bs) h =
    let both = none_first _ _ h in
    let is = tested _ _ _ both.0 in
    let tests = and_parts _ _ is.0 in
    (eqb-true (from_of b) mark tests.0, risen_batch b tests.1 is.1, joins_behind (to_of b) bs both.1)

none_behind : (mark : ℕ) (bs : List LogBatch) → Join mark bs → fall_behind mark bs ≡ None
none_behind mark [] h = refl
none_behind mark (b ∷ bs) h =
    let on = forward b h.1 in
    ap (λ (o : Option ℕ). first_of o (fall_behind (to_of b) bs)) (ap (λ (t : Bool). cond t (stamp_fall b) (Some (from_of b))) (and_from _ _ (eq-eqb (from_of b) mark h.0) on.0) ∙ on.1)
    ∙ none_behind (to_of b) bs h.2

pub joins_and_rises : (c : Contents) → fall_of c ≡ None → JoinsAndRises c
joins_and_rises c h = joins_behind c.start c.batches h

pub none_falls : (c : Contents) → JoinsAndRises c → fall_of c ≡ None
none_falls c h = none_behind c.start c.batches h
