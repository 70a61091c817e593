-- Stamps that rise strictly over a number lie as far over it as there are records.
use Rattle.std.proofs.Common.{◌≡◌, ℕ, zero, suc, ◌+◌, ◌<◌, ◌≤◌, List, [], ◌∷◌, map, length, subst, arith}
use Rattle.std.specs.{Prelude.slice_index, List.All, List.Sorted.IsStrictlyIncreasing}
use Rattle.mt_rows.specs.{declared.record.Record.Record, declared.record.Batch.Batch}
use Rattle.mt_batches.specs.Batches.{IsInOrder}

-- what is left of stamps that rise, rises
rest_rises : (r : Record) (rs : List Record) → IsStrictlyIncreasing (map (λ x. x.stamp) (r ∷ rs)) → IsStrictlyIncreasing (map (λ x. x.stamp) rs)
rest_rises r rs rises k lt =
    let stamps : List ℕ = map (λ x. x.stamp) (r ∷ rs) in
    let next : suc k + 1 ≡ suc (k + 1) = omega arith in
    subst (λ n. slice_index stamps (suc k) < slice_index stamps n) next (rises (suc k) (omega (arith, lt)))

-- the first one is over the number, and the next ones are over it
climbs : (from to : ℕ) (records : List Record) → from ≤ to → IsStrictlyIncreasing (map (λ r. r.stamp) records)
    → All (λ r. (from < r.stamp) × (r.stamp ≤ to)) records → from + length records ≤ to
climbs from to [] order rises within = omega (arith, order)
climbs from to (r ∷ []) order rises within = let first = within 0 r (omega arith) in omega (arith, first.0, first.1)
climbs from to (r ∷ s ∷ rs) order rises within =
    let first = within 0 r (omega arith) in
    let rest = climbs r.stamp to (s ∷ rs) first.1 (rest_rises r (s ∷ rs) rises)
    (λ k d lt. (over r (s ∷ rs) rises k d lt, (within (suc k) d (omega (arith, lt))).1)) in
    omega (arith, first.0, rest)
  where
    over : (q : Record) (qs : List Record) → IsStrictlyIncreasing (map (λ x. x.stamp) (q ∷ qs)) → All (λ x. q.stamp < x.stamp) qs
    over q [] h k d lt = absurd (omega (arith, lt))
    over q (p ∷ ps) h zero d lt = h 0 (omega arith)
    over q (p ∷ ps) h (suc k) d lt =
        let one : q.stamp < p.stamp = h 0 (omega arith) in
        let others = over p ps (rest_rises q (p ∷ ps) h) k d (omega (arith, lt)) in
        omega (arith, one, others)

-- a batch in order goes at least one step a record
pub goes_on : (b : Batch) → IsInOrder b → b.from + length b.records ≤ b.to
goes_on b h = climbs b.from b.to b.records h.order h.records.limits.stamps h.records.within
