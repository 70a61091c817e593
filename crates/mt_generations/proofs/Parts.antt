-- A chain and the whole log that it ends: where they end, what they make void, and which of their records count.
use Rattle.std.proofs.Common.{◌≡◌, ◌⊎◌, inl, inr, ⊎_elim, ℕ, ◌<◌, ◌≤◌, Bool, true, false, not, ltb, ◌||◌, cond, List, [], ◌∷◌, ◌++◌, map, refl, sym, ◌∙◌, ap, subst, arith}
use Rattle.std.proofs.lemmas.{Bool.{ltb-true, ltb-false, and_parts, not-true, or_cases, true≢false}, Grind.flat_map-append}
use Rattle.std.proofs.lemmas.List.{Elements.{filter-append, filter_map-append}, Folds.list_any-append}
use Rattle.std.specs.List.{AllZip, filter, filter_map, flat_map}
use Rattle.mt_rows.specs.declared.record.Record.{Record}
use Rattle.mt_log.specs.{declared.batch.LogBatch.LogBatch, declared.batch.LogBatch.TheVariants.{Records, Resume, OldRecords}}
use Rattle.mt_log.specs.Contents.{Contents, JoinsAndRises, Join, Rises, from_of, to_of, end_of, mark_of}
use Rattle.mt_crashes.specs.Fronts.{Numbers, In, voids_in, is_void, voids_of, all_voids, records_in, records_of, all_records}
use Rattle.mt_crashes.proofs.Invariant.{stamp_upto_mark}
use Rattle.mt_generations.specs.Chains.{Chain, EndsLog}

-- ---- batches in two parts

pub end_joined : (mark : ℕ) (bs cs : List LogBatch) → end_of mark (bs ++ cs) ≡ end_of (end_of mark bs) cs
end_joined mark [] cs = refl
end_joined mark (b ∷ bs) cs = end_joined (to_of b) bs cs

pub join_left : (mark : ℕ) (bs cs : List LogBatch) → Join mark (bs ++ cs) → Join mark bs
join_left mark [] cs j = tt
join_left mark (b ∷ bs) cs j = (j.0, j.1, join_left (to_of b) bs cs j.2)

pub join_right : (mark : ℕ) (bs cs : List LogBatch) → Join mark (bs ++ cs) → Join (end_of mark bs) cs
join_right mark [] cs j = j
join_right mark (b ∷ bs) cs j = join_right (to_of b) bs cs j.2

pub end_from : (mark : ℕ) (bs : List LogBatch) → Join mark bs → mark ≤ end_of mark bs
end_from mark [] j = omega arith
end_from mark (b ∷ bs) j = omega (arith, j.0, order b j.1, end_from (to_of b) bs j.2)
  where
    order : (b : LogBatch) → Rises b → from_of b ≤ to_of b
    order (Records b) is = is.0
    order (OldRecords b) is = is.0
    order (Resume from to kept) is = is.0

-- batches that join make no number void over their end, and not 0
void_within : (mark n : ℕ) (bs : List LogBatch) → Join mark bs → is_void (filter_map voids_in bs) n ≡ true → (0 < n) × (n ≤ end_of mark bs)
void_within mark n [] j h = absurd (true≢false (sym h))
void_within mark n (Records b ∷ bs) j h = void_within b.to n bs j.2 h
void_within mark n (OldRecords b ∷ bs) j h = void_within b.to n bs j.2 h
void_within mark n (Resume from to kept ∷ bs) j h = ⊎_elim (λ l. here (and_parts _ _ l).0 (and_parts _ _ l).1) (λ r. void_within to n bs j.2 r) (or_cases _ _ h)
  where
    here : ltb kept n ≡ true → not (ltb to n) ≡ true → (0 < n) × (n ≤ end_of to bs)
    here over upto = (omega (arith, ltb-true kept n over), omega (arith, ltb-false to n (not-true _ upto), end_from to bs j.2))

-- ---- one chain

pub same_end : (log : Contents) (c : Chain) → EndsLog log c → mark_of c ≡ mark_of log
same_end log c e = ap (λ (n : ℕ). end_of n c.batches) e.start ∙ sym (end_joined log.start e.given c.batches) ∙ ap (λ (bs : List LogBatch). end_of log.start bs) (sym e.parts)

-- a number is over a start, or nothing was given up
abbrev pub IsAfter : ℕ → ℕ → Type 0
IsAfter start n = (start ≡ 0) ⊎ (start < n)

module _ (log : Contents) (c : Chain) (e : EndsLog log c) (joins : JoinsAndRises log) where
  given_joins : Join log.start e.given
  given_joins = join_left log.start e.given c.batches (subst (Join log.start) e.parts joins)

  pub chain_joins : JoinsAndRises c
  chain_joins = subst (λ (n : ℕ). Join n c.batches) (sym e.start) (join_right log.start e.given c.batches (subst (Join log.start) e.parts joins))

  given_void : (n : ℕ) → IsAfter c.start n → is_void (filter_map voids_in e.given) n ≡ false
  given_void n after = by (is_void (filter_map voids_in e.given) n) refl
    where
      by : (b : Bool) → is_void (filter_map voids_in e.given) n ≡ b → b ≡ false
      by false h = refl
      by true h =
          let w = void_within log.start n e.given given_joins h in
          absurd (⊎_elim (λ none. omega (arith, none, e.start, w.0, w.1)) (λ over. omega (arith, over, e.start, w.1)) after)

  -- over the start a number is void by the chain just if it is by the log
  one_void : (n : ℕ) → IsAfter c.start n → is_void (voids_of c) n ≡ is_void (voids_of log) n
  one_void n after =
      sym (ap (λ (bs : List LogBatch). is_void (filter_map voids_in bs) n) e.parts
      ∙ ap (λ (vs : List Numbers). is_void vs n) (filter_map-append voids_in e.given c.batches)
      ∙ list_any-append _ (filter_map voids_in e.given) (voids_of c)
      ∙ ap (λ (b : Bool). b || is_void (voids_of c) n) (given_void n after))

  -- the records that were given up are of stamps up to the start
  one_filter : (test : Record → Bool) → ((r : Record) → r.stamp ≤ c.start → test r ≡ false) → filter test (records_of c) ≡ filter test (records_of log)
  one_filter test low =
      sym (ap (λ (bs : List LogBatch). filter test (flat_map records_in bs)) e.parts
      ∙ ap (filter test) (flat_map-append records_in e.given c.batches)
      ∙ filter-append test (flat_map records_in e.given) (records_of c)
      ∙ ap (λ (rs : List Record). rs ++ filter test (records_of c))
      (none_pass (flat_map records_in e.given) (λ r at. low r (omega (arith, e.start, stamp_upto_mark log.start e.given r given_joins at)))))
    where
      none_pass : (rs : List Record) → ((r : Record) → In r rs → test r ≡ false) → filter test rs ≡ []
      none_pass [] h = refl
      none_pass (r ∷ rs) h = ap (λ (b : Bool). cond b (r ∷ filter test rs) (filter test rs)) (h r (inl refl)) ∙ none_pass rs (λ q at. h q (inr at))

-- ---- all chains

abbrev pub AllJoin : List Contents → Type 0
AllJoin fronts = (f : Contents) → In f fronts → JoinsAndRises f

pub same_ends : (fronts : List Contents) (chains : List Chain) → AllZip EndsLog fronts chains → map mark_of chains ≡ map mark_of fronts
same_ends [] [] all = refl
same_ends [] (c ∷ chains) all = absurd all
same_ends (f ∷ fronts) [] all = absurd all
same_ends (f ∷ fronts) (c ∷ chains) all = let head = same_end f c all.0 in let rest = same_ends fronts chains all.1 in λ i. head i ∷ rest i

pub same_void : (fronts : List Contents) (chains : List Chain) (n : ℕ) → AllZip EndsLog fronts chains → AllJoin fronts → ((c : Chain) → In c chains → IsAfter c.start n)
    → is_void (all_voids chains) n ≡ is_void (all_voids fronts) n
same_void [] [] n all join after = refl
same_void [] (c ∷ chains) n all join after = absurd all
same_void (f ∷ fronts) [] n all join after = absurd all
same_void (f ∷ fronts) (c ∷ chains) n all join after =
    let head = one_void f c all.0 (join f (inl refl)) n (after c (inl refl)) in
    let rest = same_void fronts chains n all.1 (λ g at. join g (inr at)) (λ d at. after d (inr at)) in
    list_any-append _ (voids_of c) (all_voids chains) ∙ (λ i. head i || rest i) ∙ sym (list_any-append _ (voids_of f) (all_voids fronts))

-- a test that no record up to the starts passes
pub same_filter : (fronts : List Contents) (chains : List Chain) (test : Record → Bool) → AllZip EndsLog fronts chains → AllJoin fronts
    → ((c : Chain) → In c chains → (r : Record) → r.stamp ≤ c.start → test r ≡ false) → filter test (all_records chains) ≡ filter test (all_records fronts)
same_filter [] [] test all join low = refl
same_filter [] (c ∷ chains) test all join low = absurd all
same_filter (f ∷ fronts) [] test all join low = absurd all
same_filter (f ∷ fronts) (c ∷ chains) test all join low =
    let head = one_filter f c all.0 (join f (inl refl)) test (low c (inl refl)) in
    let rest = same_filter fronts chains test all.1 (λ g at. join g (inr at)) (λ d at. low d (inr at)) in
    filter-append test (records_of c) (all_records chains) ∙ (λ i. head i ++ rest i) ∙ sym (filter-append test (records_of f) (all_records fronts))
