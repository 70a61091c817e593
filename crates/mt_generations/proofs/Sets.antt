-- What is left of the logs of a store is a set of chains, and refused for nothing.
use Rattle.std.proofs.Common.{◌≡◌, ◌⊎◌, inl, inr, ⊎_elim, ℕ, ◌<◌, ◌≤◌, List, [], ◌∷◌, ◌++◌, length, refl, sym, ◌∙◌, ap, subst, arith, Some}
use Rattle.std.specs.{Prelude.slice_get, List.{AllZip, flat_map}}
use Rattle.std.proofs.lemmas.Grind.{flat_map-append}
use Rattle.mt_rows.specs.declared.record.Record.{Record}
use Rattle.mt_log.specs.{declared.batch.LogBatch.LogBatch, declared.batch.LogBatch.TheVariants.{Records, Resume, OldRecords}}
use Rattle.mt_log.specs.Contents.{Contents, JoinsAndRises, Join, end_of}
use Rattle.mt_crashes.specs.Fronts.{In, records_in, records_of, HoldResume, RecordsFollow, AnyServed}
use Rattle.mt_crashes.specs.{Recoveries.{AreSet, StandsTwice}, Stores.{Store, MayLeaveFront, MayLeaveFronts}, Invariants.IsStore}
use Rattle.mt_crashes.proofs.{Members.{in_right, in_place, place_in}, Invariant.{zip_right, resume_upto_mark}}
use Rattle.mt_generations.specs.Chains.{Chain, EndsLog, NoneOlderOver}
use Rattle.mt_generations.proofs.{Parts.{join_left, join_right, chain_joins}, Whole.{front_of, all_join}}

-- ---- one chain

-- what it records, the whole log does
record_up : (log : Contents) (c : Chain) → EndsLog log c → (r : Record) → In r (records_of c) → In r (records_of log)
record_up log c e r at =
    subst (In r) (sym (ap (λ (bs : List LogBatch). flat_map records_in bs) e.parts ∙ flat_map-append records_in e.given c.batches))
    (in_right r (flat_map records_in e.given) (records_of c) at)

-- a resume batch in one of two parts
hold_either : (n : ℕ) (bs cs : List LogBatch) → HoldResume n (bs ++ cs) → HoldResume n bs ⊎ HoldResume n cs
hold_either n [] cs h = inr h
hold_either n (b ∷ bs) cs (inl to) = inl (inl to)
hold_either n (b ∷ bs) cs (inr h) = ⊎_elim (λ l. inl (inr l)) (λ r. inr r) (hold_either n bs cs h)

-- it stands in the first part, or it stands with records after it in the second one
follow_either : (n : ℕ) (bs cs : List LogBatch) → RecordsFollow n (bs ++ cs) → HoldResume n bs ⊎ RecordsFollow n cs
follow_either n [] cs h = inr h
follow_either n (b ∷ bs) cs (inl two) = inl (inl two.0)
follow_either n (b ∷ bs) cs (inr h) = ⊎_elim (λ l. inl (inr l)) (λ r. inr r) (follow_either n bs cs h)

follow_right : (n : ℕ) (bs cs : List LogBatch) → RecordsFollow n cs → RecordsFollow n (bs ++ cs)
follow_right n [] cs h = h
follow_right n (b ∷ bs) cs h = inr (follow_right n bs cs h)

follow_hold : (n : ℕ) (bs : List LogBatch) → RecordsFollow n bs → HoldResume n bs
follow_hold n [] h = absurd h
follow_hold n (b ∷ bs) (inl two) = inl two.0
follow_hold n (b ∷ bs) (inr h) = inr (follow_hold n bs h)

-- a resume batch ends at the mark or later
resume_over : (n mark : ℕ) (bs : List LogBatch) → Join mark bs → HoldResume n bs → mark ≤ n
resume_over n mark [] j h = absurd h
resume_over n mark (Records b ∷ bs) j (inl none) = absurd none
resume_over n mark (OldRecords b ∷ bs) j (inl none) = absurd none
resume_over n mark (Resume from to kept ∷ bs) j (inl e) = omega (arith, j.0, j.1.0, e)
resume_over n mark (Records b ∷ bs) j (inr h) = omega (arith, j.0, j.1.0, resume_over n b.to bs j.2 h)
resume_over n mark (OldRecords b ∷ bs) j (inr h) = omega (arith, j.0, j.1.0, resume_over n b.to bs j.2 h)
resume_over n mark (Resume from to kept ∷ bs) j (inr h) = omega (arith, j.0, j.1.0, resume_over n to bs j.2 h)

-- ---- all chains

same_long : (fronts : List Contents) (chains : List Chain) → AllZip EndsLog fronts chains → length chains ≡ length fronts
same_long [] [] all = refl
same_long [] (c ∷ chains) all = absurd all
same_long (f ∷ fronts) [] all = absurd all
same_long (f ∷ fronts) (c ∷ chains) all = omega (arith, same_long fronts chains all.1)

module _ (fronts : List Contents) (chains : List Chain) (ends : AllZip EndsLog fronts chains) where
  -- the log of a chain
  log_at : (k : ℕ) (c : Chain) → slice_get chains k ≡ Some c → (f : Contents) × (slice_get fronts k ≡ Some f) × EndsLog f c
  log_at k c there = zip_right EndsLog fronts chains k c ends there

  pub chains_set : AreSet fronts → AreSet chains
  chains_set set = record {
    some = omega (arith, set.some, same_long fronts chains ends);
    count = λ k x there. let f = log_at k x there in
        f.2.owner.1 ∙ set.count k f.0 f.1 ∙ sym (same_long fronts chains ends);
    apart = λ i j x y at_x at_y same. let f = log_at i x at_x in let g = log_at j y at_y in
        set.apart i j f.0 g.0 f.1 g.1 (sym f.2.owner.0 ∙ same ∙ g.2.owner.0);
  }

  pub chains_apart : (stamp i j : ℕ) → StandsTwice chains stamp i j → StandsTwice fronts stamp i j
  chains_apart stamp i j t = record { other = t.other; one = up i t.one.0 t.one.1 t.one.2 t.one.3 t.one.4; two = up j t.two.0 t.two.1 t.two.2 t.two.3 t.two.4 }
    where
      up : (k : ℕ) (x : Contents) (r : Record) → slice_get chains k ≡ Some x → In r (records_of x) → r.stamp ≡ stamp
          → (f : Contents) × (q : Record) × (slice_get fronts k ≡ Some f) × In q (records_of f) × (q.stamp ≡ stamp)
      up k x r there at is =
          let f = log_at k x there in
          (f.0, r, f.1, record_up f.0 x f.2 r at, is)

  pub chains_join : (s : Store) → IsStore s → MayLeaveFronts s.logs fronts → (k : ℕ) (c : Chain) → slice_get chains k ≡ Some c → JoinsAndRises c
  chains_join s is left k c there =
      let f = zip_right EndsLog fronts chains k c ends there in chain_joins f.0 c f.2 (all_join s fronts is left f.0 (place_in f.0 k fronts f.1))

  pub chains_own : (s : Store) → IsStore s → MayLeaveFronts s.logs fronts → (k : ℕ) (c : Chain) → slice_get chains k ≡ Some c → c.worker ≡ k
  chains_own s is left k c there =
      let f = zip_right EndsLog fronts chains k c ends there in f.2.owner.0 ∙ (front_of s fronts k f.0 is left f.1).owner.0

  module _ (s : Store) (is : IsStore s) (left : MayLeaveFronts s.logs fronts) (n : ℕ) (over : 0 < n) where
    -- the last number that a chain tells is the last that its whole log tells
    all_level : (c : Chain) → In c chains → RecordsFollow n c.batches → ((m : ℕ) → AnyServed chains m → m ≤ n)
        → (g : Contents) (j : ℕ) → slice_get fronts j ≡ Some g → HoldResume n g.batches
    all_level c in_c follow last g j at_g =
        let i = in_place c chains in_c in
        let f = zip_right EndsLog fronts chains i.0 c ends i.1 in
        let one = zip_right MayLeaveFront s.logs fronts i.0 f.0 left f.1 in
        let other = zip_right MayLeaveFront s.logs fronts j g left at_g in
        let served = subst (RecordsFollow n) (sym f.2.parts) (follow_right n f.2.given c.batches follow) in
        let level = is.level i.0 one.0 one.1 f.0 one.2 n over served in
        let joins = subst (Join f.0.start) f.2.parts (front_of s fronts i.0 f.0 is left f.1).joins in
        let upto : level.0 ≤ n = ⊎_elim
        (λ before. omega (
          arith,
          resume_upto_mark level.0 f.0.start f.2.given (join_left f.0.start f.2.given c.batches joins) before,
          resume_over n (end_of f.0.start f.2.given) c.batches (join_right f.0.start f.2.given c.batches joins) (follow_hold n c.batches follow),
        ))
        (λ after. last level.0 (c, in_c, after))
        (follow_either level.0 f.2.given c.batches (subst (RecordsFollow level.0) f.2.parts level.2)) in
        subst (λ (m : ℕ). HoldResume m g.batches) (omega (arith, upto, level.1)) (level.3 j other.0 other.1 g other.2)

  pub none_older_over : (s : Store) → IsStore s → MayLeaveFronts s.logs fronts → NoneOlderOver chains
  none_older_over s is left n d over last in_d =
      let j = in_place d chains in_d in
      let g = zip_right EndsLog fronts chains j.0 d ends j.1 in
      let hold = all_level s is left n over last.0.0 last.0.1 last.0.2 last.1 g.0 j.0 g.1 in
      let joins = subst (Join g.0.start) g.2.parts (front_of s fronts j.0 g.0 is left g.1).joins in
      ⊎_elim
      (λ before. inr (omega (arith, g.2.start, resume_upto_mark n g.0.start g.2.given (join_left g.0.start g.2.given d.batches joins) before)))
      (λ after. inl after)
      (hold_either n g.2.given d.batches (subst (HoldResume n) g.2.parts hold))
