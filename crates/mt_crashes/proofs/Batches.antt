-- A store keeps its invariant as a batch begins in one of its logs, and as that log comes to rest.
use Rattle.std.proofs.Common.{◌≡◌, ◌⊎◌, inl, inr, ⊎_elim, ℕ, ◌<◌, ◌≤◌, true, false, not, ◌==◌, [], ◌∷◌, refl, sym, ◌∙◌, ap, subst, arith, Some}
use Rattle.std.proofs.{lemmas.Bool.{lt-ltb, le-ltb, and_parts, and_from, eqb-true, eq-eqb, not_from_false, cases_lt, true≢false}, lemmas.Option.same_Some}
use Rattle.mt_rows.specs.declared.record.Record.{Record}
use Rattle.mt_log.specs.{declared.batch.LogBatch.LogBatch, declared.batch.LogBatch.TheVariants.{Records, Resume}, Contents.{Contents, mark_of, with_batch}}
use Rattle.mt_log.proofs.FrontLaws.{contents_more, in_format, batch_in_order, in_steps, join_more}
use Rattle.mt_crashes.specs.{Fronts.{is_void, voids_of, records_of, In, HoldResume, ServedFrom}, Histories.Placed}
use Rattle.mt_crashes.specs.Stores.{Store, at_rest, MayLeaveFront, is_between, Appends, Rests, Resumes}
use Rattle.mt_crashes.specs.Invariants.{by_worker, IsFrontOf, Guards, IsLevel, IsStore}
use Rattle.mt_crashes.proofs.Members.{in_filter, filter_in, in_map, map_in}
use Rattle.mt_crashes.proofs.FrontLaws.{mark_more, in_more, more_left, more_right, resume_more, served_more, served_left, served_last, void_left, void_right, void_either, void_from, void_cases}
use Rattle.mt_crashes.proofs.{Invariant.{left_at_rest, reaches_more, holds_more}, OneLog.{Replaces, with_log, replaces}}

same_number : (n : ℕ) → (n == n) ≡ true
same_number n = eq-eqb n n refl

same_placed : (p : Placed) (worker : ℕ) (r : Record) → p.worker ≡ worker → r ≡ p.change → p ≡ by_worker worker r
same_placed p worker r mine e = λ i. record { worker = mine i; change = back i }
  where
    back : p.change ≡ r
    back = sym e

-- an append begins
pub appended : (old new : Store) (h : Appends old new) → IsStore old
    → Replaces old h.worker (at_rest h.had) (record { had = h.had; doubt = Some (Records h.batch) })
appended old new h is = record {
  there = h.rests;
  fronts = fronts;
  guards = guards;
  reaches = λ n before. reaches_more n h.had (Records h.batch) before (omega (arith, h.turn, h.fits.order));
  holds = λ n before. holds_more n h.had (Records h.batch) before;
  served = served;
}
  where
    b : LogBatch
    b = Records h.batch

    was : IsFrontOf old h.worker h.had
    was = is.logs h.worker (at_rest h.had) h.rests h.had (inl refl)

    was_level : (n : ℕ) → 0 < n → ServedFrom n h.had → IsLevel n h.had old
    was_level = is.level h.worker (at_rest h.had) h.rests h.had (inl refl)

    after : IsFrontOf old h.worker (with_batch (Records h.batch) h.had)
    after = record {
      contents = contents_more h.had (Records h.batch) was.contents (in_format h.batch h.fits h.had.version);
      joins = join_more h.had.start h.had.batches (Records h.batch) was.joins h.turn (batch_in_order h.batch h.fits);
      owner = was.owner;
      whole = was.whole;
      has = has;
      only = λ r at. ⊎_elim (λ l. was.only r l) (λ m. only r m) (in_more r (Records h.batch) h.had at);
      voids = λ n void. ⊎_elim (λ l. was.voids n l) (λ m. absurd (true≢false (sym m))) (void_either n (Records h.batch) h.had void);
      made = omega (arith, mark_more (Records h.batch) h.had, h.made);
      resumed = λ n at. ⊎_elim (λ l. was.resumed n l) (λ m. absurd (neither n m)) (resume_more n (Records h.batch) h.had.batches at);
    }
      where
        neither : (n : ℕ) → HoldResume n (Records h.batch ∷ []) → ⊥
        neither n (inl none) = none
        neither n (inr none) = none

        has : (r : Record) → In (by_worker h.worker r) old.placed → r.stamp ≤ mark_of (with_batch (Records h.batch) h.had)
            → is_void old.voids r.stamp ≡ false → In r (records_of (with_batch (Records h.batch) h.had))
        has r at upto live = ⊎_elim
            (λ over. more_right r (Records h.batch) h.had
            (subst (In r) (sym h.records)
            (in_map (λ (p : Placed). p.change) (by_worker h.worker r) _
            (filter_in (is_between h.worker h.batch.from h.batch.to) (by_worker h.worker r) old.history
            (subst (In (by_worker h.worker r)) (sym is.left)
            (filter_in (λ p. not (is_void old.voids p.change.stamp)) (by_worker h.worker r) old.placed at (not_from_false _ live)))
            (between r over (omega (arith, upto, mark_more (Records h.batch) h.had)))))))
            (λ below. more_left r (Records h.batch) h.had (was.has r at (omega (arith, below, h.turn)) live))
            (cases_lt h.batch.from r.stamp)
          where
            between : (r : Record) → h.batch.from < r.stamp → r.stamp ≤ h.batch.to
                → is_between h.worker h.batch.from h.batch.to (by_worker h.worker r) ≡ true
            between r over upto = and_from _ _ (and_from _ _ (same_number h.worker) (lt-ltb h.batch.from r.stamp over))
                (not_from_false _ (le-ltb h.batch.to r.stamp upto))

        only : (r : Record) → In r h.batch.records → In (by_worker h.worker r) old.placed
        only r at =
            let p = map_in (λ (x : Placed). x.change) r _ (subst (In r) h.records at) in
            let kept = in_filter (is_between h.worker h.batch.from h.batch.to) p.0 old.history p.1 in
            let mine = eqb-true p.0.worker h.worker (and_parts _ _ (and_parts _ _ kept.1).0).0 in
            let there = (in_filter (λ x. not (is_void old.voids x.change.stamp)) p.0 old.placed (subst (In p.0) is.left kept.0)).0 in
            subst (λ (x : Placed). In x old.placed) (same_placed p.0 h.worker r mine p.2) there

    -- records are appended only once every log has the resume batch of the last recovery, past which no resume batch goes
    tells : (n : ℕ) → 0 < n → ServedFrom n (with_batch (Records h.batch) h.had) → IsLevel n (with_batch (Records h.batch) h.had) old
    tells n over has = ⊎_elim
        (λ l. let m = was_level n over l in (m.0, m.1, served_left m.0 (Records h.batch) h.had.batches m.2, m.3))
        (λ two. let all = is.held h.serves (omega (arith, over, was.resumed n two.0)) in (
          old.reached,
          was.resumed n two.0,
          served_last old.reached h.batch h.had.batches (all h.worker (at_rest h.had) h.rests h.had (inl refl)),
          all,
        ))
        (served_more n (Records h.batch) h.had.batches has)

    served : (left : Contents) → MayLeaveFront (record { had = h.had; doubt = Some (Records h.batch) }) left → (n : ℕ) → 0 < n → ServedFrom n left
        → IsLevel n left old
    served left (inl e) n over has = subst (λ (f : Contents). IsLevel n f old) (sym e) (was_level n over (subst (ServedFrom n) e has))
    served left (inr m) n over has =
        let same = m.2 ∙ ap (λ (c : LogBatch). with_batch c h.had) (sym (same_Some (Records h.batch) m.0 m.1)) in
        subst (λ (f : Contents). IsLevel n f old) (sym same) (tells n over (subst (ServedFrom n) same has))

    fronts : (left : Contents) → MayLeaveFront (record { had = h.had; doubt = Some (Records h.batch) }) left → IsFrontOf old h.worker left
    fronts left (inl e) = subst (IsFrontOf old h.worker) (sym e) was
    fronts left (inr m) =
        subst (IsFrontOf old h.worker) (sym (m.2 ∙ ap (λ (c : LogBatch). with_batch c h.had) (sym (same_Some (Records h.batch) m.0 m.1)))) after

    guards : (n : ℕ) → is_void old.voids n ≡ true → Guards n (at_rest h.had) → Guards n (record { had = h.had; doubt = Some (Records h.batch) })
    guards n void before left (inl e) = before left (inl e)
    guards n void before left (inr m) = ⊎_elim
        (λ under. absurd (omega (arith, under, is.gone n void, is.whole h.serves h.worker (at_rest h.had) h.rests h.had (inl refl))))
        (λ has. inr (subst (λ (f : Contents). is_void (voids_of f) n ≡ true)
        (sym (m.2 ∙ ap (λ (c : LogBatch). with_batch c h.had) (sym (same_Some (Records h.batch) m.0 m.1))))
        (void_left n (Records h.batch) h.had has)))
        (before h.had (inl refl))

pub appends : (old new : Store) → IsStore old → Appends old new → IsStore new
unfolding with_log
appends old new is h = subst IsStore (sym h.stands)
    (replaces old h.worker (at_rest h.had) (record { had = h.had; doubt = Some (Records h.batch) }) is (appended old new h is))

-- a resume batch begins
pub resumed : (old new : Store) (h : Resumes old new) → IsStore old
    → Replaces old h.worker (at_rest h.had) (record { had = h.had; doubt = Some (Resume (mark_of h.had) old.reached h.kept) })
resumed old new h is = record {
  there = h.rests;
  fronts = fronts;
  guards = guards;
  reaches = λ n before. reaches_more n h.had batch before h.rises.0;
  holds = λ n before. holds_more n h.had batch before;
  served = served;
}
  where
    batch : LogBatch
    batch = Resume (mark_of h.had) old.reached h.kept

    was : IsFrontOf old h.worker h.had
    was = is.logs h.worker (at_rest h.had) h.rests h.had (inl refl)

    was_level : (n : ℕ) → 0 < n → ServedFrom n h.had → IsLevel n h.had old
    was_level = is.level h.worker (at_rest h.had) h.rests h.had (inl refl)

    kept_upto : h.kept ≤ mark_of h.had
    kept_upto = is.low h.recovers h.kept h.before h.last h.worker (at_rest h.had) h.rests h.had (inl refl)

    after : IsFrontOf old h.worker (with_batch (Resume (mark_of h.had) old.reached h.kept) h.had)
    after = record {
      contents = contents_more h.had (Resume (mark_of h.had) old.reached h.kept) was.contents
          (in_steps (mark_of h.had) old.reached h.kept h.rises.0 h.fits h.rises.1 h.had.version);
      joins = join_more h.had.start h.had.batches (Resume (mark_of h.had) old.reached h.kept) was.joins refl h.rises;
      owner = was.owner;
      whole = was.whole;
      has = λ r at upto live. more_left r (Resume (mark_of h.had) old.reached h.kept) h.had (was.has r at (within r upto live) live);
      only = λ r at. ⊎_elim (λ l. was.only r l) (λ m. absurd m) (in_more r (Resume (mark_of h.had) old.reached h.kept) h.had at);
      voids = λ n void. ⊎_elim (λ l. was.voids n l) (λ m. told n (void_cases h.kept old.reached n [] m))
          (void_either n (Resume (mark_of h.had) old.reached h.kept) h.had void);
      made = omega (arith, mark_more (Resume (mark_of h.had) old.reached h.kept) h.had, is.beyond);
      resumed = λ n at. ⊎_elim (λ l. was.resumed n l) (λ m. upto_last n m)
          (resume_more n (Resume (mark_of h.had) old.reached h.kept) h.had.batches at);
    }
      where
        told : (n : ℕ) → ((h.kept < n) × (n ≤ old.reached)) ⊎ (is_void [] n ≡ true) → is_void old.voids n ≡ true
        told n (inl two) = ap (λ vs. is_void vs n) h.last ∙ void_from h.kept old.reached n h.before two.0 two.1
        told n (inr none) = absurd (true≢false (sym none))

        upto_last : (n : ℕ) → HoldResume n (Resume (mark_of h.had) old.reached h.kept ∷ []) → n ≤ old.reached
        upto_last n (inl to) = omega (arith, to)
        upto_last n (inr none) = absurd none

        -- what is not void was kept
        within : (r : Record) → r.stamp ≤ mark_of (with_batch (Resume (mark_of h.had) old.reached h.kept) h.had) → is_void old.voids r.stamp ≡ false
            → r.stamp ≤ mark_of h.had
        within r upto live = ⊎_elim
            (λ over. absurd (true≢false (sym
            (ap (λ vs. is_void vs r.stamp) h.last
            ∙ void_from h.kept old.reached r.stamp h.before over
            (omega (arith, upto, mark_more (Resume (mark_of h.had) old.reached h.kept) h.had))) ∙ live)))
            (λ below. omega (arith, below, kept_upto))
            (cases_lt h.kept r.stamp)

    -- a resume batch alone tells nothing more
    tells : (n : ℕ) → 0 < n → ServedFrom n (with_batch (Resume (mark_of h.had) old.reached h.kept) h.had)
        → IsLevel n (with_batch (Resume (mark_of h.had) old.reached h.kept) h.had) old
    tells n over has = ⊎_elim
        (λ l. let m = was_level n over l in (m.0, m.1, served_left m.0 (Resume (mark_of h.had) old.reached h.kept) h.had.batches m.2, m.3))
        (λ two. absurd two.1)
        (served_more n (Resume (mark_of h.had) old.reached h.kept) h.had.batches has)

    served : (left : Contents) → MayLeaveFront (record { had = h.had; doubt = Some (Resume (mark_of h.had) old.reached h.kept) }) left → (n : ℕ)
        → 0 < n → ServedFrom n left → IsLevel n left old
    served left (inl e) n over has = subst (λ (f : Contents). IsLevel n f old) (sym e) (was_level n over (subst (ServedFrom n) e has))
    served left (inr m) n over has =
        let same = m.2 ∙ ap (λ (c : LogBatch). with_batch c h.had) (sym (same_Some (Resume (mark_of h.had) old.reached h.kept) m.0 m.1)) in
        subst (λ (f : Contents). IsLevel n f old) (sym same) (tells n over (subst (ServedFrom n) same has))

    fronts : (left : Contents) → MayLeaveFront (record { had = h.had; doubt = Some (Resume (mark_of h.had) old.reached h.kept) }) left
        → IsFrontOf old h.worker left
    fronts left (inl e) = subst (IsFrontOf old h.worker) (sym e) was
    fronts left (inr m) = subst (IsFrontOf old h.worker)
        (sym (m.2 ∙ ap (λ (c : LogBatch). with_batch c h.had) (sym (same_Some (Resume (mark_of h.had) old.reached h.kept) m.0 m.1)))) after

    guards : (n : ℕ) → is_void old.voids n ≡ true → Guards n (at_rest h.had)
        → Guards n (record { had = h.had; doubt = Some (Resume (mark_of h.had) old.reached h.kept) })
    guards n void before left (inl e) = before left (inl e)
    guards n void before left (inr m) =
        inr (subst (λ (f : Contents). is_void (voids_of f) n ≡ true)
        (sym (m.2 ∙ ap (λ (c : LogBatch). with_batch c h.had) (sym (same_Some (Resume (mark_of h.had) old.reached h.kept) m.0 m.1))))
        (⊎_elim
        (λ under. void_right n (Resume (mark_of h.had) old.reached h.kept) h.had
        (void_from h.kept old.reached n [] (omega (arith, kept_upto, under)) (is.gone n void)))
        (λ has. void_left n (Resume (mark_of h.had) old.reached h.kept) h.had has)
        (before h.had (inl refl))))

pub resumes : (old new : Store) → IsStore old → Resumes old new → IsStore new
unfolding with_log
resumes old new is h = subst IsStore (sym h.stands)
    (replaces old h.worker (at_rest h.had) (record { had = h.had; doubt = Some (Resume (mark_of h.had) old.reached h.kept) }) is
    (resumed old new h is))

-- a log is at rest
pub rested : (old new : Store) (h : Rests old new) → IsStore old → Replaces old h.worker h.log (at_rest h.front)
rested old new h is = record {
  there = h.there;
  fronts = λ left may. is.logs h.worker h.log h.there left (fewer left may);
  guards = λ n void before left may. before left (fewer left may);
  reaches = λ n before left may. before left (fewer left may);
  holds = λ n before left may. before left (fewer left may);
  served = λ left may. is.level h.worker h.log h.there left (fewer left may);
}
  where
    fewer : (left : Contents) → MayLeaveFront (at_rest h.front) left → MayLeaveFront h.log left
    fewer left may = subst (MayLeaveFront h.log) (sym (left_at_rest h.front left may)) h.left

pub rests : (old new : Store) → IsStore old → Rests old new → IsStore new
unfolding with_log
rests old new is h = subst IsStore (sym h.stands) (replaces old h.worker h.log (at_rest h.front) is (rested old new h is))
