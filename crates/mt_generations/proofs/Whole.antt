-- A recovery from what is left of the logs of a store gives what one from the whole logs would.
use Rattle.std.proofs.Common.{◌≡◌, ◌⊎◌, inl, inr, ⊎_elim, ℕ, ◌<◌, ◌≤◌, max, Bool, true, false, not, ◌&&◌, ltb, List, refl, sym, ◌∙◌, ap, subst, arith, Option, Some, None, IsPermutation}
use Rattle.std.proofs.lemmas.{Bool.{le-ltb, cases_lt, true≢false}, Option.{same_Some, slice_get_within}}
use Rattle.std.specs.{Prelude.slice_get, List.{AllZip, filter}}
use Rattle.mt_rows.specs.{Tenants.{Contents as Pairs}, declared.record.Record.Record}
use Rattle.mt_log.specs.Contents.{Contents}
use Rattle.mt_crashes.specs.Fronts.{In, least, greatest, cutoff_of, last_end, is_void, all_voids, all_records, is_replayed, IsReplay, after_replay}
use Rattle.mt_crashes.specs.{Histories.{Placed, pairs_upto}, Bases.{CheckpointView, Slots, IsBase}, Recoveries.{MayUse, IsUsed, IsBaseOf, checkpoint_ends, resume_of, IsRecovered}}
use Rattle.mt_crashes.specs.{Stores.{Store, SlotNow, MayLeaveFront, MayLeaveFronts, MayLeaveSlots, AllReach}, Invariants.{RisePlaced, IsFrontOf, IsStore}}
use Rattle.mt_crashes.proofs.{Bases.{over_base, empty_base}, Heart.replay_is, Members.{in_place, place_in, filter_same}}
use Rattle.mt_crashes.proofs.FrontLaws.{from_cutoff, all_void, void_of_some, ends_cutoff}
use Rattle.mt_crashes.proofs.Invariant.{zip_left, zip_right, within_place, rise_filter}
use Rattle.mt_generations.specs.Chains.{Chain, EndsLog, BeginBy, Covers, MayUseOver, IsUsedOver, IsRecoveredOver}
use Rattle.mt_generations.proofs.Parts.{IsAfter, AllJoin, same_ends, same_void, same_filter}

-- ---- what a crash leaves of the whole logs of a store

pub front_of : (s : Store) (fronts : List Contents) (k : ℕ) (f : Contents) → IsStore s → MayLeaveFronts s.logs fronts → slice_get fronts k ≡ Some f
    → IsFrontOf s k f
front_of s fronts k f is left there = let at = zip_right MayLeaveFront s.logs fronts k f left there in is.logs k at.0 at.1 f at.2

pub all_join : (s : Store) (fronts : List Contents) → IsStore s → MayLeaveFronts s.logs fronts → AllJoin fronts
all_join s fronts is left f at = let k = in_place f fronts at in (front_of s fronts k.0 f is left k.1).joins

-- void by them is void, and up to the cutoff it is so the other way round
pub left_void : (s : Store) (fronts : List Contents) (n : ℕ) → IsStore s → MayLeaveFronts s.logs fronts → is_void (all_voids fronts) n ≡ true
    → is_void s.voids n ≡ true
left_void s fronts n is left void =
    let f = void_of_some n fronts void in
    let k = in_place f.0 fronts f.1 in
    (front_of s fronts k.0 f.0 is left k.1).voids n f.2

pub still_live : (s : Store) (fronts : List Contents) (n : ℕ) → IsStore s → MayLeaveFronts s.logs fronts → is_void s.voids n ≡ false
    → is_void (all_voids fronts) n ≡ false
still_live s fronts n is left live = by (is_void (all_voids fronts) n) refl
  where
    by : (b : Bool) → is_void (all_voids fronts) n ≡ b → b ≡ false
    by true h = sym (left_void s fronts n is left h) ∙ live
    by false h = refl

left_live : (s : Store) (fronts : List Contents) (n : ℕ) → IsStore s → MayLeaveFronts s.logs fronts → n ≤ cutoff_of fronts
    → is_void (all_voids fronts) n ≡ false → is_void s.voids n ≡ false
left_live s fronts n is left upto live = by (is_void s.voids n) refl
  where
    by : (b : Bool) → is_void s.voids n ≡ b → b ≡ false
    by false h = refl
    by true h =
        let g = is.guards n h in
        let at = zip_left MayLeaveFront s.logs fronts g.0 g.1 left g.2 in
        ⊎_elim
        (λ under. absurd (omega (arith, under, upto, from_cutoff at.0 fronts (place_in at.0 g.0 fronts at.1))))
        (λ void. sym (all_void n at.0 fronts (place_in at.0 g.0 fronts at.1) void) ∙ live)
        (g.3 at.0 at.2)

pub least_reached : (n : ℕ) (s : Store) (fronts : List Contents) → IsStore s → AllReach n s → MayLeaveFronts s.logs fronts → n ≤ cutoff_of fronts
least_reached n s fronts is all left =
    let first = within_place s.logs 0 is.some in
    let there = zip_left MayLeaveFront s.logs fronts 0 first.0 left first.1 in
    let f = ends_cutoff fronts (omega (arith, slice_get_within fronts 0 there.0 there.1)) in
    let at = in_place f.0 fronts f.1 in
    let log = zip_right MayLeaveFront s.logs fronts at.0 f.0 left at.1 in
    omega (arith, f.2, all at.0 log.0 log.1 f.0 log.2)

history_rises : (s : Store) → IsStore s → RisePlaced 0 s.history
history_rises s is = subst (RisePlaced 0) (sym is.left) (rise_filter (λ (p : Placed). not (is_void s.voids p.change.stamp)) 0 s.placed is.rises)

-- ---- and what is left of that

module _ (s : Store) (fronts : List Contents) (chains : List Chain) (is : IsStore s) (left : MayLeaveFronts s.logs fronts) (ends : AllZip EndsLog fronts chains) where
  pub cutoff_same : cutoff_of chains ≡ cutoff_of fronts
  cutoff_same = ap least (same_ends fronts chains ends)

  pub last_same : last_end chains ≡ last_end fronts
  last_same = ap greatest (same_ends fronts chains ends)

  -- where a checkpoint ended that covers what was given up, a number is void by the chains just if it is by the logs
  pub void_same : (c : CheckpointView) → ((d : Chain) → In d chains → Covers d.start c)
      → is_void (all_voids chains) c.to ≡ is_void (all_voids fronts) c.to
  void_same c covers = same_void fronts chains c.to ends (all_join s fronts is left) (λ d at. after d (covers d at).0 (covers d at).1)
    where
      after : (d : Chain) → d.start ≤ c.from → (d.start ≡ 0) ⊎ (c.from < c.to) → IsAfter d.start c.to
      after d le (inl none) = inl none
      after d le (inr lt) = inr (omega (arith, le, lt))

  -- What is replayed over a number by which all chains begin is what is replayed of the whole logs.
  pub replay_same : (base : ℕ) (rs : List Record) → BeginBy base chains → IsReplay base chains rs → IsReplay base fronts rs
  replay_same base rs begin replay = record { same = subst (λ (l : List Record). IsPermutation l rs) counted replay.same; rises = replay.rises }
    where
      test : Record → Bool
      test r = is_replayed (all_voids fronts) base (cutoff_of fronts) r

      same_test : (r : Record) → is_replayed (all_voids chains) base (cutoff_of chains) r ≡ is_replayed (all_voids fronts) base (cutoff_of fronts) r
      same_test r = ap (λ (n : ℕ). is_replayed (all_voids chains) base n r) cutoff_same ∙ ⊎_elim
          (λ over. ap (λ (b : Bool). ltb base r.stamp && not (ltb (cutoff_of fronts) r.stamp) && not b)
          (same_void fronts chains r.stamp ends (all_join s fronts is left) (λ c at. inr (omega (arith, begin c at, over)))))
          (λ under. low (all_voids chains) under ∙ sym (low (all_voids fronts) under))
          (cases_lt base r.stamp)
        where
          low : (voids : List (ℕ × ℕ)) → r.stamp ≤ base → is_replayed voids base (cutoff_of fronts) r ≡ false
          low voids under = ap (λ (b : Bool). b && not (ltb (cutoff_of fronts) r.stamp) && not (is_void voids r.stamp)) (le-ltb base r.stamp under)

      counted : filter (is_replayed (all_voids chains) base (cutoff_of chains)) (all_records chains)
          ≡ filter (is_replayed (all_voids fronts) base (cutoff_of fronts)) (all_records fronts)
      counted =
          filter_same _ _ (all_records chains) (λ r at. same_test r)
          ∙ same_filter fronts chains (is_replayed (all_voids fronts) base (cutoff_of fronts)) ends (all_join s fronts is left)
          (λ c at r under. ap (λ (b : Bool). b && not (ltb (cutoff_of fronts) r.stamp) && not (is_void (all_voids fronts) r.stamp))
          (le-ltb base r.stamp (omega (arith, begin c at, under))))

  over_any : (from to : ℕ) (base : Pairs) (rs : List Record) → BeginBy from chains → from ≤ to → to ≤ cutoff_of fronts → IsBase from to s.history base
      → IsReplay from chains rs → after_replay base rs ≡ pairs_upto (cutoff_of fronts) s.history
  over_any from to base rs begin le within is_base replay =
      ap (after_replay base) (replay_is from s fronts rs is left (replay_same from rs begin replay))
      ∙ over_base from to (cutoff_of fronts) s.history base (history_rises s is) le within is_base

  -- a checkpoint that may be used is not void
  pub use_live : (c : CheckpointView) → MayUseOver chains c → is_void s.voids c.to ≡ false
  use_live c may = left_live s fronts c.to is left (omega (arith, may.may.whole, cutoff_same)) (sym (void_same c may.covers) ∙ may.may.live)

  over_used : (read : Slots) (used : Option ℕ) (from : ℕ) (base : Pairs) (rs : List Record) → MayLeaveSlots s.slots read → IsUsedOver chains read used
      → IsBaseOf read used from base → IsReplay from chains rs → after_replay base rs ≡ pairs_upto (cutoff_of fronts) s.history
  over_used read None from base rs left_slots used base_is replay =
      over_any from from base rs (λ c at. omega (arith, used.0 c at)) (omega arith) (omega (arith, base_is.0))
      (subst (λ (n : ℕ). IsBase n n s.history base) (sym base_is.0)
      (subst (IsBase 0 0 s.history) (sym base_is.1) (empty_base s.history (history_rises s is)))) replay
  over_used read (Some k) from base rs left_slots used base_is replay =
      let slot = zip_right (λ (slot : SlotNow) (x : Option CheckpointView). In x slot) s.slots read k (Some used.0) left_slots used.1 in
      let c = is.slots k slot.0 slot.1 used.0 slot.2 in
      let same : base_is.0 ≡ used.0 = same_Some base_is.0 used.0 (same_Some (Some base_is.0) (Some used.0) (sym base_is.1 ∙ used.1)) in
      let walked : IsBase used.0.from used.0.to s.history used.0.pairs =
      ⊎_elim (λ void. absurd (true≢false (sym void ∙ use_live used.0 used.2))) (λ b. b) c.base in
      let from_is : from ≡ used.0.from = base_is.2 ∙ ap (λ (x : CheckpointView). x.from) same in
      let base_same : base ≡ used.0.pairs = base_is.3 ∙ ap (λ (x : CheckpointView). x.pairs) same in
      over_any from used.0.to base rs (λ d at. omega (arith, from_is, (used.2.covers d at).0)) (omega (arith, from_is, c.order)) (omega (arith, used.2.may.whole, cutoff_same))
      (subst (λ (n : ℕ). IsBase n used.0.to s.history base) (sym from_is)
      (subst (IsBase used.0.from used.0.to s.history) (sym base_same) walked)) replay

  pub recovered_over : (read : Slots) (cutoff resume : ℕ) (used : Option ℕ) (found : Pairs) → MayLeaveSlots s.slots read
      → IsRecoveredOver chains read cutoff resume used found
      → (found ≡ pairs_upto cutoff s.history) × (cutoff ≡ cutoff_of fronts) × (resume ≡ resume_of fronts read)
  recovered_over read cutoff resume used found left_slots r =
      let cut : cutoff ≡ cutoff_of fronts = r.cutoff_is ∙ cutoff_same in (
        r.pairs_are ∙ over_used read used r.from r.base r.replayed left_slots r.used_is r.base_is r.replay ∙ ap (λ (m : ℕ). pairs_upto m s.history) (sym cut),
        cut,
        r.resume_is ∙ ap (λ (n : ℕ). max n (greatest (checkpoint_ends read))) last_same,
      )

-- ---- if nothing was given up

module _ (fronts : List Contents) (begin : BeginBy 0 fronts) where
  may_over : (c : CheckpointView) → MayUse fronts c → MayUseOver fronts c
  may_over c may = record {
    covers = λ d at. (let first = begin d at in (omega (arith, first), inl (omega (arith, first))));
    may = may;
  }

  used_over_whole : (slots : Slots) (used : Option ℕ) → IsUsed fronts slots used → IsUsedOver fronts slots used
  used_over_whole slots None is = (begin, λ k c there may. is k c there may.may)
  used_over_whole slots (Some k) is = (is.0, is.1, may_over is.0 is.2, λ j d there may. is.3 j d there may.may)

  used_whole : (slots : Slots) (used : Option ℕ) → IsUsedOver fronts slots used → IsUsed fronts slots used
  used_whole slots None is = λ k c there may. is.1 k c there (may_over c may)
  used_whole slots (Some k) is = (is.0, is.1, is.2.may, λ j d there may. is.3 j d there (may_over d may))

  module _ (slots : Slots) (cutoff resume : ℕ) (used : Option ℕ) (found : Pairs) where
    pub over_whole : IsRecovered fronts slots cutoff resume used found → IsRecoveredOver fronts slots cutoff resume used found
    over_whole is = record {
      cutoff_is = is.cutoff_is;
      resume_is = is.resume_is;
      used_is = used_over_whole slots used is.used_is;
      from = is.from;
      base = is.base;
      base_is = is.base_is;
      replayed = is.replayed;
      replay = is.replay;
      pairs_are = is.pairs_are;
    }

    pub whole_over : IsRecoveredOver fronts slots cutoff resume used found → IsRecovered fronts slots cutoff resume used found
    whole_over is = record {
      cutoff_is = is.cutoff_is;
      resume_is = is.resume_is;
      used_is = used_whole slots used is.used_is;
      from = is.from;
      base = is.base;
      base_is = is.base_is;
      replayed = is.replayed;
      replay = is.replay;
      pairs_are = is.pairs_are;
    }
