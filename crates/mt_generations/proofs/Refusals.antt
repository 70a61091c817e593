-- What is no choice, and what no recovery from chains returns.
use Rattle.std.proofs.Common.{◌≡◌, ◌⊎◌, inl, inr, ⊎_elim, ℕ, zero, suc, ◌+◌, ◌<◌, ◌≤◌, true, false, ltb, List, [], ◌∷◌, ◌++◌, length, refl, sym, ◌∙◌, ap, subst, arith, Option, Some, None}
use Rattle.std.proofs.lemmas.{Bool.{lt-ltb, le-ltb, ltb-true, ltb-false, and_parts, and_from, not-true, not_from_false, cases_lt, true≢false}, Option.same_Some}
use Rattle.std.specs.{FinMap.get, Prelude.slice_get}
use Rattle.mt_rows.specs.{Rows.Bytes, Tenants.{Contents as Pairs}, declared.record.Record.Record, Stamps.{Stamped, stamp_in}}
use Rattle.mt_log.specs.Contents.{mark_of}
use Rattle.mt_crashes.specs.Fronts.{In, Rise, cutoff_of, is_void, all_voids, all_records, is_replayed, key_of, after_replay, made, with_replayed}
use Rattle.mt_crashes.specs.{Bases.{CheckpointView, Slots}, Recoveries.{HasSlot, IsRecovered, resume_of}}
use Rattle.mt_crashes.proofs.{Members.{no_some, in_filter, filter_in, in_permuted, permuted_in}, FrontLaws.ends_cutoff, Invariant.{rise_in, zip_left}}
use Rattle.mt_crashes.proofs.Bases.{one_or_not, replayed_at, replayed_beside, replayed_upto, made_over, passed_over, untouched_replay}
use Rattle.mt_generations.specs.Chains.{Chain, IsRecoveredOver, MayUseOver}
use Rattle.mt_generations.specs.Standings.{Standing, joined, AreFrom, IsLast, CanBegin, IsChosen}

-- ---- choices

-- the generation that is chosen is the last one that can be begun at, or the one before the last
pub chosen_last : (files : List Standing) (slots : Slots) (g h : ℕ) (chains : List Chain) → IsLast g files → IsChosen files slots h chains → (h ≡ g) ⊎ (h + 1 ≡ g)
chosen_last files slots g h chains last chosen = ⊎_elim
    (λ own. inl (omega (arith, last.1 h own.0, own.1 g last.0)))
    (λ next. inr (omega (arith, last.1 (h + 1) next.0.0, next.0.1 g last.0)))
    chosen.2

pub chosen_here : (files : List Standing) (slots : Slots) (g h : ℕ) (chains : List Chain) → IsLast g files → CanBegin g files slots → IsChosen files slots h chains → h ≡ g
chosen_here files slots g h chains last can chosen = ⊎_elim
    (λ own. omega (arith, last.1 h own.0, own.1 g last.0))
    (λ next. (
    let same : g ≡ h + 1 = omega (arith, last.1 (h + 1) next.0.0, next.0.1 g last.0) in
    absurd (next.1 (subst (λ (n : ℕ). CanBegin n files slots) same can))
    ))
    chosen.2

-- each chain has the batches of both of its logs
pub chosen_batches : (files : List Standing) (g k : ℕ) (chains : List Chain) (f : Standing) (a b c : Chain) → AreFrom g files chains → slice_get files k ≡ Some f
    → f g ≡ Some a → f (g + 1) ≡ Some b → slice_get chains k ≡ Some c → c.batches ≡ a.batches ++ b.batches
chosen_batches files g k chains f a b c are at_f has_a has_b at_c =
    let d = zip_left (λ (x : Standing) (y : Chain). joined (x g) (x (g + 1)) ≡ Some y) files chains k f are at_f in
    ap (λ (x : Chain). x.batches) (same_Some c d.0 (sym at_c ∙ d.1)
    ∙ same_Some d.0 (record a { batches = a.batches ++ b.batches }) (sym d.2 ∙ (λ i. joined (has_a i) (has_b i))))

-- ---- recoveries

-- some chain ends at the cutoff
pub some_end : (chains : List Chain) → 0 < length chains → (d : Chain) × In d chains × (mark_of d ≡ cutoff_of chains)
some_end chains some = ends_cutoff chains some

-- the checkpoint that is used may be
pub used_over : (k cutoff resume : ℕ) (chains : List Chain) (c : CheckpointView) (read : Slots) (found : Pairs) → HasSlot read k c
    → IsRecoveredOver chains read cutoff resume (Some k) found → MayUseOver chains c
used_over k cutoff resume chains c read found there is =
    subst (MayUseOver chains) (same_Some is.used_is.0 c (same_Some (Some is.used_is.0) (Some c) (sym is.used_is.1 ∙ there))) is.used_is.2

pub used_latest : (j k cutoff resume : ℕ) (chains : List Chain) (c d : CheckpointView) (read : Slots) (found : Pairs) → HasSlot read k c → HasSlot read j d → MayUseOver chains d
    → IsRecoveredOver chains read cutoff resume (Some k) found → (d.to < c.to) ⊎ ((d.to ≡ c.to) × (k ≤ j))
used_latest j k cutoff resume chains c d read found there other may is =
    let same : is.used_is.0 ≡ c = same_Some is.used_is.0 c (same_Some (Some is.used_is.0) (Some c) (sym is.used_is.1 ∙ there)) in
    subst (λ (x : CheckpointView). (d.to < x.to) ⊎ ((d.to ≡ x.to) × (k ≤ j))) same (is.used_is.3 j d other may)

-- over nothing it is a recovery of the logs that the chains count as, if there were no checkpoints
pub over_nothing : (chains : List Chain) (read : Slots) (cutoff resume : ℕ) (found : Pairs) → IsRecoveredOver chains read cutoff resume None found
    → IsRecovered chains [] cutoff (resume_of chains []) None found
over_nothing chains read cutoff resume found is = record {
  cutoff_is = is.cutoff_is;
  resume_is = refl;
  used_is = λ k c there may. no_some (Some c) there;
  from = is.from;
  base = is.base;
  base_is = is.base_is;
  replayed = is.replayed;
  replay = is.replay;
  pairs_are = is.pairs_are;
}

-- and over a checkpoint one over that alone
module _ (k cutoff resume : ℕ) (chains : List Chain) (c : CheckpointView) (read : Slots) (found : Pairs) (there : HasSlot read k c)
    (is : IsRecoveredOver chains read cutoff resume (Some k) found) where
  base_same : (is.from ≡ c.from) × (is.base ≡ c.pairs)
  base_same =
      let b = is.base_is in
      let same : b.0 ≡ c = same_Some b.0 c (same_Some (Some b.0) (Some c) (sym b.1 ∙ there)) in
      (b.2 ∙ ap (λ (x : CheckpointView). x.from) same, b.3 ∙ ap (λ (x : CheckpointView). x.pairs) same)

  pub over_this : IsRecovered chains (Some c ∷ []) cutoff (resume_of chains (Some c ∷ [])) (Some 0) found
  over_this = record {
    cutoff_is = is.cutoff_is;
    resume_is = refl;
    used_is = (c, refl, (used_over k cutoff resume chains c read found there is).may, λ j d other may. only j d other);
    from = is.from;
    base = is.base;
    base_is = (c, refl, base_same.0, base_same.1);
    replayed = is.replayed;
    replay = is.replay;
    pairs_are = is.pairs_are;
  }
    where
      only : (j : ℕ) (d : CheckpointView) → HasSlot (Some c ∷ []) j d → (d.to < c.to) ⊎ ((d.to ≡ c.to) × (0 ≤ j))
      only zero d other = inr (ap (λ (x : CheckpointView). x.to) (sym (same_Some c d (same_Some (Some c) (Some d) other))), omega arith)
      only (suc j) d other = absurd (no_some (Some d) other)

  -- a record that is replayed counts
  counts : (r : Record) → In r is.replayed → In r (all_records chains) × (c.from < r.stamp) × (r.stamp ≤ cutoff) × (is_void (all_voids chains) r.stamp ≡ false)
  counts r at =
      let counted = in_filter (is_replayed (all_voids chains) is.from (cutoff_of chains)) r (all_records chains) (permuted_in _ is.replayed r is.replay.same at) in
      let tests = and_parts _ _ counted.1 in
      parts r counted.0 (and_parts _ _ tests.0).0 (not-true _ (and_parts _ _ tests.0).1) (not-true _ tests.1)
    where
      parts : (r : Record) → In r (all_records chains) → ltb is.from r.stamp ≡ true → ltb (cutoff_of chains) r.stamp ≡ false
          → is_void (all_voids chains) r.stamp ≡ false
          → In r (all_records chains) × (c.from < r.stamp) × (r.stamp ≤ cutoff) × (is_void (all_voids chains) r.stamp ≡ false)
      parts r at over upto live = (
        at,
        omega (arith, ltb-true is.from r.stamp over, base_same.0),
        omega (arith, ltb-false (cutoff_of chains) r.stamp upto, is.cutoff_is),
        live,
      )

  -- a key of which no record counts is as in the checkpoint
  pub as_walked : (key : ℕ × Bytes) → ((r : Record) → In r (all_records chains) → key_of r ≡ key
      → (r.stamp ≤ c.from) ⊎ (is_void (all_voids chains) r.stamp ≡ true) ⊎ (cutoff < r.stamp)) → get found key ≡ get c.pairs key
  as_walked key none =
      ap (λ (m : Pairs). get m key) is.pairs_are
      ∙ untouched_replay is.replayed is.base key (λ r at own. (let h = counts r at in no_count r.stamp h.1 h.2 h.3 (none r h.0 own)))
      ∙ ap (λ (m : Pairs). get m key) base_same.1
    where
      no_count : (n : ℕ) → c.from < n → n ≤ cutoff → is_void (all_voids chains) n ≡ false
          → (n ≤ c.from) ⊎ (is_void (all_voids chains) n ≡ true) ⊎ (cutoff < n) → ⊥
      no_count n over upto live (inl early) = omega (arith, over, early)
      no_count n over upto live (inr (inl void)) = true≢false (sym void ∙ live)
      no_count n over upto live (inr (inr late)) = omega (arith, upto, late)

  -- what a record makes stands that counts and is the last one of its key
  pub last_made : (r : Record) → In r (all_records chains) → c.from < r.stamp → r.stamp ≤ cutoff → is_void (all_voids chains) r.stamp ≡ false
      → stamp_in (get c.pairs (key_of r)) < r.stamp
      → ((q : Record) → In q (all_records chains) → key_of q ≡ key_of r → r.stamp < q.stamp → (is_void (all_voids chains) q.stamp ≡ true) ⊎ (cutoff < q.stamp))
      → (old : Option Stamped) × (get found (key_of r) ≡ made r.stamp r.write old)
  last_made r at over upto live low last =
      let replayed : is_replayed (all_voids chains) is.from (cutoff_of chains) r ≡ true =
      and_from _ _ (and_from _ _ (lt-ltb is.from r.stamp (omega (arith, over, base_same.0)))
      (not_from_false _ (le-ltb (cutoff_of chains) r.stamp (omega (arith, upto, is.cutoff_is))))) (not_from_false _ live) in
      let here = in_permuted _ is.replayed r is.replay.same (filter_in (is_replayed (all_voids chains) is.from (cutoff_of chains)) r (all_records chains) at replayed) in
      let lower : stamp_in (get is.base (key_of r)) < r.stamp = omega (arith, low, ap (λ (m : Pairs). stamp_in (get m (key_of r))) base_same.1) in
      let stands = made_last is.from is.replayed is.base is.replay.rises lower here
      (λ q there own later. (let h = counts q there in none q h.2 h.3 (last q h.0 own later))) in
      (stands.0, ap (λ (m : Pairs). get m (key_of r)) is.pairs_are ∙ stands.1)
    where
      none : (q : Record) → q.stamp ≤ cutoff → is_void (all_voids chains) q.stamp ≡ false
          → (is_void (all_voids chains) q.stamp ≡ true) ⊎ (cutoff < q.stamp) → ⊥
      none q upto_q live_q (inl void) = true≢false (sym void ∙ live_q)
      none q upto_q live_q (inr late) = omega (arith, upto_q, late)

      still_lower : (m : Pairs) (x : Record) → stamp_in (get m (key_of r)) < r.stamp → x.stamp < r.stamp → stamp_in (get (with_replayed m x) (key_of r)) < r.stamp
      still_lower m x lower before = ⊎_elim
          (λ new. omega (arith, before, replayed_upto (stamp_in (get m (key_of r))) m x (key_of r) (omega arith) new))
          (λ passed. ⊎_elim
          (λ own. subst (λ (w : Option Stamped). stamp_in w < r.stamp)
          (sym (replayed_at m x (key_of r) own ∙ passed_over x.stamp x.write (get m (key_of r)) passed)) lower)
          (λ other. subst (λ (w : Option Stamped). stamp_in w < r.stamp) (sym (replayed_beside m x (key_of r) other)) lower)
          (one_or_not (key_of x) (key_of r)))
          (cases_lt (stamp_in (get m (key_of r))) x.stamp)

      made_last : (low : ℕ) (rs : List Record) (m : Pairs) → Rise low rs → stamp_in (get m (key_of r)) < r.stamp → In r rs
          → ((q : Record) → In q rs → key_of q ≡ key_of r → r.stamp < q.stamp → ⊥) → (old : Option Stamped) × (get (after_replay m rs) (key_of r) ≡ made r.stamp r.write old)
      made_last low [] m rises lower at none_after = absurd at
      made_last low (x ∷ rs) m rises lower (inl e) none_after = (
        get m (key_of r),
        untouched_replay rs (with_replayed m x) (key_of r)
            (λ q at same. none_after q (inr at) same (subst (λ (y : Record). y.stamp < q.stamp) (sym e) (rise_in x.stamp rs q rises.1 at)))
            ∙ ap (λ (y : Record). get (with_replayed m y) (key_of r)) (sym e) ∙ replayed_at m r (key_of r) refl ∙ made_over r.stamp r.write (get m (key_of r)) lower,
      )
      made_last low (x ∷ rs) m rises lower (inr at) none_after =
          made_last x.stamp rs (with_replayed m x) rises.1 (still_lower m x lower (rise_in x.stamp rs r rises.1 at)) at (λ q there. none_after q (inr there))
