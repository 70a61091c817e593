-- What is recovered of logs and checkpoints in the format keeps the limits of keys, rows and steps: for `recover`.
use Rattle.std.proofs.Common.{◌≡◌, ℕ, zero, suc, ◌≤◌, ◌^◌, Bool, true, false, cond, List, [], ◌∷◌, map, get_or, Option, Some, None, refl, sym, ap, subst, ◌∙◌, arith, inl, inr, ⊎_elim}
use Rattle.std.proofs.{lemmas.Bool.{and_parts, ltb-false, not-true, cases_lt}, lemmas.List.Elements.recursion_from_All, lemmas.Option.{same_Some, none-some, slice_get-get_or}}
use Rattle.std.specs.{Prelude.slice_get, Option.option_map, List.{All, AllByRecursion}, List.Sorted.IsStrictlySortedBy}
use Rattle.std.specs.{FinMap.{get, find, get-empty, get-from_entries}, Ordering.{eq_by_cmp, is_eq}, declared.cmp.Ordering.TheVariants.Less}
use Rattle.mt_rows.specs.{Rows.{Bytes, IsRow}, Tenants.{Contents as Pairs, owned_cmp}, Stamps.{Stamped, stamp_in, written}}
use Rattle.mt_rows.specs.{TenantPairs.{owner_of, entry_of, pairs_of, IsTenantPair, AreDistinct, AreStampedUpto}, Commands.IsKey, declared.record.TenantPair.TenantPair}
use Rattle.mt_rows.specs.{declared.record.Record.Record, declared.record.Write.Write, declared.record.Write.TheVariants.{Removed, Whole, Changed}}
use Rattle.mt_rows.proofs.RowLaws.{changed_row}
use Rattle.mt_rows.proofs.ContentLaws.{owned_total, same_owner, other_owner, tied_owner}
use Rattle.mt_batches.specs.Batches.{IsWrite, IsRecord}
use Rattle.mt_checkpoint.specs.{declared.checkpoint.Checkpoint.Checkpoint, Checkpoints.{IsPair, IsWalk, walk_of}}
use Rattle.mt_log.specs.{declared.batch.LogBatch.LogBatch, declared.batch.LogBatch.TheVariants.{Records, OldRecords, Resume}}
use Rattle.mt_log.specs.Contents.{Contents, AreNumbers, IsLogBatch, to_of, end_of, mark_of}
use Rattle.mt_crashes.specs.Bases.{CheckpointView, Slots}
use Rattle.mt_crashes.specs.Fronts.{In, greatest, last_end, all_voids, cutoff_of, is_replayed, records_in, records_of, all_records, key_of, made, with_replayed, after_replay}
use Rattle.mt_crashes.specs.Recoveries.{HasSlot, IsBaseOf, checkpoint_ends, resume_of}
use Rattle.mt_generations.specs.Chains.{IsRecoveredOver}
use Rattle.mt_crashes.proofs.{Members.{in_filter, in_flat_map, map_in, all_at, permuted_in, no_some, place_in}, FrontLaws.{greatest_below, from_cutoff}, Recovery.{upto_resume, walked_upto}}
use Rattle.mt_crashes.proofs.Bases.{one_or_not, made_over, passed_over, made_upto, replayed_at, replayed_beside}
use Rattle.mt_recover.specs.{Pairs.{Ascend, view_of}, Limits.{IsReadSlot, AreContents}}

-- ---- keys that ascend

-- no pair behind the first has its owner
below : (first : ℕ × Bytes) (ps : List TenantPair) → AllByRecursion (λ o. owned_cmp first o ≡ Less) (map owner_of ps) → (j : ℕ) (q : TenantPair) → slice_get ps j ≡ Some q
    → first ≡ owner_of q → ⊥
below first [] less j q at same = none-some q at
below first (p ∷ ps) less zero q at same =
    let tie = sym (same_owner first) ∙ ap (λ o. is_eq (owned_cmp first o)) (same ∙ ap owner_of (sym (same_Some p q at))) ∙ ap is_eq less.0 in cc
below first (p ∷ ps) less (suc j) q at same = below first ps less.1 j q at same

pub distinct : (ps : List TenantPair) → Ascend ps → AreDistinct ps
unfolding IsStrictlySortedBy
distinct [] h i j p q at_p at_q same = absurd (none-some p at_p)
distinct (x ∷ ps) h zero zero p q at_p at_q same = refl
distinct (x ∷ ps) h zero (suc j) p q at_p at_q same = absurd (below (owner_of x) ps h.0 j q at_q (ap owner_of (same_Some x p at_p) ∙ same))
distinct (x ∷ ps) h (suc i) zero p q at_p at_q same = absurd (below (owner_of x) ps h.0 i p at_p (ap owner_of (same_Some x q at_q) ∙ sym same))
distinct (x ∷ ps) h (suc i) (suc j) p q at_p at_q same = ap suc (distinct ps h.1 i j p q at_p at_q same)

-- ---- where a pair is from

-- each pair of a list stands in its map
found_there : (ps : List TenantPair) (i : ℕ) (p : TenantPair) → AreDistinct ps → slice_get ps i ≡ Some p → find owned_cmp (owner_of p) (map entry_of ps) ≡ Some p.row
found_there [] i p apart at = absurd (none-some p at)
found_there (x ∷ ps) zero p apart at =
    let same : x ≡ p = same_Some x p at in
    ap (λ b. cond b (Some x.row) (find owned_cmp (owner_of p) (map entry_of ps)))
    (ap (λ (y : TenantPair). eq_by_cmp owned_cmp (owner_of p) (owner_of y)) same ∙ same_owner (owner_of p))
    ∙ ap (λ (y : TenantPair). Some y.row) same
found_there (x ∷ ps) (suc i) p apart at =
    ap (λ b. cond b (Some x.row) (find owned_cmp (owner_of p) (map entry_of ps)))
    (other_owner (owner_of p) (owner_of x) (λ same. let never = apart (suc i) 0 p x at refl same in omega (arith, never)))
    ∙ found_there ps i p (λ j k q r at_q at_r same. let both = apart (suc j) (suc k) q r at_q at_r same in omega (arith, both)) at

pub pair_there : (ps : List TenantPair) (i : ℕ) (p : TenantPair) → AreDistinct ps → slice_get ps i ≡ Some p → get (pairs_of ps) (owner_of p) ≡ Some p.row
pair_there ps i p apart at = get-from_entries owned_total (map entry_of ps) (owner_of p) ∙ found_there ps i p apart at

-- a key and its row have their limits
abbrev Fits : ℕ × Bytes → Stamped → Type 0
Fits q row = IsKey q.1 × IsRow row.row

made_fits : (stamp : ℕ) (write : Write) (old : Option Stamped) → IsWrite write → ((was : Stamped) → old ≡ Some was → IsRow was.row) → (row : Stamped) → made stamp write old ≡ Some row → IsRow row.row
made_fits stamp Removed old is had row at = absurd (no_some row at)
made_fits stamp (Whole whole) old is had row at = subst (λ (s : Stamped). IsRow s.row) (same_Some (record { stamp = stamp; row = whole }) row at) is
made_fits stamp (Changed change) None is had row at = absurd (no_some row at)
made_fits stamp (Changed change) (Some was) is had row at =
    let old = had was refl in
    subst (λ (s : Stamped). IsRow s.row) (same_Some (written stamp change (Some was)) row at) (changed_row change was.row is old.few old.short)

-- a record that is replayed keeps the limits
one_fits : (r : Record) (m : Pairs) (q : ℕ × Bytes) → IsRecord r → ((was : Stamped) → get m q ≡ Some was → Fits q was) → (row : Stamped) → get (with_replayed m r) q ≡ Some row → Fits q row
one_fits r m q is had row at = ⊎_elim
    (λ own.
    let here = sym (replayed_at m r q own) ∙ at in
    ⊎_elim
    (λ low. (
      subst IsKey (ap (λ (o : ℕ × Bytes). o.1) own) is.key,
      made_fits r.stamp r.write (get m q) is.write (λ was there. (had was there).1) row (sym (made_over r.stamp r.write (get m q) low) ∙ here),
    ))
    (λ high. had row (sym (passed_over r.stamp r.write (get m q) high) ∙ here))
    (cases_lt (stamp_in (get m q)) r.stamp))
    (λ other. had row (sym (replayed_beside m r q other) ∙ at))
    (one_or_not (key_of r) q)

all_fit : (rs : List Record) (m : Pairs) (q : ℕ × Bytes) → ((r : Record) → In r rs → IsRecord r) → ((was : Stamped) → get m q ≡ Some was → Fits q was) → (row : Stamped)
    → get (after_replay m rs) q ≡ Some row → Fits q row
all_fit [] m q is had row at = had row at
all_fit (r ∷ rs) m q is had row at = all_fit rs (with_replayed m r) q (λ x there. is x (inr there)) (one_fits r m q (is r (inl refl)) had) row at

-- and gives no later stamp than its own
one_upto : (n : ℕ) (r : Record) (m : Pairs) (q : ℕ × Bytes) → r.stamp ≤ n → stamp_in (get m q) ≤ n → stamp_in (get (with_replayed m r) q) ≤ n
one_upto n r m q upto low = ⊎_elim
    (λ own.
    ⊎_elim
    (λ under.
    omega (arith, ap stamp_in (replayed_at m r q own ∙ made_over r.stamp r.write (get m q) under), made_upto r.stamp r.write (get m q), upto))
    (λ high. omega (arith, ap stamp_in (replayed_at m r q own ∙ passed_over r.stamp r.write (get m q) high), low))
    (cases_lt (stamp_in (get m q)) r.stamp))
    (λ other. omega (arith, ap stamp_in (replayed_beside m r q other), low))
    (one_or_not (key_of r) q)

all_upto : (n : ℕ) (rs : List Record) (m : Pairs) (q : ℕ × Bytes) → ((r : Record) → In r rs → r.stamp ≤ n) → stamp_in (get m q) ≤ n → stamp_in (get (after_replay m rs) q) ≤ n
all_upto n [] m q upto low = low
all_upto n (r ∷ rs) m q upto low = all_upto n rs (with_replayed m r) q (λ x there. upto x (inr there)) (one_upto n r m q (upto r (inl refl)) low)

-- ---- logs in the format

in_batch : (version : ℕ) (b : LogBatch) (r : Record) → IsLogBatch version b → In r (records_in b) → IsRecord r
in_batch version (Records b) r is at = all_at IsRecord r b.records (recursion_from_All IsRecord b.records is.each) at
in_batch version (OldRecords b) r is at = all_at IsRecord r b.records (recursion_from_All IsRecord b.records is.1.batch.each) at
in_batch version (Resume from to kept) r is at = absurd at

in_logs : (fronts : List Contents) (r : Record) → AreContents fronts → In r (all_records fronts) → IsRecord r
in_logs fronts r all at =
    let f = in_flat_map records_of r fronts at in
    let b = in_flat_map records_in r f.0.batches f.2 in
    in_batch f.0.version b.0 r (all_at (IsLogBatch f.0.version) b.0 f.0.batches (all f.0 f.1).batches b.1) b.2

to_within : (version : ℕ) (b : LogBatch) → IsLogBatch version b → to_of b ≤ 2 ^ 59
to_within version (Records b) is = is.last
to_within version (OldRecords b) is = is.1.batch.last
to_within version (Resume from to kept) is = is.last

end_within : (version mark : ℕ) (bs : List LogBatch) → mark ≤ 2 ^ 59 → AllByRecursion (IsLogBatch version) bs → end_of mark bs ≤ 2 ^ 59
end_within version mark [] within each = within
end_within version mark (b ∷ bs) within each = end_within version (to_of b) bs (to_within version b each.0) each.1

start_within : (version generation start : ℕ) → AreNumbers version generation start → start ≤ 2 ^ 59
start_within version zero start is = omega (arith, is.1)
start_within version (suc before) start is = is.2

pub last_within : (fronts : List Contents) → AreContents fronts → last_end fronts ≤ 2 ^ 59
last_within fronts all =
    greatest_below (2 ^ 59) (map mark_of fronts) (λ k at.
    let from = map_in mark_of k fronts at in
    let within = end_within from.0.version from.0.start from.0.batches (start_within from.0.version from.0.generation from.0.start (all from.0 from.1).numbers) (all from.0 from.1).batches in
    let same = from.2 in
    omega (arith, within, same))

-- ---- checkpoints in the format

-- a checkpoint ends at a step, its pairs have their limits, and no stamp is over its end
record IsWithin (v : CheckpointView) : Type 0 where
  end : v.to ≤ 2 ^ 59
  each : (q : ℕ × Bytes) (row : Stamped) → get v.pairs q ≡ Some row → Fits q row
  stamps : (q : ℕ × Bytes) (row : Stamped) → get v.pairs q ≡ Some row → row.stamp ≤ v.to

abbrev AreWithin : Slots → Type 0
AreWithin slots = (k : ℕ) (v : CheckpointView) → HasSlot slots k v → IsWithin v

in_walk : (ps : List TenantPair) (q : ℕ × Bytes) (row : Stamped) → AllByRecursion IsPair ps → find owned_cmp q (map entry_of ps) ≡ Some row → Fits q row
in_walk [] q row each is = absurd (none-some row is)
in_walk (p ∷ ps) q row each is = by (eq_by_cmp owned_cmp q (owner_of p)) refl (λ more. in_walk ps q row each.1 more) is
  where
    by : (b : Bool) → eq_by_cmp owned_cmp q (owner_of p) ≡ b → (find owned_cmp q (map entry_of ps) ≡ Some row → Fits q row)
        → cond b (Some p.row) (find owned_cmp q (map entry_of ps)) ≡ Some row → Fits q row
    by true tied rest is =
        (subst (λ (o : ℕ × Bytes). IsKey o.1) (sym (tied_owner q (owner_of p) tied)) each.0.key, subst (λ (s : Stamped). IsRow s.row) (same_Some p.row row is) each.0.row)
    by false apart rest is = rest is

walk_upto : (n : ℕ) (ps : List TenantPair) (q : ℕ × Bytes) (row : Stamped) → AreStampedUpto n ps → find owned_cmp q (map entry_of ps) ≡ Some row → row.stamp ≤ n
walk_upto n [] q row upto is = absurd (none-some row is)
walk_upto n (p ∷ ps) q row upto is = by (eq_by_cmp owned_cmp q (owner_of p)) (λ more. walk_upto n ps q row (λ i x at. upto (suc i) x at) more) is
  where
    by : (b : Bool) → (find owned_cmp q (map entry_of ps) ≡ Some row → row.stamp ≤ n) → cond b (Some p.row) (find owned_cmp q (map entry_of ps)) ≡ Some row → row.stamp ≤ n
    by true rest is = omega (arith, upto 0 p refl, ap (λ (s : Stamped). s.stamp) (same_Some p.row row is))
    by false rest is = rest is

walk_within : (c : Checkpoint) → IsWalk (walk_of c) → IsWithin (view_of c)
walk_within c is = record {
  end = is.end;
  each = λ q row at. in_walk c.pairs.items q row is.each (sym (get-from_entries owned_total (map entry_of c.pairs.items) q) ∙ at);
  stamps = λ q row at. walk_upto c.last c.pairs.items q row is.stamps (sym (get-from_entries owned_total (map entry_of c.pairs.items) q) ∙ at);
}

walks_within : (slots : List (Option Checkpoint)) → AllByRecursion IsReadSlot slots → AreWithin (map (option_map view_of) slots)
walks_within [] each k v at = absurd (none-some (Some v) at)
walks_within (None ∷ slots) each zero v at = absurd (none-some v (same_Some None (Some v) at))
walks_within (None ∷ slots) each (suc k) v at = walks_within slots each.1 k v at
walks_within (Some c ∷ slots) each zero v at = subst IsWithin (same_Some (view_of c) v (same_Some (Some (view_of c)) (Some v) at)) (walk_within c each.0)
walks_within (Some c ∷ slots) each (suc k) v at = walks_within slots each.1 k v at

ends_within : (slots : Slots) → AreWithin slots → greatest (checkpoint_ends slots) ≤ 2 ^ 59
ends_within [] h = omega arith
ends_within (None ∷ slots) h = ends_within slots (λ k v at. h (suc k) v at)
ends_within (Some c ∷ slots) h =
    let one = (h 0 c refl).end in
    let others = ends_within slots (λ k v at. h (suc k) v at) in
    omega (arith, one, others)

base_within : (slots : Slots) (used : Option ℕ) (from : ℕ) (base : Pairs) → AreWithin slots → IsBaseOf slots used from base
    → (q : ℕ × Bytes) (row : Stamped) → get base q ≡ Some row → Fits q row
base_within slots None from base h is q row at = absurd (none-some row (sym (get-empty owned_cmp q) ∙ ap (λ (m : Pairs). get m q) (sym is.1) ∙ at))
base_within slots (Some k) from base h is q row at = (h k is.0 is.1).each q row (ap (λ (m : Pairs). get m q) (sym is.3) ∙ at)

base_upto : (fronts : List Contents) (slots : Slots) (used : Option ℕ) (from : ℕ) (base : Pairs) → AreWithin slots → IsBaseOf slots used from base
    → (q : ℕ × Bytes) → stamp_in (get base q) ≤ resume_of fronts slots
base_upto fronts slots None from base h is q = omega (arith, ap stamp_in (ap (λ (m : Pairs). get m q) is.1 ∙ get-empty owned_cmp q))
base_upto fronts slots (Some k) from base h is q = by (get base q) refl
  where
    by : (o : Option Stamped) → get base q ≡ o → stamp_in o ≤ resume_of fronts slots
    by None e = omega arith
    by (Some row) e =
        let upto = (h k is.0 is.1).stamps q row (ap (λ (m : Pairs). get m q) (sym is.3) ∙ e) in
        omega (arith, upto, walked_upto is.0 fronts slots (place_in (Some is.0) k slots is.1))

-- ---- a recovery of logs and checkpoints in the format

module _ (fronts : List Contents) (checkpoints : List (Option Checkpoint)) (cutoff resume : ℕ) (used : Option ℕ) (ps : List TenantPair)
    (each : AllByRecursion IsReadSlot checkpoints) (all : AreContents fronts)
    (is : IsRecoveredOver fronts (map (option_map view_of) checkpoints) cutoff resume used (pairs_of ps)) where
  abbrev slots : Slots
  slots = map (option_map view_of) checkpoints

  row_there : AreDistinct ps → (i : ℕ) (p : TenantPair) → slice_get ps i ≡ Some p → get (after_replay is.base is.replayed) (owner_of p) ≡ Some p.row
  row_there apart i p at = ap (λ (m : Pairs). get m (owner_of p)) (sym is.pairs_are) ∙ pair_there ps i p apart at

  counted : (r : Record) → In r is.replayed → In r (all_records fronts) × (is_replayed (all_voids fronts) is.from (cutoff_of fronts) r ≡ true)
  counted r there = in_filter (is_replayed (all_voids fronts) is.from (cutoff_of fronts)) r (all_records fronts) (permuted_in _ is.replayed r is.replay.same there)

  pair_within : AreDistinct ps → (i : ℕ) (p : TenantPair) → slice_get ps i ≡ Some p → IsTenantPair p
  pair_within apart i p at =
      all_fit is.replayed is.base (owner_of p) (λ r there. in_logs fronts r all (counted r there).0)
      (λ was had. base_within slots used is.from is.base (walks_within checkpoints each) is.base_is (owner_of p) was had) p.row (row_there apart i p at)

  pub pairs_within : Ascend ps → All IsTenantPair ps
  pairs_within ascend = λ k d lt. pair_within (distinct ps ascend) k (get_or ps k d) (slice_get-get_or ps k d lt)

  pub resume_within : resume ≤ 2 ^ 59
  resume_within =
      let logs = last_within fronts all in
      let walks = ends_within slots (walks_within checkpoints each) in
      let told : resume ≡ resume_of fronts slots = is.resume_is in
      omega (arith, logs, walks, told)

module _ (fronts : List Contents) (checkpoints : List (Option Checkpoint)) (cutoff resume : ℕ) (used : Option ℕ) (ps : List TenantPair)
    (each : AllByRecursion IsReadSlot checkpoints) (is : IsRecoveredOver fronts (map (option_map view_of) checkpoints) cutoff resume used (pairs_of ps)) where
  record_upto : (r : Record) → In r is.replayed → r.stamp ≤ resume
  record_upto r there =
      let kept = in_filter (is_replayed (all_voids fronts) is.from (cutoff_of fronts)) r (all_records fronts) (permuted_in _ is.replayed r is.replay.same there) in
      let f = in_flat_map records_of r fronts kept.0 in
      let within = (and_parts _ _ (and_parts _ _ kept.1).0).1 in
      omega (arith, ltb-false (cutoff_of fronts) r.stamp (not-true _ within), from_cutoff f.0 fronts f.1, upto_resume f.0 fronts (map (option_map view_of) checkpoints) f.1, is.resume_is)

  -- no pair has a stamp over the number from which the store goes on
  pub stamps_within : Ascend ps → AreStampedUpto resume ps
  stamps_within ascend i p at =
      let row = ap (λ (m : Pairs). get m (owner_of p)) (sym is.pairs_are) ∙ pair_there ps i p (distinct ps ascend) at in
      let low = base_upto fronts (map (option_map view_of) checkpoints) used is.from is.base (walks_within checkpoints each) is.base_is (owner_of p) in
      let upto = all_upto resume is.replayed is.base (owner_of p) record_upto (omega (arith, low, is.resume_is)) in
      omega (arith, upto, ap stamp_in row)
