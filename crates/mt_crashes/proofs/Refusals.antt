-- What no recovery answers, and one that is one.
use Rattle.std.proofs.Common.{◌≡◌, ◌≢◌, ◌⊎◌, inl, inr, ℕ, zero, suc, ◌<◌, ◌≤◌, true, false, List, [], ◌∷◌, refl, sym, ◌∙◌, ap, subst, arith, Option, Some, None, cond}
use Rattle.std.proofs.lemmas.List.Sorted.{IsPermutation-refl}
use Rattle.std.proofs.{lemmas.Bool.{lt-ltb, le-ltb, and_parts, and_from, not-true, not_from_false, true≢false, ltb-false}, lemmas.Option.same_Some}
use Rattle.std.specs.FinMap.{get, get-empty, empty}
use Rattle.mt_rows.specs.{Rows.Bytes, Tenants.{owned_cmp, Contents as Pairs}, declared.record.Record.Record, Stamps.{Stamped, stamp_in}}
use Rattle.mt_log.specs.Contents.{Contents}
use Rattle.mt_crashes.specs.Fronts.{In, Rise, cutoff_of, is_void, all_voids, all_records, is_replayed, IsReplay, key_of, after_replay, made, replayed, with_replayed}
use Rattle.mt_crashes.specs.{Bases.{CheckpointView, Slots}, Recoveries.{MayUse, HasSlot, IsRecovered}, Examples.{change, fronts_of_two}}
use Rattle.mt_crashes.proofs.{Members.{no_some, in_filter, filter_in, in_permuted, permuted_in}, Invariant.rise_in}
use Rattle.mt_crashes.proofs.Bases.{passed_at, replayed_at, replayed_upto, untouched_replay}

-- what is replayed over nothing counts
counts : (fronts : List Contents) (rs : List Record) (r : Record) → IsReplay 0 fronts rs → In r rs
    → In r (all_records fronts) × (is_replayed (all_voids fronts) 0 (cutoff_of fronts) r ≡ true)
counts fronts rs r replay at =
    in_filter (is_replayed (all_voids fronts) 0 (cutoff_of fronts)) r (all_records fronts) (permuted_in _ rs r replay.same at)

-- and it doesn't, if it is void or over the cutoff
not_both : (voids : List (ℕ × ℕ)) (cutoff : ℕ) (r : Record) → is_replayed voids 0 cutoff r ≡ true
    → (is_void voids r.stamp ≡ true) ⊎ (cutoff < r.stamp) → ⊥
not_both voids cutoff r replayed (inl void) = true≢false (sym void ∙ not-true _ (and_parts _ _ replayed).1)
not_both voids cutoff r replayed (inr over) = true≢false (sym (lt-ltb cutoff r.stamp over) ∙ not-true _ (and_parts _ _ (and_parts _ _ replayed).0).1)

-- the last change of a key makes what it has, over something with a lesser stamp
last_stands : (over : ℕ) (rs : List Record) (m : Pairs) (r : Record) → Rise over rs → stamp_in (get m (key_of r)) ≤ over → In r rs
    → ((q : Record) → In q rs → key_of q ≡ key_of r → r.stamp < q.stamp → ⊥) → (old : Option Stamped) × (get (after_replay m rs) (key_of r) ≡ made r.stamp r.write old)
last_stands over [] m r rises low at last = absurd at
last_stands over (x ∷ rs) m r rises low (inl e) last =
    let lt : stamp_in (get m (key_of r)) < r.stamp = omega (arith, low, rises.0, ap (λ (y : Record). y.stamp) e) in (
      get m (key_of r),
      untouched_replay rs (with_replayed m x) (key_of r)
          (λ q at same. last q (inr at) same (subst (λ (y : Record). y.stamp < q.stamp) (sym e) (rise_in x.stamp rs q rises.1 at)))
          ∙ ap (λ (y : Record). get (with_replayed m y) (key_of r)) (sym e) ∙ replayed_at m r (key_of r) refl
          ∙ ap (λ b. cond b (made r.stamp r.write (get m (key_of r))) (get m (key_of r))) (lt-ltb (stamp_in (get m (key_of r))) r.stamp lt),
    )
last_stands over (x ∷ rs) m r rises low (inr at) last =
    last_stands x.stamp rs (with_replayed m x) r rises.1 (replayed_upto over m x (key_of r) low rises.0) at (λ q there. last q (inr there))

-- what the checkpoint has of a key stays, if no record that counts has a later stamp
pub base_stays : (k cutoff resume : ℕ) (key : ℕ × Bytes) (row : Stamped) (fronts : List Contents) (c : CheckpointView) (read : Slots) (found : Pairs) → HasSlot read k c
    → get c.pairs key ≡ Some row
    → ((r : Record) → In r (all_records fronts) → key_of r ≡ key → r.stamp ≤ cutoff → is_void (all_voids fronts) r.stamp ≡ false → r.stamp ≤ row.stamp)
    → get found key ≢ Some row → ¬ IsRecovered fronts read cutoff resume (Some k) found
base_stays k cutoff resume key row fronts c read found there has upto other is =
    let b = is.base_is in
    let same : b.0 ≡ c = same_Some b.0 c (same_Some (Some b.0) (Some c) (sym b.1 ∙ there)) in
    let base : is.base ≡ c.pairs = b.3 ∙ ap (λ (x : CheckpointView). x.pairs) same in
    other (ap (λ (m : Pairs). get m key) is.pairs_are
    ∙ passed_at is.replayed is.base key row (ap (λ (m : Pairs). get m key) base ∙ has) (λ r at own.
    let counted = in_filter (is_replayed (all_voids fronts) is.from (cutoff_of fronts)) r (all_records fronts) (permuted_in _ is.replayed r is.replay.same at) in
    let tests = and_parts _ _ counted.1 in
    let within = (and_parts _ _ tests.0).1 in
    upto r counted.0 own (omega (arith, ltb-false (cutoff_of fronts) r.stamp (not-true _ within), is.cutoff_is)) (not-true _ tests.1)))

-- a recovery over no checkpoint begins with nothing
from_nothing : (fronts : List Contents) (read : Slots) (cutoff resume : ℕ) (found : Pairs) (is : IsRecovered fronts read cutoff resume None found)
    → IsReplay 0 fronts is.replayed × (found ≡ after_replay empty is.replayed)
from_nothing fronts read cutoff resume found is = (
  subst (λ (n : ℕ). IsReplay n fronts is.replayed) is.base_is.0 is.replay,
  is.pairs_are
      ∙ ap (λ (m : Pairs). after_replay m is.replayed) is.base_is.1,
)

-- the records of a key that are void or late
abbrev DoNotCount : List Contents → ℕ → Record → Type 0
DoNotCount fronts cutoff r = (is_void (all_voids fronts) r.stamp ≡ true) ⊎ (cutoff < r.stamp)

late : (fronts : List Contents) (read : Slots) (cutoff resume : ℕ) (used : Option ℕ) (found : Pairs) (r : Record)
    → IsRecovered fronts read cutoff resume used found → DoNotCount fronts cutoff r → DoNotCount fronts (cutoff_of fronts) r
late fronts read cutoff resume used found r is none = subst (λ (n : ℕ). DoNotCount fronts n r) is.cutoff_is none

pub not_counted : (key : ℕ × Bytes) (cutoff resume : ℕ) (fronts : List Contents) (read : Slots) (found : Pairs)
    → ((r : Record) → In r (all_records fronts) → key_of r ≡ key → (is_void (all_voids fronts) r.stamp ≡ true) ⊎ (cutoff < r.stamp))
    → get found key ≢ None → ¬ IsRecovered fronts read cutoff resume None found
not_counted key cutoff resume fronts read found none some is =
    let over = from_nothing fronts read cutoff resume found is in
    some (ap (λ (m : Pairs). get m key) over.1 ∙ untouched_replay is.replayed empty key (λ r at same. let c = counts fronts is.replayed r over.0 at in
    not_both (all_voids fronts) (cutoff_of fronts) r c.1 (late fronts read cutoff resume None found r is (none r c.0 same)))
    ∙ get-empty owned_cmp key)

pub last_left_out : (r : Record) (cutoff resume : ℕ) (fronts : List Contents) (read : Slots) (found : Pairs)
    → In r (all_records fronts) → 0 < r.stamp → r.stamp ≤ cutoff → is_void (all_voids fronts) r.stamp ≡ false
    → ((q : Record) → In q (all_records fronts) → key_of q ≡ key_of r → r.stamp < q.stamp
    → (is_void (all_voids fronts) q.stamp ≡ true) ⊎ (cutoff < q.stamp))
    → ((old : Option Stamped) → get found (key_of r) ≢ made r.stamp r.write old) → ¬ IsRecovered fronts read cutoff resume None found
last_left_out r cutoff resume fronts read found at some upto live none other is =
    let over = from_nothing fronts read cutoff resume found is in
    let replayed : is_replayed (all_voids fronts) 0 (cutoff_of fronts) r ≡ true =
    and_from _ _ (and_from _ _ (lt-ltb 0 r.stamp some) (not_from_false _ (le-ltb (cutoff_of fronts) r.stamp (omega (arith, upto, is.cutoff_is)))))
    (not_from_false _ live) in
    let there = in_permuted _ is.replayed r over.0.same
    (filter_in (is_replayed (all_voids fronts) 0 (cutoff_of fronts)) r (all_records fronts) at replayed) in
    let stands = last_stands 0 is.replayed empty r over.0.rises (omega (arith, ap stamp_in (get-empty owned_cmp (key_of r)))) there (λ q in_all same later. let c = counts fronts is.replayed q over.0 in_all in
    not_both (all_voids fronts) (cutoff_of fronts) q c.1 (late fronts read cutoff resume None found q is (none q c.0 same later))) in
    other stands.0 (ap (λ (m : Pairs). get m (key_of r)) over.1 ∙ stands.1)

-- the checkpoint that is used may be
pub used_here : (k cutoff resume : ℕ) (fronts : List Contents) (c : CheckpointView) (read : Slots) (found : Pairs) → HasSlot read k c
    → IsRecovered fronts read cutoff resume (Some k) found → MayUse fronts c
used_here k cutoff resume fronts c read found there is =
    subst (MayUse fronts) (same_Some is.used_is.0 c (same_Some (Some is.used_is.0) (Some c) (sym is.used_is.1 ∙ there))) is.used_is.2

-- ---- one that is

no_checkpoint : (k : ℕ) (c : CheckpointView) → HasSlot (None ∷ None ∷ []) k c → ⊥
no_checkpoint zero c h = no_some c (same_Some None (Some c) h)
no_checkpoint (suc zero) c h = no_some c (same_Some None (Some c) h)
no_checkpoint (suc (suc k)) c h = no_some (Some c) h

pub recovery_of_two : IsRecovered fronts_of_two (None ∷ None ∷ []) 3 4 None (after_replay empty (change 1 ∷ change 3 ∷ []))
recovery_of_two = record {
  cutoff_is = refl;
  resume_is = refl;
  used_is = λ k c there may. no_checkpoint k c there;
  from = 0;
  base = empty;
  base_is = (refl, refl);
  replayed = change 1 ∷ change 3 ∷ [];
  replay = record { same = IsPermutation-refl _; rises = (omega arith, (omega arith, tt)) };
  pairs_are = refl;
}
