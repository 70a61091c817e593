-- The choice for one worker in mid-turn, and what is recovered.
use Rattle.std.proofs.Common.{◌≡◌, inl, inr, ℕ, zero, suc, ◌+◌, ◌≤◌, List, [], ◌∷◌, refl, sym, ◌∙◌, ap, subst, arith, Option, Some, None}
use Rattle.std.proofs.lemmas.{List.Sorted.IsPermutation-refl, Option.same_Some}
use Rattle.std.specs.FinMap.{empty}
use Rattle.mt_rows.specs.Tenants.{Contents as Pairs}
use Rattle.mt_log.specs.declared.batch.LogBatch.{LogBatch}
use Rattle.mt_crashes.specs.{Fronts.{In, cutoff_of, after_replay}, Bases.{CheckpointView, Slots}, Recoveries.HasSlot}
use Rattle.mt_crashes.proofs.Members.{no_some}
use Rattle.mt_generations.specs.Chains.{Chain, BeginBy, Covers, MayUseOver, HasUse, IsRecoveredOver}
use Rattle.mt_generations.specs.Standings.{Standing, AllHave, IsLast, CanBegin, IsChosen, HaveNoChoice}
use Rattle.mt_generations.specs.Examples.{put, put_batch, idle_batch, chain_with, two_logs, one_checkpoint}
use Rattle.mt_generations.proofs.{Deciding.{same_from, have_all}, Choices.none_begins}

abbrev checkpoint : Pairs → CheckpointView
checkpoint pairs = record { from = 6; to = 9; pairs = pairs }

-- the checkpoint stands in the first slot, and there is no other
only_one : (pairs : Pairs) (k : ℕ) (c : CheckpointView) → HasSlot (one_checkpoint pairs) k c → (k ≡ 0) × (c ≡ checkpoint pairs)
only_one pairs zero c there = (refl, sym (same_Some (checkpoint pairs) c (same_Some (Some (checkpoint pairs)) (Some c) there)))
only_one pairs (suc zero) c there = absurd (no_some c (same_Some None (Some c) there))
only_one pairs (suc (suc k)) c there = absurd (no_some (Some c) there)

-- no worker has a log of a generation over 1
last_one : (first : Option Chain) (next : Chain) → IsLast 1 (two_logs first next ∷ [])
last_one first next = (have, λ h all. let c = all (two_logs first next) (inl refl) in upto h c.0 c.1)
  where
    have : AllHave 1 (two_logs first next ∷ [])
    have f (inl e) = (next, ap (λ (x : Standing). x 1) e)
    have f (inr none) = absurd none

    upto : (h : ℕ) (c : Chain) → two_logs first next h ≡ Some c → h ≤ 1
    upto zero c e = omega arith
    upto (suc zero) c e = omega arith
    upto (suc (suc h)) c e = absurd (no_some c e)

-- ---- before the batch that goes on

begin_at_0 : BeginBy 0 (chain_with 0 (put_batch ∷ []) ∷ [])
begin_at_0 c (inl e) = omega (arith, ap (λ (x : Chain). x.start) e)
begin_at_0 c (inr none) = absurd none

-- the checkpoint ended after the cutoff
too_late : (pairs : Pairs) (chains : List Chain) → cutoff_of chains ≡ 6 → (k : ℕ) (c : CheckpointView) → HasSlot (one_checkpoint pairs) k c
    → MayUseOver chains c → ⊥
too_late pairs chains cutoff k c there may = omega (arith, cutoff, may.may.whole, ap (λ (x : CheckpointView). x.to) (only_one pairs k c there).1)

no_use : (pairs : Pairs) → HasUse (chain_with 6 [] ∷ []) (one_checkpoint pairs) → ⊥
no_use pairs (inl begin) = omega (arith, begin (chain_with 6 []) (inl refl))
no_use pairs (inr one) = too_late pairs (chain_with 6 [] ∷ []) refl one.0 one.1 one.2 one.3

pub chosen_older : (pairs : Pairs)
    → IsChosen (two_logs (Some (chain_with 0 (put_batch ∷ []))) (chain_with 6 []) ∷ []) (one_checkpoint pairs) 0 (chain_with 0 (put_batch ∷ []) ∷ [])
chosen_older pairs = ((refl, tt), inl begin_at_0, inr (last_one (Some (chain_with 0 (put_batch ∷ []))) (chain_with 6 []), cannot))
  where
    cannot : ¬ CanBegin 1 (two_logs (Some (chain_with 0 (put_batch ∷ []))) (chain_with 6 []) ∷ []) (one_checkpoint pairs)
    cannot can =
        no_use pairs (subst (λ (cs : List Chain). HasUse cs (one_checkpoint pairs))
        (same_from 1 (two_logs (Some (chain_with 0 (put_batch ∷ []))) (chain_with 6 []) ∷ []) can.0 (chain_with 6 [] ∷ []) can.1 (refl, tt)) can.2)

pub recovered_older : (pairs : Pairs)
    → IsRecoveredOver (chain_with 0 (put_batch ∷ []) ∷ []) (one_checkpoint pairs) 6 9 None (after_replay empty (put ∷ []))
recovered_older pairs = record {
  cutoff_is = refl;
  resume_is = refl;
  used_is = (begin_at_0, too_late pairs (chain_with 0 (put_batch ∷ []) ∷ []) refl);
  from = 0;
  base = empty;
  base_is = (refl, refl);
  replayed = put ∷ [];
  replay = record { same = IsPermutation-refl _; rises = (omega arith, tt) };
  pairs_are = refl;
}

-- ---- and after it

may_use : (pairs : Pairs) → MayUseOver (chain_with 6 (idle_batch ∷ []) ∷ []) (checkpoint pairs)
may_use pairs = record { covers = covers; may = record { whole = omega arith; live = refl } }
  where
    covers : (d : Chain) → In d (chain_with 6 (idle_batch ∷ []) ∷ []) → Covers d.start (checkpoint pairs)
    covers d (inl e) = (omega (arith, ap (λ (x : Chain). x.start) e), inr (omega arith))
    covers d (inr none) = absurd none

pub chosen_newer : (pairs : Pairs) (older : Option Chain)
    → IsChosen (two_logs older (chain_with 6 (idle_batch ∷ [])) ∷ []) (one_checkpoint pairs) 1 (chain_with 6 (idle_batch ∷ []) ∷ [])
chosen_newer pairs older =
    ((refl, tt), inr (0, checkpoint pairs, refl, may_use pairs), inl (last_one older (chain_with 6 (idle_batch ∷ []))))

pub recovered_newer : (pairs : Pairs) → IsRecoveredOver (chain_with 6 (idle_batch ∷ []) ∷ []) (one_checkpoint pairs) 9 9 (Some 0) pairs
recovered_newer pairs = record {
  cutoff_is = refl;
  resume_is = refl;
  used_is = (
    checkpoint pairs,
    refl,
    may_use pairs,
    λ j d there may. (
        let other = only_one pairs j d there in
        inr (ap (λ (x : CheckpointView). x.to) other.1, omega arith)
        ),
  );
  from = 6;
  base = pairs;
  base_is = (checkpoint pairs, refl, refl, refl);
  replayed = [];
  replay = record { same = IsPermutation-refl _; rises = tt };
  pairs_are = refl;
}

-- ---- what a wrong order leaves

-- the older log isn't there, and over the next one no base may be used
none_left : (next : Chain) (slots : Slots) → ¬ HasUse (next ∷ []) slots → HaveNoChoice (two_logs None next ∷ []) slots
none_left next slots lacks = none_begins (two_logs None next ∷ []) slots 1 (last_one None next) here before
  where
    here : ¬ CanBegin 1 (two_logs None next ∷ []) slots
    here can =
        lacks (subst (λ (cs : List Chain). HasUse cs slots) (same_from 1 (two_logs None next ∷ []) can.0 (next ∷ []) can.1 (refl, tt)) can.2)

    before : (h : ℕ) → h + 1 ≡ 1 → ¬ CanBegin h (two_logs None next ∷ []) slots
    before h same can =
        let zero_here : h ≡ 0 = omega (arith, same) in
        let has = have_all h (two_logs None next ∷ []) can.0 can.1 (two_logs None next) (inl refl) in
        no_some has.0 (sym (ap (two_logs None next) zero_here) ∙ has.1)

no_slot : (k : ℕ) (c : CheckpointView) → HasSlot (None ∷ None ∷ []) k c → ⊥
no_slot zero c there = no_some c (same_Some None (Some c) there)
no_slot (suc zero) c there = no_some c (same_Some None (Some c) there)
no_slot (suc (suc k)) c there = no_some (Some c) there

no_checkpoint : (batches : List LogBatch) → HasUse (chain_with 6 batches ∷ []) (None ∷ None ∷ []) → ⊥
no_checkpoint batches (inl begin) = omega (arith, begin (chain_with 6 batches) (inl refl))
no_checkpoint batches (inr one) = no_slot one.0 one.1 one.2

pub left_without : HaveNoChoice (two_logs None (chain_with 6 []) ∷ []) (None ∷ None ∷ [])
left_without = none_left (chain_with 6 []) (None ∷ None ∷ []) (no_checkpoint [])

pub left_over : HaveNoChoice (two_logs None (chain_with 6 (idle_batch ∷ [])) ∷ []) (None ∷ None ∷ [])
left_over = none_left (chain_with 6 (idle_batch ∷ [])) (None ∷ None ∷ []) (no_checkpoint (idle_batch ∷ []))

pub left_before : (pairs : Pairs) → HaveNoChoice (two_logs None (chain_with 6 []) ∷ []) (one_checkpoint pairs)
left_before pairs = none_left (chain_with 6 []) (one_checkpoint pairs) (no_use pairs)
