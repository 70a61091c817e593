-- What was read of the slots ends by the step from which a recovery goes on, and so does the checkpoint that was used.
use Rattle.std.proofs.{Common.{◌≡◌, inl, inr, ℕ, ◌≤◌, Bool, List, [], ◌∷◌, map, Option, Some, None, refl, sym, ◌∙◌, ap, subst, arith}, lemmas.Option.{same_Some, none-some}}
use Rattle.std.specs.Option.{option_map}
use Rattle.mt_rows.specs.Accounts.{Accounts}
use Rattle.mt_disk.specs.Disk.{DiskState}
use Rattle.mt_log.specs.Contents.{Contents}
use Rattle.mt_checkpoint.specs.{declared.checkpoint.Checkpoint.Checkpoint, Checkpoints.{Walk, walk_of, In}}
use Rattle.mt_slots.specs.{declared.slot.Slot.Slot, declared.slot.Slot.TheVariants.{First, Second}, declared.store_slots.StoreSlots.StoreSlots}
use Rattle.mt_slots.specs.{Places.{Both, at, in_order}, Keeps.{only_these, NewestEndsBy}}
use Rattle.mt_slots.proofs.Settling.{only_one}
use Rattle.mt_crashes.{specs.{Bases.{CheckpointView, Slots}, Recoveries.resume_of, Fronts.In as IsAmong}, proofs.Recovery.walked_upto}
use Rattle.mt_recover.specs.{declared.recovering.Recovered.Recovered, Pairs.view_of, Sources.{numbers_of, AreLoaded}}
use Rattle.mt_store_logs.specs.{declared.store_log.StoreLog.StoreLog, Recovers.{slots_of, ServesAgain}}

same_head : {X : Type 0} (a b : X) (xs ys : List X) → a ∷ xs ≡ b ∷ ys → a ≡ b
same_head a b xs ys same = cc

same_tail : {X : Type 0} (a b : X) (xs ys : List X) → a ∷ xs ≡ b ∷ ys → xs ≡ ys
same_tail a b xs ys same = cc

-- a slot that was loaded has the numbers that were seen of it
number_in : (seen loaded : Slots) → map numbers_of loaded ≡ map numbers_of seen → (x : Option CheckpointView) → IsAmong x seen
    → (y : Option CheckpointView) × IsAmong y loaded × (numbers_of y ≡ numbers_of x)
number_in [] loaded same x there = absurd there
number_in (s ∷ seen) [] same x there = absurd cc
number_in (s ∷ seen) (l ∷ loaded) same x (inl e) = (l, inl refl, same_head (numbers_of l) (numbers_of s) (map numbers_of loaded) (map numbers_of seen) same ∙ ap numbers_of (sym e))
number_in (s ∷ seen) (l ∷ loaded) same x (inr later) =
    let rest = number_in seen loaded (same_tail (numbers_of l) (numbers_of s) (map numbers_of loaded) (map numbers_of seen) same) x later in
    (rest.0, inr rest.1, rest.2)

numbered : (x : Option Checkpoint) (w : Walk) (y : Option CheckpointView) → option_map walk_of x ≡ Some w → numbers_of y ≡ numbers_of (option_map view_of x)
    → (v : CheckpointView) × (y ≡ Some v) × (v.to ≡ w.last)
numbered None w y is same = absurd (none-some w is)
numbered (Some c) w None is same = absurd (none-some (c.first, c.last) same)
numbered (Some c) w (Some v) is same =
    (v, refl, ap (λ (n : ℕ × ℕ). n.1) (same_Some (v.from, v.to) (c.first, c.last) same) ∙ ap (λ (x : Walk). x.last) (same_Some (walk_of c) w is))

-- so a walk that was seen ends by where a recovery goes on
read_ends : (chains : List Contents) (seen loaded : Slots) (x : Option Checkpoint) (w : Walk) → AreLoaded seen loaded → IsAmong (option_map view_of x) seen → option_map walk_of x ≡ Some w
    → w.last ≤ resume_of chains loaded
read_ends chains seen loaded x w same there is =
    let l = number_in seen loaded same (option_map view_of x) there in
    let v = numbered x w l.0 is l.2 in
    let upto = walked_upto v.0 chains loaded (subst (λ (y : Option CheckpointView). IsAmong y loaded) v.1 l.1) in
    let to = v.2 in
    omega (arith, upto, to)

-- what a slot has, if it surely has a walk
sure_walk : (x : Option Checkpoint) (w : Walk) → option_map walk_of x ∷ [] ≡ Some w ∷ [] → option_map walk_of x ≡ Some w
sure_walk x w is = only_one (option_map walk_of x) (Some w) (subst (λ may. In (option_map walk_of x) may) is (inl refl))

both_end : (chains : List Contents) (loaded : Slots) (found : Both (Option Checkpoint)) (slot : Slot) (w : Walk) → AreLoaded (slots_of (in_order found)) loaded
    → at slot (only_these found) ≡ Some w ∷ [] → w.last ≤ resume_of chains loaded
both_end chains loaded found First w same is = read_ends chains (slots_of (in_order found)) loaded found.first w same (inl refl) (sure_walk found.first w is)
both_end chains loaded found Second w same is = read_ends chains (slots_of (in_order found)) loaded found.second w same (inr (inl refl)) (sure_walk found.second w is)

module _ {D : Type 0} (is_honest : D → Bool) (state : D → DiskState) (failures : D → ℕ) where
  pub used_ends : (accounts : Accounts) (r : Recovered) (generation : ℕ) (old new : List (StoreLog D)) (slots now : StoreSlots D)
      → (is : ServesAgain is_honest state failures accounts r generation old slots new now) → NewestEndsBy (only_these is.found) r.resume now
  used_ends accounts r generation old new slots now is slot w newest has =
      inl (subst (λ n. w.last ≤ n) (sym is.recovers.over.resume_is) (both_end is.recovers.now is.recovers.loaded is.found slot w is.recovers.again.numbers has))

  pub used_owes : (accounts : Accounts) (r : Recovered) (generation : ℕ) (old new : List (StoreLog D)) (slots now : StoreSlots D)
      → ServesAgain is_honest state failures accounts r generation old slots new now → now.owed ≡ 0
  used_owes accounts r generation old new slots now is = ap (λ (s : StoreSlots D). s.owed) is.keeps
