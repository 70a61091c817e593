-- The calls on a slot's disk are what may happen to a slot.
use Rattle.std.proofs.Common.{◌≡◌, ◌⊎◌, inl, inr, ⊎_elim, ℕ, ◌≤◌, true, List, [], ◌∷◌, refl, sym, ap, subst, Option, Some, None}
use Rattle.std.specs.{Prelude.slice_get, Option.option_map}
use Rattle.mt_rows.specs.{Rows.Bytes, TenantPairs.pairs_of}
use Rattle.mt_disk.specs.Disk.{DiskState, MayLeave, LeavesOnly, found_with}
use Rattle.mt_checkpoint.{specs.Checkpoints.{Walk, Has, IsOneOf}, proofs.Crash.{one_of_these, found_again}}
use Rattle.mt_crashes.specs.{Fronts.In, Bases.{CheckpointView, IsBase}, Stores.{Store, IsFresh, Happens}, SlotDisks.{view_of_walk, slot_now, with_slot}}
use Rattle.mt_checkpoint.specs.Checkpoints as slots

-- one of some walks is one of their views
in_views : (x : Option Walk) (may : List (Option Walk)) → slots.In x may → In (option_map view_of_walk x) (slot_now may)
in_views x [] at = absurd at
in_views x (y ∷ may) (inl e) = inl (ap (option_map view_of_walk) e)
in_views x (y ∷ may) (inr at) = inr (in_views x may at)

views_in : (x : Option CheckpointView) (may : List (Option Walk)) → In x (slot_now may) → (y : Option Walk) × slots.In y may × (x ≡ option_map view_of_walk y)
views_in x [] at = absurd at
views_in x (y ∷ may) (inl e) = (y, inl refl, e)
views_in x (y ∷ may) (inr at) = let rest = views_in x may at in (rest.0, inr rest.1, rest.2)

-- what a crash leaves of a slot's disk is one of what the slot may have, and such a slot again
pub left_slot : (may : List (Option Walk)) (first disk : DiskState) (image : Bytes) → LeavesOnly (IsOneOf may) first disk → MayLeave disk.now image
    → (x : Option Walk) × Has x image × In (option_map view_of_walk x) (slot_now may) × LeavesOnly (IsOneOf may) (found_with image) (found_with image)
left_slot may first disk image kept left =
    let here = kept.now image left in
    let x = one_of_these may image here in
    (x.0, x.2, in_views x.0 may x.1, found_again (IsOneOf may) image here)

module _ (s : Store) (k : ℕ) (may : List (Option Walk)) (there : slice_get s.slots k ≡ Some (slot_now may)) where
  writes : (now : List (Option Walk)) → ((x : Option CheckpointView) → In x (slot_now now) → In x (slot_now may) ⊎ ((s.serving ≡ true) × IsFresh s x)) → Happens s (with_slot k (slot_now now) s)
  writes now each = inr (inr (inr (inr (inr (inr (inr (record { slot = k; was = slot_now may; there = there; now = slot_now now; each = each; stands = refl })))))))

  -- a checkpoint is begun: a crash may leave what it might before, or none
  pub begins : s.serving ≡ true → Happens s (with_slot k (slot_now (None ∷ may)) s)
  begins serving = writes (None ∷ may) (λ x at. ⊎_elim (λ e. inr (serving, subst (IsFresh s) (sym e) tt)) (λ m. inl m) at)

  -- it is ended: a crash may leave none, or this one, whose walk is a base
  pub ends : (w : Walk) → s.serving ≡ true → w.first ≤ w.last → w.last ≤ s.steps → IsBase w.first w.last s.history (pairs_of w.pairs) → Happens s (with_slot k (slot_now (None ∷ Some w ∷ [])) s)
  ends w serving order made base = writes (None ∷ Some w ∷ []) each
    where
      each : (x : Option CheckpointView) → In x (slot_now (None ∷ Some w ∷ [])) → In x (slot_now may) ⊎ ((s.serving ≡ true) × IsFresh s x)
      each x (inl e) = inr (serving, subst (IsFresh s) (sym e) tt)
      each x (inr (inl e)) = inr (serving, subst (IsFresh s) (sym e) (order, made, base))
      each x (inr (inr none)) = absurd none

  -- it is known which of these it is: at the end's Ok, and where the slot was read
  pub rests : (x : Option Walk) → slots.In x may → Happens s (with_slot k (slot_now (x ∷ [])) s)
  rests x at = writes (x ∷ []) only
    where
      only : (y : Option CheckpointView) → In y (slot_now (x ∷ [])) → In y (slot_now may) ⊎ ((s.serving ≡ true) × IsFresh s y)
      only y (inl e) = inl (subst (λ (z : Option CheckpointView). In z (slot_now may)) (sym e) (in_views x may at))
      only y (inr none) = absurd none
