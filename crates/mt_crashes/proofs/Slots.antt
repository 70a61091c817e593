-- A store keeps its invariant in a call on one of its slots.
use Rattle.std.proofs.{Common.{◌≡◌, ◌⊎◌, inl, inr, ⊎_elim, ℕ, true, refl, sym, ◌∙◌, subst, Option, Some}, lemmas.Bool.{true≢false}}
use Rattle.std.specs.Prelude.{slice_get, slice_set}
use Rattle.mt_crashes.specs.{Fronts.In, Bases.{CheckpointView, IsCheckpointOf}, Stores.{Store, IsFresh, WritesSlot}}
use Rattle.mt_crashes.specs.Invariants.{HasTopLog, HasTopSlot, IsStore}
use Rattle.mt_crashes.proofs.Invariant.{after_set, before_set, one_there}

pub writes_slot : (old new : Store) → IsStore old → WritesSlot old new → IsStore new
writes_slot old new is h = subst IsStore (sym h.stands) (record {
  rises = is.rises;
  made = is.made;
  workers = is.workers;
  left = is.left;
  gone = is.gone;
  beyond = is.beyond;
  logs = λ worker log there left may. let f = is.logs worker log there left may in
      record { contents = f.contents; joins = f.joins; owner = f.owner; whole = f.whole; has = f.has; only = f.only; voids = f.voids; made = f.made; resumed = f.resumed };
  guards = is.guards;
  some = is.some;
  top = ⊎_elim (λ g. inl g) (λ g. top_slot g) is.top;
  slots = λ k slot there c at. ⊎_elim
      (λ l. one (Some c) (h.each (Some c) (subst (In (Some c)) l.1 at)) c refl)
      (λ r. is.slots k slot r c at)
      (after_set old.slots h.slot k h.now slot there);
  low = is.low;
  whole = is.whole;
  held = is.held;
  level = is.level;
})
  where
    one : (x : Option CheckpointView) → In x h.was ⊎ ((old.serving ≡ true) × IsFresh old x) → (c : CheckpointView) → x ≡ Some c
        → IsCheckpointOf old.steps old.voids old.history c
    one x (inl at) c e = is.slots h.slot h.was h.there c (subst (λ (y : Option CheckpointView). In y h.was) e at)
    one x (inr fresh) c e = let f = subst (IsFresh old) e fresh.1 in record { order = f.0; made = f.1; base = inr f.2 }

    after : Store
    after = record old { slots = slice_set old.slots h.slot h.now }

    top_slot : HasTopSlot old → HasTopLog after ⊎ HasTopSlot after
    top_slot g = ⊎_elim
        (λ l. inr (
          g.0,
          g.1,
          h.now,
          l.1,
          λ x at. g.4 x (subst (In x) (one_there old.slots h.slot h.was g.2 h.there (subst (λ (k : ℕ). slice_get old.slots k ≡ Some g.2) l.0 g.3))
              (stays x (h.each x at))),
        ))
        (λ r. inr (g.0, g.1, g.2, r, g.4))
        (before_set old.slots h.slot g.1 h.now g.2 g.3)
      where
        stays : (x : Option CheckpointView) → In x h.was ⊎ ((old.serving ≡ true) × IsFresh old x) → In x h.was
        stays x (inl at) = at
        stays x (inr fresh) = absurd (true≢false (sym fresh.0 ∙ g.0))
