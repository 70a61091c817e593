-- What each step of a removal behind DropKey leaves of all nodes, and where it leads, by its phase.
use Rattle.std.proofs.Common.{◌≡◌, ◌≢◌, ℕ, ◌+◌, ◌<◌, ◌⊎◌, inl, inr, Bool, true, false, length, Option, Some, None, refl, sym, ap, subst, ◌∙◌, arith, cond, eqb}
use Rattle.std.proofs.{lemmas.Bool.{cases_eq, cases_lt}, lemmas.Option.same_Some}
use Rattle.mt_rows.specs.Rows.{Bytes}
use Rattle.mt_arena.specs.{NodeView.{NodeView, place_at}, Idle.with_border, Given.AreOutUpTo, Arena.{ArenaView, IsArena}, Accesses.at}
use Rattle.mt_arena.proofs.{Settled.settled_free, Out.{upto_later, upto_border, upto_interior, upto_tree}}
use Rattle.mt_descent.specs.KeptBack.{RetiresAfter}
use Rattle.mt_operation.specs.declared.phase.Phase.{Phase}
use Rattle.mt_operation.specs.{declared.phase.Phase.TheVariants.{LockPrev, LockAbove, Unlink, FixNext, Collapse, CleanLayer, Unlock}, declared.walk.Walk.Walk}
use Rattle.mt_operation.specs.{declared.removal.Removal.Removal, Phases.{MayFollow, IsRemovalPhase}, declared.outcome.Outcome.Outcome, Operations.{OperationView, SplitsView}}
use Rattle.mt_operation.proofs.Phases.{by_removal}
use Rattle.mt_descent.specs.WalkMoves.{KeepsPairs}
use Rattle.mt_held.specs.Moves.{walk_at, with_named_previous}
use Rattle.mt_remove.specs.KeptRemovals.{HoldsRemoval, KeptRemoval, HoldsEmpty, IsAtLockPrev, IsAtLockAbove, IsAtUnlink, IsAtFixNext, IsAtCollapse, IsAtCleanLayer}
use Rattle.mt_remove.specs.{RemovalEdits.{for_rest, after_unlink, root_of, with_lock}, Unlinks.{IsChildBefore, IsLockPrev, IsLockAbove, IsUnlink, IsFixNext, IsCollapse}}
use Rattle.mt_remove.specs.{CleanLayer.IsCleanLayer, Steps.IsRemovalFrom}
use Rattle.mt_remove.proofs.{GoingOn.emptied_either, Locking.left_there, LockingAbove.parent_there, CleaningOn.held_link}
use Rattle.mt_remove.{specs.KeptRemovals.HoldsLink, proofs.DroppingLayers.{tree_there, root_there}}
use Rattle.mt_state.specs.{Invariant.DeletedAreEmpty, Phases.{ScanStep, LeadsTo}, KeptBack.Retires}
use Rattle.mt_state.proofs.Growing.{after_same, after_border, after_interior, after_layer}
use Rattle.mt_arena.specs.Removals.{without_layer, without_node, without_root}
use Rattle.mt_state.proofs.Touching.{AreTouched, none_touched, lock_touched, unlink_touched, fix_touched, collapse_touched, clean_touched}
use Rattle.mt_state.proofs.RemovalNodes.{LeavesNodes, none_leaves, lock_leaves, named_leaves, unlink_leaves, collapse_leaves, clean_leaves}

-- what a step brings: what is left of all nodes, which of them it changes, where it leads, and what is kept then
pub record Removes (p : Phase) (o : ℕ) (key : Bytes) (v u : ArenaView) (before after : Walk) (s t : Removal) : Type 0 where
  pub leaves : LeavesNodes o v u
  pub keeps : KeepsPairs o v u before after
  pub follows : MayFollow p after.phase
  pub kept : KeptRemoval after.phase u o key after t
  pub holds : HoldsRemoval v o before s → HoldsRemoval u o after t
  pub touched : (op : OperationView) → op.removal ≡ s → AreTouched p op o v u.nodes

-- there is some value, or none
some_or_none : (x : Option ℕ) → ((k : ℕ) × (x ≡ Some k)) ⊎ (x ≡ None)
some_or_none (Some k) = inl (k, refl)
some_or_none None = inr refl

same_or_other : (x y : Option ℕ) → (x ≡ y) ⊎ (x ≢ y)
same_or_other None None = inl refl
same_or_other None (Some k) = inr (λ e. absurd (cc))
same_or_other (Some k) None = inr (λ e. absurd (cc))
same_or_other (Some k) (Some j) = elim (cases_eq k j) [ inl is ↦ inl (ap Some is) | inr other ↦ inr (λ e. other (same_Some k j e)) ]

-- what comes before a place can be told
pub child_before : (place : ℕ) (left first : Option ℕ) → ((0 < place) × (left ≡ first)) ⊎ ¬ ((0 < place) × (left ≡ first))
child_before place left first = elim (cases_lt 0 place) [
  | inr none ↦ inr (λ b. absurd (omega (arith, b.0, none)))
  | inl some ↦ elim (same_or_other left first) [ inl is ↦ inl (some, is) | inr other ↦ inr (λ b. other b.1) ]
]

-- the phases behind Unlink and FixNext
rest_follows : (root one : Bool) → MayFollow Unlink (cond root (cond one Collapse Unlock) Unlock) × MayFollow FixNext (cond root (cond one Collapse Unlock) Unlock)
rest_follows true true = (tt, tt)
rest_follows true false = (tt, tt)
rest_follows false one = (tt, tt)

unlink_follows : (behind : Option ℕ) (p : NodeView) → MayFollow Unlink (after_unlink behind p)
unlink_follows None p = (rest_follows p.version.root (eqb (length p.children) 1)).0
unlink_follows (Some k) p = tt

module _ (o step : ℕ) (key : Bytes) (v u : ArenaView) (before after : Walk) (s t : Removal) (arena : IsArena v.nodes v.trees) (deleted : DeletedAreEmpty v) where
  at_phase : (q : Phase) → after ≡ walk_at q before → after.phase ≡ q
  at_phase q is = ap (λ (w : Walk). w.phase) is

  -- an empty node that is no first child has one before it
  has_previous : HoldsEmpty v o before → (left : ℕ) × ((at v before.place.node).previous ≡ Some left)
  has_previous e = elim (some_or_none (at v before.place.node).previous) [
    | inl is ↦ is
    | inr none ↦
        let there = e.node.returns.held.there in
        let first = (arena.nodes.each before.place.node there).chain.first e.node.returns.level_is ((arena.ranged.each before.place.node there).unmarked e.whole e.live) e.live none in
        absurd (let later = e.later in omega (arith, first, later))
  ]

  has_parent : HoldsEmpty v o before → (parent : ℕ) × ((at v before.place.node).parent ≡ Some parent)
  has_parent e = elim (some_or_none (at v before.place.node).parent) [ inl is ↦ is | inr none ↦ absurd (e.child none) ]

  -- a free node that a live one names as the one before, or as its parent, is live
  left_live : IsAtLockPrev v o key before s → (left : ℕ) → (at v before.place.node).previous ≡ Some left → (at v left).holder ≡ None
      → (at v left).version.deleted ≡ false
  left_live k left named free =
      (settled_free v.nodes left (left_there v o left key before s arena k named) arena.nodes free).previous_live before.place.node k.node.node.returns.held.there named k.node.live

  above_live : IsAtLockAbove v o key before s → (parent : ℕ) → (at v before.place.node).parent ≡ Some parent → (at v parent).holder ≡ None
      → (at v parent).version.deleted ≡ false
  above_live k parent named free =
      ((settled_free v.nodes parent (parent_there v o parent key before s arena k named) arena.nodes free).parent before.place.node k.node.node.returns.held.there named k.node.live).live

  as_touched : (p : Phase) (op : OperationView) (w : ArenaView) → u ≡ w → AreTouched p op o v w.nodes → AreTouched p op o v u.nodes
  as_touched p op w is touched = subst (λ (x : ArenaView). AreTouched p op o v x.nodes) (sym is) touched

  lock_prev_removes : IsAtLockPrev v o key before s → IsLockPrev o v u before after s t → Removes LockPrev o key v u before after s t
  lock_prev_removes k b =
      let left = has_previous k.node in
      let is = b.is left.0 left.1 in
      record {
        leaves = subst (LeavesNodes o v) (sym is.1) (lock_leaves o v deleted left.0 (left_there v o left.0 key before s arena k left.1) (left_live k left.0 left.1 is.0));
        keeps = b.on.keeps;
        follows = subst (MayFollow LockPrev) (sym (at_phase LockAbove b.walk)) tt;
        kept = b.on.kept key k;
        holds = b.on.holds;
        touched = λ op same. as_touched LockPrev op (with_lock v left.0 o) is.1 (lock_touched LockPrev op o v left.0 refl);
      }

  lock_above_removes : IsAtLockAbove v o key before s → IsLockAbove o v u before after s t → Removes LockAbove o key v u before after s t
  lock_above_removes k b =
      let parent = has_parent k.node in
      let is = b.is parent.0 parent.1 in
      let before_it : IsChildBefore (at v parent.0) (at v before.place.node).low s.left ⊎ ¬ IsChildBefore (at v parent.0) (at v before.place.node).low s.left = child_before _ s.left _ in
      record {
        leaves = subst (LeavesNodes o v) (sym is.1) (lock_leaves o v deleted parent.0 (parent_there v o parent.0 key before s arena k parent.1) (above_live k parent.0 parent.1 is.0));
        keeps = b.on.keeps;
        follows = elim before_it [
          | inl is ↦ subst (MayFollow LockAbove) (sym (at_phase Unlink (b.unlinks parent.0 parent.1 is))) tt
          | inr other ↦ subst (MayFollow LockAbove) (sym (at_phase Unlock (b.returns parent.0 parent.1 other))) tt
        ];
        kept = b.on.kept key k;
        holds = b.on.holds;
        touched = λ op same. as_touched LockAbove op (with_lock v parent.0 o) is.1 (lock_touched LockAbove op o v parent.0 refl);
      }

  unlink_removes : IsAtUnlink v o key before s → IsUnlink o step v u before after s t → Removes Unlink o key v u before after s t
  unlink_removes k b = record {
    leaves = subst (LeavesNodes o v) (sym (b.is k.left k.parent k.left_is k.parent_is))
        (unlink_leaves o v deleted k.parent k.left before.place.node step k.has_above.node.returns.held k.has_left.node.returns.held k.node.node.returns.held k.node.empty);
    keeps = b.on.keeps;
    follows = subst (MayFollow Unlink) (sym (at_phase (after_unlink (at v before.place.node).next (at u k.parent)) (b.walk k.parent k.parent_is)))
        (unlink_follows (at v before.place.node).next (at u k.parent));
    kept = b.on.kept key k;
    holds = b.on.holds;
    touched = λ op same. as_touched Unlink op (without_node v k.parent k.left before.place.node step) (b.is k.left k.parent k.left_is k.parent_is)
        (unlink_touched op o v k.parent k.left before.place.node step k.has_above.node.returns.held k.has_left.node.returns.held k.node.node.returns.held);
  }

  fix_next_removes : IsAtFixNext v o key before s → IsFixNext o v u before after s t → Removes FixNext o key v u before after s t
  fix_next_removes k b = record {
    leaves = subst (LeavesNodes o v) (sym (b.is k.left k.behind k.left_is k.next))
        (named_leaves o v deleted k.behind k.left ((arena.nodes.each k.left k.has_left.held.there).names.next k.behind k.next));
    keeps = b.on.keeps;
    follows = subst (MayFollow FixNext) (sym (at_phase (for_rest (at v k.parent)) (b.walk k.parent k.parent_is)))
        (rest_follows (at v k.parent).version.root (eqb (length (at v k.parent).children) 1)).1;
    kept = b.on.kept key k;
    holds = b.on.holds;
    touched = λ op same. as_touched FixNext op (with_named_previous v k.behind k.left) (b.is k.left k.behind k.left_is k.next)
        (fix_touched op o v k.left k.behind (ap (λ (x : Removal). x.left) same ∙ k.left_is) k.next);
  }

  collapse_removes : IsAtCollapse v o key before s → IsCollapse o step v u before after s t → Removes Collapse o key v u before after s t
  collapse_removes k b =
      let above = k.has_above.node.returns in
      let level = above.level_is in
      record {
        leaves = subst (LeavesNodes o v) (sym (b.is k.left k.parent k.left_is k.parent_is))
            (collapse_leaves o v deleted k.parent k.left step above.held k.has_left.returns.held ((arena.nodes.each k.parent above.held.there).slots.slotless (omega (arith, level))) above.tree_there);
        keeps = b.on.keeps;
        follows = subst (MayFollow Collapse) (sym (at_phase Unlock b.walk)) tt;
        kept = b.on.kept key k;
        holds = b.on.holds;
        touched = λ op same. as_touched Collapse op (without_root v k.parent k.left step) (b.is k.left k.parent k.left_is k.parent_is)
            (collapse_touched op o v k.parent k.left step above.held k.has_left.returns.held);
      }

  -- the root of the tree to which a held link leads is live
  root_live : (slot tree : ℕ) → HoldsLink v o before.place.node slot tree → (at v (root_of v tree)).version.deleted ≡ false
  root_live slot tree link =
      let there = tree_there v o before.place.node slot tree arena link in
      let leads = arena.layers.links before.place.node link.held.there link.live slot tree link.in_range link.link in
      ((arena.forest.homes (root_of v tree) tree (root_there v o before.place.node slot tree arena link) there).root_is refl (λ dead. absurd (let both = sym leads.live ∙ dead in cc))).live

  clean_layer_removes : IsAtCleanLayer v o key before s → IsCleanLayer o step v u key before after s t → Removes CleanLayer o key v u before after s t
  clean_layer_removes k b = record { leaves = both.0; keeps = b.keeps; follows = both.1; kept = b.kept; holds = b.holds; touched = λ op same. touched op }
    where
      both : LeavesNodes o v u × MayFollow CleanLayer after.phase
      both = elim b.is [
        | inl none ↦ (subst (LeavesNodes o v) (sym none.is) (none_leaves o v deleted), subst (MayFollow CleanLayer) (sym (at_phase Unlock none.walk)) tt)
        | inr (inl full) ↦
            let link = held_link v o (place_at (at v before.place.node) full.slot) b.tree key before s k full.leads.in_slot.in_range full.leads.link in (
              subst (LeavesNodes o v) (sym full.is) (lock_leaves o v deleted (root_of v b.tree) (root_there v o before.place.node (place_at (at v before.place.node) full.slot) b.tree arena link)
                  (root_live (place_at (at v before.place.node) full.slot) b.tree link)),
              subst (MayFollow CleanLayer) (sym (at_phase Unlock full.walk)) tt,
            )
        | inr (inr drops) ↦
            let link = held_link v o (place_at (at v before.place.node) drops.slot) b.tree key before s k drops.leads.in_slot.in_range drops.leads.link in (
              subst (LeavesNodes o v) (sym drops.is)
                  (clean_leaves o v deleted before.place.node (place_at (at v before.place.node) drops.slot) b.tree step k.holds.judged.held k.holds.judged.stands.live
                  (tree_there v o before.place.node (place_at (at v before.place.node) drops.slot) b.tree arena link) (root_there v o before.place.node (place_at (at v before.place.node) drops.slot) b.tree arena link) drops.empty.1
                  (root_live (place_at (at v before.place.node) drops.slot) b.tree link)),
              elim (emptied_either u before after (record s { below = Some (root_of v b.tree) }) t drops.goes) [
                | inl at ↦ subst (MayFollow CleanLayer) (sym at) tt
                | inr at ↦ subst (MayFollow CleanLayer) (sym at) tt
              ],
            )
      ]

      touched : (op : OperationView) → AreTouched CleanLayer op o v u.nodes
      touched op = elim b.is [
        | inl none ↦ as_touched CleanLayer op v none.is (none_touched CleanLayer op o v)
        | inr (inl full) ↦ as_touched CleanLayer op (with_lock v (root_of v b.tree) o) full.is (lock_touched CleanLayer op o v (root_of v b.tree) refl)
        | inr (inr drops) ↦
            let i = place_at (at v before.place.node) drops.slot in
            let link = held_link v o i b.tree key before s k drops.leads.in_slot.in_range drops.leads.link in
            as_touched CleanLayer op (without_layer (with_lock v (root_of v b.tree) o) before.place.node i b.tree step) drops.is
            (clean_touched op o v before.place.node i b.tree step k.holds.judged.held (root_there v o before.place.node i b.tree arena link))
      ]

  -- by the phase
  pub removes_by : (p : Phase) → IsRemovalPhase p → KeptRemoval p v o key before s → IsRemovalFrom p o step key v u before after s t
      → Removes p o key v u before after s t
  removes_by = by_removal _ lock_prev_removes lock_above_removes unlink_removes fix_next_removes collapse_removes clean_layer_removes

  -- all that is out was taken out by this step or before
  abbrev IsUpTo : ArenaView → Type 0
  IsUpTo w = AreOutUpTo step w.retired

  clean_layer_upto : IsAtCleanLayer v o key before s → IsCleanLayer o step v u key before after s t → IsUpTo v → IsUpTo u
  clean_layer_upto k b upto = elim b.is [
    | inl none ↦ subst IsUpTo (sym none.is) upto
    | inr (inl full) ↦ subst IsUpTo (sym full.is) upto
    | inr (inr drops) ↦
        let locking = with_lock v (root_of v b.tree) o in
        let root = root_of locking b.tree in
        subst IsUpTo (sym drops.is) (upto_tree (with_border v.retired root step) b.tree step (upto_border v.retired root step upto))
  ]

  pub upto_by : (p : Phase) → IsRemovalPhase p → KeptRemoval p v o key before s → IsRemovalFrom p o step key v u before after s t
      → AreOutUpTo step v.retired → AreOutUpTo step u.retired
  upto_by = by_removal _
      (λ k b upto. let left = has_previous k.node in subst IsUpTo (sym (b.is left.0 left.1).1) upto)
      (λ k b upto. let parent = has_parent k.node in subst IsUpTo (sym (b.is parent.0 parent.1).1) upto)
      (λ k b upto. subst IsUpTo (sym (b.is k.left k.parent k.left_is k.parent_is)) (upto_border v.retired before.place.node step upto))
      (λ k b upto. subst IsUpTo (sym (b.is k.left k.behind k.left_is k.next)) upto)
      (λ k b upto. subst IsUpTo (sym (b.is k.left k.parent k.left_is k.parent_is)) (upto_interior v.retired k.parent step upto))
      clean_layer_upto

  -- and it was listed after each birth that is before this step
  clean_layer_after : (birth : ℕ) → birth < step → IsAtCleanLayer v o key before s → IsCleanLayer o step v u key before after s t → RetiresAfter birth v.retired u.retired
  clean_layer_after birth later k b = elim b.is [
    | inl none ↦ subst (λ (w : ArenaView). RetiresAfter birth v.retired w.retired) (sym none.is) (after_same birth v.retired)
    | inr (inl full) ↦ subst (λ (w : ArenaView). RetiresAfter birth v.retired w.retired) (sym full.is) (after_same birth v.retired)
    | inr (inr drops) ↦
        let locking = with_lock v (root_of v b.tree) o in
        subst (λ (w : ArenaView). RetiresAfter birth v.retired w.retired) (sym drops.is) (after_layer birth v.retired (root_of locking b.tree) b.tree step later)
  ]

  pub after_by : (birth : ℕ) → birth < step → (p : Phase) → IsRemovalPhase p → KeptRemoval p v o key before s → IsRemovalFrom p o step key v u before after s t
      → RetiresAfter birth v.retired u.retired
  after_by birth later = by_removal _
      (λ k b. let left = has_previous k.node in stays_so (sym (b.is left.0 left.1).1) (after_same birth v.retired))
      (λ k b. let parent = has_parent k.node in stays_so (sym (b.is parent.0 parent.1).1) (after_same birth v.retired))
      (λ k b. stays_so (sym (b.is k.left k.parent k.left_is k.parent_is)) (after_border birth v.retired before.place.node step later))
      (λ k b. stays_so (sym (b.is k.left k.behind k.left_is k.next)) (after_same birth v.retired))
      (λ k b. stays_so (sym (b.is k.left k.parent k.left_is k.parent_is)) (after_interior birth v.retired k.parent step later))
      (λ k b. clean_layer_after birth later k b)
    where
      stays_so : {w x : ArenaView} → w ≡ x → RetiresAfter birth v.retired w.retired → RetiresAfter birth v.retired x.retired
      stays_so same = subst (λ (y : ArenaView). RetiresAfter birth v.retired y.retired) same

  -- it goes to take out the same link
  clean_layer_cleans : IsCleanLayer o step v u key before after s t → t.cleans ≡ s.cleans
  clean_layer_cleans b = elim b.is [
    | inl none ↦ ap (λ (r : Removal). r.cleans) none.removal
    | inr (inl full) ↦ ap (λ (r : Removal). r.cleans) full.removal
    | inr (inr drops) ↦ ap (λ (r : Removal). r.cleans) drops.goes.removal
  ]

  pub cleans_by : (p : Phase) → IsRemovalPhase p → KeptRemoval p v o key before s → IsRemovalFrom p o step key v u before after s t → t.cleans ≡ s.cleans
  cleans_by = by_removal _
      (λ k b. let left = has_previous k.node in ap (λ (r : Removal). r.cleans) (b.is left.0 left.1).2)
      (λ k b. let parent = has_parent k.node in ap (λ (r : Removal). r.cleans) (b.is parent.0 parent.1).2)
      (λ k b. ap (λ (r : Removal). r.cleans) b.removal)
      (λ k b. ap (λ (r : Removal). r.cleans) b.removal)
      (λ k b. ap (λ (r : Removal). r.cleans) b.removal)
      (λ k b. clean_layer_cleans b)

  -- where it leads, by the table of phases
  pub removal_leads : (p : Phase) → IsRemovalPhase p → KeptRemoval p v o key before s → IsRemovalFrom p o step key v u before after s t
      → (told : Option Outcome) (splits : SplitsView) (g : ScanStep) → LeadsTo p v u o step key told splits s g before after
  removal_leads LockPrev i k b told splits g =
      let left = has_previous k.node in record { left = left.0; left_is = left.1; free = (b.is left.0 left.1).0; goes = b.walk }
  removal_leads LockAbove i k b told splits g =
      let parent = has_parent k.node in
      record { parent = parent.0; parent_is = parent.1; free = (b.is parent.0 parent.1).0; unlinks = b.unlinks parent.0 parent.1; returns = b.returns parent.0 parent.1 }
  removal_leads Unlink i k b told splits g = (k.parent, k.parent_is, b.walk k.parent k.parent_is)
  removal_leads FixNext i k b told splits g = (k.parent, k.parent_is, b.walk k.parent k.parent_is)
  removal_leads Collapse i k b told splits g = b.walk
  removal_leads CleanLayer i k b told splits g = (
    b.tree,
    b.cleans,
    elim b.is [
      | inl none ↦ inl (record { none = none.none; goes = none.walk })
      | inr (inl full) ↦ inr (inl (record { free = full.free; full = full.full; goes = full.walk }))
      | inr (inr drops) ↦ inr (inr (record {
        free = drops.free;
        border = drops.empty.0;
        empty = drops.empty.1;
        goes = record { unlinks = drops.goes.unlinks; returns = drops.goes.returns };
      }))
    ],
  )
  removal_leads _ i k b told splits g = absurd i

-- so by the step after so many
pub retires_by : (o steps : ℕ) (key : Bytes) (v u : ArenaView) (before after : Walk) (s t : Removal) → IsArena v.nodes v.trees → DeletedAreEmpty v
    → AreOutUpTo steps v.retired → (p : Phase) → IsRemovalPhase p → KeptRemoval p v o key before s
    → IsRemovalFrom p o (steps + 1) key v u before after s t → Retires steps v.retired u.retired
retires_by o steps key v u before after s t arena deleted late p i kept from = record {
  upto = upto_by o (steps + 1) key v u before after s t arena deleted p i kept from (upto_later steps (steps + 1) v.retired (omega arith) late);
  after = λ birth born. after_by o (steps + 1) key v u before after s t arena deleted birth (omega (arith, born)) p i kept from;
}
