-- What an operation keeps that holds a node stays under each step of another operation, by what that step leaves to others.
use Rattle.std.proofs.Common.{◌≡◌, ◌≢◌, ℕ, ◌<◌, Bool, List, length, Some, refl, sym, ap, subst, ◌∙◌, arith}
use Rattle.mt_slices.specs.Slices.{slice_of, mark_of, suffix_of}
use Rattle.mt_rows.specs.Rows.{Bytes}
use Rattle.mt_order.specs.Places.{Places}
use Rattle.mt_border.specs.{Slots.Slotted, declared.entry.Entry.Entry, declared.entry.FoundKind.FoundKind, Entry.IsKind, Contents.IsOfTree}
use Rattle.mt_version.specs.{Parts.Parts, Changes.range_age}
use Rattle.mt_arena.specs.{declared.tree.Tree.Tree, declared.tree.Standing.Standing, declared.tree.Standing.TheVariants.{Made, Live, Dead}, NodeView.NodeView}
use Rattle.mt_arena.specs.{Forests.tree_at, Layers.slot_at, Settled.IsSettled, Arena.{ArenaView, Guarantee}, Accesses.{at, IsOpen, IsHeld}}
use Rattle.mt_arena.specs.Guarantee.{TreeChanges, IsUntouched}
use Rattle.mt_arena.proofs.Settled.{settled_stays}
use Rattle.mt_operation.specs.declared.walk.Walk.{Walk}
use Rattle.mt_descent.{specs.KeptWalks.{IsInSlot, GoesThrough}, proofs.Rely.border_stays}
use Rattle.mt_held.specs.Holds.{IsStillBut, HoldsNode, HoldsBy, IsAtUnlock, MayReturn}

-- a slot stays while the slots and their order do
pub in_slot_stays : (n m : NodeView) (slot : ℕ) (key : Bytes) (layer : ℕ) (kind : FoundKind) → n.slots ≡ m.slots → n.cells.order ≡ m.cells.order → IsInSlot n slot key layer kind
    → IsInSlot m slot key layer kind
in_slot_stays n m slot key layer kind slots order h =
    let other = subst (λ (o : Places). IsInSlot (record n { cells = record n.cells { order = o } }) slot key layer kind) order h in
    let same = subst (λ (s : List Entry). IsInSlot (record n { slots = s; cells = record n.cells { order = m.cells.order } }) slot key layer kind) slots (record { within = other.within; in_range = other.in_range; slice_is = other.slice_is; mark_is = other.mark_is; kind_is = other.kind_is }) in
    record { within = same.within; in_range = same.in_range; slice_is = same.slice_is; mark_is = same.mark_is; kind_is = same.kind_is }

-- a tree that no other operation is making, none but this one comes to make
pub open_stays : (op o : ℕ) (tree after : Tree) → TreeChanges op tree after → o ≢ op → ((q : ℕ) → tree.standing ≡ Made q → q ≡ o) → (s : Standing)
    → tree.standing ≡ s → (q : ℕ) → after.standing ≡ Made q → q ≡ o
open_stays op o tree after c other mine (Made by) is q e = mine q (ap (λ (t : Tree). t.standing) (sym (c.made o other (is ∙ ap Made (mine by is)))) ∙ e)
open_stays op o tree after c other mine Live is q e = absurd (c.live is q e)
open_stays op o tree after c other mine Dead is q e = mine q (ap (λ (t : Tree). t.standing) (sym (c.dead is)) ∙ e)

-- a tree that is not being made never is
unmade_stays : (op : ℕ) (tree after : Tree) → TreeChanges op tree after → ((q : ℕ) → tree.standing ≢ Made q) → (s : Standing) → tree.standing ≡ s
    → (q : ℕ) → after.standing ≢ Made q
unmade_stays op tree after c unmade (Made by) is q e = unmade by is
unmade_stays op tree after c unmade Live is q e = c.live is q e
unmade_stays op tree after c unmade Dead is q e = unmade q (ap (λ (t : Tree). t.standing) (sym (c.dead is)) ∙ e)

module _ (op o : ℕ) (old new : ArenaView) (g : Guarantee op old new) (other : o ≢ op) where
  pub settled_here : (k : ℕ) → k < length old.nodes → (at old k).holder ≡ Some o → IsSettled old.nodes k (at old k) → IsSettled new.nodes k (at new k)
  settled_here k there holder settled = settled_stays op o old.nodes new.nodes old.trees new.trees k g.nodes g.points other there holder settled

  -- the node that it holds
  holds_stays : (marked : Bool) (key : Bytes) (w : Walk) → HoldsNode marked old o key w → HoldsNode marked new o key w
  holds_stays marked key w h =
      let kept = (g.nodes.nodes w.place.node h.held.there).held o other h.held.holder in
      record {
        at_border = border_stays op old new g.nodes key w h.at_border;
        held = record { there = omega (arith, h.held.there, g.nodes.count); holder = kept.holder ∙ h.held.holder };
        still = subst (IsStillBut marked) (sym kept.version) h.still;
        stands = record { live = ap (λ (p : Parts). p.deleted) kept.version ∙ h.stands.live; range = ap range_age kept.version ∙ h.stands.range };
      }

  -- at Judge
  pub held : {marked : Bool} → (key : Bytes) (w : Walk) → HoldsBy marked old o key w → HoldsBy marked new o key w
  held {marked} key w h = record {
    judged = holds_stays marked key w h.judged;
    settled = settled_here w.place.node h.judged.held.there h.judged.held.holder h.settled;
  }

  -- the slots of the node stay
  pub same_slots : {marked : Bool} → (key : Bytes) (w : Walk) → HoldsBy marked old o key w → (at old w.place.node).slots ≡ (at new w.place.node).slots
  same_slots {marked} key w h = sym ((g.nodes.nodes w.place.node h.judged.held.there).held o other h.judged.held.holder).slots

  -- and so do its cells
  pub same_cells : {marked : Bool} → (key : Bytes) (w : Walk) → HoldsBy marked old o key w → (at old w.place.node).cells ≡ (at new w.place.node).cells
  same_cells {marked} key w h = sym ((g.nodes.nodes w.place.node h.judged.held.there).held o other h.judged.held.holder).cells

  -- in their order
  pub same_order : {marked : Bool} → (key : Bytes) (w : Walk) → HoldsBy marked old o key w → (at old w.place.node).cells.order ≡ (at new w.place.node).cells.order
  same_order {marked} key w h = ap (λ (cells : Slotted). cells.order) (same_cells key w h)

  -- and its version
  pub same_version : {marked : Bool} → (key : Bytes) (w : Walk) → HoldsBy marked old o key w → (at old w.place.node).version ≡ (at new w.place.node).version
  same_version {marked} key w h = sym ((g.nodes.nodes w.place.node h.judged.held.there).held o other h.judged.held.holder).version

  -- the tree of a node is there
  pub tree_there_stays : (k : ℕ) → k < length old.nodes → (at old k).tree < length old.trees → (at new k).tree < length new.trees
  tree_there_stays k within there = subst (λ u. u < length new.trees) (sym (g.nodes.nodes k within).tree) (omega (arith, there, g.nodes.tree_count))

  -- and no other operation comes to make it
  pub open_here : (k : ℕ) → k < length old.nodes → (at old k).tree < length old.trees → IsOpen old k o → IsOpen new k o
  open_here k within there mine =
      let t = (at old k).tree in
      subst (λ u. (q : ℕ) → (tree_at new.trees u).standing ≡ Made q → q ≡ o) (sym (g.nodes.nodes k within).tree)
      (open_stays op o (tree_at old.trees t) (tree_at new.trees t) (g.nodes.trees t there) other mine (tree_at old.trees t).standing refl)

  -- at Unlock
  pub unlock : (w : Walk) → IsAtUnlock old o w → IsAtUnlock new o w
  unlock w h =
      let k = w.place.node in
      record {
        held = record { there = omega (arith, h.held.there, g.nodes.count); holder = ((g.nodes.nodes k h.held.there).held o other h.held.holder).holder ∙ h.held.holder };
        tree_there = tree_there_stays k h.held.there h.tree_there;
        mine = open_here k h.held.there h.tree_there h.mine;
        settled = settled_here k h.held.there h.held.holder h.settled;
      }

  -- a tree through which a key goes
  pub through_stays : (t layer : ℕ) (key : Bytes) → GoesThrough old t layer key → GoesThrough new t layer key
  through_stays t layer key h =
      let c = g.nodes.trees t h.there in
      record {
        there = omega (arith, h.there, g.nodes.tree_count);
        unmade = unmade_stays op (tree_at old.trees t) (tree_at new.trees t) c h.unmade (tree_at old.trees t).standing refl;
        of_tree = subst (λ (prefix : Bytes). IsOfTree prefix layer key) (sym c.prefix) h.of_tree;
        begun = h.begun;
      }

  -- a node that the operation holds is untouched, and stays its own
  pub untouched : (k : ℕ) → IsHeld old k o → IsUntouched (at old k) (at new k)
  untouched k h = (g.nodes.nodes k h.there).held o other h.holder

  pub held_stays : (k : ℕ) → IsHeld old k o → IsHeld new k o
  held_stays k h = record { there = omega (arith, h.there, g.nodes.count); holder = (untouched k h).holder ∙ h.holder }

  -- what may be given back
  pub return_stays : (level k : ℕ) → MayReturn old o level k → MayReturn new o level k
  return_stays level k h = record {
    held = held_stays k h.held;
    level_is = (g.nodes.nodes k h.held.there).level ∙ h.level_is;
    tree_there = tree_there_stays k h.held.there h.tree_there;
    mine = open_here k h.held.there h.tree_there h.mine;
    settled = settled_here k h.held.there h.held.holder h.settled;
  }
