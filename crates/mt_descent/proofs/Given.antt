-- What is kept of a walk stays if places are given out that it does not remember.
use Rattle.std.proofs.Common.{◌≡◌, ◌≢◌, ℕ, ◌+◌, ◌<◌, ◌≤◌, true, [], length, inl, inr, Option, Some, None, refl, sym, ap, subst, ◌∙◌, arith}
use Rattle.mt_version.specs.Parts.{Parts}
use Rattle.mt_interior.specs.Fences.{end_of}
use Rattle.mt_rows.specs.{Rows.Bytes, Stamps.Stamped}
use Rattle.mt_border.specs.{Contents.IsOfTree, Held.Held, Slots.{held_in, is_dropped}}
use Rattle.mt_arena.specs.{declared.tree.Tree.Tree, NodeFacts.IsUnstable, NodeView.{NodeView, place_at}, Forests.tree_at, Layers.slot_at, Arena.ArenaView, Accesses.at}
use Rattle.mt_operation.specs.declared.phase.Phase.{Phase}
use Rattle.mt_operation.specs.declared.phase.Phase.TheVariants.{Enter, Pick, Child, Verify, Search, Load, Confirm, Forward, Lock, Snap, Check, Done}
use Rattle.mt_operation.specs.{declared.walk.Taken.Taken, declared.walk.Taken.TheVariants.{Missing, Row, Link, Nothing}, declared.walk.Walk.Walk}
use Rattle.mt_descent.specs.{Seen.{RangeStands, Stands, WasSeen, IsRemembered, Covers, child_for, IsPicked, HasNext}, Pasts.Past}
use Rattle.mt_descent.specs.KeptWalks.{GoesThrough, slice_in, IsAtPick, IsAtBorder, HasSlot, Had, IsOfKey, IsAtLoad, TakenHolds, KeptAt}
use Rattle.mt_descent.specs.Remembered.{StandsHere, RemembersTree, IsGivenElsewhere}
use Rattle.mt_border.specs.Held as helds

module _ (old new : ArenaView) (count : length new.nodes ≡ length old.nodes) (tree_count : length new.trees ≡ length old.trees) where
  pub through_given : (t layer : ℕ) (key : Bytes) → tree_at new.trees t ≡ tree_at old.trees t → GoesThrough old t layer key → GoesThrough new t layer key
  through_given t layer key same h = record {
    there = omega (arith, h.there, tree_count);
    unmade = λ q e. h.unmade q (ap (λ (x : Tree). x.standing) (sym same) ∙ e);
    of_tree = subst (λ (x : Tree). IsOfTree x.prefix layer key) (sym same) h.of_tree;
    begun = h.begun;
  }

  remembered_given : (t k : ℕ) (seen : Parts) (slice : ℕ) → at new k ≡ at old k → IsRemembered old t k seen slice → IsRemembered new t k seen slice
  remembered_given t k seen slice same h = record {
    there = omega (arith, h.there, count);
    tree_is = ap (λ (n : NodeView). n.tree) same ∙ h.tree_is;
    was = subst (λ (n : NodeView). WasSeen n seen) (sym same) h.was;
    undeleted = h.undeleted;
    from = subst (λ (n : NodeView). n.low ≤ slice) (sym same) h.from;
    peopled = subst (λ (n : NodeView). 0 < n.level → n.children ≢ []) (sym same) h.peopled;
  }

  covers_given : (t k : ℕ) (seen : Parts) (slice : ℕ) → at new k ≡ at old k → Covers old t k seen slice → Covers new t k seen slice
  covers_given t k seen slice same h = record {
    remembered = remembered_given t k seen slice same h.remembered;
    below = subst (λ (n : NodeView). RangeStands n seen → slice < end_of n.high) (sym same) h.below;
  }

  pick_given : (key : Bytes) (w : Walk) → at new w.place.node ≡ at old w.place.node → tree_at new.trees w.place.tree ≡ tree_at old.trees w.place.tree
      → IsAtPick old key w → IsAtPick new key w
  pick_given key w same same_tree h = record {
    through = through_given w.place.tree w.layer key same_tree h.through;
    covers = covers_given w.place.tree w.place.node w.place.seen (slice_in key w) same h.covers;
    interior = subst (λ (n : NodeView). 0 < n.level) (sym same) h.interior;
  }

  picked_given : (k : ℕ) (seen : Parts) (slice c : ℕ) → at new k ≡ at old k → IsPicked old k seen slice c → IsPicked new k seen slice c
  picked_given k seen slice c same h = record {
    there = omega (arith, h.there, count);
    is = subst (λ (n : NodeView). Stands n seen → c ≡ child_for n slice) (sym same) h.is;
  }

  -- what is kept at a border node
  pub border_given : (key : Bytes) (w : Walk) → at new w.place.node ≡ at old w.place.node → tree_at new.trees w.place.tree ≡ tree_at old.trees w.place.tree
      → IsAtBorder old key w → IsAtBorder new key w
  border_given key w same same_tree h = record {
    through = through_given w.place.tree w.layer key same_tree h.through;
    covers = covers_given w.place.tree w.place.node w.place.seen (slice_in key w) same h.covers;
    border = ap (λ (n : NodeView). n.level) same ∙ h.border;
  }

  -- what is of the key stays so, if the tree of a link does
  of_key_given : (past : Past) (key : Bytes) (first layer : ℕ) (held : Held) → ((u : ℕ) → held ≡ helds.Link u → tree_at new.trees u ≡ tree_at old.trees u)
      → IsOfKey old past key first layer held → IsOfKey new past key first layer held
  of_key_given past key first layer (helds.Stable pair) trees h = h
  of_key_given past key first layer (helds.Unstable pair tree) trees h = h
  of_key_given past key first layer (helds.Link u) trees h = through_given u (layer + 1) key (trees u refl) h

  load_given : (past : Past) (key : Bytes) (w : Walk) → at new w.place.node ≡ at old w.place.node → ((t : ℕ) → RemembersTree Load old w t → tree_at new.trees t ≡ tree_at old.trees t)
      → IsAtLoad old past key w → IsAtLoad new past key w
  load_given past key w same trees h =
      let k = w.place.node in
      let n = at old k in
      record {
        at_border = border_given key w same (trees w.place.tree (inl refl)) h.at_border;
        within = h.within;
        since = h.since;
        found = λ stands_now.
            let stands : StandsHere old w = subst (λ (x : NodeView). Stands x w.place.seen) same stands_now in
            elim (h.found stands) [
              | inl l ↦ inl (record {
                has = subst (λ (x : NodeView). HasSlot x w.slot key w.layer) (sym same) l.has;
                held = subst (λ (x : NodeView). ¬ IsUnstable (slot_at x (place_at x w.slot)).held → IsOfKey new past key w.first w.layer (slot_at x (place_at x w.slot)).held)
                    (sym same)
                    (λ stable. of_key_given past key w.first w.layer (slot_at n (place_at n w.slot)).held (λ u is. trees u (inr (stands, inl (l.has.in_slot.in_range, is)))) (l.held stable));
              })
              | inr d ↦ inr (record {
                flag = subst (λ (x : NodeView). is_dropped x.cells w.slot ≡ true) (sym same) d.flag;
                free = subst (λ (x : NodeView). ¬ (place_at x w.slot < length x.slots)) (sym same) d.free;
                held = subst (λ (x : NodeView). IsOfKey new past key w.first w.layer (held_in x.cells.helds w.slot)) (sym same)
                    (of_key_given past key w.first w.layer (held_in n.cells.helds w.slot) (λ u is. trees u (inr (stands, inr (d.free, is)))) d.held);
              })
            ];
      }

  taken_given : (past : Past) (key : Bytes) (row : Option Stamped) (w : Walk) (taken : Taken) → at new w.place.node ≡ at old w.place.node
      → ((u : ℕ) → StandsHere old w → taken ≡ Link u → tree_at new.trees u ≡ tree_at old.trees u) → TakenHolds old past key row w taken
      → TakenHolds new past key row w taken
  taken_given past key row w Missing same trees h = subst (λ (n : NodeView). RangeStands n w.place.seen → Had past w.first w.right_at key None) (sym same) h
  taken_given past key row w Row same trees h =
      subst (λ (n : NodeView). Stands n w.place.seen → (had : Stamped) × (row ≡ Some had) × Had past w.first w.right_at key row) (sym same) h
  taken_given past key row w (Link u) same trees h = λ stands_now.
      let stands = subst (λ (n : NodeView). Stands n w.place.seen) same stands_now in
      through_given u (w.layer + 1) key (trees u stands refl) (h stands)
  taken_given past key row w Nothing same trees h = subst (λ (n : NodeView). Stands n w.place.seen → ⊥) (sym same) h

  next_given : (t k : ℕ) (seen : Parts) (next : Option ℕ) → at new k ≡ at old k → ((j : ℕ) → next ≡ Some j → at new j ≡ at old j)
      → HasNext old t k seen next → HasNext new t k seen next
  next_given t k seen next same others h = record {
    there = λ j is. omega (arith, h.there j is, count);
    tree_is = λ j is. ap (λ (n : NodeView). n.tree) (others j is) ∙ h.tree_is j is;
    border = λ j is. ap (λ (n : NodeView). n.level) (others j is) ∙ h.border j is;
    after = λ j is. omega (arith, h.after j is, ap (λ (n : NodeView). n.low) same, ap (λ (n : NodeView). n.low) (others j is));
    meets = λ j is stands. omega (arith, h.meets j is (subst (λ (n : NodeView). RangeStands n seen) same stands), ap (λ (n : NodeView). end_of n.high) same, ap (λ (n : NodeView). n.low) (others j is));
    last = λ none stands. omega (arith, h.last none (subst (λ (n : NodeView). RangeStands n seen) same stands), ap (λ (n : NodeView). end_of n.high) same);
  }

-- by the phase
pub kept_given : (old new : ArenaView) (past : Past) (key : Bytes) (row : Option Stamped) (w : Walk) (phase : Phase) → IsGivenElsewhere old new phase w
    → KeptAt phase old past key row w → KeptAt phase new past key row w
kept_given old new past key row w Enter g h = through_given old new g.gives.count g.gives.tree_count w.place.tree w.layer key (g.trees w.place.tree refl) h
kept_given old new past key row w Pick g h = pick_given old new g.gives.count g.gives.tree_count key w (g.nodes w.place.node refl) (g.trees w.place.tree refl) h
kept_given old new past key row w Child g h = record {
  above = pick_given old new g.gives.count g.gives.tree_count key w (g.nodes w.place.node (inl refl)) (g.trees w.place.tree refl) h.above;
  picked = picked_given old new g.gives.count g.gives.tree_count w.place.node w.place.seen (slice_in key w) w.child (g.nodes w.place.node (inl refl)) h.picked;
}
kept_given old new past key row w Verify g h = record {
  above = pick_given old new g.gives.count g.gives.tree_count key w (g.nodes w.place.node (inl refl)) (g.trees w.place.tree refl) h.above;
  picked = picked_given old new g.gives.count g.gives.tree_count w.place.node w.place.seen (slice_in key w) w.child (g.nodes w.place.node (inl refl)) h.picked;
  child = subst (λ (n : NodeView). WasSeen n w.child_seen) (sym (g.nodes w.child (inr refl))) h.child;
}
kept_given old new past key row w Search g h = border_given old new g.gives.count g.gives.tree_count key w (g.nodes w.place.node refl) (g.trees w.place.tree refl) h
kept_given old new past key row w Load g h = load_given old new g.gives.count g.gives.tree_count past key w (g.nodes w.place.node refl) g.trees h
kept_given old new past key row w Confirm g h = record {
  at_border = border_given old new g.gives.count g.gives.tree_count key w (g.nodes w.place.node refl) (g.trees w.place.tree (inl refl)) h.at_border;
  taken = taken_given old new g.gives.count g.gives.tree_count past key row w w.taken (g.nodes w.place.node refl) (λ u stands is. g.trees u (inr (stands, is))) h.taken;
}
kept_given old new past key row w Forward g h = record {
  through = through_given old new g.gives.count g.gives.tree_count w.place.tree w.layer key (g.trees w.place.tree refl) h.through;
  remembered = remembered_given old new g.gives.count g.gives.tree_count w.place.tree w.place.node w.place.seen (slice_in key w) (g.nodes w.place.node (inl refl)) h.remembered;
  border = ap (λ (n : NodeView). n.level) (g.nodes w.place.node (inl refl)) ∙ h.border;
  next = next_given old new g.gives.count g.gives.tree_count w.place.tree w.place.node w.place.seen w.next (g.nodes w.place.node (inl refl)) (λ j is. g.nodes j (inr is)) h.next;
}
kept_given old new past key row w Lock g h = border_given old new g.gives.count g.gives.tree_count key w (g.nodes w.place.node refl) (g.trees w.place.tree refl) h
kept_given old new past key row w Snap g h = border_given old new g.gives.count g.gives.tree_count key w (g.nodes w.place.node refl) (g.trees w.place.tree refl) h
kept_given old new past key row w Check g h = border_given old new g.gives.count g.gives.tree_count key w (g.nodes w.place.node refl) (g.trees w.place.tree refl) h
kept_given old new past key row w Done g h = h
kept_given old new past key row w _ g h = h
