-- What is kept once the slot holds its pair otherwise, and once it is a link: for `mark_unstable`, `link` and `mark_layer`.
use Rattle.std.proofs.{Common.{◌≡◌, ◌≢◌, ℕ, ◌+◌, ◌<◌, length, Some, None, sym, ap, subst, ◌∙◌, inl, inr, arith, List, set, refl}, lemmas.Bool.cases_eq}
use Rattle.std.proofs.lemmas.List.{length-set, get_or-set_same, get_or-set_other}
use Rattle.mt_rows.specs.Rows.{Bytes}
use Rattle.mt_border.specs.{Held.Pair, Held.Held, Held.{Stable, Unstable, Link}, Entry.pair_of}
use Rattle.mt_border.specs.{Contents.{IsOfTree, row_of}, declared.entry.Entry.Entry}
use Rattle.mt_border.proofs.Edits.{any_entry, replaced_at as set_at}
use Rattle.mt_arena.specs.{declared.tree.Tree.Tree, declared.tree.Standing.TheVariants.{Made, Live}, NodeView.{NodeView, place_at}, Forests.{tree_at, no_tree}}
use Rattle.mt_arena.specs.{Arena.{ArenaView, IsArena}, Accesses.at, Layering.{IsLayerOf, IsSettledBut, with_held, with_slot, with_link}, Layers.slot_at}
use Rattle.mt_arena.proofs.{Pairs.{here, there}, LayerStays.whole_rewritten, SettledBut.{settled_but_held, settled_again}}
use Rattle.mt_operation.specs.{declared.phase.Phase.Phase, declared.walk.Taken.Taken, declared.walk.Walk.Walk}
use Rattle.mt_descent.specs.KeptWalks.{walk_place}
use Rattle.mt_layer.specs.{KeptLayers.{MakesLayer, IsAtMarkUnstable, IsAtLink, IsAtMarkLayer, IsAtLeave}, NewLayers.walk_at}
use Rattle.mt_operation.specs.declared.phase.Phase.TheVariants as phases
use Rattle.mt_operation.specs.declared.walk.Taken.TheVariants as takens

-- the walk makes one tree
pub same_tree : (t u : ℕ) (taken : Taken) → taken ≡ takens.Link t → taken ≡ takens.Link u → t ≡ u
same_tree t u taken is also = let both : takens.Link t ≡ takens.Link u = sym is ∙ also in cc

-- the first node of the tree is another one than the operation's border node
first_apart : (v : ArenaView) (op : ℕ) (key : Bytes) (w : Walk) (t : ℕ) (what : Held) (pair : Pair) → MakesLayer v op key w t what pair
    → (tree_at v.trees t).root ≢ w.place.node
first_apart v op key w t what pair m same =
    let mine : (tree_at v.trees t).standing ≡ Made op = m.layer.layer.mine in
    let of_tree : (at v w.place.node).tree ≡ t = ap (λ (k : ℕ). (at v k).tree) (sym same) ∙ m.layer.layer.made.tree in
    let both : Live ≡ Made op = sym m.layer.slot.tree_live ∙ ap (λ (u : ℕ). (tree_at v.trees u).standing) of_tree ∙ mine in
    absurd (cc)

-- the slot holds its pair otherwise
otherwise : (v : ArenaView) (op : ℕ) (key : Bytes) (w : Walk) (t : ℕ) (what held : Held) (pair : Pair) (phase : Phase) → IsArena v.nodes v.trees
    → ((p : Pair) → pair_of held ≡ Some p → pair_of what ≡ Some p) → MakesLayer v op key w t what pair
    → MakesLayer (with_slot v w.place.node (walk_place v w) held) op key (walk_at phase w) t held pair
otherwise v op key w t what held pair phase arena goes_on m =
    let slot = m.layer.slot in
    let new = with_slot v w.place.node (walk_place v w) held in
    let same : walk_place new (walk_at phase w) ≡ walk_place v w = ap (λ (n : NodeView). place_at n w.slot) (here v.nodes w.place.node (with_held (at v w.place.node) (walk_place v w) held) slot.held.there) in
    record {
      taken = m.taken;
      other = m.other;
      layer = subst (λ i. IsLayerOf new w.place.node i t op held m.other (row_of pair)) (sym same) (whole_rewritten v w.place.node (walk_place v w) t op what held m.other (row_of pair) arena m.layer goes_on);
      settled = subst (IsSettledBut new.nodes w.place.node) (sym same) (settled_but_held v w.place.node (walk_place v w) held arena.nodes slot.held.there slot.in_range m.settled);
      goes_on = record { there = m.goes_on.there; of_tree = m.goes_on.of_tree; begun = m.goes_on.begun };
      first =
          ap (λ (x : NodeView). x.slots) (there v.nodes w.place.node (tree_at v.trees t).root (with_held (at v w.place.node) (walk_place v w) held) (first_apart v op key w t what pair m)) ∙ m.first;
    }

-- unstable
pub unstable : (v : ArenaView) (op : ℕ) (key : Bytes) (w : Walk) → IsArena v.nodes v.trees → (h : IsAtMarkUnstable v op key w)
    → IsAtLink (with_slot v w.place.node (walk_place v w) (Unstable h.pair None)) op key (walk_at phases.Link w)
unstable v op key w arena h = record {
  tree = h.tree;
  pair = h.pair;
  makes = otherwise v op key w h.tree (Stable h.pair) (Unstable h.pair None) h.pair phases.Link arena (λ p is. is) h.makes;
}

-- with the number of the tree
pub numbered : (v : ArenaView) (op : ℕ) (key : Bytes) (w : Walk) → IsArena v.nodes v.trees → (h : IsAtLink v op key w)
    → IsAtMarkLayer (with_slot v w.place.node (walk_place v w) (Unstable h.pair (Some h.tree))) op key (walk_at phases.MarkLayer w)
numbered v op key w arena h = record {
  tree = h.tree;
  pair = h.pair;
  makes = otherwise v op key w h.tree (Unstable h.pair None) (Unstable h.pair (Some h.tree)) h.pair phases.MarkLayer arena (λ p is. is) h.makes;
}

-- a link
module _ (v : ArenaView) (op : ℕ) (key : Bytes) (w : Walk) (arena : IsArena v.nodes v.trees) (h : IsAtMarkLayer v op key w) where
  abbrev k : ℕ
  k = w.place.node

  abbrev t : ℕ
  t = h.tree

  abbrev y : NodeView
  y = with_held (at v k) (walk_place v w) (Link t)

  abbrev u : Tree
  u = record (tree_at v.trees t) { standing = Live }

  abbrev after : ArenaView
  after = with_link v k (walk_place v w) t

  within : k < length v.nodes
  within = h.makes.layer.slot.held.there

  node_is : at after k ≡ y
  node_is = here v.nodes k y within

  tree_is : tree_at after.trees t ≡ u
  tree_is = get_or-set_same v.trees t u no_tree h.makes.goes_on.there

  size : length after.trees ≡ length v.trees
  size = length-set v.trees t u

  slots_are : y.slots ≡ set (at v k).slots (walk_place v w) (record (slot_at (at v k) (walk_place v w)) { held = Link t })
  slots_are = set_at (at v k).slots (walk_place v w) (record (slot_at (at v k) (walk_place v w)) { held = Link t }) any_entry (arena.nodes.each k within).slots.border.rising h.makes.layer.slot.in_range refl

  above_live : (tree_at after.trees (at v k).tree).standing ≡ Live
  above_live = elim (cases_eq (at v k).tree t) [
    | inl same ↦ ap (λ s. (tree_at after.trees s).standing) same ∙ ap (λ (x : Tree). x.standing) tree_is
    | inr differ ↦ ap (λ (x : Tree). x.standing) (get_or-set_other v.trees t (at v k).tree u no_tree differ) ∙ h.makes.layer.slot.tree_live
  ]

  pub linked : IsAtLeave after op key (walk_at phases.Unlock w)
  linked = record {
    tree = t;
    taken = h.makes.taken;
    unlock = record {
      held = record { there = omega (arith, within, length-set v.nodes k y); holder = ap (λ (x : NodeView). x.holder) node_is ∙ h.makes.layer.slot.held.holder };
      tree_there = subst (λ (x : NodeView). x.tree < length after.trees) (sym node_is) (omega (arith, size, arena.forest.tree_there k within));
      mine = λ q making. absurd (let live = sym above_live ∙ ap (λ (x : NodeView). (tree_at after.trees x.tree).standing) (sym node_is) ∙ making in cc);
      settled = settled_again v k (walk_place v w) (Link t) arena.nodes within h.makes.layer.slot.in_range h.makes.settled (λ none. none);
    };
    live = ap (λ (x : NodeView). x.version.deleted) node_is ∙ h.makes.layer.slot.live;
    in_range = subst (λ (x : NodeView). place_at x w.slot < length x.slots) (sym node_is)
        (let same = ap (λ (s : List Entry). length s) slots_are ∙ length-set (at v k).slots (walk_place v w) (record (slot_at (at v k) (walk_place v w)) { held = Link t }) in
        let was = h.makes.layer.slot.in_range in
        omega (arith, same, was));
    link = ap (λ (x : NodeView). (slot_at x (place_at x w.slot)).held) node_is ∙ ap (λ (s : List Entry). (slot_at (record y { slots = s }) (walk_place v w)).held) slots_are
        ∙ ap (λ (e : Entry). e.held) (get_or-set_same (at v k).slots (walk_place v w) (record (slot_at (at v k) (walk_place v w)) { held = Link t }) any_entry h.makes.layer.slot.in_range);
    through = record {
      there = omega (arith, size, h.makes.goes_on.there);
      unmade = λ q making. let live = sym (ap (λ (x : Tree). x.standing) tree_is) ∙ making in absurd (cc);
      of_tree = subst (λ (x : Tree). IsOfTree x.prefix (w.layer + 1) key) (sym tree_is) h.makes.goes_on.of_tree;
      begun = h.makes.goes_on.begun;
    };
  }
