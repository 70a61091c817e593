-- What may be given back may still be given back after an edit that leaves the node as it is, but for the one before it and its parent, and
-- by which nobody comes to name it.
use Rattle.std.proofs.Common.{◌≡◌, ℕ, ◌<◌, ◌≤◌, List, length, get_or, None, refl, sym, ap, subst, ◌∙◌, arith, ◌-◌, Some, false, set, inl, inr}
use Rattle.std.proofs.{lemmas.Bool.cases_eq, lemmas.List.length-set}
use Rattle.std.specs.List.{All}
use Rattle.mt_border.specs.declared.entry.Entry.{Entry}
use Rattle.mt_arena.specs.{declared.tree.Tree.Tree, NodeView.{NodeView, node_at}, Nodes.{HasChild, AreNodes, IsChild}, NodeFacts.IsUnstable, Forests.tree_at}
use Rattle.mt_arena.specs.{Lags.{Follows, IsUnder}, Settled.IsSettled, Arena.ArenaView, Accesses.{at, IsHeld, IsOpen}}
use Rattle.mt_arena.proofs.Pairs.{here, there}
use Rattle.mt_held.specs.Holds.{MayReturn}

-- a node that stays as it is, but for the one before it and its parent; it has a parent still where it had one
pub record StaysButNames (x y : NodeView) : Type 0 where
  pub holder : y.holder ≡ x.holder
  pub level : y.level ≡ x.level
  pub tree : y.tree ≡ x.tree
  pub next : y.next ≡ x.next
  pub children : y.children ≡ x.children
  pub deleted : y.version.deleted ≡ x.version.deleted
  pub root : y.version.root ≡ x.version.root
  pub high : y.high ≡ x.high
  pub reach : y.reach ≡ x.reach
  pub slots : y.slots ≡ x.slots
  pub parented : y.parent ≡ None → x.parent ≡ None

-- a node that stays whole
pub stays_whole : (x y : NodeView) → y ≡ x → StaysButNames x y
stays_whole x y same = subst (λ (z : NodeView). StaysButNames x z) (sym same) (record {
  holder = refl;
  level = refl;
  tree = refl;
  next = refl;
  children = refl;
  deleted = refl;
  root = refl;
  high = refl;
  reach = refl;
  slots = refl;
  parented = λ none. none;
})

-- nobody comes to name node k, as the one before or as the parent
pub record NamesNoMoreOf (xs ys : List NodeView) (k : ℕ) : Type 0 where
  pub follows : (j : ℕ) → Follows ys k j → Follows xs k j
  pub under : (j : ℕ) → IsUnder ys k j → IsUnder xs k j

-- a child stays one where the children do
pub child_stays : (x y : NodeView) (j : ℕ) → y.children ≡ x.children → y.version.deleted ≡ x.version.deleted → HasChild x j → HasChild y j
child_stays x y j children deleted c = record {
  live = deleted ∙ c.live;
  place = c.place;
  in_range = subst (λ cs. c.place < length cs) (sym children) c.in_range;
  is = ap (λ cs. get_or cs c.place 0) children ∙ c.is;
}

-- and it is settled still
pub settled_still : (xs ys : List NodeView) (k : ℕ) → StaysButNames (node_at xs k) (node_at ys k) → NamesNoMoreOf xs ys k
    → IsSettled xs k (node_at xs k) → IsSettled ys k (node_at ys k)
settled_still xs ys k stays names settled = record {
  previous = λ j lt e live. let was = names.follows j (lt, e, live) in stays.next ∙ settled.previous j was.0 was.1 was.2;
  previous_live = λ j lt e live. let was = names.follows j (lt, e, live) in stays.deleted ∙ settled.previous_live j was.0 was.1 was.2;
  parent =
      λ j lt e live. let was = names.under j (lt, e, live) in child_stays (node_at xs k) (node_at ys k) j stays.children stays.deleted (settled.parent j was.0 was.1 was.2);
  reach = stays.reach ∙ settled.reach ∙ sym stays.high;
  stable = subst (λ (s : List Entry). All (λ e. ¬ IsUnstable e.held) s) (sym stays.slots) settled.stable;
  rooted = λ live none. stays.root ∙ settled.rooted (sym stays.deleted ∙ live) (stays.parented none);
}

-- the trees stand as they stood
pub record TreesStand (were are : List Tree) : Type 0 where
  pub count : length were ≤ length are
  pub standing : (t : ℕ) → t < length were → (tree_at are t).standing ≡ (tree_at were t).standing

pub trees_same : (trees : List Tree) → TreesStand trees trees
trees_same trees = record { count = omega arith; standing = λ t lt. refl }

-- nobody comes to name node k by an edit of one node, if that one does not
pub names_no_more : (xs : List NodeView) (b k : ℕ) (y : NodeView) → b < length xs
    → (y.version.deleted ≡ false → (node_at xs b).version.deleted ≡ false) → (y.previous ≡ Some k → (node_at xs b).previous ≡ Some k)
    → (y.parent ≡ Some k → (node_at xs b).parent ≡ Some k)
    → NamesNoMoreOf xs (set xs b y) k
names_no_more xs b k y within live before above = record {
  follows = λ j is. elim (cases_eq j b) [
    | inl same ↦
        let new = ap (node_at (set xs b y)) same ∙ here xs b y within in
        subst (λ c. Follows xs k c) (sym same) (within, before (sym (ap (λ (n : NodeView). n.previous) new) ∙ is.1), live (sym (ap (λ (n : NodeView). n.version.deleted) new) ∙ is.2))
    | inr other ↦
        let old = there xs b j y other in
        (omega (arith, is.0, length-set xs b y), sym (ap (λ (n : NodeView). n.previous) old) ∙ is.1, sym (ap (λ (n : NodeView). n.version.deleted) old) ∙ is.2)
  ];
  under = λ j is. elim (cases_eq j b) [
    | inl same ↦
        let new = ap (node_at (set xs b y)) same ∙ here xs b y within in
        subst (λ c. IsUnder xs k c) (sym same) (within, above (sym (ap (λ (n : NodeView). n.parent) new) ∙ is.1), live (sym (ap (λ (n : NodeView). n.version.deleted) new) ∙ is.2))
    | inr other ↦
        let old = there xs b j y other in
        (omega (arith, is.0, length-set xs b y), sym (ap (λ (n : NodeView). n.parent) old) ∙ is.1, sym (ap (λ (n : NodeView). n.version.deleted) old) ∙ is.2)
  ];
}

-- nor by two edits, if by neither
pub names_on : (xs ys zs : List NodeView) (k : ℕ) → NamesNoMoreOf xs ys k → NamesNoMoreOf ys zs k → NamesNoMoreOf xs zs k
names_on xs ys zs k a b = record { follows = λ j is. a.follows j (b.follows j is); under = λ j is. a.under j (b.under j is) }

-- what holds of a child and its parent
pub child_below : (nodes : List NodeView) (p k : ℕ) → AreNodes nodes → p < length nodes → k < length nodes → (c : HasChild (node_at nodes p) k)
    → IsChild (node_at nodes p) c.place (node_at nodes k)
child_below nodes p k are lp lk c = (are.pairs p k lp lk).child c.place c.in_range c.is c.live

module _ (v u : ArenaView) (op : ℕ) (more : length v.nodes ≤ length u.nodes) (trees : TreesStand v.trees u.trees) where
  -- a node that is held is held still
  pub held_still : (k : ℕ) → (at u k).holder ≡ (at v k).holder → IsHeld v k op → IsHeld u k op
  held_still k same held = record { there = omega (arith, held.there, more); holder = same ∙ held.holder }

  -- and its tree is made by no other operation
  pub open_still : (k : ℕ) → (at u k).tree ≡ (at v k).tree → (at v k).tree < length v.trees → IsOpen v k op → IsOpen u k op
  open_still k same there mine q making = mine q (sym (trees.standing (at v k).tree there) ∙ ap (λ t. (tree_at u.trees t).standing) (sym same) ∙ making)

  -- so it may be given back still
  pub returnable_still : (level k : ℕ) → StaysButNames (at v k) (at u k) → NamesNoMoreOf v.nodes u.nodes k → MayReturn v op level k → MayReturn u op level k
  returnable_still level k stays names m = record {
    held = held_still k stays.holder m.held;
    level_is = stays.level ∙ m.level_is;
    tree_there = subst (λ t. t < length u.trees) (sym stays.tree) (omega (arith, m.tree_there, trees.count));
    mine = open_still k stays.tree m.tree_there m.mine;
    settled = settled_still v.nodes u.nodes k stays names m.settled;
  }
