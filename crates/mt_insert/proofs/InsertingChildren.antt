-- A right half comes to stand in its parent, and then all nodes of the splits may be given back: for `insert_child` and `split_interior`.
use Rattle.std.proofs.Common.{◌≡◌, ◌≢◌, ◌⊎◌, ℕ, ◌-◌, ◌<◌, ◌≤◌, List, length, set, Some, None, refl, sym, ap, subst, ◌∙◌, inl, inr, arith}
use Rattle.std.proofs.{lemmas.Bool.cases_lt, lemmas.List.length-set, lemmas.Option.same_Some}
use Rattle.std.specs.List.{All}
use Rattle.mt_border.specs.declared.entry.Entry.{Entry}
use Rattle.mt_arena.specs.{NodeView.{NodeView, node_at}, Nodes.{AreNodes, HasChild, IsChild}, NodeFacts.IsUnstable, Forests.tree_at}
use Rattle.mt_arena.specs.{Lags.{Follows, IsUnder, AreChildren}, Settled.IsSettled, Edits.inserting, Splits.{Inserts, with_child, exact}}
use Rattle.mt_arena.specs.{Several.{MayInsert, with_right}, Idle.RetiredPlaces, Arena.ArenaView, Accesses.{at, IsOpen}}
use Rattle.mt_arena.proofs.{Pairs.{here, there}, Naming.each_set2, Lags.{settled_of, children_again}, Inserting.{apart_j, is_interior}}
use Rattle.mt_operation.specs.declared.splits.Splits.{Splits}
use Rattle.mt_insert.specs.KeptSplits.{halves_at, last_of, MayReturnBoth, AreReturnable, AreParted, NothingLags, IsAtParent, IsAtInsertChild, IsAtUnlockAll, HoldsSplits}
use Rattle.mt_insert.proofs.Returns.{all_returnable_still}
use Rattle.mt_held.{specs.Holds.MayReturn, proofs.Returns.{stays_whole, NamesNoMoreOf, trees_same}}

-- a node with the same ones before it and above it, as live as it was, with the same holder
pub record KeepsNames (x y : NodeView) : Type 0 where
  pub previous : y.previous ≡ x.previous
  pub parent : y.parent ≡ x.parent
  pub deleted : y.version.deleted ≡ x.version.deleted
  pub holder : y.holder ≡ x.holder

-- a node that names none
abbrev pub NamesNone : NodeView → Type 0
NamesNone n = (n.previous ≡ None) × (n.parent ≡ None)

-- all nodes are so, but for new ones, which name none
pub record KeepNames (xs ys : List NodeView) : Type 0 where
  pub more : length xs ≤ length ys
  pub each : (k : ℕ) → k < length ys → NamesNone (node_at ys k) ⊎ ((k < length xs) × KeepsNames (node_at xs k) (node_at ys k))

module _ (xs ys : List NodeView) (names : KeepNames xs ys) (i : ℕ) where
  -- then who names a node named it before
  pub followed_before : (k : ℕ) → Follows ys i k → Follows xs i k
  followed_before k is = elim (names.each k is.0) [
    | inl none ↦ absurd (let both = sym none.0 ∙ is.1 in cc)
    | inr same ↦ (same.0, sym same.1.previous ∙ is.1, sym same.1.deleted ∙ is.2)
  ]

  -- also as its parent
  pub named_before : (k : ℕ) → IsUnder ys i k → IsUnder xs i k
  named_before k is = elim (names.each k is.0) [
    | inl none ↦ absurd (let both = sym none.1 ∙ is.1 in cc)
    | inr same ↦ (same.0, sym same.1.parent ∙ is.1, sym same.1.deleted ∙ is.2)
  ]

  pub named_no_more : NamesNoMoreOf xs ys i
  named_no_more = record { follows = followed_before; under = named_before }

-- the halves of a split, once the left one's range in the parent ends at its fence
module _ (v : ArenaView) (op level l q : ℕ) (ys : List NodeView) (gone : RetiredPlaces) (names : KeepNames v.nodes ys) (parted : AreParted v op level l q)
    (left_is : node_at ys l ≡ exact (at v l)) (right_is : node_at ys q ≡ at v q) (left : NothingLags v.nodes l) (right : NothingLags v.nodes q) (knows : (at v q).parent ≢ None) where
  abbrev u : ArenaView
  u = record v { nodes = ys; retired = gone }

  left_returns : MayReturn u op level l
  left_returns = record {
    held = record { there = omega (arith, parted.left.held.there, names.more); holder = ap (λ (n : NodeView). n.holder) left_is ∙ parted.left.held.holder };
    level_is = ap (λ (n : NodeView). n.level) left_is ∙ parted.left.level_is;
    tree_there = subst (λ (n : NodeView). n.tree < length v.trees) (sym left_is) parted.tree_there;
    mine = λ o making. parted.mine o (sym (ap (λ (n : NodeView). (tree_at v.trees n.tree).standing) left_is) ∙ making);
    settled = subst (λ (n : NodeView). IsSettled ys l n) (sym left_is)
        (settled_of ys l (exact (at v l)) (λ k is. left.followers k (followed_before v.nodes ys names l k is)) (λ k is. parted.left.live)
        (λ k is. left.children k (named_before v.nodes ys names l k is)) refl parted.left.stable (λ live none. parted.rooted none));
  }

  right_returns : MayReturn u op level q
  right_returns = record {
    held = record { there = omega (arith, parted.right.held.there, names.more); holder = ap (λ (n : NodeView). n.holder) right_is ∙ parted.right.held.holder };
    level_is = ap (λ (n : NodeView). n.level) right_is ∙ parted.right.level_is;
    tree_there = subst (λ (n : NodeView). n.tree < length v.trees) (sym right_is) (subst (λ t. t < length v.trees) (sym parted.tree) parted.tree_there);
    mine =
        λ o making. parted.mine o (sym (ap (λ t. (tree_at v.trees t).standing) parted.tree) ∙ sym (ap (λ (n : NodeView). (tree_at v.trees n.tree).standing) right_is) ∙ making);
    settled = subst (λ (n : NodeView). IsSettled ys q n) (sym right_is)
        (settled_of ys q (at v q) (λ k is. right.followers k (followed_before v.nodes ys names q k is)) (λ k is. parted.right.live)
        (λ k is. right.children k (named_before v.nodes ys names q k is)) parted.exact parted.right.stable (λ live none. absurd (knows none)));
  }

  pub both_return : MayReturnBoth u op level (record { left = l; right = q })
  both_return = record { differ = parted.differ; left = left_returns; right = right_returns }

-- with the parent held
module _ (v : ArenaView) (op : ℕ) (s : Splits) (p : ℕ) (nodes : AreNodes v.nodes) (h : IsAtParent v op s p) where
  abbrev l : ℕ
  l = (last_of s).left

  abbrev q : ℕ
  q = (last_of s).right

  abbrev count : ℕ
  count = length s.halves.items

  parted_is : AreParted v op (count - 1) l q
  parted_is = h.named.splits.parted

  some : 0 < count
  some = h.named.splits.some

  parent_is_there : p < length v.nodes
  parent_is_there = h.parent.held.there

  left_is_there : l < length v.nodes
  left_is_there = parted_is.left.held.there

  right_is_there : q < length v.nodes
  right_is_there = parted_is.right.held.there

  -- the left half is a child, and so it is in the parent's tree
  left_below : IsChild (at v p) h.parent.child.place (at v l)
  left_below = (nodes.pairs p l parent_is_there left_is_there).child h.parent.child.place h.parent.child.in_range h.parent.child.is h.parent.live

  -- the right half may come to stand in it
  pub inserts : Inserts v.nodes p l q
  inserts = record {
    parent_there = parent_is_there;
    left_there = left_is_there;
    right_there = right_is_there;
    parent_held = λ none. absurd (let held = sym none ∙ h.parent.held.holder in cc);
    parent_live = h.parent.live;
    child = h.parent.child;
    differ = parted_is.differ;
    right_live = parted_is.right.live;
    right_tree = parted_is.tree ∙ left_below.tree;
    right_level = omega (arith, parted_is.right.level_is, h.parent.level_is, some);
    right_knows = h.parent.knows;
    fence = parted_is.fence;
    right_reach = parted_is.reach;
    above = parted_is.above;
    below = parted_is.below;
  }

  -- whose tree nobody else is making
  pub open_parent : IsOpen v p op
  open_parent o making = parted_is.mine o (ap (λ t. (tree_at v.trees t).standing) left_below.tree ∙ making)

  pub tree_there : (at v p).tree < length v.trees
  tree_there = subst (λ t. t < length v.trees) left_below.tree parted_is.tree_there

  apart_left : p ≢ l
  apart_left = apart_j v.nodes p l q nodes inserts

  apart_right : p ≢ q
  apart_right e = omega (arith, inserts.right_level, ap (λ k. (at v k).level) e)

  -- the parent is an interior node, so none of its slots is unstable
  pub stable : All (λ (e : Entry). ¬ IsUnstable e.held) (at v p).slots
  stable = rw ((nodes.each p parent_is_there).slots.slotless (is_interior v.nodes p l q nodes inserts)) (λ k d lt. absurd (omega arith))

  -- the nodes with another parent y, and the left half
  module _ (y : NodeView) (keeps : KeepsNames (at v p) y) where
    abbrev zs : List NodeView
    zs = set (set v.nodes p y) l (exact (at v l))

    pub size : length zs ≡ length v.nodes
    size = length-set (set v.nodes p y) l (exact (at v l)) ∙ length-set v.nodes p y

    -- which are read so, and all others as they were
    pub at_p : node_at zs p ≡ y
    at_p = there (set v.nodes p y) l p (exact (at v l)) apart_left ∙ here v.nodes p y parent_is_there

    pub at_l : node_at zs l ≡ exact (at v l)
    at_l = here (set v.nodes p y) l (exact (at v l)) (omega (arith, left_is_there, length-set v.nodes p y))

    pub at_other : (k : ℕ) → k ≢ p → k ≢ l → node_at zs k ≡ at v k
    at_other k np nl = there (set v.nodes p y) l k (exact (at v l)) nl ∙ there v.nodes p k y np

    pub names_each : (k : ℕ) → k < length v.nodes → KeepsNames (at v k) (node_at zs k)
    names_each =
        each_set2 (λ k n. KeepsNames (at v k) n) v.nodes p l y (exact (at v l)) parent_is_there left_is_there apart_left keeps (record { previous = refl; parent = refl; deleted = refl; holder = refl })
        (λ k lt np nl. record { previous = refl; parent = refl; deleted = refl; holder = refl })

    pub names : KeepNames v.nodes zs
    names = record {
      more = omega (arith, size);
      each = λ k lt. let was : k < length v.nodes = omega (arith, lt, size) in inr (was, names_each k was);
    }

  -- all that name the parent are children of it and of the right half as one more
  pub children_then : (k : ℕ) → IsUnder v.nodes p k → HasChild (with_child (at v p) (at v q).low q) k
  children_then k is =
      let y = with_child (at v p) (at v q).low q in
      let keeps : KeepsNames (at v p) y = record { previous = refl; parent = refl; deleted = refl; holder = refl } in
      let same = names_each y keeps k is.0 in
      children_again v.nodes p l q nodes inserts (λ j nq under. elim (h.parent.children j under) [ inl right ↦ absurd (nq right) | inr child ↦ child ])
      k (omega (arith, is.0, size y keeps), same.parent ∙ is.1, same.deleted ∙ is.2)

  -- after that, and where new ones come that the operation did not hold, the halves of all splits may be given back
  pub halves_return : (ys : List NodeView) (gone : RetiredPlaces) → KeepNames v.nodes ys → node_at ys l ≡ exact (at v l)
      → ((k : ℕ) → k < length v.nodes → (at v k).holder ≡ Some op → k ≢ p → k ≢ l → node_at ys k ≡ at v k)
      → AreReturnable (record v { nodes = ys; retired = gone }) op s.halves.items count
  halves_return ys gone names left_is other i lt = elim (cases_lt i (count - 1)) [
    | inl low ↦ all_returnable_still v (record v { nodes = ys; retired = gone }) op names.more (trees_same v.trees) s.halves.items (count - 1)
        (λ level k below m. (
          stays_whole (at v k) (node_at ys k) (other k m.held.there m.held.holder
              (λ e. omega (arith, below, m.level_is, ap (λ j. (at v j).level) e, h.parent.level_is))
              (λ e. omega (arith, below, m.level_is, ap (λ j. (at v j).level) e, parted_is.left.level_is))),
          named_no_more v.nodes ys names k,
        )) h.named.splits.lower i low
    | inr high ↦
        let is : count - 1 ≡ i = omega (arith, high, lt) in
        subst (λ j. MayReturnBoth (record v { nodes = ys; retired = gone }) op j (halves_at s.halves.items j)) is
        (both_return v op (count - 1) l q ys gone names parted_is left_is (other q right_is_there parted_is.right.held.holder (λ e. apart_right (sym e)) (λ e. parted_is.differ (sym e))) h.named.left h.named.right h.parent.knows)
  ]

-- at InsertChild
module _ (v : ArenaView) (op : ℕ) (s : Splits) (nodes : AreNodes v.nodes) (k : IsAtInsertChild v op s) where
  abbrev c : IsAtParent v op s k.p
  c = k.at_parent

  -- the right half may be put into the parent
  pub may_insert : MayInsert v k.p (last_of s).left (last_of s).right op
  may_insert = record {
    inserts = inserts v op s k.p nodes c;
    held = c.parent.held;
    left_held = c.named.splits.parted.left.held;
    mine = open_parent v op s k.p nodes c;
    room = k.room;
  }

  abbrev x : NodeView
  x = at v k.p

  abbrev y : NodeView
  y = with_child (inserting x) (at v (last_of s).right).low (last_of s).right

  abbrev ys : List NodeView
  ys = with_right v.nodes k.p (last_of s).left (last_of s).right

  keeps : KeepsNames x y
  keeps = record { previous = refl; parent = refl; deleted = refl; holder = refl }

  same_names : KeepNames v.nodes ys
  same_names = names v op s k.p nodes c y keeps

  is_new : node_at ys k.p ≡ y
  is_new = at_p v op s k.p nodes c y keeps

  -- all that name the parent are its children now
  children_now : AreChildren ys k.p y
  children_now j is =
      let child = children_then v op s k.p nodes c j (named_before v.nodes ys same_names k.p j is) in record { live = child.live; place = child.place; in_range = child.in_range; is = child.is }

  above_returns : MayReturn (record v { nodes = ys }) op (length s.halves.items) k.p
  above_returns = record {
    held = record { there = omega (arith, c.parent.held.there, same_names.more); holder = ap (λ (n : NodeView). n.holder) is_new ∙ c.parent.held.holder };
    level_is = ap (λ (n : NodeView). n.level) is_new ∙ c.parent.level_is;
    tree_there = subst (λ (n : NodeView). n.tree < length v.trees) (sym is_new) (tree_there v op s k.p nodes c);
    mine = λ o making. open_parent v op s k.p nodes c o (sym (ap (λ (n : NodeView). (tree_at v.trees n.tree).standing) is_new) ∙ making);
    settled = subst (λ (n : NodeView). IsSettled ys k.p n) (sym is_new)
        (settled_of ys k.p y (λ j is. c.parent.followers j (followed_before v.nodes ys same_names k.p j is)) (λ j is. c.parent.live) children_now c.parent.reach
        (stable v op s k.p nodes c) (λ live none. c.parent.rooted none));
  }

  -- then all may be given back
  pub kept_inserted : IsAtUnlockAll (record v { nodes = ys }) op s
  kept_inserted = record {
    halves = halves_return v op s k.p nodes c ys v.retired same_names (at_l v op s k.p nodes c y keeps) (λ j lt mine np nl. at_other v op s k.p nodes c y keeps j np nl);
    above = λ j is. subst (λ b. MayReturn (record v { nodes = ys }) op (length s.halves.items) b) (same_Some _ _ (sym c.above ∙ is)) above_returns;
  }

  -- and no other node is held
  pub holds_inserted : HoldsSplits v op s → HoldsSplits (record v { nodes = ys }) op s
  holds_inserted holds j lt held =
      let was : j < length v.nodes = omega (arith, lt, size v op s k.p nodes c y keeps) in holds j was (sym (names_each v op s k.p nodes c y keeps j was).holder ∙ held)
