-- The whole invariant, the guarantee and the contents where a right half comes to stand in its parent: for `insert_child`.
use Rattle.mt_arena.specs.Idle.{Rooms}
use Rattle.mt_arena.specs.Guarantee.{LosesHeld}
use Rattle.std.proofs.Common.{◌≡◌, ◌≢◌, ℕ, suc, ◌+◌, ◌<◌, List, ◌∷◌, [], length, get_or, set, Some, refl, sym, ap, subst, ◌∙◌, inl, inr, arith}
use Rattle.std.proofs.{lemmas.Bool.cases_lt, lemmas.List.{length-set, set-set, get_or_append_left}}
use Rattle.mt_interior.specs.{Places.IsNew, Fences.end_of}
use Rattle.mt_arena.specs.{declared.tree.Tree.Tree, NodeView.{NodeView, node_at}, declared.tree.Standing.TheVariants.Made, Forests.{IsForest, tree_at}}
use Rattle.mt_arena.specs.{Ranges.AreRanged, Nodes.{AreNodes, IsChild, bounds}, Contents.content, Invariant.ArenaInvariant, Arena.{ArenaView, Guarantee}, Accesses.at}
use Rattle.mt_arena.specs.{Edits.inserting, Splits.{Inserts, with_child, exact}, Several.{MayInsert, with_right}}
use Rattle.mt_arena.proofs.{Pairs.{here, there}, Quiet.nodes_inserting, Ranges.{rises, not_empty, length_bounds}, Ranged.ranged_marked}
use Rattle.mt_arena.proofs.{RangedEdits.ranged_insert_child, Child.{nodes_insert_child, left_child, differ_ij}, Steps.own_keys, Slots.changes_inserting}
use Rattle.mt_arena.proofs.{HeldChanges.{changes_with_child, changes_exact}, Guarantees.{changes_on, PointsSo, lost_none}, Naming.{names_same, points_each, each_set2}}
use Rattle.mt_arena.proofs.Several.{AreKept, kept_set2, KeepsPlace, forest_set2, MayTurn, guarantee_set2}

module _ (xs : List NodeView) (i j q : ℕ) (nodes : AreNodes xs) (f : Inserts xs i j q) where
  abbrev p : NodeView
  p = node_at xs i

  abbrev l : NodeView
  l = node_at xs j

  abbrev r : NodeView
  r = node_at xs q

  child : IsChild p f.child.place l
  child = left_child xs i j q nodes f

  -- the parent is an interior node with children, and none of the two halves; the left one is a level below it
  pub is_interior : 0 < p.level
  is_interior = omega (arith, f.right_level)

  pub some_child : p.children ≢ []
  some_child = not_empty p.children f.child.place f.child.in_range

  pub apart_j : i ≢ j
  apart_j = differ_ij xs i j q nodes f

  apart_q : q ≢ i
  apart_q e = omega (arith, f.right_level, ap (λ k. (node_at xs k).level) e)

  -- no separator is the new one
  pub is_new : IsNew p.separators r.low
  is_new b lt same =
      let a = f.child.place in
      let size = length_bounds p in
      let rise = (nodes.each i f.parent_there).children.rise some_child in
      let between = (nodes.each i f.parent_there).children.interior.between in
      let at : get_or (bounds p) (b + 1) 0 ≡ get_or p.separators b 0 = ap (λ k. get_or (bounds p) k 0) {x = b + 1} {y = suc b} (omega arith) ∙ get_or_append_left p.separators (end_of p.high ∷ []) 0 b lt in
      elim (cases_lt b a) [
        | inl low ↦ omega (arith, same, at, rises (bounds p) (b + 1) a rise (omega (arith, low)) (omega (arith, size, between, f.child.in_range)), child.low, f.above)
        | inr high ↦ omega (arith, same, at, rises (bounds p) (a + 1) (b + 1) rise (omega (arith, high)) (omega (arith, size, lt)), child.reach, f.below)
      ]

  -- of the marked parent too
  abbrev ys : List NodeView
  ys = set xs i (inserting p)

  at_i : node_at ys i ≡ inserting p
  at_i = here xs i (inserting p) f.parent_there

  at_j : node_at ys j ≡ l
  at_j = there xs i j (inserting p) (λ e. apart_j (sym e))

  at_q : node_at ys q ≡ r
  at_q = there xs i q (inserting p) apart_q

  size : length ys ≡ length xs
  size = length-set xs i (inserting p)

  marked : Inserts ys i j q
  marked = record {
    parent_there = omega (arith, size, f.parent_there);
    left_there = omega (arith, size, f.left_there);
    right_there = omega (arith, size, f.right_there);
    parent_held = rw at_i f.parent_held;
    parent_live = rw at_i f.parent_live;
    child = rw at_i (record { live = f.child.live; place = f.child.place; in_range = f.child.in_range; is = f.child.is });
    differ = f.differ;
    right_live = rw at_q f.right_live;
    right_tree = rw (at_q, at_i) f.right_tree;
    right_level = rw (at_q, at_i) f.right_level;
    right_knows = rw at_q f.right_knows;
    fence = rw (at_j, at_q) f.fence;
    right_reach = rw (at_j, at_q) f.right_reach;
    above = rw (at_j, at_q) f.above;
    below = rw (at_j, at_q) f.below;
  }

  same : set (set ys i (with_child (node_at ys i) (node_at ys q).low q)) j (exact (node_at ys j)) ≡ with_right xs i j q
  same =
      (λ a. set (set ys i (with_child (at_i a) (at_q a).low q)) j (exact (at_j a))) ∙ ap (λ zs. set zs j (exact l)) (set-set xs i (inserting p) (with_child (inserting p) r.low q))

  pub nodes_right : length p.separators < 15 → AreNodes (with_right xs i j q)
  nodes_right room = subst AreNodes same (nodes_insert_child ys i j q (nodes_inserting xs i f.parent_there nodes f.parent_held) marked (rw at_i room))

  pub ranged_right : AreRanged xs → AreRanged (with_right xs i j q)
  ranged_right ranged =
      subst AreRanged same (ranged_insert_child ys i j (node_at ys q).low q (omega (arith, size, f.parent_there)) (omega (arith, size, f.left_there)) apart_j
      (ranged_marked xs i p.slots p.cells (inserting p).version f.parent_there ranged refl (λ marked. marked) (λ whole. whole)))

  -- a child is no root
  pub exact_place : (trees : List Tree) → IsForest xs trees → KeepsPlace trees l (exact l)
  exact_place trees forest = record {
    home = record { tree = refl; level = refl; low = refl; deleted = refl; flag = refl; root = λ root. absurd (child.knows root.parentless) };
    keys = own_keys xs trees j f.left_there forest;
  }

  -- and of the parent's tree
  pub exact_turn : (op : ℕ) (trees : List Tree) → l.holder ≡ Some op → ((q : ℕ) → (tree_at trees p.tree).standing ≡ Made q → q ≡ op)
      → MayTurn op trees l (exact l)
  exact_turn op trees held mine = record {
    changes = changes_exact op l held;
    mine = λ q e. mine q (ap (λ t. (tree_at trees t).standing) (sym child.tree) ∙ e);
  }

module _ (v : ArenaView) (room : Rooms) (parent left right op : ℕ) (sound : ArenaInvariant v.nodes v.trees v.retired room) (may : MayInsert v parent left right op) where
  abbrev y : NodeView
  y = with_child (inserting (at v parent)) (at v right).low right

  abbrev z : NodeView
  z = exact (at v left)

  abbrev new : List NodeView
  new = with_right v.nodes parent left right

  apart : parent ≢ left
  apart = apart_j v.nodes parent left right sound.arena.nodes may.inserts

  kept : AreKept v.nodes new v.trees v.retired
  kept =
      kept_set2 v.nodes v.trees v.retired parent left y z may.held.there may.left_held.there apart (record { slots = refl; deleted = refl; tree = refl }) (record { slots = refl; deleted = refl; tree = refl }) refl refl
      (λ out. absurd (let live = may.inserts.parent_live in cc)) (λ out. record { next = refl; children = refl })

  pub sound_right : ArenaInvariant new v.trees v.retired room
  sound_right = record {
    arena = record {
      nodes = nodes_right v.nodes parent left right sound.arena.nodes may.inserts may.room;
      ranged = ranged_right v.nodes parent left right sound.arena.nodes may.inserts sound.arena.ranged;
      forest = forest_set2 v.nodes v.trees parent left y z may.held.there may.left_held.there apart sound.arena.forest (record {
        home = record { tree = refl; level = refl; low = refl; deleted = refl; flag = refl; root = λ h. record { live = h.live; flag = h.flag; parentless = h.parentless; low = h.low; reach = h.reach } };
        keys = own_keys v.nodes v.trees parent may.held.there sound.arena.forest;
      }) (exact_place v.nodes parent left right sound.arena.nodes may.inserts v.trees sound.arena.forest);
      layers = kept.layers sound.arena.layers;
    };
    retired = kept.retired sound.retired;
    named = kept.named sound.retired sound.named;
    trees_enough = sound.trees_enough;
    enough = omega (arith, kept.count, sound.enough);
  }

  pub step_right : Guarantee op v (record v { nodes = new })
  step_right = record {
    nodes = guarantee_set2 op v.nodes v.trees parent left y z may.held.there may.left_held.there apart sound.arena.forest.tree_there (record {
      changes =
          changes_on op (at v parent) (inserting (at v parent)) y (changes_inserting op (at v parent) may.held.holder) (changes_with_child op (inserting (at v parent)) (at v right).low right may.held.holder refl);
      mine = may.mine;
    }) (exact_turn v.nodes parent left right sound.arena.nodes may.inserts op v.trees may.left_held.holder may.mine);
    points =
        points_each op v.nodes new kept.count (each_set2 (λ k n. PointsSo op new (at v k) n) v.nodes parent left y z may.held.there may.left_held.there apart
        (names_same op new (at v parent) y refl refl) (names_same op new (at v left) z refl refl) (λ k lt ni nj. names_same op new (at v k) (at v k) refl refl));
    lost = each_set2 (λ k n. LosesHeld (at v k) n) v.nodes parent left y z may.held.there may.left_held.there apart (lost_none (at v parent)) (lost_none (at v left)) (λ k lt ni nj. lost_none (at v k));
  }

  pub content_right : content v.trees new ≡ content v.trees v.nodes
  content_right = kept.content
