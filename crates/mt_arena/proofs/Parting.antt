-- The whole invariant, the guarantee and the contents where a right half comes to stand in a full parent, which is parted: for
-- `split_interior`.
use Rattle.mt_arena.specs.Idle.{Rooms}
use Rattle.mt_arena.specs.Guarantee.{LosesHeld}
use Rattle.std.proofs.Common.{◌≡◌, ◌≢◌, ℕ, ◌+◌, ◌<◌, ◌≤◌, List, [], ◌∷◌, ◌++◌, length, set, false, None, refl, sym, ap, subst, ◌∙◌, arith, length-append}
use Rattle.std.proofs.{lemmas.Option.same_Some, lemmas.List.{length-set, set-set, set-append_left, set_at}}
use Rattle.mt_arena.specs.{NodeView.{NodeView, node_at}, Nodes.{AreNodes, HasRange}, NodeFacts.TellsKind, Forests.{IsForest, tree_at}, Contents.content}
use Rattle.mt_arena.specs.declared.tree.Standing.TheVariants.{Dead}
use Rattle.mt_arena.specs.{Invariant.ArenaInvariant, Arena.{ArenaView, Guarantee}, Accesses.at, Edits.{bare, splitting}}
use Rattle.mt_arena.specs.{Splits.{Inserts, with_child, exact, middle, inner_left, inner_right}, Several.{MaySplitInner, with_parts}}
use Rattle.mt_arena.proofs.{Pairs.{here, there, last, before}, Quiet.nodes_splitting, Push.nodes_bare, Homes.forest_push, Growing.{layers_push, no_keys}}
use Rattle.mt_arena.proofs.{Retiring.retired_push, NamedLate.named_push, RangedEdits.ranged_parts, Steps.own_keys, Inner.SplitsInner}
use Rattle.mt_arena.proofs.{InnerSplit.{given, nodes_split_inner, ranges_split_inner}, HeldChanges.changes_inner_left, Locks.changes_splitting}
use Rattle.mt_arena.proofs.{Guarantees.{changes_on, guarantee_on, guarantee_push, PointsSo, lost_none, lost_push}, Naming.{names_same, points_more, each_set2}}
use Rattle.mt_arena.proofs.{Several.{AreKept, MayTurn, kept_set2, forest_set2, guarantee_set2}, ContentQuiet.stands_pushed}
use Rattle.mt_arena.proofs.Inserting.{apart_j, is_interior, exact_place, exact_turn}

-- the nodes: the parent is marked, a node without range is added, and the children are parted
module _ (xs : List NodeView) (i j q op : ℕ) (nodes : AreNodes xs) (f : Inserts xs i j q) (full : length (node_at xs i).separators ≡ 15) (next : (node_at xs i).next ≡ None) where
  abbrev p : NodeView
  p = node_at xs i

  abbrev l : NodeView
  l = node_at xs j

  abbrev r : NodeView
  r = node_at xs q

  abbrev m : NodeView
  m = splitting p

  abbrev wide : NodeView
  wide = with_child m r.low q

  abbrev h : ℕ
  h = length xs

  abbrev t : NodeView
  t = bare false p.tree p.level (middle wide) op

  abbrev ys : List NodeView
  ys = set xs i m

  abbrev zs : List NodeView
  zs = ys ++ t ∷ []

  abbrev ws : List NodeView
  ws = set (set xs i (inner_left wide)) j (exact l)

  size : length ys ≡ length xs
  size = length-set xs i m

  size_z : length zs ≡ length xs + 1
  size_z = omega (arith, length-append ys (t ∷ []), size)

  ij : i ≢ j
  ij = apart_j xs i j q nodes f

  qi : q ≢ i
  qi e = omega (arith, f.right_level, ap (λ k. (node_at xs k).level) e)

  at_i : node_at zs i ≡ m
  at_i = before ys t i (omega (arith, f.parent_there, size)) ∙ here xs i m f.parent_there

  at_j : node_at zs j ≡ l
  at_j = before ys t j (omega (arith, f.left_there, size)) ∙ there xs i j m (λ e. ij (sym e))

  at_q : node_at zs q ≡ r
  at_q = before ys t q (omega (arith, f.right_there, size)) ∙ there xs i q m qi

  at_h : node_at zs h ≡ t
  at_h = ap (node_at zs) (sym size) ∙ last ys t

  kind : TellsKind false p.level
  kind = record { border = λ e. absurd (cc); interior = λ e. is_interior xs i j q nodes f }

  nodes_z : AreNodes zs
  nodes_z = nodes_bare ys false p.tree p.level (middle wide) op kind (nodes_splitting xs i f.parent_there nodes f.parent_held)

  inserts : Inserts zs i j q
  inserts = record {
    parent_there = omega (arith, size_z, f.parent_there);
    left_there = omega (arith, size_z, f.left_there);
    right_there = omega (arith, size_z, f.right_there);
    parent_held = rw at_i f.parent_held;
    parent_live = rw at_i f.parent_live;
    child = rw at_i f.child;
    differ = f.differ;
    right_live = rw at_q f.right_live;
    right_tree = rw (at_q, at_i) f.right_tree;
    right_level = rw (at_q, at_i) f.right_level;
    right_knows = rw at_q f.right_knows;
    fence = rw (at_j, at_q) f.fence;
    right_reach = rw (at_j, at_q) f.right_reach;
    above = rw (at_j, at_q) f.above;
    below = rw (at_j, at_q) f.below;
  }

  splits : SplitsInner m t (middle wide)
  splits = record {
    marked = refl;
    next = next;
    right_held = λ e. absurd (cc);
    right_marked = refl;
    right_live = refl;
    right_tree = refl;
    right_level = refl;
    right_next = refl;
    right_low = refl;
    right_reach = refl;
  }

  splits_z : SplitsInner (node_at zs i) (node_at zs h) (middle (with_child (node_at zs i) (node_at zs q).low q))
  splits_z = rw (at_i, at_h, at_q) splits

  ih : i ≢ h
  ih e = omega (arith, f.parent_there, e)

  full_z : length (node_at zs i).separators ≡ 15
  full_z = rw at_i full

  -- the list that the steps leave is the one with the parts
  same : set (set (set zs i (inner_left wide)) j (exact l)) h (given wide t) ≡ ws ++ inner_right wide op ∷ []
  same =
      ap (λ vs. set (set vs j (exact l)) h (given wide t)) (set-append_left ys (t ∷ []) i (inner_left wide) (omega (arith, f.parent_there, size)) ∙ ap (λ vs. vs ++ t ∷ []) (set-set xs i m (inner_left wide)))
      ∙ ap (λ vs. set vs h (given wide t)) (set-append_left (set xs i (inner_left wide)) (t ∷ []) j (exact l) (omega (arith, f.left_there, length-set xs i (inner_left wide))))
      ∙ set_at ws t [] (given wide t) h (length-set (set xs i (inner_left wide)) j (exact l) ∙ length-set xs i (inner_left wide))

  parted_z : AreNodes (set (set (set zs i (inner_left (with_child (node_at zs i) (node_at zs q).low q))) j (exact (node_at zs j))) h (given (with_child (node_at zs i) (node_at zs q).low q) (node_at zs h)))
  parted_z = nodes_split_inner zs i j q h nodes_z inserts full_z (omega (arith, size_z)) ih splits_z

  pub nodes_parts : AreNodes (with_parts xs i j q op)
  nodes_parts = subst AreNodes same (rw (at_i, at_j, at_q, at_h) at parted_z)

  ranges_z : HasRange (inner_left (with_child (node_at zs i) (node_at zs q).low q)) × HasRange (given (with_child (node_at zs i) (node_at zs q).low q) (node_at zs h))
  ranges_z = ranges_split_inner zs i j q h nodes_z inserts full_z (omega (arith, size_z)) ih splits_z

  -- both halves have a range
  pub ranges_parts : HasRange (inner_left wide) × HasRange (inner_right wide op)
  ranges_parts = rw (at_i, at_q, at_h) at ranges_z

module _ (v : ArenaView) (room more : Rooms) (parent left right op : ℕ) (sound : ArenaInvariant v.nodes v.trees v.retired room) (may : MaySplitInner v parent left right op) where
  abbrev x : NodeView
  x = at v parent

  abbrev w : NodeView
  w = with_child (splitting x) (at v right).low right

  abbrev y : NodeView
  y = inner_left w

  abbrev z : NodeView
  z = exact (at v left)

  abbrev u : NodeView
  u = inner_right w op

  abbrev halves : List NodeView
  halves = set (set v.nodes parent y) left z

  abbrev new : List NodeView
  new = with_parts v.nodes parent left right op

  li : parent < length v.nodes
  li = may.held.there

  lj : left < length v.nodes
  lj = may.left_held.there

  pub apart : parent ≢ left
  apart = apart_j v.nodes parent left right sound.arena.nodes may.inserts

  pub kept : AreKept v.nodes halves v.trees v.retired
  kept =
      kept_set2 v.nodes v.trees v.retired parent left y z li lj apart (record { slots = refl; deleted = refl; tree = refl }) (record { slots = refl; deleted = refl; tree = refl }) refl refl
      (λ out. absurd (let live = may.inserts.parent_live in cc)) (λ out. record { next = refl; children = refl })

  pub ranges : HasRange y × HasRange u
  ranges = ranges_parts v.nodes parent left right op sound.arena.nodes may.inserts may.full may.next

  -- trees and their nodes without the right half
  pub forest_left : IsForest halves v.trees
  forest_left =
      let forest = sound.arena.forest in
      forest_set2 v.nodes v.trees parent left y z li lj apart forest (record {
        home = record { tree = refl; level = refl; low = refl; deleted = refl; flag = refl; root = λ h. record { live = h.live; flag = h.flag; parentless = h.parentless; low = h.low; reach = h.reach } };
        keys = own_keys v.nodes v.trees parent li forest;
      }) (exact_place v.nodes parent left right sound.arena.nodes may.inserts v.trees forest)

  pub stands : (tree_at v.trees x.tree).standing ≢ Dead
  stands = (sound.arena.forest.homes parent x.tree li (sound.arena.forest.tree_there parent li)).standing refl may.inserts.parent_live

  pub sound_parts : length v.nodes + 1 ≤ more.nodes → length v.trees ≤ more.trees → ArenaInvariant new v.trees v.retired more
  sound_parts enough trees_enough = record {
    arena = record {
      nodes = nodes_parts v.nodes parent left right op sound.arena.nodes may.inserts may.full may.next;
      ranged = ranged_parts v.nodes parent left (at v right).low right op li lj apart sound.arena.nodes sound.arena.ranged ranges.0 ranges.1;
      forest = forest_push halves v.trees u forest_left (sound.arena.forest.tree_there parent li) stands refl (no_keys (tree_at v.trees x.tree).prefix u.slots refl, λ out. refl) (λ _ border over. absurd (omega (arith, border, may.inserts.right_level)));
      layers = layers_push halves v.trees u refl (kept.layers sound.arena.layers);
    };
    retired = retired_push halves v.trees v.retired u (kept.retired sound.retired) refl;
    named = named_push halves v.trees v.retired u (kept.retired sound.retired) (kept.named sound.retired sound.named);
    trees_enough = trees_enough;
    enough = omega (arith, length-append halves (u ∷ []), kept.count, enough);
  }

  -- how the parent and the left half change
  pub turn_parent : MayTurn op v.trees x y
  turn_parent = record {
    changes = changes_on op x (splitting x) y (changes_splitting op x may.held.holder) (changes_inner_left op (splitting x) (at v right).low right may.held.holder refl);
    mine = may.mine;
  }

  pub turn_left : MayTurn op v.trees (at v left) z
  turn_left = exact_turn v.nodes parent left right sound.arena.nodes may.inserts op v.trees may.left_held.holder may.mine

  pub step_parts : Guarantee op v (record v { nodes = new })
  step_parts = record {
    nodes = guarantee_on op v.nodes halves new v.trees v.trees v.trees
        (guarantee_set2 op v.nodes v.trees parent left y z li lj apart sound.arena.forest.tree_there turn_parent turn_left)
        (guarantee_push op halves v.trees u may.mine (λ q other e. other (same_Some q op (sym e)))) sound.arena.forest.tree_there;
    points = points_more op v.nodes halves u kept.count refl refl (each_set2 (λ k n. PointsSo op new (at v k) n) v.nodes parent left y z li lj apart
        (names_same op new x y refl refl) (names_same op new (at v left) z refl refl) (λ k lt ni nj. names_same op new (at v k) (at v k) refl refl));
    lost = lost_push v.nodes halves u (omega (arith, kept.count)) (each_set2 (λ k n. LosesHeld (at v k) n) v.nodes parent left y z li lj apart
        (lost_none x) (lost_none (at v left)) (λ k lt ni nj. lost_none (at v k)));
  }

  pub content_parts : content v.trees new ≡ content v.trees v.nodes
  content_parts = stands_pushed v.trees halves u refl ∙ kept.content
