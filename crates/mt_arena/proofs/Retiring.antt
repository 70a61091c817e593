-- The lists of idle places where a node or a tree changes, is taken out or added, and where a place is given out: for the invariant of every call.
use Rattle.std.proofs.Common.{◌≡◌, ℕ, ◌<◌, ◌≤◌, List, [], ◌∷◌, ◌++◌, length, set, Bool, true, false, refl, ap, ◌∙◌, sym, arith}
use Rattle.std.proofs.lemmas.Bool.{ne_eqb}
use Rattle.std.specs.Prelude.{◌==◌, ◌&&◌, not, if◌then◌else◌}
use Rattle.mt_arena.specs.{declared.retired.Retired.Retired, declared.tree.Tree.Tree, NodeView.{NodeView, node_at, no_node}, Forests.{tree_at, no_tree}}
use Rattle.mt_arena.specs.{Edits.retired, Arena.{live_count}}
use Rattle.mt_arena.specs.Idle.{RetiredPlaces, AreRetired, is_idle_border, is_idle_interior, is_idle_tree, with_border, with_interior, with_tree, no_places}
use Rattle.mt_arena.proofs.Listed.{listed_few, listed_same, listed_push, listed_more, listed_give, listed_none}

-- a node is idle as before where its deleted mark and its level stay
same_border : (x y : NodeView) → y.version.deleted ≡ x.version.deleted → y.level ≡ x.level → is_idle_border y ≡ is_idle_border x
same_border x y deleted level = λ i. deleted i && (level i == 0)

same_interior : (x y : NodeView) → y.version.deleted ≡ x.version.deleted → y.level ≡ x.level → is_idle_interior y ≡ is_idle_interior x
same_interior x y deleted level = λ i. deleted i && not (level i == 0)

-- a live node isn't
used_border : (n : NodeView) → n.version.deleted ≡ false → is_idle_border n ≡ false
used_border n live = ap (λ b. b && (n.level == 0)) live

used_interior : (n : NodeView) → n.version.deleted ≡ false → is_idle_interior n ≡ false
used_interior n live = ap (λ b. b && not (n.level == 0)) live

above : (level : ℕ) → 0 < level → (level == 0) ≡ false
above level some = ne_eqb level 0 (λ none. omega (arith, some, none))

-- the lists stand where a node stays live, or stays taken out
pub retired_set : (xs : List NodeView) (trees : List Tree) (gone : RetiredPlaces) (i : ℕ) (y : NodeView) → i < length xs → AreRetired xs trees gone
    → y.version.deleted ≡ (node_at xs i).version.deleted → y.level ≡ (node_at xs i).level → AreRetired (set xs i y) trees gone
retired_set xs trees gone i y within are deleted level = record {
  of_borders = listed_same is_idle_border no_node xs gone.borders i y within are.of_borders (same_border (node_at xs i) y deleted level);
  of_interiors = listed_same is_idle_interior no_node xs gone.interiors i y within are.of_interiors (same_interior (node_at xs i) y deleted level);
  of_trees = are.of_trees;
}

-- a live node more
pub retired_push : (xs : List NodeView) (trees : List Tree) (gone : RetiredPlaces) (y : NodeView) → AreRetired xs trees gone → y.version.deleted ≡ false
    → AreRetired (xs ++ y ∷ []) trees gone
retired_push xs trees gone y are live = record {
  of_borders = listed_push is_idle_border no_node xs gone.borders y are.of_borders (used_border y live);
  of_interiors = listed_push is_idle_interior no_node xs gone.interiors y are.of_interiors (used_interior y live);
  of_trees = are.of_trees;
}

-- a border node is taken out
pub border_retired : (xs : List NodeView) (trees : List Tree) (gone : RetiredPlaces) (i step : ℕ) → i < length xs → AreRetired xs trees gone
    → (node_at xs i).version.deleted ≡ false → (node_at xs i).level ≡ 0 → AreRetired (set xs i (retired (node_at xs i))) trees (with_border gone i step)
border_retired xs trees gone i step within are live border =
    let x = node_at xs i in
    record {
      of_borders = listed_more is_idle_border no_node xs gone.borders i step (retired x) within are.of_borders (used_border x live) (ap (λ l. l == 0) border);
      of_interiors =
          listed_same is_idle_interior no_node xs gone.interiors i (retired x) within are.of_interiors (ap (λ l. not (l == 0)) border ∙ sym (used_interior x live));
      of_trees = are.of_trees;
    }

-- an interior node is taken out
pub interior_retired : (xs : List NodeView) (trees : List Tree) (gone : RetiredPlaces) (i step : ℕ) → i < length xs → AreRetired xs trees gone
    → (node_at xs i).version.deleted ≡ false → 0 < (node_at xs i).level → AreRetired (set xs i (retired (node_at xs i))) trees (with_interior gone i step)
interior_retired xs trees gone i step within are live interior =
    let x = node_at xs i in
    let level = above x.level interior in
    record {
      of_borders = listed_same is_idle_border no_node xs gone.borders i (retired x) within are.of_borders (level ∙ sym (used_border x live));
      of_interiors = listed_more is_idle_interior no_node xs gone.interiors i step (retired x) within are.of_interiors (used_interior x live) (ap not level);
      of_trees = are.of_trees;
    }

-- a tree goes on, or stays dead
pub retired_tree_set : (xs : List NodeView) (trees : List Tree) (gone : RetiredPlaces) (t : ℕ) (u : Tree) → t < length trees → AreRetired xs trees gone
    → is_idle_tree u ≡ is_idle_tree (tree_at trees t) → AreRetired xs (set trees t u) gone
retired_tree_set xs trees gone t u within are same = record {
  of_borders = are.of_borders;
  of_interiors = are.of_interiors;
  of_trees = listed_same is_idle_tree no_tree trees gone.trees t u within are.of_trees same;
}

-- a tree more, which isn't dead
pub retired_tree_push : (xs : List NodeView) (trees : List Tree) (gone : RetiredPlaces) (u : Tree) → AreRetired xs trees gone → is_idle_tree u ≡ false
    → AreRetired xs (trees ++ u ∷ []) gone
retired_tree_push xs trees gone u are used = record {
  of_borders = are.of_borders;
  of_interiors = are.of_interiors;
  of_trees = listed_push is_idle_tree no_tree trees gone.trees u are.of_trees used;
}

-- a tree dies
pub tree_retired : (xs : List NodeView) (trees : List Tree) (gone : RetiredPlaces) (t step : ℕ) (u : Tree) → t < length trees → AreRetired xs trees gone
    → is_idle_tree (tree_at trees t) ≡ false → is_idle_tree u ≡ true → AreRetired xs (set trees t u) (with_tree gone t step)
tree_retired xs trees gone t step u within are used dead = record {
  of_borders = are.of_borders;
  of_interiors = are.of_interiors;
  of_trees = listed_more is_idle_tree no_tree trees gone.trees t step u within are.of_trees used dead;
}

-- the place of a border node that was taken out is given out, to a live node
both_idle : (a b : Bool) → (a && b) ≡ true → (a && not b) ≡ false
both_idle true true both = refl
both_idle true false both = absurd (cc)
both_idle false b both = refl

pub border_given : (xs : List NodeView) (trees : List Tree) (gone : RetiredPlaces) (r : Retired) (rest : List Retired) (y : NodeView)
    → AreRetired xs trees (record gone { borders = r ∷ rest }) → y.version.deleted ≡ false → AreRetired (set xs r.place y) trees (record gone { borders = rest })
border_given xs trees gone r rest y are live =
    let x = node_at xs r.place in
    let idle : is_idle_border x ≡ true = are.of_borders.idle_there 0 (omega arith) in
    record {
      of_borders = listed_give is_idle_border no_node xs r rest y are.of_borders (used_border y live);
      of_interiors = listed_same is_idle_interior no_node xs gone.interiors r.place y (are.of_borders.there 0 (omega arith)) are.of_interiors
          (used_interior y live ∙ sym (both_idle x.version.deleted (x.level == 0) idle));
      of_trees = are.of_trees;
    }

-- so is that of an interior node
neither_idle : (a b : Bool) → (a && not b) ≡ true → (a && b) ≡ false
neither_idle true true one = absurd (cc)
neither_idle true false one = refl
neither_idle false b one = refl

pub interior_given : (xs : List NodeView) (trees : List Tree) (gone : RetiredPlaces) (r : Retired) (rest : List Retired) (y : NodeView)
    → AreRetired xs trees (record gone { interiors = r ∷ rest }) → y.version.deleted ≡ false
    → AreRetired (set xs r.place y) trees (record gone { interiors = rest })
interior_given xs trees gone r rest y are live =
    let x = node_at xs r.place in
    let idle : is_idle_interior x ≡ true = are.of_interiors.idle_there 0 (omega arith) in
    record {
      of_borders = listed_same is_idle_border no_node xs gone.borders r.place y (are.of_interiors.there 0 (omega arith)) are.of_borders
          (used_border y live ∙ sym (neither_idle x.version.deleted (x.level == 0) idle));
      of_interiors = listed_give is_idle_interior no_node xs r rest y are.of_interiors (used_interior y live);
      of_trees = are.of_trees;
    }

-- and the record of a dead tree, to one that isn't dead
pub tree_given : (xs : List NodeView) (trees : List Tree) (gone : RetiredPlaces) (r : Retired) (rest : List Retired) (u : Tree)
    → AreRetired xs trees (record gone { trees = r ∷ rest }) → is_idle_tree u ≡ false → AreRetired xs (set trees r.place u) (record gone { trees = rest })
tree_given xs trees gone r rest u are used = record {
  of_borders = are.of_borders;
  of_interiors = are.of_interiors;
  of_trees = listed_give is_idle_tree no_tree trees r rest u are.of_trees used;
}

-- a live node's place is none of the idle ones, so that these are fewer than all; nor is that of a tree that isn't dead
pub borders_few : (xs : List NodeView) (trees : List Tree) (gone : RetiredPlaces) (i : ℕ) → i < length xs → AreRetired xs trees gone
    → (node_at xs i).version.deleted ≡ false → length gone.borders < length xs
borders_few xs trees gone i within are live = listed_few is_idle_border no_node xs gone.borders i within are.of_borders (used_border (node_at xs i) live)

pub interiors_few : (xs : List NodeView) (trees : List Tree) (gone : RetiredPlaces) (i : ℕ) → i < length xs → AreRetired xs trees gone
    → (node_at xs i).version.deleted ≡ false → length gone.interiors < length xs
interiors_few xs trees gone i within are live = listed_few is_idle_interior no_node xs gone.interiors i within are.of_interiors (used_interior (node_at xs i) live)

pub trees_few : (xs : List NodeView) (trees : List Tree) (gone : RetiredPlaces) (t : ℕ) → t < length trees → AreRetired xs trees gone
    → is_idle_tree (tree_at trees t) ≡ false → length gone.trees < length trees
trees_few xs trees gone t within are used = listed_few is_idle_tree no_tree trees gone.trees t within are.of_trees used

-- no place is idle where there is none
pub retired_none : AreRetired [] [] no_places
retired_none = record {
  of_borders = listed_none is_idle_border no_node;
  of_interiors = listed_none is_idle_interior no_node;
  of_trees = listed_none is_idle_tree no_tree;
}

-- no more nodes are live than there are
one_live : (b : Bool) → (if b then 0 else 1) ≤ 1
one_live true = omega arith
one_live false = omega arith

pub live-le : (xs : List NodeView) → live_count xs ≤ length xs
live-le [] = omega arith
live-le (x ∷ xs) = omega (arith, live-le xs, one_live x.version.deleted)
