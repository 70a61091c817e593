-- Nodes that keep their slots, their tree and whether they are deleted, where two of them change, or three: for the calls that change
-- several nodes.
use Rattle.std.proofs.{Common.{◌≡◌, ◌≢◌, ℕ, ◌<◌, List, length, set, true, sym, ap, subst, ◌∙◌, arith}, lemmas.List.length-set}
use Rattle.mt_border.specs.declared.entry.Entry.{Entry}
use Rattle.mt_arena.specs.{declared.tree.Tree.Tree, Idle.{RetiredPlaces, AreRetired}, Given.IsNamedLate, NodeView.{NodeView, node_at}, declared.tree.Standing.TheVariants.Made}
use Rattle.mt_arena.specs.{Forests.{IsForest, tree_at}, Layers.AreLayered, Guarantee.{NodesGuarantee, Changes}, Contents.content}
use Rattle.mt_arena.specs.Ways.{HasSlots}
use Rattle.mt_arena.proofs.{Pairs.there, LinkEdits.{HasLinksOf, same_links, layers_set}, Retiring.retired_set, Homes.{KeepsHome, HasKeysOf, forest_set}, NamedLate.{KeepsNames, named_set}}
use Rattle.mt_arena.proofs.{Guarantees.{guarantee_set, guarantee_on}, ContentQuiet.stands_unchanged}

-- the node keeps its slots
abbrev pub KeepsSlots : NodeView → NodeView → Type 0
KeepsSlots x y = HasSlots x y x.slots

-- it keeps its names, unless it is live
abbrev pub KeepsNamesOut : NodeView → NodeView → Type 0
KeepsNamesOut x y = x.version.deleted ≡ true → KeepsNames x y

-- links, the lists of idle places, what is named by those that stand there, and the contents
pub record AreKept (old new : List NodeView) (trees : List Tree) (gone : RetiredPlaces) : Type 0 where
  pub count : length new ≡ length old
  pub layers : AreLayered old trees → AreLayered new trees
  pub retired : AreRetired old trees gone → AreRetired new trees gone
  pub named : AreRetired old trees gone → IsNamedLate old trees gone → IsNamedLate new trees gone
  pub content : content trees new ≡ content trees old

kept_on : (a b c : List NodeView) (trees : List Tree) (gone : RetiredPlaces) → AreKept a b trees gone → AreKept b c trees gone → AreKept a c trees gone
kept_on a b c trees gone one two = record {
  count = two.count ∙ one.count;
  layers = λ h. two.layers (one.layers h);
  retired = λ h. two.retired (one.retired h);
  named = λ listed h. two.named (one.retired listed) (one.named listed h);
  content = two.content ∙ one.content;
}

kept_set : (xs : List NodeView) (trees : List Tree) (gone : RetiredPlaces) (i : ℕ) (y : NodeView) → i < length xs → KeepsSlots (node_at xs i) y
    → y.level ≡ (node_at xs i).level → KeepsNamesOut (node_at xs i) y → AreKept xs (set xs i y) trees gone
kept_set xs trees gone i y within same level names = record {
  count = length-set xs i y;
  layers = λ layers. layers_set xs trees i y within layers (record {
    tree = same.tree;
    deleted = same.deleted;
    forth = subst (λ (es : List Entry). HasLinksOf es (node_at xs i).slots) (sym same.slots) (same_links (node_at xs i).slots);
    back = subst (λ (es : List Entry). HasLinksOf (node_at xs i).slots es) (sym same.slots) (same_links (node_at xs i).slots);
  });
  retired = λ retired. retired_set xs trees gone i y within retired same.deleted level;
  named = λ listed. named_set xs trees gone i y within listed names;
  content = stands_unchanged trees xs i y same;
}

-- beside a node that was changed before
beside : (xs : List NodeView) (i j : ℕ) (y z : NodeView) → i ≢ j → KeepsSlots (node_at xs j) z → KeepsSlots (node_at (set xs i y) j) z
beside xs i j y z differ = subst (λ (n : NodeView). KeepsSlots n z) (sym (there xs i j y (λ e. differ (sym e))))

pub kept_set2 : (xs : List NodeView) (trees : List Tree) (gone : RetiredPlaces) (i j : ℕ) (y z : NodeView) → i < length xs → j < length xs → i ≢ j
    → KeepsSlots (node_at xs i) y → KeepsSlots (node_at xs j) z → y.level ≡ (node_at xs i).level → z.level ≡ (node_at xs j).level
    → KeepsNamesOut (node_at xs i) y → KeepsNamesOut (node_at xs j) z → AreKept xs (set (set xs i y) j z) trees gone
kept_set2 xs trees gone i j y z li lj ij one two level level_z names names_z =
    kept_on xs (set xs i y) (set (set xs i y) j z) trees gone (kept_set xs trees gone i y li one level names)
    (kept_set (set xs i y) trees gone j z (omega (arith, lj, length-set xs i y)) (beside xs i j y z ij two)
    (level_z ∙ ap (λ (n : NodeView). n.level) (sym (there xs i j y (λ e. ij (sym e)))))
    (subst (λ (n : NodeView). KeepsNamesOut n z) (sym (there xs i j y (λ e. ij (sym e)))) names_z))

-- nodes that keep their places among the trees
pub record KeepsPlace (trees : List Tree) (x y : NodeView) : Type 0 where
  pub home : KeepsHome x y
  pub keys : HasKeysOf trees y

pub forest_set2 : (xs : List NodeView) (trees : List Tree) (i j : ℕ) (y z : NodeView) → i < length xs → j < length xs → i ≢ j → IsForest xs trees
    → KeepsPlace trees (node_at xs i) y → KeepsPlace trees (node_at xs j) z → IsForest (set (set xs i y) j z) trees
forest_set2 xs trees i j y z li lj ij forest one two =
    forest_set (set xs i y) trees j z (omega (arith, lj, length-set xs i y)) (forest_set xs trees i y li forest one.home one.keys)
    (subst (λ (n : NodeView). KeepsHome n z) (sym (there xs i j y (λ e. ij (sym e)))) two.home) two.keys

-- nodes of trees that no other operation is making change as an operation may change them
pub record MayTurn (op : ℕ) (trees : List Tree) (x y : NodeView) : Type 0 where
  pub changes : Changes op x y
  pub mine : (q : ℕ) → (tree_at trees x.tree).standing ≡ Made q → q ≡ op

guarantee_beside : (op : ℕ) (xs ys : List NodeView) (trees : List Tree) (j : ℕ) (z : NodeView) → j < length ys → node_at ys j ≡ node_at xs j
    → MayTurn op trees (node_at xs j) z → NodesGuarantee op ys (set ys j z) trees trees
guarantee_beside op xs ys trees j z lj same may =
    guarantee_set op ys trees j z lj (subst (λ (n : NodeView). Changes op n z) (sym same) may.changes) (λ q e. may.mine q (ap (λ (n : NodeView). (tree_at trees n.tree).standing) (sym same) ∙ e))

-- the tree of each node is there
abbrev pub AreOfTrees : List NodeView → List Tree → Type 0
AreOfTrees xs trees = (k : ℕ) → k < length xs → (node_at xs k).tree < length trees

pub guarantee_set2 : (op : ℕ) (xs : List NodeView) (trees : List Tree) (i j : ℕ) (y z : NodeView) → i < length xs → j < length xs → i ≢ j
    → AreOfTrees xs trees → MayTurn op trees (node_at xs i) y → MayTurn op trees (node_at xs j) z
    → NodesGuarantee op xs (set (set xs i y) j z) trees trees
guarantee_set2 op xs trees i j y z li lj ij inside one two =
    guarantee_on op xs (set xs i y) (set (set xs i y) j z) trees trees trees (guarantee_set op xs trees i y li one.changes one.mine)
    (guarantee_beside op xs (set xs i y) trees j z (omega (arith, lj, length-set xs i y)) (there xs i j y (λ e. ij (sym e))) two) inside

pub guarantee_set3 : (op : ℕ) (xs : List NodeView) (trees : List Tree) (i j q : ℕ) (y z w : NodeView) → i < length xs → j < length xs → q < length xs
    → i ≢ j → i ≢ q → j ≢ q → AreOfTrees xs trees → MayTurn op trees (node_at xs i) y → MayTurn op trees (node_at xs j) z
    → MayTurn op trees (node_at xs q) w
    → NodesGuarantee op xs (set (set (set xs i y) j z) q w) trees trees
guarantee_set3 op xs trees i j q y z w li lj lq ij iq jq inside one two three =
    guarantee_on op xs (set (set xs i y) j z) (set (set (set xs i y) j z) q w) trees trees trees (guarantee_set2 op xs trees i j y z li lj ij inside one two)
    (guarantee_beside op xs (set (set xs i y) j z) trees q w (omega (arith, lq, length-set xs i y, length-set (set xs i y) j z)) (there (set xs i y) j q z (λ e. jq (sym e)) ∙ there xs i q y (λ e. iq (sym e))) three) inside
