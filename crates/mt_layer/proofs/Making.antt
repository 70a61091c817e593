-- The tree of the next layer may be made of the other key's entry there, and what is kept once it is made: for `make_layer`.
use Rattle.std.proofs.Common.{◌≡◌, ℕ, ◌+◌, ◌*◌, ◌<◌, length, Option, take, drop, refl, sym, ap, subst, ◌∙◌, inl, inr, arith}
use Rattle.std.proofs.lemmas.Bool.{cases_eq}
use Rattle.mt_slices.{specs.{Slices.rest_of, declared.mark.Mark.TheVariants.Long}, proofs.Order.rest-more}
use Rattle.mt_rows.specs.Rows.{Bytes}
use Rattle.mt_border.specs.{declared.entry.Entry.Entry, Held.Pair, Held.Stable, Entry.pair_of, Contents.{HasKey, row_of}}
use Rattle.mt_border.specs.Node.{Node as BorderNode, entry_at}
use Rattle.mt_border.proofs.Edits.{any_entry}
use Rattle.mt_arena.specs.{declared.tree.Tree.Tree, NodeView.{NodeView, place_at, border_view}, Forests.layer_of, Layers.slot_at, Ways.BelongsIn, Arena.{ArenaView, IsArena}}
use Rattle.mt_arena.specs.{Accesses.{at, tree_of}, Layering.{IsHeldSlot, IsLayerOf, IsSettledBut, HasKeyAt, MayMakeLayer, entry_of, prefix_below, layer_tree, tree_number, border_number, with_layer_at}}
use Rattle.mt_arena.specs.{Nodes.AreNodes, Idle.{AreRetired, chosen}, Given.AreForgotten}
use Rattle.mt_arena.proofs.{LayerIn.{RootIn, TreeIn, root_in, tree_in}, Steps.keys_of, Down.{long_below, next_prefix}}
use Rattle.mt_arena.proofs.{NextLayer.{may_make, has_below}, LayerStays.whole_begun, SettledBut.{settled_but, settled_but_made}}
use Rattle.mt_operation.specs.declared.walk.Walk.{Walk}
use Rattle.mt_descent.specs.KeptWalks.{walk_place}
use Rattle.mt_held.{specs.Holds.HoldsOnly, proofs.Places.belongs_here}
use Rattle.mt_insert.specs.KeptPuts.{IsAtMakeLayer}
use Rattle.mt_layer.specs.{KeptLayers.IsAtMarkUnstable, NewLayers.{entry_below, walk_linked}}

module _ (v : ArenaView) (op : ℕ) (key : Bytes) (w : Walk) (arena : IsArena v.nodes v.trees) (h : IsAtMakeLayer v op key w) where
  abbrev k : ℕ
  k = w.place.node

  abbrev n : NodeView
  n = at v k

  abbrev above : Bytes
  above = (tree_of v k).prefix

  abbrev layer : ℕ
  layer = layer_of above

  abbrev prefix : Bytes
  prefix = prefix_below v k (walk_place v w)

  abbrev e : Entry
  e = entry_below h.pair

  within : k < length v.nodes
  within = h.holds.judged.held.there

  in_node : BelongsIn v.nodes v.trees key w.layer k
  in_node = belongs_here v op key w arena h.holds

  is_long : (slot_at n (walk_place v w)).mark ≡ Long
  is_long = h.in_slot.kind_is.0

  -- the key goes on below
  below : 8 * (w.layer + 1) < length key
  below = long_below key w.layer (sym h.in_slot.mark_is ∙ is_long)

  -- the slot is the operation's
  held_slot : IsHeldSlot v k (walk_place v w) op (Stable h.pair)
  held_slot = record {
    held = h.holds.judged.held;
    live = in_node.border.live;
    border = in_node.border.level;
    tree_live = in_node.tree_live;
    in_range = h.in_slot.in_range;
    long = is_long;
    is = h.stable;
  }

  -- and has another key
  other : (key : Bytes) × HasKeyAt v k (walk_place v w) key
  other = (keys_of v.nodes v.trees k within arena.forest).keys (walk_place v w) any_entry h.in_slot.in_range

  rest_is : h.pair.suffix ≡ rest_of other.0 (layer + 1)
  rest_is = other.1.suffix h.pair (ap pair_of h.stable) ∙ rest-more other.0 layer

  -- whose entry below is what its pair has there
  entry_is : e ≡ entry_of other.0 (layer + 1) h.pair.row h.pair.stamp
  entry_is = ap (λ (rest : Bytes). entry_below (record h.pair { suffix = rest })) rest_is

  -- the prefix is what the key begins with
  pub prefix_is : prefix ≡ take (8 * (w.layer + 1)) key
  prefix_is =
      next_prefix above key w.layer (slot_at n (walk_place v w)).slice in_node.of_tree.stored.are_bytes (omega (arith, below)) in_node.of_tree.begins h.in_slot.slice_is

  -- so the tree may be made
  may : MayMakeLayer v prefix e
  may = subst (λ (x : Entry). MayMakeLayer v prefix x) (sym entry_is) (may_make v k (walk_place v w) op h.pair other.0 h.pair.row h.pair.stamp arena held_slot other.1)

  pub may_with : (p : Bytes) (x : Entry) → p ≡ take (8 * (w.layer + 1)) key → x ≡ e → MayMakeLayer v p x
  may_with p x p_is x_is = rw (p_is ∙ sym prefix_is, x_is) may

  has : HasKey prefix (layer_of prefix) e other.0
  has =
      subst (λ (x : Entry). HasKey prefix (layer_of prefix) x other.0) (sym entry_is) (has_below v k (walk_place v w) op h.pair other.0 h.pair.row h.pair.stamp arena held_slot other.1)

  -- where the tree and its root may come
  module _ (least : ℕ) (listed : AreRetired v.nodes v.trees v.retired) (forgotten : AreForgotten least v) where
    abbrev t : ℕ
    t = tree_number least v

    abbrev new : ArenaView
    new = with_layer_at v prefix e least op

    root_made : RootIn v op least t e (chosen v.retired.borders least)
    root_made = root_in v op least e arena.nodes listed forgotten t

    tree_made : TreeIn v op least (layer_tree prefix (border_number least v) op) (chosen v.retired.trees least)
    tree_made = tree_in v op least e arena.nodes listed forgotten (layer_tree prefix (border_number least v) op) refl

    same_node : at new k ≡ n
    same_node = (root_made.node.others k (omega (arith, within, root_made.node.more)) (root_made.node.kept k within in_node.border.live)).1

    -- the slot stands where it stood
    same_place : walk_place new (walk_linked w t) ≡ walk_place v w
    same_place = ap (λ (x : NodeView). place_at x w.slot) same_node

    -- what is kept once the tree is made
    pub made : IsAtMarkUnstable new op key (walk_linked w t)
    made = record {
      tree = t;
      pair = h.pair;
      makes = record {
        taken = refl;
        other = other.0;
        layer = subst (λ i. IsLayerOf new k i t op (Stable h.pair) other.0 (row_of h.pair)) (sym same_place)
            (whole_begun v k (walk_place v w) op least (Stable h.pair) other.0 e (record h.pair { suffix = drop 8 h.pair.suffix }) arena listed forgotten held_slot other.1 has refl);
        settled = subst (IsSettledBut new.nodes k) (sym same_place)
            (settled_but_made v prefix e least op k (walk_place v w) arena.nodes listed forgotten within in_node.border.live (settled_but v.nodes k (walk_place v w) h.holds.settled));
        goes_on = record {
          there = tree_made.tree.inside;
          of_tree = record {
            stored = in_node.of_tree.stored;
            reaches = omega (arith, below);
            begins = ap (λ (t : Tree). t.prefix) tree_made.tree.is ∙ prefix_is;
          };
          begun = below;
        };
        first = ap (λ (x : Tree). (at new x.root).slots) tree_made.tree.is ∙ ap (λ (x : NodeView). x.slots) root_made.node.is;
      };
    }

-- what a border node has in a slot, its view has there
pub in_border : (n : NodeView) (b : BorderNode) (tree level : ℕ) (reach holder : Option ℕ) (slot : ℕ) (pair : Pair) → n ≡ border_view b tree level reach holder
    → (slot_at n (place_at n slot)).held ≡ Stable pair → (entry_at b slot).held ≡ Stable pair
in_border n b tree level reach holder slot pair same is = subst (λ (m : NodeView). (slot_at m (place_at m slot)).held ≡ Stable pair) same is

-- the root of the new tree is free
pub only_made : (v : ArenaView) (op least k : ℕ) (prefix : Bytes) (e : Entry) → AreNodes v.nodes → AreRetired v.nodes v.trees v.retired → AreForgotten least v
    → HoldsOnly v op k → HoldsOnly (with_layer_at v prefix e least op) op k
only_made v op least k prefix e nodes listed forgotten only j within holds =
    let h = border_number least v in
    let root_made : RootIn v op least (tree_number least v) e (chosen v.retired.borders least) = root_in v op least e nodes listed forgotten (tree_number least v) in
    elim (cases_eq j h) [
      | inl same ↦ absurd (let free = ap (λ (m : NodeView). m.holder) (sym root_made.node.is) ∙ ap (λ j. (at (with_layer_at v prefix e least op) j).holder) (sym same) ∙ holds in cc)
      | inr differ ↦ let was = root_made.node.others j within differ in only j was.0 (ap (λ (m : NodeView). m.holder) (sym was.1) ∙ holds)
    ]
