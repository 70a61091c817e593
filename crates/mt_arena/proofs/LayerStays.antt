-- What an operation needs for the layer that it makes stays so while others go on, and through its own steps: for the laws.
use Rattle.std.proofs.Common.{◌≡◌, ◌≢◌, ℕ, ◌+◌, ◌<◌, List, ◌++◌, length, get_or, set, false, Some, refl, sym, ap, subst, ◌∙◌, inl, inr, arith}
use Rattle.std.proofs.{lemmas.Bool.{cases_eq, cases_lt}, lemmas.List.{length-set, get_or-set_same}}
use Rattle.mt_version.specs.Parts.{Parts}
use Rattle.mt_slices.specs.{Slices.piece_bytes, declared.mark.Mark.TheVariants.Long}
use Rattle.mt_rows.specs.{Rows.Bytes, Stamps.Stamped}
use Rattle.mt_border.specs.{declared.entry.Entry.Entry, Held.{Pair, Held}, Entry.pair_of, Contents.{HasKey, row_of}}
use Rattle.mt_border.proofs.{Edits.{any_entry, replaced_at}, ContentsKeys.has_held_key}
use Rattle.mt_arena.specs.{declared.tree.Tree.Tree, declared.tree.Standing.Standing, declared.tree.Standing.TheVariants.{Made, Live, Dead}, NodeView.NodeView}
use Rattle.mt_arena.specs.{Layers.slot_at, Forests.{tree_at, layer_of}, Guarantee.IsUntouched, Ways.IsMadeFor, Arena.{IsArena, ArenaView, Guarantee}}
use Rattle.mt_arena.specs.Accesses.{at, tree_of}
use Rattle.mt_arena.specs.Layering.{IsHeldSlot, IsLayerFor, IsLayerOf, HasKeyAt, prefix_below, layer_tree, tree_number, border_number, with_held, with_layer_at, with_slot}
use Rattle.mt_arena.specs.{Idle.{AreRetired, chosen}, Given.AreForgotten}
use Rattle.mt_arena.proofs.{Pairs.{here, there}, Links.live_there, Guarantees.{made_there, was_live}}
use Rattle.mt_arena.proofs.LayerIn.{RootIn, TreeIn, root_with, root_in, tree_in}

-- a tree that was live is live, where it is neither being made nor dead
still_live : (standing : Standing) → ((q : ℕ) → standing ≢ Made q) → standing ≢ Dead → standing ≡ Live
still_live (Made q) unmade alive = absurd (unmade q refl)
still_live Live unmade alive = refl
still_live Dead unmade alive = absurd (alive refl)

module _ (op maker : ℕ) (old new : ArenaView) (step : Guarantee op old new) (other : maker ≢ op) where
  -- a slot of a node that is held
  module _ (node i : ℕ) (what : Held) (slot : IsHeldSlot old node i maker what) where
    abbrev n : NodeView
    n = at old node

    abbrev m : NodeView
    m = at new node

    ln : node < length old.nodes
    ln = slot.held.there

    kept : IsUntouched n m
    kept = (step.nodes.nodes node ln).held maker other slot.held.holder

    same_tree : m.tree ≡ n.tree
    same_tree = (step.nodes.nodes node ln).tree

    tree_there : n.tree < length old.trees
    tree_there = live_there old.trees n.tree slot.tree_live

    pub slot_same : slot_at m i ≡ slot_at n i
    slot_same = ap (λ (es : List Entry). get_or es i any_entry) kept.slots

    pub prefix_same : (tree_of new node).prefix ≡ (tree_of old node).prefix
    prefix_same = ap (λ t. (tree_at new.trees t).prefix) same_tree ∙ (step.nodes.trees n.tree tree_there).prefix

    live_new : m.version.deleted ≡ false
    live_new = ap (λ (parts : Parts). parts.deleted) kept.version ∙ slot.live

    pub slot_stays : (tree_of new node).standing ≢ Dead → IsHeldSlot new node i maker what
    slot_stays alive =
        let there_new : node < length new.nodes = omega (arith, ln, step.nodes.count) in
        record {
          held = record { there = there_new; holder = kept.holder ∙ slot.held.holder };
          live = live_new;
          border = (step.nodes.nodes node ln).level ∙ slot.border;
          tree_live = still_live (tree_of new node).standing
              (λ q made. (step.nodes.trees n.tree tree_there).live slot.tree_live q (ap (λ t. (tree_at new.trees t).standing) (sym same_tree) ∙ made))
              alive;
          in_range = subst (λ (es : List Entry). i < length es) (sym kept.slots) slot.in_range;
          long = ap (λ (e : Entry). e.mark) slot_same ∙ slot.long;
          is = ap (λ (e : Entry). e.held) slot_same ∙ slot.is;
        }

  -- and the tree that is made
  module _ (t : ℕ) (key : Bytes) (row : Stamped) (layer : IsLayerFor old t maker key row) where
    abbrev r : ℕ
    r = (tree_at old.trees t).root

    pub tree_same : tree_at new.trees t ≡ tree_at old.trees t
    tree_same = (step.nodes.trees t (made_there old.trees t maker layer.mine)).made maker other layer.mine

    pub root_same : at new r ≡ at old r
    root_same = step.nodes.made r maker layer.made.there other (ap (λ t. (tree_at old.trees t).standing) layer.made.tree ∙ layer.mine)

    alone : (l : ℕ) → l < length new.nodes → (at new l).tree ≡ t → (at new l).version.deleted ≡ false → l ≡ r
    alone l lt in_tree live = elim (cases_lt l (length old.nodes)) [
      | inl was ↦ layer.made.alone l was (sym (step.nodes.nodes l was).tree ∙ in_tree) (was_live (at old l).version.deleted (at new l).version.deleted (step.nodes.nodes l was).ages.deleted live)
      | inr new_one ↦ absurd (step.nodes.made_new l maker new_one lt other (ap (λ t. (tree_at old.trees t).standing) in_tree ∙ layer.mine))
    ]

    pub layer_stays : IsLayerFor new t maker key row
    layer_stays = record {
      mine = ap (λ (w : Tree). w.standing) tree_same ∙ layer.mine;
      made = subst (λ (w : Tree). IsMadeFor new.nodes new.trees key (layer_of w.prefix) t w.root row) (sym tree_same) (record {
        maker = layer.made.maker;
        made = ap (λ (w : Tree). w.standing) tree_same ∙ layer.made.made;
        there = omega (arith, layer.made.there, step.nodes.count);
        tree = ap (λ (x : NodeView). x.tree) root_same ∙ layer.made.tree;
        live = ap (λ (x : NodeView). x.version.deleted) root_same ∙ layer.made.live;
        alone = alone;
        slot = layer.made.slot;
        pair = layer.made.pair;
        slots = ap (λ (x : NodeView). x.slots) root_same ∙ layer.made.slots;
        has = subst (λ (w : Tree). HasKey w.prefix (layer_of (tree_at old.trees t).prefix) layer.made.slot key) (sym tree_same) layer.made.has;
        pair_is = layer.made.pair_is;
        row_is = layer.made.row_is;
      });
    }

  -- and both
  pub whole_stays : (node i t : ℕ) (what : Held) (key : Bytes) (row : Stamped) → (tree_of new node).standing ≢ Dead
      → IsLayerOf old node i t maker what key row → IsLayerOf new node i t maker what key row
  whole_stays node i t what key row alive whole =
      let slot = slot_same node i what whole.slot in
      let prefix = prefix_same node i what whole.slot in
      record {
        slot = slot_stays node i what whole.slot alive;
        has = rw (slot, prefix) whole.has;
        layer = layer_stays t key row whole.layer;
        prefix = ap (λ (w : Tree). w.prefix) (tree_same t key row whole.layer) ∙ whole.prefix ∙ (λ a. sym prefix a ++ piece_bytes (sym slot a).slice Long);
      }

-- the tree was just made
module _ (v : ArenaView) (node i op least : ℕ) (what : Held) (key : Bytes) (e : Entry) (pair : Pair) (arena : IsArena v.nodes v.trees)
    (listed : AreRetired v.nodes v.trees v.retired) (forgotten : AreForgotten least v) (slot : IsHeldSlot v node i op what) (has : HasKeyAt v node i key)
    (below : HasKey (prefix_below v node i) (layer_of (prefix_below v node i)) e key) (is : pair_of e.held ≡ Some pair) where
  abbrev prefix : Bytes
  prefix = prefix_below v node i

  abbrev t : ℕ
  t = tree_number least v

  abbrev h : ℕ
  h = border_number least v

  abbrev u : Tree
  u = layer_tree prefix h op

  abbrev w : ArenaView
  w = with_layer_at v prefix e least op

  root_made : RootIn v op least t e (chosen v.retired.borders least)
  root_made = root_in v op least e arena.nodes listed forgotten t

  tree_made : TreeIn v op least u (chosen v.retired.trees least)
  tree_made = tree_in v op least e arena.nodes listed forgotten u refl

  node_apart : node ≢ h
  node_apart = root_made.node.kept node slot.held.there slot.live

  node_same : at w node ≡ at v node
  node_same = (root_made.node.others node (omega (arith, slot.held.there, root_made.node.more)) node_apart).1

  tree_apart : (at v node).tree ≢ t
  tree_apart same = absurd (let both = sym slot.tree_live ∙ ap (λ s. (tree_at v.trees s).standing) same ∙ tree_made.tree.vacant in cc)

  above_same : tree_at w.trees (at v node).tree ≡ tree_of v node
  above_same = (tree_made.tree.others (at v node).tree (omega (arith, arena.forest.tree_there node slot.held.there, tree_made.tree.more)) tree_apart).1

  tree_is : tree_at w.trees t ≡ u
  tree_is = tree_made.tree.is

  root_is : at w h ≡ root_with root_made.version t e
  root_is = root_made.node.is

  above_is : tree_of w node ≡ tree_of v node
  above_is = ap (λ (x : NodeView). tree_at w.trees x.tree) node_same ∙ above_same

  alone_there : (l : ℕ) → l < length w.nodes → (at w l).tree ≡ t → (at w l).version.deleted ≡ false → l ≡ h
  alone_there l lt in_tree live = elim (cases_eq l h) [
    | inl same ↦ same
    | inr differ ↦
        let was = root_made.node.others l lt differ in
        let alive : (at v l).version.deleted ≡ false = ap (λ (x : NodeView). x.version.deleted) (sym was.1) ∙ live in
        let of_tree : (at v l).tree ≡ t = ap (λ (x : NodeView). x.tree) (sym was.1) ∙ in_tree in
        absurd ((arena.forest.homes l (at v l).tree was.0 (arena.forest.tree_there l was.0)).standing refl alive (ap (λ s. (tree_at v.trees s).standing) of_tree ∙ tree_made.tree.vacant))
  ]

  layer_begun : IsLayerFor w t op key (row_of pair)
  layer_begun = record {
    mine = ap (λ (x : Tree). x.standing) tree_is;
    made = subst (λ (x : Tree). IsMadeFor w.nodes w.trees key (layer_of x.prefix) t x.root (row_of pair)) (sym tree_is) (record {
      maker = op;
      made = ap (λ (x : Tree). x.standing) tree_is;
      there = root_made.node.inside;
      tree = ap (λ (x : NodeView). x.tree) root_is;
      live = ap (λ (x : NodeView). x.version.deleted) root_is ∙ root_made.of_root.deleted;
      alone = alone_there;
      slot = e;
      pair = pair;
      slots = ap (λ (x : NodeView). x.slots) root_is;
      has = subst (λ (x : Tree). HasKey x.prefix (layer_of prefix) e key) (sym tree_is) below;
      pair_is = is;
      row_is = refl;
    });
  }

  pub whole_begun : IsLayerOf w node i t op what key (row_of pair)
  whole_begun = record {
    slot = record {
      held = record { there = omega (arith, root_made.node.more, slot.held.there); holder = ap (λ (x : NodeView). x.holder) node_same ∙ slot.held.holder };
      live = ap (λ (x : NodeView). x.version.deleted) node_same ∙ slot.live;
      border = ap (λ (x : NodeView). x.level) node_same ∙ slot.border;
      tree_live = ap (λ (x : Tree). x.standing) above_is ∙ slot.tree_live;
      in_range = subst (λ (x : NodeView). i < length x.slots) (sym node_same) slot.in_range;
      long = ap (λ (x : NodeView). (slot_at x i).mark) node_same ∙ slot.long;
      is = ap (λ (x : NodeView). (slot_at x i).held) node_same ∙ slot.is;
    };
    has = rw (node_same, above_same) has;
    layer = layer_begun;
    prefix = ap (λ (x : Tree). x.prefix) tree_is ∙ (λ a. (sym above_is a).prefix ++ piece_bytes (slot_at (sym node_same a) i).slice Long);
  }

-- the slot holds its pair otherwise
module _ (v : ArenaView) (node i t op : ℕ) (what held : Held) (key : Bytes) (row : Stamped) (arena : IsArena v.nodes v.trees) (whole : IsLayerOf v node i t op what key row)
    (goes_on : (pair : Pair) → pair_of held ≡ Some pair → pair_of what ≡ Some pair) where
  abbrev x : NodeView
  x = at v node

  abbrev d : Entry
  d = slot_at x i

  abbrev after : Entry
  after = record d { held = held }

  abbrev z : NodeView
  z = with_held x i held

  abbrev rewritten : ArenaView
  rewritten = with_slot v node i held

  l_node : node < length v.nodes
  l_node = whole.slot.held.there

  now : at rewritten node ≡ z
  now = here v.nodes node z l_node

  slots_are : z.slots ≡ set x.slots i after
  slots_are = replaced_at x.slots i after any_entry (arena.nodes.each node l_node).slots.border.rising whole.slot.in_range refl

  slot_is : slot_at z i ≡ after
  slot_is = ap (λ (es : List Entry). get_or es i any_entry) slots_are ∙ get_or-set_same x.slots i after any_entry whole.slot.in_range

  -- the root of the tree is another node
  away : (tree_at v.trees t).root ≢ node
  away same =
      absurd (let both = sym whole.slot.tree_live ∙ ap (λ k. (tree_of v k).standing) (sym same) ∙ ap (λ u. (tree_at v.trees u).standing) whole.layer.made.tree ∙ whole.layer.mine in cc)

  root_still : at rewritten (tree_at v.trees t).root ≡ at v (tree_at v.trees t).root
  root_still = there v.nodes node (tree_at v.trees t).root z away

  tree_still : (l : ℕ) → (at rewritten l).tree ≡ (at v l).tree
  tree_still l = elim (cases_eq l node) [
    | inl same ↦ rw (same, now) refl
    | inr differ ↦ ap (λ (y : NodeView). y.tree) (there v.nodes node l z differ)
  ]

  live_still : (l : ℕ) → (at rewritten l).version.deleted ≡ (at v l).version.deleted
  live_still l = elim (cases_eq l node) [
    | inl same ↦ rw (same, now) refl
    | inr differ ↦ ap (λ (y : NodeView). y.version.deleted) (there v.nodes node l z differ)
  ]

  has_key : HasKey (tree_of v node).prefix (layer_of (tree_of v node).prefix) after key
  has_key =
      has_held_key (tree_of v node).prefix (layer_of (tree_of v node).prefix) d key held whole.has (λ pair is. whole.has.suffix pair (ap pair_of whole.slot.is ∙ goes_on pair is))

  pub whole_rewritten : IsLayerOf rewritten node i t op held key row
  whole_rewritten =
      let made = whole.layer.made in
      record {
        slot = record {
          held = record { there = omega (arith, l_node, length-set v.nodes node z); holder = ap (λ (y : NodeView). y.holder) now ∙ whole.slot.held.holder };
          live = ap (λ (y : NodeView). y.version.deleted) now ∙ whole.slot.live;
          border = ap (λ (y : NodeView). y.level) now ∙ whole.slot.border;
          tree_live = ap (λ (y : NodeView). (tree_at v.trees y.tree).standing) now ∙ whole.slot.tree_live;
          in_range =
              subst (λ (y : NodeView). i < length y.slots) (sym now) (omega (arith, ap length slots_are, length-set x.slots i after, whole.slot.in_range));
          long = ap (λ (y : NodeView). (slot_at y i).mark) now ∙ ap (λ (e : Entry). e.mark) slot_is ∙ whole.slot.long;
          is = ap (λ (y : NodeView). (slot_at y i).held) now ∙ ap (λ (e : Entry). e.held) slot_is;
        };
        has = rw (now, slot_is) has_key;
        layer = record {
          mine = whole.layer.mine;
          made = record {
            maker = made.maker;
            made = made.made;
            there = omega (arith, made.there, length-set v.nodes node z);
            tree = tree_still (tree_at v.trees t).root ∙ made.tree;
            live = ap (λ (y : NodeView). y.version.deleted) root_still ∙ made.live;
            alone = λ l lt in_tree live. made.alone l (omega (arith, lt, length-set v.nodes node z)) (sym (tree_still l) ∙ in_tree) (sym (live_still l) ∙ live);
            slot = made.slot;
            pair = made.pair;
            slots = ap (λ (y : NodeView). y.slots) root_still ∙ made.slots;
            has = made.has;
            pair_is = made.pair_is;
            row_is = made.row_is;
          };
        };
        prefix =
            whole.prefix ∙ (λ a. (tree_at v.trees (sym now a).tree).prefix ++ piece_bytes d.slice Long) ∙ ap (λ (e : Entry). (tree_of rewritten node).prefix ++ piece_bytes e.slice Long) (sym slot_is)
            ∙ ap (λ (y : NodeView). (tree_of rewritten node).prefix ++ piece_bytes (slot_at y i).slice Long) (sym now);
      }
