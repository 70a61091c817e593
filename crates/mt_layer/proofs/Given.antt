-- What an operation keeps that makes a layer stays when places are given out beside it: for the laws.
use Rattle.std.proofs.Common.{◌≡◌, ◌≢◌, ℕ, ◌+◌, ◌<◌, ◌++◌, length, true, false, Some, None, refl, sym, ap, subst, ◌∙◌, inl, inr, arith}
use Rattle.std.specs.List.{remove}
use Rattle.mt_slices.specs.{Slices.piece_bytes, declared.mark.Mark.TheVariants.Long}
use Rattle.mt_rows.specs.{Rows.Bytes, Stamps.Stamped}
use Rattle.mt_border.specs.{Held.Held, Held.{Pair, Stable, Unstable}, Contents.{HasKey, IsOfTree, row_of}}
use Rattle.mt_arena.specs.{declared.tree.Tree.Tree, declared.tree.Standing.TheVariants.{Made, Live, Dead}, NodeView.{NodeView, place_at}, Forests.{IsRoot, tree_at, layer_of}}
use Rattle.mt_arena.specs.{Settled.IsSettled, Layers.{LeadsTo, slot_at}, Ways.IsMadeFor, Layering.{IsHeldSlot, IsLayerFor, IsLayerOf, IsSettledBut}}
use Rattle.mt_arena.specs.{Arena.{ArenaView, Guarantee, IsArena}, Accesses.{at, tree_of}, Given.{GivesOut, GivesOutBeside}}
use Rattle.mt_arena.proofs.Guarantees.{made_there}
use Rattle.mt_operation.specs.{declared.phase.Phase.Phase, declared.walk.Walk.Walk}
use Rattle.mt_descent.specs.KeptWalks.{walk_place}
use Rattle.mt_descent.proofs.Given.{through_given}
use Rattle.mt_held.proofs.Given.{live_same, held_same, settled_given, held_given, tree_given, unlock_given}
use Rattle.mt_insert.proofs.Given.{make_layer_given}
use Rattle.mt_layer.specs.KeptLayers.{GoesBelow, MakesLayer, IsAtLeave, KeptLayer, GivesNoneInto}
use Rattle.mt_border.specs.Held as helds
use Rattle.mt_operation.specs.declared.phase.Phase.TheVariants as phases

-- a tree that is being made is not dead
not_dead : (tree : Tree) (o : ℕ) → tree.standing ≡ Made o → tree.standing ≢ Dead
not_dead tree o made dead = absurd (let both : Made o ≡ Dead = sym made ∙ dead in cc)

-- a tree that is not dead is as it was
tree_same : (old new : ArenaView) → GivesOut old new → (t : ℕ) → t < length old.trees → (tree_at old.trees t).standing ≢ Dead
    → tree_at new.trees t ≡ tree_at old.trees t
tree_same old new g t there alive = elim (g.trees t there) [
  | inl same ↦ same
  | inr dead ↦ absurd (alive dead)
]

made_same : (o : ℕ) (old new : ArenaView) → GivesOut old new → (t : ℕ) → (tree_at old.trees t).standing ≡ Made o → tree_at new.trees t ≡ tree_at old.trees t
made_same o old new g t made = tree_same old new g t (made_there old.trees t o made) (not_dead (tree_at old.trees t) o made)

module _ (o : ℕ) (old new : ArenaView) (g : GivesOutBeside o old new) (none : GivesNoneInto o old new) where
  -- the tree that the operation makes
  module _ (t : ℕ) (key : Bytes) (row : Stamped) (layer : IsLayerFor old t o key row) where
    abbrev r : ℕ
    r = (tree_at old.trees t).root

    still : tree_at new.trees t ≡ tree_at old.trees t
    still = made_same o old new g.gives t layer.mine

    pub root_same : at new r ≡ at old r
    root_same = live_same old new g.gives r layer.made.there layer.made.live

    alone : (l : ℕ) → l < length new.nodes → (at new l).tree ≡ t → (at new l).version.deleted ≡ false → l ≡ r
    alone l lt in_tree live =
        let was : l < length old.nodes = omega (arith, lt, g.gives.count) in
        elim (g.gives.nodes l was) [
          | inl same ↦ layer.made.alone l was (ap (λ (n : NodeView). n.tree) (sym same) ∙ in_tree) (ap (λ (n : NodeView). n.version.deleted) (sym same) ∙ live)
          | inr given ↦ absurd (none l was given (ap (λ (u : ℕ). (tree_at old.trees u).standing) in_tree ∙ layer.mine))
        ]

    pub layer_for_given : IsLayerFor new t o key row
    layer_for_given = record {
      mine = ap (λ (u : Tree). u.standing) still ∙ layer.mine;
      made = subst (λ (u : Tree). IsMadeFor new.nodes new.trees key (layer_of u.prefix) t u.root row) (sym still) (record {
        maker = layer.made.maker;
        made = ap (λ (u : Tree). u.standing) still ∙ layer.made.made;
        there = omega (arith, layer.made.there, g.gives.count);
        tree = ap (λ (n : NodeView). n.tree) root_same ∙ layer.made.tree;
        live = ap (λ (n : NodeView). n.version.deleted) root_same ∙ layer.made.live;
        alone = alone;
        slot = layer.made.slot;
        pair = layer.made.pair;
        slots = ap (λ (n : NodeView). n.slots) root_same ∙ layer.made.slots;
        has = subst (λ (u : Tree). HasKey u.prefix (layer_of (tree_at old.trees t).prefix) layer.made.slot key) (sym still) layer.made.has;
        pair_is = layer.made.pair_is;
        row_is = layer.made.row_is;
      });
    }

  -- the slot to which it belongs
  slot_given : (node i : ℕ) (what : Held) → IsHeldSlot old node i o what → IsHeldSlot new node i o what
  slot_given node i what h =
      let same = sym (held_same old new g.gives node o h.held) in
      record {
        held = held_given o old new g node h.held;
        live = subst (λ (n : NodeView). n.version.deleted ≡ false) same h.live;
        border = subst (λ (n : NodeView). n.level ≡ 0) same h.border;
        tree_live = ap (λ (u : Tree). u.standing) (tree_given o old new g node h.held) ∙ h.tree_live;
        in_range = subst (λ (n : NodeView). i < length n.slots) same h.in_range;
        long = subst (λ (n : NodeView). (slot_at n i).mark ≡ Long) same h.long;
        is = subst (λ (n : NodeView). (slot_at n i).held ≡ what) same h.is;
      }

  -- and both
  pub layer_of_given : (node i t : ℕ) (what : Held) (key : Bytes) (row : Stamped) → IsLayerOf old node i t o what key row → IsLayerOf new node i t o what key row
  layer_of_given node i t what key row h =
      let held = h.slot.held in
      let same = sym (held_same old new g.gives node o held) in
      let tree = sym (tree_given o old new g node held) in
      record {
        slot = slot_given node i what h.slot;
        has = subst (λ (n : NodeView). HasKey (tree_of new node).prefix (layer_of (tree_of new node).prefix) (slot_at n i) key) same
            (subst (λ (u : Tree). HasKey u.prefix (layer_of u.prefix) (slot_at (at old node) i) key) tree h.has);
        layer = layer_for_given t key row h.layer;
        prefix =
            ap (λ (u : Tree). u.prefix) (still t key row h.layer) ∙ h.prefix ∙ ap (λ (u : Tree). u.prefix ++ piece_bytes (slot_at (at old node) i).slice Long) tree
            ∙ ap (λ (n : NodeView). (tree_of new node).prefix ++ piece_bytes (slot_at n i).slice Long) same;
      }

  -- the tree goes on with the operation's key
  below_given : (t layer : ℕ) (key : Bytes) → tree_at new.trees t ≡ tree_at old.trees t → GoesBelow old t layer key → GoesBelow new t layer key
  below_given t layer key same h = record {
    there = omega (arith, h.there, g.gives.tree_count);
    of_tree = subst (λ (u : Tree). IsOfTree u.prefix (layer + 1) key) (sym same) h.of_tree;
    begun = h.begun;
  }

  makes_given : (key : Bytes) (w : Walk) (t : ℕ) (what : Held) (pair : Pair) → MakesLayer old o key w t what pair → MakesLayer new o key w t what pair
  makes_given key w t what pair m =
      let k = w.place.node in
      let i = walk_place old w in
      let held = m.layer.slot.held in
      let same = held_same old new g.gives k o held in
      let place : walk_place old w ≡ walk_place new w = ap (λ (n : NodeView). place_at n w.slot) (sym same) in
      let made = still t m.other (row_of pair) m.layer.layer in
      record {
        taken = m.taken;
        other = m.other;
        layer = subst (λ j. IsLayerOf new k j t o what m.other (row_of pair)) place (layer_of_given k i t what m.other (row_of pair) m.layer);
        settled = subst (IsSettledBut new.nodes k) place
            (subst (λ (n : NodeView). IsSettled new.nodes k (record n { slots = remove n.slots i })) (sym same)
            (settled_given old new g.gives k (record (at old k) { slots = remove (at old k).slots i }) m.settled));
        goes_on = below_given t w.layer key made m.goes_on;
        first = ap (λ (u : Tree). (at new u.root).slots) made ∙ ap (λ (n : NodeView). n.slots) (root_same t m.other (row_of pair) m.layer.layer) ∙ m.first;
      }

  -- at Unlock: the link leads to a live tree
  module _ (arena : IsArena old.nodes old.trees) where
    leave_given : (key : Bytes) (w : Walk) → IsAtLeave old o key w → IsAtLeave new o key w
    leave_given key w h =
        let k = w.place.node in
        let there = h.unlock.held.there in
        let same = sym (held_same old new g.gives k o h.unlock.held) in
        let leads : LeadsTo old.trees (at old k) (walk_place old w) h.tree = arena.layers.links k there h.live (walk_place old w) h.tree h.in_range h.link in
        let same_tree = tree_same old new g.gives h.tree leads.there (λ dead. absurd (let both : Live ≡ Dead = sym leads.live ∙ dead in cc)) in
        record {
          tree = h.tree;
          taken = h.taken;
          unlock = unlock_given o old new g w h.unlock;
          live = subst (λ (n : NodeView). n.version.deleted ≡ false) same h.live;
          in_range = subst (λ (n : NodeView). place_at n w.slot < length n.slots) same h.in_range;
          link = subst (λ (n : NodeView). (slot_at n (place_at n w.slot)).held ≡ helds.Link h.tree) same h.link;
          through = through_given old new g.gives.count g.gives.tree_count h.tree (w.layer + 1) key same_tree h.through;
        }

    -- at each phase
    pub layer_given : (key : Bytes) (w : Walk) (phase : Phase) → (phase ≡ phases.Enter → tree_at new.trees w.place.tree ≡ tree_at old.trees w.place.tree)
        → KeptLayer phase old o key w → KeptLayer phase new o key w
    layer_given key w phases.MakeLayer entered h = make_layer_given o old new g key w h
    layer_given key w phases.MarkUnstable entered h = record { tree = h.tree; pair = h.pair; makes = makes_given key w h.tree (Stable h.pair) h.pair h.makes }
    layer_given key w phases.Link entered h = record { tree = h.tree; pair = h.pair; makes = makes_given key w h.tree (Unstable h.pair None) h.pair h.makes }
    layer_given key w phases.MarkLayer entered h = record { tree = h.tree; pair = h.pair; makes = makes_given key w h.tree (Unstable h.pair (Some h.tree)) h.pair h.makes }
    layer_given key w phases.Unlock entered h = leave_given key w h
    layer_given key w phases.Enter entered h = through_given old new g.gives.count g.gives.tree_count w.place.tree w.layer key (entered refl) h
    layer_given key w _ entered h = absurd h

-- no step gives a place out for a tree that another operation makes: the node would be its root, and the root was live before
module _ (op o : ℕ) (old mid new : ArenaView) (before : IsArena old.nodes old.trees) (after : IsArena new.nodes new.trees) (gives : GivesOut old mid)
    (g : Guarantee op mid new) (other : o ≢ op) where
  pub gives_none : GivesNoneInto o old mid
  gives_none k there given made =
      let t = (at mid k).tree in
      let t_there = made_there old.trees t o made in
      let still = made_same o old mid gives t made in
      let made_mid : (tree_at mid.trees t).standing ≡ Made o = ap (λ (u : Tree). u.standing) still ∙ made in
      let k_mid : k < length mid.nodes = omega (arith, there, gives.count) in
      let k_new : k < length new.nodes = omega (arith, k_mid, g.nodes.count) in
      let t_mid : t < length mid.trees = omega (arith, t_there, gives.tree_count) in
      let t_new : t < length new.trees = omega (arith, t_mid, g.nodes.tree_count) in
      let same : at new k ≡ at mid k = g.nodes.made k o k_mid other made_mid in
      let tree_same_on : tree_at new.trees t ≡ tree_at mid.trees t = (g.nodes.trees t t_mid).made o other made_mid in
      let live : (at new k).version.deleted ≡ false = ap (λ (n : NodeView). n.version.deleted) same ∙ given.blank.live in
      let root : (at new k).version.root ≡ true
      = (after.nodes.each k k_new).rooted live (ap (λ (n : NodeView). n.holder) same ∙ given.blank.free) (ap (λ (n : NodeView). n.parent) same ∙ given.blank.parent) in
      let named : (tree_at new.trees t).root ≡ k = (after.forest.homes k t k_new t_new).root_named (ap (λ (n : NodeView). n.tree) same) live root in
      let was : (tree_at old.trees t).root ≡ k = ap (λ (u : Tree). u.root) (sym (tree_same_on ∙ still)) ∙ named in
      let is_root : IsRoot (at old k) = (before.forest.homes k t there t_there).root_is was (not_dead (tree_at old.trees t) o made) in
      let alive : (at old k).version.deleted ≡ false = is_root.live in
      absurd (let out = given.out in cc)
