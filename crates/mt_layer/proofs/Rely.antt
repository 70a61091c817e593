-- What an operation keeps that makes a layer stays under each step of another one, by what that step leaves to others: for the law.
use Rattle.std.proofs.Common.{◌≡◌, ◌≢◌, ℕ, ◌+◌, ◌<◌, List, length, Some, None, refl, sym, ap, subst, ◌∙◌, arith, false}
use Rattle.mt_slices.specs.Slices.{slice_of, mark_of, suffix_of}
use Rattle.mt_rows.specs.Rows.{Bytes}
use Rattle.mt_border.specs.{declared.entry.Entry.Entry, Held.Pair, Held.Held, Held.{Stable, Unstable}}
use Rattle.mt_border.specs.{declared.entry.FoundKind.TheVariants.OtherLong, Entry.IsKind, Contents.{IsOfTree, row_of}}
use Rattle.mt_arena.specs.{declared.tree.Tree.Tree, declared.tree.Standing.Standing, declared.tree.Standing.TheVariants.{Made, Live, Dead}, Forests.tree_at}
use Rattle.mt_order.specs.Places.{Places, place_of_slot}
use Rattle.mt_border.specs.Slots.{Slotted}
use Rattle.mt_arena.specs.Layering.{IsLayerOf, IsSettledBut}
use Rattle.mt_arena.specs.{Layers.slot_at, Arena.{ArenaView, Guarantee, IsArena}, Accesses.{at, tree_of, IsHeld}, Guarantee.TreeChanges, NodeView.NodeView}
use Rattle.mt_arena.proofs.{LayerStays.{whole_stays, tree_same, root_same}, SettledBut.settled_but_stays}
use Rattle.mt_operation.specs.{declared.phase.Phase.Phase, declared.walk.Walk.Walk}
use Rattle.mt_descent.specs.KeptWalks.{GoesThrough, walk_place}
use Rattle.mt_insert.specs.KeptPuts.{IsAtMakeLayer}
use Rattle.mt_held.proofs.Rely.{held, unlock, in_slot_stays}
use Rattle.mt_layer.specs.KeptLayers.{GoesBelow, MakesLayer, KeptLayer}
use Rattle.mt_version.specs.Parts.{Parts}
use Rattle.mt_border.specs.Held as helds
use Rattle.mt_operation.specs.declared.phase.Phase.TheVariants as phases

-- a tree that is not being made never is
unmade_stays : (op : ℕ) (tree after : Tree) → TreeChanges op tree after → ((q : ℕ) → tree.standing ≢ Made q) → (s : Standing) → tree.standing ≡ s
    → (q : ℕ) → after.standing ≢ Made q
unmade_stays op tree after c unmade (Made by) is q e = unmade by is
unmade_stays op tree after c unmade Live is q e = c.live is q e
unmade_stays op tree after c unmade Dead is q e = unmade q (ap (λ (t : Tree). t.standing) (sym (c.dead is)) ∙ e)

module _ (op o : ℕ) (old new : ArenaView) (g : Guarantee op old new) (other : o ≢ op) (arena : IsArena new.nodes new.trees) where
  -- a tree of the key
  through : (t layer : ℕ) (key : Bytes) → GoesThrough old t layer key → GoesThrough new t layer key
  through t layer key h =
      let c = g.nodes.trees t h.there in
      record {
        there = omega (arith, h.there, g.nodes.tree_count);
        unmade = unmade_stays op (tree_at old.trees t) (tree_at new.trees t) c h.unmade (tree_at old.trees t).standing refl;
        of_tree = subst (λ (prefix : Bytes). IsOfTree prefix layer key) (sym c.prefix) h.of_tree;
        begun = h.begun;
      }

  -- one that is still being made
  below : (t layer : ℕ) (key : Bytes) → GoesBelow old t layer key → GoesBelow new t layer key
  below t layer key h = record {
    there = omega (arith, h.there, g.nodes.tree_count);
    of_tree = subst (λ (prefix : Bytes). IsOfTree prefix (layer + 1) key) (sym (g.nodes.trees t h.there).prefix) h.of_tree;
    begun = h.begun;
  }

  -- the tree of a live node that the operation holds is not dead
  alive : (k : ℕ) → IsHeld old k o → (at old k).version.deleted ≡ false → (tree_of new k).standing ≢ Dead
  alive k held live =
      let there : k < length new.nodes = omega (arith, held.there, g.nodes.count) in
      let same = ((g.nodes.nodes k held.there).held o other held.holder).version in
      (arena.forest.homes k (at new k).tree there (arena.forest.tree_there k there)).standing refl (ap (λ (p : Parts). p.deleted) same ∙ live)

  makes : (key : Bytes) (w : Walk) (t : ℕ) (what : Held) (pair : Pair) → MakesLayer old o key w t what pair → MakesLayer new o key w t what pair
  makes key w t what pair m =
      let slot = m.layer.slot in
      let order = ap (λ (c : Slotted). c.order) ((g.nodes.nodes w.place.node slot.held.there).held o other slot.held.holder).cells in
      let same : walk_place new w ≡ walk_place old w = ap (λ (p : Places). place_of_slot p.live w.slot) order in
      record {
        taken = m.taken;
        other = m.other;
        layer = subst (λ i. IsLayerOf new w.place.node i t o what m.other (row_of pair)) (sym same)
            (whole_stays op o old new g other w.place.node (walk_place old w) t what m.other (row_of pair) (alive w.place.node slot.held slot.live) m.layer);
        settled = subst (IsSettledBut new.nodes w.place.node) (sym same)
            (settled_but_stays op o old.nodes new.nodes old.trees new.trees w.place.node (walk_place old w) g.nodes g.points other slot.held.there slot.held.holder m.settled);
        goes_on = below t w.layer key m.goes_on;
        first =
            ap (λ (x : Tree). (at new x.root).slots) (tree_same op o old new g other t m.other (row_of pair) m.layer.layer) ∙ ap (λ (x : NodeView). x.slots) (root_same op o old new g other t m.other (row_of pair) m.layer.layer) ∙ m.first;
      }

  -- at MakeLayer
  make_layer : (key : Bytes) (w : Walk) → IsAtMakeLayer old o key w → IsAtMakeLayer new o key w
  make_layer key w h =
      let n = at old w.place.node in
      let lock = h.holds.judged.held in
      let stays = (g.nodes.nodes w.place.node lock.there).held o other lock.holder in
      let same : n.slots ≡ (at new w.place.node).slots = sym stays.slots in
      let order : n.cells.order ≡ (at new w.place.node).cells.order = ap (λ (c : Slotted). c.order) (sym stays.cells) in
      record {
        holds = held op o old new g other key w h.holds;
        in_slot = in_slot_stays n (at new w.place.node) w.slot key w.layer OtherLong same order h.in_slot;
        pair = h.pair;
        stable =
            subst (λ (s : List Entry). (slot_at (record n { slots = s }) (walk_place new w)).held ≡ Stable h.pair) same
            (subst (λ (p : Places). (slot_at n (place_of_slot p.live w.slot)).held ≡ Stable h.pair) order h.stable);
      }

  -- at each phase
  pub layer : (key : Bytes) (w : Walk) (phase : Phase) → KeptLayer phase old o key w → KeptLayer phase new o key w
  layer key w phases.MakeLayer h = make_layer key w h
  layer key w phases.MarkUnstable h = record { tree = h.tree; pair = h.pair; makes = makes key w h.tree (Stable h.pair) h.pair h.makes }
  layer key w phases.Link h = record { tree = h.tree; pair = h.pair; makes = makes key w h.tree (Unstable h.pair None) h.pair h.makes }
  layer key w phases.MarkLayer h = record { tree = h.tree; pair = h.pair; makes = makes key w h.tree (Unstable h.pair (Some h.tree)) h.pair h.makes }
  layer key w phases.Unlock h =
      let same = (g.nodes.nodes w.place.node h.unlock.held.there).held o other h.unlock.held.holder in
      record {
        tree = h.tree;
        taken = h.taken;
        unlock = unlock op o old new g other w h.unlock;
        live = ap (λ (p : Parts). p.deleted) same.version ∙ h.live;
        in_range =
            subst (λ (s : List Entry). walk_place new w < length s) (sym same.slots) (subst (λ (p : Places). place_of_slot p.live w.slot < length (at old w.place.node).slots) (ap (λ (c : Slotted). c.order) (sym same.cells)) h.in_range);
        link =
            subst (λ (s : List Entry). (slot_at (record (at old w.place.node) { slots = s }) (walk_place new w)).held ≡ helds.Link h.tree) (sym same.slots)
            (subst (λ (p : Places). (slot_at (at old w.place.node) (place_of_slot p.live w.slot)).held ≡ helds.Link h.tree) (ap (λ (c : Slotted). c.order) (sym same.cells)) h.link);
        through = through h.tree (w.layer + 1) key h.through;
      }
  layer key w phases.Enter h = through w.place.tree w.layer key h
  layer key w _ h = absurd h
