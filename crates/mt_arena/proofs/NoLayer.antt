-- Where a slot of a longer key is no link, no live tree has the prefix that a link's would have: for `mark_layer` and the laws.
use Rattle.std.proofs.{Common.{◌≡◌, ◌≢◌, ℕ, ◌+◌, ◌^◌, ◌<◌, List, ◌++◌, length, refl, sym, ap, subst, ◌∙◌, arith}, lemmas.Nat.from_be_bytes-to_be_bytes_8}
use Rattle.std.proofs.lemmas.List.{length-append}
use Rattle.std.specs.Int.{w64, to_be_bytes, from_be_bytes}
use Rattle.mt_slices.specs.{Slices.piece_bytes, declared.mark.Mark.TheVariants.Long}
use Rattle.mt_border.{specs.Held.Link, proofs.Edits.any_entry}
use Rattle.mt_arena.specs.{declared.tree.Tree.Tree, declared.tree.Standing.TheVariants.Live, NodeView.{NodeView, node_at}, Forests.{tree_at, layer_of}}
use Rattle.mt_arena.specs.{Layers.{slot_at, HasLink, LeadsTo}, Arena.IsArena, Stands.StandsAt}
use Rattle.mt_arena.proofs.{Links.{one_tree, slice_of_lt, live_there}, OneLink.{IsLinkTo, leads, same_front, slice_fits, stands}, Places.one_place}

module _ (nodes : List NodeView) (trees : List Tree) (tree slice k i : ℕ) (arena : IsArena nodes trees) (live : (tree_at trees tree).standing ≡ Live) (at : StandsAt nodes tree slice Long k i)
    (none : (u : ℕ) → (slot_at (node_at nodes k) i).held ≢ Link u) (u : ℕ) (live_u : (tree_at trees u).standing ≡ Live) (same : (tree_at trees u).prefix ≡ (tree_at trees tree).prefix ++ piece_bytes slice Long) where
  long : length (tree_at trees u).prefix ≡ length (tree_at trees tree).prefix + 8
  long =
      let eight : length (to_be_bytes w64 slice) ≡ 8 = refl in omega (arith, ap length same, length-append (tree_at trees tree).prefix (to_be_bytes w64 slice), eight)

  -- it would have its link
  has : HasLink nodes u
  has = arena.layers.linked u (live_there trees u live_u) live_u (λ empty. omega (arith, long, ap length empty))

  abbrev m : NodeView
  m = node_at nodes has.node

  abbrev other : ℕ
  other = (slot_at m has.slot).slice

  link : IsLinkTo nodes has.node has.slot u
  link = record { there = has.there; live = has.live; in_range = has.in_range; is = has.is }

  to : LeadsTo trees m has.slot u
  to = leads nodes trees arena has.node has.slot u link

  parts : ((tree_at trees tree).prefix ≡ (tree_at trees m.tree).prefix) × (to_be_bytes w64 slice ≡ to_be_bytes w64 other)
  parts = same_front (tree_at trees tree).prefix (tree_at trees m.tree).prefix (to_be_bytes w64 slice) (to_be_bytes w64 other) refl refl (sym same ∙ to.prefix)

  one : tree ≡ m.tree
  one = one_tree nodes trees tree m.tree arena.forest live to.from parts.0

  fits : slice < 2 ^ 64
  fits =
      let n = node_at nodes k in
      let key = ((arena.forest.homes k n.tree at.border.there (arena.forest.tree_there k at.border.there)).keys refl).keys i any_entry at.in_range in
      subst (λ s. s < 2 ^ 64) (sym key.1.slice ∙ at.slice_is) (slice_of_lt key.0 (layer_of (tree_at trees n.tree).prefix) key.1.of_tree.stored.are_bytes)

  slices : slice ≡ other
  slices =
      sym (from_be_bytes-to_be_bytes_8 slice fits) ∙ ap (from_be_bytes w64) parts.1
      ∙ from_be_bytes-to_be_bytes_8 other (slice_fits nodes trees arena has.node has.slot u link)

  -- in this very slot
  pub link_would_be_here : ⊥
  link_would_be_here =
      let place = one_place nodes tree slice Long k i has.node has.slot arena.nodes at (stands nodes trees arena has.node has.slot u tree slice link (sym one) (sym slices)) in
      none u (subst (λ j. (slot_at (node_at nodes k) j).held ≡ Link u) (sym place.1) (subst (λ l. (slot_at (node_at nodes l) has.slot).held ≡ Link u) (sym place.0) has.is))
