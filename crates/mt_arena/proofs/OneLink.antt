-- A live tree has one link, two slots of live nodes that lead to it are one: for `DroppingLayer` and `NoLayer`.
use Rattle.std.proofs.Common.{◌≡◌, ◌≢◌, ℕ, ◌+◌, ◌^◌, ◌<◌, List, ◌++◌, length, take, drop, false, refl, sym, ap, subst, ◌∙◌, inl, inr, arith}
use Rattle.std.proofs.{lemmas.Bool.cases_lt, lemmas.Nat.from_be_bytes-to_be_bytes_8, lemmas.List.{length-append, take_at, drop_at}}
use Rattle.std.specs.Int.{w64, to_be_bytes, from_be_bytes}
use Rattle.mt_slices.specs.declared.mark.Mark.TheVariants.{Long}
use Rattle.mt_rows.specs.Rows.{Bytes}
use Rattle.mt_border.{specs.Held.Link, proofs.Edits.any_entry}
use Rattle.mt_arena.specs.{declared.tree.Tree.Tree, NodeView.{NodeView, node_at}, Forests.{tree_at, layer_of}, Layers.{slot_at, LeadsTo}, Arena.IsArena}
use Rattle.mt_arena.specs.Stands.{StandsAt}
use Rattle.mt_arena.proofs.{Links.{one_tree, slice_of_lt, long_link}, Places.one_place}

-- slot i of live node k leads to tree u
pub record IsLinkTo (nodes : List NodeView) (k i u : ℕ) : Type 0 where
  pub there : k < length nodes
  pub live : (node_at nodes k).version.deleted ≡ false
  pub in_range : i < length (node_at nodes k).slots
  pub is : (slot_at (node_at nodes k) i).held ≡ Link u

-- one list, parted before its last eight bytes
pub same_front : (a b x y : Bytes) → length x ≡ 8 → length y ≡ 8 → a ++ x ≡ b ++ y → (a ≡ b) × (x ≡ y)
same_front a b x y eight also same =
    let size : length a ≡ length b = omega (arith, length-append a x, length-append b y, ap length same, eight, also) in (
      sym (take_at a x (length a) refl) ∙ ap (take (length a)) same ∙ take_at b y (length a) (sym size),
      sym (drop_at a x (length a) refl) ∙ ap (drop (length a)) same ∙ drop_at b y (length a) (sym size),
    )

module _ (nodes : List NodeView) (trees : List Tree) (arena : IsArena nodes trees) where
  pub leads : (k i u : ℕ) → IsLinkTo nodes k i u → LeadsTo trees (node_at nodes k) i u
  leads k i u link = arena.layers.links k link.there link.live i u link.in_range link.is

  -- the tree above has a shorter prefix
  pub shorter : (k i u : ℕ) → IsLinkTo nodes k i u → length (tree_at trees u).prefix ≡ length (tree_at trees (node_at nodes k).tree).prefix + 8
  shorter k i u link =
      let e = slot_at (node_at nodes k) i in
      let above = (tree_at trees (node_at nodes k).tree).prefix in
      let eight : length (to_be_bytes w64 e.slice) ≡ 8 = refl in
      omega (arith, ap length (leads k i u link).prefix, length-append above (to_be_bytes w64 e.slice), eight)

  -- so it is another tree, and the lower one is not the top tree
  pub differs : (k i u : ℕ) → IsLinkTo nodes k i u → (node_at nodes k).tree ≢ u
  differs k i u link same = omega (arith, shorter k i u link, ap (λ t. length (tree_at trees t).prefix) same)

  pub below_top : (k i u : ℕ) → IsLinkTo nodes k i u → u ≢ 0
  below_top k i u link same = omega (arith, shorter k i u link, ap (λ t. length (tree_at trees t).prefix) same, ap length arena.forest.top.prefix)

  pub slice_fits : (k i u : ℕ) → IsLinkTo nodes k i u → (slot_at (node_at nodes k) i).slice < 2 ^ 64
  slice_fits k i u link =
      let n = node_at nodes k in
      let home = arena.forest.homes k n.tree link.there (arena.forest.tree_there k link.there) in
      let has = (home.keys refl).keys i any_entry link.in_range in
      subst (λ s. s < 2 ^ 64) (sym has.1.slice) (slice_of_lt has.0 (layer_of (tree_at trees n.tree).prefix) has.1.of_tree.stored.are_bytes)

  level : (k i u : ℕ) → IsLinkTo nodes k i u → (node_at nodes k).level ≡ 0
  level k i u link = elim (cases_lt 0 (node_at nodes k).level) [
    | inl above ↦ absurd (let none = ap length ((arena.nodes.each k link.there).slots.slotless above) in omega (arith, none, link.in_range))
    | inr border ↦ omega (arith, border)
  ]

  mark : (k i u : ℕ) → IsLinkTo nodes k i u → (slot_at (node_at nodes k) i).mark ≡ Long
  mark k i u link =
      let e = slot_at (node_at nodes k) i in
      long_link e.mark e u ((arena.nodes.each k link.there).slots.border.each i any_entry link.in_range).held link.is

  pub stands : (k i u tree slice : ℕ) → IsLinkTo nodes k i u → (node_at nodes k).tree ≡ tree → (slot_at (node_at nodes k) i).slice ≡ slice
      → StandsAt nodes tree slice Long k i
  stands k i u tree slice link in_tree at_slice = record {
    border = record { there = link.there; live = link.live; level = level k i u link; tree_is = in_tree };
    in_range = link.in_range;
    slice_is = at_slice;
    mark_is = mark k i u link;
  }

  pub one_link : (k i l j u : ℕ) → IsLinkTo nodes k i u → IsLinkTo nodes l j u → (k ≡ l) × (i ≡ j)
  one_link k i l j u this that =
      let n = node_at nodes k in
      let m = node_at nodes l in
      let s = (slot_at n i).slice in
      let r = (slot_at m j).slice in
      let parts = same_front (tree_at trees n.tree).prefix (tree_at trees m.tree).prefix (to_be_bytes w64 s) (to_be_bytes w64 r) refl refl (sym (leads k i u this).prefix ∙ (leads l j u that).prefix) in
      let tree = one_tree nodes trees n.tree m.tree arena.forest (leads k i u this).from (leads l j u that).from parts.0 in
      let slice : s ≡ r =
      sym (from_be_bytes-to_be_bytes_8 s (slice_fits k i u this)) ∙ ap (from_be_bytes w64) parts.1 ∙ from_be_bytes-to_be_bytes_8 r (slice_fits l j u that) in
      one_place nodes m.tree r Long k i l j arena.nodes (stands k i u m.tree r this tree slice) (stands l j u m.tree r that refl refl)
