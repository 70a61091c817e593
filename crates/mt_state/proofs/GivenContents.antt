-- Where places are given out the contents stand: no pair of a node that was taken out counts, a blank node has none, and a live node's tree is as it was.
use Rattle.std.proofs.Common.{◌≡◌, ℕ, suc, ◌<◌, inl, inr, Bool, true, false, List, [], ◌∷◌, ◌++◌, length, get_or, refl, sym, ap, ◌∙◌, arith}
use Rattle.std.specs.{Prelude.{filter_map, if◌then◌else◌}, List.flat_map}
use Rattle.mt_border.specs.Contents.{pair_in}
use Rattle.mt_arena.specs.{declared.tree.Tree.Tree, NodeView.{NodeView, no_node}, Forests.tree_at, Contents.{is_live, live_pairs}}
use Rattle.mt_arena.specs.{Given.GivesOut, Arena.{ArenaView, IsArena, content_of}, Accesses.at}
use Rattle.mt_arena.proofs.{Joins.map_of, Counted.{content-is, pairs-nil, pairs-gone}}

-- two lists of which each place has the same
flat_same : {X Y : Type 0} (d : X) (f g : X → List Y) (xs ys : List X) → length xs ≡ length ys → ((k : ℕ) → k < length ys → f (get_or xs k d) ≡ g (get_or ys k d))
    → flat_map f xs ≡ flat_map g ys
flat_same d f g [] [] size same = refl
flat_same d f g [] (y ∷ ys) size same = absurd (omega (arith, size))
flat_same d f g (x ∷ xs) [] size same = absurd (omega (arith, size))
flat_same d f g (x ∷ xs) (y ∷ ys) size same =
    (λ a. same 0 (omega arith) a ++ flat_same d f g xs ys (omega (arith, size)) (λ k lt. same (suc k) (omega (arith, lt))) a)

module _ (old mid : ArenaView) (arena : IsArena old.nodes old.trees) (g : GivesOut old mid) where
  module _ (k : ℕ) (within : k < length old.nodes) where
    stood_by : (gone : Bool) → (at old k).version.deleted ≡ gone → at mid k ≡ at old k → live_pairs mid.trees (at mid k) ≡ live_pairs old.trees (at old k)
    stood_by true gone same =
        pairs-gone mid.trees (at mid k) (ap (λ (n : NodeView). n.version.deleted) same ∙ gone) ∙ sym (pairs-gone old.trees (at old k) gone)
    stood_by false live same =
        let there = arena.forest.tree_there k within in
        let tree : tree_at mid.trees (at old k).tree ≡ tree_at old.trees (at old k).tree = elim (g.trees (at old k).tree there) [
          | inl is ↦ is
          | inr dead ↦ absurd ((arena.forest.homes k (at old k).tree within there).standing refl live dead)
        ] in
        ap (live_pairs mid.trees) same
        ∙ ap (λ (t : Tree). if (if (at old k).version.deleted then false else is_live t.standing) then filter_map (pair_in t.prefix) (at old k).slots else []) tree

    pairs_same : live_pairs mid.trees (at mid k) ≡ live_pairs old.trees (at old k)
    pairs_same = elim (g.nodes k within) [
      | inl same ↦ stood_by (at old k).version.deleted refl same
      | inr given ↦ pairs-nil mid.trees (at mid k) given.blank.slots ∙ sym (pairs-gone old.trees (at old k) given.out)
    ]

  pub contents_given : content_of mid ≡ content_of old
  contents_given =
      content-is mid.trees mid.nodes
      ∙ ap map_of (flat_same no_node (live_pairs mid.trees) (live_pairs old.trees) mid.nodes old.nodes g.count pairs_same)
      ∙ sym (content-is old.trees old.nodes)
