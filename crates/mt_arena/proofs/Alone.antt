-- A root that is a border node which nobody holds is the only live node of its tree: for the law of that name.
use Rattle.std.proofs.Common.{◌≡◌, ◌≢◌, ℕ, zero, suc, ◌<◌, List, length, get_or, true, false, Option, Some, None, refl, sym, ap, ◌∙◌, inl, inr, arith}
use Rattle.std.proofs.lemmas.Bool.{cases_eq, cases_lt}
use Rattle.mt_interior.specs.Fences.{end_of}
use Rattle.mt_arena.specs.{declared.tree.Tree.Tree, NodeView.{NodeView, node_at}, Nodes.{IsNode, IsChild, HasRange}, Ranges.{IsLeftHalf, Waits}, Forests.IsRoot}
use Rattle.mt_arena.specs.{Arena.IsArena, Ways.IsFreeRoot}
use Rattle.mt_arena.proofs.{Settled.not_true, Collapse.is_true, Grow.not_none, Ranged.waits_held}

module _ (nodes : List NodeView) (trees : List Tree) (arena : IsArena nodes trees) (r : ℕ) (free : IsFreeRoot nodes trees r) where
  abbrev x : NodeView
  x = node_at nodes r

  root : IsRoot x
  root = (arena.forest.homes r x.tree free.there (arena.forest.tree_there r free.there)).root_is free.root free.stands

  one : IsNode (length nodes) x
  one = arena.nodes.each r free.there

  -- it has the whole range
  whole : end_of x.high ≡ 18446744073709551616
  whole = ap end_of (sym (one.reach.exact (not_true x.version.splitting (λ marked. one.lock.splitting marked free.free))) ∙ root.reach)

  -- no other live node of its tree has a range: going down from it would end at a border node beside this one
  down : (l k : ℕ) → k < length nodes → k ≢ r → (node_at nodes k).tree ≡ x.tree → (node_at nodes k).version.deleted ≡ false
      → HasRange (node_at nodes k) → (node_at nodes k).level ≡ l → ⊥
  down zero k lk other tree live range level =
      let n = node_at nodes k in
      (arena.nodes.pairs k r lk free.there).apart other tree (level ∙ sym free.border) live root.live n.low (omega arith, range)
      (omega (arith, root.low), omega (arith, range, whole, (arena.ranged.each k lk).fits range))
  down (suc l) k lk other tree live range level =
      let n = node_at nodes k in
      let h = arena.nodes.each k lk in
      let some : 0 < length n.children = not_none n.children (h.children.peopled (omega (arith, level)) range) in
      let c : ℕ = get_or n.children 0 0 in
      let lc : c < length nodes = h.names.children 0 some in
      let child : IsChild n 0 (node_at nodes c) = (arena.nodes.pairs k c lk lc).child 0 some refl live in
      down l c lc (λ same. child.knows (ap (λ q. (node_at nodes q).parent) same ∙ root.parentless)) (child.tree ∙ tree) child.live
      ((arena.ranged.each c lc).parent child.knows) (omega (arith, child.level, level))

  -- nor does one wait for its range: its left half would be another one, or this one would be held
  waits_not : (k : ℕ) → k < length nodes → (node_at nodes k).tree ≡ x.tree → Waits (node_at nodes k) → ⊥
  waits_not k lk tree waits = by (node_at nodes k).previous refl
    where
      by : (p : Option ℕ) → (node_at nodes k).previous ≡ p → ⊥
      by None none = (arena.ranged.each k lk).named waits none
      by (Some j) is =
          let n = node_at nodes k in
          let lj : j < length nodes = (arena.nodes.each k lk).names.previous j is in
          let left : IsLeftHalf (node_at nodes j) n = (arena.ranged.ties k j lk lj).left is waits in
          elim (cases_eq j r) [
            | inl same ↦ waits_held (length nodes) n (arena.nodes.each k lk) (arena.ranged.each k lk) waits (sym left.holder ∙ ap (λ q. (node_at nodes q).holder) same ∙ free.free)
            | inr other ↦ down (node_at nodes j).level j lj other (left.tree ∙ tree) left.live left.range refl
          ]

  pub alone : (k : ℕ) → k < length nodes → k ≢ r → (node_at nodes k).tree ≡ x.tree → (node_at nodes k).version.deleted ≡ true
  alone k lk other tree = is_true (node_at nodes k).version.deleted (λ live.
      let n = node_at nodes k in
      elim (cases_lt n.low (end_of n.high)) [
        | inl range ↦ down n.level k lk other tree live range refl
        | inr none ↦ waits_not k lk tree (live, none)
      ])
