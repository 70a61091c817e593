-- What the step leaves to others by which a tree is made: for `LayerAt`.
use Rattle.std.proofs.Common.{◌≡◌, ◌≢◌, ℕ, ◌<◌, ◌≤◌, List, length, Some, None, true, false, refl, sym, ap, subst, ◌∙◌, inl, inr, arith}
use Rattle.std.proofs.{lemmas.Bool.cases_eq}
use Rattle.mt_arena.specs.{declared.tree.Tree.Tree, declared.tree.Standing.TheVariants.Made}
use Rattle.mt_arena.specs.{NodeView.{NodeView, node_at}}
use Rattle.mt_arena.specs.{Forests.{IsForest, tree_at}}
use Rattle.mt_arena.specs.{Contents.{live_pairs, content}, Guarantee.{NodesGuarantee, PointsOnly, LoseHeld}}
use Rattle.mt_arena.specs.{Idle.RetiredPlaces, Given.StepsFrom}
use Rattle.mt_arena.specs.{Arena.ArenaView, Accesses.at}
use Rattle.mt_arena.proofs.{Pairs.here}
use Rattle.mt_arena.proofs.{Counted.{pairs-gone, pairs-of_tree}, ContentQuiet.content-agree}
use Rattle.mt_arena.proofs.{Guarantees.{changes_none, tree_changes_none, lost_none}}
use Rattle.mt_arena.proofs.LayerIn.{HasNodeAt, HasTreeAt, MidNodes, MidTrees}

-- what the step leaves to others
module _ (v : ArenaView) (op least h t : ℕ) (zs ms : List NodeView) (us ts : List Tree) (y : NodeView) (u : Tree) (lists : RetiredPlaces) (n : HasNodeAt v.nodes zs h y)
    (b : HasTreeAt v.trees us t u) (m : MidNodes v op least h t ms y) (c : MidTrees v op least t ts u) (forest : IsForest v.nodes v.trees) (of_tree : y.tree ≡ t)
    (free : y.holder ≡ None) (no_previous : y.previous ≡ None) (no_parent : y.parent ≡ None) where
  was_there : (k : ℕ) → k < length ms → k ≢ h → node_at zs k ≡ node_at ms k
  was_there k lk other = (n.others k (omega (arith, lk, m.count, n.more)) other).1 ∙ sym (m.others k other)

  is_new : (k : ℕ) → length ms ≤ k → k < length zs → k ≡ h
  is_new k from lk = elim (cases_eq k h) [
    | inl is ↦ is
    | inr other ↦ absurd (omega (arith, (n.others k lk other).0, m.count, from))
  ]

  inside : h < length ms → h < length v.nodes
  inside lt = omega (arith, lt, m.count)

  unmade_root : (q : ℕ) → (tree_at ts (node_at zs h).tree).standing ≡ Made q → q ≡ op
  unmade_root q e = c.unmade q (ap (λ (k : ℕ). (tree_at ts k).standing) (sym (ap (λ (x : NodeView). x.tree) n.is ∙ of_tree)) ∙ e)

  guarantee : NodesGuarantee op ms zs ts us
  guarantee = record {
    count = omega (arith, m.count, n.more);
    tree_count = omega (arith, c.count, b.more);
    nodes = λ k lk. elim (cases_eq k h) [
      | inl is ↦ rw (is, n.is) (m.changes (inside (subst (λ j. j < length ms) is lk)))
      | inr other ↦ rw (was_there k lk other) (changes_none op (node_at ms k))
    ];
    trees = λ s ls. elim (cases_eq s t) [
      | inl is ↦ rw (is, b.is, c.here (subst (λ r. r < length v.trees) is (omega (arith, ls, c.count)))) (tree_changes_none op u)
      | inr other ↦ rw ((b.others s (omega (arith, ls, c.count, b.more)) other).1, c.others s other) (tree_changes_none op (tree_at v.trees s))
    ];
    made = λ k q lk other e. elim (cases_eq k h) [
      | inl is ↦ absurd (other (c.unmade q (ap (λ (r : ℕ). (tree_at ts r).standing) (sym (m.tree (inside (subst (λ j. j < length ms) is lk)))) ∙ ap (λ j. (tree_at ts (node_at ms j).tree).standing) (sym is) ∙ e)))
      | inr away ↦ was_there k lk away
    ];
    made_new = λ k q from lk other e. other (unmade_root q (ap (λ j. (tree_at ts (node_at zs j).tree).standing) (sym (is_new k from lk)) ∙ e));
    taken_new = λ k q from lk other e. absurd (let both = sym free ∙ ap (λ (x : NodeView). x.holder) (sym n.is) ∙ ap (λ j. (node_at zs j).holder) (sym (is_new k from lk)) ∙ e in cc);
  }

  root_names : (k j : ℕ) → k ≡ h → ((node_at zs k).previous ≢ Some j) × ((node_at zs k).parent ≢ Some j)
  root_names k j is = rw (is, n.is, no_previous, no_parent) (λ e. absurd (cc), λ e. absurd (cc))

  points : PointsOnly op ms zs
  points = record {
    previous = λ k j lk lj e not_mine. elim (cases_eq k h) [
      | inl is ↦ absurd ((root_names k j is).0 e)
      | inr other ↦ ap (λ (x : NodeView). x.previous) (sym (was_there k lk other)) ∙ e
    ];
    parent = λ k j lk lj e not_mine. elim (cases_eq k h) [
      | inl is ↦ absurd ((root_names k j is).1 e)
      | inr other ↦ ap (λ (x : NodeView). x.parent) (sym (was_there k lk other)) ∙ e
    ];
    new_previous = λ k j from lk lj e. absurd ((root_names k j (is_new k from lk)).0 e);
    new_parent = λ k j from lk lj e. absurd ((root_names k j (is_new k from lk)).1 e);
  }

  lost : LoseHeld ms zs
  lost k lk = elim (cases_eq k h) [
    | inl is ↦ rw (is, n.is) (m.lost (inside (subst (λ j. j < length ms) is lk)))
    | inr other ↦ rw (was_there k lk other) (lost_none (node_at ms k))
  ]

  mid_pairs : content ts ms ≡ content v.trees v.nodes
  mid_pairs = m.pairs ts ∙ content-agree ts v.trees v.nodes (λ k lk. by k lk (at v k).version.deleted refl)
    where
      by : (k : ℕ) → k < length v.nodes → (d : _) → (at v k).version.deleted ≡ d → live_pairs ts (at v k) ≡ live_pairs v.trees (at v k)
      by k lk true out = pairs-gone ts (at v k) out ∙ sym (pairs-gone v.trees (at v k) out)
      by k lk false live = pairs-of_tree ts v.trees (at v k) (c.others (at v k).tree (λ is.
          absurd (let both = sym b.vacant ∙ ap (λ r. (tree_at v.trees r).standing) (sym is) in (forest.homes k (at v k).tree lk (forest.tree_there k lk)).standing refl live (sym both))))

  pub steps_layer : StepsFrom least op v (record { nodes = zs; trees = us; retired = lists })
  steps_layer = record {
    mid = record { nodes = ms; trees = ts; retired = lists };
    gives = record {
      count = m.count;
      tree_count = c.count;
      nodes = λ k lk. elim (cases_eq k h) [
        | inl is ↦ inr (rw is (m.given (subst (λ j. j < length v.nodes) is lk)))
        | inr other ↦ inl (m.others k other)
      ];
      trees = λ s ls. elim (cases_eq s t) [
        | inl is ↦ inr (rw is b.vacant)
        | inr other ↦ inl (c.others s other)
      ];
    };
    nodes_out = m.each;
    trees_out = c.each;
    into = λ k q lk given making. elim (cases_eq k h) [
      | inl is ↦ absurd (let both = sym b.vacant ∙ ap (λ r. (tree_at v.trees r).standing) (sym (m.tree (subst (λ j. j < length v.nodes) is lk)) ∙ ap (λ j. (node_at ms j).tree) (sym is)) ∙ making in cc)
      | inr other ↦ absurd (let both = sym given.out ∙ ap (λ (x : NodeView). x.version.deleted) (sym (m.others k other)) ∙ given.blank.live in cc)
    ];
    contents = mid_pairs;
    step = record { nodes = guarantee; points = points; lost = lost };
  }
