-- What is kept of a removal that gives all its locks back, and goes on to a layer that it has left empty: for `unlock`.
use Rattle.std.proofs.{Common.{◌≡◌, ◌≢◌, ◌⊎◌, ℕ, ◌<◌, length, Option, Some, None, refl, sym, ap, subst, ◌∙◌, inl, inr, arith}, lemmas.Bool.cases_eq}
use Rattle.std.proofs.lemmas.Option.{same_Some}
use Rattle.mt_rows.specs.Rows.{Bytes}
use Rattle.mt_border.specs.Contents.{IsOfTree}
use Rattle.mt_arena.{specs.{NodeView.NodeView, Forests.tree_at, Arena.{ArenaView, IsArena}}, proofs.Down.goes_on_top}
use Rattle.mt_operation.specs.{Operations.no_removal, declared.walk.Walk.Walk, declared.removal.Removal.Removal}
use Rattle.mt_descent.specs.{KeptWalks.{IsAtEnter, HoldsNothing}, WalkMoves.walk_into}
use Rattle.mt_remove.specs.{KeptRemovals.{IsAmong, HoldsRemoval, IsAtUnlockRemoval, IsCleaning}, RemovalEdits.ReturnsRemoval}

-- whether it is this one can be told
is_or_not : (x : Option ℕ) (k : ℕ) → (x ≡ Some k) ⊎ (x ≢ Some k)
is_or_not None k = inr (λ e. absurd (cc))
is_or_not (Some j) k = elim (cases_eq j k) [ inl e ↦ inl (ap (λ (n : ℕ). Some n) e) | inr other ↦ inr (λ e. other (same_Some j k e)) ]

among_or_not : (w : Walk) (r : Removal) (k : ℕ) → IsAmong w r k ⊎ ¬ IsAmong w r k
among_or_not w r k = elim (cases_eq k w.place.node) [
  | inl node ↦ inl (inl node)
  | inr no_node ↦ elim (is_or_not r.left k) [
    | inl left ↦ inl (inr (inl left))
    | inr no_left ↦ elim (is_or_not r.parent k) [
      | inl parent ↦ inl (inr (inr (inl parent)))
      | inr no_parent ↦ elim (is_or_not r.below k) [
        | inl below ↦ inl (inr (inr (inr below)))
        | inr no_below ↦ inr (λ among. elim among [
          | inl e ↦ no_node e
          | inr rest ↦ elim rest [ inl e ↦ no_left e | inr more ↦ elim more [ inl e ↦ no_parent e | inr e ↦ no_below e ] ]
        ])
      ]
    ]
  ]
]

module _ (v d : ArenaView) (op : ℕ) (w : Walk) (r : Removal) (returns : ReturnsRemoval v d w r) where
  -- it holds none
  pub holds_none : HoldsRemoval v op w r → HoldsNothing d op
  holds_none holds k lt holder = elim (among_or_not w r k) [
    | inl among ↦ absurd (let gone = ap (λ (n : NodeView). n.holder) (sym (returns.given k among)) ∙ holder in cc)
    | inr other ↦ other (holds k (omega (arith, lt, returns.count)) (ap (λ (n : NodeView). n.holder) (sym (returns.others k other)) ∙ holder))
  ]

  module _ (key : Bytes) (arena : IsArena v.nodes v.trees) (kept : IsAtUnlockRemoval v op key w r) where
    -- it enters the top tree
    pub enters_top : IsAtEnter d key (walk_into w 0 0)
    enters_top =
        let g = goes_on_top v.nodes v.trees key arena kept.removes.through.of_tree.stored in
        record {
          there = subst (λ trees. 0 < length trees) (sym returns.trees) g.there;
          unmade = λ q making. absurd (let both = sym g.live ∙ ap (λ trees. (tree_at trees 0).standing) (sym returns.trees) ∙ making in cc);
          of_tree = subst (λ trees. IsOfTree (tree_at trees 0).prefix 0 key) (sym returns.trees) g.of_tree;
          begun = g.begun;
        }

    -- for the link of the tree in which it was
    pub goes_to_link : IsCleaning d key (record no_removal { cleans = Some w.place.tree })
    goes_to_link =
        let t = kept.removes.through in
        record {
          tree = w.place.tree;
          layer = w.layer;
          cleans = refl;
          through = record {
            there = subst (λ trees. w.place.tree < length trees) (sym returns.trees) t.there;
            unmade = λ q making. t.unmade q (ap (λ trees. (tree_at trees w.place.tree).standing) (sym returns.trees) ∙ making);
            of_tree = subst (λ trees. IsOfTree (tree_at trees w.place.tree).prefix w.layer key) (sym returns.trees) t.of_tree;
            begun = t.begun;
          };
          no_left = refl;
          no_above = refl;
          no_below = refl;
        }
