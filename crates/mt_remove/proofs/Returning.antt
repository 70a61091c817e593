-- That each lock of a removal may be given back behind the others, and what that leaves: for `give_back_all`.
use Rattle.std.proofs.{Common.{◌≡◌, ◌⊎◌, ℕ, ◌<◌, length, Option, Some, None, refl, sym, subst, inl, inr, arith}, lemmas.Option.same_Some}
use Rattle.mt_version.specs.Changes.{CanUnlock}
use Rattle.mt_rows.specs.Rows.{Bytes}
use Rattle.mt_arena.specs.{NodeView.NodeView, Arena.{ArenaView, IsArena, Guarantee}, Accesses.at}
use Rattle.mt_operation.specs.{declared.walk.Walk.Walk, declared.removal.Removal.Removal}
use Rattle.mt_held.{specs.{Holds.MayReturn, Moves.given_back}, proofs.GivingBack.{GivesBack, back_none, back_more, returns_still, step_back, nodes_on}}
use Rattle.mt_remove.specs.{KeptRemovals.{IsAmong, IsAtUnlockRemoval}, RemovalEdits.ReturnsRemoval}

-- one lock more was given back, where there is one
pub back_some : (P : ℕ → Type 0) (v u x : ArenaView) (o : Option ℕ) → GivesBack P v u → ((k : ℕ) → o ≡ Some k → (k < length v.nodes) × ¬ P k) → ((k : ℕ) → o ≡ Some k → x ≡ given_back u k) → (o ≡ None → x ≡ u) → GivesBack (λ k. P k ⊎ (o ≡ Some k)) v x
back_some P v u x None b fresh is none = subst (GivesBack (λ k. P k ⊎ (None ≡ Some k)) v) (sym (none refl)) (record {
  count = b.count;
  given = λ k q. elim q [ inl p ↦ b.given k p | inr e ↦ absurd (cc) ];
  others = λ k nq. b.others k (λ p. nq (inl p));
  names = b.names;
  trees = b.trees;
  retired = b.retired;
})
back_some P v u x (Some i) b fresh is none = subst (GivesBack (λ k. P k ⊎ (Some i ≡ Some k)) v) (sym (is i refl))
    (back_more P (λ k. P k ⊎ (Some i ≡ Some k)) v u i b (fresh i refl).0 (fresh i refl).1 (λ k q. elim q [ inl p ↦ inl p | inr e ↦ inr (sym (same_Some _ _ e)) ]) (λ k p. inl p) (inr refl))

module _ (v : ArenaView) (op : ℕ) (key : Bytes) (w : Walk) (r : Removal) (arena : IsArena v.nodes v.trees) (kept : IsAtUnlockRemoval v op key w r) where
  abbrev n : ℕ
  n = w.place.node

  abbrev P1 : ℕ → Type 0
  P1 k = ⊥ ⊎ (r.below ≡ Some k)

  abbrev P2 : ℕ → Type 0
  P2 k = P1 k ⊎ (r.parent ≡ Some k)

  abbrev P3 : ℕ → Type 0
  P3 k = P2 k ⊎ (r.left ≡ Some k)

  abbrev P4 : ℕ → Type 0
  P4 k = P3 k ⊎ (k ≡ n)

  -- the nodes differ: by their trees, or their levels
  above_new : (k : ℕ) → r.parent ≡ Some k → ¬ P1 k
  above_new k a p = elim p [ inl none ↦ none | inr b ↦ (kept.removes.below k b).apart (kept.parent k a).tree ]

  left_new : (k : ℕ) → r.left ≡ Some k → ¬ P2 k
  left_new k l p = elim p [
    | inl q ↦ elim q [ inl none ↦ none | inr b ↦ (kept.removes.below k b).apart (kept.left k l).0.tree ]
    | inr a ↦ omega (arith, (kept.left k l).0.returns.level_is, (kept.parent k a).returns.level_is)
  ]

  node_new : ¬ P3 n
  node_new p = elim p [
    | inl q ↦ elim q [
      | inl q ↦ elim q [ inl none ↦ none | inr b ↦ (kept.removes.below n b).apart kept.node.tree ]
      | inr a ↦ omega (arith, kept.node.returns.level_is, (kept.parent n a).returns.level_is)
    ]
    | inr l ↦ (kept.left n l).1 refl
  ]

  pub below_may : (k : ℕ) → r.below ≡ Some k → (level : ℕ) × MayReturn v op level k
  below_may k is = let b = kept.removes.below k is in (b.level, b.returns)

  module _ (a : ArenaView) (is_a : (k : ℕ) → r.below ≡ Some k → a ≡ given_back v k) (none_a : r.below ≡ None → a ≡ v) where
    back_a : GivesBack P1 v a
    back_a = back_some (λ k. ⊥) v v a r.below (back_none (λ k. ⊥) v (λ k p. p)) (λ k is. ((kept.removes.below k is).returns.held.there, λ p. p)) is_a none_a

    pub above_may : (k : ℕ) → r.parent ≡ Some k → (level : ℕ) × MayReturn a op level k
    above_may k is = (1, returns_still P1 v a op 1 k back_a (above_new k is) (kept.parent k is).returns)

    pub above_room : ((k : ℕ) → IsAmong w r k → CanUnlock (at v k).version) → (k : ℕ) → r.parent ≡ Some k → CanUnlock (at a k).version
    above_room room k is = subst (λ (x : NodeView). CanUnlock x.version) (sym (back_a.others k (above_new k is))) (room k (inr (inr (inl is))))

    module _ (b : ArenaView) (is_b : (k : ℕ) → r.parent ≡ Some k → b ≡ given_back a k) (none_b : r.parent ≡ None → b ≡ a) where
      back_b : GivesBack P2 v b
      back_b = back_some P1 v a b r.parent back_a (λ k is. ((kept.parent k is).returns.held.there, above_new k is)) is_b none_b

      pub left_may : (k : ℕ) → r.left ≡ Some k → (level : ℕ) × MayReturn b op level k
      left_may k is = (0, returns_still P2 v b op 0 k back_b (left_new k is) (kept.left k is).0.returns)

      pub left_room : ((k : ℕ) → IsAmong w r k → CanUnlock (at v k).version) → (k : ℕ) → r.left ≡ Some k → CanUnlock (at b k).version
      left_room room k is = subst (λ (x : NodeView). CanUnlock x.version) (sym (back_b.others k (left_new k is))) (room k (inr (inl is)))

      module _ (c : ArenaView) (is_c : (k : ℕ) → r.left ≡ Some k → c ≡ given_back b k) (none_c : r.left ≡ None → c ≡ b) where
        back_c : GivesBack P3 v c
        back_c = back_some P2 v b c r.left back_b (λ k is. ((kept.left k is).0.returns.held.there, left_new k is)) is_c none_c

        pub node_may : MayReturn c op 0 n
        node_may = returns_still P3 v c op 0 n back_c node_new kept.node.returns

        pub node_room : ((k : ℕ) → IsAmong w r k → CanUnlock (at v k).version) → CanUnlock (at c n).version
        node_room room = subst (λ (x : NodeView). CanUnlock x.version) (sym (back_c.others n node_new)) (room n (inl refl))

        module _ (d : ArenaView) (is_d : d ≡ given_back c n) where
          back_d : GivesBack P4 v d
          back_d = subst (GivesBack P4 v) (sym is_d) (back_more P3 P4 v c n back_c kept.node.returns.held.there node_new (λ k q. q) (λ k p. inl p) (inr refl))

          to : (k : ℕ) → IsAmong w r k → P4 k
          to k among = elim among [
            | inl e ↦ inr e
            | inr rest ↦ elim rest [
              | inl e ↦ inl (inr e)
              | inr more ↦ elim more [ inl e ↦ inl (inl (inr e)) | inr e ↦ inl (inl (inl (inr e))) ]
            ]
          ]

          from : (k : ℕ) → P4 k → IsAmong w r k
          from k p = elim p [
            | inl q ↦ elim q [
              | inl q ↦ elim q [
                | inl q ↦ elim q [ inl none ↦ absurd none | inr e ↦ inr (inr (inr e)) ]
                | inr e ↦ inr (inr (inl e))
              ]
              | inr e ↦ inr (inl e)
            ]
            | inr e ↦ inl e
          ]

          pub all_returned : ReturnsRemoval v d w r
          all_returned = record {
            count = back_d.count;
            given = λ k among. back_d.given k (to k among);
            others = λ k other. back_d.others k (λ p. other (from k p));
            trees = back_d.trees;
            retired = back_d.retired;
          }

          pub all_step : Guarantee op v a → Guarantee op a b → Guarantee op b c → Guarantee op c d → Guarantee op v d
          all_step one two three four = step_back P4 op v d back_d (nodes_on op v c d arena (nodes_on op v b c arena (nodes_on op v a b arena one.nodes two) three) four)
