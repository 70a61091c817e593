-- That the empty node may be taken out, and what is kept then: for `unlink`.
use Rattle.std.proofs.Common.{◌≡◌, ◌≢◌, ℕ, ◌-◌, ◌<◌, List, length, get_or, set, Option, Some, None, refl, sym, ap, subst, ◌∙◌, inl, inr, arith}
use Rattle.std.proofs.{lemmas.Bool.cases_eq, lemmas.Option.same_Some, lemmas.List.length-set}
use Rattle.mt_rows.specs.Rows.{Bytes}
use Rattle.mt_interior.specs.Places.{place_of}
use Rattle.mt_arena.specs.{NodeView.NodeView, Nodes.HasChild, Settled.IsSettled, Lags.IsFollowedBy, Forests.tree_at, Edits.{inserting, retired}}
use Rattle.mt_arena.specs.{Unlinks.{joined, without_child}, Removals.without_node, Arena.{ArenaView, IsArena}, Accesses.at}
use Rattle.mt_arena.proofs.{Pairs.{here, there}, ChildPlace.child_place, Settling.{child_less, settled_alone}}
use Rattle.mt_operation.specs.{declared.phase.Phase.Phase, declared.walk.Walk.Walk, declared.removal.Removal.Removal}
use Rattle.mt_remove.specs.KeptRemovals.{HoldsRemoval, IsLowerRoot, IsRemoving, HoldsAbove, IsNamedBy, IsOurs, IsAtUnlink, KeptRemoval}
use Rattle.mt_remove.specs.RemovalEdits.{after_unlink}
use Rattle.mt_remove.proofs.Resting.{rest_kept}
use Rattle.mt_held.specs.Moves.{walk_at}

module _ (v : ArenaView) (op step : ℕ) (key : Bytes) (w : Walk) (r : Removal) (arena : IsArena v.nodes v.trees) (kept : IsAtUnlink v op key w r) where
  abbrev k : ℕ
  k = w.place.node

  abbrev l : ℕ
  l = kept.left

  abbrev p : ℕ
  p = kept.parent

  -- the three nodes differ
  left_apart : l ≢ p
  left_apart same = omega (arith, ap (λ j. (at v j).level) same, kept.has_left.node.returns.level_is, kept.has_above.node.returns.level_is)

  node_apart : k ≢ p
  node_apart same = omega (arith, ap (λ j. (at v j).level) same, kept.node.node.returns.level_is, kept.has_above.node.returns.level_is)

  abbrev a : ℕ
  a = place_of (at v p).separators (at v k).low

  abbrev joint : NodeView
  joint = joined (at v l) (at v k)

  abbrev less : NodeView
  less = without_child (inserting (at v p)) a

  abbrev one : List NodeView
  one = set v.nodes l joint

  abbrev two : List NodeView
  two = set one k (retired (at v k))

  abbrev u : ArenaView
  u = without_node v p l k step

  size_one : length one ≡ length v.nodes
  size_one = length-set v.nodes l joint

  size_two : length two ≡ length v.nodes
  size_two = length-set one k (retired (at v k)) ∙ size_one

  size : length u.nodes ≡ length v.nodes
  size = length-set two p less ∙ size_two

  -- each of them then, and all others
  left_now : at u l ≡ joint
  left_now = there two p l less left_apart ∙ there one k l (retired (at v k)) kept.has_left.differ ∙ here v.nodes l joint kept.has_left.node.returns.held.there

  node_now : at u k ≡ retired (at v k)
  node_now = there two p k less node_apart ∙ here one k (retired (at v k)) (omega (arith, size_one, kept.node.node.returns.held.there))

  parent_now : at u p ≡ less
  parent_now = here two p less (omega (arith, size_two, kept.has_above.node.returns.held.there))

  other_now : (j : ℕ) → j ≢ p → j ≢ l → j ≢ k → at u j ≡ at v j
  other_now j not_p not_l not_k = there two p j less not_p ∙ there one k j (retired (at v k)) not_k ∙ there v.nodes l j joint not_l

  -- the neighbour is a child of the parent still
  place : a ≡ kept.beside.place
  place = child_place v.nodes p k kept.beside.place arena.nodes kept.has_above.node.returns.held.there kept.node.node.returns.held.there kept.beside.live kept.beside.in_range kept.beside.right_is

  child : HasChild (at u p) l
  child =
      let c : HasChild (at v p) l = record { live = kept.beside.live; place = kept.beside.place - 1; in_range = omega (arith, kept.beside.in_range, kept.beside.not_first); is = kept.beside.left_is } in
      let within : a < length (at v p).children = omega (arith, place, kept.beside.in_range) in
      let gone : get_or (at v p).children a 0 ≢ l = λ e. kept.has_left.differ (sym e ∙ ap (λ i. get_or (at v p).children i 0) place ∙ kept.beside.right_is) in
      let still = child_less (at v p) a l within gone c in
      subst (λ (x : NodeView). HasChild x l) (sym parent_now) (record { live = still.live; place = still.place; in_range = still.in_range; is = still.is })

  -- whose lock is held is held still
  pub unlink_holds : (phase : Phase) → HoldsRemoval v op w r → HoldsRemoval u op (walk_at phase w) r
  unlink_holds phase holds j lt holder = holds j (omega (arith, lt, size)) (elim (cases_eq j p) [
    | inl same ↦ ap (λ i. (at v i).holder) same ∙ ap (λ (x : NodeView). x.holder) (sym parent_now) ∙ ap (λ i. (at u i).holder) (sym same) ∙ holder
    | inr not_p ↦ elim (cases_eq j l) [
      | inl same ↦ ap (λ i. (at v i).holder) same ∙ ap (λ (x : NodeView). x.holder) (sym left_now) ∙ ap (λ i. (at u i).holder) (sym same) ∙ holder
      | inr not_l ↦ elim (cases_eq j k) [
        | inl same ↦ ap (λ i. (at v i).holder) same ∙ ap (λ (x : NodeView). x.holder) (sym node_now) ∙ ap (λ i. (at u i).holder) (sym same) ∙ holder
        | inr not_k ↦ ap (λ (x : NodeView). x.holder) (sym (other_now j not_p not_l not_k)) ∙ holder
      ]
    ]
  ])

  module _ (parent_settled : IsSettled u.nodes p (at u p)) (left_unnamed : IsFollowedBy u.nodes l (at u l) None) (node_followed : IsFollowedBy u.nodes k (at u k) (at v k).next)
      (others : (j : ℕ) → j ≢ p → j ≢ l → j ≢ k → IsSettled v.nodes j (at v j) → IsSettled u.nodes j (at u j)) where
    lower : (j : ℕ) → IsLowerRoot v op w j → IsLowerRoot u op w j
    lower j h =
        let not_p : j ≢ p = λ same. h.apart (ap (λ i. (at v i).tree) same ∙ kept.has_above.node.tree) in
        let not_l : j ≢ l = λ same. h.apart (ap (λ i. (at v i).tree) same ∙ kept.has_left.node.tree) in
        let not_k : j ≢ k = λ same. h.apart (ap (λ i. (at v i).tree) same ∙ kept.node.node.tree) in
        let is = other_now j not_p not_l not_k in
        record {
          level = h.level;
          returns = record {
            held = record { there = omega (arith, h.returns.held.there, size); holder = ap (λ (x : NodeView). x.holder) is ∙ h.returns.held.holder };
            level_is = ap (λ (x : NodeView). x.level) is ∙ h.returns.level_is;
            tree_there = subst (λ (x : NodeView). x.tree < length v.trees) (sym is) h.returns.tree_there;
            mine = λ q making. h.returns.mine q (ap (λ (x : NodeView). (tree_at v.trees x.tree).standing) (sym is) ∙ making);
            settled = others j not_p not_l not_k h.returns.settled;
          };
          apart = λ e. h.apart (ap (λ (x : NodeView). x.tree) (sym is) ∙ e);
        }

    removes : IsRemoving u op key w r
    removes =
        let t = kept.removes.through in
        record { through = record { there = t.there; unmade = t.unmade; of_tree = t.of_tree; begun = t.begun }; below = λ j is. lower j (kept.removes.below j is) }

    above : HoldsAbove u op w p
    above =
        let m = kept.has_above.node.returns in
        record {
          node = record {
            returns = record {
              held = record { there = omega (arith, m.held.there, size); holder = ap (λ (x : NodeView). x.holder) parent_now ∙ m.held.holder };
              level_is = ap (λ (x : NodeView). x.level) parent_now ∙ m.level_is;
              tree_there = subst (λ (x : NodeView). x.tree < length v.trees) (sym parent_now) m.tree_there;
              mine = λ q making. m.mine q (ap (λ (x : NodeView). (tree_at v.trees x.tree).standing) (sym parent_now) ∙ making);
              settled = parent_settled;
            };
            tree = ap (λ (x : NodeView). x.tree) parent_now ∙ kept.has_above.node.tree;
          };
          live = ap (λ (x : NodeView). x.version.deleted) parent_now ∙ kept.has_above.live;
          whole = ap (λ (x : NodeView). x.version.splitting) parent_now ∙ kept.has_above.whole;
        }

    node_named : IsNamedBy u op w k (at v k).next
    node_named =
        let m = kept.node.node.returns in
        record {
          held = record { there = omega (arith, m.held.there, size); holder = ap (λ (x : NodeView). x.holder) node_now ∙ m.held.holder };
          border = ap (λ (x : NodeView). x.level) node_now ∙ m.level_is;
          tree = ap (λ (x : NodeView). x.tree) node_now ∙ kept.node.node.tree;
          mine = λ q making. m.mine q (ap (λ (x : NodeView). (tree_at v.trees x.tree).standing) (sym node_now) ∙ making);
          followed = node_followed;
        }

    left_named : IsNamedBy u op w l None
    left_named =
        let m = kept.has_left.node.returns in
        record {
          held = record { there = omega (arith, m.held.there, size); holder = ap (λ (x : NodeView). x.holder) left_now ∙ m.held.holder };
          border = ap (λ (x : NodeView). x.level) left_now ∙ m.level_is;
          tree = ap (λ (x : NodeView). x.tree) left_now ∙ kept.has_left.node.tree;
          mine = λ q making. m.mine q (ap (λ (x : NodeView). (tree_at v.trees x.tree).standing) (sym left_now) ∙ making);
          followed = left_unnamed;
        }

    -- a node that nobody names any more may be given back
    ours : (j : ℕ) → j < length v.nodes → (at v j).tree < length v.trees → (at u j).tree ≡ (at v j).tree → IsNamedBy u op w j None → IsOurs u op w 0 j
    ours j lt tree_there same h = record {
      returns = record {
        held = h.held;
        level_is = h.border;
        tree_there = subst (λ t. t < length v.trees) (sym same) tree_there;
        mine = h.mine;
        settled = settled_alone u.nodes j (at u j) h.followed;
      };
      tree = h.tree;
    }

    by_next : (next : Option ℕ) → (at v k).next ≡ next → KeptRemoval (after_unlink next (at u p)) u op key (walk_at (after_unlink next (at u p)) w) r
    by_next None last = rest_kept u op key w r l p (record {
      removes = removes;
      left_is = kept.left_is;
      parent_is = kept.parent_is;
      node = ours k kept.node.node.returns.held.there kept.node.node.returns.tree_there (ap (λ (x : NodeView). x.tree) node_now) (subst (IsNamedBy u op w k) last node_named);
      has_left = ours l kept.has_left.node.returns.held.there kept.has_left.node.returns.tree_there (ap (λ (x : NodeView). x.tree) left_now) left_named;
      differ = kept.has_left.differ;
      has_above = above;
      child = child;
    })
    by_next (Some behind) next =
        let n = subst (IsNamedBy u op w k) next node_named in
        record {
          removes = record { through = removes.through; below = λ j is. let b = removes.below j is in record { level = b.level; returns = b.returns; apart = b.apart } };
          left = l;
          left_is = kept.left_is;
          parent = p;
          parent_is = kept.parent_is;
          behind = behind;
          next = ap (λ (x : NodeView). x.next) left_now ∙ next;
          node = record { held = n.held; border = n.border; tree = n.tree; mine = n.mine; followed = n.followed };
          gone = ap (λ (x : NodeView). x.version.deleted) node_now;
          has_left = record { held = left_named.held; border = left_named.border; tree = left_named.tree; mine = left_named.mine; followed = left_named.followed };
          live = ap (λ (x : NodeView). x.version.deleted) left_now ∙ kept.has_left.live;
          differ = kept.has_left.differ;
          has_above = record { node = record { returns = above.node.returns; tree = above.node.tree }; live = above.live; whole = above.whole };
          child = child;
        }

    pub unlink_kept : KeptRemoval (after_unlink (at v k).next (at u p)) u op key (walk_at (after_unlink (at v k).next (at u p)) w) r
    unlink_kept = by_next (at v k).next refl

-- the same, of the numbers and the arena that the calls leave
pub unlink_done : (v u : ArenaView) (op step : ℕ) (key : Bytes) (w : Walk) (r : Removal) (arena : IsArena v.nodes v.trees) (kept : IsAtUnlink v op key w r) (left parent : ℕ) (next : Option ℕ) (phase : Phase)
    → r.left ≡ Some left → r.parent ≡ Some parent → next ≡ (at v w.place.node).next → phase ≡ after_unlink next (at u parent) → u ≡ without_node v parent left w.place.node step
    → (IsSettled v.nodes parent (at v parent) → IsSettled u.nodes parent (at u parent))
    → (IsSettled v.nodes left (at v left) → IsFollowedBy u.nodes left (at u left) None)
    → (IsSettled v.nodes w.place.node (at v w.place.node) → IsFollowedBy u.nodes w.place.node (at u w.place.node) (at v w.place.node).next)
    → ((k : ℕ) → k ≢ parent → k ≢ left → k ≢ w.place.node → IsSettled v.nodes k (at v k) → IsSettled u.nodes k (at u k))
    → KeptRemoval phase u op key (walk_at phase w) r
unlink_done v u op step key w r arena kept left parent next phase left_is parent_is next_is phase_is is of_parent of_left of_node of_others =
    let n = w.place.node in
    let samel : kept.left ≡ left = same_Some _ _ (sym kept.left_is ∙ left_is) in
    let samep : kept.parent ≡ parent = same_Some _ _ (sym kept.parent_is ∙ parent_is) in
    let after : u ≡ without_node v kept.parent kept.left n step = is ∙ ap (λ p. without_node v p left n step) (sym samep) ∙ ap (λ l. without_node v kept.parent l n step) (sym samel) in
    let ps = subst (λ (a : ArenaView). IsSettled a.nodes kept.parent (at a kept.parent)) after
    (subst (λ p. IsSettled u.nodes p (at u p)) (sym samep) (of_parent (subst (λ p. IsSettled v.nodes p (at v p)) samep kept.has_above.node.returns.settled))) in
    let lu = subst (λ (a : ArenaView). IsFollowedBy a.nodes kept.left (at a kept.left) None) after
    (subst (λ l. IsFollowedBy u.nodes l (at u l) None) (sym samel) (of_left (subst (λ l. IsSettled v.nodes l (at v l)) samel kept.has_left.node.returns.settled))) in
    let nf = subst (λ (a : ArenaView). IsFollowedBy a.nodes n (at a n) (at v n).next) after (of_node kept.node.node.returns.settled) in
    let phase_now : phase ≡ after_unlink (at v n).next (at (without_node v kept.parent kept.left n step) kept.parent)
    = phase_is ∙ ap (λ o. after_unlink o (at u parent)) next_is ∙ ap (λ p. after_unlink (at v n).next (at u p)) (sym samep) ∙ ap (λ (a : ArenaView). after_unlink (at v n).next (at a kept.parent)) after in
    subst (λ (a : ArenaView). KeptRemoval phase a op key (walk_at phase w) r) (sym after)
    (subst (λ (q : Phase). KeptRemoval q (without_node v kept.parent kept.left n step) op key (walk_at q w) r) (sym phase_now)
    (unlink_kept v op step key w r arena kept ps lu nf
    (λ j np nl nk s. subst (λ (a : ArenaView). IsSettled a.nodes j (at a j)) after (of_others j (λ e. np (e ∙ sym samep)) (λ e. nl (e ∙ sym samel)) nk s))))

pub unlink_done_holds : (v u : ArenaView) (op step : ℕ) (key : Bytes) (w : Walk) (r : Removal) (arena : IsArena v.nodes v.trees) (kept : IsAtUnlink v op key w r) (left parent : ℕ) (phase : Phase)
    → r.left ≡ Some left → r.parent ≡ Some parent → u ≡ without_node v parent left w.place.node step → HoldsRemoval v op w r → HoldsRemoval u op (walk_at phase w) r
unlink_done_holds v u op step key w r arena kept left parent phase left_is parent_is is =
    let samel : kept.left ≡ left = same_Some _ _ (sym kept.left_is ∙ left_is) in
    let samep : kept.parent ≡ parent = same_Some _ _ (sym kept.parent_is ∙ parent_is) in
    let after : u ≡ without_node v kept.parent kept.left w.place.node step =
    is ∙ ap (λ p. without_node v p left w.place.node step) (sym samep) ∙ ap (λ l. without_node v kept.parent l w.place.node step) (sym samel) in
    subst (λ (a : ArenaView). HoldsRemoval v op w r → HoldsRemoval a op (walk_at phase w) r) (sym after) (unlink_holds v op step key w r arena kept phase)
