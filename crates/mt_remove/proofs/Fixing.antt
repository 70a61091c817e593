-- What is kept once the node behind names the left neighbour: for `fix_next`.
use Rattle.std.proofs.{Common.{◌≡◌, ◌≢◌, ℕ, ◌<◌, length, Option, Some, None, sym, ap, subst, ◌∙◌, inl, inr, arith}, lemmas.Bool.cases_eq}
use Rattle.std.proofs.{lemmas.Option.same_Some, lemmas.List.length-set}
use Rattle.mt_rows.specs.Rows.{Bytes}
use Rattle.mt_interior.specs.Fences.{end_of}
use Rattle.mt_arena.specs.{NodeView.NodeView, Nodes.{HasChild, HasRange, IsNeighbour, seat_of}, Ranges.Waits, Lags.IsFollowedBy, Forests.tree_at, Edits.pointed}
use Rattle.mt_arena.specs.{Arena.{ArenaView, IsArena}, Accesses.{at, IsOpen}}
use Rattle.mt_arena.proofs.{Pairs.{here, there}, Settling.{followed_again, followed_no_more, settled_aside, settled_alone, settled_followed}}
use Rattle.mt_operation.specs.{declared.phase.Phase.Phase, declared.walk.Walk.Walk, declared.removal.Removal.Removal}
use Rattle.mt_remove.specs.{KeptRemovals.{HoldsRemoval, IsLowerRoot, IsRemoving, HoldsAbove, IsOurs, IsAtFixNext, KeptRemoval}, RemovalEdits.for_rest}
use Rattle.mt_remove.proofs.Resting.{rest_kept}
use Rattle.mt_held.specs.Moves.{walk_at, with_named_previous}

module _ (v : ArenaView) (op : ℕ) (key : Bytes) (w : Walk) (r : Removal) (arena : IsArena v.nodes v.trees) (kept : IsAtFixNext v op key w r) where
  abbrev k : ℕ
  k = w.place.node

  abbrev l : ℕ
  l = kept.left

  abbrev p : ℕ
  p = kept.parent

  abbrev b : ℕ
  b = kept.behind

  left_there : l < length v.nodes
  left_there = kept.has_left.held.there

  pub behind_there : b < length v.nodes
  behind_there = (arena.nodes.each l left_there).names.next b kept.next

  n : IsNeighbour (at v l).high (seat_of (at v l)) (seat_of (at v b))
  n = (arena.nodes.pairs l b left_there behind_there).next kept.live kept.next

  range : HasRange (at v b)
  range = (arena.ranged.ties l b left_there behind_there).next kept.live kept.next

  -- the node behind is a border node with a range, of the same tree
  pub behind_border : (at v b).level ≡ 0
  behind_border = omega (arith, n.level, kept.has_left.border)

  pub behind_tied : Waits (at v b) → (at v b).previous ≡ Some l
  behind_tied waits = absurd (omega (arith, range, waits.1))

  pub behind_open : IsOpen v b op
  behind_open q making = kept.has_left.mine q (ap (λ t. (tree_at v.trees t).standing) (sym n.tree) ∙ making)

  behind_tree : (at v b).tree ≡ w.place.tree
  behind_tree = n.tree ∙ kept.has_left.tree

  -- it is none of those that are held
  not_left : l ≢ b
  not_left same =
      let ends : end_of (at v l).high ≡ (at v b).low = ap end_of n.meets in
      omega (arith, ends, range, ap (λ j. end_of (at v j).high) same)

  not_node : k ≢ b
  not_node same = absurd (let e = sym kept.gone ∙ ap (λ j. (at v j).version.deleted) same ∙ n.live kept.live in cc)

  not_above : p ≢ b
  not_above same = omega (arith, ap (λ j. (at v j).level) same, kept.has_above.node.returns.level_is, behind_border)

  above_apart : p ≢ l
  above_apart same = omega (arith, ap (λ j. (at v j).level) same, kept.has_above.node.returns.level_is, kept.has_left.border)

  abbrev y : NodeView
  y = pointed (at v b) (Some l) (at v b).parent

  abbrev u : ArenaView
  u = with_named_previous v b l

  size : length u.nodes ≡ length v.nodes
  size = length-set v.nodes b y

  same_at : (j : ℕ) → j ≢ b → at u j ≡ at v j
  same_at j other = there v.nodes b j y other

  pub fix_holds : (phase : Phase) → HoldsRemoval v op w r → HoldsRemoval u op (walk_at phase w) r
  fix_holds phase holds j lt holder = holds j (omega (arith, lt, size)) (elim (cases_eq j b) [
    | inl same ↦ ap (λ i. (at v i).holder) same ∙ ap (λ (x : NodeView). x.holder) (sym (here v.nodes b y behind_there)) ∙ ap (λ i. (at u i).holder) (sym same) ∙ holder
    | inr other ↦ ap (λ (x : NodeView). x.holder) (sym (same_at j other)) ∙ holder
  ])

  lower : (j : ℕ) → IsLowerRoot v op w j → IsLowerRoot u op w j
  lower j h =
      let not_l : j ≢ l = λ same. h.apart (ap (λ i. (at v i).tree) same ∙ kept.has_left.tree) in
      let not_b : j ≢ b = λ same. h.apart (ap (λ i. (at v i).tree) same ∙ behind_tree) in
      let is = same_at j not_b in
      record {
        level = h.level;
        returns = record {
          held = record { there = omega (arith, h.returns.held.there, size); holder = ap (λ (x : NodeView). x.holder) is ∙ h.returns.held.holder };
          level_is = ap (λ (x : NodeView). x.level) is ∙ h.returns.level_is;
          tree_there = subst (λ (x : NodeView). x.tree < length v.trees) (sym is) h.returns.tree_there;
          mine = λ q making. h.returns.mine q (ap (λ (x : NodeView). (tree_at v.trees x.tree).standing) (sym is) ∙ making);
          settled = settled_aside v.nodes l l b behind_there j not_l not_b h.returns.settled;
        };
        apart = λ e. h.apart (ap (λ (x : NodeView). x.tree) (sym is) ∙ e);
      }

  removes : IsRemoving u op key w r
  removes =
      let t = kept.removes.through in
      record { through = record { there = t.there; unmade = t.unmade; of_tree = t.of_tree; begun = t.begun }; below = λ j is. lower j (kept.removes.below j is) }

  above : HoldsAbove u op w p
  above =
      let m = kept.has_above.node.returns in
      let is = same_at p not_above in
      record {
        node = record {
          returns = record {
            held = record { there = omega (arith, m.held.there, size); holder = ap (λ (x : NodeView). x.holder) is ∙ m.held.holder };
            level_is = ap (λ (x : NodeView). x.level) is ∙ m.level_is;
            tree_there = subst (λ (x : NodeView). x.tree < length v.trees) (sym is) m.tree_there;
            mine = λ q making. m.mine q (ap (λ (x : NodeView). (tree_at v.trees x.tree).standing) (sym is) ∙ making);
            settled = settled_aside v.nodes l l b behind_there p above_apart not_above m.settled;
          };
          tree = ap (λ (x : NodeView). x.tree) is ∙ kept.has_above.node.tree;
        };
        live = ap (λ (x : NodeView). x.version.deleted) is ∙ kept.has_above.live;
        whole = ap (λ (x : NodeView). x.version.splitting) is ∙ kept.has_above.whole;
      }

  -- the neighbour has its follower back, and nobody names the node that was taken out
  left_followed : IsFollowedBy u.nodes l (at u l) (Some b)
  left_followed = followed_again v.nodes l l b behind_there not_left kept.has_left.followed

  node_alone : IsFollowedBy u.nodes k (at u k) None
  node_alone = followed_no_more v.nodes l k b behind_there kept.differ not_node kept.node.followed

  left_ours : IsOurs u op w 0 l
  left_ours =
      let is = same_at l not_left in
      let there_too : (at v l).tree < length v.trees = subst (λ t. t < length v.trees) (sym kept.has_left.tree) kept.removes.through.there in
      record {
        returns = record {
          held = record { there = omega (arith, left_there, size); holder = ap (λ (x : NodeView). x.holder) is ∙ kept.has_left.held.holder };
          level_is = ap (λ (x : NodeView). x.level) is ∙ kept.has_left.border;
          tree_there = subst (λ (x : NodeView). x.tree < length v.trees) (sym is) there_too;
          mine = λ q making. kept.has_left.mine q (ap (λ (x : NodeView). (tree_at v.trees x.tree).standing) (sym is) ∙ making);
          settled = settled_followed u.nodes l (at u l) (ap (λ (x : NodeView). x.version.deleted) is ∙ kept.live)
              (subst (λ (o : Option ℕ). IsFollowedBy u.nodes l (at u l) o) (sym (ap (λ (x : NodeView). x.next) is ∙ kept.next)) left_followed);
        };
        tree = ap (λ (x : NodeView). x.tree) is ∙ kept.has_left.tree;
      }

  node_ours : IsOurs u op w 0 k
  node_ours =
      let is = same_at k not_node in
      let there_too : (at v k).tree < length v.trees = subst (λ t. t < length v.trees) (sym kept.node.tree) kept.removes.through.there in
      record {
        returns = record {
          held = record { there = omega (arith, kept.node.held.there, size); holder = ap (λ (x : NodeView). x.holder) is ∙ kept.node.held.holder };
          level_is = ap (λ (x : NodeView). x.level) is ∙ kept.node.border;
          tree_there = subst (λ (x : NodeView). x.tree < length v.trees) (sym is) there_too;
          mine = λ q making. kept.node.mine q (ap (λ (x : NodeView). (tree_at v.trees x.tree).standing) (sym is) ∙ making);
          settled = settled_alone u.nodes k (at u k) node_alone;
        };
        tree = ap (λ (x : NodeView). x.tree) is ∙ kept.node.tree;
      }

  pub fix_kept : KeptRemoval (for_rest (at v p)) u op key (walk_at (for_rest (at v p)) w) r
  fix_kept =
      let is = same_at p not_above in
      subst (λ (x : NodeView). KeptRemoval (for_rest x) u op key (walk_at (for_rest x) w) r) is
      (rest_kept u op key w r l p (record {
        removes = removes;
        left_is = kept.left_is;
        parent_is = kept.parent_is;
        node = node_ours;
        has_left = left_ours;
        differ = kept.differ;
        has_above = above;
        child = subst (λ (x : NodeView). HasChild x l) (sym is) kept.child;
      }))

-- the same, of the numbers that the calls tell
module _ (v : ArenaView) (op : ℕ) (key : Bytes) (w : Walk) (r : Removal) (arena : IsArena v.nodes v.trees) (kept : IsAtFixNext v op key w r) (left behind : ℕ) (left_is : r.left ≡ Some left) (next : (at v left).next ≡ Some behind) where
  same_left : kept.left ≡ left
  same_left = same_Some _ _ (sym kept.left_is ∙ left_is)

  same_behind : kept.behind ≡ behind
  same_behind = same_Some _ _ (sym kept.next ∙ ap (λ l. (at v l).next) same_left ∙ next)

  pub named_border : (at v behind).level ≡ 0
  named_border = subst (λ b. (at v b).level ≡ 0) same_behind (behind_border v op key w r arena kept)

  pub named_tied : Waits (at v behind) → (at v behind).previous ≡ Some left
  named_tied waits = ap (λ b. (at v b).previous) (sym same_behind) ∙ behind_tied v op key w r arena kept (subst (λ b. Waits (at v b)) (sym same_behind) waits) ∙ ap (λ (l : ℕ). Some l) same_left

  pub named_open : IsOpen v behind op
  named_open = subst (λ b. IsOpen v b op) same_behind (behind_open v op key w r arena kept)

  after : with_named_previous v kept.behind kept.left ≡ with_named_previous v behind left
  after = ap (λ b. with_named_previous v b kept.left) same_behind ∙ ap (λ l. with_named_previous v behind l) same_left

  pub fix_done : (u : ArenaView) (parent : ℕ) (phase : Phase) → r.parent ≡ Some parent → phase ≡ for_rest (at v parent) → u ≡ with_named_previous v behind left → KeptRemoval phase u op key (walk_at phase w) r
  fix_done u parent phase parent_is phase_is is =
      let samep : kept.parent ≡ parent = same_Some _ _ (sym kept.parent_is ∙ parent_is) in
      let now : phase ≡ for_rest (at v kept.parent) = phase_is ∙ ap (λ p. for_rest (at v p)) (sym samep) in
      subst (λ (a : ArenaView). KeptRemoval phase a op key (walk_at phase w) r) (after ∙ sym is)
      (subst (λ (q : Phase). KeptRemoval q (with_named_previous v kept.behind kept.left) op key (walk_at q w) r) (sym now) (fix_kept v op key w r arena kept))

  pub fix_done_holds : (u : ArenaView) (phase : Phase) → u ≡ with_named_previous v behind left → HoldsRemoval v op w r → HoldsRemoval u op (walk_at phase w) r
  fix_done_holds u phase is holds = subst (λ (a : ArenaView). HoldsRemoval a op (walk_at phase w) r) (after ∙ sym is) (fix_holds v op key w r arena kept phase holds)
