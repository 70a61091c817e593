-- What is kept of a split as a child that the right half has got comes to name it as its parent: for `reparent`.
use Rattle.std.proofs.Common.{◌≡◌, ◌≢◌, ℕ, ◌+◌, ◌-◌, ◌<◌, ◌≤◌, ◌⊎◌, length, get_or, Some, None, false, refl, sym, ap, subst, ◌∙◌, inl, inr, arith}
use Rattle.std.proofs.{lemmas.Option.same_Some, lemmas.List.length-set}
use Rattle.mt_arena.specs.{NodeView.NodeView, Nodes.{HasChild, HasRange, IsChild}, Lags.{Follows, IsUnder}, Forests.tree_at, Edits.pointed}
use Rattle.mt_arena.specs.{Arena.{ArenaView, IsArena}, Accesses.{at, IsOpen}}
use Rattle.mt_arena.proofs.{Pairs.there, Homes.no_root, Lags.{follows_in, under_in}}
use Rattle.mt_operation.specs.declared.splits.Splits.{Splits}
use Rattle.mt_insert.specs.{KeptSplits.{last_of, HoldsSplits, NothingLags, IsChildFrom, IsAtReparent, IsAtLockParent}, SplitEdits.with_named_parent}
use Rattle.mt_insert.proofs.Behind.{KeepsButNames, keeps_child, keeps_each, splits_still}
use Rattle.mt_held.proofs.Returns.{NamesNoMoreOf, trees_same, names_no_more}

-- the child whose turn it is
module _ (v : ArenaView) (op : ℕ) (s : Splits) (arena : IsArena v.nodes v.trees) (kept : IsAtReparent v op s) where
  abbrev l : ℕ
  l = (last_of s).left

  abbrev q : ℕ
  q = (last_of s).right

  abbrev b : ℕ
  b = get_or (at v q).children s.moved 0

  right_there : q < length v.nodes
  right_there = kept.splits.parted.right.held.there

  pub child_there : b < length v.nodes
  child_there = (arena.nodes.each q right_there).names.children s.moved kept.more

  child : HasChild (at v q) b
  child = record { live = kept.splits.parted.right.live; place = s.moved; in_range = kept.more; is = refl }

  below : IsChild (at v q) s.moved (at v b)
  below = (arena.nodes.pairs q b right_there child_there).child s.moved kept.more refl kept.splits.parted.right.live

  -- is no root and has a range, as each node that has a parent
  pub child_no_root : (at v b).version.root ≡ false
  child_no_root = no_root v.nodes v.trees b arena.forest child_there below.live below.knows

  pub child_range : HasRange (at v b)
  child_range = (arena.ranged.each b child_there).parent below.knows

  pub child_knows : (at v b).parent ≢ None
  child_knows = below.knows

  -- and nobody else is making its tree
  pub child_open : IsOpen v b op
  child_open by making = kept.splits.parted.mine by (ap (λ t. (tree_at v.trees t).standing) (sym (below.tree ∙ kept.splits.parted.tree)) ∙ making)

  not_right : q ≢ b
  not_right same = omega (arith, ap (λ (k : ℕ). (at v k).level) same, below.level)

  abbrev y : NodeView
  y = pointed (at v b) (at v b).previous (Some q)

  abbrev u : ArenaView
  u = with_named_parent v b q

  more : length v.nodes ≤ length u.nodes
  more = omega (arith, length-set v.nodes b y)

  keeps : (k : ℕ) → KeepsButNames (at v k) (at u k)
  keeps = keeps_each v.nodes b y child_there (record { is = refl; parented = λ none. absurd (cc) })

  no_more : (k : ℕ) → k ≢ q → NamesNoMoreOf v.nodes u.nodes k
  no_more k other = names_no_more v.nodes b k y child_there (λ live. live) (λ e. e) (λ e. absurd (other (sym (same_Some _ _ e))))

  lower : (level k : ℕ) → level < length s.halves.items - 1 → (at v k).level ≡ level → k ≢ q
  lower level k lt level_is same = omega (arith, ap (λ (j : ℕ). (at v j).level) same, kept.splits.parted.right.level_is, lt, level_is)

  follows_before : (i k : ℕ) → Follows u.nodes i k → Follows v.nodes i k
  follows_before i k is = elim (follows_in v.nodes i k b y child_there is) [
    | inl own ↦ subst (λ (j : ℕ). Follows v.nodes i j) (sym own.0) (child_there, own.1, below.live)
    | inr old ↦ old.1
  ]

  right_same : at u q ≡ at v q
  right_same = there v.nodes b q y not_right

  -- nothing lags behind the right half still
  lags_right : NothingLags u.nodes q
  lags_right = record {
    followers = λ k is. ap (λ (n : NodeView). n.next) (keeps q).is ∙ kept.right.followers k (follows_before q k is);
    children = λ k is. elim (under_in v.nodes q k b y child_there is) [
      | inl own ↦ keeps_child (at v q) (at u q) k (keeps q) (subst (λ (j : ℕ). HasChild (at v q) j) (sym own.0) child)
      | inr old ↦ keeps_child (at v q) (at u q) k (keeps q) (kept.right.children k old.1)
    ];
  }

  left_followers : (k : ℕ) → Follows u.nodes l k → (at u l).next ≡ Some k
  left_followers k is = ap (λ (n : NodeView). n.next) (keeps l).is ∙ kept.followers k (follows_before l k is)

  -- one less of its children names the left one
  left_children : (k : ℕ) → IsUnder u.nodes l k → IsChildFrom (at v q) (s.moved + 1) k ⊎ HasChild (at u l) k
  left_children k is = elim (under_in v.nodes l k b y child_there is) [
    | inl own ↦ absurd (kept.splits.parted.differ (sym (same_Some _ _ own.1)))
    | inr old ↦ elim (kept.children k old.1) [
      | inr own ↦ inr (keeps_child (at v l) (at u l) k (keeps l) own)
      | inl from ↦
          let later : from.place ≢ s.moved = λ same. absurd (old.0 (sym from.is ∙ ap (λ (i : ℕ). get_or (at v q).children i 0) same)) in
          inl (record { place = from.place; since = omega (arith, later, from.since); in_range = from.in_range; is = from.is })
    ]
  ]

  orphan_still : (at u q).parent ≡ None
  orphan_still = ap (λ (n : NodeView). n.parent) right_same ∙ kept.orphan

  -- where it was the last one
  pub last_kept : s.moved + 1 ≡ length (at v q).children → IsAtLockParent u op (record s { moved = 0 })
  last_kept all = record {
    named = record {
      splits =
          splits_still v u op more (trees_same v.trees) s s.above 0 (λ level k lt level_is. (keeps k, no_more k (lower level k lt level_is))) (keeps l) (keeps q) kept.splits;
      left = record {
        followers = left_followers;
        children = λ k is. elim (left_children k is) [
          | inl from ↦ absurd (omega (arith, from.since, from.in_range, all))
          | inr own ↦ own
        ];
      };
      right = lags_right;
    };
    above = kept.above;
    moved = refl;
    orphan = orphan_still;
  }

  -- where more follow
  pub more_kept : s.moved + 1 ≢ length (at v q).children → IsAtReparent u op (record s { moved = s.moved + 1 })
  more_kept some = record {
    splits =
        splits_still v u op more (trees_same v.trees) s s.above (s.moved + 1) (λ level k lt level_is. (keeps k, no_more k (lower level k lt level_is))) (keeps l) (keeps q) kept.splits;
    above = kept.above;
    more = omega (arith, some, kept.more, ap (λ (n : NodeView). length n.children) right_same);
    orphan = orphan_still;
    followers = left_followers;
    children = λ k is. elim (left_children k is) [
      | inl from ↦ inl (subst (λ (n : NodeView). IsChildFrom n (s.moved + 1) k) (sym right_same) from)
      | inr own ↦ inr own
    ];
    right = lags_right;
  }

  -- who holds a node held it
  pub child_holds : (moved : ℕ) → HoldsSplits v op s → HoldsSplits u op (record s { moved = moved })
  child_holds moved holds k within holder =
      elim (holds k (omega (arith, within, length-set v.nodes b y)) (sym (ap (λ (n : NodeView). n.holder) (keeps k).is) ∙ holder)) [
        | inl half ↦ inl half
        | inr above ↦ inr above
      ]
