-- What is kept of a split as a node names another one before it or another parent, and what is kept once the node behind names the right
-- half: for `split_prev`, `lock_parent` and `reparent`.
use Rattle.std.proofs.Common.{◌≡◌, ◌≢◌, ℕ, ◌-◌, ◌<◌, ◌≤◌, List, length, Option, Some, None, set, refl, sym, ap, subst, ◌∙◌, inl, inr, arith}
use Rattle.std.proofs.{lemmas.Bool.cases_eq, lemmas.Option.same_Some, lemmas.List.length-set}
use Rattle.std.specs.List.{All}
use Rattle.mt_interior.specs.Fences.{end_of}
use Rattle.mt_border.specs.declared.entry.Entry.{Entry}
use Rattle.mt_arena.specs.{NodeView.{NodeView, node_at}, Nodes.{HasChild, IsNeighbour, seat_of}, NodeFacts.IsUnstable, Ranges.Waits, Lags.IsUnder}
use Rattle.mt_arena.specs.{Forests.tree_at, Edits.pointed, Arena.{ArenaView, IsArena}, Accesses.{at, IsOpen}}
use Rattle.mt_arena.proofs.{Pairs.{here, there}, Lags.{follows_in, under_in}}
use Rattle.mt_operation.specs.declared.splits.Splits.{Splits}
use Rattle.mt_insert.specs.KeptSplits.{last_of, HoldsSplits, IsSplitting, AreParted, NothingLags, HasSplits, IsAtSplitPrev, IsAtLockParent}
use Rattle.mt_insert.proofs.Returns.{all_returnable_still}
use Rattle.mt_held.specs.{Holds.MayReturn, Moves.with_named_previous}
use Rattle.mt_held.proofs.Returns.{child_stays, StaysButNames, NamesNoMoreOf, TreesStand, trees_same, held_still, open_still}

-- a node that stays as it is but for the names of the one before it and of its parent, and has a parent still where it had one
pub record KeepsButNames (x y : NodeView) : Type 0 where
  pub is : y ≡ pointed x y.previous y.parent
  pub parented : y.parent ≡ None → x.parent ≡ None

-- so does a node that stays whole
pub keeps_whole : (x y : NodeView) → y ≡ x → KeepsButNames x y
keeps_whole x y same = subst (λ (z : NodeView). KeepsButNames x z) (sym same) (record { is = refl; parented = λ none. none })

-- what stays of it, field by field
pub stays_so : (x y : NodeView) → KeepsButNames x y → StaysButNames x y
stays_so x y k = record {
  holder = ap (λ (n : NodeView). n.holder) k.is;
  level = ap (λ (n : NodeView). n.level) k.is;
  tree = ap (λ (n : NodeView). n.tree) k.is;
  next = ap (λ (n : NodeView). n.next) k.is;
  children = ap (λ (n : NodeView). n.children) k.is;
  deleted = ap (λ (n : NodeView). n.version.deleted) k.is;
  root = ap (λ (n : NodeView). n.version.root) k.is;
  high = ap (λ (n : NodeView). n.high) k.is;
  reach = ap (λ (n : NodeView). n.reach) k.is;
  slots = ap (λ (n : NodeView). n.slots) k.is;
  parented = k.parented;
}

-- its children stay
pub keeps_child : (x y : NodeView) (k : ℕ) → KeepsButNames x y → HasChild x k → HasChild y k
keeps_child x y k keeps c = let stays = stays_so x y keeps in child_stays x y k stays.children stays.deleted c

-- each node keeps all but its names where one does
pub keeps_each : (xs : List NodeView) (b : ℕ) (y : NodeView) → b < length xs → KeepsButNames (node_at xs b) y → (k : ℕ)
    → KeepsButNames (node_at xs k) (node_at (set xs b y) k)
keeps_each xs b y within keeps k = elim (cases_eq k b) [
  | inl same ↦ rw (same, here xs b y within) keeps
  | inr other ↦ keeps_whole (node_at xs k) (node_at (set xs b y) k) (there xs b k y other)
]

-- what is kept of the halves where each node that they name keeps all but its names
module _ (v u : ArenaView) (op : ℕ) (more : length v.nodes ≤ length u.nodes) (trees : TreesStand v.trees u.trees) where
  splitting_still : (level k : ℕ) → KeepsButNames (at v k) (at u k) → IsSplitting v op level k → IsSplitting u op level k
  splitting_still level k keeps h = record {
    held = held_still v u op more trees k (ap (λ (n : NodeView). n.holder) keeps.is) h.held;
    level_is = ap (λ (n : NodeView). n.level) keeps.is ∙ h.level_is;
    live = ap (λ (n : NodeView). n.version.deleted) keeps.is ∙ h.live;
    marked = ap (λ (n : NodeView). n.version.splitting) keeps.is ∙ h.marked;
    stable = subst (λ (s : List Entry). All (λ e. ¬ IsUnstable e.held) s) (sym (ap (λ (n : NodeView). n.slots) keeps.is)) h.stable;
  }

  -- the last two
  parted_still : (level l q : ℕ) → KeepsButNames (at v l) (at u l) → KeepsButNames (at v q) (at u q) → AreParted v op level l q → AreParted u op level l q
  parted_still level l q kl kq h =
      let low_l = ap (λ (n : NodeView). n.low) kl.is in
      let low_q = ap (λ (n : NodeView). n.low) kq.is in
      let reach_l = ap (λ (n : NodeView). n.reach) kl.is in
      let reach_q = ap (λ (n : NodeView). n.reach) kq.is in
      let tree_l = ap (λ (n : NodeView). n.tree) kl.is in
      record {
        left = splitting_still level l kl h.left;
        right = splitting_still level q kq h.right;
        differ = h.differ;
        tree_there = subst (λ t. t < length u.trees) (sym tree_l) (omega (arith, h.tree_there, trees.count));
        mine = open_still v u op more trees l tree_l h.tree_there h.mine;
        tree = ap (λ (n : NodeView). n.tree) kq.is ∙ h.tree ∙ sym tree_l;
        no_root = ap (λ (n : NodeView). n.version.root) kq.is ∙ h.no_root;
        fence = ap (λ (n : NodeView). n.high) kl.is ∙ h.fence ∙ ap (λ (low : ℕ). Some low) (sym low_q);
        reach = reach_q ∙ h.reach ∙ sym reach_l;
        exact = reach_q ∙ h.exact ∙ sym (ap (λ (n : NodeView). n.high) kq.is);
        above = omega (arith, h.above, low_l, low_q);
        below = omega (arith, h.below, low_q, ap end_of reach_l);
        rooted = λ none. ap (λ (n : NodeView). n.version.root) kl.is ∙ h.rooted (kl.parented none);
      }

  -- all of them, whatever else is noted of the splits
  pub splits_still : (s : Splits) (above : Option ℕ) (moved : ℕ)
      → ((level k : ℕ) → level < length s.halves.items - 1 → (at v k).level ≡ level → KeepsButNames (at v k) (at u k) × NamesNoMoreOf v.nodes u.nodes k)
      → KeepsButNames (at v (last_of s).left) (at u (last_of s).left) → KeepsButNames (at v (last_of s).right) (at u (last_of s).right)
      → HasSplits v op s → HasSplits u op (record s { above = above; moved = moved })
  splits_still s above moved lower kl kq h = record {
    some = h.some;
    lower =
        all_returnable_still v u op more trees s.halves.items (length s.halves.items - 1) (λ level k lt (m : MayReturn v op level k). let each = lower level k lt m.level_is in (stays_so (at v k) (at u k) each.0, each.1)) h.lower;
    parted = parted_still (length s.halves.items - 1) (last_of s).left (last_of s).right kl kq h.parted;
  }

-- the node behind the right half
module _ (v : ArenaView) (op behind : ℕ) (s : Splits) (arena : IsArena v.nodes v.trees) (kept : IsAtSplitPrev v op s) (next : (at v (last_of s).right).next ≡ Some behind) where
  abbrev l : ℕ
  l = (last_of s).left

  abbrev q : ℕ
  q = (last_of s).right

  right_there : q < length v.nodes
  right_there = kept.splits.parted.right.held.there

  behind_there : behind < length v.nodes
  behind_there = (arena.nodes.each q right_there).names.next behind next

  neighbour : IsNeighbour (at v q).high (seat_of (at v q)) (seat_of (at v behind))
  neighbour = (arena.nodes.pairs q behind right_there behind_there).next kept.splits.parted.right.live next

  -- it is a border node with a range, in a tree that nobody else is making
  pub behind_border : (at v behind).level ≡ 0
  behind_border = omega (arith, neighbour.level, kept.splits.parted.right.level_is, kept.one)

  pub behind_tied : Waits (at v behind) → (at v behind).previous ≡ Some q
  behind_tied waits = let range = (arena.ranged.ties q behind right_there behind_there).next kept.splits.parted.right.live next in absurd (omega (arith, range, waits.1))

  pub behind_open : IsOpen v behind op
  behind_open by making = kept.splits.parted.mine by (ap (λ t. (tree_at v.trees t).standing) (sym (neighbour.tree ∙ kept.splits.parted.tree)) ∙ making)

  abbrev y : NodeView
  y = pointed (at v behind) (Some q) (at v behind).parent

  abbrev u : ArenaView
  u = with_named_previous v behind q

  keeps : (k : ℕ) → KeepsButNames (at v k) (at u k)
  keeps = keeps_each v.nodes behind y behind_there (record { is = refl; parented = λ none. none })

  more : length v.nodes ≤ length u.nodes
  more = omega (arith, length-set v.nodes behind y)

  under_before : (i k : ℕ) → IsUnder u.nodes i k → IsUnder v.nodes i k
  under_before i k is = elim (under_in v.nodes i k behind y behind_there is) [
    | inl own ↦ subst (λ c. IsUnder v.nodes i c) (sym own.0) (behind_there, own.1, own.2)
    | inr old ↦ old.1
  ]

  differ : l ≢ q
  differ = kept.splits.parted.differ

  -- once it names the right half, the right half alone names the left one
  lags_left : NothingLags u.nodes l
  lags_left = record {
    followers = λ k is. elim (follows_in v.nodes l k behind y behind_there is) [
      | inl own ↦ absurd (differ (sym (same_Some _ _ own.1)))
      | inr old ↦ elim (kept.followers k old.1) [
        | inl right ↦ ap (λ (n : NodeView). n.next) (keeps l).is ∙ kept.next ∙ ap (λ (c : ℕ). Some c) (sym right)
        | inr back ↦ absurd (old.0 (same_Some _ _ (sym back ∙ next)))
      ]
    ];
    children = λ k is. keeps_child (at v l) (at u l) k (keeps l) (kept.children k (under_before l k is));
  }

  -- and it alone names the right half
  lags_right : NothingLags u.nodes q
  lags_right = record {
    followers = λ k is. elim (follows_in v.nodes q k behind y behind_there is) [
      | inl own ↦ ap (λ (n : NodeView). n.next) (keeps q).is ∙ next ∙ ap (λ (c : ℕ). Some c) (sym own.0)
      | inr old ↦ ap (λ (n : NodeView). n.next) (keeps q).is ∙ kept.right.followers k old.1
    ];
    children = λ k is. keeps_child (at v q) (at u q) k (keeps q) (kept.right.children k (under_before q k is));
  }

  -- which has no parent yet
  orphan_still : (at u q).parent ≡ None
  orphan_still = elim (cases_eq q behind) [
    | inl same ↦ ap (λ (k : ℕ). (at u k).parent) same ∙ ap (λ (n : NodeView). n.parent) (here v.nodes behind y behind_there) ∙ ap (λ (k : ℕ). (at v k).parent) (sym same) ∙ kept.orphan
    | inr other ↦ ap (λ (n : NodeView). n.parent) (there v.nodes behind q y other) ∙ kept.orphan
  ]

  -- so the parent's lock comes next
  pub behind_kept : IsAtLockParent u op s
  behind_kept = record {
    named = record {
      splits =
          splits_still v u op more (trees_same v.trees) s s.above s.moved (λ level k lt level_is. absurd (omega (arith, lt, kept.one))) (keeps l) (keeps q) kept.splits;
      left = lags_left;
      right = lags_right;
    };
    above = kept.above;
    moved = kept.moved;
    orphan = orphan_still;
  }

  -- who holds a node held it
  pub behind_holds : HoldsSplits v op s → HoldsSplits u op s
  behind_holds holds k within holder =
      holds k (omega (arith, within, length-set v.nodes behind y)) (sym (ap (λ (n : NodeView). n.holder) (keeps k).is) ∙ holder)
