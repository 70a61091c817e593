-- What a put keeps of the nodes that it holds stays when places are given out beside it: for the law of it.
use Rattle.std.proofs.Common.{◌≡◌, ◌≢◌, ℕ, ◌<◌, ◌-◌, List, length, Some, None, true, false, sym, ap, subst, ◌∙◌, inl, inr, arith}
use Rattle.std.specs.List.{All}
use Rattle.mt_slices.specs.{Slices.{slice_of, mark_of, suffix_of}, declared.mark.Mark.Mark}
use Rattle.mt_border.specs.{declared.entry.Entry.Entry, declared.entry.FoundKind.TheVariants.{ThisKey, OtherLong}, Held.Stable, Entries.IsMissing, Split.{IsSeparator, slices_with}}
use Rattle.mt_border.specs.Slots.{held_in, next_free, is_dropped}
use Rattle.mt_interior.specs.Fences.{end_of}
use Rattle.mt_rows.specs.Rows.{Bytes}
use Rattle.mt_arena.specs.{NodeView.{NodeView, place_at}, Nodes.{Holds, HasChild}, NodeFacts.IsUnstable, Layers.slot_at, Lags.{AreFollowers, AreChildren}}
use Rattle.mt_arena.specs.{Arena.ArenaView, Accesses.{at, IsHeld}, Several.{IsHalf, MaySplit}, Given.{GivesOut, GivesOutBeside}}
use Rattle.mt_operation.specs.declared.phase.Phase.{Phase}
use Rattle.mt_operation.specs.declared.phase.Phase.TheVariants.{Store, Fill, SplitStart, SplitPrev, LockParent, InsertChild, InteriorSplit, Reparent, RootGrow, Unlock}
use Rattle.mt_operation.specs.{declared.walk.Walk.Walk, declared.task.Task.Task, declared.prepared.Prepared.Prepared, declared.splits.Halves.Halves}
use Rattle.mt_operation.specs.declared.splits.Splits.{Splits}
use Rattle.mt_descent.specs.KeptWalks.{IsInSlot, GoesThrough}
use Rattle.mt_descent.proofs.Given.{through_given}
use Rattle.mt_held.proofs.Given.{held_same, holder_given, follows_given, under_given, followers_given, children_given, held_given, tree_there_given, open_given, judge_given, same_node, return_given}
use Rattle.mt_insert.specs.KeptPuts.{IsAtStore, IsAtFill, IsAtPublish, IsAtSplitStart, IsAtMakeLayer, KeptReady}
use Rattle.mt_insert.specs.KeptSplits.{halves_at, last_of, HoldsSplits, AreReturnable, IsSplitting, AreParted, NothingLags, HasSplits, HasSplitsNamed, IsUnparted, IsAtSplitMove, IsAtSplitPrev, IsAtLockParent, IsAtRootGrow, IsParent, IsAtParent, IsAtInsertChild, IsAtInteriorSplit, IsChildFrom, IsAtReparent, IsAtUnlockAll, KeptSplit}

-- the operation comes to hold no node beside its splits
pub splits_held_given : (o : ℕ) (old new : ArenaView) → GivesOut old new → (s : Splits) → HoldsSplits old o s → HoldsSplits new o s
splits_held_given o old new g s only k within holds = let was = holder_given old new g k o within holds in only k was.there was.holder

-- what is kept of a put that holds its border node
module _ (o : ℕ) (old new : ArenaView) (g : GivesOutBeside o old new) where
  -- at Store
  pub store_given : (task : Task) (prepared : Prepared) (w : Walk) → IsAtStore old o task prepared w → IsAtStore new o task prepared w
  store_given task prepared w h =
      let same = sym (same_node o old new g task.key w h.holds) in
      record {
        holds = judge_given o old new g task.key w h.holds;
        in_slot = subst (λ (n : NodeView). IsInSlot n w.slot task.key w.layer ThisKey) same h.in_slot;
        pair = h.pair;
        stable = subst (λ (n : NodeView). (slot_at n (place_at n w.slot)).held ≡ Stable h.pair) same h.stable;
        ready = h.ready;
      }

  -- at Fill
  pub fill_given : (task : Task) (prepared : Prepared) (w : Walk) → IsAtFill old o task prepared w → IsAtFill new o task prepared w
  fill_given task prepared w h =
      let same = sym (same_node o old new g task.key w h.holds) in
      record {
        holds = judge_given o old new g task.key w h.holds;
        missing = subst (λ (n : NodeView). IsMissing n.slots (slice_of task.key w.layer) (mark_of task.key w.layer)) same h.missing;
        room = subst (λ (n : NodeView). length n.slots < 15) same h.room;
        suffix = h.suffix;
        ready = h.ready;
      }

  -- at Publish
  pub publish_given : (task : Task) (prepared : Prepared) (w : Walk) → IsAtPublish old o task prepared w → IsAtPublish new o task prepared w
  publish_given task prepared w h =
      let same = sym (same_node o old new g task.key w h.holds) in
      record {
        holds = judge_given o old new g task.key w h.holds;
        missing = subst (λ (n : NodeView). IsMissing n.slots (slice_of task.key w.layer) (mark_of task.key w.layer)) same h.missing;
        room = subst (λ (n : NodeView). length n.slots < 15) same h.room;
        filled = subst
            (λ (n : NodeView). held_in n.cells.helds (next_free n.cells) ≡ Stable (record { suffix = suffix_of task.key w.layer; row = prepared.row; stamp = 0 })) same h.filled;
        marked = subst (λ (n : NodeView). is_dropped n.cells (next_free n.cells) ≡ true → n.version.inserting ≡ true) same h.marked;
        left = h.left;
      }

  -- at SplitStart
  pub split_start_given : (task : Task) (prepared : Prepared) (w : Walk) → IsAtSplitStart old o task prepared w → IsAtSplitStart new o task prepared w
  split_start_given task prepared w h =
      let same = sym (same_node o old new g task.key w h.holds) in
      record {
        holds = judge_given o old new g task.key w h.holds;
        missing = subst (λ (n : NodeView). IsMissing n.slots (slice_of task.key w.layer) (mark_of task.key w.layer)) same h.missing;
        full = subst (λ (n : NodeView). length n.slots ≡ 15) same h.full;
        suffix = h.suffix;
        ready = h.ready;
      }

  -- at MakeLayer
  pub make_layer_given : (key : Bytes) (w : Walk) → IsAtMakeLayer old o key w → IsAtMakeLayer new o key w
  make_layer_given key w h =
      let same = sym (same_node o old new g key w h.holds) in
      record {
        holds = judge_given o old new g key w h.holds;
        in_slot = subst (λ (n : NodeView). IsInSlot n w.slot key w.layer OtherLong) same h.in_slot;
        pair = h.pair;
        stable = subst (λ (n : NodeView). (slot_at n (place_at n w.slot)).held ≡ Stable h.pair) same h.stable;
      }

  -- once all is made ready
  pub ready_given : (task : Task) (prepared : Prepared) (w : Walk) (phase : Phase) → KeptReady phase old o task prepared w → KeptReady phase new o task prepared w
  ready_given task prepared w Store h = store_given task prepared w h
  ready_given task prepared w Fill h = fill_given task prepared w h
  ready_given task prepared w SplitStart h = split_start_given task prepared w h
  ready_given task prepared w _ h = absurd h

-- what is kept of an operation that splits nodes
module _ (o : ℕ) (old new : ArenaView) (g : GivesOutBeside o old new) where
  same : (k : ℕ) → IsHeld old k o → at new k ≡ at old k
  same k h = held_same old new g.gives k o h

  -- a fact of a node that it holds
  on : (Fact : NodeView → Type 0) (k : ℕ) → IsHeld old k o → Fact (at old k) → Fact (at new k)
  on Fact k h fact = subst Fact (sym (same k h)) fact

  followers_held : (k : ℕ) → IsHeld old k o → AreFollowers old.nodes k (at old k).next → AreFollowers new.nodes k (at new k).next
  followers_held k h followers = on (λ n. AreFollowers new.nodes k n.next) k h (followers_given old new g.gives k (at old k).next followers)

  children_held : (k : ℕ) → IsHeld old k o → AreChildren old.nodes k (at old k) → AreChildren new.nodes k (at new k)
  children_held k h children = on (λ n. AreChildren new.nodes k n) k h (children_given old new g.gives k (at old k) children)

  nothing_lags_given : (k : ℕ) → IsHeld old k o → NothingLags old.nodes k → NothingLags new.nodes k
  nothing_lags_given k h lags = record { followers = followers_held k h lags.followers; children = children_held k h lags.children }

  returnable_given : (halves : List Halves) (count : ℕ) → AreReturnable old o halves count → AreReturnable new o halves count
  returnable_given halves count h i lt =
      let both = h i lt in
      record {
        differ = both.differ;
        left = return_given o old new g i (halves_at halves i).left both.left;
        right = return_given o old new g i (halves_at halves i).right both.right;
      }

  -- the halves of the last split
  splitting_given : (level k : ℕ) → IsSplitting old o level k → IsSplitting new o level k
  splitting_given level k h = record {
    held = held_given o old new g k h.held;
    level_is = on (λ n. n.level ≡ level) k h.held h.level_is;
    live = on (λ n. n.version.deleted ≡ false) k h.held h.live;
    marked = on (λ n. n.version.splitting ≡ true) k h.held h.marked;
    stable = on (λ n. All (λ (e : Entry). ¬ IsUnstable e.held) n.slots) k h.held h.stable;
  }

  parted_given : (level l q : ℕ) → AreParted old o level l q → AreParted new o level l q
  parted_given level l q h =
      let held_l = h.left.held in
      let held_q = h.right.held in
      let u = same l held_l in
      let w = same q held_q in
      record {
        left = splitting_given level l h.left;
        right = splitting_given level q h.right;
        differ = h.differ;
        tree_there = tree_there_given o old new g l held_l h.tree_there;
        mine = open_given o old new g l held_l h.mine;
        tree = ap (λ (n : NodeView). n.tree) w ∙ h.tree ∙ ap (λ (n : NodeView). n.tree) (sym u);
        no_root = on (λ n. n.version.root ≡ false) q held_q h.no_root;
        fence = ap (λ (n : NodeView). n.high) u ∙ h.fence ∙ ap (λ (n : NodeView). Some n.low) (sym w);
        reach = ap (λ (n : NodeView). n.reach) w ∙ h.reach ∙ ap (λ (n : NodeView). n.reach) (sym u);
        exact = on (λ n. n.reach ≡ n.high) q held_q h.exact;
        above = omega (arith, h.above, ap (λ (n : NodeView). n.low) u, ap (λ (n : NodeView). n.low) w);
        below = omega (arith, h.below, ap (λ (n : NodeView). n.low) w, ap (λ (n : NodeView). end_of n.reach) u);
        rooted = on (λ n. n.parent ≡ None → n.version.root ≡ true) l held_l h.rooted;
      }

  splits_given : (s : Splits) → HasSplits old o s → HasSplits new o s
  splits_given s h = record {
    some = h.some;
    lower = returnable_given s.halves.items (length s.halves.items - 1) h.lower;
    parted = parted_given (length s.halves.items - 1) (last_of s).left (last_of s).right h.parted;
  }

  named_given : (s : Splits) → HasSplitsNamed old o s → HasSplitsNamed new o s
  named_given s h = record {
    splits = splits_given s h.splits;
    left = nothing_lags_given (last_of s).left h.splits.parted.left.held h.left;
    right = nothing_lags_given (last_of s).right h.splits.parted.right.held h.right;
  }

  -- at SplitMove
  half_given : (l q : ℕ) → IsHalf old l q o → IsHalf new l q o
  half_given l q h =
      let u = same l h.held in
      let w = same q h.right_held in
      record {
        held = held_given o old new g l h.held;
        right_held = held_given o old new g q h.right_held;
        differ = h.differ;
        mine = open_given o old new g l h.held h.mine;
        live = on (λ n. n.version.deleted ≡ false) l h.held h.live;
        marked = on (λ n. n.version.splitting ≡ true) l h.held h.marked;
        right_live = on (λ n. n.version.deleted ≡ false) q h.right_held h.right_live;
        right_marked = on (λ n. n.version.splitting ≡ true) q h.right_held h.right_marked;
        right_tree = ap (λ (n : NodeView). n.tree) w ∙ h.right_tree ∙ ap (λ (n : NodeView). n.tree) (sym u);
        right_level = ap (λ (n : NodeView). n.level) w ∙ h.right_level ∙ ap (λ (n : NodeView). n.level) (sym u);
        right_reach = on (λ n. n.reach ≡ Some n.low) q h.right_held h.right_reach;
        no_root = on (λ n. n.version.root ≡ false) q h.right_held h.no_root;
        empty = ap (λ (n : NodeView). n.slots) w ∙ h.empty;
        childless = ap (λ (n : NodeView). n.children) w ∙ h.childless;
      }

  may_split_given : (l q slice : ℕ) (mark : Mark) → MaySplit old l q o slice mark → MaySplit new l q o slice mark
  may_split_given l q slice mark h =
      let held = h.half.held in
      record {
        half = half_given l q h.half;
        border = on (λ n. n.level ≡ 0) l held h.border;
        full = on (λ n. length n.slots ≡ 15) l held h.full;
        is_mark = h.is_mark;
        missing = on (λ n. IsMissing n.slots slice mark) l held h.missing;
        separator = on (λ n. IsSeparator (slices_with n.slots slice mark) (at new q).low) l held
            (on (λ n. IsSeparator (slices_with (at old l).slots slice mark) n.low) q h.half.right_held h.separator);
      }

  unparted_given : (l q : ℕ) → IsHeld old l o → IsHeld old q o → IsUnparted old l q → IsUnparted new l q
  unparted_given l q held_l held_q h = record {
    followers = λ k is. elim (h.followers k (follows_given old new g.gives l k is)) [
      | inl own ↦ inl own
      | inr next ↦ inr (on (λ n. n.next ≡ Some k) l held_l next)
    ];
    children = children_held l held_l h.children;
    right = nothing_lags_given q held_q h.right;
    reach = on (λ n. n.reach ≡ n.high) l held_l h.reach;
    stable = on (λ n. All (λ (e : Entry). ¬ IsUnstable e.held) n.slots) l held_l h.stable;
    rooted = on (λ n. n.parent ≡ None → n.version.root ≡ true) l held_l h.rooted;
  }

  pub move_given : (task : Task) (prepared : Prepared) (w : Walk) (s : Splits) → IsAtSplitMove old o task prepared w s → IsAtSplitMove new o task prepared w s
  move_given task prepared w s h =
      let l = (last_of s).left in
      let q = (last_of s).right in
      let k = w.place.node in
      let half = h.may.half in
      let held_here : IsHeld old k o = subst (λ (i : ℕ). IsHeld old i o) h.border half.held in
      record {
        one = h.one;
        border = h.border;
        above = h.above;
        moved = h.moved;
        through = on (λ n. GoesThrough new n.tree w.layer task.key) k held_here
            (through_given old new g.gives.count g.gives.tree_count (at old k).tree w.layer task.key (g.trees k held_here.there held_here.holder) h.through);
        belongs = on (λ n. Holds n (slice_of task.key w.layer)) k held_here h.belongs;
        may = may_split_given l q (slice_of task.key w.layer) (mark_of task.key w.layer) h.may;
        unparted = unparted_given l q half.held half.right_held h.unparted;
        orphan = on (λ n. n.parent ≡ None) q half.right_held h.orphan;
        suffix = h.suffix;
        ready = h.ready;
      }

  -- at SplitPrev
  previous_given : (s : Splits) → IsAtSplitPrev old o s → IsAtSplitPrev new o s
  previous_given s h =
      let l = (last_of s).left in
      let q = (last_of s).right in
      let held_l = h.splits.parted.left.held in
      let held_q = h.splits.parted.right.held in
      record {
        splits = splits_given s h.splits;
        one = h.one;
        above = h.above;
        moved = h.moved;
        orphan = on (λ n. n.parent ≡ None) q held_q h.orphan;
        next = on (λ n. n.next ≡ Some q) l held_l h.next;
        some_next = on (λ n. n.next ≢ None) q held_q h.some_next;
        followers = λ k is. elim (h.followers k (follows_given old new g.gives l k is)) [
          | inl own ↦ inl own
          | inr next ↦ inr (on (λ n. n.next ≡ Some k) q held_q next)
        ];
        children = children_held l held_l h.children;
        right = nothing_lags_given q held_q h.right;
      }

  -- at LockParent, and at RootGrow
  lock_parent_given : (s : Splits) → IsAtLockParent old o s → IsAtLockParent new o s
  lock_parent_given s h = record {
    named = named_given s h.named;
    above = h.above;
    moved = h.moved;
    orphan = on (λ n. n.parent ≡ None) (last_of s).right h.named.splits.parted.right.held h.orphan;
  }

  root_grow_given : (s : Splits) → IsAtRootGrow old o s → IsAtRootGrow new o s
  root_grow_given s h = record {
    at_root = lock_parent_given s h.at_root;
    parentless = on (λ n. n.parent ≡ None) (last_of s).left h.at_root.named.splits.parted.left.held h.parentless;
  }

  -- with the parent held
  parent_given : (level l q p : ℕ) → IsHeld old q o → IsParent old o level l q p → IsParent new o level l q p
  parent_given level l q p held_q h = record {
    held = held_given o old new g p h.held;
    live = on (λ n. n.version.deleted ≡ false) p h.held h.live;
    level_is = on (λ n. n.level ≡ level) p h.held h.level_is;
    child = on (λ n. HasChild n l) p h.held h.child;
    knows = on (λ n. n.parent ≢ None) q held_q h.knows;
    followers = followers_held p h.held h.followers;
    children = λ k is. elim (h.children k (under_given old new g.gives p k is)) [
      | inl own ↦ inl own
      | inr child ↦ inr (on (λ n. HasChild n k) p h.held child)
    ];
    reach = on (λ n. n.reach ≡ n.high) p h.held h.reach;
    rooted = on (λ n. n.parent ≡ None → n.version.root ≡ true) p h.held h.rooted;
  }

  at_parent_given : (s : Splits) (p : ℕ) → IsAtParent old o s p → IsAtParent new o s p
  at_parent_given s p h = record {
    named = named_given s h.named;
    above = h.above;
    moved = h.moved;
    parent = parent_given (length s.halves.items) (last_of s).left (last_of s).right p h.named.splits.parted.right.held h.parent;
  }

  -- at InsertChild, and at InteriorSplit
  insert_child_given : (s : Splits) → IsAtInsertChild old o s → IsAtInsertChild new o s
  insert_child_given s h = record {
    p = h.p;
    at_parent = at_parent_given s h.p h.at_parent;
    room = on (λ n. length n.separators < 15) h.p h.at_parent.parent.held h.room;
  }

  interior_split_given : (s : Splits) → IsAtInteriorSplit old o s → IsAtInteriorSplit new o s
  interior_split_given s h = record {
    p = h.p;
    at_parent = at_parent_given s h.p h.at_parent;
    full = on (λ n. length n.separators ≡ 15) h.p h.at_parent.parent.held h.full;
  }

  -- at Reparent
  reparent_given : (s : Splits) → IsAtReparent old o s → IsAtReparent new o s
  reparent_given s h =
      let l = (last_of s).left in
      let q = (last_of s).right in
      let held_l = h.splits.parted.left.held in
      let held_q = h.splits.parted.right.held in
      record {
        splits = splits_given s h.splits;
        above = h.above;
        more = on (λ n. s.moved < length n.children) q held_q h.more;
        orphan = on (λ n. n.parent ≡ None) q held_q h.orphan;
        followers = followers_held l held_l h.followers;
        children = λ k is. elim (h.children k (under_given old new g.gives l k is)) [
          | inl moved ↦ inl (on (λ n. IsChildFrom n s.moved k) q held_q moved)
          | inr child ↦ inr (on (λ n. HasChild n k) l held_l child)
        ];
        right = nothing_lags_given q held_q h.right;
      }

  -- at Unlock
  unlock_all_given : (s : Splits) → IsAtUnlockAll old o s → IsAtUnlockAll new o s
  unlock_all_given s h = record {
    halves = returnable_given s.halves.items (length s.halves.items) h.halves;
    above = λ k is. return_given o old new g (length s.halves.items) k (h.above k is);
  }

  -- by the phase
  pub split_given : (phase : Phase) (s : Splits) → KeptSplit phase old o s → KeptSplit phase new o s
  split_given SplitPrev s h = previous_given s h
  split_given LockParent s h = lock_parent_given s h
  split_given InsertChild s h = insert_child_given s h
  split_given InteriorSplit s h = interior_split_given s h
  split_given Reparent s h = reparent_given s h
  split_given RootGrow s h = root_grow_given s h
  split_given Unlock s h = unlock_all_given s h
  split_given _ s h = absurd h
