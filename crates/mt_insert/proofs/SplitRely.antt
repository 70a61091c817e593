-- What is kept of an operation that splits nodes stays under each step of another one, by what that step leaves to others alone: for the laws.
use Rattle.std.proofs.Common.{◌≡◌, ◌≢◌, ℕ, ◌<◌, ◌-◌, List, length, get_or, Some, None, true, false, sym, ap, subst, ◌∙◌, inl, inr, arith}
use Rattle.std.proofs.{lemmas.Bool.cases_lt, lemmas.Option.same_Some}
use Rattle.std.specs.List.{All}
use Rattle.mt_version.specs.Parts.{Parts}
use Rattle.mt_slices.specs.{Slices.{slice_of, mark_of}, declared.mark.Mark.Mark}
use Rattle.mt_border.specs.{declared.entry.Entry.Entry, Entries.IsMissing, Split.{IsSeparator, slices_with}}
use Rattle.mt_interior.specs.Fences.{end_of}
use Rattle.mt_arena.specs.{NodeView.NodeView, Nodes.{Holds, HasChild}, NodeFacts.IsUnstable, Lags.{Follows, IsUnder, AreFollowers, AreChildren}}
use Rattle.mt_arena.specs.{Arena.{ArenaView, Guarantee}, Accesses.{at, IsHeld}, Several.{IsHalf, MaySplit}, Guarantee.IsUntouched}
use Rattle.mt_arena.proofs.Settled.{alive, was_none}
use Rattle.mt_operation.specs.declared.phase.Phase.{Phase}
use Rattle.mt_operation.specs.declared.phase.Phase.TheVariants.{SplitPrev, LockParent, InsertChild, InteriorSplit, Reparent, RootGrow, Unlock}
use Rattle.mt_operation.specs.{declared.walk.Walk.Walk, declared.task.Task.Task, declared.prepared.Prepared.Prepared, declared.splits.Halves.Halves}
use Rattle.mt_operation.specs.declared.splits.Splits.{Splits}
use Rattle.mt_descent.specs.KeptWalks.{GoesThrough}
use Rattle.mt_insert.specs.KeptSplits.{halves_at, last_of, HoldsSplits, AreReturnable, IsSplitting, AreParted, NothingLags, HasSplits, HasSplitsNamed, IsUnparted, IsAtSplitMove, IsAtSplitPrev, IsAtLockParent, IsAtRootGrow, IsParent, IsAtParent, IsAtInsertChild, IsAtInteriorSplit, IsChildFrom, IsAtReparent, IsAtUnlockAll, KeptSplit}
use Rattle.mt_held.specs.Holds.{MayReturn}
use Rattle.mt_held.proofs.Rely.{tree_there_stays, open_here, through_stays, untouched as held_untouched, held_stays as still_held, return_stays as still_returnable}

-- a child of a node that is untouched stays one
child_stays : (n m : NodeView) (k : ℕ) → IsUntouched n m → HasChild n k → HasChild m k
child_stays n m k u c = record {
  live = ap (λ (v : Parts). v.deleted) u.version ∙ c.live;
  place = c.place;
  in_range = subst (λ (cs : List ℕ). c.place < length cs) (sym u.children) c.in_range;
  is = ap (λ cs. get_or cs c.place 0) u.children ∙ c.is;
}

child_from_stays : (n m : NodeView) (from k : ℕ) → IsUntouched n m → IsChildFrom n from k → IsChildFrom m from k
child_from_stays n m from k u c = record {
  place = c.place;
  since = c.since;
  in_range = subst (λ (cs : List ℕ). c.place < length cs) (sym u.children) c.in_range;
  is = ap (λ cs. get_or cs c.place 0) u.children ∙ c.is;
}

-- so do its stable slots
stable_stays : (n m : NodeView) → IsUntouched n m → All (λ (e : Entry). ¬ IsUnstable e.held) n.slots → All (λ (e : Entry). ¬ IsUnstable e.held) m.slots
stable_stays n m u stable = subst (λ (slots : List Entry). All (λ (e : Entry). ¬ IsUnstable e.held) slots) (sym u.slots) stable

-- and without a parent it is a root
rooted_stays : (n m : NodeView) → IsUntouched n m → (n.parent ≡ None → n.version.root ≡ true) → m.parent ≡ None → m.version.root ≡ true
rooted_stays n m u rooted none = ap (λ (v : Parts). v.root) u.version ∙ rooted (was_none n.parent m.parent u.parented none)

module _ (op o : ℕ) (old new : ArenaView) (g : Guarantee op old new) (other : o ≢ op) where
  -- as what it holds stays
  untouched : (k : ℕ) → IsHeld old k o → IsUntouched (at old k) (at new k)
  untouched = held_untouched op o old new g other

  held_stays : (k : ℕ) → IsHeld old k o → IsHeld new k o
  held_stays = still_held op o old new g other

  return_stays : (level k : ℕ) → MayReturn old o level k → MayReturn new o level k
  return_stays = still_returnable op o old new g other

  not_mine : (k : ℕ) → IsHeld old k o → (at new k).holder ≢ Some op
  not_mine k h e = other (same_Some _ _ (sym ((untouched k h).holder ∙ h.holder) ∙ e))

  live_was : (k : ℕ) → k < length old.nodes → (at new k).version.deleted ≡ false → (at old k).version.deleted ≡ false
  live_was k lt live = alive (at old k).version.deleted (at new k).version.deleted (g.nodes.nodes k lt).ages.deleted live

  -- no other operation lets a node name a held one
  follows_was : (i k : ℕ) → IsHeld old i o → Follows new.nodes i k → Follows old.nodes i k
  follows_was i k h is = elim (cases_lt k (length old.nodes)) [
    | inl was ↦ (was, g.points.previous k i was h.there is.1 (not_mine i h), live_was k was is.2)
    | inr new_one ↦ absurd (not_mine i h (g.points.new_previous k i new_one is.0 h.there is.1))
  ]

  under_was : (i k : ℕ) → IsHeld old i o → IsUnder new.nodes i k → IsUnder old.nodes i k
  under_was i k h is = elim (cases_lt k (length old.nodes)) [
    | inl was ↦ (was, g.points.parent k i was h.there is.1 (not_mine i h), live_was k was is.2)
    | inr new_one ↦ absurd (not_mine i h (g.points.new_parent k i new_one is.0 h.there is.1))
  ]

  followers_stay : (i : ℕ) → IsHeld old i o → AreFollowers old.nodes i (at old i).next → AreFollowers new.nodes i (at new i).next
  followers_stay i h followers k is = (untouched i h).next ∙ followers k (follows_was i k h is)

  children_stay : (i : ℕ) → IsHeld old i o → AreChildren old.nodes i (at old i) → AreChildren new.nodes i (at new i)
  children_stay i h children k is = child_stays (at old i) (at new i) k (untouched i h) (children k (under_was i k h is))

  nothing_lags_stays : (i : ℕ) → IsHeld old i o → NothingLags old.nodes i → NothingLags new.nodes i
  nothing_lags_stays i h lags = record { followers = followers_stay i h lags.followers; children = children_stay i h lags.children }

  returnable_stay : (halves : List Halves) (count : ℕ) → AreReturnable old o halves count → AreReturnable new o halves count
  returnable_stay halves count h i lt =
      let both = h i lt in
      record {
        differ = both.differ;
        left = return_stays i (halves_at halves i).left both.left;
        right = return_stays i (halves_at halves i).right both.right;
      }

  -- the halves of the last split
  splitting_stays : (level k : ℕ) → IsSplitting old o level k → IsSplitting new o level k
  splitting_stays level k h =
      let u = untouched k h.held in
      record {
        held = held_stays k h.held;
        level_is = (g.nodes.nodes k h.held.there).level ∙ h.level_is;
        live = ap (λ (v : Parts). v.deleted) u.version ∙ h.live;
        marked = ap (λ (v : Parts). v.splitting) u.version ∙ h.marked;
        stable = stable_stays (at old k) (at new k) u h.stable;
      }

  parted_stay : (level l q : ℕ) → AreParted old o level l q → AreParted new o level l q
  parted_stay level l q h =
      let u = untouched l h.left.held in
      let w = untouched q h.right.held in
      let c = g.nodes.nodes l h.left.held.there in
      let d = g.nodes.nodes q h.right.held.there in
      record {
        left = splitting_stays level l h.left;
        right = splitting_stays level q h.right;
        differ = h.differ;
        tree_there = tree_there_stays op o old new g other l h.left.held.there h.tree_there;
        mine = open_here op o old new g other l h.left.held.there h.tree_there h.mine;
        tree = d.tree ∙ h.tree ∙ sym c.tree;
        no_root = ap (λ (v : Parts). v.root) w.version ∙ h.no_root;
        fence = u.high ∙ h.fence ∙ ap (λ (i : ℕ). Some i) (sym d.low);
        reach = w.reach ∙ h.reach ∙ sym u.reach;
        exact = w.reach ∙ h.exact ∙ sym w.high;
        above = omega (arith, h.above, c.low, d.low);
        below = omega (arith, h.below, d.low, ap end_of u.reach);
        rooted = rooted_stays (at old l) (at new l) u h.rooted;
      }

  splits_stay : (s : Splits) → HasSplits old o s → HasSplits new o s
  splits_stay s h = record {
    some = h.some;
    lower = returnable_stay s.halves.items (length s.halves.items - 1) h.lower;
    parted = parted_stay (length s.halves.items - 1) (last_of s).left (last_of s).right h.parted;
  }

  named_stay : (s : Splits) → HasSplitsNamed old o s → HasSplitsNamed new o s
  named_stay s h = record {
    splits = splits_stay s h.splits;
    left = nothing_lags_stays (last_of s).left h.splits.parted.left.held h.left;
    right = nothing_lags_stays (last_of s).right h.splits.parted.right.held h.right;
  }

  -- at SplitMove
  half_stays : (l q : ℕ) → (at old l).tree < length old.trees → IsHalf old l q o → IsHalf new l q o
  half_stays l q tree_there h =
      let u = untouched l h.held in
      let w = untouched q h.right_held in
      let c = g.nodes.nodes l h.held.there in
      let d = g.nodes.nodes q h.right_held.there in
      record {
        held = held_stays l h.held;
        right_held = held_stays q h.right_held;
        differ = h.differ;
        mine = open_here op o old new g other l h.held.there tree_there h.mine;
        live = ap (λ (v : Parts). v.deleted) u.version ∙ h.live;
        marked = ap (λ (v : Parts). v.splitting) u.version ∙ h.marked;
        right_live = ap (λ (v : Parts). v.deleted) w.version ∙ h.right_live;
        right_marked = ap (λ (v : Parts). v.splitting) w.version ∙ h.right_marked;
        right_tree = d.tree ∙ h.right_tree ∙ sym c.tree;
        right_level = d.level ∙ h.right_level ∙ sym c.level;
        right_reach = w.reach ∙ h.right_reach ∙ ap (λ (i : ℕ). Some i) (sym d.low);
        no_root = ap (λ (v : Parts). v.root) w.version ∙ h.no_root;
        empty = w.slots ∙ h.empty;
        childless = w.children ∙ h.childless;
      }

  may_split_stays : (l q slice : ℕ) (mark : Mark) → (at old l).tree < length old.trees → MaySplit old l q o slice mark → MaySplit new l q o slice mark
  may_split_stays l q slice mark tree_there h =
      let same = sym (untouched l h.half.held).slots in
      record {
        half = half_stays l q tree_there h.half;
        border = (g.nodes.nodes l h.half.held.there).level ∙ h.border;
        full = subst (λ (s : List Entry). length s ≡ 15) same h.full;
        is_mark = h.is_mark;
        missing = subst (λ (s : List Entry). IsMissing s slice mark) same h.missing;
        separator = subst (λ (low : ℕ). IsSeparator (slices_with (at new l).slots slice mark) low) (sym (g.nodes.nodes q h.half.right_held.there).low)
            (subst (λ (s : List Entry). IsSeparator (slices_with s slice mark) (at old q).low) same h.separator);
      }

  unparted_stays : (l q : ℕ) → IsHeld old l o → IsHeld old q o → IsUnparted old l q → IsUnparted new l q
  unparted_stays l q held_l held_q h =
      let u = untouched l held_l in
      record {
        followers = λ k is. elim (h.followers k (follows_was l k held_l is)) [
          | inl own ↦ inl own
          | inr next ↦ inr (u.next ∙ next)
        ];
        children = children_stay l held_l h.children;
        right = nothing_lags_stays q held_q h.right;
        reach = u.reach ∙ h.reach ∙ sym u.high;
        stable = stable_stays (at old l) (at new l) u h.stable;
        rooted = rooted_stays (at old l) (at new l) u h.rooted;
      }

  holds_stays : (k slice : ℕ) → IsHeld old k o → Holds (at old k) slice → Holds (at new k) slice
  holds_stays k slice h within = (
    omega (arith, within.0, (g.nodes.nodes k h.there).low),
    omega (arith, within.1, ap end_of (untouched k h).high),
  )

  pub move : (task : Task) (prepared : Prepared) (w : Walk) (s : Splits) → IsAtSplitMove old o task prepared w s → IsAtSplitMove new o task prepared w s
  move task prepared w s h =
      let l = (last_of s).left in
      let q = (last_of s).right in
      let k = w.place.node in
      let half = h.may.half in
      let held_here : IsHeld old k o = subst (λ (i : ℕ). IsHeld old i o) h.border half.held in
      let tree_there : (at old l).tree < length old.trees = subst (λ (i : ℕ). (at old i).tree < length old.trees) (sym h.border) h.through.there in
      record {
        one = h.one;
        border = h.border;
        above = h.above;
        moved = h.moved;
        through =
            subst (λ (t : ℕ). GoesThrough new t w.layer task.key) (sym (g.nodes.nodes k held_here.there).tree) (through_stays op o old new g other (at old k).tree w.layer task.key h.through);
        belongs = holds_stays k (slice_of task.key w.layer) held_here h.belongs;
        may = may_split_stays l q (slice_of task.key w.layer) (mark_of task.key w.layer) tree_there h.may;
        unparted = unparted_stays l q half.held half.right_held h.unparted;
        orphan = (untouched q half.right_held).orphaned h.orphan;
        suffix = h.suffix;
        ready = h.ready;
      }

  -- at SplitPrev
  previous : (s : Splits) → IsAtSplitPrev old o s → IsAtSplitPrev new o s
  previous s h =
      let l = (last_of s).left in
      let q = (last_of s).right in
      let held_l = h.splits.parted.left.held in
      let held_q = h.splits.parted.right.held in
      let u = untouched l held_l in
      let w = untouched q held_q in
      record {
        splits = splits_stay s h.splits;
        one = h.one;
        above = h.above;
        moved = h.moved;
        orphan = w.orphaned h.orphan;
        next = u.next ∙ h.next;
        some_next = λ none. h.some_next (sym w.next ∙ none);
        followers = λ k is. elim (h.followers k (follows_was l k held_l is)) [
          | inl own ↦ inl own
          | inr next ↦ inr (w.next ∙ next)
        ];
        children = children_stay l held_l h.children;
        right = nothing_lags_stays q held_q h.right;
      }

  -- at LockParent, and at RootGrow
  lock_parent : (s : Splits) → IsAtLockParent old o s → IsAtLockParent new o s
  lock_parent s h = record {
    named = named_stay s h.named;
    above = h.above;
    moved = h.moved;
    orphan = (untouched (last_of s).right h.named.splits.parted.right.held).orphaned h.orphan;
  }

  root_grow : (s : Splits) → IsAtRootGrow old o s → IsAtRootGrow new o s
  root_grow s h = record {
    at_root = lock_parent s h.at_root;
    parentless = (untouched (last_of s).left h.at_root.named.splits.parted.left.held).orphaned h.parentless;
  }

  -- with the parent held
  parent_stays : (level l q p : ℕ) → IsHeld old q o → IsParent old o level l q p → IsParent new o level l q p
  parent_stays level l q p held_q h =
      let u = untouched p h.held in
      record {
        held = held_stays p h.held;
        live = ap (λ (v : Parts). v.deleted) u.version ∙ h.live;
        level_is = (g.nodes.nodes p h.held.there).level ∙ h.level_is;
        child = child_stays (at old p) (at new p) l u h.child;
        knows = (untouched q held_q).parented h.knows;
        followers = followers_stay p h.held h.followers;
        children = λ k is. elim (h.children k (under_was p k h.held is)) [
          | inl own ↦ inl own
          | inr child ↦ inr (child_stays (at old p) (at new p) k u child)
        ];
        reach = u.reach ∙ h.reach ∙ sym u.high;
        rooted = rooted_stays (at old p) (at new p) u h.rooted;
      }

  at_parent_stays : (s : Splits) (p : ℕ) → IsAtParent old o s p → IsAtParent new o s p
  at_parent_stays s p h = record {
    named = named_stay s h.named;
    above = h.above;
    moved = h.moved;
    parent = parent_stays (length s.halves.items) (last_of s).left (last_of s).right p h.named.splits.parted.right.held h.parent;
  }

  -- at InsertChild, and at InteriorSplit
  insert_child : (s : Splits) → IsAtInsertChild old o s → IsAtInsertChild new o s
  insert_child s h = record {
    p = h.p;
    at_parent = at_parent_stays s h.p h.at_parent;
    room = subst (λ (xs : List ℕ). length xs < 15) (sym (untouched h.p h.at_parent.parent.held).separators) h.room;
  }

  interior_split : (s : Splits) → IsAtInteriorSplit old o s → IsAtInteriorSplit new o s
  interior_split s h = record {
    p = h.p;
    at_parent = at_parent_stays s h.p h.at_parent;
    full = subst (λ (xs : List ℕ). length xs ≡ 15) (sym (untouched h.p h.at_parent.parent.held).separators) h.full;
  }

  -- at Reparent
  reparent : (s : Splits) → IsAtReparent old o s → IsAtReparent new o s
  reparent s h =
      let l = (last_of s).left in
      let q = (last_of s).right in
      let held_l = h.splits.parted.left.held in
      let held_q = h.splits.parted.right.held in
      let u = untouched l held_l in
      let w = untouched q held_q in
      record {
        splits = splits_stay s h.splits;
        above = h.above;
        more = subst (λ (xs : List ℕ). s.moved < length xs) (sym w.children) h.more;
        orphan = w.orphaned h.orphan;
        followers = followers_stay l held_l h.followers;
        children = λ k is. elim (h.children k (under_was l k held_l is)) [
          | inl moved ↦ inl (child_from_stays (at old q) (at new q) s.moved k w moved)
          | inr child ↦ inr (child_stays (at old l) (at new l) k u child)
        ];
        right = nothing_lags_stays q held_q h.right;
      }

  -- at Unlock
  unlock_all : (s : Splits) → IsAtUnlockAll old o s → IsAtUnlockAll new o s
  unlock_all s h = record {
    halves = returnable_stay s.halves.items (length s.halves.items) h.halves;
    above = λ k is. return_stays (length s.halves.items) k (h.above k is);
  }

  -- by the phase
  pub split : (phase : Phase) (s : Splits) → KeptSplit phase old o s → KeptSplit phase new o s
  split SplitPrev s h = previous s h
  split LockParent s h = lock_parent s h
  split InsertChild s h = insert_child s h
  split InteriorSplit s h = interior_split s h
  split Reparent s h = reparent s h
  split RootGrow s h = root_grow s h
  split Unlock s h = unlock_all s h
  split _ s h = absurd h

  -- and the operation comes to hold no other node
  pub only_splits : (s : Splits) → HoldsSplits old o s → HoldsSplits new o s
  only_splits s only k within holds = elim (cases_lt k (length old.nodes)) [
    | inl was ↦ only k was ((g.nodes.nodes k was).taken o other holds)
    | inr new_one ↦ absurd (g.nodes.taken_new k o new_one within other holds)
  ]
