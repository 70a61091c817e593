-- What the steps do by which a right half comes to its place: SplitPrev, LockParent, InsertChild, InteriorSplit, Reparent and RootGrow.
use Rattle.std.specs.Prelude.{None, Some, length, slice_index, ℕ, ◌≡◌}
use Rattle.mt_arena.specs.{Arena.{ArenaView, content_of}, Given.StepsFrom, Accesses.at, Several.{interior_number, with_parts_at, with_right, with_root_at}}
use Rattle.mt_operation.specs.declared.phase.Phase.TheVariants.{InsertChild, InteriorSplit, LockParent, Reparent, RootGrow, SplitPrev, Unlock}
use Rattle.mt_operation.specs.{declared.phase.Phase.Phase, declared.splits.Splits.Splits, declared.walk.Walk.Walk}
use Rattle.mt_descent.specs.WalkMoves.{Continues, KeepsPairs}
use Rattle.mt_insert.specs.SplitEdits.{HasOneMore, after_reparent, for_parent, moved_on, with_named_parent, with_parent}
use Rattle.mt_insert.specs.KeptSplits.{HoldsSplits, KeptSplit, last_of}
use Rattle.mt_held.specs.Moves.{walk_at, with_named_previous}

-- what they do alike: no pair moves, and what is kept of the halves, which the operation holds alone
pub record KeepsSplits (op : ℕ) (old new : ArenaView) (before after : Walk) (s t : Splits) : Type 0 where
  pub keeps : KeepsPairs op old new before after
  pub kept : KeptSplit after.phase new op t
  pub holds : HoldsSplits old op s → HoldsSplits new op t

-- the same of a step that makes a node: it may have come into a place that step `least` or an earlier one took out
pub record MakesSplits (least op : ℕ) (old new : ArenaView) (before after : Walk) (s t : Splits) : Type 0 where
  pub same : Continues before after
  pub steps : StepsFrom least op old new
  pub contents : content_of new ≡ content_of old
  pub kept : KeptSplit after.phase new op t
  pub holds : HoldsSplits old op s → HoldsSplits new op t

-- the node behind the halves names the right one as the one before
pub record IsSplitPrev (op : ℕ) (old new : ArenaView) (before after : Walk) (s t : Splits) : Type 0 where
  pub is : (behind : ℕ) → (at old (last_of s).right).next ≡ Some behind → new ≡ with_named_previous old behind (last_of s).right
  pub walk : after ≡ walk_at LockParent before
  pub splits : t ≡ s
  pub on : KeepsSplits op old new before after s t

-- the parent, which nobody held, is locked, and the right half names it; where there is none, a root comes next
pub record IsLockParent (op : ℕ) (old new : ArenaView) (before after : Walk) (s t : Splits) : Type 0 where
  pub is : (parent : ℕ) → (at old (last_of s).left).parent ≡ Some parent → ((at old parent).holder ≡ None) × (new ≡ with_parent old parent (last_of s).right op)
      × (after ≡ walk_at (for_parent (at old parent)) before) × (t ≡ record s { above = Some parent })
  pub root : (at old (last_of s).left).parent ≡ None → (new ≡ old) × (after ≡ walk_at RootGrow before) × (t ≡ s)
  pub on : KeepsSplits op old new before after s t

-- the right half is a child of the parent
pub record IsInsertChild (op : ℕ) (old new : ArenaView) (before after : Walk) (s t : Splits) : Type 0 where
  pub is : (parent : ℕ) → s.above ≡ Some parent → new ≡ record old { nodes = with_right old.nodes parent (last_of s).left (last_of s).right }
  pub walk : after ≡ walk_at Unlock before
  pub splits : t ≡ s
  pub on : KeepsSplits op old new before after s t

-- the full parent was split as the right half came in: its own right half has the number of the chosen place, or else that of a new one
pub record IsInteriorSplit (least op : ℕ) (old new : ArenaView) (before after : Walk) (s t : Splits) : Type 0 where
  pub is : (parent : ℕ) → s.above ≡ Some parent → new ≡ with_parts_at old parent (last_of s).left (last_of s).right least op
  pub splits : (parent : ℕ) → s.above ≡ Some parent → HasOneMore s t parent (interior_number least old)
  pub walk : after ≡ walk_at Reparent before
  pub on : MakesSplits least op old new before after s t

-- one more of the children that the parent's right half got names it
pub record IsReparent (op : ℕ) (old new : ArenaView) (before after : Walk) (s t : Splits) : Type 0 where
  pub is : new ≡ with_named_parent old (slice_index (at old (last_of s).right).children s.moved) (last_of s).right
  pub walk : after ≡ walk_at (after_reparent (at old (last_of s).right) s.moved) before
  pub splits : t ≡ record s { moved = moved_on (at old (last_of s).right) s.moved }
  pub on : KeepsSplits op old new before after s t

-- a root stands over the halves of the old one
pub record IsRootGrow (least op : ℕ) (old new : ArenaView) (before after : Walk) (s t : Splits) : Type 0 where
  pub is : new ≡ with_root_at old (last_of s).left (last_of s).right least op
  pub walk : after ≡ walk_at Unlock before
  pub splits : t ≡ record s { above = Some (interior_number least old) }
  pub on : MakesSplits least op old new before after s t

-- the splits are the same, as far as anything is said of them
pub record AreSame (s t : Splits) : Type 0 where
  pub halves : t.halves.items ≡ s.halves.items
  pub above : t.above ≡ s.above
  pub moved : t.moved ≡ s.moved

-- the step from this phase
abbrev pub IsClimbFrom : Phase → ℕ → ℕ → ArenaView → ArenaView → Walk → Walk → Splits → Splits → Type 0
IsClimbFrom SplitPrev least op old new before after s t = IsSplitPrev op old new before after s t
IsClimbFrom LockParent least op old new before after s t = IsLockParent op old new before after s t
IsClimbFrom InsertChild least op old new before after s t = IsInsertChild op old new before after s t
IsClimbFrom InteriorSplit least op old new before after s t = IsInteriorSplit least op old new before after s t
IsClimbFrom Reparent least op old new before after s t = IsReparent op old new before after s t
IsClimbFrom RootGrow least op old new before after s t = IsRootGrow least op old new before after s t
IsClimbFrom _ least op old new before after s t = ⊥
