-- Where each phase of a split leads, and what it makes of the nodes.
use Rattle.std.specs.Prelude.{◌≡◌, ℕ, ◌+◌, ◌==◌, if◌then◌else◌, length, Some, None, ◌++◌, ◌∷◌, []}
use Rattle.mt_slices.specs.Slices.{slice_of, mark_of}
use Rattle.mt_border.specs.Split.{IsSeparator, slices_with}
use Rattle.mt_arena.specs.{NodeView.NodeView, Edits.{locked, pointed}, Arena.ArenaView, Idle.{chosen, number_of}, Accesses.{at, with_node, with_half_at}}
use Rattle.mt_operation.specs.{declared.phase.Phase.Phase, declared.phase.Phase.TheVariants.{LockParent, InsertChild, InteriorSplit, Reparent}}
use Rattle.mt_operation.specs.{declared.walk.Walk.Walk, declared.splits.Splits.Splits}
use Rattle.mt_rows.specs.Rows.{Bytes}

-- after SplitStart: the node has a right half, which begins where its keys and this one would be parted
pub record Starts (least op : ℕ) (old new : ArenaView) (key : Bytes) (w : Walk) : Type 0 where
  pub low : ℕ
  pub separator : IsSeparator (slices_with (at old w.place.node).slots (slice_of key w.layer) (mark_of key w.layer)) low
  pub is : new ≡ with_half_at old w.place.node low least op

-- its number: that of the place that is chosen by this step, or else that of a new one
abbrev pub half_number : ℕ → ArenaView → ℕ
half_number least v = number_of (chosen v.retired.borders least) (length v.nodes)

-- the same splits and these of one more node
pub record HasOneMore (old new : Splits) (left right : ℕ) : Type 0 where
  pub halves : new.halves.items ≡ old.halves.items ++ (record { left = left; right = right }) ∷ []
  pub above : new.above ≡ None
  pub moved : new.moved ≡ 0

-- after LockParent: by how many separators the parent has
abbrev pub for_parent : NodeView → Phase
for_parent p = if length p.separators == 15 then InteriorSplit else InsertChild

-- a node has its lock taken, and the right half of its child names it as the parent
abbrev pub with_parent : ArenaView → ℕ → ℕ → ℕ → ArenaView
with_parent v p q op = let mid = with_node v p (locked (at v p) op) in with_node mid q (pointed (at mid q) (at mid q).previous (Some p))

-- after Reparent: on with the next child, or a level up where there is none
abbrev pub moved_on : NodeView → ℕ → ℕ
moved_on right moved = if moved + 1 == length right.children then 0 else moved + 1

abbrev pub after_reparent : NodeView → ℕ → Phase
after_reparent right moved = if moved + 1 == length right.children then LockParent else Reparent

-- a child of this number names the node as its parent
abbrev pub with_named_parent : ArenaView → ℕ → ℕ → ArenaView
with_named_parent v child parent = with_node v child (pointed (at v child) (at v child).previous (Some parent))
