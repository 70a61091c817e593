-- Which nodes a step changes that splits a node, makes a layer, or takes a node or a layer out, by what its call ensures.
use Rattle.std.proofs.Common.{◌≡◌, ℕ, ◌<◌, inl, inr, true, List, [], ◌∷◌, ◌++◌, length, set, slice_index, Option, Some, None, refl, sym, ap, subst, ◌∙◌, arith}
use Rattle.std.proofs.lemmas.List.{length-set}
use Rattle.mt_rows.specs.Rows.{Bytes}
use Rattle.mt_border.specs.{Entries.without, Held.Held, Held.{Link as LinkTo, Unstable}}
use Rattle.mt_interior.specs.Places.{place_of}
use Rattle.mt_arena.specs.{NodeView.{NodeView, node_at}, Forests.tree_at, Layers.slot_at, Arena.ArenaView, Accesses.{at, IsHeld, nodes_with_half, with_half_at, with_node}}
use Rattle.mt_arena.specs.Edits.{again, again_half, cells_without, fresh_half, inserting, locked, placed, pointed, retired, splitting, with_slots}
use Rattle.mt_arena.specs.{Idle.{AreRetired, chosen}, Given.AreForgotten, Growth.{left_below, right_below}, Splits.{exact, inner_left, inner_right, with_child}}
use Rattle.mt_arena.specs.Several.{halves_below, interior_number, parts_left, top_over, wide_parent, with_parts_at, with_right, with_root_at}
use Rattle.mt_arena.specs.{Removals.{without_layer, without_node, without_root}, Unlinks.{joined, without_child}, Collapses.crowned}
use Rattle.mt_arena.specs.Layering.{prefix_below, root_of, tree_number, with_held, with_layer_at, with_link, with_slot}
use Rattle.mt_arena.proofs.{Giving.{chosen_inner, chosen_place}, Pairs.here}
use Rattle.mt_operation.specs.{declared.phase.Phase.Phase, declared.operation.Operation.Operation, declared.splits.Splits.Splits, declared.walk.Walk.Walk}
use Rattle.mt_operation.specs.declared.phase.Phase.TheVariants.{CleanLayer, Collapse, FixNext, InsertChild, InteriorSplit, Link, LockParent, MakeLayer, MarkLayer, MarkUnstable, Reparent, RootGrow, SplitPrev, SplitStart, Unlink}
use Rattle.mt_operation.specs.{Operations.{OperationView, view_of}, Phases.{IsClimb, IsLayerPhase}}
use Rattle.mt_operation.proofs.Phases.{by_climb}
use Rattle.mt_descent.specs.KeptWalks.{walk_place}
use Rattle.mt_held.specs.Moves.{with_named_previous}
use Rattle.mt_insert.specs.KeptSplits.{IsAtInsertChild, IsAtInteriorSplit, IsAtLockParent, IsAtRootGrow, IsAtSplitPrev, KeptSplit, last_of}
use Rattle.mt_insert.specs.{Climbs.{IsClimbFrom, IsInsertChild, IsInteriorSplit, IsLockParent, IsReparent, IsRootGrow, IsSplitPrev}, SplitEdits.{with_named_parent, with_parent}}
use Rattle.mt_layer.specs.{KeptLayers.KeptLayer, NewLayers.entry_below, Builds.IsLayerFrom}
use Rattle.mt_state.specs.Touches.{IsGivenAnew, MakesNode, MayBecome, locks_next}
use Rattle.mt_state.proofs.Climbing.{each_pushed, each_set}

module _ (p : Phase) (op : OperationView) (o : ℕ) (v : ArenaView) where
  -- each node may become the one that these have at its number
  abbrev pub AreTouched : List NodeView → Type 0
  AreTouched xs = (k : ℕ) → k < length v.nodes → MayBecome p op o v k (node_at xs k)

  pub none_touched : AreTouched v.nodes
  none_touched k lt = inl refl

  -- one more is another
  pub one_touched : (xs : List NodeView) (i : ℕ) (y : NodeView) → length xs ≡ length v.nodes → AreTouched xs → MayBecome p op o v i y → AreTouched (set xs i y)
  one_touched xs i y size all new k lt =
      each_set (λ j m. j < length v.nodes → MayBecome p op o v j m) xs i y (λ j _ within. all j within) (λ _. new) k (omega (arith, lt, size)) lt

  -- one that the operation holds
  pub held_touched : (xs : List NodeView) (i : ℕ) (y : NodeView) → length xs ≡ length v.nodes → AreTouched xs → (at v i).holder ≡ Some o → AreTouched (set xs i y)
  held_touched xs i y size all mine = one_touched xs i y size all (inr (inl (inl mine)))

  -- two that it holds
  pub two_touched : (i j : ℕ) (y z : NodeView) → (at v i).holder ≡ Some o → (at v j).holder ≡ Some o → AreTouched (set (set v.nodes i y) j z)
  two_touched i j y z mine also = held_touched (set v.nodes i y) j z (length-set v.nodes i y) (held_touched v.nodes i y refl none_touched mine) also

  -- one whose lock it takes
  pub lock_touched : (k : ℕ) → locks_next p ≡ true → AreTouched (with_node v k (locked (at v k) o)).nodes
  lock_touched k locks = one_touched v.nodes k (locked (at v k) o) refl none_touched (inr (inl (inr (locks, refl))))

  -- one more comes at the end
  pub pushed_touched : (xs : List NodeView) (n : NodeView) → length xs ≡ length v.nodes → AreTouched xs → AreTouched (xs ++ n ∷ [])
  pushed_touched xs n size all k lt = each_pushed (λ j m. MayBecome p op o v j m) (length v.nodes) xs n size all k lt

  -- or into a place that is given out
  placed_touched : (place : Option ℕ) (xs : List NodeView) (n : NodeView) → length xs ≡ length v.nodes → AreTouched xs → MakesNode p
      → ((k : ℕ) → place ≡ Some k → IsGivenAnew (at v k) (again (node_at xs k) n)) → AreTouched (placed place xs n)
  placed_touched None xs n size all makes given = pushed_touched xs n size all
  placed_touched (Some k) xs n size all makes given = one_touched xs k (again (node_at xs k) n) size all (inr (inr (inr (makes, given k refl))))

  -- the place is that of an interior node, or that of a border node
  module _ (least : ℕ) (xs : List NodeView) (n : NodeView) (size : length xs ≡ length v.nodes) (all : AreTouched xs) (makes : MakesNode p)
      (retired : AreRetired v.nodes v.trees v.retired) (forgotten : AreForgotten least v) where
    pub inner_touched : AreTouched (placed (chosen v.retired.interiors least) xs n)
    inner_touched = placed_touched (chosen v.retired.interiors least) xs n size all makes
        (λ k is. let vacant = chosen_inner v least k retired is forgotten in record { out = vacant.out; free = vacant.free; live = refl })

    pub border_touched : AreTouched (placed (chosen v.retired.borders least) xs n)
    border_touched = placed_touched (chosen v.retired.borders least) xs n size all makes
        (λ k is. let vacant = chosen_place v least k retired is forgotten in record { out = vacant.out; free = vacant.free; live = refl })

-- the right half of a border node that the operation holds is made
pub half_touched : (op : OperationView) (o : ℕ) (v : ArenaView) (k low least : ℕ) → IsHeld v k o → AreRetired v.nodes v.trees v.retired → AreForgotten least v
    → AreTouched SplitStart op o v (with_half_at v k low least o).nodes
half_touched op o v k low least held retired forgotten = by (chosen v.retired.borders least) refl
  where
    marked : List NodeView
    marked = set v.nodes k (splitting (at v k))

    size : length marked ≡ length v.nodes
    size = length-set v.nodes k (splitting (at v k))

    all : AreTouched SplitStart op o v marked
    all = held_touched SplitStart op o v v.nodes k (splitting (at v k)) refl (none_touched SplitStart op o v) held.holder

    by : (place : Option ℕ) → chosen v.retired.borders least ≡ place → AreTouched SplitStart op o v (nodes_with_half place v k low o)
    by None none = pushed_touched SplitStart op o v marked (fresh_half (at v k) k low o) size all
    by (Some q) is =
        let vacant = chosen_place v least q retired is forgotten in
        one_touched SplitStart op o v marked q (again_half (at v q) (at v k) k low o) size all (inr (inr (inr (tt, record { out = vacant.out; free = vacant.free; live = refl }))))

-- a right half comes nearer to its place
module _ (least o : ℕ) (op : Operation) (old new : ArenaView) (after : Walk) (t : Splits) where
  abbrev l : ℕ
  l = (last_of op.splits).left

  abbrev q : ℕ
  q = (last_of op.splits).right

  abbrev Touched : Phase → Type 0
  Touched p = AreTouched p (view_of op) o old new.nodes

  as_touched : (p : Phase) (u : ArenaView) → new ≡ u → AreTouched p (view_of op) o old u.nodes → Touched p
  as_touched p u is touched = subst (λ (w : ArenaView). AreTouched p (view_of op) o old w.nodes) (sym is) touched

  previous_touched : IsAtSplitPrev old o op.splits → IsSplitPrev o old new op.walk after op.splits t → Touched SplitPrev
  previous_touched kept c = by (at old q).next refl
    where
      by : (next : Option ℕ) → (at old q).next ≡ next → Touched SplitPrev
      by None next = absurd (kept.some_next next)
      by (Some behind) next = as_touched SplitPrev (with_named_previous old behind q) (c.is behind next)
          (one_touched SplitPrev (view_of op) o old old.nodes behind (pointed (at old behind) (Some q) (at old behind).parent) refl (none_touched SplitPrev (view_of op) o old) (inr (inr (inl (next, refl)))))

  parent_touched : IsAtLockParent old o op.splits → IsLockParent o old new op.walk after op.splits t → Touched LockParent
  parent_touched kept c = by (at old l).parent refl
    where
      by : (parent : Option ℕ) → (at old l).parent ≡ parent → Touched LockParent
      by None none = as_touched LockParent old (c.root none).0 (none_touched LockParent (view_of op) o old)
      by (Some p) named =
          let mid = with_node old p (locked (at old p) o) in
          as_touched LockParent (with_parent old p q o) (c.is p named).1
          (held_touched LockParent (view_of op) o old mid.nodes q (pointed (at mid q) (at mid q).previous (Some p)) (length-set old.nodes p (locked (at old p) o))
          (lock_touched LockParent (view_of op) o old p refl) kept.named.splits.parted.right.held.holder)

  inserted_touched : IsAtInsertChild old o op.splits → IsInsertChild o old new op.walk after op.splits t → Touched InsertChild
  inserted_touched kept c =
      as_touched InsertChild (record old { nodes = with_right old.nodes kept.p l q }) (c.is kept.p kept.at_parent.above)
      (two_touched InsertChild (view_of op) o old kept.p l (with_child (inserting (at old kept.p)) (at old q).low q) (exact (at old l))
      kept.at_parent.parent.held.holder kept.at_parent.named.splits.parted.left.held.holder)

  reparent_touched : IsReparent o old new op.walk after op.splits t → Touched Reparent
  reparent_touched c =
      let child = slice_index (at old q).children op.splits.moved in
      as_touched Reparent (with_named_parent old child q) c.is
      (one_touched Reparent (view_of op) o old old.nodes child (pointed (at old child) (at old child).previous (Some q)) refl (none_touched Reparent (view_of op) o old) (inr (inr (inl (refl, refl)))))

  module _ (retired : AreRetired old.nodes old.trees old.retired) (forgotten : AreForgotten least old) where
    split_touched : IsAtInteriorSplit old o op.splits → IsInteriorSplit least o old new op.walk after op.splits t → Touched InteriorSplit
    split_touched kept c =
        let wide = wide_parent old.nodes kept.p q in
        let zs = parts_left old.nodes kept.p l q in
        as_touched InteriorSplit (with_parts_at old kept.p l q least o) (c.is kept.p kept.at_parent.above)
        (inner_touched InteriorSplit (view_of op) o old least zs (inner_right wide o)
        (length-set (set old.nodes kept.p (inner_left wide)) l (exact (at old l)) ∙ length-set old.nodes kept.p (inner_left wide))
        (two_touched InteriorSplit (view_of op) o old kept.p l (inner_left wide) (exact (at old l)) kept.at_parent.parent.held.holder kept.at_parent.named.splits.parted.left.held.holder)
        tt retired forgotten)

    grown_touched : IsAtRootGrow old o op.splits → IsRootGrow least o old new op.walk after op.splits t → Touched RootGrow
    grown_touched kept c =
        let top = interior_number least old in
        let ws = halves_below old.nodes l q top in
        as_touched RootGrow (with_root_at old l q least o) c.is
        (inner_touched RootGrow (view_of op) o old least ws (top_over old.nodes l q o)
        (length-set (set old.nodes l (left_below (at old l) top)) q (right_below (at old q) top) ∙ length-set old.nodes l (left_below (at old l) top))
        (two_touched RootGrow (view_of op) o old l q (left_below (at old l) top) (right_below (at old q) top) kept.at_root.named.splits.parted.left.held.holder kept.at_root.named.splits.parted.right.held.holder)
        tt retired forgotten)

    pub climb_touched : (p : Phase) → IsClimb p → KeptSplit p old o op.splits → IsClimbFrom p least o old new op.walk after op.splits t → Touched p
    climb_touched p i = by_climb (λ p. KeptSplit p old o op.splits → IsClimbFrom p least o old new op.walk after op.splits t → Touched p)
        previous_touched parent_touched inserted_touched split_touched (λ kept c. reparent_touched c) grown_touched p i

-- a layer is made
module _ (op : OperationView) (o : ℕ) (old new : ArenaView) where
  as_new : (p : Phase) (u : ArenaView) → new ≡ u → AreTouched p op o old u.nodes → AreTouched p op o old new.nodes
  as_new p u is touched = subst (λ (w : ArenaView). AreTouched p op o old w.nodes) (sym is) touched

  -- a slot of a held node holds something else
  slot_touched : (p : Phase) (k i : ℕ) (held : Held) → (at old k).holder ≡ Some o → AreTouched p op o old (set old.nodes k (with_held (at old k) i held))
  slot_touched p k i held mine = held_touched p op o old old.nodes k (with_held (at old k) i held) refl (none_touched p op o old) mine

  pub layer_touched : (p : Phase) → IsLayerPhase p → (least : ℕ) (key : Bytes) (before after : Walk) → AreRetired old.nodes old.trees old.retired → AreForgotten least old
      → KeptLayer p old o key before → IsLayerFrom p least o key old new before after → AreTouched p op o old new.nodes
  layer_touched MakeLayer i least key before after retired forgotten kept b =
      as_new MakeLayer (with_layer_at old (prefix_below old before.place.node (walk_place old before)) (entry_below kept.pair) least o) (b.is kept.pair kept.stable)
      (border_touched MakeLayer op o old least old.nodes (root_of (tree_number least old) (entry_below kept.pair)) refl (none_touched MakeLayer op o old) tt retired forgotten)
  layer_touched MarkUnstable i least key before after retired forgotten kept b =
      as_new MarkUnstable (with_slot old before.place.node (walk_place old before) (Unstable kept.pair None)) (b.is kept.pair kept.makes.layer.slot.is)
      (slot_touched MarkUnstable before.place.node (walk_place old before) (Unstable kept.pair None) kept.makes.layer.slot.held.holder)
  layer_touched Link i least key before after retired forgotten kept b =
      as_new Link (with_slot old before.place.node (walk_place old before) (Unstable kept.pair (Some kept.tree))) (b.is kept.pair kept.tree kept.makes.taken kept.makes.layer.slot.is)
      (slot_touched Link before.place.node (walk_place old before) (Unstable kept.pair (Some kept.tree)) kept.makes.layer.slot.held.holder)
  layer_touched MarkLayer i least key before after retired forgotten kept b =
      as_new MarkLayer (with_link old before.place.node (walk_place old before) kept.tree) (b.is kept.tree kept.makes.taken)
      (slot_touched MarkLayer before.place.node (walk_place old before) (LinkTo kept.tree) kept.makes.layer.slot.held.holder)
  layer_touched _ i least key before after retired forgotten kept b = absurd i

-- an empty border node is taken out, with its left neighbour and its parent held
module _ (op : OperationView) (o : ℕ) (v : ArenaView) where
  pub unlink_touched : (parent left node step : ℕ) → IsHeld v parent o → IsHeld v left o → IsHeld v node o → AreTouched Unlink op o v (without_node v parent left node step).nodes
  unlink_touched parent left node step parent_held left_held node_held =
      let x = at v node in
      let first = set v.nodes left (joined (at v left) x) in
      let second = set first node (retired x) in
      let p = at v parent in
      held_touched Unlink op o v second parent (without_child (inserting p) (place_of p.separators x.low)) (length-set first node (retired x) ∙ length-set v.nodes left (joined (at v left) x))
      (two_touched Unlink op o v left node (joined (at v left) x) (retired x) left_held.holder node_held.holder) parent_held.holder

  -- the node behind names the left neighbour
  pub fix_touched : (left behind : ℕ) → op.removal.left ≡ Some left → (at v left).next ≡ Some behind → AreTouched FixNext op o v (with_named_previous v behind left).nodes
  fix_touched left behind left_is next =
      one_touched FixNext op o v v.nodes behind (pointed (at v behind) (Some left) (at v behind).parent) refl (none_touched FixNext op o v) (inr (inr (inl (left, left_is, next, refl))))

  -- a root gives way to its only child
  pub collapse_touched : (root child step : ℕ) → IsHeld v root o → IsHeld v child o → AreTouched Collapse op o v (without_root v root child step).nodes
  collapse_touched root child step root_held child_held =
      two_touched Collapse op o v root child (retired (at v root)) (crowned (at v child)) root_held.holder child_held.holder

  -- an empty layer is taken out, once the root of its tree is locked
  pub clean_touched : (node i u step : ℕ) → IsHeld v node o → (tree_at v.trees u).root < length v.nodes
      → AreTouched CleanLayer op o v (without_layer (with_node v (tree_at v.trees u).root (locked (at v (tree_at v.trees u).root) o)) node i u step).nodes
  clean_touched node i u step node_held root_there =
      let root = (tree_at v.trees u).root in
      let locking = with_node v root (locked (at v root) o) in
      let n = with_slots (at locking node) (without (at locking node).slots (slot_at (at locking node) i)) (cells_without (at locking node).cells i) in
      let size = length-set v.nodes root (locked (at v root) o) in
      one_touched CleanLayer op o v (set locking.nodes node n) root (retired (at locking root)) (length-set locking.nodes node n ∙ size)
      (held_touched CleanLayer op o v locking.nodes node n size (lock_touched CleanLayer op o v root refl) node_held.holder)
      (inr (inl (inr (refl, ap (λ (m : NodeView). m.holder) (here v.nodes root (locked (at v root) o) root_there)))))
