-- What the steps of a climb leave of all nodes, by what their calls ensure, and where they lead: for `climb_done`.
use Rattle.mt_arena.specs.{Accesses.{IsHeld, at, tree_of, nodes_with_half, with_half_at, with_node}, Arena.ArenaView, Edits.{again, again_half, fresh_half, inserting, locked, placed, pointed, splitting}}
use Rattle.mt_arena.specs.{declared.retired.Retired.Retired, Idle.{AreRetired, RetiredPlaces, chosen, given_border, given_interior, number_of}, Given.AreForgotten}
use Rattle.mt_arena.proofs.{Giving.{chosen_inner, chosen_place, steps_from_none}, Pairs.here}
use Rattle.mt_arena.specs.{Forests.{no_tree, tree_at}, Growth.{left_below, right_below}, NodeView.{NodeView, node_at}}
use Rattle.mt_arena.specs.{Several.{halves_below, interior_number, parts_left, top_over, with_parts_at, with_right, with_root_at}, Splits.{exact, inner_left, inner_right, with_child}, declared.tree.Tree.Tree}
use Rattle.mt_state.proofs.Giving.{GivesFirsts, makes_none, gives_border, gives_interior}
use Rattle.mt_state.proofs.Climbing.{ComesAgain, IsBare, LeavesNodes, Stays, each_pushed, each_set, leaves_set, pushed_at, stays_same}
use Rattle.mt_state.specs.{Phases.{GoesAbove, ScanStep, LeadsTo}, Given.idle_of}
use Rattle.mt_insert.specs.SplitEdits.{after_reparent, for_parent, with_parent}
use Rattle.mt_insert.specs.KeptSplits.{HasSplits, IsAtInsertChild, IsAtInteriorSplit, IsAtLockParent, IsAtParent, IsAtRootGrow, IsAtSplitPrev, KeptSplit, last_of}
use Rattle.mt_insert.specs.Climbs.{IsClimbFrom, IsInsertChild, IsLockParent, IsReparent, IsSplitPrev, KeepsSplits, MakesSplits}
use Rattle.mt_insert.proofs.SplittingParents.{count_more}
use Rattle.mt_held.specs.Moves.{walk_at}
use Rattle.mt_operation.proofs.Phases.{by_climb}
use Rattle.mt_operation.specs.Phases.{IsClimb, MayFollow}
use Rattle.mt_operation.specs.declared.phase.Phase.TheVariants.{InsertChild, InteriorSplit, LockParent, Reparent, RootGrow, SplitPrev, Unlock}
use Rattle.mt_operation.specs.{declared.splits.Halves.Halves, declared.splits.Splits.Splits, declared.walk.Walk.Walk, declared.outcome.Outcome.Outcome}
use Rattle.mt_operation.specs.{declared.phase.Phase.Phase, Operations.splits_of, declared.removal.Removal.Removal}
use Rattle.std.proofs.Common.{Bool, List, None, Option, Some, [], ap, arith, false, inl, inr, length, length-append, refl, set, slice_index, subst, sym, true, ℕ, ◌++◌, ◌+◌, ◌<◌, ◌==◌, ◌∙◌, ◌∷◌, ◌≡◌, ◌≢◌, ◌≤◌, ◌⊎◌}
use Rattle.std.proofs.{lemmas.Bool.cases_eq, lemmas.List.{get_or-set_other, get_or-set_same, length-set}, lemmas.Option.same_Some}
use Rattle.std.specs.Prelude.{if◌then◌else◌}
use Rattle.mt_rows.specs.Rows.{Bytes}

-- another node before one and another parent of it
leaves_pointed : (least op : ℕ) (old : ArenaView) (k : ℕ) (previous parent : Option ℕ) → LeavesNodes least op old (with_node old k (pointed (at old k) previous parent))
leaves_pointed least op old k previous parent =
    leaves_set least op old (set old.nodes k (pointed (at old k) previous parent)) (length-set old.nodes k (pointed (at old k) previous parent))
    (each_set (λ j n. Stays op (at old j) n) old.nodes k (pointed (at old k) previous parent) (λ j lt. stays_same op (at old j))
    (record { slots = refl; tree = refl; level = refl; deleted = refl; inserts = refl; splits = refl; taken = λ held. inl held }))

-- the trees as they were but for their roots, and the lists with at most their first places less
pub record LeavesTrees (old : ArenaView) (trees : List Tree) (gone : RetiredPlaces) : Type 0 where
  pub count : length trees ≡ length old.trees
  pub prefix : (t : ℕ) → (tree_at trees t).prefix ≡ (tree_at old.trees t).prefix
  pub standing : (t : ℕ) → (tree_at trees t).standing ≡ (tree_at old.trees t).standing
  pub lists : GivesFirsts old.retired gone

leaves_all_trees : (old : ArenaView) (gone : RetiredPlaces) → GivesFirsts old.retired gone → LeavesTrees old old.trees gone
leaves_all_trees old gone lists = record { count = refl; prefix = λ t. refl; standing = λ t. refl; lists = lists }

-- one node more beside nodes that stay, in a new place or in one that is given out
module _ (o : ℕ) (old : ArenaView) (zs : List NodeView) (size : length zs ≡ length old.nodes) (stays : (k : ℕ) → k < length old.nodes → Stays o (at old k) (node_at zs k)) where
  abbrev over : List NodeView → List Tree → RetiredPlaces → ArenaView
  over nodes trees gone = record { nodes = nodes; trees = trees; retired = gone }

  one_pushed : (least : ℕ) (n : NodeView) (trees : List Tree) (gone : RetiredPlaces) → chosen (idle_of n old.retired) least ≡ None → IsBare n → LeavesTrees old trees gone
      → LeavesNodes least o old (over (zs ++ n ∷ []) trees gone)
  one_pushed least n trees gone none bare t = record {
    more = omega (arith, size, length-append zs (n ∷ []));
    each = λ k lt. inl (each_pushed (λ i m. Stays o (at old i) m) (length old.nodes) zs n size stays k lt);
    fresh = λ k from lt. subst IsBare (sym (pushed_at zs n (length old.nodes) k size from lt)) bare;
    trees = t.count;
    prefix = t.prefix;
    standing = t.standing;
    one = omega (arith, size, length-append zs (n ∷ []));
    retired = t.lists;
    last = record {
      nodes = λ k from lt. ap (λ (m : NodeView). chosen (idle_of m old.retired) least) (pushed_at zs n (length old.nodes) k size from lt) ∙ none;
      trees = λ more. absurd (omega (arith, more, t.count));
    };
  }

  one_again : (least p : ℕ) (n : NodeView) (trees : List Tree) (gone : RetiredPlaces) → ComesAgain (at old p) n → LeavesTrees old trees gone
      → LeavesNodes least o old (over (set zs p n) trees gone)
  one_again least p n trees gone comes t =
      let all = length-set zs p n ∙ size in
      record {
        more = omega (arith, all);
        each = λ k lt. each_set (λ i m. i < length old.nodes → Stays o (at old i) m ⊎ ComesAgain (at old i) m) zs p n (λ i _ within. inl (stays i within)) (λ _. inr comes)
            k (omega (arith, lt, size)) lt;
        fresh = λ k from lt. absurd (omega (arith, from, lt, all));
        trees = t.count;
        prefix = t.prefix;
        standing = t.standing;
        one = omega (arith, all);
        retired = t.lists;
        last = makes_none least old (over (set zs p n) trees gone) all t.count;
      }

  -- no node that stays comes again
  none_again : (k : ℕ) → k < length old.nodes → ComesAgain (at old k) (node_at zs k) → ⊥
  none_again k lt again = let both = sym again.out ∙ sym (stays k lt).deleted ∙ again.live in cc

  -- so of the level of the node more, in a new place and in one that is given out
  pushed_level : (n : NodeView) (k : ℕ) → length old.nodes ≤ k → k < length (zs ++ n ∷ []) → (node_at (zs ++ n ∷ []) k).level ≡ n.level
  pushed_level n k from lt = ap (λ (m : NodeView). m.level) (pushed_at zs n (length old.nodes) k size from lt)

  pushed_again : (n : NodeView) (k : ℕ) → k < length old.nodes → ComesAgain (at old k) (node_at (zs ++ n ∷ []) k) → (node_at (zs ++ n ∷ []) k).level ≡ n.level
  pushed_again n k lt =
      each_pushed (λ i m. ComesAgain (at old i) m → m.level ≡ n.level) (length old.nodes) zs n size (λ i within again. absurd (none_again i within again)) k lt

  set_again : (p : ℕ) (n : NodeView) (k : ℕ) → k < length old.nodes → ComesAgain (at old k) (node_at (set zs p n) k) → (node_at (set zs p n) k).level ≡ n.level
  set_again p n k lt =
      each_set (λ i m. i < length old.nodes → ComesAgain (at old i) m → m.level ≡ n.level) zs p n (λ i _ within again. absurd (none_again i within again)) (λ _ _. refl)
      k (omega (arith, lt, size)) lt

-- two nodes that the operation holds are others
each_two : (op : ℕ) (xs : List NodeView) (i j : ℕ) (y z : NodeView) → Stays op (node_at xs i) y → Stays op (node_at xs j) z
    → (k : ℕ) → k < length xs → Stays op (node_at xs k) (node_at (set (set xs i y) j z) k)
each_two op xs i j y z first second k lt =
    each_set (λ m n. m < length xs → Stays op (node_at xs m) n) (set xs i y) j z
    (λ m _ within. each_set (λ a n. Stays op (node_at xs a) n) xs i y (λ a lt. stays_same op (node_at xs a)) first m within)
    (λ _. second) k (omega (arith, lt, length-set xs i y)) lt

size_two : (xs : List NodeView) (i j : ℕ) (y z : NodeView) → length (set (set xs i y) j z) ≡ length xs
size_two xs i j y z = length-set (set xs i y) j z ∙ length-set xs i y

-- an interior node more, in the place that is chosen by this step, or else in a new one
pub placed_leaves : (least op : ℕ) (old : ArenaView) (zs : List NodeView) (n : NodeView) (trees : List Tree) → length zs ≡ length old.nodes
    → ((k : ℕ) → k < length old.nodes → Stays op (at old k) (node_at zs k)) → n.version.border ≡ false → IsBare n → LeavesTrees old trees (given_interior old.retired least)
    → AreRetired old.nodes old.trees old.retired → AreForgotten least old
    → LeavesNodes least op old (record { nodes = placed (chosen old.retired.interiors least) zs n; trees = trees; retired = given_interior old.retired least })
placed_leaves least op old zs n trees size stays inner bare t retired forgotten = by (chosen old.retired.interiors least) refl
  where
    idle_by : Bool → List Retired
    idle_by b = if b then old.retired.borders else old.retired.interiors

    by : (place : Option ℕ) → chosen old.retired.interiors least ≡ place
        → LeavesNodes least op old (record { nodes = placed place zs n; trees = trees; retired = given_interior old.retired least })
    by None none = one_pushed op old zs size stays least n trees (given_interior old.retired least) (ap (λ (b : Bool). chosen (idle_by b) least) inner ∙ none) bare t
    by (Some p) is =
        let vacant = chosen_inner old least p retired is forgotten in
        let kept = stays p vacant.there in
        one_again op old zs size stays least p (again (node_at zs p) n) trees (given_interior old.retired least)
        (record { out = vacant.out; free = vacant.free; slots = bare.slots; live = refl; inserts = kept.inserts; splits = ap (λ k. k + 1) kept.splits }) t

-- it has this number there, with the children that it has
pub placed_children : (place : Option ℕ) (zs : List NodeView) (n : NodeView) (count : ℕ) → length zs ≡ count → ((p : ℕ) → place ≡ Some p → p < count)
    → (node_at (placed place zs n) (number_of place count)).children ≡ n.children
placed_children None zs n count size there = ap (λ (m : NodeView). m.children) (pushed_at zs n count count size (omega arith) (omega (arith, size, length-append zs (n ∷ []))))
placed_children (Some p) zs n count size there = ap (λ (m : NodeView). m.children) (here zs p (again (node_at zs p) n) (omega (arith, there p refl, size)))

-- and each node that was added, or that comes in a place that was given out, has its level
pub placed_added : (op : ℕ) (old : ArenaView) (zs : List NodeView) (n : NodeView) (place : Option ℕ) → length zs ≡ length old.nodes
    → ((k : ℕ) → k < length old.nodes → Stays op (at old k) (node_at zs k)) → (k : ℕ) → length old.nodes ≤ k → k < length (placed place zs n)
    → (node_at (placed place zs n) k).level ≡ n.level
placed_added op old zs n None size stays k from lt = pushed_level op old zs size stays n k from lt
placed_added op old zs n (Some p) size stays k from lt = absurd (omega (arith, from, lt, length-set zs p (again (node_at zs p) n), size))

pub placed_again : (op : ℕ) (old : ArenaView) (zs : List NodeView) (n : NodeView) (place : Option ℕ) → length zs ≡ length old.nodes
    → ((k : ℕ) → k < length old.nodes → Stays op (at old k) (node_at zs k)) → (k : ℕ) → k < length old.nodes → ComesAgain (at old k) (node_at (placed place zs n) k)
    → (node_at (placed place zs n) k).level ≡ n.level
placed_again op old zs n None size stays k lt = pushed_again op old zs size stays n k lt
placed_again op old zs n (Some p) size stays k lt = set_again op old zs size stays p (again (node_at zs p) n) k lt

module _ (op : ℕ) (old new : ArenaView) (before after : Walk) (s t : Splits) where
  abbrev l : ℕ
  l = (last_of s).left

  abbrev q : ℕ
  q = (last_of s).right

  -- the node behind a right half names it
  pub named_leaves : (least : ℕ) → IsAtSplitPrev old op s → IsSplitPrev op old new before after s t → LeavesNodes least op old new
  named_leaves least kept c = by (at old q).next refl
    where
      by : (next : Option ℕ) → (at old q).next ≡ next → LeavesNodes least op old new
      by None next = absurd (kept.some_next next)
      by (Some behind) next = subst (LeavesNodes least op old) (sym (c.is behind next)) (leaves_pointed least op old behind (Some q) (at old behind).parent)

  -- the parent is locked, and the right half names it
  module _ (kept : IsAtLockParent old op s) (p : ℕ) where
    abbrev mid : ArenaView
    mid = with_node old p (locked (at old p) op)

    abbrev y : NodeView
    y = pointed (at mid q) (at mid q).previous (Some p)

    size_mid : length mid.nodes ≡ length old.nodes
    size_mid = length-set old.nodes p (locked (at old p) op)

    pub size_locked : length (with_parent old p q op).nodes ≡ length old.nodes
    size_locked = length-set mid.nodes q y ∙ size_mid

    -- a lock that is taken, and another parent, leave the mark of deleted nodes
    same_deleted : (k : ℕ) → k < length old.nodes → (at (with_parent old p q op) k).version.deleted ≡ (at old k).version.deleted
    same_deleted k within =
        let in_mid : (j : ℕ) → j < length old.nodes → (at mid j).version.deleted ≡ (at old j).version.deleted =
        each_set (λ j n. n.version.deleted ≡ (at old j).version.deleted) old.nodes p (locked (at old p) op) (λ j lt. refl) refl in
        each_set (λ j n. j < length old.nodes → n.version.deleted ≡ (at old j).version.deleted) mid.nodes q y (λ j _ lt. in_mid j lt) (λ lt. in_mid q lt) k (omega (arith, within, size_mid)) within

    module _ (live : (at old p).version.deleted ≡ false) where
      each_mid : (j : ℕ) → j < length old.nodes → Stays op (at old j) (at mid j)
      each_mid = each_set (λ j n. Stays op (at old j) n) old.nodes p (locked (at old p) op) (λ j lt. stays_same op (at old j))
          (record { slots = refl; tree = refl; level = refl; deleted = refl; inserts = refl; splits = refl; taken = λ held. inr live })

      right_stays : Stays op (at old q) y
      right_stays = let m = each_mid q kept.named.splits.parted.right.held.there in record {
        slots = m.slots;
        tree = m.tree;
        level = m.level;
        deleted = m.deleted;
        inserts = m.inserts;
        splits = m.splits;
        taken = λ held. inl kept.named.splits.parted.right.held.holder;
      }

      pub locked_leaves : (least : ℕ) → LeavesNodes least op old (with_parent old p q op)
      locked_leaves least = leaves_set least op old (set mid.nodes q y) size_locked
          (λ j lt. each_set (λ i n. i < length old.nodes → Stays op (at old i) n) mid.nodes q y (λ i _ within. each_mid i within) (λ _. right_stays) j (omega (arith, lt, size_mid)) lt)

  -- the parent that is locked is live
  parent_live : IsAtLockParent old op s → IsLockParent op old new before after s t → (p : ℕ) → (at old l).parent ≡ Some p → (at old p).version.deleted ≡ false
  parent_live kept c p named = by (length (at old p).separators == 15) (subst (λ (phase : Phase). KeptSplit phase new op t) (ap (λ (w : Walk). w.phase) is.2) c.on.kept)
    where
      is : ((at old p).holder ≡ None) × (new ≡ with_parent old p q op) × (after ≡ walk_at (for_parent (at old p)) before) × (t ≡ record s { above = Some p })
      is = c.is p named

      of_parent : (j : ℕ) → IsAtParent new op t j → (at old p).version.deleted ≡ false
      of_parent j at_parent =
          let same : j ≡ p = same_Some j p (sym at_parent.above ∙ ap (λ (r : Splits). r.above) is.3) in
          let there : j < length old.nodes = omega (arith, at_parent.parent.held.there, ap (λ (v : ArenaView). length v.nodes) is.1, size_locked kept p) in
          subst (λ i. (at old i).version.deleted ≡ false) same
          (sym (same_deleted kept p j there) ∙ ap (λ (v : ArenaView). (at v j).version.deleted) (sym is.1) ∙ at_parent.parent.live)

      by : (full : Bool) → KeptSplit (if full then InteriorSplit else InsertChild) new op t → (at old p).version.deleted ≡ false
      by true k = of_parent k.p k.at_parent
      by false k = of_parent k.p k.at_parent

  pub lock_leaves : (least : ℕ) → IsAtLockParent old op s → IsLockParent op old new before after s t → LeavesNodes least op old new
  lock_leaves least kept c = by (at old l).parent refl
    where
      by : (parent : Option ℕ) → (at old l).parent ≡ parent → LeavesNodes least op old new
      by None none = subst (LeavesNodes least op old) (sym (c.root none).0) (leaves_set least op old old.nodes refl (λ k lt. stays_same op (at old k)))
      by (Some p) named = subst (LeavesNodes least op old) (sym (c.is p named).1) (locked_leaves kept p (parent_live kept c p named) least)

  -- the parent has room
  pub inserted_leaves : (least : ℕ) → IsAtInsertChild old op s → IsInsertChild op old new before after s t → LeavesNodes least op old new
  inserted_leaves least kept c =
      let y = with_child (inserting (at old kept.p)) (at old q).low q in
      let z = exact (at old l) in
      subst (LeavesNodes least op old) (sym (c.is kept.p kept.at_parent.above)) (leaves_set least op old (with_right old.nodes kept.p l q) (size_two old.nodes kept.p l y z) (each_two op old.nodes kept.p l y z
      (record { slots = refl; tree = refl; level = refl; deleted = refl; inserts = refl; splits = refl; taken = λ held. inl kept.at_parent.parent.held.holder })
      (record { slots = refl; tree = refl; level = refl; deleted = refl; inserts = refl; splits = refl; taken = λ held. inl kept.at_parent.named.splits.parted.left.held.holder })))

  -- it is full, and is split
  module _ (kept : IsAtInteriorSplit old op s) where
    abbrev pub p : ℕ
    p = kept.p

    abbrev pub wide : NodeView
    wide = with_child (splitting (at old p)) (at old q).low q

    abbrev pub zs : List NodeView
    zs = parts_left old.nodes p l q

    abbrev pub half : NodeView
    half = inner_right wide op

    pub size_z : length zs ≡ length old.nodes
    size_z = size_two old.nodes p l (inner_left wide) (exact (at old l))

    pub parts_stay : (k : ℕ) → k < length old.nodes → Stays op (at old k) (node_at zs k)
    parts_stay = each_two op old.nodes p l (inner_left wide) (exact (at old l))
        (record { slots = refl; tree = refl; level = refl; deleted = refl; inserts = refl; splits = refl; taken = λ held. inl kept.at_parent.parent.held.holder })
        (record { slots = refl; tree = refl; level = refl; deleted = refl; inserts = refl; splits = refl; taken = λ held. inl kept.at_parent.named.splits.parted.left.held.holder })

    pub parts_leaves : (least : ℕ) → AreRetired old.nodes old.trees old.retired → AreForgotten least old → LeavesNodes least op old (with_parts_at old p l q least op)
    parts_leaves least retired forgotten =
        placed_leaves least op old zs half old.trees size_z parts_stay refl (record { slots = refl; live = refl; inserts = refl; splits = refl })
        (leaves_all_trees old (given_interior old.retired least) (gives_interior old.retired least)) retired forgotten

  -- there is none: a root is made
  module _ (kept : IsAtRootGrow old op s) where
    module _ (least : ℕ) where
      abbrev top : ℕ
      top = interior_number least old

      abbrev ws : List NodeView
      ws = halves_below old.nodes l q top

      abbrev grown : Tree
      grown = record (tree_of old l) { root = top }

      abbrev grown_trees : List Tree
      grown_trees = set old.trees (at old l).tree grown

      tree_as : {A : Type 0} (f : Tree → A) → f grown ≡ f (tree_of old l) → (t : ℕ) → f (tree_at grown_trees t) ≡ f (tree_at old.trees t)
      tree_as f same t = elim (cases_eq t (at old l).tree) [
        | inl is ↦
            ap (λ u. f (tree_at grown_trees u)) is
            ∙ ap f (get_or-set_same old.trees (at old l).tree grown no_tree kept.at_root.named.splits.parted.tree_there) ∙ same ∙ ap (λ u. f (tree_at old.trees u)) (sym is)
        | inr other ↦ ap f (get_or-set_other old.trees (at old l).tree t grown no_tree other)
      ]

      pub root_leaves : AreRetired old.nodes old.trees old.retired → AreForgotten least old → LeavesNodes least op old (with_root_at old l q least op)
      root_leaves retired forgotten =
          placed_leaves least op old ws (top_over old.nodes l q op) grown_trees (size_two old.nodes l q (left_below (at old l) top) (right_below (at old q) top))
          (each_two op old.nodes l q (left_below (at old l) top) (right_below (at old q) top)
          (record { slots = refl; tree = refl; level = refl; deleted = refl; inserts = refl; splits = refl; taken = λ held. inl kept.at_root.named.splits.parted.left.held.holder })
          (record { slots = refl; tree = refl; level = refl; deleted = refl; inserts = refl; splits = refl; taken = λ held. inl kept.at_root.named.splits.parted.right.held.holder }))
          refl (record { slots = refl; live = refl; inserts = refl; splits = refl })
          (record {
            count = length-set old.trees (at old l).tree grown;
            prefix = tree_as (λ (t : Tree). t.prefix) refl;
            standing = tree_as (λ (t : Tree). t.standing) refl;
            lists = gives_interior old.retired least;
          })
          retired forgotten

  -- a child of a parted parent names the right half
  pub reparented_leaves : (least : ℕ) → IsReparent op old new before after s t → LeavesNodes least op old new
  reparented_leaves least c =
      let child = slice_index (at old q).children s.moved in
      subst (LeavesNodes least op old) (sym c.is) (leaves_pointed least op old child (at old child).previous (Some q))

-- so each step, by its phase
pub climb_leaves : (p : Phase) → IsClimb p → (least op : ℕ) (old new : ArenaView) (before after : Walk) (s t : Splits) → AreRetired old.nodes old.trees old.retired
    → AreForgotten least old → KeptSplit p old op s → IsClimbFrom p least op old new before after s t → LeavesNodes least op old new
climb_leaves p i least op old new before after s t retired forgotten =
    by_climb (λ p. KeptSplit p old op s → IsClimbFrom p least op old new before after s t → LeavesNodes least op old new)
    (named_leaves op old new before after s t least)
    (lock_leaves op old new before after s t least)
    (inserted_leaves op old new before after s t least)
    (λ kept c. subst (LeavesNodes least op old) (sym (c.is kept.p kept.at_parent.above)) (parts_leaves op old new before after s t kept least retired forgotten))
    (λ kept c. reparented_leaves op old new before after s t least c)
    (λ kept c. subst (LeavesNodes least op old) (sym c.is) (root_leaves op old new before after s t kept least retired forgotten))
    p i

-- what they do alike, those that make no node among them
keeps_makes : (least op : ℕ) (old new : ArenaView) (before after : Walk) (s t : Splits) → KeepsSplits op old new before after s t → MakesSplits least op old new before after s t
keeps_makes least op old new before after s t on = record {
  same = on.keeps.same;
  steps = steps_from_none least op old new on.keeps.guarantee;
  contents = on.keeps.contents;
  kept = on.kept;
  holds = on.holds;
}

pub climb_makes : (p : Phase) → IsClimb p → (least op : ℕ) (old new : ArenaView) (before after : Walk) (s t : Splits)
    → IsClimbFrom p least op old new before after s t → MakesSplits least op old new before after s t
climb_makes p i least op old new before after s t =
    let keeps = keeps_makes least op old new before after s t in
    by_climb (λ p. IsClimbFrom p least op old new before after s t → MakesSplits least op old new before after s t)
    (λ c. keeps c.on) (λ c. keeps c.on) (λ c. keeps c.on) (λ c. c.on) (λ c. keeps c.on) (λ c. c.on) p i

-- there are halves
some_halves : (v : ArenaView) (op : ℕ) (s : Splits) → HasSplits v op s → (items : List Halves) → items ≡ s.halves.items → items ≢ []
some_halves v op s h items same none = let no = ap (λ (hs : List Halves). length hs) (sym same ∙ none) in omega (arith, no, h.some)

pub climb_some : (p : Phase) → IsClimb p → (least op : ℕ) (old new : ArenaView) (before after : Walk) (s t : Splits) → KeptSplit p old op s
    → IsClimbFrom p least op old new before after s t → t.halves.items ≢ []
climb_some SplitPrev i least op old new before after s t kept c = some_halves old op s kept.splits t.halves.items (ap (λ (r : Splits). r.halves.items) c.splits)
climb_some LockParent i least op old new before after s t kept c = some_halves old op s kept.named.splits t.halves.items (by (at old (last_of s).left).parent refl)
  where
    by : (parent : Option ℕ) → (at old (last_of s).left).parent ≡ parent → t.halves.items ≡ s.halves.items
    by None none = ap (λ (r : Splits). r.halves.items) (c.root none).2
    by (Some p) named = ap (λ (r : Splits). r.halves.items) (c.is p named).3
climb_some InsertChild i least op old new before after s t kept c =
    some_halves old op s kept.at_parent.named.splits t.halves.items (ap (λ (r : Splits). r.halves.items) c.splits)
climb_some InteriorSplit i least op old new before after s t kept c = λ none.
    let no = ap (λ (hs : List Halves). length hs) none in omega (arith, no, count_more s t kept.p (interior_number least old) (c.splits kept.p kept.at_parent.above))
climb_some Reparent i least op old new before after s t kept c = some_halves old op s kept.splits t.halves.items (ap (λ (r : Splits). r.halves.items) c.splits)
climb_some RootGrow i least op old new before after s t kept c =
    some_halves old op s kept.at_root.named.splits t.halves.items (ap (λ (r : Splits). r.halves.items) c.splits)
climb_some _ i least op old new before after s t kept c = absurd i

-- where each leads
pub climb_leads : (p : Phase) → IsClimb p → (least op : ℕ) (old new : ArenaView) (before after : Walk) (s t : Splits) → IsClimbFrom p least op old new before after s t
    → (step : ℕ) (key : Bytes) (told : Option Outcome) (r : Removal) (g : ScanStep) → LeadsTo p old new op step key told (splits_of s) r g before after
climb_leads SplitPrev i least op old new before after s t c step key told r g = c.walk
climb_leads LockParent i least op old new before after s t c step key told r g = by (at old (last_of s).left).parent refl
  where
    by : (parent : Option ℕ) → (at old (last_of s).left).parent ≡ parent → GoesAbove parent old before after
    by None none = (c.root none).1
    by (Some p) named = ((c.is p named).0, (c.is p named).2)
climb_leads InsertChild i least op old new before after s t c step key told r g = c.walk
climb_leads InteriorSplit i least op old new before after s t c step key told r g = c.walk
climb_leads Reparent i least op old new before after s t c step key told r g = c.walk
climb_leads RootGrow i least op old new before after s t c step key told r g = c.walk
climb_leads _ i least op old new before after s t c step key told r g = absurd i

-- a walk at this phase may follow one at that
follows_to : (p q : Phase) (before after : Walk) → after ≡ walk_at q before → MayFollow p q → MayFollow p after.phase
follows_to p q before after goes follows = subst (λ (w : Walk). MayFollow p w.phase) (sym goes) follows

pub climb_follows : (p : Phase) → IsClimb p → (least op : ℕ) (old new : ArenaView) (before after : Walk) (s t : Splits)
    → IsClimbFrom p least op old new before after s t → MayFollow p after.phase
climb_follows SplitPrev i least op old new before after s t c = follows_to SplitPrev LockParent before after c.walk tt
climb_follows LockParent i least op old new before after s t c = by (at old (last_of s).left).parent refl
  where
    full : (b : Bool) → MayFollow LockParent (if b then InteriorSplit else InsertChild)
    full true = tt
    full false = tt

    by : (parent : Option ℕ) → (at old (last_of s).left).parent ≡ parent → MayFollow LockParent after.phase
    by None none = follows_to LockParent RootGrow before after (c.root none).1 tt
    by (Some p) named = follows_to LockParent (for_parent (at old p)) before after (c.is p named).2 (full (length (at old p).separators == 15))
climb_follows InsertChild i least op old new before after s t c = follows_to InsertChild Unlock before after c.walk tt
climb_follows InteriorSplit i least op old new before after s t c = follows_to InteriorSplit Reparent before after c.walk tt
climb_follows Reparent i least op old new before after s t c =
    follows_to Reparent (after_reparent (at old (last_of s).right) s.moved) before after c.walk (last (s.moved + 1 == length (at old (last_of s).right).children))
  where
    last : (b : Bool) → MayFollow Reparent (if b then LockParent else Reparent)
    last true = tt
    last false = tt
climb_follows RootGrow i least op old new before after s t c = follows_to RootGrow Unlock before after c.walk tt
climb_follows _ i least op old new before after s t c = absurd i

-- a right half is made of a border node that the operation holds, in the place that is chosen by this step, or else in a new one
module _ (o : ℕ) (v : ArenaView) (k low least : ℕ) (held : IsHeld v k o) where
  abbrev marked : List NodeView
  marked = set v.nodes k (splitting (at v k))

  marked_size : length marked ≡ length v.nodes
  marked_size = length-set v.nodes k (splitting (at v k))

  marked_stays : (j : ℕ) → j < length v.nodes → Stays o (at v j) (node_at marked j)
  marked_stays = each_set (λ j n. Stays o (at v j) n) v.nodes k (splitting (at v k)) (λ j lt. stays_same o (at v j))
      (record { slots = refl; tree = refl; level = refl; deleted = refl; inserts = refl; splits = refl; taken = λ mine. inl held.holder })

  abbrev with_half_in : Option ℕ → ArenaView
  with_half_in place = record v { nodes = nodes_with_half place v k low o; retired = given_border v.retired least }

  pub begun_leaves : AreRetired v.nodes v.trees v.retired → AreForgotten least v → LeavesNodes least o v (with_half_at v k low least o)
  begun_leaves retired forgotten = by (chosen v.retired.borders least) refl
    where
      lists : LeavesTrees v v.trees (given_border v.retired least)
      lists = leaves_all_trees v (given_border v.retired least) (gives_border v.retired least)

      by : (place : Option ℕ) → chosen v.retired.borders least ≡ place → LeavesNodes least o v (with_half_in place)
      by None none = one_pushed o v marked marked_size marked_stays least (fresh_half (at v k) k low o) v.trees (given_border v.retired least) none (record { slots = refl; live = refl; inserts = refl; splits = refl }) lists
      by (Some p) is =
          let vacant = chosen_place v least p retired is forgotten in
          one_again o v marked marked_size marked_stays least p (again_half (at v p) (at v k) k low o) v.trees (given_border v.retired least)
          (record { out = vacant.out; free = vacant.free; slots = refl; live = refl; inserts = refl; splits = refl }) lists

  -- it stands on the level of the other one
  pub half_added : (j : ℕ) → length v.nodes ≤ j → j < length (with_half_at v k low least o).nodes → (at (with_half_at v k low least o) j).level ≡ (at v k).level
  half_added j from = by (chosen v.retired.borders least)
    where
      by : (place : Option ℕ) → j < length (with_half_in place).nodes → (at (with_half_in place) j).level ≡ (at v k).level
      by None lt = pushed_level o v marked marked_size marked_stays (fresh_half (at v k) k low o) j from lt
      by (Some p) lt = absurd (omega (arith, from, lt, length-set marked p (again_half (at v p) (at v k) k low o), marked_size))

  pub half_comes_again : (j : ℕ) → j < length v.nodes → ComesAgain (at v j) (at (with_half_at v k low least o) j) → (at (with_half_at v k low least o) j).level ≡ (at v k).level
  half_comes_again j lt = by (chosen v.retired.borders least)
    where
      by : (place : Option ℕ) → ComesAgain (at v j) (at (with_half_in place) j) → (at (with_half_in place) j).level ≡ (at v k).level
      by None = pushed_again o v marked marked_size marked_stays (fresh_half (at v k) k low o) j lt
      by (Some p) = set_again o v marked marked_size marked_stays p (again_half (at v p) (at v k) k low o) j lt
