-- What a put keeps that has made the right half of its full border node: for `split_start`.
use Rattle.std.proofs.Common.{◌≡◌, ◌≢◌, ◌⊎◌, ℕ, ◌-◌, ◌+◌, ◌<◌, List, [], ◌∷◌, ◌++◌, length, set, Option, Some, None, true, false, refl, sym, ap, subst, ◌∙◌, inl, inr, arith, length-append}
use Rattle.std.proofs.{lemmas.Bool.cases_eq, lemmas.List.length-set, lemmas.Option.same_Some}
use Rattle.mt_slices.specs.Slices.{slice_of, mark_of}
use Rattle.mt_rows.specs.Rows.{Bytes}
use Rattle.mt_version.specs.Parts.{Parts}
use Rattle.mt_border.{specs.Split.{IsSeparator, slices_with}, proofs.ContentsKeys.new_is_entry}
use Rattle.mt_arena.specs.{declared.tree.Standing.TheVariants.Made, NodeView.{NodeView, node_at}, Nodes.AreNodes, Forests.{HasSlice, tree_at}}
use Rattle.mt_arena.specs.{Lags.{Follows, IsUnder, AreChildren}, Edits.{splitting, fresh_half, again_half}, Several.{IsHalf, MaySplit}, Arena.{ArenaView, IsArena}}
use Rattle.mt_arena.specs.{Idle.{RetiredPlaces, AreRetired, chosen, number_of, given_border}, Given.AreForgotten, Accesses.{at, tree_of, with_half, nodes_with_half}}
use Rattle.mt_arena.proofs.{Pairs.{here, there, last, before}, Lags.followers_of}
use Rattle.mt_arena.proofs.{Separators.separator_begins, Giving.{IsChosen, chosen_place}}
use Rattle.mt_operation.specs.{declared.phase.Phase.TheVariants.SplitMove, declared.walk.Walk.Walk, declared.task.Task.Task}
use Rattle.mt_operation.specs.{declared.prepared.Prepared.Prepared, declared.splits.Halves.Halves, declared.splits.Splits.Splits, Operations.IsUnsplit}
use Rattle.mt_descent.specs.KeptWalks.{GoesThrough}
use Rattle.mt_held.specs.{Holds.HoldsOnly, Moves.walk_at}
use Rattle.mt_insert.specs.{KeptPuts.IsAtSplitStart, KeptSplits.{halves_at, last_of, HoldsSplits, IsUnparted, IsAtSplitMove, NothingLags}}
use Rattle.mt_insert.specs.SplitEdits.{Starts, HasOneMore, half_number}

-- the first split is the one of its list
one_more : (old new : Splits) (left right : ℕ) → IsUnsplit old → HasOneMore old new left right → new.halves.items ≡ (record { left = left; right = right }) ∷ []
one_more old new left right none more = more.halves ∙ ap (λ (hs : List Halves). hs ++ (record { left = left; right = right }) ∷ []) none.halves

-- and the last one
last_one : (s : Splits) (h : Halves) → s.halves.items ≡ h ∷ [] → last_of s ≡ h
last_one s h is = ap (λ (hs : List Halves). halves_at hs (length hs - 1)) is

-- a node is being split, and its right half has this number: all but the two is as it was, and no live node names that number
pub record HasHalf (v : ArenaView) (nodes : List NodeView) (k q low op : ℕ) : Type 0 where
  pub version : Parts
  pub no_root : version.root ≡ false
  pub live : version.deleted ≡ false
  pub marked : version.splitting ≡ true
  pub differ : k ≢ q
  pub left_there : k < length nodes
  pub right_there : q < length nodes
  pub at_left : node_at nodes k ≡ splitting (at v k)
  pub at_right : node_at nodes q ≡ record (fresh_half (at v k) k low op) { version = version }
  pub at_other : (j : ℕ) → j < length nodes → j ≢ k → j ≢ q → (j < length v.nodes) × (node_at nodes j ≡ at v j)
  pub no_previous : (j : ℕ) → j < length v.nodes → (at v j).version.deleted ≡ false → (at v j).previous ≢ Some q
  pub no_parent : (j : ℕ) → j < length v.nodes → (at v j).version.deleted ≡ false → (at v j).parent ≢ Some q

-- in a new place
has_half_new : (v : ArenaView) (k low op : ℕ) → k < length v.nodes → AreNodes v.nodes → HasHalf v (with_half v k low op).nodes k (length v.nodes) low op
has_half_new v k low op lk nodes =
    let ys : List NodeView = set v.nodes k (splitting (at v k)) in
    let half = fresh_half (at v k) k low op in
    let size : length ys ≡ length v.nodes = length-set v.nodes k (splitting (at v k)) in
    let count : length (ys ++ half ∷ []) ≡ length v.nodes + 1 = omega (arith, length-append ys (half ∷ []), size) in
    record {
      version = half.version;
      no_root = refl;
      live = refl;
      marked = refl;
      differ = λ e. omega (arith, lk, e);
      left_there = omega (arith, lk, count);
      right_there = omega (arith, count);
      at_left = before ys half k (omega (arith, lk, size)) ∙ here v.nodes k (splitting (at v k)) lk;
      at_right = ap (node_at (ys ++ half ∷ [])) (sym size) ∙ last ys half;
      at_other = λ j lj nk nq.
          let lt : j < length v.nodes = omega (arith, lj, count, nq) in (lt, before ys half j (omega (arith, lt, size)) ∙ there v.nodes k j (splitting (at v k)) nk);
      no_previous = λ j lj alive e. omega (arith, (nodes.each j lj).names.previous (length v.nodes) e);
      no_parent = λ j lj alive e. omega (arith, (nodes.each j lj).names.parent (length v.nodes) e);
    }

-- in the place of a node that was taken out
has_half_again : (v : ArenaView) (k p low op : ℕ) → k < length v.nodes → (at v k).version.deleted ≡ false → IsChosen v p → AreNodes v.nodes
    → HasHalf v (nodes_with_half (Some p) v k low op) k p low op
has_half_again v k p low op lk live is nodes =
    let s = splitting (at v k) in
    let y = again_half (at v p) (at v k) k low op in
    let ys : List NodeView = set v.nodes k s in
    let size : length ys ≡ length v.nodes = length-set v.nodes k s in
    let count : length (set ys p y) ≡ length v.nodes = length-set ys p y ∙ size in
    let differ : k ≢ p = λ e. absurd (let both = sym live ∙ ap (λ j. (at v j).version.deleted) e ∙ is.out in cc) in
    record {
      version = y.version;
      no_root = refl;
      live = refl;
      marked = refl;
      differ = differ;
      left_there = omega (arith, lk, count);
      right_there = omega (arith, is.there, count);
      at_left = there ys p k y differ ∙ here v.nodes k s lk;
      at_right = here ys p y (omega (arith, is.there, size));
      at_other = λ j lj nk np. (omega (arith, lj, count), there ys p j y np ∙ there v.nodes k j s nk);
      no_previous = λ j lj alive e. absurd (let both = sym is.out ∙ ((nodes.pairs j p lj is.there).named alive is.free).live e in cc);
      no_parent = λ j lj alive e. absurd (let both = sym is.out ∙ (((nodes.pairs j p lj is.there).named alive is.free).knows e).live in cc);
    }

-- wherever it is
has_half : (v : ArenaView) (k low least op : ℕ) → k < length v.nodes → (at v k).version.deleted ≡ false → IsArena v.nodes v.trees → AreRetired v.nodes v.trees v.retired
    → AreForgotten least v → HasHalf v (nodes_with_half (chosen v.retired.borders least) v k low op) k (half_number least v) low op
has_half v k low least op lk live arena retired forgotten = by (chosen v.retired.borders least) refl
  where
    by : (place : Option ℕ) → chosen v.retired.borders least ≡ place
        → HasHalf v (nodes_with_half place v k low op) k (number_of place (length v.nodes)) low op
    by None e = has_half_new v k low op lk arena.nodes
    by (Some p) e = has_half_again v k p low op lk live (chosen_place v least p retired e forgotten) arena.nodes

module _ (v : ArenaView) (op : ℕ) (task : Task) (prepared : Prepared) (w : Walk) (arena : IsArena v.nodes v.trees) (h : IsAtSplitStart v op task prepared w) (low : ℕ)
    (separator : IsSeparator (slices_with (at v w.place.node).slots (slice_of task.key w.layer) (mark_of task.key w.layer)) low) where
  abbrev k : ℕ
  k = w.place.node

  abbrev x : NodeView
  x = at v k

  abbrev slice : ℕ
  slice = slice_of task.key w.layer

  lk : k < length v.nodes
  lk = h.holds.judged.held.there

  live : x.version.deleted ≡ false
  live = h.holds.judged.stands.live

  -- nobody is making the tree
  unmade : (p : ℕ) → (tree_at v.trees x.tree).standing ≢ Made p
  unmade p making =
      h.holds.judged.at_border.through.unmade p (ap (λ t. (tree_at v.trees t).standing) (sym h.holds.judged.at_border.covers.remembered.tree_is) ∙ making)

  through : GoesThrough v x.tree w.layer task.key
  through = subst (λ t. GoesThrough v t w.layer task.key) (sym h.holds.judged.at_border.covers.remembered.tree_is) h.holds.judged.at_border.through

  -- the right half begins at the slice of a key
  begins : HasSlice (tree_at v.trees x.tree).prefix low
  begins = separator_begins v.nodes v.trees k task.key w.layer low arena.forest lk through.of_tree separator

  -- with the right half
  module _ (nodes : List NodeView) (gone : RetiredPlaces) (q : ℕ) (half : HasHalf v nodes k q low op) where
    abbrev made : ArenaView
    made = record v { nodes = nodes; retired = gone }

    is_half : IsHalf made k q op
    is_half = record {
      held = record { there = half.left_there; holder = rw half.at_left h.holds.judged.held.holder };
      right_held = record { there = half.right_there; holder = rw half.at_right refl };
      differ = half.differ;
      mine = rw half.at_left (λ p making. absurd (unmade p making));
      live = rw half.at_left live;
      marked = rw half.at_left refl;
      right_live = rw half.at_right half.live;
      right_marked = rw half.at_right half.marked;
      right_tree = rw (half.at_left, half.at_right) refl;
      right_level = rw (half.at_left, half.at_right) refl;
      right_reach = rw half.at_right refl;
      no_root = rw half.at_right half.no_root;
      empty = rw half.at_right refl;
      childless = rw half.at_right refl;
    }

    may_split : MaySplit made k q op slice (mark_of task.key w.layer)
    may_split = record {
      half = is_half;
      border = rw half.at_left h.holds.judged.at_border.border;
      full = rw half.at_left h.full;
      is_mark = (new_is_entry task.key w.layer [] 0).mark;
      missing = rw half.at_left h.missing;
      separator = rw (half.at_left, half.at_right) separator;
    }

    -- a live node that names a number as the one before, or as its parent, is the right half, or did so before
    follows_was : (c j : ℕ) → Follows made.nodes c j → ((j ≡ q) × (Some k ≡ Some c)) ⊎ Follows v.nodes c j
    follows_was c j is = elim (cases_eq j q) [
      | inl right ↦ inl (right, sym (ap (λ (n : NodeView). n.previous) (ap (node_at made.nodes) right ∙ half.at_right)) ∙ is.1)
      | inr nq ↦ elim (cases_eq j k) [
        | inl own ↦ inr (subst (Follows v.nodes c) (sym own) (lk, sym (ap (λ (n : NodeView). n.previous) (ap (node_at made.nodes) own ∙ half.at_left)) ∙ is.1, live))
        | inr nk ↦
            let old = half.at_other j is.0 nk nq in
            inr (old.0, sym (ap (λ (n : NodeView). n.previous) old.1) ∙ is.1, sym (ap (λ (n : NodeView). n.version.deleted) old.1) ∙ is.2)
      ]
    ]

    under_was : (c j : ℕ) → IsUnder made.nodes c j → IsUnder v.nodes c j
    under_was c j is = elim (cases_eq j q) [
      | inl right ↦ absurd (let none = sym (ap (λ (n : NodeView). n.parent) (ap (node_at made.nodes) right ∙ half.at_right)) ∙ is.1 in cc)
      | inr nq ↦ elim (cases_eq j k) [
        | inl own ↦ subst (IsUnder v.nodes c) (sym own) (lk, sym (ap (λ (n : NodeView). n.parent) (ap (node_at made.nodes) own ∙ half.at_left)) ∙ is.1, live)
        | inr nk ↦
            let old = half.at_other j is.0 nk nq in
            (old.0, sym (ap (λ (n : NodeView). n.parent) old.1) ∙ is.1, sym (ap (λ (n : NodeView). n.version.deleted) old.1) ∙ is.2)
      ]
    ]

    -- the node's followers are the right half and the next one
    followers : (j : ℕ) → Follows made.nodes k j → (j ≡ q) ⊎ ((at made k).next ≡ Some j)
    followers j is = elim (follows_was k j is) [
      | inl right ↦ inl right.0
      | inr was ↦ inr (rw half.at_left (followers_of v.nodes k x h.holds.settled j was))
    ]

    children : AreChildren made.nodes k (at made k)
    children j is = rw half.at_left (let was = under_was k j is in h.holds.settled.parent j was.0 was.1 was.2)

    right_lags : NothingLags made.nodes q
    right_lags = record {
      followers = λ j is. elim (follows_was q j is) [
        | inl right ↦ absurd (half.differ (same_Some _ _ right.1))
        | inr was ↦ absurd (half.no_previous j was.0 was.2 was.1)
      ];
      children = λ j is. absurd (let was = under_was q j is in half.no_parent j was.0 was.2 was.1);
    }

    unparted : IsUnparted made k q
    unparted = record {
      followers = followers;
      children = children;
      right = right_lags;
      reach = rw half.at_left h.holds.settled.reach;
      stable = rw half.at_left h.holds.settled.stable;
      rooted = rw half.at_left (h.holds.settled.rooted live);
    }

    module _ (s : Splits) (items : s.halves.items ≡ (record { left = k; right = q }) ∷ []) (above : s.above ≡ None) (moved : s.moved ≡ 0) where
      abbrev is_last : last_of s ≡ record { left = k; right = q }
      is_last = last_one s (record { left = k; right = q }) items

      kept : IsAtSplitMove made op task prepared (walk_at SplitMove w) s
      kept = record {
        one = ap length items;
        border = ap (λ (p : Halves). p.left) is_last;
        above = above;
        moved = moved;
        through = rw half.at_left (record { there = through.there; unmade = through.unmade; of_tree = through.of_tree; begun = through.begun });
        belongs = rw half.at_left (h.holds.judged.at_border.covers.remembered.from, h.holds.judged.at_border.covers.below h.holds.judged.stands);
        may = subst (λ (p : Halves). MaySplit made p.left p.right op slice (mark_of task.key w.layer)) (sym is_last) may_split;
        unparted = subst (λ (p : Halves). IsUnparted made p.left p.right) (sym is_last) unparted;
        orphan = subst (λ (p : Halves). (at made p.right).parent ≡ None) (sym is_last) (rw half.at_right refl);
        suffix = h.suffix;
        ready = h.ready;
      }

-- where the right half begins, some stored key of its tree has its slice
pub half_begins : (v : ArenaView) (op : ℕ) (task : Task) (prepared : Prepared) (w : Walk) (low : ℕ) → IsArena v.nodes v.trees
    → IsAtSplitStart v op task prepared w
    → IsSeparator (slices_with (at v w.place.node).slots (slice_of task.key w.layer) (mark_of task.key w.layer)) low
    → HasSlice (tree_of v w.place.node).prefix low
half_begins v op task prepared w low arena h separator = begins v op task prepared w arena h low separator

-- what is kept as a split starts
pub kept_start : (old new : ArenaView) (least op : ℕ) (key : Bytes) (task : Task) (prepared : Prepared) (w : Walk) (was is : Splits)
    → IsArena old.nodes old.trees → AreRetired old.nodes old.trees old.retired → AreForgotten least old → IsUnsplit was → Starts least op old new key w
    → HasOneMore was is w.place.node (half_number least old) → task.key ≡ key → IsAtSplitStart old op task prepared w
    → IsAtSplitMove new op task prepared (walk_at SplitMove w) is
kept_start old new least op key task prepared w was is arena retired forgotten none starts more same h =
    let k = w.place.node in
    let q = half_number least old in
    let half = has_half old k starts.low least op h.holds.judged.held.there h.holds.judged.stands.live arena retired forgotten in
    subst (λ (a : ArenaView). IsAtSplitMove a op task prepared (walk_at SplitMove w) is) (sym starts.is)
    (kept old op task prepared w arena h starts.low (subst (λ (b : Bytes). IsSeparator (slices_with (at old w.place.node).slots (slice_of b w.layer) (mark_of b w.layer)) starts.low) (sym same) starts.separator)
    (nodes_with_half (chosen old.retired.borders least) old k starts.low op) (given_border old.retired least) q half is (one_more was is k q none more) more.above more.moved)

-- no node but the halves is held as a split starts
pub holds_start : (old new : ArenaView) (least op : ℕ) (key : Bytes) (task : Task) (prepared : Prepared) (w : Walk) (was is : Splits)
    → IsArena old.nodes old.trees → AreRetired old.nodes old.trees old.retired → AreForgotten least old → IsAtSplitStart old op task prepared w
    → IsUnsplit was → Starts least op old new key w
    → HasOneMore was is w.place.node (half_number least old) → HoldsOnly old op w.place.node → HoldsSplits new op is
holds_start old new least op key task prepared w was is arena retired forgotten h none starts more only j within holder =
    let k = w.place.node in
    let q = half_number least old in
    let half = has_half old k starts.low least op h.holds.judged.held.there h.holds.judged.stands.live arena retired forgotten in
    let items = one_more was is k q none more in
    let in_range : 0 < length is.halves.items = omega (arith, ap length items) in
    let there_is = subst (λ (a : ArenaView). j < length a.nodes) starts.is within in
    let held = subst (λ (a : ArenaView). (at a j).holder ≡ Some op) starts.is holder in
    inl (elim (cases_eq j q) [
      | inl right ↦ record { place = 0; in_range = in_range; is = inr (ap (λ (hs : List Halves). (halves_at hs 0).right) items ∙ sym right) }
      | inr nq ↦
          let left : j ≡ k = elim (cases_eq j k) [
            | inl own ↦ own
            | inr nk ↦ let old_one = half.at_other j there_is nk nq in only j old_one.0 (sym (ap (λ (n : NodeView). n.holder) old_one.1) ∙ held)
          ] in
          record { place = 0; in_range = in_range; is = inl (ap (λ (hs : List Halves). (halves_at hs 0).left) items ∙ sym left) }
    ])
