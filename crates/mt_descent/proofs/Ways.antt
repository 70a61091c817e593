-- How the reading phases lead from node to node: what each keeps, from what was kept before.
use Rattle.std.proofs.Common.{◌≡◌, ◌≢◌, ℕ, ◌*◌, ◌<◌, ◌≤◌, ◌^◌, Bool, true, false, List, [], ◌∷◌, length, Option, Some, None, refl, sym, ap, subst, ◌∙◌, arith}
use Rattle.std.proofs.{lemmas.Option.same_Some, lemmas.Bool.{leb-true, leb-false}}
use Rattle.std.specs.Prelude.{nat_le, slice_index, if◌then◌else◌}
use Rattle.mt_version.specs.{Parts.Parts, Changes.{IsStable, SameButLock}}
use Rattle.mt_interior.specs.{Node.InteriorNode, Places.place_of, Fences.{end_of, IsWithinBounds}}
use Rattle.mt_interior.proofs.{PlaceLemmas.{place_of-parts, between-place}, CallerLemmas.place_of-le-length}
use Rattle.mt_slices.{proofs.{Bytes.{AreBytes, bytes-drop}, Numbers.{slice_at-number, number_lt}}, specs.Slices.{slice_at, slice_of, rest_of}}
use Rattle.mt_rows.specs.{Rows.Bytes, Stamps.Stamped}
use Rattle.mt_arena.specs.{declared.tree.Standing.Standing, declared.tree.Standing.TheVariants.{Made, Live, Dead}, NodeView.NodeView}
use Rattle.mt_arena.specs.{Nodes.{IsNode, IsChild, bounds}, Forests.tree_at, Arena.{ArenaView, IsArena}, Accesses.at}
use Rattle.mt_operation.specs.{declared.walk.Aim.Aim, declared.walk.Walk.Walk, declared.phase.Phase.TheVariants.Forward}
use Rattle.mt_descent.specs.{Seen.{RangeStands, Stands, WasSeen, Covers, child_for, HasNext}, Pasts.Past}
use Rattle.mt_descent.specs.KeptWalks.{GoesThrough, slice_in, IsAtPick, IsAtChild, IsAtVerify, IsAtBorder, IsAtForward, KeptAt, IsKept}
use Rattle.mt_descent.specs.WalkMoves.{arrival, arrival_at, walk_onto, walk_anew, after_pick, after_change, walk_here, walk_to_next, after_forward}
use Rattle.mt_version.proofs.CallerLemmas as versions
use Rattle.mt_operation.specs.declared.walk.Aim.TheVariants as aims

-- a slice fits 64 bits
slice_lt : (xs : Bytes) → AreBytes xs → slice_at xs < 2 ^ 64
slice_lt xs bytes = rw (slice_at-number xs) (number_lt 8 xs bytes)

slice_of_lt : (key : Bytes) (layer : ℕ) → AreBytes key → slice_of key layer < 2 ^ 64
slice_of_lt key layer bytes = slice_lt (rest_of key layer) (bytes-drop (8 * layer) key bytes)

-- a version that is the node's now, unmarked
pub seen_now : (n : NodeView) → IsStable n.version → WasSeen n n.version
seen_now n stable = record { whole = stable.1; still = stable.0; ages = versions.ages_refl n.version }

-- a version that is the same but for the lock stands
pub same_stands : (n : NodeView) (seen : Parts) → seen.deleted ≡ false → SameButLock n.version seen → Stands n seen
same_stands n seen undeleted same =
    let ages = versions.same_but_lock-ages n.version seen same in
    record { in_range = record { live = ap (λ (p : Parts). p.deleted) same ∙ undeleted; range = ages.0 }; insertion = ages.1 }

-- a live node of a tree that the walk may be in is of a live tree
pub live_tree : (v : ArenaView) (t layer k : ℕ) (key : Bytes) → IsArena v.nodes v.trees → GoesThrough v t layer key → k < length v.nodes
    → (at v k).tree ≡ t → (at v k).version.deleted ≡ false → (tree_at v.trees t).standing ≡ Live
live_tree v t layer k key arena through within is live = by (tree_at v.trees t).standing refl
  where
    by : (s : Standing) → (tree_at v.trees t).standing ≡ s → (tree_at v.trees t).standing ≡ Live
    by (Made q) e = absurd (through.unmade q e)
    by Live e = e
    by Dead e = absurd ((arena.forest.homes k t within through.there).standing is live e)

-- a walk at a node of either kind
arrived_by : (v : ArenaView) (past : Past) (key : Bytes) (row : Option Stamped) (w : Walk) (border : Bool) (aim : Aim)
    → (border ≡ true → IsAtBorder v key w) → (border ≡ false → IsAtPick v key w) → KeptAt (arrival_at border aim) v past key row w
arrived_by v past key row w true aims.Read f g = f refl
arrived_by v past key row w true aims.Write f g = f refl
arrived_by v past key row w true aims.Scan f g = f refl
arrived_by v past key row w false aim f g = g refl

-- a walk that comes to a node which covers the slice keeps what its next phase asks, by the node's kind
pub arrived : (v : ArenaView) (past : Past) (key : Bytes) (row : Option Stamped) (w : Walk) (k : ℕ) (seen : Parts) → IsArena v.nodes v.trees
    → GoesThrough v w.place.tree w.layer key → Covers v w.place.tree k seen (slice_in key w) → IsKept v past key row (walk_onto w k seen)
arrived v past key row w k seen arena through covers =
    let node = arena.nodes.each k covers.remembered.there in
    arrived_by v past key row (walk_onto w k seen) seen.border w.aim
    (λ is. record { through = through; covers = covers; border = node.kind.border (covers.remembered.was.ages.border ∙ is) })
    (λ is. record { through = through; covers = covers; interior = node.kind.interior (covers.remembered.was.ages.border ∙ is) })

-- an unmarked root has the whole range
pub covers_root : (v : ArenaView) (t layer : ℕ) (key : Bytes) → IsArena v.nodes v.trees → GoesThrough v t layer key
    → (tree_at v.trees t).standing ≢ Dead → IsStable (at v (tree_at v.trees t).root).version
    → Covers v t (tree_at v.trees t).root (at v (tree_at v.trees t).root).version (slice_of key layer)
covers_root v t layer key arena through undead stable =
    let k = (tree_at v.trees t).root in
    let n = at v k in
    let within = (arena.forest.each t through.there).root_there in
    let home = arena.forest.homes k t within through.there in
    let root = home.root_is refl undead in
    let node = arena.nodes.each k within in
    let end : end_of n.high ≡ end_of None = ap end_of (sym (node.reach.exact stable.1) ∙ root.reach) in
    let below = slice_of_lt key layer through.of_tree.stored.are_bytes in
    record {
      remembered = record {
        there = within;
        tree_is = home.root_tree refl undead;
        was = seen_now n stable;
        undeleted = root.live;
        from = omega (arith, root.low);
        peopled = λ inner. node.children.peopled inner (omega (arith, root.low, end));
      };
      below = λ stands. omega (arith, end, below);
    }

-- a walk that comes to the root of a tree
pub kept_entered : (v : ArenaView) (past : Past) (key : Bytes) (row : Option Stamped) (w : Walk) → IsArena v.nodes v.trees
    → GoesThrough v w.place.tree w.layer key → (tree_at v.trees w.place.tree).standing ≢ Dead
    → IsStable (at v (tree_at v.trees w.place.tree).root).version
    → IsKept v past key row (walk_onto w (tree_at v.trees w.place.tree).root (at v (tree_at v.trees w.place.tree).root).version)
kept_entered v past key row w arena through undead stable =
    let k = (tree_at v.trees w.place.tree).root in
    arrived v past key row w k (at v k).version arena through (covers_root v w.place.tree w.layer key arena through undead stable)

-- the child of an interior node for a slice is there
pub has_child : (count : ℕ) (n : NodeView) (slice : ℕ) → IsNode count n → n.children ≢ [] → place_of n.separators slice < length n.children
has_child count n slice node some = by n.children refl
  where
    by : (xs : List ℕ) → n.children ≡ xs → place_of n.separators slice < length n.children
    by [] e = absurd (some e)
    by (x ∷ xs) e = omega (arith, place_of-le-length n.separators slice, node.children.interior.between, ap length e)

-- an interior node's child is that of its view
pub same_child : (n : NodeView) (i : InteriorNode) (slice : ℕ) → n.separators ≡ i.separators → n.children ≡ i.children
    → slice_index i.children (place_of i.separators slice) ≡ child_for n slice
same_child n i slice separators children = rw (separators, children) refl

-- a walk with the child for the slice
pub kept_picked : (v : ArenaView) (key : Bytes) (w : Walk) → IsArena v.nodes v.trees → IsAtPick v key w
    → IsAtChild v key (after_pick w (child_for (at v w.place.node) (slice_in key w)))
kept_picked v key w arena h =
    let n = at v w.place.node in
    let node = arena.nodes.each w.place.node h.covers.remembered.there in
    record {
      above = record { through = h.through; covers = h.covers; interior = h.interior };
      picked = record { there = node.names.children (place_of n.separators (slice_in key w)) (has_child (length v.nodes) n (slice_in key w) node (h.covers.remembered.peopled h.interior)); is = λ stands. refl };
    }

-- where the interior node's version stands, the child has the slice
pub covers_child : (v : ArenaView) (key : Bytes) (w : Walk) → IsArena v.nodes v.trees → IsAtVerify v key w → Stands (at v w.place.node) w.place.seen
    → Covers v w.place.tree w.child w.child_seen (slice_in key w)
covers_child v key w arena h stands =
    let k = w.place.node in
    let n = at v k in
    let m = at v w.child in
    let slice = slice_in key w in
    let place = place_of n.separators slice in
    let remembered = h.above.covers.remembered in
    let node = arena.nodes.each k remembered.there in
    let inside = has_child (length v.nodes) n slice node (remembered.peopled h.above.interior) in
    let c : IsChild n place m = (arena.nodes.pairs k w.child remembered.there h.picked.there).child place inside (sym (h.picked.is stands)) stands.in_range.live in
    let between : IsWithinBounds (bounds n) place slice = between-place n.low n.separators n.high slice place (place_of-parts n.separators slice node.children.interior.rising) remembered.from (h.above.covers.below stands.in_range) in
    let child = arena.nodes.each w.child h.picked.there in
    let was = h.child in
    let below : RangeStands m w.child_seen → slice < end_of m.high = λ same.
    let whole = (versions.range_age_tells m.version w.child_seen same.range).1 ∙ was.whole in
    omega (arith, between.1, c.reach, ap end_of (child.reach.exact whole)) in
    record {
      remembered = record {
        there = h.picked.there;
        tree_is = c.tree ∙ remembered.tree_is;
        was = was;
        undeleted = was_live w.child_seen.deleted m.version.deleted was.ages.deleted c.live;
        from = omega (arith, between.0, c.low);
        peopled = λ inner. child.children.peopled inner ((arena.ranged.each w.child h.picked.there).parent c.knows);
      };
      below = below;
    }
  where
    was_live : (a b : Bool) → (a ≡ true → b ≡ true) → b ≡ false → a ≡ false
    was_live true b stays live = absurd (let dead = stays refl in cc)
    was_live false b stays live = refl

-- a walk that goes on at the child
pub kept_verified : (v : ArenaView) (past : Past) (key : Bytes) (row : Option Stamped) (w : Walk) → IsArena v.nodes v.trees → IsAtVerify v key w
    → SameButLock (at v w.place.node).version w.place.seen → IsKept v past key row (walk_onto w w.child w.child_seen)
kept_verified v past key row w arena h same =
    arrived v past key row w w.child w.child_seen arena h.above.through
    (covers_child v key w arena h (same_stands (at v w.place.node) w.place.seen h.above.covers.remembered.undeleted same))

-- what is remembered of an unmarked live border node and its next one
pub next_now : (v : ArenaView) (k : ℕ) → IsArena v.nodes v.trees → k < length v.nodes → (at v k).level ≡ 0 → IsStable (at v k).version
    → (at v k).version.deleted ≡ false → HasNext v (at v k).tree k (at v k).version (at v k).next
next_now v k arena within border stable live =
    let n = at v k in
    let node = arena.nodes.each k within in
    record {
      there = λ j is. node.names.next j is;
      tree_is = λ j is. ((arena.nodes.pairs k j within (node.names.next j is)).next live is).tree;
      border = λ j is. ((arena.nodes.pairs k j within (node.names.next j is)).next live is).level ∙ border;
      after =
          λ j is. omega (arith, (arena.ranged.each k within).unmarked stable.1 live, ap end_of (((arena.nodes.pairs k j within (node.names.next j is)).next live is).meets));
      meets = λ j is stands. omega (arith, ap end_of (((arena.nodes.pairs k j within (node.names.next j is)).next live is).meets));
      last = λ none stands. omega (arith, ap end_of (node.chain.last border ((arena.ranged.each k within).unmarked stable.1 live) none));
    }

-- an unmarked border node that is live, behind whose low fence the slice lies, is one from which the walk may go on
pub kept_there : (v : ArenaView) (key : Bytes) (w : Walk) (j : ℕ) → IsArena v.nodes v.trees → GoesThrough v w.place.tree w.layer key
    → j < length v.nodes → (at v j).tree ≡ w.place.tree → (at v j).level ≡ 0 → IsStable (at v j).version → (at v j).version.deleted ≡ false
    → (at v j).low ≤ slice_in key w
    → IsAtForward v key (walk_to_next w j (at v j))
kept_there v key w j arena through within is border stable live from = record {
  through = through;
  remembered = record {
    there = within;
    tree_is = is;
    was = seen_now (at v j) stable;
    undeleted = live;
    from = from;
    peopled = λ inner. absurd (omega (arith, inner, border));
  };
  border = border;
  next = subst (λ t. HasNext v t j (at v j).version (at v j).next) is (next_now v j arena within border stable live);
}

-- where the slice lies before the next node, or there is none, it lies in this one as long as the range stands
pub covers_here : (v : ArenaView) (key : Bytes) (w : Walk) → IsAtForward v key w → ((j : ℕ) → w.next ≡ Some j → slice_in key w < (at v j).low)
    → IsAtBorder v key w
covers_here v key w h before = record {
  through = h.through;
  covers = record { remembered = h.remembered; below = λ stands. by w.next refl stands };
  border = h.border;
}
  where
    by : (next : Option ℕ) → w.next ≡ next → RangeStands (at v w.place.node) w.place.seen → slice_in key w < end_of (at v w.place.node).high
    by None e stands = omega (arith, slice_of_lt key w.layer h.through.of_tree.stored.are_bytes, h.next.last e stands)
    by (Some j) e stands = omega (arith, before j e, h.next.meets j e stands)

arrives : (v : ArenaView) (past : Past) (key : Bytes) (row : Option Stamped) (w : Walk) (aim : Aim) → IsAtBorder v key w
    → KeptAt (arrival aim) v past key row w
arrives v past key row w aims.Read h = h
arrives v past key row w aims.Write h = h
arrives v past key row w aims.Scan h = h

-- a walk that stays at its border node, since the slice lies before the next one
pub kept_here : (v : ArenaView) (past : Past) (key : Bytes) (row : Option Stamped) (w : Walk) → IsAtForward v key w
    → ((j : ℕ) → w.next ≡ Some j → slice_in key w < (at v j).low) → IsKept v past key row (walk_here w)
kept_here v past key row w h before =
    let b = covers_here v key w h before in
    arrives v past key row (walk_here w) w.aim record { through = b.through; covers = b.covers; border = b.border }

-- or since there is no next one
pub kept_last : (v : ArenaView) (past : Past) (key : Bytes) (row : Option Stamped) (w : Walk) → IsAtForward v key w → w.next ≡ None
    → IsKept v past key row (walk_here w)
kept_last v past key row w h none = kept_here v past key row w h (λ j is. absurd (let both = sym none ∙ is in cc))

-- a walk that has read the next node, which is unmarked: anew, there, or here
pub kept_forwarded : (v : ArenaView) (past : Past) (key : Bytes) (row : Option Stamped) (w : Walk) (j : ℕ) → IsArena v.nodes v.trees
    → IsAtForward v key w → w.next ≡ Some j → IsStable (at v j).version → IsKept v past key row (after_forward w (slice_in key w) j (at v j))
kept_forwarded v past key row w j arena h is stable = by (at v j).version.deleted refl
  where
    to : (b : Bool) → nat_le (at v j).low (slice_in key w) ≡ b → (at v j).version.deleted ≡ false
        → IsKept v past key row (if b then walk_to_next w j (at v j) else walk_here w)
    to true e live = kept_there v key w j arena h.through (h.next.there j is) (h.next.tree_is j is) (h.next.border j is) stable live (leb-true _ _ e)
    to false e live =
        kept_here v past key row w h (λ i at_i. omega (arith, leb-false (at v j).low (slice_in key w) e, ap (λ k. (at v k).low) (same_Some _ _ (sym at_i ∙ is))))

    by : (b : Bool) → (at v j).version.deleted ≡ b
        → IsKept v past key row (if b then walk_anew w else (if nat_le (at v j).low (slice_in key w) then walk_to_next w j (at v j) else walk_here w))
    by true e = record { there = h.through.there; unmade = h.through.unmade; of_tree = h.through.of_tree; begun = h.through.begun }
    by false e = to (nat_le (at v j).low (slice_in key w)) refl e

-- a walk whose border node has changed, and is unmarked: anew, or to the next one
pub kept_moved_on : (v : ArenaView) (past : Past) (key : Bytes) (row : Option Stamped) (w : Walk) → IsArena v.nodes v.trees → IsAtBorder v key w
    → IsStable (at v w.place.node).version → IsKept v past key row (after_change w (at v w.place.node).version (at v w.place.node).next)
kept_moved_on v past key row w arena h stable = by (at v w.place.node).version.deleted refl
  where
    by : (b : Bool) → (at v w.place.node).version.deleted ≡ b → IsKept v past key row (if b then walk_anew w else record w { place = record w.place { seen = (at v w.place.node).version }; next = (at v w.place.node).next; phase = Forward })
    by true e = record { there = h.through.there; unmade = h.through.unmade; of_tree = h.through.of_tree; begun = h.through.begun }
    by false e =
        let f = kept_there v key w w.place.node arena h.through h.covers.remembered.there h.covers.remembered.tree_is h.border stable e h.covers.remembered.from in
        record { through = f.through; remembered = f.remembered; border = f.border; next = f.next }

-- a node that nobody holds is unmarked
pub free_stable : (count : ℕ) (n : NodeView) → IsNode count n → n.holder ≡ None → IsStable n.version
free_stable count n node free = (is_false n.version.inserting (λ e. node.lock.inserting e free), is_false n.version.splitting (λ e. node.lock.splitting e free))
  where
    is_false : (b : Bool) → (b ≢ true) → b ≡ false
    is_false true not = absurd (not refl)
    is_false false not = refl
