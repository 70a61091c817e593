-- Nodes keep their ranges where several change at once, in splits, under a new root, and where a node is taken out: for the calls that do
-- so.
use Rattle.mt_border.specs.Slots.{Slotted}
use Rattle.std.proofs.Common.{◌≡◌, ◌-◌, ◌≢◌, false, ℕ, ◌<◌, List, [], ◌∷◌, ◌++◌, length, Some, None, set, refl, sym, ap, subst, ◌∙◌, arith}
use Rattle.std.proofs.{lemmas.Option.same_Some, lemmas.List.length-set}
use Rattle.mt_border.specs.declared.entry.Entry.{Entry}
use Rattle.mt_interior.specs.Fences.{end_of}
use Rattle.mt_arena.specs.{NodeView.{NodeView, node_at}, Nodes.{AreNodes, HasRange}, Ranges.{IsRanged, AreRanged, AreTied, IsLeftHalf, Waits}}
use Rattle.mt_arena.specs.{Edits.{retired, splitting, fresh_half}, Unlinks.{Unlinks, joined, without_child}}
use Rattle.mt_arena.specs.Splits.{Splits, left_half, right_half, with_child, exact, inner_left, inner_right}
use Rattle.mt_arena.specs.{Growth.{AreRootHalves, left_below, right_below}, Several.halves_below}
use Rattle.mt_arena.proofs.{Pairs.{here, there, nodes_set, pairs_set2, pairs_set3}, Naming.each_set2, Unlink.{differ_ij, differ_iq, differ_jq}}
use Rattle.mt_arena.proofs.Ranged.{stays, IsBeside, all_beside, no_wait, tied_to, ranged_from, ranged_set, ranged_marked, with_range, ranged_push, ranged_more}

-- a right half more, beside its left half, which is marked
pub ranged_half : (xs : List NodeView) (i low op : ℕ) → i < length xs → AreNodes (set xs i (splitting (node_at xs i))) → AreRanged xs
    → (node_at xs i).version.deleted ≡ false → (node_at xs i).level ≡ 0 → HasRange (node_at xs i) → (node_at xs i).holder ≡ Some op
    → AreRanged (set xs i (splitting (node_at xs i)) ++ fresh_half (node_at xs i) i low op ∷ [])
ranged_half xs i low op within nodes ranged live level range held =
    let x = node_at xs i in
    let m = splitting x in
    let ys = set xs i m in
    let y = fresh_half x i low op in
    let size = length-set xs i m in
    ranged_push ys y (all_beside ys nodes) (ranged_marked xs i x.slots x.cells m.version within ranged refl (λ _. refl) (λ e. absurd (cc)))
    record { next = λ some. absurd (some refl); parent = λ some. absurd (some refl); unmarked = λ whole. absurd (cc); interior = λ above. absurd (omega (arith, above, level)); named = λ _ none. absurd (cc); fits = λ none. absurd (omega (arith, none)) }
    refl (λ e. absurd (omega (arith, same_Some _ _ e, within, size)))
    (λ j lt e _. subst (λ k. IsLeftHalf (node_at ys k) y) (same_Some _ _ e) (rw (here xs i m within) (record { live = live; range = range; marked = refl; tree = refl; level = refl; holder = held })))

-- both halves of a split have a range
pub ranged_split_move : (xs : List NodeView) (i j : ℕ) (kept moved : List Entry) (kept_cells moved_cells : Slotted) → i < length xs → j < length xs → i ≢ j → AreRanged xs
    → Splits (node_at xs i) (node_at xs j) kept moved
    → AreRanged (set (set xs i (left_half (node_at xs i) kept kept_cells (node_at xs j).low j)) j (right_half (node_at xs i) (node_at xs j) moved moved_cells i))
ranged_split_move xs i j kept moved kept_cells moved_cells li lj differ ranged s =
    let x = node_at xs i in
    let r = node_at xs j in
    let y = left_half x kept kept_cells r.low j in
    let z = right_half x r moved moved_cells i in
    let fits = (ranged.each i li).fits (omega (arith, s.above, s.below)) in
    let to_y : (k : ℕ) → k < length xs → AreTied k (node_at xs k) i y = λ k lk. tied_to k (node_at xs k) i x y (stays x y refl refl (λ _. s.above) refl refl refl) (ranged.ties k i lk li) in
    let to_z : (k : ℕ) → k < length xs → AreTied k (node_at xs k) j z = λ k lk. tied_to k (node_at xs k) j r z (stays r z refl refl (λ _. s.below) refl refl refl) (ranged.ties k j lk lj) in
    record {
      each =
          nodes_set IsRanged (set xs i y) j z (omega (arith, lj, length-set xs i y)) (nodes_set IsRanged xs i y li ranged.each (with_range y s.above (omega (arith, s.below, fits)))) (with_range z s.below fits);
      ties = pairs_set2 AreTied xs i j y z li lj differ ranged.ties
          (ranged_from i y i y s.above (λ _ e. s.above))
          (ranged_from j z j z s.below (λ _ e. s.below))
          (ranged_from i y j z s.above (λ _ e. s.below))
          (ranged_from j z i y s.below (λ _ e. s.above))
          (λ k lk ni nj. (
            (ranged_from i y k (node_at xs k) s.above (λ _ e. absurd (nj (sym (same_Some _ _ e)))), to_y k lk),
            (ranged_from j z k (node_at xs k) s.below (λ _ e. (ranged.ties i k li lk).next s.live e), to_z k lk),
          ));
    }

-- another reach changes no range
ranged_exact : (xs : List NodeView) (j : ℕ) → j < length xs → AreRanged xs → AreRanged (set xs j (exact (node_at xs j)))
ranged_exact xs j lj ranged =
    let h = ranged.each j lj in
    ranged_set xs j (exact (node_at xs j)) lj ranged (record { next = h.next; parent = h.parent; unmarked = h.unmarked; interior = h.interior; named = h.named; fits = h.fits })
    (stays (node_at xs j) (exact (node_at xs j)) refl refl (λ range. range) refl refl refl) refl (λ waits. (waits, refl))

-- beside a node that was changed
exact_beside : (xs : List NodeView) (i j : ℕ) (y : NodeView) → i ≢ j → j < length xs → AreRanged (set xs i y)
    → AreRanged (set (set xs i y) j (exact (node_at xs j)))
exact_beside xs i j y differ lj ranged =
    subst (λ (n : NodeView). AreRanged (set (set xs i y) j (exact n))) (there xs i j y (λ e. differ (sym e))) (ranged_exact (set xs i y) j (omega (arith, lj, length-set xs i y)) ranged)

-- a right half that comes to stand in the parent changes no range
pub ranged_insert_child : (xs : List NodeView) (i j s q : ℕ) → i < length xs → j < length xs → i ≢ j → AreRanged xs
    → AreRanged (set (set xs i (with_child (node_at xs i) s q)) j (exact (node_at xs j)))
ranged_insert_child xs i j s q li lj differ ranged =
    let y = with_child (node_at xs i) s q in
    let h = ranged.each i li in
    exact_beside xs i j y differ lj (ranged_set xs i y li ranged (record { next = h.next; parent = h.parent; unmarked = h.unmarked; interior = h.interior; named = h.named; fits = h.fits })
    (stays (node_at xs i) y refl refl (λ range. range) refl refl refl) refl (λ waits. (waits, refl)))

-- an interior node that is parted has one, and so has its right half
pub ranged_parts_left : (xs : List NodeView) (i j s q op : ℕ) → i < length xs → j < length xs → i ≢ j → AreRanged xs
    → HasRange (inner_left (with_child (splitting (node_at xs i)) s q)) → HasRange (inner_right (with_child (splitting (node_at xs i)) s q) op)
    → AreRanged (set (set xs i (inner_left (with_child (splitting (node_at xs i)) s q))) j (exact (node_at xs j)))
ranged_parts_left xs i j s q op li lj differ ranged left right =
    let x = node_at xs i in
    let y = inner_left (with_child (splitting x) s q) in
    let fits = (ranged.each i li).fits (omega (arith, left, right)) in
    exact_beside xs i j y differ lj (ranged_set xs i y li ranged (with_range y left (omega (arith, right, fits))) (record { live = λ live. live; was = λ live. live; range = λ _. left; marked = λ _. refl; tree = refl; level = refl; holder = refl }) refl (λ waits. absurd (no_wait y left waits)))

pub ranged_parts : (xs : List NodeView) (i j s q op : ℕ) → i < length xs → j < length xs → i ≢ j → AreNodes xs → AreRanged xs
    → HasRange (inner_left (with_child (splitting (node_at xs i)) s q)) → HasRange (inner_right (with_child (splitting (node_at xs i)) s q) op)
    → AreRanged (set (set xs i (inner_left (with_child (splitting (node_at xs i)) s q))) j (exact (node_at xs j)) ++ inner_right (with_child (splitting (node_at xs i)) s q) op ∷ [])
ranged_parts xs i j s q op li lj differ nodes ranged left right =
    let wide = with_child (splitting (node_at xs i)) s q in
    let y = inner_left wide in
    let z = exact (node_at xs j) in
    let ws = set (set xs i y) j z in
    let size : length ws ≡ length xs = length-set (set xs i y) j z ∙ length-set xs i y in
    ranged_more ws (inner_right wide op)
    (λ k lk. subst (λ c. IsBeside c (node_at ws k)) (sym size) (each_set2 (λ k n. IsBeside (length xs) n) xs i j y z li lj differ (all_beside xs nodes i li) (all_beside xs nodes j lj) (λ k lk _ _. all_beside xs nodes k lk) k (omega (arith, lk, size))))
    (ranged_parts_left xs i j s q op li lj differ ranged left right) right ((ranged.each i li).fits (omega (arith, left, right))) refl

-- the halves of a root have one each below a new root
pub ranged_halves_below : (xs : List NodeView) (i j top : ℕ) → AreRanged xs → AreRootHalves xs i j → AreRanged (halves_below xs i j top)
ranged_halves_below xs i j top ranged f =
    let x = node_at xs i in
    let r = node_at xs j in
    let y = left_below x top in
    let z = right_below r top in
    let left : HasRange y = omega (arith, f.left_low, f.above, ap end_of f.fence) in
    let right : HasRange z = omega (arith, f.below, ap end_of f.right_high) in
    let one = ranged_set xs i y f.left_there ranged (with_range y left ((ranged.each i f.left_there).fits left)) (stays x y refl refl (λ range. range) refl refl refl) refl (λ waits. absurd (no_wait y left waits)) in
    let at_j : node_at (set xs i y) j ≡ r = there xs i j y (λ e. f.differ (sym e)) in
    ranged_set (set xs i y) j z (omega (arith, f.right_there, length-set xs i y)) one (with_range z right ((ranged.each j f.right_there).fits right))
    (rw at_j (stays r z refl refl (λ range. range) refl refl refl)) (rw at_j refl) (λ waits. absurd (no_wait z right waits))

-- the left neighbour of a node that is taken out ends where that ended; nobody waits at a node that is not being split
pub ranged_unlinked : (xs : List NodeView) (i j q a : ℕ) → AreNodes xs → AreRanged xs → Unlinks xs i j q a
    → AreRanged (set (set (set xs i (joined (node_at xs i) (node_at xs j))) j (retired (node_at xs j))) q (without_child (node_at xs q) a))
ranged_unlinked xs i j q a nodes ranged f =
    let ij = differ_ij xs i j q a nodes ranged f in
    let iq = differ_iq xs i j q a nodes ranged f in
    let jq = differ_jq xs i j q a nodes ranged f in
    let l = node_at xs i in
    let x = node_at xs j in
    let p = node_at xs q in
    let y = joined l x in
    let w = retired x in
    let v = without_child p a in
    let old = (nodes.pairs q j f.parent_there f.removed_there).child a f.in_range f.child f.parent_live in
    let left_old = (nodes.pairs q i f.parent_there f.left_there).child (a - 1) (omega (arith, f.in_range)) f.left_child f.parent_live in
    let some : l.next ≢ None = λ none. absurd (let next = f.next in cc) in
    let behind : HasRange x = (ranged.each j f.removed_there).parent old.knows in
    let range : HasRange y = omega (arith, (ranged.each i f.left_there).next some, behind, ap end_of (((nodes.pairs i j f.left_there f.removed_there).next left_old.live f.next).meets)) in
    let fits = (ranged.each j f.removed_there).fits behind in
    let size = length-set xs i y in
    let size2 = length-set (set xs i y) j w in
    let h = ranged.each j f.removed_there in
    let g = ranged.each q f.parent_there in
    let gone : Waits w → ⊥ = λ waits. absurd (let dead = waits.0 in cc) in
    let to_y : (k : ℕ) → k < length xs → AreTied k (node_at xs k) i y = λ k lk. tied_to k (node_at xs k) i l y (stays l y refl refl (λ _. range) refl refl refl) (ranged.ties k i lk f.left_there) in
    let to_w : (k : ℕ) → k < length xs → AreTied k (node_at xs k) j w = λ k lk. record {
      next = (ranged.ties k j lk f.removed_there).next;
      left = λ e waits. absurd (let marked = ((ranged.ties k j lk f.removed_there).left e waits).marked in let whole = f.removed_whole in cc);
    } in
    let to_v : (k : ℕ) → k < length xs → AreTied k (node_at xs k) q v = λ k lk. tied_to k (node_at xs k) q p v (stays p v refl refl (λ range. range) refl refl refl) (ranged.ties k q lk f.parent_there) in
    let from_v : (k : ℕ) (m : NodeView) → AreTied q p k m → AreTied q v k m = λ k m h. record {
      next = h.next;
      left =
          λ e waits. let t = h.left e waits in record { live = t.live; range = t.range; marked = t.marked; tree = t.tree; level = t.level; holder = t.holder };
    } in
    let from_y : (k : ℕ) (m : NodeView) → (y.next ≡ Some k → HasRange m) → AreTied i y k m = λ k m next. ranged_from i y k m range (λ _ e. next e) in
    let from_w : (k : ℕ) (m : NodeView) → AreTied j w k m = λ k m. record { next = λ live. absurd (cc); left = λ e waits. absurd (gone waits) } in
    record {
      each = nodes_set IsRanged (set (set xs i y) j w) q v (omega (arith, f.parent_there, size, size2))
          (nodes_set IsRanged (set xs i y) j w (omega (arith, f.removed_there, size))
          (nodes_set IsRanged xs i y f.left_there ranged.each (with_range y range fits))
          (record { next = h.next; parent = h.parent; unmarked = λ whole live. absurd (cc); interior = λ above live. absurd (cc); named = λ waits. absurd (gone waits); fits = h.fits }))
          (record { next = g.next; parent = g.parent; unmarked = g.unmarked; interior = g.interior; named = g.named; fits = g.fits });
      ties = pairs_set3 AreTied xs i j q y w v f.left_there f.removed_there f.parent_there ij iq jq ranged.ties
          (from_y i y (λ _. range)) (from_w j w) (from_v q v (to_v q f.parent_there))
          (from_y j w (λ _. behind), from_w i y)
          (from_y q v ((ranged.ties j q f.removed_there f.parent_there).next f.removed_live), from_v i y (to_y q f.parent_there))
          (from_w q v, from_v j w (to_w q f.parent_there))
          (λ k lk ni nj nq. (
            (from_y k (node_at xs k) ((ranged.ties j k f.removed_there lk).next f.removed_live), to_y k lk),
            (from_w k (node_at xs k), to_w k lk),
            (from_v k (node_at xs k) (ranged.ties q k f.parent_there lk), to_v k lk),
          ));
    }
