-- The facts of nodes and ranges are kept as a root gives way to its only child, and no live node leads to a root: for a call that
-- collapses a tree.
use Rattle.std.proofs.Common.{◌≡◌, ◌≢◌, ℕ, ◌<◌, List, length, get_or, Bool, Option, Some, None, true, false, set, refl, ap, subst, inl, inr, arith}
use Rattle.std.proofs.{lemmas.Bool.cases_eq, lemmas.List.length-set}
use Rattle.mt_interior.specs.Fences.{end_of}
use Rattle.mt_arena.specs.{NodeView.{NodeView, node_at}, Nodes.{AreNodes, IsPair}, Ranges.AreRanged, Edits.retired, Collapses.{Collapses, crowned}}
use Rattle.mt_arena.proofs.{Pairs.{are_set, here, there}, Ranged.{no_wait, stays, ranged_set, ranged_retired}, Ranges.one_parent}
use Rattle.mt_arena.proofs.Retire.{IsLeft, nodes_retired}

-- what has a value is something
some_is : (o : Option ℕ) (k : ℕ) → o ≡ Some k → o ≢ None
some_is o k e none = absurd (cc)

-- a flag that is not false
pub is_true : (b : Bool) → (b ≡ false → ⊥) → b ≡ true
is_true true live = refl
is_true false live = absurd (live refl)

-- no live node leads to a root
pub root_left : (xs : List NodeView) (i : ℕ) → i < length xs → AreNodes xs → AreRanged xs → (node_at xs i).low ≡ 0 → (node_at xs i).parent ≡ None → IsLeft xs i
root_left xs i within nodes ranged low parentless = record {
  nobodys_next = λ k lt e. is_true _ (λ live.
      let high = ap end_of (((nodes.pairs k i lt within).next live e).meets) in
      let range = (ranged.each k lt).next (some_is _ i e) in
      omega (arith, high, range, low));
  nobodys_child = λ k a lt la e. is_true _ (λ live. ((nodes.pairs k i lt within).child a la e live).knows parentless);
}

-- a node that is no live node's child becomes the root
crowned_from : (k : ℕ) (n : NodeView) (j : ℕ) (m : NodeView) → IsPair k n j m → IsPair k (crowned n) j m
crowned_from k n j m h = record {
  next = h.next;
  named = λ live free. record { back = (h.named live free).back; live = (h.named live free).live; knows = λ e. absurd (cc) };
  child = h.child;
  apart = h.apart;
}

crowned_to : (k : ℕ) (n : NodeView) (j : ℕ) (m : NodeView) → IsPair k n j m
    → ((i : ℕ) → i < length n.children → get_or n.children i 0 ≡ j → n.version.deleted ≡ true) → IsPair k n j (crowned m)
crowned_to k n j m h none = record {
  next = h.next;
  named = h.named;
  child = λ i lt e live. absurd (let dead = none i lt e in cc);
  apart = h.apart;
}

-- a node that no live node has as a child may become a root
pub nodes_crowned : (xs : List NodeView) (i : ℕ) → i < length xs → AreNodes xs
    → ((k a : ℕ) → k < length xs → a < length (node_at xs k).children → get_or (node_at xs k).children a 0 ≡ i → (node_at xs k).version.deleted ≡ true)
    → AreNodes (set xs i (crowned (node_at xs i)))
nodes_crowned xs i within nodes none =
    let x = node_at xs i in
    let h = nodes.each i within in
    are_set xs i (crowned x) within nodes record {
      names = record {
        next = h.names.next;
        previous = h.names.previous;
        parent = λ j e. absurd (cc);
        children = h.names.children;
      };
      lock = h.lock;
      kind = h.kind;
      slots = h.slots;
      children = h.children;
      reach = h.reach;
      chain = h.chain;
      rooted = λ live free parentless. refl;
    }
    (crowned_from i x i (crowned x) (crowned_to i x i x (nodes.pairs i i within within) (λ a. none i a within)))
    (λ j lt other. crowned_from i x j (node_at xs j) (nodes.pairs i j within lt))
    (λ j lt other. crowned_to j (node_at xs j) i x (nodes.pairs j i lt within) (λ a. none j a lt))

-- a child is another node
differ_from : (xs : List NodeView) (i q : ℕ) → AreNodes xs → Collapses xs i q → i ≢ q
differ_from xs i q nodes f e =
    let c = (nodes.pairs q i f.root_there f.child_there).child f.child.place f.child.in_range f.child.is f.child.live in
    omega (arith, c.level, ap (λ k. (node_at xs k).level) e)

-- the root is taken out, and its child is the root
pub nodes_collapsed : (xs : List NodeView) (i q : ℕ) → AreNodes xs → AreRanged xs → Collapses xs i q
    → AreNodes (set (set xs q (retired (node_at xs q))) i (crowned (node_at xs i)))
nodes_collapsed xs i q nodes ranged f =
    let p = node_at xs q in
    let ys = set xs q (retired p) in
    let size = length-set xs q (retired p) in
    let differ = differ_from xs i q nodes f in
    let old : node_at ys i ≡ node_at xs i = there xs q i (retired p) differ in
    let gone : AreNodes ys = nodes_retired xs q f.root_there nodes f.root_held (root_left xs q f.root_there nodes ranged f.root_low f.parentless) in
    subst (λ (w : NodeView). AreNodes (set ys i (crowned w))) old (nodes_crowned ys i (omega (arith, f.child_there, size)) gone (λ k a lk. elim (cases_eq k q) [
      | inl same ↦ rw (same, here xs q (retired p) f.root_there) (λ la e. refl)
      | inr other ↦ rw (there xs q k (retired p) other) (λ la e. is_true _ (λ live.
          other (one_parent xs q k i f.child.place a nodes f.root_there (omega (arith, lk, size)) f.child_there f.child.live live f.child.in_range f.child.is la e)))
    ]))

-- who has a range stays so where a root gives way to its child
pub ranged_collapsed : (xs : List NodeView) (i q : ℕ) → AreNodes xs → AreRanged xs → Collapses xs i q
    → AreRanged (set (set xs q (retired (node_at xs q))) i (crowned (node_at xs i)))
ranged_collapsed xs i q nodes ranged f =
    let p = node_at xs q in
    let x = node_at xs i in
    let c = (nodes.pairs q i f.root_there f.child_there).child f.child.place f.child.in_range f.child.is f.child.live in
    let at_i : node_at (set xs q (retired p)) i ≡ x = there xs q i (retired p) (differ_from xs i q nodes f) in
    let h = ranged.each i f.child_there in
    let gone = ranged_retired xs q f.root_there ranged (λ k lk e waits. no_wait (node_at xs k) ((ranged.each k lk).interior (omega (arith, ((ranged.ties k q lk f.root_there).left e waits).level, c.level)) waits.0) waits) in
    ranged_set (set xs q (retired p)) i (crowned x) (omega (arith, f.child_there, length-set xs q (retired p))) gone
    (record { next = h.next; parent = λ some. absurd (some refl); unmarked = h.unmarked; interior = h.interior; named = h.named; fits = h.fits })
    (rw at_i (stays x (crowned x) refl refl (λ range. range) refl refl refl)) (rw at_i refl) (rw at_i (λ waits. (waits, refl)))
