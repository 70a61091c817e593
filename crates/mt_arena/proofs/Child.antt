-- The facts of nodes are kept as a right half comes to stand in its parent: for `Inserting` and `InnerSplit`.
use Rattle.std.proofs.Common.{◌≡◌, ◌≢◌, ℕ, ◌+◌, ◌-◌, ◌<◌, ◌≤◌, List, [], length, get_or, false, set, refl, sym, ap, subst, ◌∙◌, inl, inr, arith}
use Rattle.std.proofs.{lemmas.Bool.{cases_eq, cases_lt}, lemmas.List.length-set}
use Rattle.std.proofs.lemmas.List.Edits.{length-insert, get_or-insert_below, get_or-insert_at, get_or-insert_above}
use Rattle.std.specs.List.{insert}
use Rattle.mt_lists.{specs.Rising.IsRising, proofs.Rises.rising_insert}
use Rattle.mt_interior.{specs.{Places.place_of, Fences.end_of}, proofs.{PlaceLemmas.place_of-between, CallerLemmas.bounds_of-insert}}
use Rattle.mt_arena.specs.{NodeView.{NodeView, node_at}, Nodes.{AreNodes, AllNodes, AllPairs, IsNode, IsPair, IsChild, bounds}}
use Rattle.mt_arena.specs.Splits.{Inserts, with_child, exact}
use Rattle.mt_arena.proofs.{Pairs.{pairs_set2, nodes_set}, Ranges.{rises, not_empty, length_bounds, separators_rise, one_parent, one_place}}

-- what stands behind an element that was put in
above_insert : (xs : List ℕ) (a s b : ℕ) → a ≤ length xs → a < b → get_or (insert xs a s) b 0 ≡ get_or xs (b - 1) 0
above_insert xs a s b within lt =
    subst (λ q. get_or (insert xs a s) q 0 ≡ get_or xs (b - 1) 0) {x = b - 1 + 1} (omega arith) (get_or-insert_above xs a s 0 (b - 1) (omega arith) within)

-- each element of a list with one more
all_insert : (P : ℕ → Type 0) (xs : List ℕ) (at x : ℕ) → at ≤ length xs → P x → ((i : ℕ) → i < length xs → P (get_or xs i 0)) → (i : ℕ)
    → i < length xs + 1 → P (get_or (insert xs at x) i 0)
all_insert P xs at x within new old i lt = elim (cases_eq i at) [
  | inl is ↦ rw (is, get_or-insert_at xs at x 0 within) new
  | inr other ↦ elim (cases_lt i at) [
    | inl below ↦ rw (get_or-insert_below xs at x 0 i below within) (old i (omega arith))
    | inr above ↦ subst P (sym (above_insert xs at x i within (omega arith))) (old (i - 1) (omega arith))
  ]
]

module _ (xs : List NodeView) (i j q : ℕ) (nodes : AreNodes xs) (f : Inserts xs i j q) where
  abbrev p : NodeView
  p = node_at xs i

  abbrev l : NodeView
  l = node_at xs j

  abbrev r : NodeView
  r = node_at xs q

  abbrev a : ℕ
  a = f.child.place

  abbrev y : NodeView
  y = record p { separators = insert p.separators a r.low; children = insert p.children (a + 1) q }

  abbrev z : NodeView
  z = exact l

  h : IsNode (length xs) p
  h = nodes.each i f.parent_there

  -- the left half is child a of the parent
  pub left_child : IsChild p a l
  left_child = (nodes.pairs i j f.parent_there f.left_there).child a f.child.in_range f.child.is f.parent_live

  -- so the two are two nodes
  pub differ_ij : i ≢ j
  differ_ij e = omega (arith, left_child.level, ap (λ k. (node_at xs k).level) e)

  some : p.children ≢ []
  some = not_empty p.children a f.child.in_range

  size : length p.children ≡ length p.separators + 1
  size = omega (arith, h.children.interior.between, f.child.in_range)

  size_bounds : length (bounds p) ≡ length p.separators + 2
  size_bounds = length_bounds p

  at_separators : a ≤ length p.separators
  at_separators = omega (arith, size, f.child.in_range)

  at_children : a + 1 ≤ length p.children
  at_children = omega (arith, f.child.in_range)

  at_bounds : a + 1 ≤ length (bounds p)
  at_bounds = omega (arith, size_bounds, at_separators)

  bounds_are : bounds y ≡ insert (bounds p) (a + 1) r.low
  bounds_are = bounds_of-insert p.low p.separators p.high a r.low at_separators

  bounds_below : (b : ℕ) → b < a + 1 → get_or (bounds y) b 0 ≡ get_or (bounds p) b 0
  bounds_below b lt = ap (λ bs. get_or bs b 0) bounds_are ∙ get_or-insert_below (bounds p) (a + 1) r.low 0 b lt at_bounds

  bounds_at : get_or (bounds y) (a + 1) 0 ≡ r.low
  bounds_at = ap (λ bs. get_or bs (a + 1) 0) bounds_are ∙ get_or-insert_at (bounds p) (a + 1) r.low 0 at_bounds

  bounds_above : (b : ℕ) → a + 1 < b → get_or (bounds y) b 0 ≡ get_or (bounds p) (b - 1) 0
  bounds_above b lt = ap (λ bs. get_or bs b 0) bounds_are ∙ above_insert (bounds p) (a + 1) r.low b at_bounds lt

  more : length y.children ≡ length p.children + 1
  more = length-insert p.children (a + 1) q at_children

  -- the bounds still rise with the new separator
  pub still_rise : IsRising (bounds y)
  still_rise = subst IsRising (sym bounds_are) (rising_insert (bounds p) (a + 1) r.low (h.children.rise some) at_bounds
      (λ b lt. omega (arith, rises (bounds p) b a (h.children.rise some) (omega arith) (omega (arith, at_bounds)), left_child.low, f.above))
      (λ b ge lt. omega (arith, rises (bounds p) (a + 1) b (h.children.rise some) ge lt, left_child.reach, f.below)))

  -- all children are there, and there is one more, and one separator
  pub children_within : (b : ℕ) → b < length y.children → get_or y.children b 0 < length xs
  children_within b lt = all_insert (λ c. c < length xs) p.children (a + 1) q at_children f.right_there h.names.children b (omega (arith, lt, more))

  pub sizes : (length y.separators ≡ length p.separators + 1) × (length y.children ≡ length p.separators + 2)
  sizes = (length-insert p.separators a r.low at_separators, omega (arith, more, size))

  -- the facts of the left half, whose range in the parent ends at its fence
  pub left_node : IsNode (length xs) z
  left_node =
      let g = nodes.each j f.left_there in
      record {
        names = g.names;
        lock = g.lock;
        kind = g.kind;
        slots = g.slots;
        children = g.children;
        reach = record { within = omega arith; exact = λ e. refl };
        chain = g.chain;
        rooted = g.rooted;
      }

  -- the children before the new one, and those behind it
  lower_kept : (b : ℕ) (m : NodeView) → b < a → IsChild p b m → IsChild y b m
  lower_kept b m lt c = record { live = c.live; tree = c.tree; level = c.level; knows = c.knows; low = c.low ∙ sym (bounds_below b (omega arith)); reach = c.reach ∙ sym (bounds_below (b + 1) (omega arith)) }

  upper_kept : (b : ℕ) (m : NodeView) → a + 1 < b → IsChild p (b - 1) m → IsChild y b m
  upper_kept b m lt c = record {
    live = c.live;
    tree = c.tree;
    level = c.level;
    knows = c.knows;
    low = c.low ∙ sym (bounds_above b lt);
    reach = c.reach ∙ ap (λ k. get_or (bounds p) k 0) {x = b - 1 + 1} {y = b + 1 - 1} (omega arith) ∙ sym (bounds_above (b + 1) (omega arith));
  }

  right_child : IsChild y (a + 1) r
  right_child = record {
    live = f.right_live;
    tree = f.right_tree;
    level = f.right_level;
    knows = f.right_knows;
    low = sym bounds_at;
    reach =
        ap end_of f.right_reach ∙ left_child.reach ∙ ap (λ k. get_or (bounds p) k 0) {x = a + 1} {y = a + 1 + 1 - 1} (omega arith) ∙ sym (bounds_above (a + 1 + 1) (omega arith));
  }

  left_still : IsChild y a z
  left_still = record {
    live = left_child.live;
    tree = left_child.tree;
    level = left_child.level;
    knows = left_child.knows;
    low = left_child.low ∙ sym (bounds_below a (omega arith));
    reach = ap end_of f.fence ∙ sym bounds_at;
  }

  child_below : (b : ℕ) → b < a + 1 → get_or y.children b 0 ≡ get_or p.children b 0
  child_below b lt = get_or-insert_below p.children (a + 1) q 0 b lt at_children

  child_at : get_or y.children (a + 1) 0 ≡ q
  child_at = get_or-insert_at p.children (a + 1) q 0 at_children

  child_above : (b : ℕ) → a + 1 < b → get_or y.children b 0 ≡ get_or p.children (b - 1) 0
  child_above b lt = above_insert p.children (a + 1) q b at_children lt

  -- child b of the parent, where it is not the left half
  other_child : (k : ℕ) → k < length xs → k ≢ j → (b : ℕ) → b < length y.children → get_or y.children b 0 ≡ k → IsChild y b (node_at xs k)
  other_child k lk nj b lt is =
      let old = nodes.pairs i k f.parent_there lk in
      elim (cases_lt b (a + 1)) [
        | inl below ↦ elim (cases_eq b a) [
          | inl same ↦ absurd (nj (sym is ∙ child_below b below ∙ ap (λ c. get_or p.children c 0) same ∙ f.child.is))
          | inr differ ↦ lower_kept b (node_at xs k) (omega arith) (old.child b (omega (arith, f.child.in_range)) (sym (child_below b below) ∙ is) f.parent_live)
        ]
        | inr from ↦ elim (cases_eq b (a + 1)) [
          | inl same ↦ subst (λ (c : ℕ). IsChild y c (node_at xs k)) (sym same) (subst (λ (c : ℕ). IsChild y (a + 1) (node_at xs c)) (sym child_at ∙ ap (λ c. get_or y.children c 0) (sym same) ∙ is) right_child)
          | inr differ ↦ upper_kept b (node_at xs k) (omega arith) (old.child (b - 1) (omega (arith, lt, more)) (sym (child_above b (omega arith)) ∙ is) f.parent_live)
        ]
      ]

  -- the left half stands at its place alone
  only_at : (b : ℕ) → b < length p.children → get_or p.children b 0 ≡ j → b ≡ a
  only_at b lt is = one_place (length xs) p b a l h lt f.child.in_range ((nodes.pairs i j f.parent_there f.left_there).child b lt is f.parent_live) left_child

  left_child_of : (b : ℕ) → b < length y.children → get_or y.children b 0 ≡ j → IsChild y b z
  left_child_of b lt is = elim (cases_lt b (a + 1)) [
    | inl below ↦ subst (λ (c : ℕ). IsChild y c z) (sym (only_at b (omega (arith, f.child.in_range)) (sym (child_below b below) ∙ is))) left_still
    | inr from ↦ elim (cases_eq b (a + 1)) [
      | inl same ↦ absurd (f.differ (sym is ∙ ap (λ c. get_or y.children c 0) same ∙ child_at))
      | inr differ ↦ absurd (omega (arith, only_at (b - 1) (omega (arith, lt, more)) (sym (child_above b (omega arith)) ∙ is)))
    ]
  ]

  -- a node beside the changed parent
  parent_from : (k : ℕ) (m : NodeView) → IsPair i p k m → ((b : ℕ) → b < length y.children → get_or y.children b 0 ≡ k → IsChild y b m) → IsPair i y k m
  parent_from k m g child = record {
    next = g.next;
    named = g.named;
    child = λ b lt e live. child b lt e;
    apart = g.apart;
  }

  parent_to : (k : ℕ) (n : NodeView) → IsPair k n i p → IsPair k n i y
  parent_to k n g = record {
    next = g.next;
    named = λ _ free. absurd (f.parent_held free);
    child = g.child;
    apart = g.apart;
  }

  left_from : (k : ℕ) (m : NodeView) → IsPair j l k m → IsPair j z k m
  left_from k m g = record {
    next = g.next;
    named = g.named;
    child = g.child;
    apart = g.apart;
  }

  left_to : (k : ℕ) (n : NodeView) → IsPair k n j l → ((b : ℕ) → b < length n.children → get_or n.children b 0 ≡ j → n.version.deleted ≡ false → ⊥)
      → IsPair k n j z
  left_to k n g none = record {
    next = g.next;
    named = g.named;
    child = λ b lt e live. absurd (none b lt e live);
    apart = g.apart;
  }

  not_left : (k : ℕ) → k < length xs → k ≢ i → (b : ℕ) → b < length (node_at xs k).children → get_or (node_at xs k).children b 0 ≡ j
      → (node_at xs k).version.deleted ≡ false → ⊥
  not_left k lk ni b lt is live = ni (one_parent xs i k j a b nodes f.parent_there lk f.left_there f.parent_live live f.child.in_range f.child.is lt is)

  no_self : (b : ℕ) → b < length y.children → get_or y.children b 0 ≡ i → IsChild y b y
  no_self b lt is =
      let c = other_child i f.parent_there differ_ij b lt is in
      absurd (omega (arith, c.level))

  g : IsPair i p j l
  g = nodes.pairs i j f.parent_there f.left_there

  parent_left : IsPair i y j z
  parent_left = record {
    next = g.next;
    named = g.named;
    child = λ b lt e live. left_child_of b lt e;
    apart = g.apart;
  }

  parent_node : length p.separators < 15 → IsNode (length xs) y
  parent_node room = record {
    names = record { next = h.names.next; previous = h.names.previous; parent = h.names.parent; children = children_within };
    lock = h.lock;
    kind = h.kind;
    slots = h.slots;
    children = record {
      childless = λ level. absurd (omega (arith, level, f.right_level));
      interior = record {
        room = omega (arith, sizes.1, room);
        between = omega (arith, sizes.0, sizes.1);
        rising = separators_rise y.low y.separators y.high still_rise;
      };
      rise = λ e. still_rise;
      peopled = λ level range. not_empty y.children a (omega (arith, more, at_children));
    };
    reach = h.reach;
    chain = h.chain;
    rooted = h.rooted;
  }

  -- the facts of each two nodes
  pub inserted_pairs : AllPairs IsPair (set (set xs i y) j z)
  inserted_pairs = pairs_set2 IsPair xs i j y z f.parent_there f.left_there differ_ij nodes.pairs
      (parent_from i y (parent_to i p (nodes.pairs i i f.parent_there f.parent_there)) no_self)
      (left_from j z (left_to j l (nodes.pairs j j f.left_there f.left_there) (not_left j f.left_there (λ e. differ_ij (sym e)))))
      parent_left
      (left_from i y (parent_to j l (nodes.pairs j i f.left_there f.parent_there)))
      (λ k lk ni nj. (
        (parent_from k (node_at xs k) (nodes.pairs i k f.parent_there lk) (other_child k lk nj), parent_to k (node_at xs k) (nodes.pairs k i lk f.parent_there)),
        (left_from k (node_at xs k) (nodes.pairs j k f.left_there lk), left_to k (node_at xs k) (nodes.pairs k j lk f.left_there) (not_left k lk ni)),
      ))

  -- the place of the new child is the one behind the left half
  pub inserts_at : place_of p.separators r.low ≡ a
  inserts_at =
      place_of-between p.low p.separators p.high r.low a h.children.interior.rising at_separators (omega (arith, left_child.low, f.above), omega (arith, left_child.reach, f.below))

-- node q becomes a child of node i, which has room, and the range of node j in its parent ends at its fence
pub nodes_insert_child : (xs : List NodeView) (i j q : ℕ) → AreNodes xs → Inserts xs i j q → length (node_at xs i).separators < 15
    → AreNodes (set (set xs i (with_child (node_at xs i) (node_at xs q).low q)) j (exact (node_at xs j)))
nodes_insert_child xs i j q nodes f room =
    let y : NodeView = with_child (node_at xs i) (node_at xs q).low q in
    let z : NodeView = exact (node_at xs j) in
    let size = length-set xs i y in
    let size2 = length-set (set xs i y) j z in
    record {
      each =
          subst (λ n. AllNodes (IsNode n) (set (set xs i y) j z)) (sym (size2 ∙ size)) (nodes_set (IsNode (length xs)) (set xs i y) j z (omega (arith, f.left_there, size))
          (nodes_set (IsNode (length xs)) xs i y f.parent_there nodes.each (rw (inserts_at xs i j q nodes f) (parent_node xs i j q nodes f room))) (left_node xs i j q nodes f));
      pairs = rw (inserts_at xs i j q nodes f) (inserted_pairs xs i j q nodes f);
    }
