-- The facts of nodes are kept as an interior node with one child too many is parted: for `InnerSplit`.
use Rattle.std.proofs.Common.{◌≡◌, ◌≢◌, ℕ, suc, ◌+◌, ◌-◌, ◌<◌, ◌≤◌, List, length, get_or, take, drop, Option, Some, None, true, false, set, refl, sym, ap, subst, ◌∙◌, arith, length-drop}
use Rattle.std.proofs.lemmas.List.{length-take-le, get_or-take, get_or-drop}
use Rattle.mt_lists.{specs.Rising.IsRising, proofs.Rises.{rising_take, rising_drop}}
use Rattle.mt_interior.{specs.Fences.{end_of, bounds_of}, proofs.{PlaceLemmas.{bounds_of-inner, bounds_of-end}, CallerLemmas.{bounds_of-take, bounds_of-drop}}}
use Rattle.mt_arena.specs.{NodeView.{NodeView, node_at}, Nodes.{AllPairs, IsNode, IsPair, IsChild, HasRange, bounds}}
use Rattle.mt_arena.proofs.{Groups.{interior_slots, interior_chain}, Pairs.pairs_set2, Ranges.{not_empty, length_bounds, separators_rise, child_ranges}}

-- what a node that is parted at separator k has: separators, children, and bounds that rise
pub record IsWide (count : ℕ) (low : ℕ) (high : Option ℕ) (separators children : List ℕ) (k : ℕ) : Type 0 where
  pub between : length children ≡ length separators + 1
  pub in_range : k < length separators
  pub left_room : suc k ≤ 16
  pub right_room : length children ≤ k + 17
  pub rise : IsRising (bounds_of low separators high)
  pub there : (b : ℕ) → b < length children → get_or children b 0 < count

-- a marked interior node p, and a right half r without range, which begins in the middle of it
pub record SplitsInner (p r : NodeView) (middle : ℕ) : Type 0 where
  pub marked : p.version.splitting ≡ true
  pub next : p.next ≡ None
  pub right_held : r.holder ≢ None
  pub right_marked : r.version.splitting ≡ true
  pub right_live : r.version.deleted ≡ false
  pub right_tree : r.tree ≡ p.tree
  pub right_level : r.level ≡ p.level
  pub right_next : r.next ≡ None
  pub right_low : r.low ≡ middle
  pub right_reach : r.reach ≡ Some r.low

module _ (ws : List NodeView) (i h k : ℕ) (p : NodeView) (separators children : List ℕ) (node_is : node_at ws i ≡ record p { separators = separators; children = children })
    (pairs : AllPairs IsPair ws) (others : (m : ℕ) → m < length ws → m ≢ i → IsNode (length ws) (node_at ws m)) (hp : IsNode (length ws) p)
    (li : i < length ws) (lh : h < length ws) (differ : i ≢ h) (held : p.holder ≢ None) (live : p.version.deleted ≡ false) (above : 0 < p.level)
    (wide : IsWide (length ws) p.low p.high separators children k) (f : SplitsInner p (node_at ws h) (get_or separators k 0)) where
  abbrev w : NodeView
  w = record p { separators = separators; children = children }

  abbrev t : NodeView
  t = node_at ws h

  abbrev middle : ℕ
  middle = get_or separators k 0

  abbrev y : NodeView
  y = record w { separators = take k separators; children = take (suc k) children; high = Some middle }

  abbrev u : NodeView
  u = record t { separators = drop (suc k) separators; children = drop (suc k) children; high = p.high; reach = p.reach }

  ht : IsNode (length ws) t
  ht = others h lh (λ e. differ (sym e))

  from_w : (m : ℕ) → m < length ws → IsPair i w m (node_at ws m)
  from_w m lm = subst (λ (n : NodeView). IsPair i n m (node_at ws m)) node_is (pairs i m li lm)

  to_w : (m : ℕ) → m < length ws → IsPair m (node_at ws m) i w
  to_w m lm = subst (λ (n : NodeView). IsPair m (node_at ws m) i n) node_is (pairs m i lm li)

  self_w : IsPair i w i w
  self_w = subst (λ (n : NodeView). IsPair i n i w) node_is (to_w i li)

  -- where the halves meet
  middle_is : get_or (bounds w) (suc k) 0 ≡ middle
  middle_is = bounds_of-inner p.low separators p.high k wide.in_range

  size_bounds : length (bounds w) ≡ length separators + 2
  size_bounds = length_bounds w

  low_middle : p.low < middle
  low_middle = omega (arith, middle_is, wide.rise 0 (suc k) (omega arith) (omega (arith, size_bounds, wide.in_range)))

  middle_high : middle < end_of p.high
  middle_high =
      omega (arith, middle_is, bounds_of-end p.low separators p.high, wide.rise (suc k) (suc (length separators)) (omega (arith, wide.in_range)) (omega (arith, size_bounds)))

  -- the bounds and children of the halves
  left_bounds : bounds y ≡ take (suc (suc k)) (bounds w)
  left_bounds = bounds_of-take p.low separators p.high k wide.in_range

  right_bounds : bounds u ≡ drop (suc k) (bounds w)
  right_bounds = ap (λ low. bounds_of low (drop (suc k) separators) p.high) f.right_low ∙ bounds_of-drop p.low separators p.high k wide.in_range

  left_bound : (b : ℕ) → b < suc (suc k) → get_or (bounds y) b 0 ≡ get_or (bounds w) b 0
  left_bound b lt = ap (λ bs. get_or bs b 0) left_bounds ∙ get_or-take (suc (suc k)) (bounds w) b 0 lt

  right_bound : (b : ℕ) → get_or (bounds u) b 0 ≡ get_or (bounds w) (suc k + b) 0
  right_bound b = ap (λ bs. get_or bs b 0) right_bounds ∙ get_or-drop (suc k) (bounds w) b 0

  left_count : length y.children ≡ suc k
  left_count = length-take-le (suc k) children (omega (arith, wide.between, wide.in_range))

  left_separators : length y.separators ≡ k
  left_separators = length-take-le k separators (omega (arith, wide.in_range))

  right_count : length u.children ≡ length children - suc k
  right_count = length-drop (suc k) children

  right_separators : length u.separators ≡ length separators - suc k
  right_separators = length-drop (suc k) separators

  left_rise : IsRising (bounds y)
  left_rise = subst IsRising (sym left_bounds) (rising_take (suc (suc k)) (bounds w) wide.rise)

  right_rise : IsRising (bounds u)
  right_rise = subst IsRising (sym right_bounds) (rising_drop (suc k) (bounds w) wide.rise)

  right_above : 0 < t.level
  right_above = omega (arith, above, f.right_level)

  -- the facts of the left half, and of the right one
  pub left_node : IsNode (length ws) y
  left_node = record {
    names = record {
      next = hp.names.next;
      previous = hp.names.previous;
      parent = hp.names.parent;
      children =
          λ b lt. rw (get_or-take (suc k) children b 0 (omega (arith, lt, left_count))) (wide.there b (omega (arith, lt, left_count, wide.between, wide.in_range)));
    };
    lock = hp.lock;
    kind = hp.kind;
    slots = interior_slots y.high above hp.slots;
    children = record {
      childless = λ level. absurd (omega (arith, level, above));
      interior = record {
        room = omega (arith, left_count, wide.left_room);
        between = omega (arith, left_count, left_separators);
        rising = separators_rise y.low y.separators y.high left_rise;
      };
      rise = λ some. left_rise;
      peopled = λ level range. not_empty y.children 0 (omega (arith, left_count));
    };
    reach = record { within = omega (arith, middle_high, hp.reach.within); exact = λ e. absurd (grind (arith, e, f.marked)) };
    chain = interior_chain above;
    rooted = λ _ free. absurd (held free);
  }

  pub right_node : IsNode (length ws) u
  right_node = record {
    names = record {
      next = ht.names.next;
      previous = ht.names.previous;
      parent = ht.names.parent;
      children = λ b lt. rw (get_or-drop (suc k) children b 0) (wide.there (suc k + b) (omega (arith, lt, right_count)));
    };
    lock = ht.lock;
    kind = ht.kind;
    slots = interior_slots u.high right_above ht.slots;
    children = record {
      childless = λ level. absurd (omega (arith, level, right_above));
      interior = record {
        room = omega (arith, right_count, wide.right_room);
        between = omega (arith, right_count, right_separators, wide.between);
        rising = separators_rise u.low u.separators u.high right_rise;
      };
      rise = λ some. right_rise;
      peopled = λ level range. not_empty u.children 0 (omega (arith, right_count, wide.between, wide.in_range));
    };
    reach = record { within = hp.reach.within; exact = λ e. absurd (grind (arith, e, f.right_marked)) };
    chain = interior_chain right_above;
    rooted = λ _ free. absurd (f.right_held free);
  }

  -- no node without range is a child
  not_target : (n : NodeView) (b : ℕ) → IsChild n b t → get_or (bounds n) b 0 < get_or (bounds n) (b + 1) 0 → ⊥
  not_target n b c lt = omega (arith, c.low, c.reach, ap end_of f.right_reach, lt)

  wide_child : (b : ℕ) → b < length children → get_or children b 0 ≡ h → ⊥
  wide_child b lt is = not_target w b ((from_w h lh).child b lt is live) (wide.rise b (b + 1) (omega arith) (omega (arith, lt, size_bounds, wide.between)))

  -- nor is the node its own
  own_child : (b : ℕ) → b < length children → get_or children b 0 ≡ i → ⊥
  own_child b lt is = omega (arith, (self_w.child b lt is live).level)

  -- the children of the halves
  left_kept : (b : ℕ) (m : NodeView) → b < suc k → IsChild w b m → IsChild y b m
  left_kept b m lt c = record { live = c.live; tree = c.tree; level = c.level; knows = c.knows; low = c.low ∙ sym (left_bound b (omega (arith, lt))); reach = c.reach ∙ sym (left_bound (b + 1) (omega (arith, lt))) }

  right_kept : (b : ℕ) (m : NodeView) → IsChild w (suc k + b) m → IsChild u b m
  right_kept b m c = record {
    live = c.live;
    tree = c.tree ∙ sym f.right_tree;
    level = c.level ∙ sym f.right_level;
    knows = c.knows;
    low = c.low ∙ sym (right_bound b);
    reach = c.reach ∙ ap (λ q. get_or (bounds w) q 0) {x = suc k + b + 1} {y = suc k + (b + 1)} (omega arith) ∙ sym (right_bound (b + 1));
  }

  left_child : (m : ℕ) (n : NodeView) → IsPair i w m n → (b : ℕ) → b < length y.children → get_or y.children b 0 ≡ m → IsChild y b n
  left_child m n g b lt is =
      let small : b < suc k = omega (arith, lt, left_count) in
      left_kept b n small (g.child b (omega (arith, small, wide.between, wide.in_range)) (sym (get_or-take (suc k) children b 0 small) ∙ is) live)

  right_child : (m : ℕ) (n : NodeView) → IsPair i w m n → (b : ℕ) → b < length u.children → get_or u.children b 0 ≡ m → IsChild u b n
  right_child m n g b lt is = right_kept b n (g.child (suc k + b) (omega (arith, lt, right_count)) (sym (get_or-drop (suc k) children b 0) ∙ is) live)

  -- the left half beside any node
  left_from : (m : ℕ) (n : NodeView) → IsPair i w m n → IsPair i y m n
  left_from m n g = record {
    next = λ _ e. absurd (let none = f.next in cc);
    named = g.named;
    child = λ b lt e _. left_child m n g b lt e;
    apart = λ d tree level one also s hy hn. g.apart d tree level one also s (hy.0, omega (arith, hy.1, middle_high)) hn;
  }

  left_to : (m : ℕ) (n : NodeView) → IsPair m n i w → IsPair m n i y
  left_to m n g = record {
    next = g.next;
    named = λ _ free. absurd (held free);
    child = g.child;
    apart = λ d tree level one also s hn hy. g.apart d tree level one also s hn (hy.0, omega (arith, hy.1, middle_high));
  }

  -- the right half beside any node but the left one
  right_from : (m : ℕ) (n : NodeView) → m ≢ i → IsPair i w m n → IsPair h t m n → IsPair h u m n
  right_from m n ni g e = record {
    next = λ _ is. absurd (let none = f.right_next in cc);
    named = e.named;
    child = λ b lt is _. right_child m n g b lt is;
    apart =
        λ d tree level _ also s hu hn. g.apart (λ same. ni (sym same)) (sym f.right_tree ∙ tree) (sym f.right_level ∙ level) live also s (omega (arith, hu.0, low_middle, f.right_low), hu.1) hn;
  }

  right_to : (m : ℕ) (n : NodeView) → m ≢ i → IsNode (length ws) n → IsPair m n i w → IsPair m n h t → IsPair m n h u
  right_to m n ni one g e = record {
    next = e.next;
    named = λ _ free. absurd (f.right_held free);
    child =
        λ b lt is alive. absurd (omega (arith, child_ranges (length ws) n b t one lt (e.child b lt is alive), rw f.right_reach at (child_ranges (length ws) n b t one lt (e.child b lt is alive))));
    apart =
        λ d tree level alive _ s hn hu. g.apart ni (tree ∙ f.right_tree) (level ∙ f.right_level) alive live s hn (omega (arith, hu.0, low_middle, f.right_low), hu.1);
  }

  left_self : IsPair i y i y
  left_self = left_to i y (left_from i w self_w)

  right_self : IsPair h u h u
  right_self = record {
    next = λ _ is. absurd (let none = f.right_next in cc);
    named = λ _ free. absurd (f.right_held free);
    child = λ b lt is _. absurd (wide_child (suc k + b) (omega (arith, lt, right_count)) (sym (get_or-drop (suc k) children b 0) ∙ is));
    apart = λ d. absurd (d refl);
  }

  left_right : IsPair i y h u
  left_right = record {
    next = λ _ is. absurd (let none = f.next in cc);
    named = λ _ free. absurd (f.right_held free);
    child = λ b lt is _.
        let small : b < suc k = omega (arith, lt, left_count) in
        absurd (wide_child b (omega (arith, small, wide.between, wide.in_range)) (sym (get_or-take (suc k) children b 0 small) ∙ is));
    apart = λ d tree level _ _ s hy hu. absurd (omega (arith, hy.1, hu.0, f.right_low));
  }

  right_left : IsPair h u i y
  right_left = record {
    next = λ _ is. absurd (let none = f.right_next in cc);
    named = λ _ free. absurd (held free);
    child = λ b lt is _. absurd (own_child (suc k + b) (omega (arith, lt, right_count)) (sym (get_or-drop (suc k) children b 0) ∙ is));
    apart = λ d tree level _ _ s hu hy. absurd (omega (arith, hy.1, hu.0, f.right_low));
  }

  -- the facts of each two nodes
  pub parted_pairs : AllPairs IsPair (set (set ws i y) h u)
  parted_pairs = pairs_set2 IsPair ws i h y u li lh differ pairs left_self right_self left_right right_left
      (λ m lm ni nh. (
        (left_from m (node_at ws m) (from_w m lm), left_to m (node_at ws m) (to_w m lm)),
        (right_from m (node_at ws m) ni (from_w m lm) (pairs h m lh lm), right_to m (node_at ws m) ni (others m lm ni) (to_w m lm) (pairs m h lm lh)),
      ))

  -- both halves have a range
  pub halves_range : HasRange y × HasRange u
  halves_range = (low_middle, omega (arith, middle_high, f.right_low))
