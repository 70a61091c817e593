-- The facts of nodes are kept as a border node is taken out and the one before it gets its range: for a call that removes a border node.
use Rattle.std.proofs.Common.{◌≡◌, ◌≢◌, ℕ, ◌+◌, ◌-◌, ◌<◌, ◌≤◌, List, [], length, get_or, Some, None, false, set, refl, sym, ap, subst, ◌∙◌, inl, inr, arith}
use Rattle.std.proofs.{lemmas.Bool.{cases_eq, cases_lt}, lemmas.List.Edits.{length-remove, get_or-remove_below, get_or-remove_above}}
use Rattle.std.specs.List.{remove}
use Rattle.mt_lists.{specs.Rising.IsRising, proofs.Rises.rising_remove}
use Rattle.mt_interior.{specs.Fences.end_of, proofs.CallerLemmas.bounds_of-remove}
use Rattle.mt_arena.specs.{NodeView.{NodeView, node_at}, Nodes.{AreNodes, IsNode, IsPair, IsChild, bounds}, Ranges.AreRanged, Edits.retired}
use Rattle.mt_arena.specs.Unlinks.{Unlinks, joined, without_child}
use Rattle.mt_arena.proofs.{Groups.border_children, Pairs.are_set3, Ranges.{not_empty, length_bounds, separators_rise, one_parent, one_place}}

-- each element of a list with one less
all_remove : (P : ℕ → Type 0) (xs : List ℕ) (at : ℕ) → at < length xs → ((i : ℕ) → i < length xs → P (get_or xs i 0)) → (i : ℕ)
    → i < length (remove xs at) → P (get_or (remove xs at) i 0)
all_remove P xs at within all i lt =
    let size = length-remove xs at within in
    elim (cases_lt i at) [
      | inl below ↦ rw (get_or-remove_below xs at 0 i below within) (all i (omega arith))
      | inr above ↦ rw (get_or-remove_above xs at 0 i above within) (all (i + 1) (omega arith))
    ]

module _ (xs : List NodeView) (i j q a : ℕ) (nodes : AreNodes xs) (ranged : AreRanged xs) (f : Unlinks xs i j q a) where
  abbrev l : NodeView
  l = node_at xs i

  abbrev x : NodeView
  x = node_at xs j

  abbrev p : NodeView
  p = node_at xs q

  abbrev y : NodeView
  y = joined l x

  abbrev w : NodeView
  w = retired x

  abbrev v : NodeView
  v = without_child p a

  li : i < length xs
  li = f.left_there

  lj : j < length xs
  lj = f.removed_there

  lq : q < length xs
  lq = f.parent_there

  hl : IsNode (length xs) l
  hl = nodes.each i li

  hx : IsNode (length xs) x
  hx = nodes.each j lj

  hp : IsNode (length xs) p
  hp = nodes.each q lq

  la : a - 1 < length p.children
  la = omega (arith, f.in_range)

  left_child : IsChild p (a - 1) l
  left_child = (nodes.pairs q i lq li).child (a - 1) la f.left_child f.parent_live

  old_child : IsChild p a x
  old_child = (nodes.pairs q j lq lj).child a f.in_range f.child f.parent_live

  left_border : l.level ≡ 0
  left_border = omega (arith, left_child.level, old_child.level, f.border)

  -- where the two meet, and where they end
  meet : end_of l.high ≡ x.low
  meet = ap end_of (((nodes.pairs i j li lj).next left_child.live f.next).meets)

  left_range : l.low < x.low
  left_range = omega (arith, meet, (ranged.each i li).parent left_child.knows)

  range : x.low < end_of x.high
  range = (ranged.each j lj).parent old_child.knows

  ends_so : x.reach ≡ x.high
  ends_so = hx.reach.exact f.removed_whole

  -- the three are three
  pub differ_ij : i ≢ j
  differ_ij e = omega (arith, left_range, ap (λ k. (node_at xs k).low) e)

  pub differ_iq : i ≢ q
  differ_iq e = omega (arith, left_child.level, ap (λ k. (node_at xs k).level) e)

  pub differ_jq : j ≢ q
  differ_jq e = omega (arith, old_child.level, ap (λ k. (node_at xs k).level) e)

  -- nobody else names the removed node
  only_next : (k : ℕ) → k < length xs → k ≢ i → (node_at xs k).next ≡ Some j → (node_at xs k).version.deleted ≡ false → ⊥
  only_next k lk ni e live =
      let m = node_at xs k in
      let from = nodes.pairs k j lk lj in
      let high : end_of m.high ≡ x.low = ap end_of ((from.next live e).meets) in
      let some : m.next ≢ None = λ none. absurd (cc) in
      let wide : m.low < x.low = omega (arith, high, (ranged.each k lk).next some) in
      let here = nodes.pairs i j li lj in
      (nodes.pairs k i lk li).apart ni (sym ((from.next live e).tree) ∙ (here.next left_child.live f.next).tree) (sym ((from.next live e).level) ∙ (here.next left_child.live f.next).level) live left_child.live (x.low - 1)
      (omega (arith, wide), omega (arith, wide, high)) (omega (arith, left_range), omega (arith, left_range, meet))

  not_own_next : x.next ≢ Some j
  not_own_next e = omega (arith, range, ap end_of (((nodes.pairs j j lj lj).next f.removed_live e).meets))

  only_child : (k b : ℕ) → k < length xs → k ≢ q → b < length (node_at xs k).children → get_or (node_at xs k).children b 0 ≡ j
      → (node_at xs k).version.deleted ≡ false → ⊥
  only_child k b lk nq lb is live = nq (one_parent xs q k j a b nodes lq lk lj f.parent_live live f.in_range f.child lb is)

  only_left : (k b : ℕ) → k < length xs → k ≢ q → b < length (node_at xs k).children → get_or (node_at xs k).children b 0 ≡ i
      → (node_at xs k).version.deleted ≡ false → ⊥
  only_left k b lk nq lb is live = nq (one_parent xs q k i (a - 1) b nodes lq lk li f.parent_live live la f.left_child lb is)

  no_child : (b : ℕ) → b < length l.children → ⊥
  no_child b lt = omega (arith, lt, ap length (hl.children.childless left_border))

  -- the parent's bounds and children
  some : p.children ≢ []
  some = not_empty p.children a f.in_range

  size : length p.children ≡ length p.separators + 1
  size = omega (arith, hp.children.interior.between, f.in_range)

  at_separators : a - 1 < length p.separators
  at_separators = omega (arith, size, f.in_range, f.not_first)

  at_bounds : a < length (bounds p)
  at_bounds = omega (arith, length_bounds p, size, f.in_range)

  bounds_are : bounds v ≡ remove (bounds p) a
  bounds_are = bounds_of-remove p.low p.separators p.high a f.not_first (omega (arith, at_separators))

  bounds_below : (b : ℕ) → b < a → get_or (bounds v) b 0 ≡ get_or (bounds p) b 0
  bounds_below b lt = ap (λ bs. get_or bs b 0) bounds_are ∙ get_or-remove_below (bounds p) a 0 b lt at_bounds

  bounds_above : (b : ℕ) → a ≤ b → get_or (bounds v) b 0 ≡ get_or (bounds p) (b + 1) 0
  bounds_above b le = ap (λ bs. get_or bs b 0) bounds_are ∙ get_or-remove_above (bounds p) a 0 b le at_bounds

  child_below : (b : ℕ) → b < a → get_or v.children b 0 ≡ get_or p.children b 0
  child_below b lt = get_or-remove_below p.children a 0 b lt f.in_range

  child_above : (b : ℕ) → a ≤ b → get_or v.children b 0 ≡ get_or p.children (b + 1) 0
  child_above b le = get_or-remove_above p.children a 0 b le f.in_range

  fewer : length v.children + 1 ≡ length p.children
  fewer = length-remove p.children a f.in_range

  still_rise : IsRising (bounds v)
  still_rise = subst IsRising (sym bounds_are) (rising_remove (bounds p) a (hp.children.rise some) at_bounds)

  -- the three nodes
  left_node : IsNode (length xs) y
  left_node = record {
    names = record { next = hx.names.next; previous = hl.names.previous; parent = hl.names.parent; children = hl.names.children };
    lock = hl.lock;
    kind = hl.kind;
    slots = record {
      border = hl.slots.border;
      within = λ k lt. ((hl.slots.within k lt).0, omega (arith, (hl.slots.within k lt).1, meet, range));
      slotless = hl.slots.slotless;
    };
    children = border_children y.high left_border hl.children;
    reach = record { within = hx.reach.within; exact = λ e. ends_so };
    chain = record {
      last = λ level _ none. hx.chain.last f.border range none;
      first = λ level _ live none. hl.chain.first level (omega (arith, left_range, meet)) live none;
    };
    rooted = hl.rooted;
  }

  removed_node : IsNode (length xs) w
  removed_node = record {
    names = hx.names;
    lock = hx.lock;
    kind = hx.kind;
    slots = hx.slots;
    children = hx.children;
    reach = hx.reach;
    chain = record { last = hx.chain.last; first = λ level _ live. absurd (cc) };
    rooted = λ live. absurd (cc);
  }

  parent_node : IsNode (length xs) v
  parent_node = record {
    names = record {
      next = hp.names.next;
      previous = hp.names.previous;
      parent = hp.names.parent;
      children = all_remove (λ c. c < length xs) p.children a f.in_range hp.names.children;
    };
    lock = hp.lock;
    kind = hp.kind;
    slots = hp.slots;
    children = record {
      childless = λ level. absurd (omega (arith, level, old_child.level));
      interior = record {
        room = omega (arith, fewer, hp.children.interior.room);
        between = omega (arith, fewer, size, length-remove p.separators (a - 1) at_separators);
        rising = separators_rise v.low v.separators v.high still_rise;
      };
      rise = λ e. still_rise;
      peopled = λ level _. not_empty v.children 0 (omega (arith, fewer, f.in_range, f.not_first));
    };
    reach = hp.reach;
    chain = hp.chain;
    rooted = hp.rooted;
  }

  -- children before the removed one but the left neighbour, the left neighbour, and those behind
  lower_kept : (b : ℕ) (m : NodeView) → b < a - 1 → IsChild p b m → IsChild v b m
  lower_kept b m lt c = record { live = c.live; tree = c.tree; level = c.level; knows = c.knows; low = c.low ∙ sym (bounds_below b (omega arith)); reach = c.reach ∙ sym (bounds_below (b + 1) (omega arith)) }

  upper_kept : (b : ℕ) (m : NodeView) → a ≤ b → IsChild p (b + 1) m → IsChild v b m
  upper_kept b m le c = record { live = c.live; tree = c.tree; level = c.level; knows = c.knows; low = c.low ∙ sym (bounds_above b le); reach = c.reach ∙ sym (bounds_above (b + 1) (omega arith)) }

  left_wider : IsChild v (a - 1) y
  left_wider = record {
    live = left_child.live;
    tree = left_child.tree;
    level = left_child.level;
    knows = left_child.knows;
    low = left_child.low ∙ sym (bounds_below (a - 1) (omega (arith, f.not_first)));
    reach = old_child.reach ∙ sym (bounds_above a (omega arith)) ∙ ap (λ k. get_or (bounds v) k 0) {x = a} {y = a - 1 + 1} (omega (arith, f.not_first));
  }

  -- child b of the parent, where it is none of the two
  other_child : (k : ℕ) → k < length xs → k ≢ i → (b : ℕ) → b < length v.children → get_or v.children b 0 ≡ k → IsChild v b (node_at xs k)
  other_child k lk ni b lt is =
      let old = nodes.pairs q k lq lk in
      elim (cases_lt b a) [
        | inl below ↦ elim (cases_eq b (a - 1)) [
          | inl same ↦ absurd (ni (sym is ∙ child_below b below ∙ ap (λ c. get_or p.children c 0) same ∙ f.left_child))
          | inr differ ↦ lower_kept b (node_at xs k) (omega arith) (old.child b (omega (arith, f.in_range)) (sym (child_below b below) ∙ is) f.parent_live)
        ]
        | inr from ↦ upper_kept b (node_at xs k) from (old.child (b + 1) (omega (arith, lt, fewer)) (sym (child_above b from) ∙ is) f.parent_live)
      ]

  left_child_of : (b : ℕ) → b < length v.children → get_or v.children b 0 ≡ i → IsChild v b y
  left_child_of b lt is = elim (cases_lt b a) [
    | inl below ↦
        let old = (nodes.pairs q i lq li).child b (omega (arith, f.in_range)) (sym (child_below b below) ∙ is) f.parent_live in
        subst (λ (c : ℕ). IsChild v c y) (one_place (length xs) p (a - 1) b l hp la (omega (arith, f.in_range)) left_child old) left_wider
    | inr from ↦
        let old = (nodes.pairs q i lq li).child (b + 1) (omega (arith, lt, fewer)) (sym (child_above b from) ∙ is) f.parent_live in
        absurd (omega (arith, from, one_place (length xs) p (a - 1) (b + 1) l hp la (omega (arith, lt, fewer)) left_child old))
  ]

  removed_no_child : (b : ℕ) → b < length v.children → get_or v.children b 0 ≡ j → ⊥
  removed_no_child b lt is = elim (cases_lt b a) [
    | inl below ↦
        let old = (nodes.pairs q j lq lj).child b (omega (arith, f.in_range)) (sym (child_below b below) ∙ is) f.parent_live in
        omega (arith, below, one_place (length xs) p a b x hp f.in_range (omega (arith, f.in_range)) old_child old)
    | inr from ↦
        let old = (nodes.pairs q j lq lj).child (b + 1) (omega (arith, lt, fewer)) (sym (child_above b from) ∙ is) f.parent_live in
        omega (arith, from, one_place (length xs) p a (b + 1) x hp f.in_range (omega (arith, lt, fewer)) old_child old)
  ]

  -- the left neighbour beside any node but the removed one
  left_from : (k : ℕ) (m : NodeView) → k ≢ j → IsPair i l k m → IsPair j x k m → IsPair i y k m
  left_from k m nj g h = record {
    next =
        λ _ e. record { meets = (h.next f.removed_live e).meets; tree = (h.next f.removed_live e).tree ∙ ((nodes.pairs i j li lj).next left_child.live f.next).tree; level = (h.next f.removed_live e).level ∙ ((nodes.pairs i j li lj).next left_child.live f.next).level; live = λ live. (h.next f.removed_live e).live f.removed_live };
    named = g.named;
    child = λ b lt. absurd (no_child b lt);
    apart = λ differ tree level live also s hy hm. elim (cases_lt s x.low) [
      | inl low ↦ g.apart differ tree level live also s (hy.0, omega (arith, low, meet)) hm
      | inr high ↦ h.apart (λ e. nj (sym e)) (((nodes.pairs i j li lj).next left_child.live f.next).tree ∙ tree) (((nodes.pairs i j li lj).next left_child.live f.next).level ∙ level) f.removed_live also s (high, hy.1) hm
    ];
  }

  left_to : (k : ℕ) (m : NodeView) → k ≢ j → IsPair k m i l → IsPair k m j x
      → ((b : ℕ) → b < length m.children → get_or m.children b 0 ≡ i → m.version.deleted ≡ false → IsChild m b y) → IsPair k m i y
  left_to k m nj g h child = record {
    next = g.next;
    named = λ _ free. absurd (f.left_held free);
    child = child;
    apart = λ differ tree level live also s hm hy. elim (cases_lt s x.low) [
      | inl low ↦ g.apart differ tree level live also s hm (hy.0, omega (arith, low, meet))
      | inr high ↦ h.apart nj (tree ∙ sym (((nodes.pairs i j li lj).next left_child.live f.next).tree)) (level ∙ sym (((nodes.pairs i j li lj).next left_child.live f.next).level)) live f.removed_live s hm (high, hy.1)
    ];
  }

  -- the removed node
  removed_from : (k : ℕ) (m : NodeView) → IsPair j x k m → IsPair j w k m
  removed_from k m h = record {
    next = λ live. absurd (cc);
    named = λ live. absurd (cc);
    child = λ b lt e live. absurd (cc);
    apart = λ differ tree level live. absurd (cc);
  }

  removed_to : (k : ℕ) (m : NodeView) → IsPair k m j x → (m.next ≡ Some j → m.version.deleted ≡ false → ⊥)
      → ((b : ℕ) → b < length m.children → get_or m.children b 0 ≡ j → m.version.deleted ≡ false → ⊥) → IsPair k m j w
  removed_to k m h none childless = record {
    next = λ live e. absurd (none e live);
    named = λ _ free. absurd (f.removed_held free);
    child = λ b lt e live. absurd (childless b lt e live);
    apart = λ differ tree level live also. absurd (cc);
  }

  -- the parent
  parent_from : (k : ℕ) (m : NodeView) → IsPair q p k m → ((b : ℕ) → b < length v.children → get_or v.children b 0 ≡ k → IsChild v b m) → IsPair q v k m
  parent_from k m g child = record {
    next = g.next;
    named = g.named;
    child = λ b lt e live. child b lt e;
    apart = g.apart;
  }

  parent_to : (k : ℕ) (m : NodeView) → IsPair k m q p → IsPair k m q v
  parent_to k m g = record {
    next = g.next;
    named = λ _ free. absurd (f.parent_held free);
    child = g.child;
    apart = g.apart;
  }

  -- any other node has neither of the two as a child
  stays_apart : (k : ℕ) → k < length xs → k ≢ q → (b : ℕ) → b < length (node_at xs k).children → get_or (node_at xs k).children b 0 ≡ i
      → (node_at xs k).version.deleted ≡ false → IsChild (node_at xs k) b y
  stays_apart k lk nq b lt is live = absurd (only_left k b lk nq lt is live)

  parent_self : IsPair q v q v
  parent_self =
      parent_from q v (parent_to q p (nodes.pairs q q lq lq)) (λ b lt is. absurd (omega (arith, (other_child q lq (λ e. differ_iq (sym e)) b lt is).level)))

  left_parent : IsPair i y q v
  left_parent = left_from q v (λ e. differ_jq (sym e)) (parent_to i l (nodes.pairs i q li lq)) (parent_to j x (nodes.pairs j q lj lq))

  -- what the parent has to say of the left neighbour but its child
  parent_left : IsPair q v i y
  parent_left =
      let g = nodes.pairs q i lq li in
      let h = nodes.pairs q j lq lj in
      record {
        next = g.next;
        named = λ _ free. absurd (f.left_held free);
        child = λ b lt e live. left_child_of b lt e;
        apart = λ differ tree level. absurd (omega (arith, level, left_child.level));
      }

  parent_removed : IsPair q v j w
  parent_removed =
      let h = nodes.pairs q j lq lj in
      record {
        next =
            λ live e. absurd (only_next q lq (λ e. differ_iq (sym e)) e live);
        named = λ _ free. absurd (f.removed_held free);
        child = λ b lt e live. absurd (removed_no_child b lt e);
        apart = λ differ tree level live also. absurd (cc);
      }

  left_removed : IsPair i y j w
  left_removed =
      let h = nodes.pairs j j lj lj in
      record {
        next = λ _ e. absurd (not_own_next e);
        named = λ _ free. absurd (f.removed_held free);
        child = λ b lt. absurd (no_child b lt);
        apart = λ differ tree level live also. absurd (cc);
      }

  removed_left : IsPair j w i y
  removed_left =
      let h = nodes.pairs j i lj li in
      record {
        next = λ live. absurd (cc);
        named = λ live. absurd (cc);
        child = λ b lt e live. absurd (cc);
        apart = λ differ tree level live. absurd (cc);
      }

  left_self : IsPair i y i y
  left_self =
      let h = nodes.pairs j i lj li in
      record {
        next = λ _ e. record { meets = (h.next f.removed_live e).meets; tree = refl; level = refl; live = λ live. live };
        named = λ _ free. absurd (f.left_held free);
        child = λ b lt. absurd (no_child b lt);
        apart = λ differ. absurd (differ refl);
      }

  removed_self : IsPair j w j w
  removed_self =
      let h = nodes.pairs j j lj lj in
      record {
        next = λ live. absurd (cc);
        named = λ live. absurd (cc);
        child = λ b lt e live. absurd (cc);
        apart = λ differ. absurd (differ refl);
      }

  pub unlinked_nodes : AreNodes (set (set (set xs i y) j w) q v)
  unlinked_nodes = are_set3 xs i j q y w v li lj lq differ_ij differ_iq differ_jq nodes left_node removed_node parent_node
      left_self removed_self parent_self
      (left_removed, removed_left)
      (left_parent, parent_left)
      (removed_from q v (parent_to j x (nodes.pairs j q lj lq)), parent_removed)
      (λ k lk ni nj nq. (
        (left_from k (node_at xs k) nj (nodes.pairs i k li lk) (nodes.pairs j k lj lk), left_to k (node_at xs k) nj (nodes.pairs k i lk li) (nodes.pairs k j lk lj) (stays_apart k lk nq)),
        (removed_from k (node_at xs k) (nodes.pairs j k lj lk), removed_to k (node_at xs k) (nodes.pairs k j lk lj) (only_next k lk ni) (λ b lt e live. only_child k b lk nq lt e live)),
        (parent_from k (node_at xs k) (nodes.pairs q k lq lk) (other_child k lk ni), parent_to k (node_at xs k) (nodes.pairs k q lk lq)),
      ))

-- node j is taken out of the tree: node i before it gets its range, and their parent q loses child a
pub nodes_unlinked : (xs : List NodeView) (i j q a : ℕ) → AreNodes xs → AreRanged xs → Unlinks xs i j q a
    → AreNodes (set (set (set xs i (joined (node_at xs i) (node_at xs j))) j (retired (node_at xs j))) q (without_child (node_at xs q) a))
nodes_unlinked xs i j q a nodes ranged f = unlinked_nodes xs i j q a nodes ranged f
