-- The facts of nodes are kept as a new root comes over the halves of the old one, and nothing lags behind it: for `Topping`.
use Rattle.std.proofs.Common.{◌≡◌, ◌≢◌, ℕ, zero, suc, ◌+◌, ◌<◌, ◌≤◌, Bool, true, false, List, [], ◌∷◌, length, get_or, Option, Some, None, set, refl, sym, ap, subst, ◌∙◌, inl, inr, arith}
use Rattle.std.proofs.{lemmas.Bool.cases_lt, lemmas.List.length-set, lemmas.Option.same_Some}
use Rattle.mt_lists.specs.Rising.{IsRising}
use Rattle.mt_version.specs.Parts.{Parts}
use Rattle.mt_interior.specs.Fences.{end_of}
use Rattle.mt_arena.specs.{NodeView.{NodeView, node_at}, Nodes.{AreNodes, AllNodes, IsNode, IsPair, IsChild, HasChild, Holds, HasRange}}
use Rattle.mt_arena.specs.{Settled.IsSettled, Ranges.AreRanged, Growth.{AreRootHalves, below_top, left_below, right_below}, Several.top_over}
use Rattle.mt_arena.proofs.{Groups.{names_none, interior_chain}, Pairs.{nodes_set, pairs_set3}, Naming.each_set3, Push.no_slots, Vacant.IsUnnamed}

-- a node without parent comes below another one
below_from : (top k : ℕ) (n : NodeView) (j : ℕ) (m : NodeView) (reach : Option ℕ) (root : Bool) → j ≢ top → IsPair k n j m
    → IsPair k (below_top n top reach root) j m
below_from top k n j m reach root other h = record {
  next = h.next;
  named = λ live free. record { back = (h.named live free).back; live = (h.named live free).live; knows = λ e. absurd (other (sym (same_Some _ _ e))) };
  child = h.child;
  apart = h.apart;
}

below_to : (top k : ℕ) (n : NodeView) (j : ℕ) (m : NodeView) (reach : Option ℕ) (root : Bool) → m.parent ≡ None → IsPair k n j m
    → IsPair k n j (below_top m top reach root)
below_to top k n j m reach root parentless h = record {
  next = h.next;
  named = h.named;
  child = λ i lt e live. absurd ((h.child i lt e live).knows parentless);
  apart = h.apart;
}

below_node : (count top : ℕ) (n : NodeView) (reach : Option ℕ) (root : Bool) → top < count → IsNode count n → end_of n.high ≤ end_of reach
    → (n.version.splitting ≡ false → reach ≡ n.high) → IsNode count (below_top n top reach root)
below_node count top n reach root there_is h within exact = record {
  names = record {
    next = h.names.next;
    previous = h.names.previous;
    parent = λ j e. omega (arith, same_Some _ _ e, there_is);
    children = h.names.children;
  };
  lock = h.lock;
  kind = h.kind;
  slots = h.slots;
  children = h.children;
  reach = record { within = within; exact = exact };
  chain = h.chain;
  rooted = λ live free none. absurd (cc);
}

-- three rising bounds
three_rise : (a b c : ℕ) → a < b → b < c → IsRising (a ∷ b ∷ c ∷ [])
three_rise a b c ab bc zero zero lt within = absurd (omega arith)
three_rise a b c ab bc zero (suc zero) lt within = ab
three_rise a b c ab bc zero (suc (suc zero)) lt within = omega (arith, ab, bc)
three_rise a b c ab bc (suc zero) (suc (suc zero)) lt within = bc
three_rise a b c ab bc (suc zero) zero lt within = absurd (omega arith)
three_rise a b c ab bc (suc zero) (suc zero) lt within = absurd (omega arith)
three_rise a b c ab bc (suc (suc i)) j lt within = absurd (omega arith)
three_rise a b c ab bc i (suc (suc (suc j))) lt within = absurd (omega arith)

one_rises : (a : ℕ) → IsRising (a ∷ [])
one_rises a i j lt within = absurd (omega arith)

-- the version of a locked root
pub record IsOfTop (v : Parts) : Type 0 where
  pub locked : v.locked ≡ true
  pub inserting : v.inserting ≡ false
  pub splitting : v.splitting ≡ false
  pub deleted : v.deleted ≡ false
  pub root : v.root ≡ true
  pub border : v.border ≡ false

-- a new root over two halves, with this version
abbrev pub top_with : Parts → List NodeView → ℕ → ℕ → ℕ → NodeView
top_with version nodes i j op = record (top_over nodes i j op) { version = version }

-- it comes to a number h that no live node names, and where another node stands now
module _ (xs : List NodeView) (i j h op : ℕ) (version : Parts) (of_top : IsOfTop version) (nodes : AreNodes xs) (f : AreRootHalves xs i j) (lh : h < length xs)
    (unnamed : IsUnnamed xs h) (ih : i ≢ h) (jh : j ≢ h)
    (alone : (k : ℕ) → k < length xs → k ≢ h → (node_at xs k).tree ≡ (node_at xs i).tree → (node_at xs k).level ≡ (node_at xs i).level + 1 → (node_at xs k).version.deleted ≡ false
    → (s : ℕ) → Holds (node_at xs k) s → 18446744073709551616 ≤ s) where
  abbrev l : NodeView
  l = node_at xs i

  abbrev r : NodeView
  r = node_at xs j

  abbrev y : NodeView
  y = left_below l h

  abbrev z : NodeView
  z = right_below r h

  abbrev g : NodeView
  g = top_with version xs i j op

  abbrev ws : List NodeView
  ws = set (set xs i y) j z

  abbrev vs : List NodeView
  vs = set ws h g

  li : i < length xs
  li = f.left_there

  lj : j < length xs
  lj = f.right_there

  size : length vs ≡ length xs
  size = length-set ws h g ∙ length-set (set xs i y) j z ∙ length-set xs i y

  -- the halves beside all but the new root
  from_left : (k : ℕ) (m : NodeView) → k ≢ h → IsPair i l k m → IsPair i y k m
  from_left k m other = below_from h i l k m l.high false other

  from_right : (k : ℕ) (m : NodeView) → k ≢ h → IsPair j r k m → IsPair j z k m
  from_right k m other = below_from h j r k m r.reach r.version.root other

  to_left : (k : ℕ) (m : NodeView) → IsPair k m i l → IsPair k m i y
  to_left k m = below_to h k m i l l.high false f.left_parentless

  to_right : (k : ℕ) (m : NodeView) → IsPair k m j r → IsPair k m j z
  to_right k m = below_to h k m j r r.reach r.version.root f.right_parentless

  left_node : IsNode (length xs) y
  left_node = below_node (length xs) h l l.high false lh (nodes.each i li) (omega arith) (λ e. refl)

  right_node : IsNode (length xs) z
  right_node = below_node (length xs) h r r.reach r.version.root lh (nodes.each j lj) (nodes.each j lj).reach.within (nodes.each j lj).reach.exact

  -- the new root
  top_children : (a : ℕ) → a < 2 → get_or (i ∷ j ∷ []) a 0 < length xs
  top_children zero lt = li
  top_children (suc zero) lt = lj
  top_children (suc (suc a)) lt = absurd (omega arith)

  top_node : IsNode (length xs) g
  top_node = record {
    names = record {
      next = λ k e. absurd (cc);
      previous = λ k e. absurd (cc);
      parent = λ k e. absurd (cc);
      children = top_children;
    };
    lock = record {
      locked = of_top.locked;
      inserting = λ e. absurd (let both = sym of_top.inserting ∙ e in cc);
      splitting = λ e. absurd (let both = sym of_top.splitting ∙ e in cc);
      stable = λ free. absurd (cc);
    };
    kind = record { border = λ e. absurd (let both = sym of_top.border ∙ e in cc); interior = λ e. omega arith };
    slots = record { border = no_slots; within = λ k lt. absurd (omega arith); slotless = λ level. refl };
    children = record {
      childless = λ level. absurd (omega (arith, level));
      interior = record { room = omega arith; between = omega arith; rising = one_rises r.low };
      rise = λ some. three_rise 0 r.low 18446744073709551616 f.above f.below;
      peopled = λ level range. λ e. absurd (cc);
    };
    reach = record { within = omega arith; exact = λ e. refl };
    chain = interior_chain (omega arith);
    rooted = λ live free. absurd (cc);
  }

  left_child : IsChild g 0 y
  left_child = record { live = f.left_live; tree = refl; level = refl; knows = λ e. absurd (cc); low = f.left_low; reach = ap end_of f.fence }

  right_child : IsChild g 1 z
  right_child = record { live = f.right_live; tree = f.right_tree; level = omega (arith, f.right_level); knows = λ e. absurd (cc); low = refl; reach = ap end_of f.right_reach }

  top_from : (k : ℕ) (m : NodeView) → ((a : ℕ) → a < 2 → get_or (i ∷ j ∷ []) a 0 ≡ k → IsChild g a m)
      → (m.tree ≡ l.tree → m.level ≡ l.level + 1 → m.version.deleted ≡ false → (s : ℕ) → Holds m s → 18446744073709551616 ≤ s) → IsPair h g k m
  top_from k m children lonely = record {
    next = λ _ e. absurd (cc);
    named = λ _ _. names_none;
    child = λ a la is live. children a la is;
    apart = λ differ tree level live also s hg hm. absurd (omega (arith, lonely (sym tree) (sym level) also s hm, hg.1));
  }

  left_children : (a : ℕ) → a < 2 → get_or (i ∷ j ∷ []) a 0 ≡ i → IsChild g a y
  left_children zero la is = left_child
  left_children (suc zero) la is = absurd (f.differ (sym is))
  left_children (suc (suc a)) la is = absurd (omega arith)

  right_children : (a : ℕ) → a < 2 → get_or (i ∷ j ∷ []) a 0 ≡ j → IsChild g a z
  right_children zero la is = absurd (f.differ is)
  right_children (suc zero) la is = right_child
  right_children (suc (suc a)) la is = absurd (omega arith)

  no_children : (k : ℕ) (m : NodeView) → k ≢ i → k ≢ j → (a : ℕ) → a < 2 → get_or (i ∷ j ∷ []) a 0 ≡ k → IsChild g a m
  no_children k m ni nj zero la is = absurd (ni (sym is))
  no_children k m ni nj (suc zero) la is = absurd (nj (sym is))
  no_children k m ni nj (suc (suc a)) la is = absurd (omega arith)

  top_self : IsPair h g h g
  top_self = record {
    next = λ _ e. absurd (cc);
    named = λ _ _. names_none;
    child = λ a la is live. no_children h g (λ e. ih (sym e)) (λ e. jh (sym e)) a la is;
    apart = λ differ. absurd (differ refl);
  }

  -- nobody but its children names it
  to_top : (k : ℕ) (m : NodeView) → (m.version.deleted ≡ false → m.next ≢ Some h)
      → ((a : ℕ) → a < length m.children → m.version.deleted ≡ false → get_or m.children a 0 ≢ h)
      → (m.tree ≡ l.tree → m.level ≡ l.level + 1 → m.version.deleted ≡ false → (s : ℕ) → Holds m s → 18446744073709551616 ≤ s)
      → IsPair k m h g
  to_top k m next children lonely = record {
    next = λ live e. absurd (next live e);
    named = λ _ free. absurd (cc);
    child = λ a la is live. absurd (children a la live is);
    apart = λ differ tree level live also s hm hg. absurd (omega (arith, lonely tree level live s hm, hg.1));
  }

  -- the facts of all nodes with the new root
  pub grown_nodes : AreNodes vs
  grown_nodes = record {
    each = subst (λ c. AllNodes (IsNode c) vs) (sym size)
        (nodes_set (IsNode (length xs)) ws h g (omega (arith, lh, length-set xs i y, length-set (set xs i y) j z))
        (nodes_set (IsNode (length xs)) (set xs i y) j z (omega (arith, lj, length-set xs i y)) (nodes_set (IsNode (length xs)) xs i y li nodes.each left_node) right_node) top_node);
    pairs = pairs_set3 IsPair xs i j h y z g li lj lh f.differ ih jh nodes.pairs
        (to_left i y (from_left i l ih (nodes.pairs i i li li)))
        (to_right j z (from_right j r jh (nodes.pairs j j lj lj)))
        top_self
        (to_right i y (from_left j r jh (nodes.pairs i j li lj)), to_left j z (from_right i l ih (nodes.pairs j i lj li)))
        (to_top i y (unnamed.next i li) (λ a la live. unnamed.child i a li live la) (λ tree level. absurd (omega (arith, level))), top_from i y left_children (λ tree level. absurd (omega (arith, level))))
        (to_top j z (unnamed.next j lj) (λ a la live. unnamed.child j a lj live la) (λ tree level. absurd (omega (arith, level, f.right_level))), top_from j z right_children (λ tree level. absurd (omega (arith, level, f.right_level))))
        (λ k lk ni nj nh. (
          (from_left k (node_at xs k) nh (nodes.pairs i k li lk), to_left k (node_at xs k) (nodes.pairs k i lk li)),
          (from_right k (node_at xs k) nh (nodes.pairs j k lj lk), to_right k (node_at xs k) (nodes.pairs k j lk lj)),
          (
            top_from k (node_at xs k) (no_children k (node_at xs k) ni nj) (alone k lk nh),
            to_top k (node_at xs k) (unnamed.next k lk) (λ a la live. unnamed.child k a lk live la) (alone k lk nh),
          ),
        ));
  }

  -- who names the new root: its two children alone
  named : (k : ℕ) → k < length vs → (node_at vs k).version.deleted ≡ false → ((node_at vs k).previous ≢ Some h) × ((node_at vs k).parent ≡ Some h → HasChild g k)
  named k lk =
      each_set3 (λ k n. n.version.deleted ≡ false → (n.previous ≢ Some h) × (n.parent ≡ Some h → HasChild g k)) xs i j h y z g li lj lh f.differ ih jh
      (λ live. (unnamed.previous i li live, λ e. record { live = of_top.deleted; place = 0; in_range = omega arith; is = refl }))
      (λ live. (unnamed.previous j lj live, λ e. record { live = of_top.deleted; place = 1; in_range = omega arith; is = refl }))
      (λ live. (λ e. absurd (cc), λ e. absurd (cc)))
      (λ k lk ni nj nh live. (unnamed.previous k lk live, λ e. absurd (unnamed.parent k lk live e))) k (omega (arith, lk, size))

  pub settled_top : IsSettled vs h g
  settled_top = record {
    previous = λ k lk e live. absurd ((named k lk live).0 e);
    previous_live = λ k lk e live. of_top.deleted;
    parent = λ k lk e live. (named k lk live).1 e;
    reach = refl;
    stable = λ k d lt. absurd (omega arith);
    rooted = λ live none. of_top.root;
  }

-- what is not empty has a first element
pub not_none : (cs : List ℕ) → cs ≢ [] → 0 < length cs
not_none [] some = absurd (some refl)
not_none (c ∷ cs) some = omega arith

-- no other node of the tree stands above the halves of its root: its first child would overlap one of them
pub none_above : (xs : List NodeView) (i j : ℕ) → AreNodes xs → AreRanged xs → AreRootHalves xs i j
    → (k : ℕ) → k < length xs → (node_at xs k).tree ≡ (node_at xs i).tree → (node_at xs k).level ≡ (node_at xs i).level + 1
    → (node_at xs k).version.deleted ≡ false
    → (s : ℕ) → Holds (node_at xs k) s → 18446744073709551616 ≤ s
none_above xs i j nodes ranged f k lk tree level live s holds =
    let m = node_at xs k in
    let h = nodes.each k lk in
    let la : 0 < length m.children = not_none m.children (h.children.peopled (omega (arith, level)) (omega (arith, holds.0, holds.1))) in
    let c : ℕ = get_or m.children 0 0 in
    let lc : c < length xs = h.names.children 0 la in
    let child : IsChild m 0 (node_at xs c) = (nodes.pairs k c lk lc).child 0 la refl live in
    let range : HasRange (node_at xs c) = (ranged.each c lc).parent child.knows in
    let low : (node_at xs c).low ≡ m.low = child.low in
    let not_left : c ≢ i = λ e. child.knows (ap (λ q. (node_at xs q).parent) e ∙ f.left_parentless) in
    let not_right : c ≢ j = λ e. child.knows (ap (λ q. (node_at xs q).parent) e ∙ f.right_parentless) in
    let fence : end_of (node_at xs i).high ≡ (node_at xs j).low = ap end_of f.fence in
    let end : end_of (node_at xs j).high ≡ 18446744073709551616 = ap end_of f.right_high in
    elim (cases_lt s 18446744073709551616) [
      | inr far ↦ omega (arith, far)
      | inl near ↦ elim (cases_lt m.low (node_at xs j).low) [
        | inl left ↦ absurd ((nodes.pairs c i lc f.left_there).apart not_left (child.tree ∙ tree) (omega (arith, child.level, level)) child.live f.left_live m.low
            (omega (arith, low), omega (arith, low, range)) (omega (arith, f.left_low), omega (arith, left, fence)))
        | inr right ↦ absurd ((nodes.pairs c j lc f.right_there).apart not_right (child.tree ∙ tree ∙ sym f.right_tree) (omega (arith, child.level, level, f.right_level)) child.live f.right_live m.low
            (omega (arith, low), omega (arith, low, range)) (omega (arith, right), omega (arith, near, holds.0, end)))
      ]
    ]
