-- The place of a node that was taken out, and that nobody holds: what comes there as a new node, for the calls that make nodes.
use Rattle.std.proofs.Common.{◌≡◌, ◌≢◌, ℕ, ◌+◌, ◌*◌, ◌<◌, ◌≤◌, ◌⊎◌, List, [], ◌∷◌, ◌++◌, length, get_or, set, Bool, true, false, Some, None, refl, sym, ap, subst, ◌∙◌, inl, inr, arith, length-append}
use Rattle.std.proofs.{lemmas.Bool.cases_eq, lemmas.List.{length-set, set-set, set_comm}}
use Rattle.mt_version.specs.{Parts.Parts, Changes.{Ages, AgesOn, range_age, renewed}}
use Rattle.std.specs.Prelude.{if◌then◌else◌}
use Rattle.mt_interior.specs.Fences.{end_of}
use Rattle.mt_arena.specs.{declared.tree.Tree.Tree, declared.tree.Standing.TheVariants.Dead, NodeView.{NodeView, node_at, no_node}}
use Rattle.mt_arena.specs.{Nodes.{AreNodes, IsNode, IsPair, HasRange}, Ranges.{AreRanged, AreTied, IsRanged}, Forests.{IsForest, BeginsAtKey, tree_at}, Layers.{AreLayered, HasLink, slot_at}}
use Rattle.mt_arena.specs.{Contents.content, Guarantee.{Changes, LosesHeld}, Given.{IsGiven, GivesOut}, Idle.RetiredPlaces, Arena.ArenaView, Accesses.at, Edits.{bare, again}}
use Rattle.mt_arena.proofs.{Pairs.{here, there, last, before, are_set, nodes_set, pairs_set}, Groups.{held_lock, there_none, names_none}, Push.{no_slots, no_children}, LinkEdits.no_links}
use Rattle.mt_arena.proofs.{Begins.begins_again, Homes.tree_more, Growing.no_keys, Counted.{pairs-nil, pairs-gone}, ContentQuiet.content-set, Ranged.{IsBeside, no_wait, with_range}}

-- such a place
pub record IsVacant (xs : List NodeView) (p : ℕ) : Type 0 where
  pub there : p < length xs
  pub out : (node_at xs p).version.deleted ≡ true
  pub free : (node_at xs p).holder ≡ None

-- a live node is another one
pub apart_vacant : (xs : List NodeView) (i p : ℕ) → IsVacant xs p → (node_at xs i).version.deleted ≡ false → i ≢ p
apart_vacant xs i p vacant live same = absurd (let both = sym live ∙ ap (λ k. (node_at xs k).version.deleted) same ∙ vacant.out in cc)

-- what stood there is nowhere once the place has another node, whichever two others change meanwhile
pub set_out : (xs : List NodeView) (i j p : ℕ) (y z t u : NodeView) → i ≢ p → j ≢ p → set (set (set (set xs p t) i y) j z) p u ≡ set (set (set xs i y) j z) p u
set_out xs i j p y z t u ip jp =
    ap (λ (vs : List NodeView). set (set vs j z) p u) (set_comm xs p i t y (λ e. ip (sym e)))
    ∙ ap (λ (vs : List NodeView). set vs p u) (set_comm (set xs i y) p j t z (λ e. jp (sym e)))
    ∙ set-set (set (set xs i y) j z) p t u

-- no live node names the number
pub record IsUnnamed (xs : List NodeView) (p : ℕ) : Type 0 where
  pub next : (k : ℕ) → k < length xs → (node_at xs k).version.deleted ≡ false → (node_at xs k).next ≢ Some p
  pub previous : (k : ℕ) → k < length xs → (node_at xs k).version.deleted ≡ false → (node_at xs k).previous ≢ Some p
  pub parent : (k : ℕ) → k < length xs → (node_at xs k).version.deleted ≡ false → (node_at xs k).parent ≢ Some p
  pub child : (k a : ℕ) → k < length xs → (node_at xs k).version.deleted ≡ false → a < length (node_at xs k).children → get_or (node_at xs k).children a 0 ≢ p

pub unnamed_vacant : (xs : List NodeView) (p : ℕ) → AreNodes xs → IsVacant xs p → IsUnnamed xs p
unnamed_vacant xs p nodes vacant = record {
  next = λ k lk live e. absurd (let both = sym vacant.out ∙ ((nodes.pairs k p lk vacant.there).next live e).live live in cc);
  previous = λ k lk live e. absurd (let both = sym vacant.out ∙ ((nodes.pairs k p lk vacant.there).named live vacant.free).live e in cc);
  parent = λ k lk live e. absurd (let both = sym vacant.out ∙ (((nodes.pairs k p lk vacant.there).named live vacant.free).knows e).live in cc);
  child = λ k a lk live la e. absurd (let both = sym vacant.out ∙ ((nodes.pairs k p lk vacant.there).child a la e live).live in cc);
}

-- nor one behind the last
pub unnamed_new : (xs : List NodeView) → AreNodes xs → IsUnnamed xs (length xs)
unnamed_new xs nodes = record {
  next = λ k lk live e. omega (arith, (nodes.each k lk).names.next (length xs) e);
  previous = λ k lk live e. omega (arith, (nodes.each k lk).names.previous (length xs) e);
  parent = λ k lk live e. omega (arith, (nodes.each k lk).names.parent (length xs) e);
  child = λ k a lk live la e. omega (arith, (nodes.each k lk).names.children a la, e);
}

-- a node that names nobody comes to it
unnamed_each : (xs zs : List NodeView) (p : ℕ) (y : NodeView) → IsUnnamed xs p → y.next ≡ None → y.previous ≡ None → y.parent ≡ None → y.children ≡ []
    → ((k : ℕ) → k < length zs → (node_at zs k ≡ y) ⊎ ((k < length xs) × (node_at zs k ≡ node_at xs k))) → IsUnnamed zs p
unnamed_each xs zs p y h next previous parent children each = record {
  next = λ k lk. elim (each k lk) [
    | inl is ↦ rw (is, next) (λ live e. absurd (cc))
    | inr was ↦ rw was.1 (h.next k was.0)
  ];
  previous = λ k lk. elim (each k lk) [
    | inl is ↦ rw (is, previous) (λ live e. absurd (cc))
    | inr was ↦ rw was.1 (h.previous k was.0)
  ];
  parent = λ k lk. elim (each k lk) [
    | inl is ↦ rw (is, parent) (λ live e. absurd (cc))
    | inr was ↦ rw was.1 (h.parent k was.0)
  ];
  child = λ k a lk. elim (each k lk) [
    | inl is ↦ rw (is, children) (λ live la. absurd (omega (arith, la)))
    | inr was ↦ rw was.1 (h.child k a was.0)
  ];
}

pub unnamed_set : (xs : List NodeView) (p : ℕ) (y : NodeView) → p < length xs → IsUnnamed xs p → y.next ≡ None → y.previous ≡ None → y.parent ≡ None
    → y.children ≡ [] → IsUnnamed (set xs p y) p
unnamed_set xs p y within h next previous parent children = unnamed_each xs (set xs p y) p y h next previous parent children (λ k lk. elim (cases_eq k p) [
  | inl is ↦ inl (ap (node_at (set xs p y)) is ∙ here xs p y within)
  | inr other ↦ inr (omega (arith, lk, length-set xs p y), there xs p k y other)
])

pub unnamed_push : (xs : List NodeView) (y : NodeView) → IsUnnamed xs (length xs) → y.next ≡ None → y.previous ≡ None → y.parent ≡ None → y.children ≡ []
    → IsUnnamed (xs ++ y ∷ []) (length xs)
unnamed_push xs y h next previous parent children = unnamed_each xs (xs ++ y ∷ []) (length xs) y h next previous parent children (λ k lk. elim (cases_eq k (length xs)) [
  | inl is ↦ inl (ap (node_at (xs ++ y ∷ [])) is ∙ last xs y)
  | inr other ↦ let lt : k < length xs = omega (arith, lk, other, length-append xs (y ∷ [])) in inr (lt, before xs y k lt)
])

-- an interior node without range comes there, which an operation holds
module _ (xs : List NodeView) (p tree level low op : ℕ) (vacant : IsVacant xs p) (inner : (node_at xs p).version.border ≡ false) (above : 0 < level) where
  abbrev y : NodeView
  y = again (node_at xs p) (bare false tree level low op)

  one : IsNode (length xs) y
  one = record {
    names = there_none;
    lock = held_lock (Some op) [] (λ e. absurd (cc)) refl;
    kind = record { border = λ e. absurd (let no = inner in cc); interior = λ e. above };
    slots = record { border = no_slots; within = λ i lt. absurd (omega arith); slotless = λ level. refl };
    children = record { childless = λ level. refl; interior = no_children; rise = λ some. absurd (some refl); peopled = λ level range. absurd (omega arith) };
    reach = record { within = omega arith; exact = λ e. refl };
    chain = record { last = λ level range. absurd (omega arith); first = λ level range. absurd (omega arith) };
    rooted = λ live free. absurd (cc);
  }

  from : (j : ℕ) (m : NodeView) → IsPair p y j m
  from j m = record {
    next = λ _ e. absurd (cc);
    named = λ _ _. names_none;
    child = λ a la. absurd (omega arith);
    apart = λ differ same at_level live also s holds _. absurd (omega (arith, holds.0, holds.1));
  }

  to : IsUnnamed xs p → (j : ℕ) → j < length xs → IsPair j (node_at xs j) p y
  to unnamed j lj = record {
    next = λ live e. absurd (unnamed.next j lj live e);
    named = λ _ none. absurd (cc);
    child = λ a la e live. absurd (unnamed.child j a lj live la e);
    apart = λ differ same at_level live also s _ holds. absurd (omega (arith, holds.0, holds.1));
  }

  pub nodes_bare_again : AreNodes xs → AreNodes (set xs p y)
  nodes_bare_again nodes =
      are_set xs p y vacant.there nodes one (from p y) (λ j lj other. from j (node_at xs j)) (λ j lj other. to (unnamed_vacant xs p nodes vacant) j lj)

-- a node with a range comes there, or to any number that live nodes name neither as the next one nor as the one before
pub ranged_vacant : (xs : List NodeView) (p : ℕ) (y : NodeView) → p < length xs
    → ((k : ℕ) → k < length xs → (node_at xs k).version.deleted ≡ false → IsBeside p (node_at xs k)) → AreRanged xs → HasRange y
    → end_of y.high ≤ 18446744073709551616 → y.next ≡ None → AreRanged (set xs p y)
ranged_vacant xs p y within beside ranged range fits none = record {
  each = nodes_set IsRanged xs p y within ranged.each (with_range y range fits);
  ties = pairs_set AreTied xs p y within ranged.ties
      record { next = λ _ e. absurd (let no = none in cc); left = λ _ waits. absurd (no_wait y range waits) }
      (λ j lj _. record { next = λ _ e. absurd (let no = none in cc); left = λ _ waits. absurd (no_wait y range waits) })
      (λ j lj _. record { next = λ live e. absurd ((beside j lj live).0 e); left = λ e waits. absurd ((beside j lj waits.0).1 e) });
}

-- a node without slots comes there: what holds of trees, of links and of the contents
module _ (xs : List NodeView) (trees : List Tree) (p : ℕ) (y : NodeView) (vacant : IsVacant xs p) (none : y.slots ≡ []) where
  pub forest_vacant : IsForest xs trees → y.tree < length trees → (tree_at trees y.tree).standing ≢ Dead → y.version.root ≡ false
      → BeginsAtKey (tree_at trees y.tree).prefix y → IsForest (set xs p y) trees
  forest_vacant forest there_is stands no_root begins =
      let size = length-set xs p y in
      record {
        tree_there = λ k lk. elim (cases_eq k p) [
          | inl is ↦ rw (is, here xs p y vacant.there) there_is
          | inr other ↦ rw (there xs p k y other) (forest.tree_there k (omega (arith, lk, size)))
        ];
        homes = λ k t lk lt. elim (cases_eq k p) [
          | inl is ↦ rw (is, here xs p y vacant.there) record {
            root_tree = λ e standing. absurd (let alive = sym vacant.out ∙ ((forest.homes p t vacant.there lt).root_is e standing).live in cc);
            root_is = λ e standing. absurd (let alive = sym vacant.out ∙ ((forest.homes p t vacant.there lt).root_is e standing).live in cc);
            root_named = λ e live flag. absurd (let no = no_root in cc);
            standing = λ e live. subst (λ u. (tree_at trees u).standing ≢ Dead) e stands;
            keys = λ e. no_keys (tree_at trees t).prefix y.slots none;
          }
          | inr other ↦ rw (there xs p k y other) (forest.homes k t (omega (arith, lk, size)) lt)
        ];
        begins = begins_again xs trees p y vacant.there begins forest.begins;
        emptied = λ k lk. elim (cases_eq k p) [
          | inl is ↦ rw (is, here xs p y vacant.there) (λ out. none)
          | inr other ↦ rw (there xs p k y other) (forest.emptied k (omega (arith, lk, size)))
        ];
        each = λ t lt. tree_more (length xs) (length (set xs p y)) (tree_at trees t) (omega (arith, size)) (forest.each t lt);
        peers = forest.peers;
        top = forest.top;
      }

  has_link : (u : ℕ) → HasLink xs u → HasLink (set xs p y) u
  has_link u h =
      let same = there xs p h.node y (apart_vacant xs h.node p vacant h.live) in
      record {
        node = h.node;
        slot = h.slot;
        there = omega (arith, length-set xs p y, h.there);
        live = ap (λ (n : NodeView). n.version.deleted) same ∙ h.live;
        in_range = subst (λ (n : NodeView). h.slot < length n.slots) (sym same) h.in_range;
        is = ap (λ (n : NodeView). (slot_at n h.slot).held) same ∙ h.is;
      }

  pub layers_vacant : AreLayered xs trees → AreLayered (set xs p y) trees
  layers_vacant layers = record {
    links = λ k lk. elim (cases_eq k p) [
      | inl is ↦ rw (is, here xs p y vacant.there) (no_links trees y none)
      | inr other ↦ rw (there xs p k y other) (layers.links k (omega (arith, lk, length-set xs p y)))
    ];
    linked = λ u lu live deep. has_link u (layers.linked u lu live deep);
  }

  pub content_vacant : content trees (set xs p y) ≡ content trees xs
  content_vacant = content-set trees xs p y (pairs-nil trees y none ∙ sym (pairs-gone trees (node_at xs p) vacant.out))

-- What stands there for others before it: a blank node in the seat of the new one, whose version says that it is being split. So readers know that
-- its keys, its children and its range may change.
abbrev pub blank_for : NodeView → NodeView → NodeView
blank_for old n = record no_node { low = n.low; high = Some n.low; reach = Some n.low; version = record old.version { deleted = false; splitting = true }; tree = n.tree; level = n.level }

pub given_blank : (old n : NodeView) → old.version.deleted ≡ true → old.version.splitting ≡ false → old.holder ≡ None → IsGiven old (blank_for old n)
given_blank old n out whole free = record {
  out = out;
  free = free;
  blank = record { live = refl; free = refl; slots = refl; children = refl; next = refl; previous = refl; parent = refl };
  ages = by old.version whole;
}
  where
    by : (v : Parts) → v.splitting ≡ false → AgesOn v (record v { deleted = false; splitting = true })
    by v whole =
        let rises : range_age v < range_age (record v { deleted = false; splitting = true }) = rw whole (omega arith) in
        record {
          inserts = omega arith;
          splits = omega arith;
          range = omega (arith, rises);
          insertion = λ same. absurd (omega (arith, same, rises));
          deleted = λ same. absurd (omega (arith, same, rises));
          border = refl;
          root = λ same. absurd (omega (arith, same, rises));
        }

-- the new one has a later range, whether it is marked or not
rises_again : (marked : Bool) (splits : ℕ) → 2 * splits + 1 < 2 * (splits + 1) + (if marked then 1 else 0)
rises_again true splits = omega arith
rises_again false splits = omega arith

-- so it may differ from the blank one
pub changes_blank : (op : ℕ) (old n : NodeView) → n.version.deleted ≡ false → ((q : ℕ) → q ≢ op → n.holder ≢ Some q) → Changes op (blank_for old n) (again old n)
changes_blank op old n live mine = record {
  tree = refl;
  level = refl;
  low = refl;
  ages = by old.version n.version;
  peopled = λ some. absurd (some refl);
  widens = λ _ whole. absurd (cc);
  keys = λ _ _ whole. absurd (cc);
  held = λ q other e. absurd (cc);
  taken = λ q other e. absurd (mine q other e);
}
  where
    by : (v w : Parts) → Ages (record v { deleted = false; splitting = true }) (record (renewed v w.root) { locked = w.locked; splitting = w.splitting })
    by v w =
        let rises : range_age (record v { deleted = false; splitting = true }) < range_age (record (renewed v w.root) { locked = w.locked; splitting = w.splitting }) = rises_again w.splitting v.splits in
        record {
          inserts = omega arith;
          splits = omega arith;
          range = omega (arith, rises);
          insertion = λ same. absurd (omega (arith, same, rises));
          deleted = λ dead. absurd (cc);
          border = refl;
          root = λ same. absurd (omega (arith, same, rises));
        }

pub lost_blank : (old n : NodeView) → LosesHeld (blank_for old n) (again old n)
lost_blank old n whole = absurd (cc)

-- the blank node is given out
pub gives_blank : (v : ArenaView) (p : ℕ) (n : NodeView) (lists : RetiredPlaces) → IsVacant v.nodes p → (at v p).version.splitting ≡ false
    → GivesOut v (record v { nodes = set v.nodes p (blank_for (at v p) n); retired = lists })
gives_blank v p n lists vacant whole =
    let b = blank_for (at v p) n in
    record {
      count = length-set v.nodes p b;
      tree_count = refl;
      nodes = λ k lk. elim (cases_eq k p) [
        | inl is ↦ inr (subst (λ a. IsGiven (at v a) (node_at (set v.nodes p b) a)) (sym is) (subst (IsGiven (at v p)) (sym (here v.nodes p b vacant.there)) (given_blank (at v p) n vacant.out whole vacant.free)))
        | inr other ↦ inl (there v.nodes p k b other)
      ];
      trees = λ t lt. inl refl;
    }
