-- The place of a border node that was taken out is given out again, as the right half of a border node that is marked: no live node leads to it, and
-- nobody holds it. For the laws, and for a split that takes such a place.
use Rattle.std.proofs.Common.{◌≡◌, ◌≢◌, ℕ, ◌<◌, List, [], ◌∷◌, length, get_or, set, Bool, true, false, Some, None, refl, sym, ap, subst, ◌∙◌, inl, inr, arith, eqb-true}
use Rattle.std.proofs.{lemmas.Bool.cases_eq, lemmas.List.length-set, lemmas.Option.same_Some}
use Rattle.std.specs.Prelude.{◌&&◌, ◌==◌}
use Rattle.mt_version.proofs.Aging.{ages-renewed}
use Rattle.mt_arena.specs.{declared.retired.Retired.Retired, declared.tree.Tree.Tree, declared.tree.Standing.TheVariants.Made}
use Rattle.mt_arena.specs.{Guarantee.{NodesGuarantee, Changes, PointsOnly, LosesHeld, LoseHeld}, NodeView.{NodeView, node_at}}
use Rattle.mt_arena.specs.{Nodes.{AreNodes, IsNode, IsPair, HasRange}, Ranges.{IsRanged, AreRanged, AreTied, IsLeftHalf}, Forests.{IsForest, HasSlice, tree_at}}
use Rattle.mt_arena.specs.{Layers.AreLayered, Contents.{content, live_pairs}, Idle.{RetiredPlaces, Rooms, is_idle_border}, Given.{IsGiven, GivesOut}}
use Rattle.mt_arena.specs.{Arena.{IsArena, ArenaView, Guarantee}, Invariant.ArenaInvariant, Accesses.at, Edits.{splitting, again_half, blank_again}}
use Rattle.mt_arena.proofs.{Pairs.{here, there, are_set, nodes_set, pairs_set}, Groups.held_lock, Push.{no_slots, no_children}, Vacant.{IsVacant, forest_vacant, layers_vacant}}
use Rattle.mt_arena.proofs.{Counted.{pairs-nil, pairs-gone}, ContentQuiet.content-set}
use Rattle.mt_arena.proofs.{Guarantees.{guarantee_on, guarantee_set, points_set, lost_none, lost_same}, Naming.{points_on, each_set2}}
use Rattle.mt_arena.proofs.{Locks.{is_held, sound_splitting, changes_splitting}, Retiring.border_given, NamedLate.{border_out, named_border_given}}

module _ (xs : List NodeView) (i k low op : ℕ) (li : i < length xs) (lk : k < length xs) (differ : i ≢ k) (nodes : AreNodes xs)
    (gone : (node_at xs k).version.deleted ≡ true) (free : (node_at xs k).holder ≡ None) (kind : (node_at xs k).version.border ≡ true)
    (live : (node_at xs i).version.deleted ≡ false) (held : (node_at xs i).holder ≡ Some op) (marked : (node_at xs i).version.splitting ≡ true)
    (level : (node_at xs i).level ≡ 0) where
  abbrev x : NodeView
  x = node_at xs i

  abbrev old : NodeView
  old = node_at xs k

  abbrev y : NodeView
  y = again_half old x i low op

  -- no live node names it, but as the one before or above while somebody holds it
  nobodys_next : (j : ℕ) → j < length xs → (node_at xs j).version.deleted ≡ false → (node_at xs j).next ≡ Some k → ⊥
  nobodys_next j lj alive e = absurd (let also = ((nodes.pairs j k lj lk).next alive e).live alive in cc)

  nobodys_child : (j a : ℕ) → j < length xs → (node_at xs j).version.deleted ≡ false → a < length (node_at xs j).children
      → get_or (node_at xs j).children a 0 ≡ k → ⊥
  nobodys_child j a lj alive la e = absurd (let also = ((nodes.pairs j k lj lk).child a la e alive).live in cc)

  nobodys_previous : (j : ℕ) → j < length xs → (node_at xs j).version.deleted ≡ false → (node_at xs j).previous ≡ Some k → ⊥
  nobodys_previous j lj alive e = absurd (let also = ((nodes.pairs j k lj lk).named alive free).live e in cc)

  -- the node
  one : IsNode (length xs) y
  one = record {
    names = record {
      next = λ j e. absurd (cc);
      previous = λ j e. omega (arith, same_Some _ _ e, li);
      parent = λ j e. absurd (cc);
      children = λ a lt. absurd (omega arith);
    };
    lock = held_lock (Some op) [] (λ e. absurd (cc)) refl;
    kind = record { border = λ e. level; interior = λ e. absurd (let is = kind in cc) };
    slots = record { border = no_slots; within = λ a lt. absurd (omega arith); slotless = λ above. refl };
    children = record {
      childless = λ _. refl;
      interior = no_children;
      rise = λ some. absurd (some refl);
      peopled = λ above range. absurd (omega arith);
    };
    reach = record { within = omega arith; exact = λ e. refl };
    chain = record { last = λ _ range. absurd (omega arith); first = λ _ range. absurd (omega arith) };
    rooted = λ _ none. absurd (cc);
  }

  -- what it names: its left half, which somebody holds
  from : (j : ℕ) (m : NodeView) → (j ≡ i → m.holder ≢ None) → IsPair k y j m
  from j m is_held = record {
    next = λ _ e. absurd (cc);
    named = λ _ none. record {
      back = λ e. absurd (is_held (sym (same_Some _ _ e)) none);
      live = λ e. absurd (is_held (sym (same_Some _ _ e)) none);
      knows = λ e. absurd (cc);
    };
    child = λ a lt. absurd (omega arith);
    apart = λ _ tree at_level alive also s holds _. absurd (omega (arith, holds.0, holds.1));
  }

  to : (j : ℕ) → j < length xs → IsPair j (node_at xs j) k y
  to j lj = record {
    next = λ alive e. absurd (nobodys_next j lj alive e);
    named = λ _ none. absurd (cc);
    child = λ a lt e alive. absurd (nobodys_child j a lj alive lt e);
    apart = λ _ tree at_level alive also s _ holds. absurd (omega (arith, holds.0, holds.1));
  }

  self : IsPair k y k y
  self = from k y (λ e. absurd (differ (sym e)))

  pub nodes_again : AreNodes (set xs k y)
  nodes_again = are_set xs k y lk nodes one self
      (λ j lj other. from j (node_at xs j) (λ is none. absurd (let who = ap (λ n. (node_at xs n).holder) (sym is) ∙ none in let mine = held in cc)))
      (λ j lj other. to j lj)

  -- it waits beside its left half
  pub ranged_again : AreRanged xs → HasRange x → AreRanged (set xs k y)
  ranged_again ranged range = record {
    each = nodes_set IsRanged xs k y lk ranged.each record {
      next = λ some. absurd (some refl);
      parent = λ some. absurd (some refl);
      unmarked = λ whole. absurd (cc);
      interior = λ above. absurd (omega (arith, above, level));
      named = λ _ none. absurd (cc);
      fits = λ none. absurd (omega (arith, none));
    };
    ties = pairs_set AreTied xs k y lk ranged.ties
        record { next = λ _ e. absurd (cc); left = λ e. absurd (differ (same_Some _ _ e)) }
        (λ j lj other. record {
          next = λ _ e. absurd (cc);
          left = λ e _. subst (λ n. IsLeftHalf (node_at xs n) y) (same_Some _ _ e)
              (record { live = live; range = range; marked = marked; tree = refl; level = refl; holder = held });
        })
        (λ j lj other. record {
          next = λ alive e. absurd (nobodys_next j lj alive e);
          left = λ e waits. absurd (nobodys_previous j lj waits.0 e);
        });
  }

  -- the place is vacant
  vacant : IsVacant xs k
  vacant = record { there = lk; out = gone; free = free }

  -- the whole
  pub arena_again : (trees : List Tree) → AreRanged xs → IsForest xs trees → AreLayered xs trees → HasRange x
      → HasSlice (tree_at trees x.tree).prefix low → IsArena (set xs k y) trees
  arena_again trees ranged forest layers range begins = record {
    nodes = nodes_again;
    ranged = ranged_again ranged range;
    forest = forest_vacant xs trees k y vacant refl forest (forest.tree_there i li) ((forest.homes i x.tree li (forest.tree_there i li)).standing refl live) refl (λ _ border over. begins);
    layers = layers_vacant xs trees k y vacant refl layers;
  }

  -- and the contents stand
  pub content_again : (trees : List Tree) → content trees (set xs k y) ≡ content trees xs
  content_again trees = content-set trees xs k y (pairs-nil trees y refl ∙ sym (pairs-gone trees old gone))

-- The giving out, and the step behind it: as if the place had had a blank node, which becomes the right half.
module _ (xs : List NodeView) (trees : List Tree) (i k low op : ℕ) (li : i < length xs) (lk : k < length xs) (differ : i ≢ k)
    (held : (node_at xs i).holder ≡ Some op) (mine : (q : ℕ) → (tree_at trees (node_at xs i).tree).standing ≡ Made q → q ≡ op)
    (there_is : (j : ℕ) → j < length xs → (node_at xs j).tree < length trees) where
  abbrev o : NodeView
  o = node_at xs k

  abbrev n : NodeView
  n = node_at xs i

  abbrev b : NodeView
  b = blank_again o n low

  abbrev mid : List NodeView
  mid = set xs k b

  abbrev ys : List NodeView
  ys = set mid i (splitting n)

  abbrev zs : List NodeView
  zs = set ys k (again_half o n i low op)

  size_mid : length mid ≡ length xs
  size_mid = length-set xs k b

  size_ys : length ys ≡ length xs
  size_ys = length-set mid i (splitting n) ∙ size_mid

  mid_i : node_at mid i ≡ n
  mid_i = there xs k i b differ

  mid_k : node_at mid k ≡ b
  mid_k = here xs k b lk

  ys_i : node_at ys i ≡ splitting n
  ys_i = here mid i (splitting n) (omega (arith, li, size_mid))

  ys_k : node_at ys k ≡ b
  ys_k = there mid i k (splitting n) (λ e. differ (sym e)) ∙ mid_k

  -- the blank node becomes the right half
  half_changes : Changes op b (again_half o n i low op)
  half_changes = record {
    tree = refl;
    level = refl;
    low = refl;
    ages = record {
      inserts = omega arith;
      splits = omega arith;
      range = omega arith;
      insertion = λ same. absurd (omega (arith, same));
      deleted = λ dead. absurd (cc);
      border = refl;
      root = λ same. absurd (omega (arith, same));
    };
    peopled = λ some. absurd (some refl);
    widens = λ same. absurd (omega (arith, same));
    keys = λ same. absurd (omega (arith, same));
    held = λ q other e. absurd (cc);
    taken = λ q other e. absurd (other (same_Some q op (sym e)));
  }

  pub guarantee_again : NodesGuarantee op mid zs trees trees
  guarantee_again =
      guarantee_on op mid ys zs trees trees trees
      (guarantee_set op mid trees i (splitting n) (omega (arith, li, size_mid)) (rw mid_i (changes_splitting op n held)) (rw mid_i mine))
      (guarantee_set op ys trees k (again_half o n i low op) (omega (arith, lk, size_ys)) (rw ys_k half_changes) (rw ys_k mine))
      (λ j lj. elim (cases_eq j k) [
        | inl is ↦ rw (is, mid_k) (there_is i li)
        | inr other ↦ rw (there xs k j b other) (there_is j (omega (arith, lj, size_mid)))
      ])

  pub points_again : PointsOnly op mid zs
  points_again =
      points_on op mid ys zs (omega (arith, size_ys, size_mid))
      (points_set op mid i (splitting n) (omega (arith, li, size_mid)) (rw mid_i (record { previous = λ j e not_mine. e; parent = λ j e not_mine. e })))
      (points_set op ys k (again_half o n i low op) (omega (arith, lk, size_ys)) (rw ys_k (record {
        previous = λ j e not_mine. absurd (not_mine (ap (λ a. (node_at zs a).holder) (sym (same_Some _ _ e)) ∙ ap (λ (m : NodeView). m.holder) (there ys k i (again_half o n i low op) differ ∙ ys_i) ∙ held));
        parent = λ j e not_mine. absurd (cc);
      })))
      (λ j lj theirs. elim (cases_eq j k) [
        | inl is ↦ ap (λ a. (node_at zs a).holder) is ∙ ap (λ (m : NodeView). m.holder) (here ys k (again_half o n i low op) (omega (arith, lk, size_ys)))
        | inr other ↦ ap (λ (m : NodeView). m.holder) (there ys k j (again_half o n i low op) other) ∙ theirs
      ])

  -- no slot loses anything
  pub lost_again : LoseHeld mid zs
  lost_again =
      each_set2 (λ j m. LosesHeld (node_at mid j) m) mid i k (splitting n) (again_half o n i low op) (omega (arith, li, size_mid)) (omega (arith, lk, size_mid)) differ
      (rw mid_i (lost_none n)) (rw mid_k (lost_same b (again_half o n i low op) refl refl)) (λ j lj ni nk. lost_none (node_at mid j))

  -- the whole
  pub step_again : (lists : RetiredPlaces)
      → Guarantee op (record { nodes = mid; trees = trees; retired = lists }) (record { nodes = zs; trees = trees; retired = lists })
  step_again lists = record { nodes = guarantee_again; points = points_again; lost = lost_again }

-- the blank node is given out
pub given_again : (old n : NodeView) (low : ℕ) → old.version.deleted ≡ true → old.holder ≡ None → IsGiven old (blank_again old n low)
given_again old n low out free = record {
  out = out;
  free = free;
  blank = record { live = refl; free = refl; slots = refl; children = refl; next = refl; previous = refl; parent = refl };
  ages = ages-renewed old.version false;
}

pub gives_again : (v : ArenaView) (i k low : ℕ) (lists : RetiredPlaces) → k < length v.nodes → (at v k).version.deleted ≡ true → (at v k).holder ≡ None
    → GivesOut v (record v { nodes = set v.nodes k (blank_again (at v k) (at v i) low); retired = lists })
gives_again v i k low lists within out free =
    let b = blank_again (at v k) (at v i) low in
    record {
      count = length-set v.nodes k b;
      tree_count = refl;
      nodes = λ j lj. elim (cases_eq j k) [
        | inl is ↦ inr (subst (λ a. IsGiven (at v a) (node_at (set v.nodes k b) a)) (sym is) (subst (IsGiven (at v k)) (sym (here v.nodes k b within)) (given_again (at v k) (at v i) low out free)))
        | inr other ↦ inl (there v.nodes k j b other)
      ];
      trees = λ t lt. inl refl;
    }

-- a node of level 0 is a border node
pub is_border : (border : Bool) (level : ℕ) → (border ≡ false → 0 < level) → level ≡ 0 → border ≡ true
is_border true level interior none = refl
is_border false level interior none = absurd (omega (arith, interior refl, none))

pub second_true : (a b : Bool) → (a && b) ≡ true → b ≡ true
second_true true b both = both
second_true false b both = absurd (cc)

-- the whole invariant stands where the first of the idle places of border nodes gets the right half of a node that is split
module _ (xs : List NodeView) (trees : List Tree) (gone : RetiredPlaces) (r : Retired) (rest : List Retired) (room : Rooms) (i low op : ℕ)
    (sound : ArenaInvariant xs trees (record gone { borders = r ∷ rest }) room) (li : i < length xs) (live : (node_at xs i).version.deleted ≡ false)
    (level : (node_at xs i).level ≡ 0) (held : (node_at xs i).holder ≡ Some op) (range : HasRange (node_at xs i))
    (begins : HasSlice (tree_at trees (node_at xs i).tree).prefix low) (free : (node_at xs r.place).holder ≡ None) where
  abbrev p : ℕ
  p = r.place

  abbrev w : NodeView
  w = node_at xs i

  abbrev q : NodeView
  q = node_at xs p

  abbrev ms : List NodeView
  ms = set xs i (splitting w)

  abbrev h : NodeView
  h = again_half q w i low op

  lp : p < length xs
  lp = sound.retired.of_borders.there 0 (omega arith)

  idle : is_idle_border q ≡ true
  idle = sound.retired.of_borders.idle_there 0 (omega arith)

  out : q.version.deleted ≡ true
  out = border_out q idle

  border_kind : q.version.border ≡ true
  border_kind = is_border q.version.border q.level (sound.arena.nodes.each p lp).kind.interior (eqb-true q.level 0 (second_true q.version.deleted (q.level == 0) idle))

  pub apart : i ≢ p
  apart same = absurd (let both = sym live ∙ ap (λ j. (node_at xs j).version.deleted) same ∙ out in cc)

  size_ms : length ms ≡ length xs
  size_ms = length-set xs i (splitting w)

  at_i : node_at ms i ≡ splitting w
  at_i = here xs i (splitting w) li

  at_p : node_at ms p ≡ q
  at_p = there xs i p (splitting w) (λ e. apart (sym e))

  marked : ArenaInvariant ms trees (record gone { borders = r ∷ rest }) room
  marked = sound_splitting xs trees (record gone { borders = r ∷ rest }) room i li sound (is_held op w held)

  arena_out : IsArena (set ms p h) trees
  arena_out = rw (at_p, at_i) at
      (arena_again ms i p low op (omega (arith, li, size_ms)) (omega (arith, lp, size_ms)) apart marked.arena.nodes (rw at_p out) (rw at_p free) (rw at_p border_kind)
      (rw at_i live) (rw at_i held) (rw at_i refl) (rw at_i level) trees marked.arena.ranged marked.arena.forest marked.arena.layers (rw at_i range) (rw at_i begins))

  pub sound_given : ArenaInvariant (set ms p h) trees (record gone { borders = rest }) room
  sound_given = record {
    arena = arena_out;
    retired = border_given ms trees gone r rest h marked.retired refl;
    named = named_border_given ms trees gone r rest h marked.retired marked.named;
    enough = omega (arith, length-set ms p h, size_ms, sound.enough);
    trees_enough = sound.trees_enough;
  }

  pub content_given : content trees (set ms p h) ≡ content trees xs
  content_given = content-set trees ms p h (pairs-nil trees h refl ∙ sym (ap (live_pairs trees) at_p ∙ pairs-gone trees q out)) ∙ content-set trees xs i (splitting w) refl
