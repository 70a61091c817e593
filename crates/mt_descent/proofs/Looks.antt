-- What a search finds and a load takes, as long as the range or the version stands.
use Rattle.std.proofs.{Common.{◌≡◌, ◌≢◌, ℕ, ◌+◌, ◌≤◌, max, List, Option, Some, None, refl, sym, ap, subst, ◌∙◌, inl, inr, arith}, lemmas.Option.same_Some}
use Rattle.std.proofs.Math.Nat.{le-max_left, le-max_right, max-le}
use Rattle.std.specs.{Prelude.IsSomeAnd, FinMap.get}
use Rattle.mt_slices.specs.Slices.{slice_of, mark_of, suffix_of}
use Rattle.mt_rows.specs.{Rows.Bytes, Stamps.Stamped}
use Rattle.mt_border.specs.{declared.entry.Entry.Entry, Held.{Pair, Held}, declared.entry.FoundKind.FoundKind}
use Rattle.mt_border.specs.{declared.entry.FoundKind.TheVariants.{ThisKey, OtherLong, Link as ToTree}, declared.entry.Find.Find}
use Rattle.mt_border.specs.{Node.{Node as BorderNode, IsFound, Finds}, Entry.{IsKind, IsLink, pair_of}, Entries.IsMissing, Contents.{owned, row_of}}
use Rattle.mt_border.specs.Slots.{held_in}
use Rattle.mt_arena.specs.{NodeFacts.IsUnstable, NodeView.{NodeView, place_at, border_view}, Forests.tree_at, Layers.slot_at, Arena.{ArenaView, IsArena, content_of}, Accesses.at}
use Rattle.mt_arena.specs.{Stands.StandsAt, Ways.{BelongsIn, StandsFor}}
use Rattle.mt_arena.proofs.{Homes.begun, Owners.{none_elsewhere, none_beside}, Down.goes_on}
use Rattle.mt_operation.specs.{declared.walk.Walk.Walk, declared.walk.Taken.Taken, declared.phase.Phase.TheVariants.Load}
use Rattle.mt_descent.specs.{Seen.{RangeStands, Stands}, Pasts.{Past, IsNow, AreStamped}, KeptWalks.{GoesThrough, IsAtBorder, IsInSlot, HasSlot, StillHas, IsAtLoad, Had, IsOfKey, IsKept}}
use Rattle.mt_descent.specs.WalkMoves.{FindsIn, after_search, after_load, TakesOut, IsShownAt, Loads}
use Rattle.mt_descent.proofs.Ways.{live_tree}
use Rattle.mt_border.specs.Held as helds
use Rattle.mt_border.specs.declared.entry.Find.TheVariants as finds
use Rattle.mt_operation.specs.declared.walk.Taken.TheVariants as takens

-- what a border node finds, its view finds
in_slot : (n : NodeView) (b : BorderNode) (tree level : ℕ) (reach holder : Option ℕ) (slot : ℕ) (key : Bytes) (layer : ℕ) (kind : FoundKind) → n ≡ border_view b tree level reach holder
    → IsFound b (slice_of key layer) (mark_of key layer) (suffix_of key layer) slot kind → IsInSlot n slot key layer kind
in_slot n b tree level reach holder slot key layer kind same h =
    subst (λ (m : NodeView). IsInSlot m slot key layer kind) (sym same) (record { within = h.within; in_range = h.live; slice_is = h.slice_is; mark_is = h.mark_is; kind_is = h.kind_is })

-- the answer of a border node's search is one of its view
pub finds_in : (n : NodeView) (b : BorderNode) (tree level : ℕ) (reach holder : Option ℕ) (key : Bytes) (layer : ℕ) (f : Find) → n ≡ border_view b tree level reach holder
    → Finds b (slice_of key layer) (mark_of key layer) (suffix_of key layer) f → FindsIn n key layer f
finds_in n b tree level reach holder key layer finds.Missing same h = subst (λ (m : NodeView). IsMissing m.slots (slice_of key layer) (mark_of key layer)) (sym same) h
finds_in n b tree level reach holder key layer (finds.Slot slot kind) same h = in_slot n b tree level reach holder slot key layer kind same h

module _ (v : ArenaView) (key : Bytes) (w : Walk) (arena : IsArena v.nodes v.trees) (h : IsAtBorder v key w) where
  abbrev n : NodeView
  n = at v w.place.node

  -- as long as the range stands, the key belongs here
  pub belongs : RangeStands n w.place.seen → BelongsIn v.nodes v.trees key w.layer w.place.node
  belongs stands =
      let remembered = h.covers.remembered in
      record {
        border = record { there = remembered.there; live = stands.live; level = h.border; tree_is = refl };
        tree_live =
            ap (λ t. (tree_at v.trees t).standing) remembered.tree_is ∙ live_tree v w.place.tree w.layer w.place.node key arena h.through remembered.there remembered.tree_is stands.live;
        of_tree = rw remembered.tree_is h.through.of_tree;
        begun = h.through.begun;
        holds = (remembered.from, h.covers.below stands);
      }

  stands_at : (slot : ℕ) (kind : FoundKind) → RangeStands n w.place.seen → IsInSlot n slot key w.layer kind
      → StandsAt v.nodes n.tree (slice_of key w.layer) (mark_of key w.layer) w.place.node (place_at n slot)
  stands_at slot kind stands f = record {
    border = record { there = h.covers.remembered.there; live = stands.live; level = h.border; tree_is = refl };
    in_range = f.in_range;
    slice_is = f.slice_is;
    mark_is = f.mark_is;
  }

  had_now : (past : Past) (step : ℕ) (row : Option Stamped) → IsNow past step v → w.first ≤ step → get (content_of v) (owned key) ≡ row
      → Had past w.first step key row
  had_now past step row now since is = record { since = since; made = now.made; had = ap (λ m. get m (owned key)) now.contents ∙ is }

  pub no_other : (slot : ℕ) (p : Option Pair) → RangeStands n w.place.seen → IsInSlot n slot key w.layer OtherLong → pair_of (slot_at n (place_at n slot)).held ≡ p
      → IsSomeAnd p (λ pair. pair.suffix ≢ suffix_of key w.layer) → get (content_of v) (owned key) ≡ None
  no_other slot None stands f is some = absurd some
  no_other slot (Some other) stands f is some =
      none_beside v.nodes v.trees arena (begun v.nodes v.trees arena.forest) key w.layer w.place.node (belongs stands) (place_at n slot) other (stands_at slot OtherLong stands f) is some

-- a pair that was found is the key's
same_suffix : (e : Entry) (suffix : List ℕ) (kind : FoundKind) (pair : Pair) → e.held ≡ helds.Stable pair → kind ≢ OtherLong → IsKind e suffix kind
    → pair.suffix ≡ suffix
same_suffix e suffix ThisKey pair is leads k = subst (λ (h : Held). IsSomeAnd (pair_of h) (λ p. p.suffix ≡ suffix)) is k
same_suffix e suffix OtherLong pair is leads k = absurd (leads refl)
same_suffix e suffix ToTree pair is leads k = absurd (subst (λ (h : Held). IsLink h) is k.1)

-- a slot that has the key or a link
module _ (v : ArenaView) (key : Bytes) (w : Walk) (arena : IsArena v.nodes v.trees) (h : IsAtBorder v key w) (slot : ℕ) (f : HasSlot (at v w.place.node) slot key w.layer)
    (stands : RangeStands (at v w.place.node) w.place.seen) where
  abbrev m : NodeView
  m = at v w.place.node

  -- a pair in it stands for the key
  stands_for : (pair : Pair) → (slot_at m (place_at m slot)).held ≡ helds.Stable pair
      → StandsFor v.nodes v.trees key w.layer w.place.node (place_at m slot) pair
  stands_for pair is =
      let b = belongs v key w arena h stands in
      let pair_is = ap pair_of is in
      record {
        there = b.border.there;
        live = b.border.live;
        tree_live = b.tree_live;
        in_range = f.in_slot.in_range;
        has = record {
          of_tree = b.of_tree;
          slice = f.in_slot.slice_is;
          mark = f.in_slot.mark_is;
          suffix =
              λ p at_p. ap (λ (p : Pair). p.suffix) (same_Some _ _ (sym at_p ∙ pair_is)) ∙ same_suffix (slot_at m (place_at m slot)) (suffix_of key w.layer) f.kind pair is f.leads f.in_slot.kind_is;
        };
        pair_is = pair_is;
      }

  -- and a link leads on
  link_now : (u : ℕ) → (slot_at m (place_at m slot)).held ≡ helds.Link u → GoesThrough v u (w.layer + 1) key
  link_now u is =
      let g = goes_on v.nodes v.trees key w.layer w.place.node (place_at m slot) u arena (belongs v key w arena h stands) (stands_at v key w arena h slot f.kind stands f.in_slot) is in
      record { there = g.there; unmade = λ q making. absurd (let both = sym g.live ∙ making in cc); of_tree = g.of_tree; begun = g.begun }

  -- a row that has stood since its stamp was there at the first step, or at the one that placed it
  had_since : (past : Past) (pair : Pair) → AreStamped past v → w.first ≤ past.steps → (slot_at m (place_at m slot)).held ≡ helds.Stable pair
      → Had past w.first (max w.first pair.stamp) key (Some (row_of pair))
  had_since past pair stamped since is =
      let stood = stamped key w.layer w.place.node (place_at m slot) pair (stands_for pair is) in
      record {
        since = le-max_left w.first pair.stamp;
        made = max-le since stood.made;
        had = stood.stood (max w.first pair.stamp) (le-max_right w.first pair.stamp) (max-le since stood.made);
      }

  -- so what it holds is of the key
  pub of_key : (past : Past) (held : Held) → AreStamped past v → w.first ≤ past.steps → (slot_at m (place_at m slot)).held ≡ held → ¬ IsUnstable held → IsOfKey v past key w.first w.layer held
  of_key past (helds.Stable pair) stamped since is stable = had_since past pair stamped since is
  of_key past (helds.Unstable pair tree) stamped since is stable = absurd (stable tt)
  of_key past (helds.Link u) stamped since is stable = link_now u is

module _ (v : ArenaView) (key : Bytes) (w : Walk) (arena : IsArena v.nodes v.trees) (h : IsAtBorder v key w) where
  -- what a slot holds that is found is of the key
  live : (past : Past) (step slot : ℕ) → HasSlot (at v w.place.node) slot key w.layer → AreStamped past v → IsNow past step v → w.first ≤ step
      → RangeStands (at v w.place.node) w.place.seen → StillHas v past key (record w { slot = slot; right_at = step; phase = Load })
  live past step slot f stamped now since stands = record {
    has = f;
    held = λ stable. of_key v key w arena h slot f stands past (slot_at (at v w.place.node) (place_at (at v w.place.node) slot)).held stamped (omega (arith, since, now.made)) refl stable;
  }

  -- a walk that has searched, by what was found
  pub kept_searched : (past : Past) (row : Option Stamped) (step : ℕ) (f : Find) → AreStamped past v → IsNow past step v → w.first ≤ step → FindsIn (at v w.place.node) key w.layer f
      → IsKept v past key row (after_search f w step)
  kept_searched past row step finds.Missing stamped now since missing = record {
    at_border = record { through = h.through; covers = h.covers; border = h.border };
    taken =
        λ stands. had_now v key w arena h past step None now since (none_elsewhere v.nodes v.trees arena (begun v.nodes v.trees arena.forest) key w.layer w.place.node (belongs v key w arena h stands) missing);
  }
  kept_searched past row step (finds.Slot slot OtherLong) stamped now since f = record {
    at_border = record { through = h.through; covers = h.covers; border = h.border };
    taken = λ stands. had_now v key w arena h past step None now since (no_other v key w arena h slot (pair_of (slot_at (at v w.place.node) (place_at (at v w.place.node) slot)).held) stands f refl f.kind_is.1);
  }
  kept_searched past row step (finds.Slot slot ThisKey) stamped now since f = record {
    at_border = record { through = h.through; covers = h.covers; border = h.border };
    within = f.within;
    since = omega (arith, since, now.made);
    found = λ stands. inl (live past step slot (record { kind = ThisKey; in_slot = f; leads = λ e. cc }) stamped now since stands.in_range);
  }
  kept_searched past row step (finds.Slot slot ToTree) stamped now since f = record {
    at_border = record { through = h.through; covers = h.covers; border = h.border };
    within = f.within;
    since = omega (arith, since, now.made);
    found = λ stands. inl (live past step slot (record { kind = ToTree; in_slot = f; leads = λ e. cc }) stamped now since stands.in_range);
  }

-- what is unstable is not of the key
not_unstable : (v : ArenaView) (past : Past) (key : Bytes) (first layer : ℕ) (held : Held) → IsUnstable held → IsOfKey v past key first layer held → ⊥
not_unstable v past key first layer (helds.Stable pair) unstable of = unstable
not_unstable v past key first layer (helds.Unstable pair tree) unstable of = of
not_unstable v past key first layer (helds.Link u) unstable of = unstable

module _ (v : ArenaView) (past : Past) (key : Bytes) (w : Walk) (h : IsAtLoad v past key w) (shown : IsShownAt (at v w.place.node) w.slot) where
  abbrev there : Held
  there = held_in (at v w.place.node).cells.helds w.slot

  -- as long as the version stands, what stands in the slot is of the key, where it is not unstable
  loaded : (held : Held) → there ≡ held → ¬ IsUnstable held → Stands (at v w.place.node) w.place.seen → IsOfKey v past key w.first w.layer held
  loaded held is stable stands = elim (h.found stands) [
    | inl l ↦
        let same = sym (shown l.has.in_slot.in_range) ∙ is in
        subst (IsOfKey v past key w.first w.layer) same (l.held (subst (λ x. ¬ IsUnstable x) (sym same) stable))
    | inr d ↦ subst (IsOfKey v past key w.first w.layer) is d.held
  ]

  at_border : IsAtBorder v key (after_load w w.taken w.right_at)
  at_border = record { through = h.at_border.through; covers = h.at_border.covers; border = h.at_border.border }

  -- a walk that has loaded, by what was taken
  pub kept_loaded : (row : Option Stamped) (right : ℕ) (taken : Taken) → TakesOut (at v w.place.node) w row taken right → IsKept v past key row (after_load w taken right)
  kept_loaded row right takens.Missing t = absurd t
  kept_loaded row right takens.Row t = record {
    at_border = record { through = at_border.through; covers = at_border.covers; border = at_border.border };
    taken = λ stands. (row_of t.0, t.2, rw (t.2, t.3) (loaded (helds.Stable t.0) t.1 (λ unstable. unstable) stands));
  }
  kept_loaded row right (takens.Link u) t = record {
    at_border = record { through = at_border.through; covers = at_border.covers; border = at_border.border };
    taken = λ stands. loaded (helds.Link u) t.0 (λ unstable. unstable) stands;
  }
  kept_loaded row right takens.Nothing t = record {
    at_border = record { through = at_border.through; covers = at_border.covers; border = at_border.border };
    taken = λ stands. elim (h.found stands) [
      | inl l ↦ t.0 l.has.in_slot.in_range
      | inr d ↦ not_unstable v past key w.first w.layer there t.1 d.held
    ];
  }

-- the same, from what the load tells
pub kept_loads : (v : ArenaView) (key : Bytes) (w after : Walk) (past : Past) (row : Option Stamped) → IsAtLoad v past key w → Loads (at v w.place.node) w after row → IsKept v past key row after
kept_loads v key w after past row h l = subst (λ (x : Walk). IsKept v past key row x) (sym l.is) (kept_loaded v past key w h l.shown row after.right_at after.taken l.takes)
