-- An operation that holds its border node may change it, and then give its lock back; a link leads it on.
use Rattle.std.proofs.{Common.{◌≡◌, ℕ, ◌+◌, ◌<◌, Bool, List, length, Some, None, refl, sym, ap, subst, ◌∙◌, arith}, lemmas.List.length-set}
use Rattle.std.specs.{List.All, FinMap.get}
use Rattle.mt_slices.specs.Slices.{slice_of, mark_of, suffix_of}
use Rattle.mt_rows.specs.Rows.{Bytes}
use Rattle.mt_border.specs.{Slots.Slotted, declared.entry.Entry.Entry, Held.Pair, Held.{Stable, Link}}
use Rattle.mt_border.specs.{declared.entry.FoundKind.TheVariants.{ThisKey, Link as ToTree}, Entry.pair_of, Entries.IsMissing, Contents.{owned, row_of}}
use Rattle.mt_border.proofs.ContentsKeys.{by_equation}
use Rattle.mt_arena.specs.{NodeView.{NodeView, place_at}, NodeFacts.IsUnstable, Forests.{tree_at, layer_of}, Layers.slot_at, Ways.{BelongsIn, StandsFor, GoesOn}}
use Rattle.mt_arena.specs.{Edits.with_slots, Arena.{ArenaView, IsArena, content_of}, Accesses.{at, tree_of, IsOpen, with_node, MayChange}}
use Rattle.mt_arena.proofs.{Pairs.here, Homes.begun, Down.goes_on, Elsewhere.layer_is, Owners.{found, none_elsewhere}, SettledEdits.settled_self}
use Rattle.mt_operation.specs.declared.walk.Walk.{Walk}
use Rattle.mt_descent.{specs.{KeptWalks.{IsInSlot, IsAtEnter}, WalkMoves.walk_into}, proofs.Looks.belongs}
use Rattle.mt_held.specs.{Holds.{HoldsBy, IsAtUnlock}, Moves.{walk_placed, given_back}}

module _ {marked : Bool} (v : ArenaView) (op : ℕ) (key : Bytes) (w : Walk) (arena : IsArena v.nodes v.trees) (h : HoldsBy marked v op key w) where
  abbrev n : NodeView
  n = at v w.place.node

  within : w.place.node < length v.nodes
  within = h.judged.held.there

  -- the key belongs in the node
  pub belongs_here : BelongsIn v.nodes v.trees key w.layer w.place.node
  belongs_here = belongs v key w arena h.judged.at_border h.judged.stands

  -- whose tree nobody is making
  pub open_here : IsOpen v w.place.node op
  open_here q making =
      absurd (h.judged.at_border.through.unmade q (ap (λ t. (tree_at v.trees t).standing) (sym h.judged.at_border.covers.remembered.tree_is) ∙ making))

  pub layer_here : layer_of (tree_of v w.place.node).prefix ≡ w.layer
  layer_here = layer_is (tree_of v w.place.node).prefix key w.layer belongs_here.of_tree

  -- a slot that has the key stands for it
  stands_here : (slot : ℕ) (pair : Pair) → IsInSlot n slot key w.layer ThisKey → (slot_at n (place_at n slot)).held ≡ Stable pair
      → StandsFor v.nodes v.trees key w.layer w.place.node (place_at n slot) pair
  stands_here slot pair f is =
      let b = belongs_here in
      record {
        there = b.border.there;
        live = b.border.live;
        tree_live = b.tree_live;
        in_range = f.in_range;
        has = record {
          of_tree = b.of_tree;
          slice = f.slice_is;
          mark = f.mark_is;
          suffix = by_equation (λ (p : Pair). p.suffix ≡ suffix_of key w.layer) (pair_of (slot_at n (place_at n slot)).held) f.kind_is;
        };
        pair_is = ap pair_of is;
      }

  -- the contents have its row with its stamp
  pub row_here : (slot : ℕ) (pair : Pair) → IsInSlot n slot key w.layer ThisKey → (slot_at n (place_at n slot)).held ≡ Stable pair
      → get (content_of v) (owned key) ≡ Some (row_of pair)
  row_here slot pair f is = found v.nodes v.trees arena (begun v.nodes v.trees arena.forest) key w.layer w.place.node (place_at n slot) pair (stands_here slot pair f is)

  -- and none, where the node misses the key
  pub none_here : IsMissing n.slots (slice_of key w.layer) (mark_of key w.layer) → get (content_of v) (owned key) ≡ None
  none_here missing = none_elsewhere v.nodes v.trees arena (begun v.nodes v.trees arena.forest) key w.layer w.place.node belongs_here missing

  -- a link at the key's slice and mark leads to the tree in which the key's way goes on
  way_on : (slot tree : ℕ) → IsInSlot n slot key w.layer ToTree → (slot_at n (place_at n slot)).held ≡ Link tree → GoesOn v.trees key (w.layer + 1) tree
  way_on slot tree f is =
      let b = belongs_here.border in
      goes_on v.nodes v.trees key w.layer w.place.node (place_at n slot) tree arena belongs_here
      (record { border = record { there = b.there; live = b.live; level = b.level; tree_is = refl }; in_range = f.in_range; slice_is = f.slice_is; mark_is = f.mark_is }) is

  -- so a put that meets the link goes on there, once its lock was given back
  pub meets_link : (slot tree : ℕ) → IsInSlot n slot key w.layer ToTree → (slot_at n (place_at n slot)).held ≡ Link tree
      → IsAtEnter (given_back v w.place.node) key (walk_into w tree (w.layer + 1))
  meets_link slot tree f is =
      let g = way_on slot tree f is in
      record { there = g.there; unmade = λ q making. absurd (let both = sym g.live ∙ making in cc); of_tree = g.of_tree; begun = g.begun }

  -- another row may be stored in the slot
  pub may_store : (slot : ℕ) (pair : Pair) → IsInSlot n slot key w.layer ThisKey → (slot_at n (place_at n slot)).held ≡ Stable pair
      → MayChange v w.place.node op key (place_at n slot) pair
  may_store slot pair f is = record {
    held = h.judged.held;
    mine = open_here;
    level = h.judged.at_border.border;
    stands = subst (λ layer. StandsFor v.nodes v.trees key layer w.place.node (place_at n slot) pair) (sym layer_here) (stands_here slot pair f is);
    stable = is;
  }

  -- the lock may be given back by a put that has found its quota full
  pub unlock_full : IsAtUnlock v op (walk_placed w)
  unlock_full = record {
    held = h.judged.held;
    tree_there = arena.forest.tree_there w.place.node within;
    mine = open_here;
    settled = h.settled;
  }

  -- and so with other slots, none of them unstable
  pub unlock_with : (slots : List Entry) (cells : Slotted) → All (λ (e : Entry). ¬ IsUnstable e.held) slots
      → IsAtUnlock (with_node v w.place.node (with_slots n slots cells)) op (walk_placed w)
  unlock_with slots cells stable =
      let y = with_slots n slots cells in
      let same = here v.nodes w.place.node y within in
      record {
        held = record { there = omega (arith, within, length-set v.nodes w.place.node y); holder = ap (λ (m : NodeView). m.holder) same ∙ h.judged.held.holder };
        tree_there = subst (λ (m : NodeView). m.tree < length v.trees) (sym same) (arena.forest.tree_there w.place.node within);
        mine = λ q making. open_here q (ap (λ (m : NodeView). (tree_at v.trees m.tree).standing) (sym same) ∙ making);
        settled = settled_self v.nodes w.place.node y within h.settled
            (record { next = refl; children = refl; previous = refl; parent = refl; deleted = refl; root = refl; high = refl; reach = refl }) stable;
      }
