-- A put that holds its border node may fill a slot and publish its pair there, and give its lock back once it has placed its row: for `store` and `publish`.
use Rattle.std.proofs.{Common.{◌≡◌, ℕ, ◌<◌, Bool, List, length, sym, ap, subst, ◌∙◌}, lemmas.List.Elements.All-set}
use Rattle.mt_slices.specs.{declared.mark.Mark.Mark, Slices.{slice_of, mark_of, suffix_of}}
use Rattle.mt_rows.specs.Rows.{Bytes, Columns}
use Rattle.mt_border.specs.{declared.entry.Entry.Entry, Held.{Pair, Held, Stable}, Entry.order_of, Slots.{held_in, next_free}, Restamps.stamped, Entries.{IsMissing, with_entry, replaced, place_in}}
use Rattle.mt_border.specs.Contents.{HasKey}
use Rattle.mt_border.proofs.{ContentsKeys.{new_has_key, new_is_entry}, ContentsEdits.each-publish}
use Rattle.mt_arena.specs.{NodeView.NodeView, NodeFacts.IsUnstable, Layers.slot_at, Ways.BelongsIn, Edits.{with_slots, cells_with, cells_holding, entry_filled}, Arena.{ArenaView, IsArena}}
use Rattle.mt_arena.specs.Accesses.{at, tree_of, with_node, with_row, MayPublish}
use Rattle.mt_operation.specs.declared.walk.Walk.{Walk}
use Rattle.mt_held.{specs.{Holds.{HoldsBy, IsAtUnlock}, Moves.walk_placed}, proofs.Places.{open_here, layer_here, belongs_here, unlock_with}}
use Rattle.mt_insert.specs.Placing.{entry_of}

-- the entry of a pair that was made ready
pub made_entry : (key : Bytes) (layer step : ℕ) (suffix : List ℕ) (row : Columns) (pair : Pair) (e : Entry) → e ≡ entry_of key layer pair.row pair.stamp → pair ≡ record { suffix = suffix; row = row; stamp = step }
    → e ≡ entry_of key layer row step
made_entry key layer step suffix row pair e entry_is pair_is = entry_is ∙ ap (λ (p : Pair). entry_of key layer p.row p.stamp) pair_is

-- the entry of the pair that stands in the free slot, once a step has placed it
pub filled_entry : (n : NodeView) (key : Bytes) (layer : ℕ) (row : Columns) (step slice : ℕ) (mark : Mark) → slice ≡ slice_of key layer → mark ≡ mark_of key layer
    → held_in n.cells.helds (next_free n.cells) ≡ Stable (record { suffix = suffix_of key layer; row = row; stamp = 0 })
    → entry_filled n slice mark step ≡ entry_of key layer row step
filled_entry n key layer row step slice mark slice_is mark_is is =
    ap (λ (s : ℕ). record { slice = s; mark = mark; held = stamped step (held_in n.cells.helds (next_free n.cells)) }) slice_is
    ∙ ap (λ (m : Mark). record { slice = slice_of key layer; mark = m; held = stamped step (held_in n.cells.helds (next_free n.cells)) }) mark_is
    ∙ ap (λ (held : Held). record { slice = slice_of key layer; mark = mark_of key layer; held = stamped step held }) is

module _ {marked : Bool} (v : ArenaView) (op : ℕ) (key : Bytes) (w : Walk) (arena : IsArena v.nodes v.trees) (h : HoldsBy marked v op key w) where
  abbrev n : NodeView
  n = at v w.place.node

  -- the pair of the missing key may be published
  pub may_publish : (row : Columns) (step : ℕ) → IsMissing n.slots (slice_of key w.layer) (mark_of key w.layer) → length n.slots < 15
      → MayPublish v w.place.node op key (entry_of key w.layer row step)
  may_publish row step missing room = record {
    held = h.judged.held;
    mine = open_here v op key w arena h;
    belongs = subst (λ layer. BelongsIn v.nodes v.trees key layer w.place.node) (sym (layer_here v op key w arena h)) (belongs_here v op key w arena h);
    has =
        subst (λ layer. HasKey (tree_of v w.place.node).prefix layer (entry_of key w.layer row step) key) (sym (layer_here v op key w arena h)) (new_has_key (tree_of v w.place.node).prefix w.layer key row step (belongs_here v op key w arena h).of_tree);
    entry = new_is_entry key w.layer row step;
    stable = tt;
    missing = missing;
    room = room;
  }

  -- one pair more
  pub unlock_published : (row : Columns) (step : ℕ)
      → IsAtUnlock (with_node v w.place.node (with_slots n (with_entry n.slots (entry_of key w.layer row step)) (cells_with n.cells (place_in n.slots (order_of (entry_of key w.layer row step))) (entry_of key w.layer row step)))) op (walk_placed w)
  unlock_published row step =
      let e = entry_of key w.layer row step in
      unlock_with v op key w arena h (with_entry n.slots e) _ (each-publish (λ (x : Entry). ¬ IsUnstable x.held) n.slots e h.settled.stable (λ unstable. unstable))

  -- another row
  pub unlock_stored : (slot : ℕ) (pair : Pair) (row : Columns) (step : ℕ) → slot < length n.slots
      → IsAtUnlock (with_node v w.place.node (with_slots n (replaced n.slots (with_row (slot_at n slot) pair row step)) (cells_holding n.cells slot (with_row (slot_at n slot) pair row step).held))) op (walk_placed w)
  unlock_stored slot pair row step inside =
      let e = with_row (slot_at n slot) pair row step in
      unlock_with v op key w arena h (replaced n.slots e) (cells_holding n.cells slot e.held) (All-set (λ (x : Entry). ¬ IsUnstable x.held) n.slots (place_in n.slots (order_of e)) e (λ unstable. unstable) h.settled.stable)
