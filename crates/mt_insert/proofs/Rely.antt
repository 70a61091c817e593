-- What a put keeps that holds its border node stays under each step of another operation, by what that step leaves to others: for the laws.
use Rattle.std.proofs.Common.{◌≡◌, ◌≢◌, ℕ, ◌<◌, List, length, true, subst}
use Rattle.mt_slices.specs.Slices.{slice_of, mark_of, suffix_of}
use Rattle.mt_border.specs.{declared.entry.Entry.Entry, declared.entry.FoundKind.TheVariants.ThisKey, Held.Stable, Entries.IsMissing, Slots.{Slotted, held_in, next_free, is_dropped}}
use Rattle.mt_version.specs.Parts.{Parts}
use Rattle.mt_order.specs.Places.{Places, place_of_slot}
use Rattle.mt_arena.specs.{NodeView.place_at, Layers.slot_at, Arena.{ArenaView, Guarantee}, Accesses.at}
use Rattle.mt_operation.specs.{declared.phase.Phase.Phase, declared.phase.Phase.TheVariants.{Store, Fill, SplitStart}, declared.walk.Walk.Walk}
use Rattle.mt_operation.specs.{declared.task.Task.Task, declared.prepared.Prepared.Prepared}
use Rattle.mt_held.proofs.Rely.{held, in_slot_stays, same_slots, same_cells, same_order, same_version}
use Rattle.mt_insert.specs.KeptPuts.{IsAtStore, IsAtFill, IsAtPublish, IsAtSplitStart, KeptReady}

module _ (op o : ℕ) (old new : ArenaView) (g : Guarantee op old new) (other : o ≢ op) where
  -- at Store
  pub store : (task : Task) (prepared : Prepared) (w : Walk) → IsAtStore old o task prepared w → IsAtStore new o task prepared w
  store task prepared w h =
      let n = at old w.place.node in
      let same = same_slots op o old new g other task.key w h.holds in
      let order = same_order op o old new g other task.key w h.holds in
      record {
        holds = held op o old new g other task.key w h.holds;
        in_slot = in_slot_stays n (at new w.place.node) w.slot task.key w.layer ThisKey same order h.in_slot;
        pair = h.pair;
        stable =
            subst (λ (s : List Entry). (slot_at (record n { slots = s }) (place_at (at new w.place.node) w.slot)).held ≡ Stable h.pair) same
            (subst (λ (p : Places). (slot_at n (place_of_slot p.live w.slot)).held ≡ Stable h.pair) order h.stable);
        ready = h.ready;
      }

  -- at Fill
  pub fill : (task : Task) (prepared : Prepared) (w : Walk) → IsAtFill old o task prepared w → IsAtFill new o task prepared w
  fill task prepared w h =
      let same = same_slots op o old new g other task.key w h.holds in
      record {
        holds = held op o old new g other task.key w h.holds;
        missing = subst (λ (s : List Entry). IsMissing s (slice_of task.key w.layer) (mark_of task.key w.layer)) same h.missing;
        room = subst (λ (s : List Entry). length s < 15) same h.room;
        suffix = h.suffix;
        ready = h.ready;
      }

  -- at Publish
  pub publish : (task : Task) (prepared : Prepared) (w : Walk) → IsAtPublish old o task prepared w → IsAtPublish new o task prepared w
  publish task prepared w h =
      let same = same_slots op o old new g other task.key w h.holds in
      let cells = same_cells op o old new g other task.key w h.holds in
      let version = same_version op o old new g other task.key w h.holds in
      record {
        holds = held op o old new g other task.key w h.holds;
        missing = subst (λ (s : List Entry). IsMissing s (slice_of task.key w.layer) (mark_of task.key w.layer)) same h.missing;
        room = subst (λ (s : List Entry). length s < 15) same h.room;
        filled = subst (λ (c : Slotted). held_in c.helds (next_free c) ≡ Stable (record { suffix = suffix_of task.key w.layer; row = prepared.row; stamp = 0 })) cells h.filled;
        marked = subst (λ (c : Slotted). is_dropped c (next_free c) ≡ true → (at new w.place.node).version.inserting ≡ true) cells
            (subst (λ (p : Parts). is_dropped (at old w.place.node).cells (next_free (at old w.place.node).cells) ≡ true → p.inserting ≡ true) version h.marked);
        left = h.left;
      }

  -- at SplitStart
  pub split_start : (task : Task) (prepared : Prepared) (w : Walk) → IsAtSplitStart old o task prepared w → IsAtSplitStart new o task prepared w
  split_start task prepared w h =
      let same = same_slots op o old new g other task.key w h.holds in
      record {
        holds = held op o old new g other task.key w h.holds;
        missing = subst (λ (s : List Entry). IsMissing s (slice_of task.key w.layer) (mark_of task.key w.layer)) same h.missing;
        full = subst (λ (s : List Entry). length s ≡ 15) same h.full;
        suffix = h.suffix;
        ready = h.ready;
      }

  -- at each of them
  pub ready : (task : Task) (prepared : Prepared) (w : Walk) (phase : Phase) → KeptReady phase old o task prepared w → KeptReady phase new o task prepared w
  ready task prepared w Store h = store task prepared w h
  ready task prepared w Fill h = fill task prepared w h
  ready task prepared w SplitStart h = split_start task prepared w h
  ready task prepared w _ h = absurd h
