-- What a put keeps once its pair stands in a free slot, and that it may write it there: for `fill`.
use Rattle.std.{proofs.Common.{◌≡◌, ℕ, ◌<◌, length, true, None, refl, sym, ap, subst, ◌∙◌, arith}, specs.Prelude.{◌||◌}, proofs.lemmas.List.length-set}
use Rattle.mt_version.specs.Changes.{range_age}
use Rattle.mt_slices.specs.Slices.{slice_of, mark_of, suffix_of}
use Rattle.mt_rows.specs.Rows.{Columns, columns_of}
use Rattle.mt_border.specs.{Held.{Held, Stable}, Slots.{held_in, next_free, is_dropped}, Entries.IsMissing}
use Rattle.mt_tape.specs.declared.entry.Entry.{Entry as Write}
use Rattle.mt_arena.specs.{NodeView.NodeView, Edits.with_filled, Arena.{ArenaView, IsArena, Guarantee}, Accesses.{at, IsOpen, with_node}}
use Rattle.mt_arena.proofs.{Pairs.here, SettledEdits.settled_self}
use Rattle.mt_operation.specs.{declared.phase.Phase.TheVariants.Publish, declared.prepared.Prepared.Prepared, Ready.placed}
use Rattle.mt_operation.specs.{declared.task.Task.Task, declared.walk.Walk.Walk}
use Rattle.mt_descent.proofs.Rely.{border_stays}
use Rattle.mt_held.{specs.{Holds.HoldsBy, Moves.walk_at}, proofs.{Looks.holds_on, Places.open_here}}
use Rattle.mt_insert.specs.{Puts.row_over, KeptPuts.{IsAtFill, IsAtPublish}}

-- the pair as it comes into the slot, which no step has placed yet
abbrev pub held_ready : Prepared → Held
held_ready prepared = Stable (record { suffix = prepared.suffix; row = prepared.row; stamp = 0 })

module _ (v : ArenaView) (op : ℕ) (task : Task) (prepared : Prepared) (w : Walk) (arena : IsArena v.nodes v.trees) (h : IsAtFill v op task prepared w) where
  abbrev n : NodeView
  n = at v w.place.node

  abbrev y : NodeView
  y = with_filled n (held_ready prepared)

  abbrev u : ArenaView
  u = with_node v w.place.node y

  within : w.place.node < length v.nodes
  within = h.holds.judged.held.there

  pub open_to_fill : IsOpen v w.place.node op
  open_to_fill = open_here v op task.key w arena h.holds

  node_is : at u w.place.node ≡ y
  node_is = here v.nodes w.place.node y within

  -- it holds its node as before
  holds_filled : Guarantee op v u → HoldsBy true u op task.key w
  holds_filled step = record {
    judged = record {
      at_border = border_stays op v u step.nodes task.key w h.holds.judged.at_border;
      held = record { there = omega (arith, within, length-set v.nodes w.place.node y); holder = ap (λ (m : NodeView). m.holder) node_is ∙ h.holds.judged.held.holder };
      still = ap (λ (m : NodeView). m.version.splitting) node_is ∙ h.holds.judged.still.1;
      stands = record {
        live = ap (λ (m : NodeView). m.version.deleted) node_is ∙ h.holds.judged.stands.live;
        range = ap (λ (m : NodeView). range_age m.version) node_is ∙ h.holds.judged.stands.range;
      };
    };
    settled = settled_self v.nodes w.place.node y within h.holds.settled
        (record { next = refl; children = refl; previous = refl; parent = refl; deleted = refl; root = refl; high = refl; reach = refl }) h.holds.settled.stable;
  }

  -- the row is that of the write
  row_left : columns_of prepared.write.after ≡ row_over task None
  row_left = ap (λ (e : Write). columns_of e.after) h.ready.write

  pair_is : held_ready prepared ≡ Stable (record { suffix = suffix_of task.key w.layer; row = columns_of prepared.write.after; stamp = 0 })
  pair_is =
      ap (λ suffix. Stable (record { suffix = suffix; row = prepared.row; stamp = 0 })) h.suffix
      ∙ ap (λ (row : Columns). Stable (record { suffix = suffix_of task.key w.layer; row = row; stamp = 0 })) (h.ready.row ∙ sym row_left)

  pub kept_filled : Guarantee op v u → held_in y.cells.helds (next_free y.cells) ≡ held_ready prepared → IsAtPublish u op task (placed prepared.write) (walk_at Publish w)
  kept_filled step there = record {
    holds = holds_on u op task w Publish w.slot (holds_filled step);
    missing = subst (λ (m : NodeView). IsMissing m.slots (slice_of task.key w.layer) (mark_of task.key w.layer)) (sym node_is) h.missing;
    room = subst (λ (m : NodeView). length m.slots < 15) (sym node_is) h.room;
    filled = ap (λ (m : NodeView). held_in m.cells.helds (next_free m.cells)) node_is ∙ there ∙ pair_is;
    marked = subst (λ (m : NodeView). is_dropped m.cells (next_free m.cells) ≡ true → m.version.inserting ≡ true) (sym node_is) (λ dropped. ap (λ b. b || n.version.inserting) dropped);
    left = record { met = h.ready.met; row = row_left; write = h.ready.write };
  }
