-- What is kept of a removal that has taken its key's pair out: for `drop_key`.
use Rattle.std.proofs.{Common.{◌≡◌, ◌⊎◌, ℕ, sym, ap, ◌∙◌, inl, inr, arith}, lemmas.List.length-set, lemmas.Bool.cases_eq}
use Rattle.mt_rows.specs.Rows.{Bytes}
use Rattle.mt_border.{specs.{declared.entry.Entry.Entry, Entries.{without, place_in}, Entry.order_of}, proofs.Edits.All-remove}
use Rattle.mt_arena.specs.{NodeView.NodeView, NodeFacts.IsUnstable, Layers.slot_at, Edits.{with_slots, cells_without}, Arena.{ArenaView, IsArena}, Accesses.{at, with_node}}
use Rattle.mt_arena.proofs.Pairs.{here, there}
use Rattle.mt_operation.specs.{declared.phase.Phase.Phase, declared.phase.Phase.TheVariants.{LockPrev, Unlock}, declared.walk.Walk.Walk}
use Rattle.mt_operation.specs.declared.removal.Removal.{Removal}
use Rattle.mt_held.{specs.{Holds.{HoldsBorder, HoldsOnly, MayReturn}, Moves.walk_at}, proofs.Places.unlock_with}
use Rattle.mt_remove.specs.KeptRemovals.{IsRemoving, IsEmptyChild, IsUnburdened, KeptRemoval}

module _ (v : ArenaView) (op slot : ℕ) (key : Bytes) (w : Walk) (arena : IsArena v.nodes v.trees) (h : HoldsBorder v op key w) where
  abbrev k : ℕ
  k = w.place.node

  abbrev n : NodeView
  n = at v k

  abbrev y : NodeView
  y = with_slots n (without n.slots (slot_at n slot)) (cells_without n.cells slot)

  abbrev u : ArenaView
  u = with_node v k y

  node_is : at u k ≡ y
  node_is = here v.nodes k y h.judged.held.there

  returns : MayReturn u op 0 k
  returns =
      let back = unlock_with v op key w arena h (without n.slots (slot_at n slot)) (cells_without n.cells slot)
      (All-remove (λ (e : Entry). ¬ IsUnstable e.held) n.slots (place_in n.slots (order_of (slot_at n slot))) h.settled.stable) in
      record {
        held = back.held;
        level_is = ap (λ (m : NodeView). m.level) node_is ∙ h.judged.at_border.border;
        tree_there = back.tree_there;
        mine = back.mine;
        settled = back.settled;
      }

  tree_is : (at u k).tree ≡ w.place.tree
  tree_is = ap (λ (m : NodeView). m.tree) node_is ∙ h.judged.at_border.covers.remembered.tree_is

  module _ (r : Removal) (free : IsUnburdened r) where
    removes : (phase : Phase) → IsRemoving u op key (walk_at phase w) r
    removes phase =
        let t = h.judged.at_border.through in
        record {
          through = record { there = t.there; unmade = t.unmade; of_tree = t.of_tree; begun = t.begun };
          below = λ j is. absurd (let both = sym free.below ∙ is in cc);
        }

    -- by where it goes on
    pub dropped_kept : (phase : Phase) → (phase ≡ LockPrev) ⊎ (phase ≡ Unlock) → (phase ≡ LockPrev → IsEmptyChild (at u k)) → KeptRemoval phase u op key (walk_at phase w) r
    dropped_kept phase either child = elim either [
      | inl prev ↦ rw prev (record {
        removes = removes LockPrev;
        node = record {
          node = record { returns = returns; tree = tree_is };
          live = ap (λ (m : NodeView). m.version.deleted) node_is ∙ h.judged.stands.live;
          whole = ap (λ (m : NodeView). m.version.splitting) node_is ∙ h.judged.still.1;
          empty = (child prev).empty;
          later = (child prev).later;
          child = (child prev).child;
        };
        no_left = free.left;
        no_above = free.parent;
      })
      | inr last ↦ rw last (record {
        removes = removes Unlock;
        node = record { returns = returns; tree = tree_is };
        left = λ j is. absurd (let both = sym free.left ∙ is in cc);
        parent = λ j is. absurd (let both = sym free.parent ∙ is in cc);
      })
    ]

  -- it holds its border node alone, as before
  pub dropped_only : HoldsOnly v op k → HoldsOnly u op k
  dropped_only only j lt holder = elim (cases_eq j k) [
    | inl same ↦ same
    | inr other ↦ only j (omega (arith, lt, length-set v.nodes k y)) (ap (λ (m : NodeView). m.holder) (sym (there v.nodes k j y other)) ∙ holder)
  ]
