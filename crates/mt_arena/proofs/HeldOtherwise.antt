-- The whole invariant, the guarantee and the contents where a slot holds its pair otherwise: for `mark_unstable` and `link`.
use Rattle.mt_border.specs.Keeps.{KeepsEntries}
use Rattle.std.proofs.{Common.{◌≡◌, ◌≢◌, ℕ, ◌<◌, length, set, Some, None, refl, sym, ap, subst, ◌∙◌}, lemmas.List.get_or-map, lemmas.List.Elements.All-set}
use Rattle.std.specs.List.{All}
use Rattle.mt_slices.specs.declared.mark.Mark.TheVariants.{Short}
use Rattle.mt_rows.specs.Rows.{Bytes}
use Rattle.mt_border.specs.{declared.entry.Entry.Entry, Held.{Pair, Held, Stable, Unstable, Link}, Entry.{CanHold, order_of, pair_of}}
use Rattle.mt_border.specs.{Entries.{IsBorder, replaced}, Contents.HasKey}
use Rattle.mt_border.proofs.{Edits.{any_entry, border_set, replaced_at}, ContentsKeys.has_held_key}
use Rattle.mt_arena.specs.Idle.{Rooms}
use Rattle.mt_arena.specs.{Edits.cells_holding, NodeView.NodeView, Nodes.Holds, Layers.slot_at, Forests.{HaveKeys, layer_of}, Contents.content}
use Rattle.mt_arena.specs.{Invariant.ArenaInvariant, Arena.{ArenaView, Guarantee}, Accesses.{at, tree_of}}
use Rattle.mt_arena.specs.Layering.{IsHeldSlot, MayUnsettle, MayLink, with_held, with_slot}
use Rattle.mt_arena.proofs.{Steps.keys_of, Locks.is_held, Slots.{within_each, sound_slots, step_slots, lost_held}, LinkEdits.{HasLinksOf, links_set, links_set_back}}
use Rattle.mt_arena.proofs.ContentQuiet.{stands_held}

-- what a slot that holds something else may hold: of the same key, if of any
pub record MayHoldThis (e : Entry) (held : Held) : Type 0 where
  pub can : CanHold e.mark held
  pub goes_on : (pair : Pair) → pair_of held ≡ Some pair → pair_of e.held ≡ Some pair

module _ (v : ArenaView) (room : Rooms) (node i op : ℕ) (sound : ArenaInvariant v.nodes v.trees v.retired room) (was : Held) (slot : IsHeldSlot v node i op was) (held : Held) (may : MayHoldThis (slot_at (at v node) i) held) where
  abbrev n : NodeView
  n = at v node

  abbrev e : Entry
  e = slot_at n i

  abbrev new : Entry
  new = record e { held = held }

  abbrev prefix : Bytes
  prefix = (tree_of v node).prefix

  ln : node < length v.nodes
  ln = slot.held.there

  border : IsBorder n.slots
  border = (sound.arena.nodes.each node ln).slots.border

  keys : HaveKeys prefix n.slots
  keys = keys_of v.nodes v.trees node ln sound.arena.forest

  -- the slots, as a list of which one place changes
  pub slots_are : replaced n.slots new ≡ set n.slots i new
  slots_are = replaced_at n.slots i new any_entry border.rising slot.in_range refl

  pub border_after : IsBorder (replaced n.slots new)
  border_after =
      subst IsBorder (sym slots_are) (border_set n.slots i new border (record { mark = (border.each i any_entry slot.in_range).mark; held = may.can }) (sym (get_or-map order_of n.slots i any_entry 0 slot.in_range)))

  pub inside_after : All (λ (d : Entry). Holds n d.slice) (replaced n.slots new)
  inside_after =
      let all = within_each n n.slots (sound.arena.nodes.each node ln).slots.within in
      subst (All (λ (d : Entry). Holds n d.slice)) (sym slots_are) (All-set (λ (d : Entry). Holds n d.slice) n.slots i new (all i any_entry slot.in_range) all)

  pub keys_after : HaveKeys prefix (replaced n.slots new)
  keys_after =
      let key = keys.keys i any_entry slot.in_range in
      subst (HaveKeys prefix) (sym slots_are) (record {
        keys = All-set (λ d. (key : Bytes) × HasKey prefix (layer_of prefix) d key) n.slots i new
            (key.0, has_held_key prefix (layer_of prefix) e key.0 held key.1 (λ pair is. key.1.suffix pair (may.goes_on pair is))) keys.keys;
        begun = All-set (λ (d : Entry). d.mark ≢ Short 0) n.slots i new (keys.begun i any_entry slot.in_range) keys.begun;
      })

  pub step_held : KeepsEntries n.slots n.cells (replaced n.slots new) (cells_holding n.cells i held) → Guarantee op v (with_slot v node i held)
  step_held keeps = step_slots v node op (replaced n.slots new) (cells_holding n.cells i held) ln slot.held.holder (λ q made. absurd (let both = sym slot.tree_live ∙ made in cc))
      (λ still. keeps) (lost_held n i new held)

  -- where neither is a link
  module _ (none : (u : ℕ) → e.held ≢ Link u) (none_after : (u : ℕ) → held ≢ Link u) where
    pub sound_held : ArenaInvariant (set v.nodes node (with_held n i held)) v.trees v.retired room
    sound_held = sound_slots v.nodes v.trees v.retired room node (replaced n.slots new) (cells_holding n.cells i held) ln sound (is_held op n slot.held.holder) slot.live slot.border (record {
      border = border_after;
      inside = inside_after;
      keys = keys_after;
      forth = subst (λ es. HasLinksOf es n.slots) (sym slots_are) (links_set n.slots i new none);
      back = subst (λ es. HasLinksOf n.slots es) (sym slots_are) (links_set_back n.slots i new slot.in_range none_after);
    })

  -- the contents, where it counts as the same pair
  pub content_held : pair_of held ≡ pair_of e.held → content v.trees (set v.nodes node (with_held n i held)) ≡ content v.trees v.nodes
  content_held same = stands_held v.trees v.nodes node i (with_held n i held) held same (record { slots = slots_are; deleted = refl; tree = refl })

module _ (v : ArenaView) (room : Rooms) (node i op : ℕ) (sound : ArenaInvariant v.nodes v.trees v.retired room) (pair : Pair) where
  -- a pair that becomes unstable
  module _ (may : MayUnsettle v node i op pair) where
    abbrev stable : Entry
    stable = slot_at (at v node) i

    pub may_unsettle : MayHoldThis stable (Unstable pair None)
    may_unsettle =
        let can = ((sound.arena.nodes.each node may.held.there).slots.border.each i any_entry may.in_range).held in
        let fits : CanHold stable.mark (Stable pair) = subst (CanHold stable.mark) may.is can in
        record { can = (may.long, fits); goes_on = λ other is. ap pair_of may.is ∙ is }

    pub sound_unsettled : ArenaInvariant (set v.nodes node (with_held (at v node) i (Unstable pair None))) v.trees v.retired room
    sound_unsettled =
        sound_held v room node i op sound (Stable pair) may (Unstable pair None) may_unsettle (λ u is. absurd (let both = sym may.is ∙ is in cc)) (λ u is. absurd (cc))

    pub step_unsettled : (let n = at v node in let m = with_held n i (Unstable pair None) in KeepsEntries n.slots n.cells m.slots m.cells) → Guarantee op v (with_slot v node i (Unstable pair None))
    step_unsettled = step_held v room node i op sound (Stable pair) may (Unstable pair None) may_unsettle

    pub content_unsettled : content v.trees (set v.nodes node (with_held (at v node) i (Unstable pair None))) ≡ content v.trees v.nodes
    content_unsettled = content_held v room node i op sound (Stable pair) may (Unstable pair None) may_unsettle (sym (ap pair_of may.is))

  -- an unstable pair, beside which a tree's number is written
  module _ (t : ℕ) (may : MayLink v node i op pair) where
    abbrev unstable : Entry
    unstable = slot_at (at v node) i

    pub may_link : MayHoldThis unstable (Unstable pair (Some t))
    may_link =
        let can = ((sound.arena.nodes.each node may.held.there).slots.border.each i any_entry may.in_range).held in
        let fits : CanHold unstable.mark (Unstable pair None) = subst (CanHold unstable.mark) may.is can in
        record { can = fits; goes_on = λ other is. ap pair_of may.is ∙ is }

    pub sound_linked : ArenaInvariant (set v.nodes node (with_held (at v node) i (Unstable pair (Some t)))) v.trees v.retired room
    sound_linked =
        sound_held v room node i op sound (Unstable pair None) may (Unstable pair (Some t)) may_link (λ u is. absurd (let both = sym may.is ∙ is in cc)) (λ u is. absurd (cc))

    pub step_linked : (let n = at v node in let m = with_held n i (Unstable pair (Some t)) in KeepsEntries n.slots n.cells m.slots m.cells)
        → Guarantee op v (with_slot v node i (Unstable pair (Some t)))
    step_linked = step_held v room node i op sound (Unstable pair None) may (Unstable pair (Some t)) may_link

    pub content_linked : content v.trees (set v.nodes node (with_held (at v node) i (Unstable pair (Some t)))) ≡ content v.trees v.nodes
    content_linked = content_held v room node i op sound (Unstable pair None) may (Unstable pair (Some t)) may_link (sym (ap pair_of may.is))
