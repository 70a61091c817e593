-- What is kept of an operation stays under each step of another one, by what that step leaves to others alone.
use Rattle.std.{proofs.Common.{◌≡◌, ◌≢◌, ℕ, ◌+◌, ◌<◌, ◌≤◌, max, Bool, true, false, List, length, Option, Some, None, refl, sym, ap, subst, ◌∙◌, inl, inr, arith}, specs.{Prelude.IsSomeAnd, FinMap.get}}
use Rattle.mt_version.specs.{Parts.Parts, Changes.{IsStable, range_age}}
use Rattle.mt_interior.specs.Fences.{end_of}
use Rattle.mt_slices.specs.Slices.{suffix_of}
use Rattle.mt_rows.specs.{Rows.Bytes, Stamps.Stamped}
use Rattle.mt_border.specs.{Contents.{IsOfTree, owned, row_of}, declared.entry.Entry.Entry, declared.entry.FoundKind.FoundKind, Entry.{IsKind, IsLink, CanHold, pair_of}, Entries.IsBorder}
use Rattle.mt_border.{specs.{declared.entry.FoundKind.TheVariants.{ThisKey, OtherLong, Link as ToTree}, Held.Held, Slots.held_in, Keeps.{GoesOn, KeepsEntry}}, proofs.Edits.any_entry}
use Rattle.mt_arena.specs.{declared.tree.Tree.Tree, declared.tree.Standing.Standing, declared.tree.Standing.TheVariants.{Made, Live, Dead}, NodeView.{NodeView, place_at}}
use Rattle.mt_arena.specs.{Forests.tree_at, Layers.slot_at, Arena.ArenaView, Accesses.at, Guarantee.{NodesGuarantee, Changes, TreeChanges, HasSameKeys}}
use Rattle.mt_operation.specs.declared.phase.Phase.{Phase}
use Rattle.mt_operation.specs.declared.phase.Phase.TheVariants.{Enter, Pick, Child, Verify, Search, Load, Confirm, Forward, Lock, Snap, Check, Done}
use Rattle.mt_operation.specs.{declared.walk.Taken.Taken, declared.walk.Taken.TheVariants.{Missing, Row, Link, Nothing}, declared.walk.Walk.Walk}
use Rattle.mt_descent.specs.{Seen.{RangeStands, Stands, WasSeen, IsRemembered, Covers, child_for, IsPicked, HasNext}, Pasts.{Past, ExtendsPast, KeepsRows}}
use Rattle.mt_descent.specs.KeptWalks.{GoesThrough, slice_in, IsAtPick, IsAtBorder, HasSlot, Had, IsOfKey, IsAtLoad, TakenHolds, TakenWasRight, IsAtJudge, KeptAt}
use Rattle.mt_descent.proofs.Looks.{of_key}
use Rattle.mt_version.proofs.CallerLemmas as versions
use Rattle.mt_border.specs.Held as helds

-- a node that is live now was live
was_live : (a b : Bool) → (a ≡ true → b ≡ true) → b ≡ false → a ≡ false
was_live true b stays live = absurd (let dead = stays refl in cc)
was_live false b stays live = refl

-- one node, before a step and after it, and a version of it that was seen
module _ (op : ℕ) (n m : NodeView) (c : Changes op n m) (seen : Parts) (was : WasSeen n seen) where
  -- what was seen stays so
  pub seen_stays : WasSeen m seen
  seen_stays = record { whole = was.whole; still = was.still; ages = versions.ages_trans seen n.version m.version was.ages c.ages }

  -- what stands now stood before
  pub range_stood : RangeStands m seen → RangeStands n seen
  range_stood stands = record { live = was_live n.version.deleted m.version.deleted c.ages.deleted stands.live; range = omega (arith, was.ages.range, c.ages.range, stands.range) }

  same_range : RangeStands m seen → range_age n.version ≡ range_age m.version
  same_range stands = omega (arith, was.ages.range, c.ages.range, stands.range)

  -- so did the version
  pub stood : Stands m seen → Stands n seen
  stood stands =
      let before = range_stood stands.in_range in
      record {
        in_range = before;
        insertion = omega (arith, was.ages.insertion (sym before.range), c.ages.insertion (same_range stands.in_range), stands.insertion);
      }

  -- and was unmarked
  pub whole_before : RangeStands m seen → n.version.splitting ≡ false
  whole_before stands = (versions.range_age_tells n.version seen (range_stood stands).range).1 ∙ was.whole

  -- the range only widens while it stands
  pub widens : RangeStands m seen → end_of n.high ≤ end_of m.high
  widens stands = c.widens (same_range stands) (whole_before stands) stands.live

  -- the keys and children stand while the version does
  pub same_keys : Stands m seen → HasSameKeys n m
  same_keys stands =
      let before = stood stands in
      c.keys (same_range stands.in_range) (before.insertion ∙ sym stands.insertion) (whole_before stands.in_range)
      ((versions.insert_age_tells n.version seen before.insertion).1 ∙ was.still)

-- what is held of the key goes on as that
pub record LeadsOn (e : Entry) (suffix : List ℕ) : Type 0 where
  pub kind : FoundKind
  pub is : IsKind e suffix kind
  pub leads : kind ≢ OtherLong

key_on : (e : Entry) (suffix : List ℕ) (was now : Held) → e.held ≡ now → GoesOn was now → CanHold e.mark now → IsSomeAnd (pair_of was) (λ p. p.suffix ≡ suffix) → LeadsOn e suffix
key_on e suffix (helds.Stable p) (helds.Stable q) is on can has = record { kind = ThisKey; is = subst (λ (h : Held). IsSomeAnd (pair_of h) (λ p. p.suffix ≡ suffix)) (sym is) (on ∙ has); leads = λ e. cc }
key_on e suffix (helds.Stable p) (helds.Unstable q tree) is on can has = record { kind = ThisKey; is = subst (λ (h : Held). IsSomeAnd (pair_of h) (λ p. p.suffix ≡ suffix)) (sym is) (on ∙ has); leads = λ e. cc }
key_on e suffix (helds.Stable p) (helds.Link u) is on can has = record { kind = ToTree; is = (can, subst (λ (h : Held). IsLink h) (sym is) tt); leads = λ e. cc }
key_on e suffix (helds.Unstable p tree) (helds.Stable q) is on can has = absurd on
key_on e suffix (helds.Unstable p tree) (helds.Unstable q other) is on can has = record { kind = ThisKey; is = subst (λ (h : Held). IsSomeAnd (pair_of h) (λ p. p.suffix ≡ suffix)) (sym is) (on.0 ∙ has); leads = λ e. cc }
key_on e suffix (helds.Unstable p tree) (helds.Link u) is on can has = record { kind = ToTree; is = (can, subst (λ (h : Held). IsLink h) (sym is) tt); leads = λ e. cc }
key_on e suffix (helds.Link u) now is on can has = absurd has

link_on : (e : Entry) (suffix : List ℕ) (was now : Held) → e.held ≡ now → GoesOn was now → CanHold e.mark now → IsLink was → LeadsOn e suffix
link_on e suffix (helds.Stable p) now is on can link = absurd link
link_on e suffix (helds.Unstable p tree) now is on can link = absurd link
link_on e suffix (helds.Link u) (helds.Stable q) is on can link = absurd on
link_on e suffix (helds.Link u) (helds.Unstable q tree) is on can link = absurd on
link_on e suffix (helds.Link u) (helds.Link v) is on can link = record { kind = ToTree; is = (can, subst (λ (h : Held). IsLink h) (sym is) tt); leads = λ e. cc }

leads_on : (was now : Entry) (suffix : List ℕ) (kind : FoundKind) → kind ≢ OtherLong → GoesOn was.held now.held → CanHold now.mark now.held → IsKind was suffix kind → LeadsOn now suffix
leads_on was now suffix ThisKey leads on can is = key_on now suffix was.held now.held refl on can is
leads_on was now suffix OtherLong leads on can is = absurd (leads refl)
leads_on was now suffix ToTree leads on can is = link_on now suffix was.held now.held refl on can is.1

-- a slot that is live stays the key's
slot_stays : (n m : NodeView) (slot : ℕ) (key : Bytes) (layer : ℕ) → KeepsEntry n.slots n.cells m.slots m.cells slot → IsBorder m.slots → place_at m slot < length m.slots
    → HasSlot n slot key layer → HasSlot m slot key layer
slot_stays n m slot key layer keeps border live h =
    let f = h.in_slot in
    let now = slot_at m (place_at m slot) in
    let on = leads_on (slot_at n (place_at n slot)) now (suffix_of key layer) h.kind h.leads (keeps.held f.in_range live) (border.each (place_at m slot) any_entry live).held f.kind_is in
    record {
      kind = on.kind;
      in_slot = record {
        within = f.within;
        in_range = live;
        slice_is = keeps.slice f.in_range live ∙ f.slice_is;
        mark_is = keeps.mark f.in_range live ∙ f.mark_is;
        kind_is = on.is;
      };
      leads = on.leads;
    }

-- a tree that is not being made never is
unmade_stays : (op : ℕ) (tree after : Tree) → TreeChanges op tree after → ((q : ℕ) → tree.standing ≢ Made q) → (s : Standing) → tree.standing ≡ s
    → (q : ℕ) → after.standing ≢ Made q
unmade_stays op tree after c unmade (Made by) is q e = unmade by is
unmade_stays op tree after c unmade Live is q e = c.live is q e
unmade_stays op tree after c unmade Dead is q e = unmade q (ap (λ (t : Tree). t.standing) (sym (c.dead is)) ∙ e)

-- what was kept of a slot is as right by a longer past
of_key_longer : (v : ArenaView) (before after : Past) (key : Bytes) (first layer : ℕ) (held : Held) → ExtendsPast first before after → IsOfKey v before key first layer held
    → IsOfKey v after key first layer held
of_key_longer v before after key first layer (helds.Stable pair) g h =
    record { since = h.since; made = omega (arith, h.made, g.steps); had = ap (λ m. get m (owned key)) (g.same (max first pair.stamp) h.since h.made) ∙ h.had }
of_key_longer v before after key first layer (helds.Unstable pair tree) g h = h
of_key_longer v before after key first layer (helds.Link u) g h = h

pub load_longer : (v : ArenaView) (before after : Past) (key : Bytes) (w : Walk) → ExtendsPast w.first before after → IsAtLoad v before key w → IsAtLoad v after key w
load_longer v before after key w g h =
    let n = at v w.place.node in
    record {
      at_border = h.at_border;
      within = h.within;
      since = omega (arith, h.since, g.steps);
      found = λ stands. elim (h.found stands) [
        | inl l ↦ inl (record { has = l.has; held = λ stable. of_key_longer v before after key w.first w.layer (slot_at n (place_at n w.slot)).held g (l.held stable) })
        | inr d ↦ inr (record { flag = d.flag; free = d.free; held = of_key_longer v before after key w.first w.layer (held_in n.cells.helds w.slot) g d.held })
      ];
    }

module _ (op : ℕ) (old new : ArenaView) (e : NodesGuarantee op old.nodes new.nodes old.trees new.trees) where
  through_stays : (t layer : ℕ) (key : Bytes) → GoesThrough old t layer key → GoesThrough new t layer key
  through_stays t layer key h =
      let c = e.trees t h.there in
      record {
        there = omega (arith, h.there, e.tree_count);
        unmade = unmade_stays op (tree_at old.trees t) (tree_at new.trees t) c h.unmade (tree_at old.trees t).standing refl;
        of_tree = subst (λ (prefix : Bytes). IsOfTree prefix layer key) (sym c.prefix) h.of_tree;
        begun = h.begun;
      }

  remembered_stays : (t k : ℕ) (seen : Parts) (slice : ℕ) → IsRemembered old t k seen slice → IsRemembered new t k seen slice
  remembered_stays t k seen slice h =
      let c = e.nodes k h.there in
      record {
        there = omega (arith, h.there, e.count);
        tree_is = c.tree ∙ h.tree_is;
        was = seen_stays op (at old k) (at new k) c seen h.was;
        undeleted = h.undeleted;
        from = omega (arith, c.low, h.from);
        peopled = λ inner. c.peopled (h.peopled (omega (arith, inner, c.level)));
      }

  covers_stays : (t k : ℕ) (seen : Parts) (slice : ℕ) → Covers old t k seen slice → Covers new t k seen slice
  covers_stays t k seen slice h =
      let c = e.nodes k h.remembered.there in
      record {
        remembered = remembered_stays t k seen slice h.remembered;
        below =
            λ stands. omega (arith, h.below (range_stood op (at old k) (at new k) c seen h.remembered.was stands), widens op (at old k) (at new k) c seen h.remembered.was stands);
      }

  pick_stays : (key : Bytes) (w : Walk) → IsAtPick old key w → IsAtPick new key w
  pick_stays key w h = record {
    through = through_stays w.place.tree w.layer key h.through;
    covers = covers_stays w.place.tree w.place.node w.place.seen (slice_in key w) h.covers;
    interior = omega (arith, h.interior, (e.nodes w.place.node h.covers.remembered.there).level);
  }

  picked_stays : (k : ℕ) (seen : Parts) (slice c : ℕ) → k < length old.nodes → WasSeen (at old k) seen → IsPicked old k seen slice c
      → IsPicked new k seen slice c
  picked_stays k seen slice c within was h = record {
    there = omega (arith, h.there, e.count);
    is = λ stands.
        let change = e.nodes k within in
        let same = same_keys op (at old k) (at new k) change seen was stands in
        h.is (stood op (at old k) (at new k) change seen was stands)
        ∙ ap (λ (xs : List ℕ). child_for (record (at old k) { separators = xs }) slice) (sym same.separators)
        ∙ ap (λ (xs : List ℕ). child_for (record (at new k) { children = xs }) slice) (sym same.children);
  }

  -- what is kept at a border node
  pub border_stays : (key : Bytes) (w : Walk) → IsAtBorder old key w → IsAtBorder new key w
  border_stays key w h = record {
    through = through_stays w.place.tree w.layer key h.through;
    covers = covers_stays w.place.tree w.place.node w.place.seen (slice_in key w) h.covers;
    border = (e.nodes w.place.node h.covers.remembered.there).level ∙ h.border;
  }

  had_stays : (before after : Past) (first step : ℕ) (key : Bytes) (row : Option Stamped) → ExtendsPast first before after
      → Had before first step key row → Had after first step key row
  had_stays before after first step key row g h = record { since = h.since; made = omega (arith, h.made, g.steps); had = ap (λ m. get m (owned key)) (g.same step h.since h.made) ∙ h.had }

  taken_stays : (before after : Past) (key : Bytes) (row : Option Stamped) (w : Walk) (taken : Taken) → ExtendsPast w.first before after
      → w.place.node < length old.nodes → WasSeen (at old w.place.node) w.place.seen → TakenHolds old before key row w taken
      → TakenHolds new after key row w taken
  taken_stays before after key row w Missing g within was h =
      λ stands. had_stays before after w.first w.right_at key None g (h (range_stood op (at old w.place.node) (at new w.place.node) (e.nodes w.place.node within) w.place.seen was stands))
  taken_stays before after key row w Row g within was h = λ stands.
      let f = h (stood op (at old w.place.node) (at new w.place.node) (e.nodes w.place.node within) w.place.seen was stands) in
      (f.0, f.1, had_stays before after w.first w.right_at key row g f.2)
  taken_stays before after key row w (Link u) g within was h =
      λ stands. through_stays u (w.layer + 1) key (h (stood op (at old w.place.node) (at new w.place.node) (e.nodes w.place.node within) w.place.seen was stands))
  taken_stays before after key row w Nothing g within was h =
      λ stands. h (stood op (at old w.place.node) (at new w.place.node) (e.nodes w.place.node within) w.place.seen was stands)

  next_stays : (t k : ℕ) (seen : Parts) (next : Option ℕ) → k < length old.nodes → WasSeen (at old k) seen → HasNext old t k seen next
      → HasNext new t k seen next
  next_stays t k seen next within was h =
      let c = e.nodes k within in
      record {
        there = λ j is. omega (arith, h.there j is, e.count);
        tree_is = λ j is. (e.nodes j (h.there j is)).tree ∙ h.tree_is j is;
        border = λ j is. (e.nodes j (h.there j is)).level ∙ h.border j is;
        after = λ j is. omega (arith, h.after j is, c.low, (e.nodes j (h.there j is)).low);
        meets =
            λ j is stands. omega (arith, h.meets j is (range_stood op (at old k) (at new k) c seen was stands), widens op (at old k) (at new k) c seen was stands, (e.nodes j (h.there j is)).low);
        last =
            λ none stands. omega (arith, h.last none (range_stood op (at old k) (at new k) c seen was stands), widens op (at old k) (at new k) c seen was stands);
      }

  -- what is of the key stays so
  of_key_stays : (before after : Past) (key : Bytes) (first layer : ℕ) (held : Held) → ExtendsPast first before after → IsOfKey old before key first layer held
      → IsOfKey new after key first layer held
  of_key_stays before after key first layer (helds.Stable pair) g h = had_stays before after first (max first pair.stamp) key (Some (row_of pair)) g h
  of_key_stays before after key first layer (helds.Unstable pair tree) g h = h
  of_key_stays before after key first layer (helds.Link u) g h = through_stays u (layer + 1) key h

  -- a slot that was found keeps what it held, live or dropped
  load_stays : (before after : Past) (key : Bytes) (w : Walk) → ExtendsPast w.first before after → KeepsRows old new after → IsAtLoad old before key w → IsAtLoad new after key w
  load_stays before after key w g rows h =
      let k = w.place.node in
      let n = at old k in
      let m = at new k in
      let within = h.at_border.covers.remembered.there in
      let was = h.at_border.covers.remembered.was in
      let c = e.nodes k within in
      let border = border_stays key w h.at_border in
      let since : w.first ≤ after.steps = omega (arith, h.since, g.steps) in
      let on : (held : Held) → IsOfKey old before key w.first w.layer held → IsOfKey new after key w.first w.layer held = λ held of. of_key_stays before after key w.first w.layer held g of in
      record {
        at_border = record { through = border.through; covers = border.covers; border = border.border };
        within = h.within;
        since = since;
        found = λ stands.
            let keeps = (same_keys op n m c w.place.seen was stands).slots w.slot h.within in
            elim (h.found (stood op n m c w.place.seen was stands)) [
              | inl l ↦ elim (keeps.live l.has.in_slot.in_range) [
                | inl live ↦
                    let has = slot_stays n m w.slot key w.layer keeps (rows.sound.nodes.each k (omega (arith, within, e.count))).slots.border live l.has in
                    inl (record {
                      has = has;
                      held = λ stable. of_key new key w rows.sound border w.slot has stands.in_range after (slot_at m (place_at m w.slot)).held rows.stamped since refl stable;
                    })
                | inr gone ↦
                    let left = rows.lost k within (whole_before op n m c w.place.seen was stands.in_range) w.slot l.has.in_slot.in_range gone.1 in
                    inr (record {
                      flag = gone.0;
                      free = gone.1;
                      held = subst (IsOfKey new after key w.first w.layer) (sym left.0) (on (slot_at n (place_at n w.slot)).held (l.held left.1));
                    })
              ]
              | inr d ↦
                  let same = keeps.free d.free d.flag in
                  inr (record { flag = keeps.flag d.flag; free = same.0; held = subst (IsOfKey new after key w.first w.layer) (sym same.1) (on (held_in n.cells.helds w.slot) d.held) })
            ];
      }

  answered_stays : (before after : Past) (key : Bytes) (row : Option Stamped) (w : Walk) (taken : Taken) → ExtendsPast w.first before after
      → TakenWasRight before key row w taken → TakenWasRight after key row w taken
  answered_stays before after key row w Missing g h = had_stays before after w.first w.right_at key None g h
  answered_stays before after key row w Row g h = (h.0, h.1, had_stays before after w.first w.right_at key row g h.2)
  answered_stays before after key row w (Link u) g h = absurd h
  answered_stays before after key row w Nothing g h = absurd h

  -- the rely: what a walk keeps at its phase
  pub kept_stays : (before after : Past) (key : Bytes) (row : Option Stamped) (w : Walk) (phase : Phase) → ExtendsPast w.first before after
      → (phase ≡ Load → KeepsRows old new after) → KeptAt phase old before key row w → KeptAt phase new after key row w
  kept_stays before after key row w Enter g rows h = through_stays w.place.tree w.layer key h
  kept_stays before after key row w Pick g rows h = pick_stays key w h
  kept_stays before after key row w Child g rows h = record {
    above = pick_stays key w h.above;
    picked = picked_stays w.place.node w.place.seen (slice_in key w) w.child h.above.covers.remembered.there h.above.covers.remembered.was h.picked;
  }
  kept_stays before after key row w Verify g rows h = record {
    above = pick_stays key w h.above;
    picked = picked_stays w.place.node w.place.seen (slice_in key w) w.child h.above.covers.remembered.there h.above.covers.remembered.was h.picked;
    child = seen_stays op (at old w.child) (at new w.child) (e.nodes w.child h.picked.there) w.child_seen h.child;
  }
  kept_stays before after key row w Search g rows h = border_stays key w h
  kept_stays before after key row w Load g rows h = load_stays before after key w g (rows refl) h
  kept_stays before after key row w Confirm g rows h = record {
    at_border = border_stays key w h.at_border;
    taken = taken_stays before after key row w w.taken g h.at_border.covers.remembered.there h.at_border.covers.remembered.was h.taken;
  }
  kept_stays before after key row w Forward g rows h = record {
    through = through_stays w.place.tree w.layer key h.through;
    remembered = remembered_stays w.place.tree w.place.node w.place.seen (slice_in key w) h.remembered;
    border = (e.nodes w.place.node h.remembered.there).level ∙ h.border;
    next = next_stays w.place.tree w.place.node w.place.seen w.next h.remembered.there h.remembered.was h.next;
  }
  kept_stays before after key row w Lock g rows h = border_stays key w h
  kept_stays before after key row w Snap g rows h = border_stays key w h
  kept_stays before after key row w Check g rows h = border_stays key w h
  kept_stays before after key row w Done g rows h = answered_stays before after key row w w.taken g h
  kept_stays before after key row w _ g rows h = tt

  -- what the holder of a border node keeps, no other operation changes
  pub judge_stays : (o : ℕ) (key : Bytes) (w : Walk) → o ≢ op → IsAtJudge old o key w → IsAtJudge new o key w
  judge_stays o key w other h =
      let k = w.place.node in
      let kept = (e.nodes k h.held.there).held o other h.held.holder in
      record {
        at_border = border_stays key w h.at_border;
        held = record { there = omega (arith, h.held.there, e.count); holder = kept.holder ∙ h.held.holder };
        still = subst (λ (p : Parts). IsStable p) (sym kept.version) h.still;
        stands = record { live = ap (λ (p : Parts). p.deleted) kept.version ∙ h.stands.live; range = ap range_age kept.version ∙ h.stands.range };
      }
