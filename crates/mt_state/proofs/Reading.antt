-- The steps of an operation that holds nothing: for `State::descend`, `search`, `load` and `confirm`.
use Rattle.std.{proofs.Common.{◌≡◌, ◌≢◌, ℕ, ◌+◌, ◌<◌, ◌≤◌, false, List, length, set, Option, Some, None, refl, sym, ap, subst, ◌∙◌, arith}, specs.Prelude.{◌^◌}}
use Rattle.mt_slices.{specs.{Keys.{IsStoredKey, stored_key}, Slices.{slice_of, mark_of, suffix_of}, declared.mark.Mark.Mark}, proofs.Tenants.stored_key-again}
use Rattle.mt_rows.specs.{declared.reply.Reply.TheVariants.Absent, Rows.Bytes, Stamps.Stamped, Commands.key_of}
use Rattle.mt_border.specs.{declared.entry.FoundKind.FoundKind, declared.entry.FoundKind.TheVariants.{ThisKey, OtherLong, Link as ToTree}}
use Rattle.mt_border.specs.{declared.entry.Find.Find, Entry.IsKind, Held.Held, Entries.IsMissing, Contents.owned}
use Rattle.mt_border.proofs.Edits.{any_entry}
use Rattle.mt_tape.{specs.Histories.contents_at, proofs.TapeLaws.contents_at-now}
use Rattle.mt_arena.{specs.{NodeView.{NodeView, place_at}, Layers.slot_at, Arena.{IsArena, content_of}, Accesses.at}, proofs.Places.same_slot}
use Rattle.mt_operation.specs.{declared.walk.Aim.Aim, declared.phase.Phase.Phase, declared.phase.Phase.TheVariants.{Enter, Search, Load, Confirm}}
use Rattle.mt_operation.specs.{declared.walk.Taken.Taken, declared.walk.Walk.Walk, declared.outcome.Outcome.Outcome, declared.operation.Operation.Operation}
use Rattle.mt_operation.specs.{Tasks.ask, Operations.{OperationView, view_of, moved}, Phases.{is_done, MayFollow, IsDescent, IsOfKind, is_unplaced}}
use Rattle.mt_operation.specs.Tables.{op_at as operation_at}
use Rattle.mt_operation.proofs.Phases.{by_descent}
use Rattle.mt_descent.specs.{Pasts.{Past, IsNow, AreStamped}, KeptWalks.{GoesThrough, IsInSlot, HasSlot, IsAtBorder, KeptAt, IsKept}, WalkMoves.{FindsIn, after_search}}
use Rattle.mt_descent.{specs.{Remembered.Learns, KeptBack.RemembersKept}, proofs.Learning.learns_search}
use Rattle.mt_state.specs.{Views.{StateView, Core, shown, past_of}, Steps.told_change, Notes.{Notes, Keeps}, Ways.{IsOnWay, Descends}}
use Rattle.mt_state.specs.{KeptOperations.{IsOpenOperation, TellsTaken, IsOnItsWay, IsAtLoad, IsAtConfirm, IsKeptAt, IsBound}, Invariant.StateInvariant}
use Rattle.mt_state.{specs.KeptBack.{ArenaFacts, IsBackAt}, proofs.{Stamps.stamped, KeptBack.{on_walk, walk_on_way, look_back}}}
use Rattle.mt_state.proofs.{Descents.{by_way, first_aside}, Telling.Gives, Moved.{went, first_same}, Still.{IsFree, IsUnready, still, still_gives}}
use Rattle.mt_state.proofs.{Bound.{bound_on, look_untold}, OneNode.quiet_grows, Lawful.owner_of}
use Rattle.mt_border.specs.declared.entry.Find.TheVariants as finds
use Rattle.mt_border.specs.Held as helds
use Rattle.mt_operation.specs.declared.walk.Aim.TheVariants as aims
use Rattle.mt_operation.specs.declared.walk.Taken.TheVariants as takens

-- an operation that is on its way, by its phase
pub way_of : (p : Phase) → IsDescent p → (c : Core) (o : ℕ) (op : Operation) → IsKeptAt p c o op → IsOnItsWay c op
way_of p d c o op = by_descent (λ q. IsKeptAt q c o op → IsOnItsWay c op) (λ k. k) (λ k. k) (λ k. k) (λ k. k) (λ k. k) p d

pub kept_on_way : (p : Phase) → IsOnWay p → (c : Core) (o : ℕ) (op : Operation) → IsOnItsWay c op → IsKeptAt p c o op
kept_on_way p on c o op = by_way (λ q. IsOnItsWay c op → IsKeptAt q c o op) (by_descent _ (λ k. k) (λ k. k) (λ k. k) (λ k. k) (λ k. k)) (λ k. k) (λ k. k) (λ k. k) p on

pub descent_free : (p : Phase) → IsDescent p → IsFree p
descent_free = by_descent IsFree tt tt tt tt tt

pub on_way_unready : (p : Phase) → IsOnWay p → IsUnready p
on_way_unready = by_way IsUnready (by_descent IsUnready tt tt tt tt tt) tt tt tt

pub on_way_open : (p : Phase) → IsOnWay p → is_done p ≡ false
on_way_open = by_way (λ p. is_done p ≡ false) (by_descent _ refl refl refl refl refl) refl refl refl

-- an operation that goes on its way keeps its outcome; where it comes to read it has none
pub keeps_on : (q : Phase) → IsOnWay q → (aim : Aim) → IsOfKind q aim → (told : Option Outcome) → (aim ≢ aims.Write → told ≡ None)
    → Keeps (is_unplaced q) told told
keeps_on q on aim kind told reads =
    by_way (λ q. IsOfKind q aim → Keeps (is_unplaced q) told told) (by_descent _ (λ kind. refl) (λ kind. refl) (λ kind. refl) (λ kind. refl) (λ kind. refl))
    (λ kind. let none = reads (λ writes. absurd (let no = sym kind ∙ writes in cc)) in (none, none))
    (λ kind. refl)
    (λ kind. let none = reads (λ writes. absurd (let no = sym kind ∙ writes in cc)) in (none, none))
    q on kind

-- an operation that goes down is on its way
descent_on : (p : Phase) → IsDescent p → IsOnWay p
descent_on = by_descent IsOnWay tt tt tt tt tt

descent_notes : (p : Phase) → IsDescent p → (old : StateView) (op : OperationView) (next : Phase) (told : Option Outcome)
    → Keeps (is_unplaced next) op.outcome told → Notes old op p next told
descent_notes p d old op next told = by_descent (λ q. Keeps (is_unplaced next) op.outcome told → Notes old op q next told) (λ k. k) (λ k. k) (λ k. k) (λ k. k) (λ k. k) p d

-- an operation that doesn't write is told nothing on its way
pub reads_untold : (c : Core) (op : Operation) → IsOpenOperation c op → op.walk.aim ≢ aims.Write → IsBound op.outcome c op → op.outcome ≡ None
reads_untold c op k reads bound = look_untold op.outcome c op (λ writes. reads (k.aim ∙ writes)) bound

module _ (c : Core) (now : StateView) (o : ℕ) (is : shown c ≡ now) (h : StateInvariant c) (room : now.steps < 2 ^ 59) (op : Operation) (there : operation_at c.table o ≡ Some op) where
  -- an operation that goes down
  pub descend_done : (w : Walk) → IsDescent op.walk.phase → Descends op.walk w → Learns c.arena op.walk w → ((past : Past) → IsKept c.arena past op.task.key None w) → Gives now (record {
    steps = c.steps + 1;
    answers = c.answers;
    logs = c.logs;
    accounts = c.accounts;
    arena = c.arena;
    tape = c.tape;
    table = set c.table o (Some (moved op (c.steps + 1) w));
  }) o false
  descend_done w descends goes learns kept =
      let k = h.ops o op there in
      let way = way_of op.walk.phase descends c o op k.kept in
      let after = went op (c.steps + 1) w op.outcome op.prepared in
      let on : IsOnItsWay (still c now o is h room op there (descent_free op.walk.phase descends) w op.outcome) after = record {
        kept =
            first_aside w.phase goes.on_way c.arena (past_of (still c now o is h room op there (descent_free op.walk.phase descends) w op.outcome)) op.task.key None w after.walk.first (kept (past_of (still c now o is h room op there (descent_free op.walk.phase descends) w op.outcome)));
        bound =
            bound_on c (still c now o is h room op there (descent_free op.walk.phase descends) w op.outcome) op k.always (quiet_grows c o c.arena c.tape.reserved after refl) w way.unprepared refl op.outcome way.bound;
        unprepared = way.unprepared;
      } in
      still_gives c now o is h room op there (descent_free op.walk.phase descends) w op.outcome goes.follows (on_way_unready w.phase goes.on_way) goes.same.aim goes.kind refl
      (descent_notes op.walk.phase descends (shown c) (view_of op) w.phase op.outcome
      (keeps_on w.phase goes.on_way w.aim goes.kind op.outcome (λ reads. reads_untold c op k.always (λ writes. reads (goes.same.aim ∙ writes)) way.bound)))
      (kept_on_way w.phase goes.on_way (still c now o is h room op there (descent_free op.walk.phase descends) w op.outcome) o after on)
      (λ facts. on_walk w.phase goes.on_way c.arena after (look_back op.birth c.arena op.walk w after.walk.first facts learns
      (walk_on_way op.walk.phase (descent_on op.walk.phase descends) c.arena op (h.remembered o op there).walk)))
      false (sym (on_way_open w.phase goes.on_way))

-- a stored key is that of its tenant and its user's key
pub key_of_owner : (key : Bytes) (tenant : ℕ) (user : Bytes) → IsStoredKey key → owned key ≡ (tenant, user) → key ≡ stored_key tenant user
key_of_owner key tenant user stored owner = sym (stored_key-again key stored.has_tenant stored.are_bytes) ∙ ap (λ (q : ℕ × Bytes). stored_key q.0 q.1) owner

-- an operation that has begun: its walk is the one that the step leads to
pub walk_same : (c : Core) (op : Operation) → IsOpenOperation c op → (w : Walk) → 0 < op.walk.first → w.first ≡ op.walk.first
    → (moved op (c.steps + 1) w).walk ≡ w
walk_same c op k w begun same = let first = first_same c op k w begun ∙ sym same in (λ a. record w { first = first a })

-- the contents after the step are those of the arena
pub now_is : (c : Core) → StateInvariant c → (new : Core) → new.steps ≡ c.steps + 1 → new.arena ≡ c.arena → new.tape.entries ≡ c.tape.entries
    → IsNow (past_of new) (c.steps + 1) c.arena
now_is c h new steps arena entries = record {
  made = omega (arith, steps);
  contents =
      (λ a. contents_at (entries a) (content_of (arena a)) (c.steps + 1)) ∙ contents_at-now c.tape.floor (c.steps + 1) c.tape.entries (content_of c.arena) h.tape.rises (omega (arith, h.tape.made));
}

-- what a search that leads on to confirm has not found
module _ (c : Core) (h : StateInvariant c) (arena : IsArena c.arena.nodes c.arena.trees) (key : Bytes) (w : Walk) (within : w.place.node < length c.arena.nodes) (border : (at c.arena w.place.node).level ≡ 0) (from : (at c.arena w.place.node).low ≤ slice_of key w.layer) where
  abbrev searched_node : NodeView
  searched_node = at c.arena w.place.node

  not_another : (held : Held) (mark : Mark) (suffix : List ℕ) (kind : FoundKind) → kind ≢ OtherLong
      → IsKind (record { slice = 0; mark = mark; held = held }) suffix OtherLong → IsKind (record { slice = 0; mark = mark; held = held }) suffix kind
      → ⊥
  not_another (helds.Stable pair) mark suffix ThisKey leads other this = other.1 this
  not_another (helds.Unstable pair tree) mark suffix ThisKey leads other this = other.1 this
  not_another (helds.Link tree) mark suffix ThisKey leads other this = absurd this
  not_another (helds.Stable pair) mark suffix ToTree leads other this = absurd this.1
  not_another (helds.Unstable pair tree) mark suffix ToTree leads other this = absurd this.1
  not_another (helds.Link tree) mark suffix ToTree leads other this = absurd other.1
  not_another held mark suffix OtherLong leads other this = leads refl

  -- a slot of the key is the one that was found
  one_slot : (slot i : ℕ) (kind other : FoundKind) → IsInSlot searched_node slot key w.layer other → IsInSlot searched_node i key w.layer kind → place_at searched_node i ≡ place_at searched_node slot
  one_slot slot i kind other f g =
      same_slot c.arena.nodes w.place.node (place_at searched_node i) (place_at searched_node slot) arena.nodes within g.in_range f.in_range (g.slice_is ∙ sym f.slice_is) (g.mark_is ∙ sym f.mark_is)

  lacks_missing : IsMissing searched_node.slots (slice_of key w.layer) (mark_of key w.layer) → (slot : ℕ) → HasSlot searched_node slot key w.layer → ⊥
  lacks_missing missing slot has = missing (place_at searched_node slot) any_entry has.in_slot.in_range has.in_slot.slice_is has.in_slot.mark_is

  lacks_other : (slot : ℕ) → IsInSlot searched_node slot key w.layer OtherLong → (i : ℕ) → HasSlot searched_node i key w.layer → ⊥
  lacks_other slot f i has =
      let same = one_slot slot i has.kind OtherLong f has.in_slot in
      let here = subst (λ j. IsKind (slot_at searched_node j) (suffix_of key w.layer) has.kind) same has.in_slot.kind_is in
      not_another (slot_at searched_node (place_at searched_node slot)).held (slot_at searched_node (place_at searched_node slot)).mark (suffix_of key w.layer) has.kind has.leads f.kind_is here

  pub lacks : (slot : ℕ) (found : Find) → FindsIn searched_node key w.layer found → (after_search found w 0).phase ≡ Confirm → (i : ℕ)
      → HasSlot searched_node i key w.layer → ⊥
  lacks slot finds.Missing f e i has = lacks_missing f i has
  lacks slot (finds.Slot at_slot OtherLong) f e i has = lacks_other at_slot f i has
  lacks slot (finds.Slot at_slot ThisKey) f e i has = absurd (cc)
  lacks slot (finds.Slot at_slot ToTree) f e i has = absurd (cc)

module _ (c : Core) (now : StateView) (o : ℕ) (is : shown c ≡ now) (h : StateInvariant c) (room : now.steps < 2 ^ 59) (arena : IsArena c.arena.nodes c.arena.trees) (op : Operation) (there : operation_at c.table o ≡ Some op) (at_search : op.walk.phase ≡ Search) where
  searching : IsOnItsWay c op
  searching = subst (λ (p : Phase). IsKeptAt p c o op) at_search (h.ops o op there).kept

  abbrev pub search_free : IsFree op.walk.phase
  search_free = subst IsFree (sym at_search) tt

  begun : 0 < op.walk.first
  begun = (h.ops o op there).always.begun (λ enters. absurd (let no : Search ≡ Enter = sym at_search ∙ enters in cc))

  -- what is kept of the operation at its border node
  at_border : IsAtBorder c.arena op.task.key op.walk
  at_border = subst (λ (p : Phase). KeptAt p c.arena (past_of c) op.task.key None op.walk) at_search searching.kept

  -- its stored key is the one that it is asked for
  key_asked_is : op.task.key ≡ stored_key op.task.tenant (key_of (ask op.task))
  key_asked_is = let k = (h.ops o op there).always in key_of_owner op.task.key op.task.tenant (key_of (ask op.task)) k.stored
      (owner_of c op k aims.Read (subst (λ (p : Phase). IsOfKind p op.walk.aim) at_search k.kind) (λ e. absurd (cc)))

  module _ (w : Walk) (found : Find) (has_found : FindsIn (at c.arena op.walk.place.node) op.task.key op.walk.layer found) (is_after : w ≡ after_search found op.walk (c.steps + 1))
      (kept : (past : Past) (row : Option Stamped) → AreStamped past c.arena → IsNow past (c.steps + 1) c.arena → op.walk.first ≤ c.steps + 1 → IsKept c.arena past op.task.key row w) where
    first_upto_now : op.walk.first ≤ c.steps + 1
    first_upto_now = let k = (h.ops o op there).always in omega (arith, k.order, k.made)

    writes_same : w.aim ≡ op.walk.aim
    writes_same = ap (λ (x : Walk). x.aim) is_after ∙ by found
      where
        by : (f : Find) → (after_search f op.walk (c.steps + 1)).aim ≡ op.walk.aim
        by finds.Missing = refl
        by (finds.Slot slot OtherLong) = refl
        by (finds.Slot slot ThisKey) = refl
        by (finds.Slot slot ToTree) = refl

    first_stays_same : w.first ≡ op.walk.first
    first_stays_same = ap (λ (x : Walk). x.first) is_after ∙ by found
      where
        by : (f : Find) → (after_search f op.walk (c.steps + 1)).first ≡ op.walk.first
        by finds.Missing = refl
        by (finds.Slot slot OtherLong) = refl
        by (finds.Slot slot ThisKey) = refl
        by (finds.Slot slot ToTree) = refl

    looks_on : op.walk.aim ≡ aims.Read
    looks_on = subst (λ (p : Phase). IsOfKind p op.walk.aim) at_search (h.ops o op there).always.kind

    -- what the walk remembers then is kept back
    searched_back : (n : ℕ) → ArenaFacts c.arena → RemembersKept op.birth c.arena (record w { first = n })
    searched_back n facts =
        let learns : Learns c.arena op.walk w =
        subst (λ (x : Walk). Learns c.arena op.walk x) (sym is_after) (learns_search c.arena op.walk op.task.key (c.steps + 1) arena at_search at_border found has_found) in
        look_back op.birth c.arena op.walk w n facts learns (subst (λ (p : Phase). IsBackAt p c.arena op) at_search (h.remembered o op there).walk)

    search_untold : op.outcome ≡ None
    search_untold = reads_untold c op (h.ops o op there).always (λ writes. absurd (let no = sym looks_on ∙ writes in cc)) searching.bound

    -- a search that found nothing: the key is missing, as of this step
    taken_missing : (f : Find) → (after_search f op.walk (c.steps + 1)).phase ≡ Confirm
        → ((after_search f op.walk (c.steps + 1)).taken ≡ takens.Missing) × ((after_search f op.walk (c.steps + 1)).right_at ≡ c.steps + 1) × ((after_search f op.walk 0).phase ≡ Confirm)
    taken_missing finds.Missing e = (refl, refl, refl)
    taken_missing (finds.Slot slot OtherLong) e = (refl, refl, refl)
    taken_missing (finds.Slot slot ThisKey) e = absurd (cc)
    taken_missing (finds.Slot slot ToTree) e = absurd (cc)

    pub search_missing : w.phase ≡ Confirm
        → Gives now (still c now o is h room op there search_free w (Some (record { reply = Absent; at = c.steps + 1 }))) o false
    search_missing confirms =
        let told : Option Outcome = Some (record { reply = Absent; at = c.steps + 1 }) in
        let new = still c now o is h room op there search_free w told in
        let after = went op (c.steps + 1) w told op.prepared in
        let k = (h.ops o op there).always in
        let same = walk_same c op k w begun first_stays_same in
        let t = taken_missing found (ap (λ (x : Walk). x.phase) (sym is_after) ∙ confirms) in
        let own : IsAtConfirm new after = record {
          row = None;
          kept =
              subst (λ (x : Walk). IsKept c.arena (past_of new) op.task.key None x) (sym same) (kept (past_of new) None (stamped c h.stamps arena (past_of new) (omega arith) (λ n. refl)) (now_is c h new refl refl refl) first_upto_now);
          tells =
              subst (λ (t : Taken). TellsTaken after None t) (sym (ap (λ (x : Walk). x.taken) (same ∙ is_after) ∙ t.0)) (ap (λ n. Some (record { reply = Absent; at = n })) (sym (ap (λ (x : Walk). x.right_at) (same ∙ is_after) ∙ t.1)));
          unprepared = searching.unprepared;
        } in
        still_gives c now o is h room op there search_free w told
        (subst (λ (p : Phase). MayFollow p w.phase) (sym at_search) (subst (MayFollow Search) (sym confirms) tt))
        (subst IsUnready (sym confirms) tt) writes_same (subst (λ (p : Phase). IsOfKind p w.aim) (sym confirms) (writes_same ∙ looks_on))
        (sym (ap told_change search_untold))
        (subst (λ (p : Phase). Notes (shown c) (view_of op) p w.phase told) (sym at_search) (subst (λ (p : Phase). Notes (shown c) (view_of op) Search p told) (sym confirms) (record {
          says = refl;
          lacks = record {
            through = subst (GoesThrough c.arena op.walk.place.tree op.walk.layer) key_asked_is at_border.through;
            there = at_border.covers.remembered.there;
            tree_is = at_border.covers.remembered.tree_is;
            border = at_border.border;
            from = subst (λ (key : Bytes). (at c.arena op.walk.place.node).low ≤ slice_of key op.walk.layer) key_asked_is at_border.covers.remembered.from;
            missing = subst (λ (key : Bytes). (slot : ℕ) → HasSlot (at c.arena op.walk.place.node) slot key op.walk.layer → ⊥) key_asked_is
                (λ slot has. lacks c h arena op.task.key op.walk at_border.covers.remembered.there at_border.border at_border.covers.remembered.from slot found has_found t.2 slot has);
          };
        })))
        (subst (λ (p : Phase). IsKeptAt p new o after) (sym confirms) own)
        (λ facts. subst (λ (p : Phase). IsBackAt p c.arena after) (sym confirms) (searched_back after.walk.first facts)) false (sym (ap is_done confirms))

    -- a search that found a slot of the key, or of its link
    slot_found : (f : Find) → FindsIn (at c.arena op.walk.place.node) op.task.key op.walk.layer f
        → (after_search f op.walk (c.steps + 1)).phase ≡ Load
        → HasSlot (at c.arena op.walk.place.node) (after_search f op.walk (c.steps + 1)).slot op.task.key op.walk.layer
    slot_found finds.Missing g e = absurd (cc)
    slot_found (finds.Slot slot OtherLong) g e = absurd (cc)
    slot_found (finds.Slot slot ThisKey) g e = record { kind = ThisKey; in_slot = g; leads = λ no. cc }
    slot_found (finds.Slot slot ToTree) g e = record { kind = ToTree; in_slot = g; leads = λ no. cc }

    pub search_found : w.phase ≡ Load → Gives now (still c now o is h room op there search_free w op.outcome) o false
    search_found loads =
        let new = still c now o is h room op there search_free w op.outcome in
        let after = went op (c.steps + 1) w op.outcome op.prepared in
        let k = (h.ops o op there).always in
        let same = walk_same c op k w begun first_stays_same in
        let own : IsAtLoad new after = record {
          way = record {
            kept =
                subst (λ (x : Walk). IsKept c.arena (past_of new) op.task.key None x) (sym same) (kept (past_of new) None (stamped c h.stamps arena (past_of new) (omega arith) (λ n. refl)) (now_is c h new refl refl refl) first_upto_now);
            bound = bound_on c new op k (quiet_grows c o c.arena c.tape.reserved after refl) w searching.unprepared refl op.outcome searching.bound;
            unprepared = searching.unprepared;
          };
          found = λ last. subst (λ (x : Walk). HasSlot (at c.arena x.place.node) x.slot op.task.key x.layer) (sym (same ∙ is_after))
              (in_place found (slot_found found has_found (ap (λ (x : Walk). x.phase) (sym is_after) ∙ loads)));
        } in
        still_gives c now o is h room op there search_free w op.outcome
        (subst (λ (p : Phase). MayFollow p w.phase) (sym at_search) (subst (MayFollow Search) (sym loads) tt))
        (subst IsUnready (sym loads) tt) writes_same (subst (λ (p : Phase). IsOfKind p w.aim) (sym loads) (writes_same ∙ looks_on))
        refl
        (subst (λ (p : Phase). Notes (shown c) (view_of op) p w.phase op.outcome) (sym at_search) (subst (λ (p : Phase). Notes (shown c) (view_of op) Search p op.outcome) (sym loads) (search_untold, search_untold)))
        (subst (λ (p : Phase). IsKeptAt p new o after) (sym loads) own)
        (λ facts. subst (λ (p : Phase). IsBackAt p c.arena after) (sym loads) (searched_back after.walk.first facts)) false (sym (ap is_done loads))
      where
        in_place : (f : Find) → HasSlot (at c.arena op.walk.place.node) (after_search f op.walk (c.steps + 1)).slot op.task.key op.walk.layer
            → HasSlot (at c.arena (after_search f op.walk (c.steps + 1)).place.node) (after_search f op.walk (c.steps + 1)).slot op.task.key (after_search f op.walk (c.steps + 1)).layer
        in_place finds.Missing g = g
        in_place (finds.Slot slot OtherLong) g = g
        in_place (finds.Slot slot ThisKey) g = g
        in_place (finds.Slot slot ToTree) g = g
