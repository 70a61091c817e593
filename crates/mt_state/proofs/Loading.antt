-- A get that takes what its slot holds: it is to confirm it, or there was no memory for the row that it shows.
use Rattle.std.proofs.Common.{◌≡◌, ◌≢◌, ℕ, ◌+◌, ◌<◌, ◌≤◌, ◌⊎◌, inl, inr, Bool, true, false, cond, length, max, Option, Some, None, refl, sym, ap, subst, ◌∙◌, arith}
use Rattle.std.proofs.{lemmas.Bool.cases_eq, lemmas.Option.same_Some, lemmas.List.Elements.All-contains}
use Rattle.std.specs.{Prelude.{◌^◌, IsSomeAnd}, List.Contains, FinMap.get}
use Rattle.mt_slices.specs.{Keys.stored_key, Slices.suffix_of}
use Rattle.mt_rows.specs.{declared.reply.Reply.TheVariants.{Found, NoMemory}, Rows.Bytes, Stamps.{Stamped, as_shown}, Commands.key_of, Maps.is_get}
use Rattle.mt_rows.proofs.ContentLaws.{get-tenant_map}
use Rattle.mt_border.specs.{Held.Pair, Held.Held, declared.entry.FoundKind.FoundKind}
use Rattle.mt_border.specs.{declared.entry.FoundKind.TheVariants.{ThisKey, OtherLong, Link as ToTree}, Entry.{IsKind, pair_of}}
use Rattle.mt_border.specs.Contents.{owned, IsOfTree, HasKey, row_of}
use Rattle.mt_border.proofs.{Edits.any_entry, ContentsKeys.owned_at}
use Rattle.mt_tape.{specs.{declared.entry.Entry.{Entry as Write}, Histories.{contents_at, written_key}}, proofs.TapeLaws.get-contents_at}
use Rattle.mt_arena.specs.{Forests.{tree_at, layer_of}, Layers.slot_at, NodeView.NodeView, declared.tree.Standing.Standing}
use Rattle.mt_arena.specs.{declared.tree.Standing.TheVariants.{Made, Live}, Contents.is_live, Arena.{IsArena, content_of}, Accesses.{at, tree_of}}
use Rattle.mt_arena.specs.Ways.{StandsFor}
use Rattle.mt_arena.proofs.Owners.{found}
use Rattle.mt_operation.specs.{declared.task.Task.Task, declared.phase.Phase.Phase, declared.phase.Phase.TheVariants.{Enter, Load, Confirm, Done}}
use Rattle.mt_operation.specs.{declared.walk.Taken.Taken, declared.walk.Walk.Walk, declared.outcome.Outcome.Outcome, declared.operation.Operation.Operation}
use Rattle.mt_operation.specs.{Tasks.ask, Operations.view_of, Phases.{is_done, MayFollow, IsOfKind}, Tables.{op_at as operation_at}}
use Rattle.mt_descent.specs.{Pasts.Past, KeptWalks.{IsInSlot, walk_place, Had, IsOfKey, IsAtLoad as WalksLoad, KeptAt, IsKept}, WalkMoves.{Continues, Loads, TakesOut}}
use Rattle.mt_state.specs.{Views.{StateView, Core, shown, past_of, map_of}, Steps.told_change, Notes.{Notes, Says, columns_asked, ShowsRow, ShowsNone}}
use Rattle.mt_state.specs.{Ways.ShowsTaken, KeptOperations.{IsOpenOperation, TellsTaken, IsAtLoad, IsAtConfirm, HasAnswer, IsKeptAt}}
use Rattle.mt_state.specs.{Invariant.{IsStampOf, StateInvariant}, KeptBack.IsBackAt}
use Rattle.mt_state.proofs.{Replies.get_asks, LiveTrees.slot_key, Telling.Gives, Moved.{went, first_begun, first_upto}}
use Rattle.mt_border.specs.Slots.{held_in}
use Rattle.mt_state.proofs.{Stamps.{stamp_of, row_stands, row_written}, Still.{IsFree, IsUnready, still, still_gives}, Reading.{key_of_owner, walk_same}, Confirming.get_of, Bound.get_untold}
use Rattle.mt_state.proofs.Lawful.{get_no_scan, stopped_free}
use Rattle.mt_state.proofs.KeptBack.{look_back}
use Rattle.mt_descent.proofs.Learning.{learns_load}
use Rattle.mt_walks.specs.Walked.{IsWithin}
use Rattle.mt_border.specs.Held as helds
use Rattle.mt_descent.proofs.Rely as descent
use Rattle.mt_operation.specs.declared.walk.Aim.TheVariants as aims
use Rattle.mt_operation.specs.declared.walk.Taken.TheVariants as takens

-- a load is as right by a longer past
pub load_on : (c : Core) (op : Operation) → WalksLoad c.arena (past_of c) op.task.key op.walk → (past : Past) → c.steps ≤ past.steps
    → ((n : ℕ) → past.contents n ≡ contents_at c.tape.entries (content_of c.arena) n) → WalksLoad c.arena past op.task.key op.walk
load_on c op loads past steps same =
    descent.load_longer c.arena (past_of c) past op.task.key op.walk (record { steps = steps; same = λ n from upto. same n }) loads

module _ (c : Core) (now : StateView) (o : ℕ) (is : shown c ≡ now) (h : StateInvariant c) (room : now.steps < 2 ^ 59) (arena : IsArena c.arena.nodes c.arena.trees) (op : Operation) (there : operation_at c.table o ≡ Some op) (at_load : op.walk.phase ≡ Load) where
  loading : IsAtLoad c op
  loading = subst (λ (p : Phase). IsKeptAt p c o op) at_load (h.ops o op there).kept

  abbrev pub load_free : IsFree op.walk.phase
  load_free = subst IsFree (sym at_load) tt

  always : IsOpenOperation c op
  always = (h.ops o op there).always

  begun : 0 < op.walk.first
  begun = always.begun (λ enters. absurd (let no : Load ≡ Enter = sym at_load ∙ enters in cc))

  looks_on : op.walk.aim ≡ aims.Read
  looks_on = subst (λ (p : Phase). IsOfKind p op.walk.aim) at_load always.kind

  gets : is_get (ask op.task) ≡ true
  gets = get_of (ask op.task) op.walk.aim always.aim looks_on

  load_untold : op.outcome ≡ None
  load_untold = get_untold op.outcome c op gets loading.way.bound

  owned_is : owned op.task.key ≡ (op.task.tenant, key_of (ask op.task))
  owned_is = always.owner (get_no_scan (ask op.task) gets)

  key_asked_is : op.task.key ≡ stored_key op.task.tenant (key_of (ask op.task))
  key_asked_is = key_of_owner op.task.key op.task.tenant (key_of (ask op.task)) always.stored owned_is

  walks_load : WalksLoad c.arena (past_of c) op.task.key op.walk
  walks_load = subst (λ (p : Phase). KeptAt p c.arena (past_of c) op.task.key None op.walk) at_load loading.way.kept

  -- there is no memory for the row that it shows
  pub load_stopped : (w : Walk) → w.phase ≡ Done → Continues op.walk w
      → Gives now (still c now o is h room op there load_free w (Some (record { reply = NoMemory; at = c.steps + 1 }))) o true
  load_stopped w done same =
      let told : Option Outcome = Some (record { reply = NoMemory; at = c.steps + 1 }) in
      let new = still c now o is h room op there load_free w told in
      let after = went op (c.steps + 1) w told op.prepared in
      let own : HasAnswer new after = record {
        outcome = record { reply = NoMemory; at = c.steps + 1 };
        told = refl;
        right = record { begun = first_begun c op always w; since = first_upto c op always w; upto = omega arith; placed = λ real plain. absurd (cc); lawful = stopped_free (map_of (shown new) op.task.tenant) (IsWithin after.walk.first after.last) (ask op.task) };
        unprepared = loading.way.unprepared;
      } in
      still_gives c now o is h room op there load_free w told
      (subst (λ (p : Phase). MayFollow p w.phase) (sym at_load) (subst (MayFollow Load) (sym done) tt))
      (subst IsUnready (sym done) tt) same.aim (subst (λ (p : Phase). IsOfKind p w.aim) (sym done) tt)
      (sym (ap told_change load_untold))
      (subst (λ (p : Phase). Notes (shown c) (view_of op) p w.phase told) (sym at_load) (subst (λ (p : Phase). Notes (shown c) (view_of op) Load p told) (sym done) refl))
      (subst (λ (p : Phase). IsKeptAt p new o after) (sym done) own)
      (λ facts. subst (λ (p : Phase). IsBackAt p c.arena after) (sym done) tt) true (sym (ap is_done done))

  module _ (w : Walk) (row : Option Stamped) (told : Option Outcome) (loads : Loads (at c.arena op.walk.place.node) op.walk w row) (shows : ShowsTaken op row w told) (same : Continues op.walk w)
      (kept : (past : Past) → WalksLoad c.arena past op.task.key op.walk → IsKept c.arena past op.task.key row w) where
    abbrev pub node : NodeView
    node = at c.arena op.walk.place.node

    -- where its slot stands
    abbrev pub place : ℕ
    place = walk_place c.arena op.walk

    confirms : w.phase ≡ Confirm
    confirms = ap (λ (x : Walk). x.phase) loads.is

    within : op.walk.place.node < length c.arena.nodes
    within = walks_load.at_border.covers.remembered.there

    -- its tree was no operation's own when the get came to it
    unmade : (q : ℕ) → (tree_of c.arena op.walk.place.node).standing ≢ Made q
    unmade =
        subst (λ t. (q : ℕ) → (tree_at c.arena.trees t).standing ≢ Made q) (sym walks_load.at_border.covers.remembered.tree_is) walks_load.at_border.through.unmade

    -- a pair in the slot stands for a key
    stands : (pair : Pair) → place < length node.slots → pair_of (slot_at node place).held ≡ Some pair
        → (key : Bytes) × (layer : ℕ) × StandsFor c.arena.nodes c.arena.trees key layer op.walk.place.node place pair
    stands pair in_range held =
        let s = slot_key c.arena arena h.deleted op.walk.place.node within unmade place pair in_range held in
        (s.0, layer_of (tree_of c.arena op.walk.place.node).prefix, s.1)

    -- where nobody made a step since the search, a pair in the slot is that of the get's own key
    own_suffix : (held : Held) (pair : Pair) → pair_of held ≡ Some pair → (kind : FoundKind) → kind ≢ OtherLong
        → IsKind (record { slice = (slot_at node place).slice; mark = (slot_at node place).mark; held = held }) (suffix_of op.task.key op.walk.layer) kind
        → pair.suffix ≡ suffix_of op.task.key op.walk.layer
    own_suffix (helds.Stable p) pair e ThisKey leads k = ap (λ (x : Pair). x.suffix) (sym (same_Some p pair e)) ∙ k
    own_suffix (helds.Unstable p tree) pair e ThisKey leads k = ap (λ (x : Pair). x.suffix) (sym (same_Some p pair e)) ∙ k
    own_suffix (helds.Link tree) pair e ThisKey leads k = absurd k
    own_suffix held pair e OtherLong leads k = absurd (leads refl)
    own_suffix (helds.Stable p) pair e ToTree leads k = absurd k.1
    own_suffix (helds.Unstable p tree) pair e ToTree leads k = absurd k.1
    own_suffix (helds.Link tree) pair e ToTree leads k = absurd (cc)

    own_key : (pair : Pair) → place < length node.slots → pair_of (slot_at node place).held ≡ Some pair → op.last ≡ c.steps
        → HasKey (tree_of c.arena op.walk.place.node).prefix op.walk.layer (slot_at node place) op.task.key
    own_key pair in_range held last =
        let f = loading.found last in
        let through = walks_load.at_border.through in
        record {
          of_tree =
              subst (λ t. IsOfTree (tree_at c.arena.trees t).prefix op.walk.layer op.task.key) (sym walks_load.at_border.covers.remembered.tree_is) through.of_tree;
          slice = f.in_slot.slice_is;
          mark = f.in_slot.mark_is;
          suffix = λ p e. own_suffix (slot_at node place).held p e f.kind f.leads f.in_slot.kind_is;
        }

    -- what is noted of a row
    shows_row : (pair : Pair) → held_in node.cells.helds op.walk.slot ≡ helds.Stable pair → row ≡ Some (row_of pair) → w.right_at ≡ max op.walk.first pair.stamp
        → ShowsRow (shown c) (view_of op) told
    shows_row pair is_held is_row is_right =
        let asked = get_asks (ask op.task) gets in
        record {
          columns = asked.0;
          asked = asked.1;
          row = row_of pair;
          number = w.right_at;
          says = shows.some (row_of pair) asked.0 is_row asked.1;
          from = (pair, is_held, refl, is_right);
          since = omega (arith, is_right);
          live = λ in_range.
              let held : pair_of (slot_at node place).held ≡ Some pair = ap pair_of (sym (loads.shown in_range) ∙ is_held) in
              let s = stands pair in_range held in
              let stamp = stamp_of c h.stamps arena s.0 s.1 op.walk.place.node place pair s.2 in
              let now_row = row_stands c h.stamps arena s.0 s.1 op.walk.place.node place pair s.2 in
              record {
                key = owned s.0;
                there = now_row;
                made = omega (arith, is_right, stamp.0, always.order, always.made);
                stood = λ m le. get-tenant_map (owned s.0).0 (contents_at c.tape.entries (content_of c.arena) m) (owned s.0).1
                    ∙ get-contents_at c.tape.entries (content_of c.arena) (owned s.0) pair.stamp m stamp.1 (omega (arith, is_right, le)) ∙ now_row;
                wrote = λ later.
                    let is_stamp : w.right_at ≡ pair.stamp = omega (arith, is_right, later) in
                    let write = stamp.2 (omega (arith, is_stamp, later, always.floor begun)) in
                    (write.0, write.1, write.2 ∙ sym is_stamp, write.3, row_written c h.stamps arena s.0 s.1 op.walk.place.node place pair write.0 s.2 h.tape write.1 write.2 write.3);
                own = λ last.
                    sym (owned_at (tree_of c.arena op.walk.place.node).prefix s.1 (slot_at node place) s.0 pair s.2.has held)
                    ∙ owned_at (tree_of c.arena op.walk.place.node).prefix op.walk.layer (slot_at node place) op.task.key pair (own_key pair in_range held last) held
                    ∙ owned_is;
              };
          dropped = λ gone still. elim (walks_load.found still) [
            | inl l ↦ absurd (gone l.has.in_slot.in_range)
            | inr d ↦
                let had : Had (past_of c) op.walk.first (max op.walk.first pair.stamp) op.task.key (Some (row_of pair)) = subst (IsOfKey c.arena (past_of c) op.task.key op.walk.first op.walk.layer) is_held d.held in
                (omega (arith, had.made, is_right), get-tenant_map op.task.tenant (contents_at c.tape.entries (content_of c.arena) w.right_at) (key_of (ask op.task)) ∙ rw (is_right, ← owned_is) had.had)
          ];
        }

    -- and of none: a link for the key, or somebody made a step since
    link_kind : (held : Held) (tree : ℕ) → held ≡ helds.Link tree → (kind : FoundKind) → kind ≢ OtherLong
        → IsKind (record { slice = (slot_at node place).slice; mark = (slot_at node place).mark; held = held }) (suffix_of op.task.key op.walk.layer) kind
        → kind ≡ ToTree
    link_kind held tree e ToTree leads k = refl
    link_kind held tree e OtherLong leads k = absurd (leads refl)
    link_kind held tree e ThisKey leads k = absurd (subst (λ (x : Held). IsSomeAnd (pair_of x) (λ p. p.suffix ≡ suffix_of op.task.key op.walk.layer)) e k)

    shows_link : (tree : ℕ) → held_in node.cells.helds op.walk.slot ≡ helds.Link tree → told ≡ None → ShowsNone (shown c) (view_of op) told
    shows_link tree is_held none = record {
      none = none;
      why = elim (cases_eq op.last c.steps) [
        | inl last ↦
            let f = loading.found last in
            let held = sym (loads.shown f.in_slot.in_range) ∙ is_held in
            inl (record {
              there = within;
              in_slot = subst (λ (key : Bytes). IsInSlot node op.walk.slot key op.walk.layer ToTree) key_asked_is
                  (subst (IsInSlot node op.walk.slot op.task.key op.walk.layer) (link_kind (slot_at node place).held tree held f.kind f.leads f.in_slot.kind_is) f.in_slot);
            })
        | inr since ↦ inr since
      ];
    }

    shows_nothing : (place < length node.slots → ⊥) → told ≡ None → ShowsNone (shown c) (view_of op) told
    shows_nothing out none = record { none = none; why = inr (λ last. out (loading.found last).in_slot.in_range) }

    noted : (taken : Taken) → TakesOut node op.walk row taken w.right_at → ShowsRow (shown c) (view_of op) told ⊎ ShowsNone (shown c) (view_of op) told
    noted takens.Missing t = absurd t
    noted takens.Row t = inl (shows_row t.0 t.1 t.2 t.3)
    noted (takens.Link tree) t = inr (shows_link tree t.0 (shows.none t.1))
    noted takens.Nothing t = inr (shows_nothing t.0 (shows.none t.2))

    tells : (taken : Taken) (after : Operation) → after.task ≡ op.task → after.outcome ≡ told → after.walk ≡ w
        → TakesOut node op.walk row taken w.right_at → TellsTaken after row taken
    tells takens.Missing after task outcome walk t = absurd t
    tells takens.Row after task outcome walk t =
        let asked = get_asks (ask op.task) gets in (
          row_of t.0,
          asked.0,
          t.2,
          subst (λ (x : Task). columns_asked (ask x) ≡ Some asked.0) (sym task) asked.1,
          outcome ∙ subst (λ (x : Walk). Says told (Found (as_shown asked.0 (row_of t.0))) x.right_at) (sym walk) (shows.some (row_of t.0) asked.0 t.2 asked.1),
        )
    tells (takens.Link tree) after task outcome walk t = outcome ∙ shows.none t.1
    tells takens.Nothing after task outcome walk t = outcome ∙ shows.none t.2

    no_change : (taken : Taken) → TakesOut node op.walk row taken w.right_at → told_change told ≡ None
    no_change takens.Missing t = absurd t
    no_change takens.Row t = let asked = get_asks (ask op.task) gets in ap told_change (shows.some (row_of t.0) asked.0 t.2 asked.1)
    no_change (takens.Link tree) t = ap told_change (shows.none t.1)
    no_change takens.Nothing t = ap told_change (shows.none t.2)

    pub load_taken : Gives now (still c now o is h room op there load_free w told) o false
    load_taken =
        let new = still c now o is h room op there load_free w told in
        let after = went op (c.steps + 1) w told op.prepared in
        let is_walk = walk_same c op always w begun same.first in
        let own : IsAtConfirm new after = record {
          row = row;
          kept =
              subst (λ (x : Walk). IsKept c.arena (past_of new) op.task.key row x) (sym is_walk) (kept (past_of new) (load_on c op walks_load (past_of new) (omega arith) (λ n. refl)));
          tells = subst (λ (x : Walk). TellsTaken after row x.taken) (sym is_walk) (tells w.taken after refl refl is_walk loads.takes);
          unprepared = loading.way.unprepared;
        } in
        still_gives c now o is h room op there load_free w told
        (subst (λ (p : Phase). MayFollow p w.phase) (sym at_load) (subst (MayFollow Load) (sym confirms) tt))
        (subst IsUnready (sym confirms) tt) same.aim (subst (λ (p : Phase). IsOfKind p w.aim) (sym confirms) (same.aim ∙ looks_on))
        (no_change w.taken loads.takes ∙ sym (ap told_change load_untold))
        (subst (λ (p : Phase). Notes (shown c) (view_of op) p w.phase told) (sym at_load) (subst (λ (p : Phase). Notes (shown c) (view_of op) Load p told) (sym confirms) (noted w.taken loads.takes)))
        (subst (λ (p : Phase). IsKeptAt p new o after) (sym confirms) own)
        (λ facts. subst (λ (p : Phase). IsBackAt p c.arena after) (sym confirms) (look_back op.birth c.arena op.walk w after.walk.first facts
        (learns_load c.arena op.walk (past_of c) op.task.key at_load walks_load w row loads) (subst (λ (p : Phase). IsBackAt p c.arena op) at_load (h.remembered o op there).walk)))
        false (sym (ap is_done confirms))
