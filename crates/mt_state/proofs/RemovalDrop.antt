-- The step of a removal that takes its key's pair out: for DropKey.
use Rattle.std.proofs.Common.{◌≡◌, ◌≢◌, ℕ, ◌+◌, ◌-◌, ◌<◌, inl, inr, true, false, cond, length, Option, Some, None, is_some, refl, sym, ap, subst, ◌∙◌, arith}
use Rattle.std.proofs.{lemmas.Bool.{cases_eq, both_ways}, lemmas.Option.{same_Some, none-some}, lemmas.List.Elements.All-from_get_or}
use Rattle.std.specs.{Prelude.{◌^◌}, List.All, Option.option_map, FinMap.{get, len, remove, len-remove}}
use Rattle.mt_rows.specs.{declared.reply.Reply.TheVariants.Removed, declared.tenants.Account.Account, Rows.Bytes, Stamps.Stamped, Commands.key_of}
use Rattle.mt_rows.specs.{Maps.{Map, reply_of, map_after, is_scan}, Accounts.{Accounts, account_of, one_less}, Tenants.{Contents, tenant_map}}
use Rattle.mt_rows.proofs.{ContentLaws.get-tenant_map, CommandLaws.keys_total}
use Rattle.mt_border.specs.{Entries.{without, place_in}, Entry.order_of, Contents.{owned, AllStamped, IsStamped, row_of}}
use Rattle.mt_border.proofs.{Edits.any_entry, ContentsKeys.{owned_at, IsApart}}
use Rattle.mt_tape.specs.{declared.entry.Entry.{Entry as Write}, Tapes.Kept, Histories.with_row}
use Rattle.mt_tape.proofs.TapeLaws.{get-with_row_same, tenant_map-with_row, tenant_map-with_row_other}
use Rattle.mt_arena.specs.{NodeView.NodeView, Layers.slot_at, Forests.layer_of, Contents.counts, Edits.{with_slots, cells_without}, Arena.{ArenaView, IsArena, content_of}}
use Rattle.mt_arena.specs.{Accesses.{at, tree_of}, Ways.StandsFor}
use Rattle.mt_arena.proofs.{Owners.found, Steps.keys_of}
use Rattle.mt_operation.specs.{declared.phase.Phase.Phase, declared.phase.Phase.TheVariants.{DropKey, LockPrev, Unlock, Enter}, declared.walk.Walk.Walk}
use Rattle.mt_operation.specs.{declared.removal.Removal.Removal, declared.outcome.Outcome.Outcome, declared.operation.Operation.Operation, Tasks.ask}
use Rattle.mt_operation.specs.{Operations.{view_of, IsUnsplit}, Phases.{is_done, MayFollow, IsOfKind, has_splits, row}, Tables.{op_at as operation_at}}
use Rattle.mt_operation.proofs.Phases.{IsBehindBy}
use Rattle.mt_descent.specs.KeptWalks.{walk_place}
use Rattle.mt_held.specs.{Taping.pushed, Holds.HoldsOnly}
use Rattle.mt_remove.{specs.{Writes.removal_over, KeptRemovals.KeptRemoval, DropKey.IsDropKey}, proofs.GoingOn.emptied_either}
use Rattle.mt_state.specs.{Views.{Core, shown, granted_in, quota_of}, Notes.Notes, Touches.Touches}
use Rattle.mt_state.specs.KeptOperations.{IsOpenOperation, IsDropping, IsKeptOf, IsKeptAt, HasAnswer, IsPlacedOnce}
use Rattle.mt_state.specs.{Invariant.{IsStampOf, AreStamps, StateInvariant, DeletedAreEmpty}, Writes.removing}
use Rattle.mt_state.proofs.{Telling.{Gives, gives}, Moved.{went_on, first_begun, first_upto, open_moved_on, has_moved_on}, Still.{floor_made, unready_none}}
use Rattle.mt_state.proofs.{Reading.walk_same, OneNode.{counted_live, holds_here, replaced_touches}, Locking.{ready_one, room_for}, Replies.remove_there, Writing.{row_left_remove, change_kept_remove, remove_meets}}
use Rattle.mt_state.proofs.{LiveTrees.slot_lives, Placing.{Counts, IsWriteOf, placed_by, Places, beside_write, wrote_move, wrote_right, is_writing, wrote_once}}
use Rattle.mt_state.proofs.{Putting.stamped_apart, Growing.{retires_same, changes_on}, RemovalNodes.{LeavesNodes, one_leaves, slots_removed, stood, versions, removal_takes}}
use Rattle.mt_state.proofs.RemovalSteps.{HasRemoval, has_removal, removal_back, removal_kept, removal_held, removal_kind, removal_open, removal_unready}
use Rattle.mt_state.proofs.Lawful.{remove_no_scan}
use Rattle.mt_arena.proofs.Homes as homes

-- one pair less leaves the quota, and the account there
quota_less : (a : Option Account) → granted_in (option_map one_less a) ≡ granted_in a
quota_less None = refl
quota_less (Some account) = refl

some_less : (a : Option Account) → is_some (option_map one_less a) ≡ is_some a
some_less None = refl
some_less (Some account) = refl

one_more_of : (was : Option Account) (a : Account) → option_map one_less was ≡ Some a → (b : Account) × (was ≡ Some b) × (one_less b ≡ a)
one_more_of None a e = absurd (cc)
one_more_of (Some b) a e = (b, refl, same_Some _ _ e)

-- a map without a key that was there
len_without : (m : Map) (key : Bytes) (row : Stamped) → get m key ≡ Some row → len (remove m key) ≡ len m - 1
len_without m key row is = len-remove keys_total m key ∙ ap (λ (o : Option Stamped). cond (is_some o) (len m - 1) (len m)) is

module _ (c : Core) (o : ℕ) (h : StateInvariant c) (few : c.steps < 2 ^ 59) (op : Operation) (there : operation_at c.table o ≡ Some op) (at_drop : op.walk.phase ≡ DropKey) (is_arena : IsArena c.arena.nodes c.arena.trees)
    (arena : ArenaView) (arena_is : IsArena arena.nodes arena.trees) (tape : Kept) (accounts : Accounts) (w : Walk) (r : Removal) (t : IsDropKey o (c.steps + 1) op.task c.arena arena c.tape tape c.accounts accounts op.walk w op.removal r) where
  abbrev k : ℕ
  k = op.walk.place.node

  abbrev n : NodeView
  n = at c.arena op.walk.place.node

  abbrev key : ℕ × Bytes
  key = owned op.task.key

  abbrev write : Write
  write = removal_over op.task t.row (c.steps + 1)

  always : IsOpenOperation c op
  always = (h.ops o op there).always

  dropping : IsDropping c o op
  dropping = subst (λ (p : Phase). IsKeptAt p c o op) at_drop (h.ops o op there).kept

  plain : is_scan (ask op.task) ≡ false
  plain = remove_no_scan (ask op.task) dropping.removes

  unsplit : IsUnsplit op.splits
  unsplit = (h.ops o op there).unsplit (ap has_splits at_drop)

  -- one node has another slots
  leaves : LeavesNodes o c.arena arena
  leaves = subst (LeavesNodes o c.arena) (sym t.is) (one_leaves o c.arena h.deleted k (with_slots n (without n.slots (slot_at n (walk_place c.arena op.walk))) (cells_without n.cells (walk_place c.arena op.walk))) (record {
    slots = slots_removed n (with_slots n (without n.slots (slot_at n (walk_place c.arena op.walk))) (cells_without n.cells (walk_place c.arena op.walk))) (place_in n.slots (order_of (slot_at n (walk_place c.arena op.walk)))) refl;
    tree = refl;
    gone = λ gone. gone;
    emptied = λ gone. absurd (both_ways _ dropping.drops.holds.judged.stands.live gone);
    inserts = refl;
    splits = refl;
    taken = λ held. inl dropping.drops.holds.judged.held.holder;
  }))

  deleted : DeletedAreEmpty arena
  deleted j inside gone = (leaves.each j (let count = leaves.count in omega (arith, inside, count))).emptied gone

  writes : IsWriteOf c op write
  writes = record {
    step = refl;
    worker = refl;
    tenant = refl;
    key = refl;
    owner = always.owner plain;
    before = sym t.places.was_there;
    leaves = sym (row_left_remove (c.steps + 1) op.task.request dropping.removes (Some t.row));
    keeps = sym (change_kept_remove op.task.request dropping.removes (Some t.row));
    was = λ removes. refl;
  }

  -- no pair is left of the key
  gone : get (content_of arena) key ≡ None
  gone = ap (λ (all : Contents). get all key) (t.places.contents ∙ ap (λ q. with_row (content_of c.arena) q None) (sym (always.owner plain))) ∙ get-with_row_same (content_of c.arena) key None

  apart : (j : ℕ) → j < length arena.nodes → counts arena.trees (at arena j) ≡ true → All (IsApart (tree_of arena j).prefix key) (at arena j).slots
  apart j inside counted = All-from_get_or (IsApart (tree_of arena j).prefix key) (at arena j).slots any_entry (λ i in_range pair held same.
      let own = (keys_of arena.nodes arena.trees j inside arena_is.forest).keys i any_entry in_range in
      let live = slot_lives arena deleted j inside i in_range in
      let stands : StandsFor arena.nodes arena.trees own.0 (layer_of (tree_of arena j).prefix) j i pair =
      record { there = inside; live = live; tree_live = counted_live arena.trees (at arena j) counted; in_range = in_range; has = own.1; pair_is = held } in
      let row = found arena.nodes arena.trees arena_is (homes.begun arena.nodes arena.trees arena_is.forest) own.0 (layer_of (tree_of arena j).prefix) j i pair stands in
      none-some (row_of pair) (sym gone ∙ ap (get (content_of arena)) (sym (sym (owned_at (tree_of arena j).prefix (layer_of (tree_of arena j).prefix) (slot_at (at arena j) i) own.0 pair own.1 held) ∙ same)) ∙ row))

  abbrev told : Option Outcome
  told = Some (record { reply = Removed; at = c.steps + 1 })

  abbrev after : Operation
  after = went_on op (c.steps + 1) w told None op.splits r

  abbrev new : Core
  new = placed_by c arena accounts o write after

  -- each pair that is left has the stamp that it had
  stamps : AreStamps new
  stamps j inside counted =
      let was = stood c o h arena leaves j inside counted in
      let weaker = beside_write c op h write writes in
      stamped_apart (IsStampOf c.steps c.tape) (IsStampOf (c.steps + 1) (pushed c.tape write)) (tree_of arena j).prefix key (at arena j).slots weaker (apart j inside counted)
      (subst (λ prefix. AllStamped (IsStampOf c.steps c.tape) prefix (at arena j).slots) (sym was.prefix)
      (All-from_get_or (IsStamped (IsStampOf c.steps c.tape) (tree_of c.arena j).prefix) (at arena j).slots any_entry (λ i in_range.
      let s = was.slots i in_range in
      subst (IsStamped (IsStampOf c.steps c.tape) (tree_of c.arena j).prefix) (sym s.2) (h.stamps j was.there was.counted s.0 any_entry s.1))))

  -- the tenant has one pair less, and all others as many
  contents_are : content_of arena ≡ with_row (content_of c.arena) (op.task.tenant, key_of (ask op.task)) None
  contents_are = t.places.contents

  row_there : get (tenant_map op.task.tenant (content_of c.arena)) (key_of (ask op.task)) ≡ Some t.row
  row_there = get-tenant_map op.task.tenant (content_of c.arena) (key_of (ask op.task)) ∙ ap (get (content_of c.arena)) (sym (always.owner plain)) ∙ t.places.was_there

  own_less : len (tenant_map op.task.tenant (content_of arena)) ≡ len (tenant_map op.task.tenant (content_of c.arena)) - 1
  own_less = ap (λ all. len (tenant_map op.task.tenant all)) contents_are ∙ ap len (tenant_map-with_row op.task.tenant (content_of c.arena) (key_of (ask op.task)) None)
      ∙ len_without (tenant_map op.task.tenant (content_of c.arena)) (key_of (ask op.task)) t.row row_there

  others_same : (u : ℕ) → u ≢ op.task.tenant → len (tenant_map u (content_of arena)) ≡ len (tenant_map u (content_of c.arena))
  others_same u other = ap (λ all. len (tenant_map u all)) contents_are
      ∙ ap len (tenant_map-with_row_other u op.task.tenant (content_of c.arena) (key_of (ask op.task)) None (λ same. other (sym same)))

  counts_less : Counts c accounts (content_of arena)
  counts_less = record {
    quotas = λ u. elim (cases_eq u op.task.tenant) [
      | inl same ↦ ap (λ x. granted_in (account_of accounts x)) same ∙ ap granted_in t.count ∙ quota_less (account_of c.accounts op.task.tenant) ∙ ap (λ x. granted_in (account_of c.accounts x)) (sym same)
      | inr other ↦ ap granted_in (t.others u other)
    ];
    there = λ u some. elim (cases_eq u op.task.tenant) [
      | inl same ↦ ap (λ x. is_some (account_of accounts x)) same ∙ ap is_some t.count ∙ some_less (account_of c.accounts op.task.tenant) ∙ ap (λ x. is_some (account_of c.accounts x)) (sym same) ∙ some
      | inr other ↦ ap is_some (t.others u other) ∙ some
    ];
    counted = λ u a is. elim (cases_eq u op.task.tenant) [
      | inl same ↦
          let old = one_more_of (account_of c.accounts op.task.tenant) a (sym t.count ∙ ap (account_of accounts) (sym same) ∙ is) in
          let was = h.counts op.task.tenant old.0 old.1 in
          let here = ap (λ x. len (tenant_map x (content_of arena))) same in
          let less = own_less in
          let now = ap (λ (x : Account). x.count) old.2 in
          (omega (arith, here, less, was.0, now), omega (arith, was.1, now, ap (λ (x : Account). x.quota) old.2))
      | inr other ↦ let was = h.counts u a (sym (t.others u other) ∙ is) in (was.0 ∙ sym (others_same u other), was.1)
    ];
  }

  places : Places c o write after arena accounts
  places = record {
    changes = changes_on c o arena leaves.count leaves.trees t.guarantee (retires_same c arena h.late (ap (λ (v : ArenaView). v.retired) t.is));
    contents = t.places.contents;
    stamps = stamps;
    versions = versions c o h arena leaves;
    deleted = deleted;
    taken_out = retires_same c arena h.late (ap (λ (v : ArenaView). v.retired) t.is);
    takes = removal_takes c o h arena leaves;
    counts = counts_less;
  }

  replies : (Removed ≡ reply_of (quota_of (shown c) op.task.tenant) (ask op.task) (tenant_map op.task.tenant (content_of c.arena)))
      × (map_after (quota_of (shown c) op.task.tenant) (c.steps + 1) (ask op.task) (tenant_map op.task.tenant (content_of c.arena)) ≡ remove (tenant_map op.task.tenant (content_of c.arena)) (key_of (ask op.task)))
  replies = remove_there (quota_of (shown c) op.task.tenant) (c.steps + 1) op.task.request (tenant_map op.task.tenant (content_of c.arena)) t.row dropping.removes row_there

  begun : 0 < op.walk.first
  begun = always.begun (λ enters. absurd (let no : DropKey ≡ Enter = sym at_drop ∙ enters in cc))

  leads : HasRemoval w.phase
  leads = has_removal w.phase arena o op.task.key w r t.kept

  whole : after.walk ≡ w
  whole = walk_same c op always w begun t.same.first

  follows : MayFollow DropKey w.phase
  follows = elim (emptied_either arena op.walk w op.removal r t.goes) [
    | inl at ↦ subst (MayFollow DropKey) (sym at) tt
    | inr at ↦ subst (MayFollow DropKey) (sym at) tt
  ]

  answer : HasAnswer new after
  answer = record {
    outcome = record { reply = Removed; at = c.steps + 1 };
    told = refl;
    right = wrote_right c o op after arena accounts h write writes places Removed refl replies.0 replies.1 (first_begun c op always w) (first_upto c op always w) refl refl;
    unprepared = refl;
  }

  kept : IsKeptOf new o after
  kept = record {
    always = open_moved_on c op always w new told None op.splits r (λ puts. absurd (both_ways _ puts dropping.removes)) refl refl counts_less.there (floor_made c h.tape) t.same.aim
        (removal_kind w.phase leads w.aim (t.same.aim ∙ subst (λ (p : Phase). IsOfKind p op.walk.aim) at_drop always.kind));
    kept = removal_kept w.phase new o after dropping.removes unsplit (subst (λ (x : Walk). KeptRemoval w.phase arena o op.task.key x r) (sym whole) t.kept) answer;
    unsplit = λ none. unsplit;
    placed = λ m is. subst (IsPlacedOnce new after) (same_Some (c.steps + 1) m is) (wrote_once c o op after arena accounts h write writes places (remove_meets op.task.request dropping.removes t.row.stamp) refl);
  }

  holds_only : HoldsOnly c.arena o k
  holds_only j inside holds = holds_here c (shown c) o refl h few op there DropKey at_drop j inside holds

  notes : (q : Phase) → Notes (shown c) (view_of op) DropKey q told
  notes q = refl

  dropped : Gives (shown c) new o false
  dropped = gives (shown c) c new o op after refl h few
      (wrote_move c o op after arena accounts h write writes places (record {
        there = there;
        unfinished = ap is_done at_drop;
        task = refl;
        scan = refl;
        held = λ j inside holds. removal_held w.phase (behind w.phase follows) after j unsplit.halves (inl (t.holds holds_only j inside holds));
        kept = kept;
        back = record {
          birth = refl;
          walk = λ facts. removal_back w.phase leads arena after;
          cleans = λ facts u is. (h.remembered o op there).cleans u (ap (λ (x : Removal). x.cleans) (sym t.goes.removal) ∙ is);
        };
        reserved =
            let one = ready_one op DropKey at_drop refl in
            let no = unready_none after w.phase refl (removal_unready w.phase leads) in
            let some = room_for c h o op DropKey there at_drop refl in
            omega (arith, one, no, some);
      }))
      (record {
        logs = refl;
        moves = has_moved_on c op always w told None op.splits r (subst (λ (p : Phase). MayFollow p w.phase) (sym at_drop) follows);
        notes = subst (λ (p : Phase). Notes (shown c) (view_of op) p w.phase told) (sym at_drop) (notes w.phase);
        touches = subst (Touches (view_of op) o c.arena) (sym t.is) (replaced_touches c.arena k dropping.drops.holds.judged.held.there (with_slots n (without n.slots (slot_at n (walk_place c.arena op.walk))) (cells_without n.cells (walk_place c.arena op.walk))) (view_of op) o (inl dropping.drops.holds.judged.held.holder));
        effect = inr (is_writing c o op after arena accounts h write writes places Removed refl replies.0 replies.1 refl);
        makes =
            let count = leaves.count in
            let trees = leaves.trees in
            record { nodes_stay = omega (arith, count); one_node = omega (arith, count); trees_stay = omega (arith, trees); one_tree = omega (arith, trees) };
      })
      false (sym (removal_open w.phase leads))
    where
      behind : (q : Phase) → MayFollow DropKey q → IsBehindBy (row q).kind
      behind LockPrev follows = tt
      behind Unlock follows = tt
      behind _ follows = absurd follows

  pub drop_done : Gives (shown c) (removing c arena tape accounts o op w told None r) o false
  drop_done = subst (λ (x : Kept). Gives (shown c) (removing c arena x accounts o op w told None r) o false) (sym t.places.tape_is) dropped
