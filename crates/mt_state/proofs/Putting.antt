-- The steps that place a put: it stores a row over the one of its key, or makes a new pair live.
use Rattle.std.proofs.Common.{◌≡◌, ◌≢◌, ℕ, ◌+◌, ◌<◌, inl, inr, Bool, true, false, cond, List, length, set, Option, Some, None, is_some, refl, sym, ap, subst, ◌∙◌, arith, Bool}
use Rattle.std.proofs.{lemmas.Bool.{cases_eq, both_ways}, lemmas.Option.{none-some, same_Some}, lemmas.List.{length-set, Elements.All-from_get_or}}
use Rattle.std.specs.{Prelude.{◌^◌}, Option.option_map, List.All, FinMap.{get, len, insert}}
use Rattle.mt_slices.specs.Slices.{suffix_of}
use Rattle.mt_rows.specs.{declared.reply.Reply.Reply, declared.reply.Reply.TheVariants.{New, Replaced}, declared.tenants.Account.Account, Rows.{Bytes, Columns}, Stamps.{Stamped, stamp_in}}
use Rattle.mt_rows.specs.{Commands.key_of, Maps.{is_change, reply_of, map_after}, Accounts.{Accounts, account_of, HasRoom, one_more, OthersStay}}
use Rattle.mt_rows.specs.Tenants.{Contents, tenant_map}
use Rattle.mt_rows.proofs.ContentLaws.{get-tenant_map}
use Rattle.mt_border.specs.{Held.Pair, declared.entry.Entry.Entry, Held.Stable, Entry.{pair_of, order_of}}
use Rattle.mt_border.specs.{Entries.{IsBorder, replaced, with_entry, place_in}, Contents.{owned, AreKeys, AllStamped, row_of}}
use Rattle.mt_border.specs.Slots.{Slotted}
use Rattle.mt_border.proofs.{Edits.{any_entry, replaced_at as set_at}, ContentsKeys.{IsApart, owned_at}, ContentsMaps.{len_new, len_there, len_other}}
use Rattle.mt_border.proofs.ContentsStamps.{stamped_store, stamped_publish}
use Rattle.mt_tape.specs.Tapes.{Kept}
use Rattle.mt_arena.specs.{NodeView.NodeView, Forests.{tree_at, layer_of}, Layers.slot_at, Ways.StandsFor, Contents.counts, Edits.{with_slots, cells_holding, cells_with}}
use Rattle.mt_arena.specs.{Arena.{ArenaView, IsArena, content_of, Guarantee}, Accesses.{at, tree_of, with_node, with_row}}
use Rattle.mt_arena.proofs.{Elsewhere.stands_once, Steps.keys_of}
use Rattle.mt_operation.specs.{declared.phase.Phase.Phase, declared.phase.Phase.TheVariants.{Enter, Store, Publish, Unlock}, declared.walk.Walk.Walk}
use Rattle.mt_operation.specs.{declared.splits.Halves.Halves, declared.operation.Operation.Operation, Tasks.ask, Operations.view_of}
use Rattle.mt_operation.specs.{Phases.{is_done, MayFollow, IsOfKind, has_splits, is_prepared}, Tables.{op_at as operation_at}}
use Rattle.mt_descent.specs.{KeptWalks.walk_place, WalkMoves.Continues}
use Rattle.mt_insert.{specs.{Puts.{IsPut, MeetsStamp}, Placing.entry_of, Store.IsStore, Publish.IsPublish}, proofs.Places.may_publish}
use Rattle.mt_held.{specs.{Holds.{HoldsBy, IsAtUnlock}, Moves.walk_placed, Taping.pushed}, proofs.Places.may_store}
use Rattle.mt_state.specs.{Views.{StateView, Core, shown, quota_of, quota_in, granted_in}, Notes.Notes}
use Rattle.mt_state.specs.KeptOperations.{IsOpenOperation, IsStoring, IsPublishing, MayUnlock, IsUnlocking, IsKeptAt, IsPlacedOnce, IsKeptOf, MayUnlockUnsplit}
use Rattle.mt_state.specs.{Invariant.{IsStampOf, HoldsLast, HoldsAt, StateInvariant}, KeptBack.IsBackAt}
use Rattle.mt_state.proofs.{Replies.{put_there, put_new}, Telling.{Gives, gives}}
use Rattle.mt_state.proofs.Placing.{Counts, next_write, put_over, placed, PlacesPair, untouched_beside, untouched_now, placed_move, placed_right, is_placing, placed_once}
use Rattle.mt_state.proofs.{Moved.{went, first_begun, first_upto, open_moved, has_moved}, Still.{floor_made, unready_none}, Reading.{key_of_owner, walk_same}}
use Rattle.mt_state.proofs.Stamps.{row_stands}
use Rattle.mt_state.proofs.OneNode.{stepped, counted_live, replaced_at, replaced_holds, replaced_versions, replaced_touches, few_steps, holds_here, replaced_deleted, replaced_takes}
use Rattle.mt_state.proofs.{Locking.{ready_one, room_for}, Growing.{makes_set, retires_same, changes_on}, LiveTrees.slot_lives, Bound.put_no_remove}
use Rattle.mt_arena.proofs.Homes as homes
use Rattle.mt_operation.specs.declared.walk.Aim.TheVariants as aims

-- one pair more leaves the quota, and the account there
quota_more : (a : Option Account) → granted_in (option_map one_more a) ≡ granted_in a
quota_more None = refl
quota_more (Some account) = refl

some_more : (a : Option Account) → is_some (option_map one_more a) ≡ is_some a
some_more None = refl
some_more (Some account) = refl

one_less_of : (was : Option Account) (a : Account) → option_map one_more was ≡ Some a → (b : Account) × (was ≡ Some b) × (one_more b ≡ a)
one_less_of None a e = absurd (cc)
one_less_of (Some b) a e = (b, refl, same_Some _ _ e)

-- there is room where fewer pairs are than the quota
pub room_left : (account : Option Account) (count : ℕ) → HasRoom account → ((a : Account) → account ≡ Some a → a.count ≡ count) → count < quota_in account
room_left None count room is = absurd room
room_left (Some a) count room is = omega (arith, room, is a refl)

-- what holds of all owned keys and stamps, in a node that has no pair of the one key for which it may not
pub stamped_apart : (P Q : ℕ × Bytes → ℕ → Type 0) (prefix : Bytes) (q : ℕ × Bytes) (entries : List Entry)
    → ((r : ℕ × Bytes) (s : ℕ) → r ≢ q → P r s → Q r s) → All (IsApart prefix q) entries → AllStamped P prefix entries → AllStamped Q prefix entries
stamped_apart P Q prefix q entries weaker apart stamped k d inside pair is = weaker _ _ (apart k d inside pair is) (stamped k d inside pair is)

-- the slots of a border node with another row in one of them
module _ (n : NodeView) (slot : ℕ) (pair : Pair) (row : Columns) (stamp : ℕ) (border : IsBorder n.slots) (live : slot < length n.slots) where
  abbrev e : Entry
  e = with_row (slot_at n slot) pair row stamp

  pub row_set : replaced n.slots e ≡ set n.slots slot e
  row_set = set_at n.slots slot e any_entry border.rising live refl

module _ (c : Core) (now : StateView) (o : ℕ) (is : shown c ≡ now) (h : StateInvariant c) (room : now.steps < 2 ^ 59) (op : Operation) (there : operation_at c.table o ≡ Some op) (put : IsPut op.task) where
  abbrev k : ℕ
  k = op.walk.place.node

  abbrev n : NodeView
  n = at c.arena op.walk.place.node

  always : IsOpenOperation c op
  always = (h.ops o op there).always

  abbrev key : ℕ × Bytes
  key = owned op.task.key

  module _ (arena_is : IsArena c.arena.nodes c.arena.trees) where
    -- where no pair of a node that counts stands for the put's key, its entries are apart from it
    pub apart_in : (l : ℕ) → l < length c.arena.nodes → counts c.arena.trees (at c.arena l) ≡ true
        → ((q : Bytes) (layer i : ℕ) (pair : Pair) → StandsFor c.arena.nodes c.arena.trees q layer l i pair → owned q ≢ key)
        → All (IsApart (tree_of c.arena l).prefix key) (at c.arena l).slots
    apart_in l inside counted never = All-from_get_or (IsApart (tree_of c.arena l).prefix key) (at c.arena l).slots any_entry (λ i within pair held same.
        let own = (keys_of c.arena.nodes c.arena.trees l inside arena_is.forest).keys i any_entry within in
        let stands : StandsFor c.arena.nodes c.arena.trees own.0 (layer_of (tree_of c.arena l).prefix) l i pair =
        record { there = inside; live = slot_lives c.arena h.deleted l inside i within; tree_live = counted_live c.arena.trees (at c.arena l) counted; in_range = within; has = own.1; pair_is = held } in
        never own.0 (layer_of (tree_of c.arena l).prefix) i pair stands (sym (owned_at (tree_of c.arena l).prefix (layer_of (tree_of c.arena l).prefix) (slot_at (at c.arena l) i) own.0 pair own.1 held) ∙ same))

    -- no other node has the pair of a key that stands in a slot
    pub beside_stored : (slot : ℕ) (pair : Pair) → StandsFor c.arena.nodes c.arena.trees op.task.key (layer_of (tree_of c.arena k).prefix) k slot pair
        → (l : ℕ) → l < length c.arena.nodes → l ≢ k → counts c.arena.trees (at c.arena l) ≡ true
        → All (IsApart (tree_of c.arena l).prefix key) (at c.arena l).slots
    beside_stored slot pair here l inside differ counted = apart_in l inside counted (λ q layer i other also same.
        let one : q ≡ op.task.key = key_of_owner q op.task.tenant (key_of (ask op.task)) also.has.of_tree.stored (same ∙ put.owner) ∙ sym (key_of_owner op.task.key op.task.tenant (key_of (ask op.task)) always.stored put.owner) in
        differ (sym (stands_once c.arena.nodes c.arena.trees arena_is (homes.begun c.arena.nodes c.arena.trees arena_is.forest) op.task.key (layer_of (tree_of c.arena k).prefix) k slot pair layer l i other here
        (subst (λ x. StandsFor c.arena.nodes c.arena.trees x layer l i other) one also)).0))

    -- nor of one that the contents miss
    pub beside_missing : get (content_of c.arena) key ≡ None → (l : ℕ) → l < length c.arena.nodes → counts c.arena.trees (at c.arena l) ≡ true
        → All (IsApart (tree_of c.arena l).prefix key) (at c.arena l).slots
    beside_missing missing l inside counted =
        apart_in l inside counted (λ q layer i other also same. none-some (row_of other) (sym missing ∙ ap (get (content_of c.arena)) (sym same) ∙ row_stands c h.stamps arena_is q layer l i other also))

  -- how many pairs each tenant has once the put's row is inserted at its key
  more_at : (all : Contents) (row : Stamped) → all ≡ insert (content_of c.arena) (op.task.tenant, key_of (ask op.task)) row → (t : ℕ)
      → len (tenant_map t all) ≡ len (tenant_map t (insert (content_of c.arena) (op.task.tenant, key_of (ask op.task)) row))
  more_at all row e t = ap (λ x. len (tenant_map t x)) e

  -- the counts after a put over a row
  pub counted_there : (all : Contents) (row before : Stamped) → all ≡ insert (content_of c.arena) (op.task.tenant, key_of (ask op.task)) row
      → get (content_of c.arena) key ≡ Some before → Counts c c.accounts all
  counted_there all row before e was_there = record {
    quotas = λ t. refl;
    there = λ t some. some;
    counted = λ t a e_at.
        let was = h.counts t a e_at in (
          was.0 ∙ sym (more_at all row e t ∙ elim (cases_eq t op.task.tenant) [
            | inl same ↦ ap (λ u. len (tenant_map u (insert (content_of c.arena) (op.task.tenant, key_of (ask op.task)) row))) same
                ∙ len_there op.task.tenant (key_of (ask op.task)) (content_of c.arena) before row (ap (get (content_of c.arena)) (sym put.owner) ∙ was_there)
                ∙ ap (λ u. len (tenant_map u (content_of c.arena))) (sym same)
            | inr other ↦ len_other t op.task.tenant (key_of (ask op.task)) (content_of c.arena) row (λ u. other (sym u))
          ]),
          was.1,
        );
  }

  -- and after a put of a new key
  pub counted_new : (accounts : Accounts) (all : Contents) (row : Stamped)
      → all ≡ insert (content_of c.arena) (op.task.tenant, key_of (ask op.task)) row → get (content_of c.arena) key ≡ None
      → HasRoom (account_of c.accounts op.task.tenant)
      → account_of accounts op.task.tenant ≡ option_map one_more (account_of c.accounts op.task.tenant)
      → OthersStay c.accounts accounts op.task.tenant → Counts c accounts all
  counted_new accounts all row e none has_room more others = record {
    quotas = λ t. elim (cases_eq t op.task.tenant) [
      | inl same ↦ ap (λ u. granted_in (account_of accounts u)) same ∙ ap granted_in more ∙ quota_more (account_of c.accounts op.task.tenant) ∙ ap (λ u. granted_in (account_of c.accounts u)) (sym same)
      | inr other ↦ ap granted_in (others t other)
    ];
    there = λ t some. elim (cases_eq t op.task.tenant) [
      | inl same ↦ ap (λ u. is_some (account_of accounts u)) same ∙ ap is_some more ∙ some_more (account_of c.accounts op.task.tenant) ∙ ap (λ u. is_some (account_of c.accounts u)) (sym same) ∙ some
      | inr other ↦ ap is_some (others t other) ∙ some
    ];
    counted = λ t a e_at.
        let now_len = more_at all row e t in
        elim (cases_eq t op.task.tenant) [
          | inl same ↦
              let old = one_less_of (account_of c.accounts op.task.tenant) a (sym more ∙ ap (account_of accounts) (sym same) ∙ e_at) in
              let was = h.counts op.task.tenant old.0 old.1 in
              let grown = len_new op.task.tenant (key_of (ask op.task)) (content_of c.arena) row (ap (get (content_of c.arena)) (sym put.owner) ∙ none) in
              let less_old = subst HasRoom old.1 has_room in
              let here = ap (λ u. len (tenant_map u (insert (content_of c.arena) (op.task.tenant, key_of (ask op.task)) row))) same in
              (omega (arith, now_len, here, grown, was.0, ap (λ (x : Account). x.count) old.2), omega (arith, less_old, ap (λ (x : Account). x.count) old.2, ap (λ (x : Account). x.quota) old.2))
          | inr other ↦
              let was = h.counts t a (sym (others t other) ∙ e_at) in
              (was.0 ∙ sym (now_len ∙ len_other t op.task.tenant (key_of (ask op.task)) (content_of c.arena) row (λ u. other (sym u))), was.1)
        ];
  }

  -- the operation's node with other slots, in these cells, which have the stamps that they should have
  module _ (slots : List Entry) (cells : Slotted) (accounts : Accounts) (w : Walk) (reply : Reply) where
    abbrev y : NodeView
    y = with_slots n slots cells

    abbrev the_arena : ArenaView
    the_arena = with_node c.arena k y

    abbrev the_after : Operation
    the_after = went op (c.steps + 1) w (Some (record { reply = reply; at = c.steps + 1 })) None

    abbrev the_new : Core
    the_new = placed c the_arena accounts o op the_after

    abbrev the_row : Stamped
    the_row = put_over c op (get (content_of c.arena) key)

    module _ (within : k < length c.arena.nodes) (lives : n.version.deleted ≡ false) (beside : (l : ℕ) → l < length c.arena.nodes → l ≢ k → counts c.arena.trees (at c.arena l) ≡ true → All (IsApart (tree_of c.arena l).prefix key) (at c.arena l).slots) (guarantee : Guarantee o c.arena the_arena)
        (contents : content_of the_arena ≡ insert (content_of c.arena) (op.task.tenant, key_of (ask op.task)) the_row) (counted : Counts c accounts (content_of the_arena))
        (stamps : AllStamped (IsStampOf c.steps c.tape) (tree_of c.arena k).prefix n.slots → AllStamped (IsStampOf (c.steps + 1) (pushed c.tape (next_write c op))) (tree_of c.arena k).prefix slots) where
      places_pair : PlacesPair c o op the_after the_arena accounts
      places_pair = record {
        changes = changes_on c o (with_node c.arena k y) (length-set c.arena.nodes k y) refl guarantee (retires_same c (with_node c.arena k y) h.late refl);
        contents = contents;
        stamps = λ j inside is_counted.
            let r = replaced_at c.arena k within y j inside in
            elim r.1 [
              | inl same ↦ subst (λ (m : NodeView). AllStamped (IsStampOf (c.steps + 1) (pushed c.tape (next_write c op))) (tree_at c.arena.trees m.tree).prefix m.slots) (sym same.1)
                  (stamps (h.stamps k within (ap (counts c.arena.trees) (sym same.1) ∙ is_counted)))
              | inr other ↦
                  let counted_there : counts c.arena.trees (at c.arena j) ≡ true = ap (counts c.arena.trees) (sym other.1) ∙ is_counted in
                  subst (λ (m : NodeView). AllStamped (IsStampOf (c.steps + 1) (pushed c.tape (next_write c op))) (tree_at c.arena.trees m.tree).prefix m.slots) (sym other.1)
                  (stamped_apart (IsStampOf c.steps c.tape) (IsStampOf (c.steps + 1) (pushed c.tape (next_write c op))) (tree_of c.arena j).prefix key (at c.arena j).slots
                  (untouched_beside c op h put) (beside j r.0 other.0 counted_there) (h.stamps j r.0 counted_there))
            ];
        versions =
            replaced_versions c o h k within y (let was = h.versions k within in record { inserts = omega (arith, was.inserts); splits = omega (arith, was.splits) });
        deleted = replaced_deleted c.arena k within y h.deleted (λ gone. absurd (both_ways _ lives gone));
        taken_out = retires_same c (with_node c.arena k y) h.late refl;
        takes = replaced_takes c.arena k within y o (λ held. inl held);
        counts = counted;
      }

      -- a step that places the put's row
      placed_gives : (changes : is_change reply ≡ true)
          → (told : reply ≡ reply_of (quota_of (shown c) op.task.tenant) (ask op.task) (tenant_map op.task.tenant (content_of c.arena)))
          → (makes : map_after (quota_of (shown c) op.task.tenant) (c.steps + 1) (ask op.task) (tenant_map op.task.tenant (content_of c.arena)) ≡ insert (tenant_map op.task.tenant (content_of c.arena)) (key_of (ask op.task)) the_row)
          → MeetsStamp (ask op.task) (stamp_in (get (content_of c.arena) key))
          → (p : Phase) → op.walk.phase ≡ p → is_prepared p ≡ true → is_done p ≡ false → has_splits p ≡ false
          → ((j : ℕ) → HoldsAt p op j → j ≡ k) → p ≢ Enter → MayFollow p Unlock → op.walk.aim ≡ aims.Write
          → Notes (shown c) (view_of op) p Unlock (Some (record { reply = reply; at = c.steps + 1 }))
          → w ≡ walk_placed op.walk → Continues op.walk w → n.holder ≡ Some o → IsAtUnlock the_arena o w → Gives now the_new o false
      placed_gives changes told makes met p at_p ready left none holds_one later follows writes notes goes same holder unlocks =
          let begun = always.begun (λ enters. later (sym at_p ∙ enters)) in
          let whole = walk_same c op always w begun same.first in
          let ends : w.phase ≡ Unlock = ap (λ (x : Walk). x.phase) goes in
          let place : w.place.node ≡ k = ap (λ (x : Walk). x.place.node) goes in
          let pair = places_pair in
          let unsplit = (h.ops o op there).unsplit (ap has_splits at_p ∙ none) in
          let own : IsUnlocking the_new o the_after = record {
            unlocks =
                subst (λ (halves : List Halves). MayUnlock halves the_arena o the_after) (sym unsplit.halves)
                (subst (λ (removes : Bool). MayUnlockUnsplit removes the_arena o the_after) (sym (put_no_remove (ask op.task) put.put_is)) (subst (IsAtUnlock the_arena o) (sym whole) unlocks), unsplit);
            answer = record {
              outcome = record { reply = reply; at = c.steps + 1 };
              told = refl;
              right =
                  placed_right c o op the_after the_arena accounts h put pair reply changes told makes (first_begun c op always w) (first_upto c op always w) refl refl;
              unprepared = refl;
            };
          } in
          let kept : IsKeptOf the_new o the_after = record {
            always =
                open_moved c op always w the_new (Some (record { reply = reply; at = c.steps + 1 })) None refl refl counted.there (floor_made c h.tape) same.aim
                (subst (λ (q : Phase). IsOfKind q w.aim) (sym ends) (same.aim ∙ writes));
            kept = subst (λ (q : Phase). IsKeptAt q the_new o the_after) (sym ends) own;
            unsplit = λ over. unsplit;
            placed =
                λ m placed_at. subst (IsPlacedOnce the_new the_after) (same_Some (c.steps + 1) m (ap (λ b. cond b (Some (c.steps + 1)) None) (sym changes) ∙ placed_at)) (placed_once c o op the_after the_arena accounts h put pair met refl);
          } in
          gives now c the_new o op the_after is h (few_steps c now o is h room op there)
          (placed_move c o op the_after the_arena accounts h put pair (record {
            there = there;
            unfinished = ap is_done at_p ∙ left;
            task = refl;
            scan = refl;
            held = λ j inside holds. subst (λ (q : Phase). HoldsAt q the_after j) (sym ends)
                (subst (λ (halves : List Halves). HoldsLast halves the_after j) (sym unsplit.halves) (inl (elim (replaced_holds c.arena k within y o j inside holds) [
                  | inl same ↦ same.0 ∙ sym place
                  | inr was ↦ holds_one j (holds_here c now o is h room op there p at_p j was.0 was.1) ∙ sym place
                ])));
            kept = kept;
            back = record {
              birth = refl;
              walk = λ facts. subst (λ (q : Phase). IsBackAt q the_arena the_after) (sym ends) tt;
              cleans = λ facts. (h.remembered o op there).cleans;
            };
            reserved =
                let one = ready_one op p at_p ready in let no = unready_none the_after Unlock ends tt in let some = room_for c h o op p there at_p ready in omega (arith, one, no, some);
          }))
          (record {
            logs = refl;
            moves =
                has_moved c op always w (Some (record { reply = reply; at = c.steps + 1 })) None (subst (λ (q : Phase). MayFollow q w.phase) (sym at_p) (subst (MayFollow p) (sym ends) follows));
            notes = subst (λ (q : Phase). Notes (shown c) (view_of op) q w.phase (Some (record { reply = reply; at = c.steps + 1 }))) (sym at_p)
                (subst (λ (q : Phase). Notes (shown c) (view_of op) p q (Some (record { reply = reply; at = c.steps + 1 }))) (sym ends) notes);
            touches = replaced_touches c.arena k within y (view_of op) o (inl holder);
            effect = inr (is_placing c o op the_after the_arena accounts h put pair reply changes told makes refl);
            makes = makes_set c.arena k y;
          })
          false (sym (ap is_done ends))

  -- the slots of a held border node, and their keys, which are of its tree
  module _ {marked : Bool} (arena_is : IsArena c.arena.nodes c.arena.trees) (holds : HoldsBy marked c.arena o op.task.key op.walk) where
    within_here : k < length c.arena.nodes
    within_here = holds.judged.held.there

    border_here : IsBorder n.slots
    border_here = (arena_is.nodes.each k within_here).slots.border

    keys_here : AreKeys (tree_of c.arena k).prefix (layer_of (tree_of c.arena k).prefix) n.slots
    keys_here = (keys_of c.arena.nodes c.arena.trees k within_here arena_is.forest).keys

  module _ (at_store : op.walk.phase ≡ Store) where
    storing : IsStoring c o op
    storing = subst (λ (p : Phase). IsKeptAt p c o op) at_store (h.ops o op there).kept

    stores_on : op.walk.aim ≡ aims.Write
    stores_on = subst (λ (p : Phase). IsOfKind p op.walk.aim) at_store always.kind

    -- a put that writes its row over the one of its key
    pub store_done : (arena : ArenaView) (tape : Kept) (w : Walk) (row before : Columns) → IsArena c.arena.nodes c.arena.trees
        → IsStore o (c.steps + 1) op.task row c.arena arena c.tape tape op.walk w before
        → Gives now (stepped c arena tape c.accounts o (went op (c.steps + 1) w (Some (record { reply = Replaced; at = c.steps + 1 })) None)) o false
    store_done arena tape w row before arena_is t =
        let s = storing.stores in
        let had : Stamped = record { stamp = t.stamp; row = before } in
        let j = s.holds.judged in
        let place = walk_place c.arena op.walk in
        let slots = replaced n.slots (with_row (slot_at n place) s.pair row (c.steps + 1)) in
        let after = went op (c.steps + 1) w (Some (record { reply = Replaced; at = c.steps + 1 })) None in
        let cells = cells_holding n.cells place (Stable (record s.pair { row = row; stamp = c.steps + 1 })) in
        let takes : arena ≡ with_node c.arena k (with_slots n slots cells) = t.is s.pair s.stable in
        let may = may_store c.arena o op.task.key op.walk arena_is s.holds op.walk.slot s.pair s.in_slot s.stable in
        let contents = subst (λ (v : ArenaView). content_of v ≡ insert (content_of c.arena) (op.task.tenant, key_of (ask op.task)) (put_over c op (get (content_of c.arena) key))) takes t.places.contents in
        let row_there : get (tenant_map op.task.tenant (content_of c.arena)) (key_of (ask op.task)) ≡ Some had =
        get-tenant_map op.task.tenant (content_of c.arena) (key_of (ask op.task)) ∙ ap (get (content_of c.arena)) (sym put.owner) ∙ t.was_there in
        let replies = put_there (quota_of (shown c) op.task.tenant) (c.steps + 1) op.task.request (tenant_map op.task.tenant (content_of c.arena)) had put.put_is t.met row_there in
        let makes = replies.1 ∙ ap (λ (b : Option Stamped). insert (tenant_map op.task.tenant (content_of c.arena)) (key_of (ask op.task)) (put_over c op b)) (sym t.was_there) in
        let stamps : AllStamped (IsStampOf c.steps c.tape) (tree_of c.arena k).prefix n.slots → AllStamped (IsStampOf (c.steps + 1) (pushed c.tape (next_write c op))) (tree_of c.arena k).prefix slots =
        λ was. subst (AllStamped (IsStampOf (c.steps + 1) (pushed c.tape (next_write c op))) (tree_of c.arena k).prefix) (sym (row_set n place s.pair row (c.steps + 1) (border_here arena_is s.holds) s.in_slot.in_range))
        (stamped_store (IsStampOf c.steps c.tape) (IsStampOf (c.steps + 1) (pushed c.tape (next_write c op))) n.slots place s.pair row (c.steps + 1) (border_here arena_is s.holds) s.in_slot.in_range (ap pair_of s.stable)
        (tree_of c.arena k).prefix (layer_of (tree_of c.arena k).prefix) op.task.key (keys_here arena_is s.holds) may.stands.has
        (untouched_beside c op h put) (untouched_now c op h put) was) in
        subst (λ (v : ArenaView). Gives now (stepped c v tape c.accounts o after) o false) (sym takes)
        (subst (λ (t : Kept). Gives now (stepped c (with_node c.arena k (with_slots n slots cells)) t c.accounts o after) o false) (sym t.places.tape)
        (placed_gives slots cells c.accounts w Replaced j.held.there j.stands.live (beside_stored arena_is place s.pair may.stands) (subst (Guarantee o c.arena) takes t.guarantee) contents
        (counted_there (content_of (with_node c.arena k (with_slots n slots cells))) (put_over c op (get (content_of c.arena) key)) had contents t.was_there) stamps
        refl replies.0 makes (subst (λ (b : Option Stamped). MeetsStamp (ask op.task) (stamp_in b)) (sym t.was_there) t.met) Store at_store refl refl refl (λ i one. one) (λ e. cc) tt stores_on refl t.walk t.same j.held.holder (subst (λ (v : ArenaView). IsAtUnlock v o w) takes t.kept)))

  module _ (at_publish : op.walk.phase ≡ Publish) where
    publishing : IsPublishing c o op
    publishing = subst (λ (p : Phase). IsKeptAt p c o op) at_publish (h.ops o op there).kept

    publishes_on : op.walk.aim ≡ aims.Write
    publishes_on = subst (λ (p : Phase). IsOfKind p op.walk.aim) at_publish always.kind

    -- a put of a new key that finds room
    pub publish_done : (arena : ArenaView) (tape : Kept) (accounts : Accounts) (w : Walk) (row : Columns) → IsArena c.arena.nodes c.arena.trees
        → IsPublish o (c.steps + 1) op.task row c.arena arena c.tape tape c.accounts accounts op.walk w
        → Gives now (stepped c arena tape accounts o (went op (c.steps + 1) w (Some (record { reply = New; at = c.steps + 1 })) None)) o false
    publish_done arena tape accounts w row arena_is t =
        let s = publishing.publishes in
        let j = s.holds.judged in
        let added = entry_of op.task.key op.walk.layer row (c.steps + 1) in
        let slots = with_entry n.slots added in
        let cells = cells_with n.cells (place_in n.slots (order_of added)) added in
        let after = went op (c.steps + 1) w (Some (record { reply = New; at = c.steps + 1 })) None in
        let may = may_publish c.arena o op.task.key op.walk arena_is s.holds row (c.steps + 1) s.missing s.room in
        let contents = subst (λ (v : ArenaView). content_of v ≡ insert (content_of c.arena) (op.task.tenant, key_of (ask op.task)) (put_over c op (get (content_of c.arena) key))) t.is t.places.contents in
        let none_there : get (tenant_map op.task.tenant (content_of c.arena)) (key_of (ask op.task)) ≡ None =
        get-tenant_map op.task.tenant (content_of c.arena) (key_of (ask op.task)) ∙ ap (get (content_of c.arena)) (sym put.owner) ∙ t.missing in
        let less : len (tenant_map op.task.tenant (content_of c.arena)) < quota_of (shown c) op.task.tenant =
        room_left (account_of c.accounts op.task.tenant) (len (tenant_map op.task.tenant (content_of c.arena))) t.room (λ a e. (h.counts op.task.tenant a e).0) in
        let replies = put_new (quota_of (shown c) op.task.tenant) (c.steps + 1) op.task.request (tenant_map op.task.tenant (content_of c.arena)) put.put_is t.met none_there less in
        let makes = replies.1 ∙ ap (λ (b : Option Stamped). insert (tenant_map op.task.tenant (content_of c.arena)) (key_of (ask op.task)) (put_over c op b)) (sym t.missing) in
        let stamps = stamped_publish (IsStampOf c.steps c.tape) (IsStampOf (c.steps + 1) (pushed c.tape (next_write c op)))
        (tree_of c.arena k).prefix (layer_of (tree_of c.arena k).prefix) n.slots added op.task.key (record { suffix = suffix_of op.task.key op.walk.layer; row = row; stamp = c.steps + 1 })
        (keys_here arena_is s.holds) may.has s.missing refl (untouched_beside c op h put) (untouched_now c op h put) in
        subst (λ (v : ArenaView). Gives now (stepped c v tape accounts o after) o false) (sym t.is)
        (subst (λ (t : Kept). Gives now (stepped c (with_node c.arena k (with_slots n slots cells)) t accounts o after) o false) (sym t.places.tape)
        (placed_gives slots cells accounts w New j.held.there j.stands.live (λ l inside differ counted. beside_missing arena_is t.missing l inside counted) (subst (Guarantee o c.arena) t.is t.guarantee) contents
        (counted_new accounts (content_of (with_node c.arena k (with_slots n slots cells))) (put_over c op (get (content_of c.arena) key)) contents t.missing t.room t.more t.others) stamps
        refl replies.0 makes (subst (λ (b : Option Stamped). MeetsStamp (ask op.task) (stamp_in b)) (sym t.missing) t.met) Publish at_publish refl refl refl (λ i one. one) (λ e. cc) tt publishes_on (inl refl) t.walk t.same j.held.holder (subst (λ (v : ArenaView). IsAtUnlock v o w) t.is t.kept)))
