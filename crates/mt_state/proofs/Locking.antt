-- The steps of a put that change no pair: it locks its border node, judges it, finds its quota full, and gives the lock back.
use Rattle.std.proofs.Common.{◌≡◌, ◌≢◌, ℕ, zero, suc, ◌+◌, ◌-◌, ◌<◌, ◌≤◌, inl, inr, Bool, true, false, cond, eqb, List, [], ◌∷◌, length, Option, Some, None, refl, sym, ap, subst, ◌∙◌, arith}
use Rattle.std.proofs.lemmas.Bool.{cases_lt}
use Rattle.std.specs.{Prelude.{◌^◌}, FinMap.{get, len}}
use Rattle.mt_version.specs.Changes.{CanUnlock}
use Rattle.mt_rows.specs.{declared.reply.Reply.TheVariants.{NoMemory, Full}, declared.tenants.Account.Account, Accounts.{Accounts, account_of, HasRoom}}
use Rattle.mt_rows.specs.{Commands.key_of, Maps.reply_of, Tenants.tenant_map}
use Rattle.mt_rows.proofs.ContentLaws.{get-tenant_map}
use Rattle.mt_tape.specs.Tapes.{Kept}
use Rattle.mt_arena.specs.{NodeView.NodeView, Edits.{locked, unlocked}, Arena.{ArenaView, content_of, Guarantee}, Accesses.{at, with_node}}
use Rattle.mt_operation.specs.{declared.phase.Phase.Phase, declared.phase.Phase.TheVariants.{Enter, Lock, Judge, Store, Fill, Publish, SplitStart, Unlock, Done}}
use Rattle.mt_operation.specs.{declared.walk.Walk.Walk, declared.outcome.Outcome.Outcome, declared.prepared.Prepared.Prepared, declared.splits.Halves.Halves}
use Rattle.mt_operation.specs.{declared.operation.Operation.Operation, Tasks.ask, Operations.{view_of, IsUnsplit}}
use Rattle.mt_operation.specs.{Phases.{is_done, MayFollow, IsOfKind, has_splits, is_prepared}, Tables.{Table, op_at as operation_at}}
use Rattle.mt_descent.specs.{KeptWalks.{IsAtBorder, KeptAt, IsKept}, WalkMoves.{after_change, IsLock}}
use Rattle.mt_insert.specs.{Puts.{IsPut, is_put}, KeptPuts.KeptReady, Judge.{after_judge, IsMadeReady}, Publish.IsPublishFull}
use Rattle.mt_held.{specs.{Holds.{HoldsBorder, IsAtUnlock, HoldsOnly}, Taping.{released, reserving}, Unlock.IsUnlock}, proofs.Looks.held_here}
use Rattle.mt_state.specs.{Views.{StateView, Core, shown, past_of, quota_of, quota_in, map_of}, Steps.told_change, Notes.{Notes, EndsJudging}}
use Rattle.mt_state.specs.{Promises.IsAnswer, Touches.{Touches, locks_next}}
use Rattle.mt_state.specs.KeptOperations.{IsOpenOperation, IsOnItsWay, IsJudging, IsPublishing, MayUnlock, IsUnlocking, HasAnswer, IsKeptAt, MayUnlockUnsplit}
use Rattle.mt_state.specs.Invariant.{IsCountedUpTo, HoldsLast, HoldsAt, StateInvariant, one_if_prepared, prepared_count}
use Rattle.mt_descent.proofs.Decides.{outdated_or_not}
use Rattle.mt_state.proofs.{Descents.{Leads, first_aside, changed_leads}, Rely.answer_stays, Replies.put_full}
use Rattle.mt_state.proofs.{Telling.{Gives, map_now}, Quiet.LeavesPairs, Moved.{went, first_same, first_begun, first_upto}}
use Rattle.mt_state.proofs.Still.{IsFree, still, still_gives, leaves_all, unready_none}
use Rattle.mt_state.proofs.Reading.{kept_on_way, on_way_unready, on_way_open, walk_same, keeps_on}
use Rattle.mt_state.proofs.OneNode.{stepped, returning_told, can_unlock, counted_unlocked, replaced_at, replaced_holds, replaced_touches, replaced_leaves, quiet_grows, holds_here, quiet_gives, border_alone}
use Rattle.mt_state.proofs.{Bound.{bound_on, put_no_remove}, Lawful.{lawful_more, stopped_free, scan_free, put_no_scan}}
use Rattle.mt_state.{specs.KeptBack.IsBackAt, proofs.KeptBack.{on_walk, look_back}}
use Rattle.mt_descent.proofs.Learning.{learns_lock}
use Rattle.mt_arena.proofs.Settled.{not_true}
use Rattle.mt_remove.specs.Writes.{is_remove}
use Rattle.mt_walks.specs.Walked.{IsWithin}
use Rattle.mt_operation.specs.declared.walk.Aim.TheVariants as aims

-- an operation that has all ready for its write counts once
pub ready_one : (op : Operation) (p : Phase) → op.walk.phase ≡ p → is_prepared p ≡ true → one_if_prepared (Some op) ≡ 1
ready_one op p is ready = ap (λ q. cond (is_prepared q) 1 0) is ∙ ap (λ b. cond b 1 0) ready

-- each of them is counted
pub counted_there : (table : Table) (o : ℕ) (op : Operation) → operation_at table o ≡ Some op → one_if_prepared (Some op) ≤ prepared_count table
counted_there [] o op e = absurd (cc)
counted_there (x ∷ table) zero op e = let is = ap one_if_prepared e in omega (arith, is)
counted_there (x ∷ table) (suc o) op e = let rest = counted_there table o op e in omega (arith, rest)

-- so the tape has room for the write of one that has all ready
pub room_for : (c : Core) → StateInvariant c → (o : ℕ) (op : Operation) (p : Phase) → operation_at c.table o ≡ Some op → op.walk.phase ≡ p
    → is_prepared p ≡ true → 0 < c.tape.reserved
room_for c h o op p there is ready =
    let counted = counted_there c.table o op there in let one = ready_one op p is ready in let all = h.reserved in omega (arith, counted, one, all)

-- the lock is given back by a version with as many counts as steps at most
pub may_unlock : (c : Core) → StateInvariant c → (k : ℕ) → k < length c.arena.nodes → CanUnlock (at c.arena k).version
may_unlock c h k within = can_unlock (at c.arena k) c.steps (h.versions k within) h.few

module _ (c : Core) (now : StateView) (o : ℕ) (is : shown c ≡ now) (h : StateInvariant c) (room : now.steps < 2 ^ 59) (op : Operation) (there : operation_at c.table o ≡ Some op) where
  abbrev k : ℕ
  k = op.walk.place.node

  abbrev n : NodeView
  n = at c.arena op.walk.place.node

  always : IsOpenOperation c op
  always = (h.ops o op there).always

  counted_here : k < length c.arena.nodes → IsCountedUpTo c.steps n
  counted_here within = h.versions k within

  -- the arena with the lock of the operation's node given back
  abbrev given_back : ArenaView
  given_back = with_node c.arena k (unlocked n)

  back_leaves : k < length c.arena.nodes → Guarantee o c.arena given_back → content_of given_back ≡ content_of c.arena → LeavesPairs c o given_back
  back_leaves within guarantee contents =
      replaced_leaves c o h k within (unlocked n) refl refl refl (counted_unlocked n c.steps (counted_here within) (unlocked n) refl) (λ e. absurd (cc)) guarantee contents

  -- nothing is held then, where it held no other node
  back_free : (within : k < length c.arena.nodes) → HoldsOnly c.arena o k → (j : ℕ) → j < length given_back.nodes → (at given_back j).holder ≡ Some o → ⊥
  back_free within only j inside holds = elim (replaced_at c.arena k within (unlocked n) j inside).1 [
    | inl same ↦ let free = ap (λ (m : NodeView). m.holder) (sym same.1) ∙ holds in absurd (cc)
    | inr other ↦ absurd (other.0 (only j (replaced_at c.arena k within (unlocked n) j inside).0 (ap (λ (m : NodeView). m.holder) (sym other.1) ∙ holds)))
  ]

  -- an operation that has split nothing, by its phase
  pub unsplit_at : (p : Phase) → op.walk.phase ≡ p → has_splits p ≡ false → IsUnsplit op.splits
  unsplit_at p at_p none = (h.ops o op there).unsplit (ap has_splits at_p ∙ none)

  module _ (at_lock : op.walk.phase ≡ Lock) where
    locking : IsOnItsWay c op
    locking = subst (λ (p : Phase). IsKeptAt p c o op) at_lock (h.ops o op there).kept

    at_border : IsAtBorder c.arena op.task.key op.walk
    at_border = subst (λ (p : Phase). KeptAt p c.arena (past_of c) op.task.key None op.walk) at_lock locking.kept

    abbrev lock_free : IsFree op.walk.phase
    lock_free = subst IsFree (sym at_lock) tt

    begun_lock : 0 < op.walk.first
    begun_lock = always.begun (λ enters. absurd (let no : Lock ≡ Enter = sym at_lock ∙ enters in cc))

    locks_on : op.walk.aim ≡ aims.Write
    locks_on = subst (λ (p : Phase). IsOfKind p op.walk.aim) at_lock always.kind

    module _ (arena : ArenaView) (w : Walk) (t : IsLock o op.task.key c.arena arena op.walk w) where
      abbrev locked_core : ArenaView → Core
      locked_core v = stepped c v c.tape c.accounts o (went op (c.steps + 1) w op.outcome op.prepared)

      -- the node was deleted or split: the operation is on its way, and the arena as it was
      lock_left : arena ≡ c.arena → w ≡ after_change op.walk n.version n.next → Gives now (locked_core arena) o false
      lock_left stays goes =
          let leads : Leads Lock w.phase w.aim = subst (λ (x : Walk). Leads Lock x.phase x.aim) (sym goes) (changed_leads Lock tt tt op.walk n.version n.next) in
          let new = still c now o is h room op there lock_free w op.outcome in
          let after = went op (c.steps + 1) w op.outcome op.prepared in
          let on : IsOnItsWay new after = record {
            kept =
                first_aside w.phase leads.0 c.arena (past_of new) op.task.key None w after.walk.first (subst (λ (v : ArenaView). IsKept v (past_of new) op.task.key None w) stays (t.kept (past_of new) None));
            bound = bound_on c new op always (quiet_grows c o c.arena c.tape.reserved after refl) w locking.unprepared refl op.outcome locking.bound;
            unprepared = locking.unprepared;
          } in
          subst (λ (v : ArenaView). Gives now (locked_core v) o false) (sym stays)
          (still_gives c now o is h room op there lock_free w op.outcome
          (subst (λ (p : Phase). MayFollow p w.phase) (sym at_lock) leads.1) (on_way_unready w.phase leads.0) t.keeps.same.aim leads.2 refl
          (subst (λ (p : Phase). Notes (shown c) (view_of op) p w.phase op.outcome) (sym at_lock)
          (keeps_on w.phase leads.0 w.aim leads.2 op.outcome (λ reads. absurd (reads (t.keeps.same.aim ∙ locks_on)))))
          (kept_on_way w.phase leads.0 new o after on)
          (λ facts. on_walk w.phase leads.0 c.arena after (look_back op.birth c.arena op.walk w after.walk.first facts
          (learns_lock o c.arena arena op.walk w at_lock t.locks) (subst (λ (p : Phase). IsBackAt p c.arena op) at_lock (h.remembered o op there).walk)))
          false (sym (on_way_open w.phase leads.0)))

      -- the operation holds its node
      lock_taken : n.version.deleted ≡ false → arena ≡ with_node c.arena k (locked n o) → w ≡ record op.walk { phase = Judge } → Gives now (locked_core arena) o false
      lock_taken live takes goes =
          let after = went op (c.steps + 1) w op.outcome op.prepared in
          let within = at_border.covers.remembered.there in
          let judges : w.phase ≡ Judge = ap (λ (x : Walk). x.phase) goes in
          let place : w.place.node ≡ k = ap (λ (x : Walk). x.place.node) goes in
          let whole = walk_same c op always w begun_lock t.keeps.same.first in
          let counted : IsCountedUpTo (c.steps + 1) (locked n o) = let was = counted_here within in record { inserts = omega (arith, was.inserts); splits = omega (arith, was.splits) } in
          let leaves : LeavesPairs c o (with_node c.arena k (locked n o)) = replaced_leaves c o h k within (locked n o) refl refl refl counted (λ held. inr live)
          (subst (Guarantee o c.arena) takes t.keeps.guarantee) (subst (λ (v : ArenaView). content_of v ≡ content_of c.arena) takes t.keeps.contents) in
          let own : IsJudging (locked_core arena) o after = record {
            judges =
                subst (HoldsBorder arena o op.task.key) (sym whole) (held_here o c.arena arena op.task.key op.walk w t.locks judges (t.judged judges) (t.settled judges));
            bound = bound_on c (locked_core arena) op always (quiet_grows c o arena c.tape.reserved after t.keeps.contents) w locking.unprepared (ap (λ (v : ArenaView). v.trees) takes) op.outcome locking.bound;
            unprepared = locking.unprepared;
          } in
          quiet_gives c now o is h room op there arena c.tape.reserved w op.outcome op.prepared
          (subst (LeavesPairs c o) (sym takes) leaves) (ap is_done at_lock)
          (subst (λ (p : Phase). MayFollow p w.phase) (sym at_lock) (subst (MayFollow Lock) (sym judges) tt))
          t.keeps.same.aim (subst (λ (p : Phase). IsOfKind p w.aim) (sym judges) (t.keeps.same.aim ∙ locks_on)) refl
          (subst (λ (p : Phase). Notes (shown c) (view_of op) p w.phase op.outcome) (sym at_lock) (subst (λ (p : Phase). Notes (shown c) (view_of op) Lock p op.outcome) (sym judges) refl))
          (λ j inside holds. subst (λ (p : Phase). HoldsAt p after j) (sym judges) (locked_here within j (subst (λ (v : ArenaView). j < length v.nodes) takes inside) (subst (λ (v : ArenaView). (at v j).holder ≡ Some o) takes holds) ∙ sym place))
          (subst (λ (p : Phase). IsKeptAt p (locked_core arena) o after) (sym judges) own)
          (λ facts. subst (λ (p : Phase). IsBackAt p arena after) (sym judges) tt)
          (unsplit_at Lock at_lock refl)
          (let none = unready_none op Lock at_lock tt in let no = unready_none after Judge judges tt in omega (arith, none, no))
          (subst (Touches (view_of op) o c.arena) (sym takes) (replaced_touches c.arena k within (locked n o) (view_of op) o (inr (ap locks_next at_lock, refl))))
          false (sym (ap is_done judges))
        where
          -- it holds no node but that one
          locked_here : k < length c.arena.nodes → HoldsOnly (with_node c.arena k (locked n o)) o k
          locked_here within j inside holds = elim (replaced_holds c.arena k within (locked n o) o j inside holds) [
            | inl same ↦ same.0
            | inr was ↦ absurd (holds_here c now o is h room op there Lock at_lock j was.0 was.1)
          ]

      -- a put that was to lock its border node
      pub lock_done : Gives now (stepped c arena c.tape c.accounts o (went op (c.steps + 1) w op.outcome op.prepared)) o false
      lock_done = elim (outdated_or_not n op.walk.place.seen) [
        | inl outdated ↦ lock_left (t.locks.leaves outdated) (t.locks.goes_on outdated)
        | inr fresh ↦ lock_taken (not_true n.version.deleted (λ gone. fresh (inl gone))) (t.locks.takes fresh) (t.locks.judges fresh)
      ]

  module _ (at_unlock : op.walk.phase ≡ Unlock) (puts : is_remove (ask op.task) ≡ false) (told : op.outcome ≢ None) (none : op.splits.halves.items ≡ []) where
    unlocking : IsUnlocking c o op
    unlocking = returning_told op.outcome told c o op (subst (λ (p : Phase). IsKeptAt p c o op) at_unlock (h.ops o op there).kept)

    unlocks : IsAtUnlock c.arena o op.walk × IsUnsplit op.splits
    unlocks =
        let both : MayUnlock [] c.arena o op = subst (λ (halves : List Halves). MayUnlock halves c.arena o op) none unlocking.unlocks in
        (subst (λ (removes : Bool). MayUnlockUnsplit removes c.arena o op) puts both.0, both.1)

    holds_only : HoldsOnly c.arena o k
    holds_only j inside holds =
        border_alone op.walk op.removal j (always.light puts)
        (subst (λ (halves : List Halves). HoldsLast halves op j) none (holds_here c now o is h room op there Unlock at_unlock j inside holds))

    begun_unlock : 0 < op.walk.first
    begun_unlock = always.begun (λ enters. absurd (let no : Unlock ≡ Enter = sym at_unlock ∙ enters in cc))

    -- an operation that has its outcome gives its lock back, and is done with it
    pub unlock_done : (arena : ArenaView) (w : Walk) → IsUnlock o c.arena arena op.walk w
        → Gives now (stepped c arena c.tape c.accounts o (went op (c.steps + 1) w op.outcome op.prepared)) o true
    unlock_done arena w t =
        let after = went op (c.steps + 1) w op.outcome op.prepared in
        let new = stepped c arena c.tape c.accounts o after in
        let within = unlocks.0.held.there in
        let ends : w.phase ≡ Done = ap (λ (x : Walk). x.phase) t.walk in
        let first = first_same c op always w begun_unlock in
        let answer = unlocking.answer in
        let stays : IsAnswer (shown new) (view_of op) answer.outcome = answer_stays (shown c) (shown new) (quiet_grows c o arena c.tape.reserved after t.keeps.contents) (view_of op) answer.outcome always.made answer.right in
        let own : HasAnswer new after = record {
          outcome = answer.outcome;
          told = answer.told;
          right = record {
            begun = first_begun c op always w;
            since = omega (arith, first, stays.since);
            upto = omega (arith, stays.upto, always.made);
            placed = stays.placed;
            lawful = lawful_more (map_of (shown new) op.task.tenant) (IsWithin op.walk.first op.last) (IsWithin after.walk.first after.last)
                (λ m between. (let since = between.0 in omega (arith, first, since), let upto = between.1 in omega (arith, upto, always.made))) (ask op.task) answer.outcome.reply stays.lawful;
          };
          unprepared = answer.unprepared;
        } in
        quiet_gives c now o is h room op there arena c.tape.reserved w op.outcome op.prepared
        (subst (LeavesPairs c o) (sym t.is) (back_leaves within (subst (Guarantee o c.arena) t.is t.keeps.guarantee) (subst (λ (v : ArenaView). content_of v ≡ content_of c.arena) t.is t.keeps.contents)))
        (ap is_done at_unlock)
        (subst (λ (p : Phase). MayFollow p w.phase) (sym at_unlock) (subst (MayFollow Unlock) (sym ends) tt))
        t.keeps.same.aim (subst (λ (p : Phase). IsOfKind p w.aim) (sym ends) tt) refl
        (subst (λ (p : Phase). Notes (shown c) (view_of op) p w.phase op.outcome) (sym at_unlock) (subst (λ (p : Phase). Notes (shown c) (view_of op) Unlock p op.outcome) (sym ends) refl))
        (λ j inside holds. absurd (back_free within holds_only j (subst (λ (v : ArenaView). j < length v.nodes) t.is inside) (subst (λ (v : ArenaView). (at v j).holder ≡ Some o) t.is holds)))
        (subst (λ (p : Phase). IsKeptAt p new o after) (sym ends) own)
        (λ facts. subst (λ (p : Phase). IsBackAt p arena after) (sym ends) tt)
        unlocks.1
        (let none = unready_none op Unlock at_unlock tt in let no = unready_none after Done ends tt in omega (arith, none, no))
        (subst (Touches (view_of op) o c.arena) (sym t.is) (replaced_touches c.arena k within (unlocked n) (view_of op) o (inl unlocks.0.held.holder)))
        true (sym (ap is_done ends))

  module _ (at_judge : op.walk.phase ≡ Judge) where
    judging : IsJudging c o op
    judging = subst (λ (p : Phase). IsKeptAt p c o op) at_judge (h.ops o op there).kept

    begun_judge : 0 < op.walk.first
    begun_judge = always.begun (λ enters. absurd (let no : Judge ≡ Enter = sym at_judge ∙ enters in cc))

    judges_on : op.walk.aim ≡ aims.Write
    judges_on = subst (λ (p : Phase). IsOfKind p op.walk.aim) at_judge always.kind

    -- where it goes on with all ready
    abbrev IsToPlace : Phase → Type 0
    IsToPlace Store = Unit {0}
    IsToPlace Fill = Unit {0}
    IsToPlace SplitStart = Unit {0}
    IsToPlace _ = ⊥

    missing_to : (full : Bool) → IsToPlace (cond full SplitStart Fill)
    missing_to true = tt
    missing_to false = tt

    judged_to : (slot : Option ℕ) → IsToPlace (after_judge n slot op.walk).phase
    judged_to (Some slot) = tt
    judged_to None = missing_to (eqb (length n.slots) 15)

    judged_place : (slot : Option ℕ) → (after_judge n slot op.walk).place.node ≡ k
    judged_place (Some slot) = refl
    judged_place None = refl

    -- a put that has made all ready for its write
    pub judge_ready : op.outcome ≡ None → is_put (ask op.task) ≡ true → (arena : ArenaView) (tape : Kept) (w : Walk) (prepared : Prepared) → IsMadeReady o op.task c.arena arena c.tape tape op.walk w prepared
        → Gives now (stepped c arena tape c.accounts o (went op (c.steps + 1) w op.outcome (Some prepared))) o false
    judge_ready untold put arena tape w prepared t =
        subst (λ (v : ArenaView). Gives now (stepped c v tape c.accounts o after) o false) (sym t.stays)
        (subst (λ (t : Kept). Gives now (stepped c c.arena t c.accounts o after) o false) (sym t.tape_is)
        (quiet_gives c now o is h room op there c.arena (c.tape.reserved + 1) w op.outcome (Some prepared)
        (leaves_all c o h) (ap is_done at_judge)
        (subst (λ (p : Phase). MayFollow p w.phase) (sym at_judge) (follows w.phase to))
        t.keeps.same.aim (kind w.phase to) refl
        (subst (λ (p : Phase). Notes (shown c) (view_of op) p w.phase op.outcome) (sym at_judge) (notes w.phase to))
        (λ j inside holds. holds_on w.phase to j (holds_here c now o is h room op there Judge at_judge j inside holds ∙ sym place))
        (own w.phase to (subst (λ (x : Walk). KeptReady w.phase c.arena o op.task prepared x) (sym whole) t.kept))
        (λ facts. back_at w.phase to)
        (unsplit_at Judge at_judge refl)
        (let none = unready_none op Judge at_judge tt in let one = ready_one after w.phase refl (ready w.phase to) in omega (arith, none, one))
        (λ j inside. inl refl)
        false (sym (open_on w.phase to))))
      where
        after : Operation
        after = went op (c.steps + 1) w op.outcome (Some prepared)

        new : Core
        new = stepped c c.arena (reserving c.tape) c.accounts o after

        to : IsToPlace w.phase
        to = subst (λ (x : Walk). IsToPlace x.phase) (sym t.walk) (judged_to t.slot)

        place : w.place.node ≡ k
        place = ap (λ (x : Walk). x.place.node) t.walk ∙ judged_place t.slot

        whole : after.walk ≡ w
        whole = walk_same c op always w begun_judge t.keeps.same.first

        follows : (p : Phase) → IsToPlace p → MayFollow Judge p
        follows Store t = tt
        follows Fill t = tt
        follows SplitStart t = tt
        follows _ t = absurd t

        kind : (p : Phase) → IsToPlace p → IsOfKind p w.aim
        kind Store i = t.keeps.same.aim ∙ judges_on
        kind Fill i = t.keeps.same.aim ∙ judges_on
        kind SplitStart i = t.keeps.same.aim ∙ judges_on
        kind _ t = absurd t

        notes : (p : Phase) → IsToPlace p → Notes (shown c) (view_of op) Judge p op.outcome
        notes Store t = (untold, untold)
        notes Fill t = (untold, untold)
        notes SplitStart t = (untold, untold)
        notes _ t = absurd t

        holds_on : (p : Phase) → IsToPlace p → (j : ℕ) → j ≡ w.place.node → HoldsAt p after j
        holds_on Store t j e = e
        holds_on Fill t j e = e
        holds_on SplitStart t j e = e
        holds_on _ t j e = absurd t

        ready : (p : Phase) → IsToPlace p → is_prepared p ≡ true
        ready Store t = refl
        ready Fill t = refl
        ready SplitStart t = refl
        ready _ t = absurd t

        open_on : (p : Phase) → IsToPlace p → is_done p ≡ false
        open_on Store t = refl
        open_on Fill t = refl
        open_on SplitStart t = refl
        open_on _ t = absurd t

        own : (p : Phase) → IsToPlace p → KeptReady p c.arena o op.task prepared after.walk → IsKeptAt p new o after
        own Store t stores = record { prepared = prepared; has = refl; stores = stores; put = put; untold = untold }
        own Fill t fills = record { prepared = prepared; has = refl; fills = fills; put = put; untold = untold }
        own SplitStart t starts = record { prepared = prepared; has = refl; starts = starts; put = put; untold = untold }
        own _ t kept = absurd t

        back_at : (p : Phase) → IsToPlace p → IsBackAt p c.arena after
        back_at Store t = tt
        back_at Fill t = tt
        back_at SplitStart t = tt
        back_at _ t = absurd t

    -- a put that memory stops: its lock is given back in the same step
    pub judge_refused : op.outcome ≡ None → (arena : ArenaView) (tape : Kept) (w : Walk) → tape ≡ c.tape → IsUnlock o c.arena arena op.walk w
        → Gives now (stepped c arena tape c.accounts o (went op (c.steps + 1) w (Some (record { reply = NoMemory; at = c.steps + 1 })) op.prepared)) o true
    judge_refused untold arena tape w keeps t =
        let told : Option Outcome = Some (record { reply = NoMemory; at = c.steps + 1 }) in
        let after = went op (c.steps + 1) w told op.prepared in
        let new = stepped c arena c.tape c.accounts o after in
        let within = judging.judges.judged.held.there in
        let ends : w.phase ≡ Done = ap (λ (x : Walk). x.phase) t.walk in
        let own : HasAnswer new after = record {
          outcome = record { reply = NoMemory; at = c.steps + 1 };
          told = refl;
          right = record {
            begun = first_begun c op always w;
            since = first_upto c op always w;
            upto = omega arith;
            placed = λ real plain. absurd (cc);
            lawful = stopped_free (map_of (shown new) op.task.tenant) (IsWithin after.walk.first after.last) (ask op.task);
          };
          unprepared = judging.unprepared;
        } in
        subst (λ (t : Kept). Gives now (stepped c arena t c.accounts o after) o true) (sym keeps)
        (quiet_gives c now o is h room op there arena c.tape.reserved w told op.prepared
        (subst (LeavesPairs c o) (sym t.is) (back_leaves within (subst (Guarantee o c.arena) t.is t.keeps.guarantee) (subst (λ (v : ArenaView). content_of v ≡ content_of c.arena) t.is t.keeps.contents)))
        (ap is_done at_judge)
        (subst (λ (p : Phase). MayFollow p w.phase) (sym at_judge) (subst (MayFollow Judge) (sym ends) tt))
        t.keeps.same.aim (subst (λ (p : Phase). IsOfKind p w.aim) (sym ends) tt) (sym (ap told_change untold))
        (subst (λ (p : Phase). Notes (shown c) (view_of op) p w.phase told) (sym at_judge) (subst (λ (p : Phase). Notes (shown c) (view_of op) Judge p told) (sym ends) (subst (λ had. EndsJudging had (shown c) (view_of op) told) (sym untold) (inl refl))))
        (λ j inside holds. absurd (back_free within (holds_here c now o is h room op there Judge at_judge) j (subst (λ (v : ArenaView). j < length v.nodes) t.is inside) (subst (λ (v : ArenaView). (at v j).holder ≡ Some o) t.is holds)))
        (subst (λ (p : Phase). IsKeptAt p new o after) (sym ends) own)
        (λ facts. subst (λ (p : Phase). IsBackAt p arena after) (sym ends) tt)
        (unsplit_at Judge at_judge refl)
        (let none = unready_none op Judge at_judge tt in let no = unready_none after Done ends tt in omega (arith, none, no))
        (subst (Touches (view_of op) o c.arena) (sym t.is) (replaced_touches c.arena k within (unlocked n) (view_of op) o (inl judging.judges.judged.held.holder)))
        true (sym (ap is_done ends)))

  -- where a tenant has no room, it has as many pairs as its quota
  pub no_room_left : (t : ℕ) (a : Option Account) → account_of c.accounts t ≡ a → ¬ HasRoom a → quota_in a ≤ len (tenant_map t (content_of c.arena))
  no_room_left t None e never = omega arith
  no_room_left t (Some account) e never = let counted = h.counts t account e in elim (cases_lt account.count account.quota) [
    | inl lt ↦ absurd (never lt)
    | inr le ↦ omega (arith, counted.0, le)
  ]

  module _ (at_publish : op.walk.phase ≡ Publish) (put : IsPut op.task) where
    publishing : IsPublishing c o op
    publishing = subst (λ (p : Phase). IsKeptAt p c o op) at_publish (h.ops o op there).kept

    begun_publish : 0 < op.walk.first
    begun_publish = always.begun (λ enters. absurd (let no : Publish ≡ Enter = sym at_publish ∙ enters in cc))

    publishes_on : op.walk.aim ≡ aims.Write
    publishes_on = subst (λ (p : Phase). IsOfKind p op.walk.aim) at_publish always.kind

    -- a put of a new key that finds its quota full
    pub publish_full : (arena : ArenaView) (tape : Kept) (accounts : Accounts) (w : Walk)
        → IsPublishFull o op.task c.arena arena c.tape tape c.accounts accounts op.walk w
        → Gives now (stepped c arena tape accounts o (went op (c.steps + 1) w (Some (record { reply = Full; at = c.steps + 1 })) None)) o false
    publish_full arena tape accounts w t =
        let told : Option Outcome = Some (record { reply = Full; at = c.steps + 1 }) in
        let after = went op (c.steps + 1) w told None in
        let new = stepped c c.arena (released c.tape) c.accounts o after in
        let ends : w.phase ≡ Unlock = ap (λ (x : Walk). x.phase) t.walk in
        let place : w.place.node ≡ k = ap (λ (x : Walk). x.place.node) t.walk in
        let whole = walk_same c op always w begun_publish t.same.first in
        let unsplit = unsplit_at Publish at_publish refl in
        let full = no_room_left op.task.tenant (account_of c.accounts op.task.tenant) refl t.full in
        let none : get (tenant_map op.task.tenant (content_of c.arena)) (key_of (ask op.task)) ≡ None =
        get-tenant_map op.task.tenant (content_of c.arena) (key_of (ask op.task)) ∙ ap (get (content_of c.arena)) (sym put.owner) ∙ t.missing in
        let is_full = put_full (quota_of (shown c) op.task.tenant) op.task.request (tenant_map op.task.tenant (content_of c.arena)) put.put_is t.met none full in
        let own : IsUnlocking new o after = record {
          unlocks =
              subst (λ (halves : List Halves). MayUnlock halves c.arena o after) (sym unsplit.halves)
              (subst (λ (removes : Bool). MayUnlockUnsplit removes c.arena o after) (sym (put_no_remove (ask op.task) put.put_is)) (subst (IsAtUnlock c.arena o) (sym whole) (subst (λ (v : ArenaView). IsAtUnlock v o w) t.stays t.kept)), unsplit);
          answer = record {
            outcome = record { reply = Full; at = c.steps + 1 };
            told = refl;
            right = record {
              begun = first_begun c op always w;
              since = first_upto c op always w;
              upto = omega arith;
              lawful = scan_free (map_of (shown new) op.task.tenant) (IsWithin after.walk.first after.last) (ask op.task) Full (put_no_scan (ask op.task) put.put_is);
              placed = λ real plain. record {
                changes = λ e. absurd (cc);
                looks =
                    λ e. is_full ∙ ap (reply_of (quota_of (shown c) op.task.tenant) (ask op.task)) (sym (map_now c h.tape op.task.tenant (c.steps + 1) (omega arith)));
              };
            };
            unprepared = refl;
          };
        } in
        subst (λ (v : ArenaView). Gives now (stepped c v tape accounts o after) o false) (sym t.stays)
        (subst (λ (a : Accounts). Gives now (stepped c c.arena tape a o after) o false) (sym t.uncounted)
        (subst (λ (t : Kept). Gives now (stepped c c.arena t c.accounts o after) o false) (sym t.tape_is)
        (quiet_gives c now o is h room op there c.arena (c.tape.reserved - 1) w told None
        (leaves_all c o h) (ap is_done at_publish)
        (subst (λ (p : Phase). MayFollow p w.phase) (sym at_publish) (subst (MayFollow Publish) (sym ends) tt))
        t.same.aim (subst (λ (p : Phase). IsOfKind p w.aim) (sym ends) (t.same.aim ∙ publishes_on)) (sym (ap told_change publishing.untold))
        (subst (λ (p : Phase). Notes (shown c) (view_of op) p w.phase told) (sym at_publish) (subst (λ (p : Phase). Notes (shown c) (view_of op) Publish p told) (sym ends) (inr refl)))
        (λ j inside holds. subst (λ (p : Phase). HoldsAt p after j) (sym ends) (subst (λ (halves : List Halves). HoldsLast halves after j) (sym unsplit.halves) (inl (holds_here c now o is h room op there Publish at_publish j inside holds ∙ sym place))))
        (subst (λ (p : Phase). IsKeptAt p new o after) (sym ends) own)
        (λ facts. subst (λ (p : Phase). IsBackAt p c.arena after) (sym ends) tt)
        unsplit
        (let one = ready_one op Publish at_publish refl in let no = unready_none after Unlock ends tt in let some = room_for c h o op Publish there at_publish refl in omega (arith, one, no, some))
        (λ j inside. inl refl)
        false (sym (ap is_done ends)))))
