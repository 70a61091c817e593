-- A get that compares the version with the one that it remembered: it is done with what it took, or goes on its way.
use Rattle.std.proofs.Common.{◌≡◌, ◌≢◌, ℕ, ◌+◌, ◌<◌, ◌≤◌, ◌⊎◌, inl, inr, true, false, Option, Some, None, refl, sym, ap, subst, ◌∙◌, arith}
use Rattle.std.specs.{Prelude.{◌^◌}, FinMap.get}
use Rattle.mt_rows.specs.{declared.reply.Reply.Reply, declared.reply.Reply.TheVariants.{Absent, Found}, Rows.Bytes, Stamps.{Stamped, as_shown}}
use Rattle.mt_rows.specs.{Commands.key_of, Maps.{is_get, is_change, reply_of}, declared.command.Command.Command}
use Rattle.mt_rows.specs.declared.command.Command.TheVariants.{Get, Put, PutIf, Remove, Scan}
use Rattle.mt_rows.proofs.ContentLaws.{get-tenant_map}
use Rattle.mt_border.specs.Contents.{owned}
use Rattle.mt_tape.specs.Histories.{contents_at}
use Rattle.mt_arena.specs.{Arena.{ArenaView, content_of}, Accesses.at}
use Rattle.mt_operation.specs.{declared.walk.Aim.Aim, declared.phase.Phase.Phase, declared.phase.Phase.TheVariants.{Enter, Confirm, Forward, Done}}
use Rattle.mt_operation.specs.{declared.walk.Taken.Taken, declared.walk.Taken.TheVariants.{Missing, Row, Link, Nothing}, declared.walk.Walk.Walk}
use Rattle.mt_operation.specs.{declared.operation.Operation.Operation, Tasks.{ask, aim_of}, Operations.view_of, Phases.{is_done, MayFollow, IsOfKind}}
use Rattle.mt_operation.specs.Tables.{op_at as operation_at}
use Rattle.mt_operation.proofs.Phases.{by_descent}
use Rattle.mt_descent.specs.{Pasts.Past, KeptWalks.{IsAtBorder, IsAtConfirm as WalksConfirm, KeptAt, IsKept, TakenWasRight}, WalkMoves.{Continues, Confirms, after_confirm}}
use Rattle.mt_state.specs.{Views.{StateView, Core, shown, past_of, map_of, quota_of}, Steps.told_change, Notes.Notes, Ways.IsOnWay}
use Rattle.mt_state.specs.{KeptOperations.{IsOpenOperation, TellsTaken, IsOnItsWay, IsAtConfirm, HasAnswer, IsKeptAt}, Invariant.StateInvariant, KeptBack.IsBackAt}
use Rattle.mt_descent.proofs.Decides.{same_or_not}
use Rattle.mt_state.proofs.{Replies.{get_absent, get_found}, Descents.{Leads, by_way, first_aside, changed_leads}, Telling.Gives}
use Rattle.mt_state.proofs.{Moved.{went, first_same, first_begun}, Still.{IsFree, IsUnready, still, still_gives}}
use Rattle.mt_state.proofs.{Reading.{kept_on_way, on_way_unready, on_way_open}, Bound.get_no_remove, Lawful.{get_no_scan, scan_free}}
use Rattle.mt_state.proofs.KeptBack.{on_walk, look_back}
use Rattle.mt_descent.proofs.Learning.{learns_confirm}
use Rattle.mt_walks.specs.Walked.{IsWithin}
use Rattle.mt_operation.specs.declared.walk.Aim.TheVariants as aims

-- what is kept of a walk on its way does not speak of a row
row_aside : (p : Phase) → IsOnWay p → (v : ArenaView) (past : Past) (key : Bytes) (row : Option Stamped) (w : Walk) → KeptAt p v past key row w
    → KeptAt p v past key None w
row_aside p on v past key row w = by_way (λ q. KeptAt q v past key row w → KeptAt q v past key None w) (by_descent _ (λ k. k) (λ k. k) (λ k. k) (λ k. k) (λ k. k)) (λ k. k) (λ k. k) (λ k. k) p on

-- nor of the past
past_aside : (p : Phase) → IsOnWay p → (v : ArenaView) (past other : Past) (key : Bytes) (row : Option Stamped) (w : Walk) → KeptAt p v past key row w
    → KeptAt p v other key row w
past_aside p on v past other key row w = by_way (λ q. KeptAt q v past key row w → KeptAt q v other key row w) (by_descent _ (λ k. k) (λ k. k) (λ k. k) (λ k. k) (λ k. k)) (λ k. k) (λ k. k) (λ k. k) p on

-- what comes to look for its key is a get
pub get_of : (command : Command) (aim : Aim) → aim ≡ aim_of command → aim ≡ aims.Read → is_get command ≡ true
get_of (Get key columns) aim e f = refl
get_of (Put key change) aim e f = absurd (let no = sym e ∙ f in cc)
get_of (PutIf key stamp change) aim e f = absurd (let no = sym e ∙ f in cc)
get_of (Remove key) aim e f = absurd (let no = sym e ∙ f in cc)
get_of (Scan from after count columns) aim e f = absurd (let no = sym e ∙ f in cc)

module _ (c : Core) (now : StateView) (o : ℕ) (is : shown c ≡ now) (h : StateInvariant c) (room : now.steps < 2 ^ 59) (op : Operation) (there : operation_at c.table o ≡ Some op) (at_confirm : op.walk.phase ≡ Confirm) where
  confirming : IsAtConfirm c op
  confirming = subst (λ (p : Phase). IsKeptAt p c o op) at_confirm (h.ops o op there).kept

  abbrev pub confirm_free : IsFree op.walk.phase
  confirm_free = subst IsFree (sym at_confirm) tt

  -- its walk is at its border node
  at_border : IsAtBorder c.arena op.task.key op.walk
  at_border =
      let kept : WalksConfirm c.arena (past_of c) op.task.key confirming.row op.walk =
      subst (λ (p : Phase). KeptAt p c.arena (past_of c) op.task.key confirming.row op.walk) at_confirm confirming.kept in
      kept.at_border

  always : IsOpenOperation c op
  always = (h.ops o op there).always

  begun : 0 < op.walk.first
  begun = always.begun (λ enters. absurd (let no : Confirm ≡ Enter = sym at_confirm ∙ enters in cc))

  looks_on : op.walk.aim ≡ aims.Read
  looks_on = subst (λ (p : Phase). IsOfKind p op.walk.aim) at_confirm always.kind

  gets : is_get (ask op.task) ≡ true
  gets = get_of (ask op.task) op.walk.aim always.aim looks_on

  -- what it took tells of no change
  no_change : (taken : Taken) → TellsTaken op confirming.row taken → told_change op.outcome ≡ None
  no_change Missing t = ap told_change t
  no_change Row t = ap told_change t.4
  no_change (Link u) t = ap told_change t
  no_change Nothing t = ap told_change t

  module _ (w : Walk) (same : Continues op.walk w) (confirms : Confirms (at c.arena op.walk.place.node) op.walk w)
      (kept : (past : Past) (row : Option Stamped) → WalksConfirm c.arena past op.task.key row op.walk → IsKept c.arena past op.task.key row w) where
    -- what is kept of the walk now
    kept_now : IsKept c.arena (past_of c) op.task.key confirming.row w
    kept_now =
        kept (past_of c) confirming.row (subst (λ (p : Phase). KeptAt p c.arena (past_of c) op.task.key confirming.row op.walk) at_confirm confirming.kept)

    -- the walk ends as it is, or goes on its way
    after_taken : (taken : Taken) → w ≡ after_confirm taken op.walk → (w ≡ record op.walk { phase = Done }) ⊎ Leads Confirm w.phase w.aim
    after_taken Missing e = inl e
    after_taken Row e = inl e
    after_taken (Link u) e = inr (subst (λ (x : Walk). Leads Confirm x.phase x.aim) (sym e) (tt, tt, tt))
    after_taken Nothing e = inl e

    ends_or_leads : (w ≡ record op.walk { phase = Done }) ⊎ Leads Confirm w.phase w.aim
    ends_or_leads = elim (same_or_not (at c.arena op.walk.place.node).version op.walk.place.seen) [
      | inl stands ↦ after_taken op.walk.taken (confirms.same stands)
      | inr changed ↦ inr (subst (λ (x : Walk). Leads Confirm x.phase x.aim) (sym (confirms.changed changed))
          (changed_leads Confirm tt tt op.walk (at c.arena op.walk.place.node).version (at c.arena op.walk.place.node).next))
    ]

    not_on_way : (p : Phase) → p ≡ Done → IsOnWay p → ⊥
    not_on_way Done e on = on
    not_on_way _ e on = absurd (cc)

    -- where it is done, nothing of it has changed
    ends : w.phase ≡ Done → w ≡ record op.walk { phase = Done }
    ends e = elim ends_or_leads [
      | inl is ↦ is
      | inr leads ↦ absurd (not_on_way w.phase e leads.0)
    ]

    -- the get's command on the map at a number, by what its key had then
    map_has : (m : ℕ) (row : Option Stamped) → get (contents_at c.tape.entries (content_of c.arena) m) (owned op.task.key) ≡ row
        → get (map_of (shown c) op.task.tenant m) (key_of (ask op.task)) ≡ row
    map_has m row e =
        get-tenant_map op.task.tenant (contents_at c.tape.entries (content_of c.arena) m) (key_of (ask op.task)) ∙ ap (get (contents_at c.tape.entries (content_of c.arena) m)) (sym (always.owner (get_no_scan (ask op.task) gets))) ∙ e

    abbrev pub the_new : Core
    the_new = still c now o is h room op there confirm_free w op.outcome

    abbrev pub the_after : Operation
    the_after = went op (c.steps + 1) w op.outcome op.prepared

    pub confirm_done : w.phase ≡ Done → Gives now (still c now o is h room op there confirm_free w op.outcome) o true
    confirm_done done =
        let new = still c now o is h room op there confirm_free w op.outcome in
        let after = went op (c.steps + 1) w op.outcome op.prepared in
        let was : TakenWasRight (past_of c) op.task.key confirming.row w w.taken = subst (λ (p : Phase). KeptAt p c.arena (past_of c) op.task.key confirming.row w) done kept_now in
        let right : TakenWasRight (past_of c) op.task.key confirming.row (record op.walk { phase = Done }) op.walk.taken =
        subst (λ (x : Walk). TakenWasRight (past_of c) op.task.key confirming.row x x.taken) (ends done) was in
        let own = by op.walk.taken right confirming.tells in
        still_gives c now o is h room op there confirm_free w op.outcome
        (subst (λ (p : Phase). MayFollow p w.phase) (sym at_confirm) (subst (MayFollow Confirm) (sym done) tt))
        (subst IsUnready (sym done) tt) same.aim (subst (λ (p : Phase). IsOfKind p w.aim) (sym done) tt)
        refl
        (subst (λ (p : Phase). Notes (shown c) (view_of op) p w.phase op.outcome) (sym at_confirm) (subst (λ (p : Phase). Notes (shown c) (view_of op) Confirm p op.outcome) (sym done) refl))
        (subst (λ (p : Phase). IsKeptAt p new o after) (sym done) own)
        (λ facts. subst (λ (p : Phase). IsBackAt p c.arena after) (sym done) tt) true (sym (ap is_done done))
      where
        first_is_same : the_after.walk.first ≡ op.walk.first
        first_is_same = first_same c op always w begun

        answered : (reply : Reply) (m : ℕ) → op.walk.first ≤ m → m ≤ c.steps → op.outcome ≡ Some (record { reply = reply; at = m }) → is_change reply ≡ false
            → reply ≡ reply_of (quota_of (shown c) op.task.tenant) (ask op.task) (map_of (shown c) op.task.tenant m) → HasAnswer the_new the_after
        answered reply m since made told looks is_reply = record {
          outcome = record { reply = reply; at = m };
          told = told;
          right = record {
            begun = first_begun c op always w;
            since = omega (arith, first_is_same, since);
            upto = omega (arith, made);
            lawful = scan_free (map_of (shown the_new) op.task.tenant) (IsWithin the_after.walk.first the_after.last) (ask op.task) reply (get_no_scan (ask op.task) gets);
            placed = λ real plain. record {
              changes = λ e. absurd (let no = sym looks ∙ e in cc);
              looks = λ e. is_reply;
            };
          };
          unprepared = confirming.unprepared;
        }

        by : (taken : Taken) → TakenWasRight (past_of c) op.task.key confirming.row (record op.walk { phase = Done }) taken
            → TellsTaken op confirming.row taken → HasAnswer the_new the_after
        by Missing had told = answered Absent op.walk.right_at had.since had.made told refl
            (get_absent (quota_of (shown c) op.task.tenant) (ask op.task) (map_of (shown c) op.task.tenant op.walk.right_at) gets (map_has op.walk.right_at None had.had))
        by Row had told = answered (Found (as_shown told.1 told.0)) op.walk.right_at had.2.since had.2.made told.4 refl
            (get_found (quota_of (shown c) op.task.tenant) (ask op.task) (map_of (shown c) op.task.tenant op.walk.right_at) told.1 told.0 told.3 (map_has op.walk.right_at (Some told.0) (had.2.had ∙ told.2)))
        by (Link u) had told = absurd had
        by Nothing had told = absurd had

    pub confirm_back : w.phase ≢ Done → Gives now (still c now o is h room op there confirm_free w None) o false
    confirm_back goes_on = elim ends_or_leads [
      | inl e ↦ absurd (goes_on (ap (λ (x : Walk). x.phase) e))
      | inr leads ↦ back leads
    ]
      where
        back : Leads Confirm w.phase w.aim → Gives now (still c now o is h room op there confirm_free w None) o false
        back leads =
            let new = still c now o is h room op there confirm_free w None in
            let after = went op (c.steps + 1) w None op.prepared in
            let on : IsOnItsWay new after = record {
              kept = first_aside w.phase leads.0 c.arena (past_of new) op.task.key None w after.walk.first
                  (row_aside w.phase leads.0 c.arena (past_of new) op.task.key confirming.row w (past_aside w.phase leads.0 c.arena (past_of c) (past_of new) op.task.key confirming.row w kept_now));
              bound = always.light (get_no_remove (ask op.task) gets);
              unprepared = confirming.unprepared;
            } in
            still_gives c now o is h room op there confirm_free w None
            (subst (λ (p : Phase). MayFollow p w.phase) (sym at_confirm) leads.1)
            (on_way_unready w.phase leads.0) same.aim leads.2
            (sym (no_change op.walk.taken confirming.tells))
            (notes w.phase leads.1 leads.0)
            (kept_on_way w.phase leads.0 new o after on)
            (λ facts. on_walk w.phase leads.0 c.arena after (look_back op.birth c.arena op.walk w after.walk.first facts
            (learns_confirm c.arena op.walk op.task.key at_confirm at_border w confirms) (subst (λ (p : Phase). IsBackAt p c.arena op) at_confirm (h.remembered o op there).walk)))
            false (sym (on_way_open w.phase leads.0))
          where
            notes : (p : Phase) → MayFollow Confirm p → IsOnWay p → Notes (shown c) (view_of op) op.walk.phase p None
            notes p follows on = subst (λ (q : Phase). Notes (shown c) (view_of op) q p None) (sym at_confirm) (by_phase p follows on)
              where
                by_phase : (q : Phase) → MayFollow Confirm q → IsOnWay q → Notes (shown c) (view_of op) Confirm q None
                by_phase Enter follows on = refl
                by_phase Forward follows on = refl
                by_phase Done follows on = absurd on
                by_phase _ follows on = absurd follows
