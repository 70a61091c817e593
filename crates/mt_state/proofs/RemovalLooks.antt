-- The steps of a removal that change no pair: it judges its border node, gives its locks back, and locks and judges on its way back to a link.
use Rattle.std.proofs.Common.{◌≡◌, ◌≢◌, ℕ, ◌+◌, ◌<◌, ◌⊎◌, inl, inr, Bool, true, false, List, [], ◌∷◌, length, Option, Some, None, refl, sym, ap, subst, ◌∙◌, arith}
use Rattle.std.proofs.{lemmas.Bool.{cases_eq, cases_lt, both_ways}, lemmas.Option.same_Some}
use Rattle.std.specs.{Prelude.{◌^◌}, FinMap.get}
use Rattle.mt_rows.specs.{declared.reply.Reply.TheVariants.Absent, Commands.key_of, Maps.reply_of, Tenants.{Contents, tenant_map}}
use Rattle.mt_rows.proofs.ContentLaws.{get-tenant_map}
use Rattle.mt_tape.specs.{Tapes.Kept, Histories.contents_at}
use Rattle.mt_border.specs.declared.entry.Entry.{Entry}
use Rattle.mt_arena.specs.{NodeView.NodeView, Edits.{locked, unlocked}, Forests.{tree_at, layer_of}, Arena.{ArenaView, content_of, Guarantee}}
use Rattle.mt_arena.specs.Accesses.{at, IsHeld, with_node}
use Rattle.mt_operation.specs.{declared.phase.Phase.Phase, declared.phase.Phase.TheVariants.{Enter, Lock, Judge, DropKey, CleanLayer, Unlock, Done}}
use Rattle.mt_operation.specs.{declared.walk.Walk.Walk, declared.removal.Removal.Removal, declared.outcome.Outcome.Outcome, declared.prepared.Prepared.Prepared}
use Rattle.mt_operation.specs.{declared.splits.Halves.Halves, declared.operation.Operation.Operation, Tasks.ask, Operations.{view_of, IsUnsplit, OperationView}}
use Rattle.mt_operation.specs.{Phases.{is_done, MayFollow, IsOfKind, has_splits}, Tables.{op_at as operation_at}}
use Rattle.mt_descent.specs.KeptWalks.{KeptAt, IsAtEnter, IsAtBorder}
use Rattle.mt_held.specs.{Taping.reserving, Holds.HoldsOnly, Moves.walk_at}
use Rattle.mt_remove.specs.{Writes.{is_remove, IsRemoval}, KeptRemovals.{IsAmong as IsOfRemoval, HoldsRemoval, IsAtDropKey, IsAtCleanLayer, IsAtUnlockRemoval}}
use Rattle.mt_remove.specs.{RemovalEdits.{ReturnsRemoval, root_of}, Judge.{IsMadeReady, FindsAbsent}, Unlock.{EmptiesLayer, IsUnlockRemoval}}
use Rattle.mt_remove.specs.Ways.{IsLockWay, FindsEnd}
use Rattle.mt_state.specs.{Views.{StateView, Core, shown, past_of, quota_of, map_of}, Steps.told_change, Notes.{Notes, EndsJudging}}
use Rattle.mt_state.specs.KeptOperations.{IsOpenOperation, IsOnItsWay, IsJudging, IsDropping, IsGoingBack, IsBound, HasAnswer, IsUnlocking, MayUnlock, MayUnlockUnsplit, IsKeptAt}
use Rattle.mt_state.specs.{Invariant.{HoldsAt, HoldsLast, IsCountedUpTo, StateInvariant}, Writes.{wrote, removing}, Ways.IsOnWay, Touches.{Touches, locks_next}}
use Rattle.mt_descent.proofs.Decides.{outdated_or_not}
use Rattle.mt_state.proofs.{Telling.{Gives, map_now}, Descents.changed_leads, Moved.{went, went_on, first_begun, first_upto}}
use Rattle.mt_state.proofs.{Bound.answered_on, Quiet.LeavesPairs, Still.{leaves_all, unready_none, IsUnready}, Reading.walk_same, Replies.remove_missing}
use Rattle.mt_state.proofs.OneNode.{returning_told, replaced_leaves, replaced_holds, replaced_touches, quiet_grows, holds_here, quiet_gives, quiet_gives_on}
use Rattle.mt_state.proofs.{Locking.{ready_one, lock_done}, LayerSteps.back_gives, SplitSteps.{returned_leaves, returned_touches, is_held_or_not}}
use Rattle.mt_state.proofs.{RemovalSteps.removal_kept, Lawful.{remove_no_scan, scan_free}}
use Rattle.mt_state.{specs.KeptBack.{ArenaFacts, IsBackAt}, proofs.KeptBack.{first_aside_back, top_back}}
use Rattle.mt_descent.specs.KeptBack.{RemembersKept}
use Rattle.mt_arena.{specs.Given.IsTreeOutFrom, proofs.Settled.not_true}
use Rattle.mt_walks.specs.Walked.{IsWithin}

-- an operation that was told something goes back
pub going_back : (told : Option Outcome) → told ≢ None → (c : Core) (op : Operation) → IsBound told c op → IsGoingBack c op
going_back None some c op bound = absurd (some refl)
going_back (Some told) some c op bound = bound

bound_told : (told : Option Outcome) (outcome : Outcome) → told ≡ Some outcome → (c : Core) (op : Operation) → IsGoingBack c op → IsBound told c op
bound_told None outcome is c op back = absurd (cc)
bound_told (Some other) outcome is c op back = back

-- it ends with the outcome that it has
ends_judging : (had : Option Outcome) → had ≢ None → (old : StateView) (op : OperationView) → EndsJudging had old op op.outcome
ends_judging None some old op = absurd (some refl)
ends_judging (Some told) some old op = refl

module _ (c : Core) (o : ℕ) (h : StateInvariant c) (few : c.steps < 2 ^ 59) (op : Operation) (there : operation_at c.table o ≡ Some op) where
  abbrev k : ℕ
  k = op.walk.place.node

  abbrev n : NodeView
  n = at c.arena op.walk.place.node

  always : IsOpenOperation c op
  always = (h.ops o op there).always

  unsplit_at : (p : Phase) → op.walk.phase ≡ p → has_splits p ≡ false → IsUnsplit op.splits
  unsplit_at p at_p none = (h.ops o op there).unsplit (ap has_splits at_p ∙ none)

  module _ (at_judge : op.walk.phase ≡ Judge) where
    judging : IsJudging c o op
    judging = subst (λ (p : Phase). IsKeptAt p c o op) at_judge (h.ops o op there).kept

    begun_judge : 0 < op.walk.first
    begun_judge = always.begun (λ enters. absurd (let no : Judge ≡ Enter = sym at_judge ∙ enters in cc))

    -- a removal that has made all ready
    pub drop_ready : op.outcome ≡ None → IsRemoval op.task → is_remove (ask op.task) ≡ true → (arena : ArenaView) (tape : Kept) (w : Walk) (prepared : Prepared)
        → IsMadeReady o op.task c.arena arena c.tape tape op.walk w prepared
        → Gives (shown c) (wrote c arena tape c.accounts o op w op.outcome (Some prepared)) o false
    drop_ready untold removal removes arena tape w prepared t =
        let after = went op (c.steps + 1) w op.outcome (Some prepared) in
        let new = wrote c c.arena (reserving c.tape) c.accounts o op w op.outcome (Some prepared) in
        let drops : w.phase ≡ DropKey = ap (λ (x : Walk). x.phase) t.walk in
        let place : w.place.node ≡ k = ap (λ (x : Walk). x.place.node) t.walk in
        let whole = walk_same c op always w begun_judge t.keeps.same.first in
        let own : IsDropping new o after = record {
          prepared = prepared;
          has = refl;
          drops = subst (IsAtDropKey c.arena o op.task prepared) (sym whole) t.kept;
          removes = removes;
          light = subst (λ (told : Option Outcome). IsBound told c op) untold judging.bound;
          untold = untold;
        } in
        subst (λ (v : ArenaView). Gives (shown c) (wrote c v tape c.accounts o op w op.outcome (Some prepared)) o false) (sym t.stays)
        (subst (λ (x : Kept). Gives (shown c) (wrote c c.arena x c.accounts o op w op.outcome (Some prepared)) o false) (sym t.tape_is)
        (quiet_gives c (shown c) o refl h few op there c.arena (c.tape.reserved + 1) w op.outcome (Some prepared)
        (leaves_all c o h) (ap is_done at_judge)
        (subst (λ (p : Phase). MayFollow p w.phase) (sym at_judge) (subst (MayFollow Judge) (sym drops) tt))
        t.keeps.same.aim (subst (λ (p : Phase). IsOfKind p w.aim) (sym drops) (t.keeps.same.aim ∙ subst (λ (p : Phase). IsOfKind p op.walk.aim) at_judge always.kind)) refl
        (subst (λ (p : Phase). Notes (shown c) (view_of op) p w.phase op.outcome) (sym at_judge) (subst (λ (q : Phase). Notes (shown c) (view_of op) Judge q op.outcome) (sym drops) (untold, untold)))
        (λ j inside holds. subst (λ (q : Phase). HoldsAt q after j) (sym drops) (holds_here c (shown c) o refl h few op there Judge at_judge j inside holds ∙ sym place))
        (subst (λ (q : Phase). IsKeptAt q new o after) (sym drops) own)
        (λ facts. subst (λ (q : Phase). IsBackAt q c.arena after) (sym drops) tt)
        (unsplit_at Judge at_judge refl)
        (let none = unready_none op Judge at_judge tt in let one = ready_one after DropKey drops refl in omega (arith, none, one))
        (λ j inside. inl refl)
        false (sym (ap is_done drops))))

    -- a removal that misses its key
    pub drop_missing : op.outcome ≡ None → IsRemoval op.task → is_remove (ask op.task) ≡ true → (arena : ArenaView) (w : Walk) → FindsAbsent o op.task c.arena arena op.walk w
        → Gives (shown c) (wrote c arena c.tape c.accounts o op w (Some (record { reply = Absent; at = c.steps + 1 })) op.prepared) o true
    drop_missing untold removal removes arena w t =
        let told : Option Outcome = Some (record { reply = Absent; at = c.steps + 1 }) in
        let after = went op (c.steps + 1) w told op.prepared in
        let u = t.unlocks in
        let none : get (tenant_map op.task.tenant (content_of c.arena)) (key_of (ask op.task)) ≡ None =
        get-tenant_map op.task.tenant (content_of c.arena) (key_of (ask op.task)) ∙ ap (get (content_of c.arena)) (sym (always.owner (remove_no_scan (ask op.task) removes))) ∙ t.missing in
        let now = ap (λ (all : Contents). tenant_map op.task.tenant (contents_at c.tape.entries all (c.steps + 1))) u.keeps.contents ∙ map_now c h.tape op.task.tenant (c.steps + 1) (omega arith) in
        let own : HasAnswer (wrote c arena c.tape c.accounts o op w told op.prepared) after = record {
          outcome = record { reply = Absent; at = c.steps + 1 };
          told = refl;
          right = record {
            begun = first_begun c op always w;
            since = first_upto c op always w;
            upto = omega arith;
            lawful = scan_free (map_of (shown (wrote c arena c.tape c.accounts o op w told op.prepared)) op.task.tenant) (IsWithin after.walk.first after.last) (ask op.task) Absent (remove_no_scan (ask op.task) removes);
            placed = λ real plain. record {
              changes = λ e. absurd (cc);
              looks = λ e. remove_missing (quota_of (shown c) op.task.tenant) op.task.request (tenant_map op.task.tenant (content_of c.arena)) removes none
                  ∙ ap (reply_of (quota_of (shown c) op.task.tenant) (ask op.task)) (sym now);
            };
          };
          unprepared = judging.unprepared;
        } in
        back_gives c o h few op there arena w told u.is u.keeps judging.judges.judged.held (holds_here c (shown c) o refl h few op there Judge at_judge)
        Judge Done at_judge (ap (λ (x : Walk). x.phase) u.walk) refl tt tt tt u.keeps.same.aim tt (sym (ap told_change untold))
        (subst (λ had. EndsJudging had (shown c) (view_of op) told) (sym untold) (inr (inl (removes, refl))))
        own (λ facts. tt) (unsplit_at Judge at_judge refl)

    -- one on its way back that finds no link
    pub back_ended : op.outcome ≢ None → (arena : ArenaView) (w : Walk) → FindsEnd o op.task.key c.arena arena op.walk w
        → Gives (shown c) (wrote c arena c.tape c.accounts o op w op.outcome op.prepared) o true
    back_ended told arena w t =
        let u = t.unlocks in
        let new = wrote c arena c.tape c.accounts o op w op.outcome op.prepared in
        let going = going_back op.outcome told c op judging.bound in
        let grows = quiet_grows c o arena c.tape.reserved (went op (c.steps + 1) w op.outcome op.prepared) u.keeps.contents in
        back_gives c o h few op there arena w op.outcome u.is u.keeps judging.judges.judged.held (holds_here c (shown c) o refl h few op there Judge at_judge)
        Judge Done at_judge (ap (λ (x : Walk). x.phase) u.walk) refl tt tt tt u.keeps.same.aim tt refl
        (ends_judging op.outcome told (shown c) (view_of op))
        (answered_on c new op always grows w op.prepared op.splits op.removal judging.unprepared going.answer) (λ facts. tt) (unsplit_at Judge at_judge refl)

  module _ (at_lock : op.walk.phase ≡ Lock) (told : op.outcome ≢ None) where
    locking : IsOnItsWay c op
    locking = subst (λ (p : Phase). IsKeptAt p c o op) at_lock (h.ops o op there).kept

    at_border : IsAtBorder c.arena op.task.key op.walk
    at_border = subst (λ (p : Phase). KeptAt p c.arena (past_of c) op.task.key None op.walk) at_lock locking.kept

    going : IsGoingBack c op
    going = going_back op.outcome told c op locking.bound

    begun_lock : 0 < op.walk.first
    begun_lock = always.begun (λ enters. absurd (let no : Lock ≡ Enter = sym at_lock ∙ enters in cc))

    module _ (arena : ArenaView) (w : Walk) (t : IsLockWay o op.task.key c.arena arena op.walk w op.removal) where
      abbrev locked_core : Core
      locked_core = wrote c arena c.tape c.accounts o op w op.outcome op.prepared

      -- where it goes on as a put would
      as_put : w ≡ t.reached → Gives (shown c) locked_core o false
      as_put same = subst (λ (x : Walk). Gives (shown c) (wrote c arena c.tape c.accounts o op x op.outcome op.prepared) o false) (sym same)
          (lock_done c (shown c) o refl h few op there at_lock arena t.reached t.locks)

      -- it holds the border node of the link
      at_link : n.version.deleted ≡ false → arena ≡ with_node c.arena k (locked n o) → t.reached ≡ record op.walk { phase = Judge } → w ≡ walk_at CleanLayer t.reached
          → Gives (shown c) locked_core o false
      at_link live takes reached goes =
          let after = went op (c.steps + 1) w op.outcome op.prepared in
          let within = at_border.covers.remembered.there in
          let cleans : w.phase ≡ CleanLayer = ap (λ (x : Walk). x.phase) goes in
          let place : w.place.node ≡ k = ap (λ (x : Walk). x.place.node) (goes ∙ ap (walk_at CleanLayer) reached) in
          let writes : w.aim ≡ op.walk.aim = ap (λ (x : Walk). x.aim) goes ∙ t.locks.keeps.same.aim in
          let whole = walk_same c op always w begun_lock (ap (λ (x : Walk). x.first) goes ∙ t.locks.keeps.same.first) in
          let counted : IsCountedUpTo (c.steps + 1) (locked n o) = let was = h.versions k within in record { inserts = omega (arith, was.inserts); splits = omega (arith, was.splits) } in
          let leaves : LeavesPairs c o (with_node c.arena k (locked n o)) = replaced_leaves c o h k within (locked n o) refl refl refl counted (λ held. inr live)
          (subst (Guarantee o c.arena) takes t.locks.keeps.guarantee) (subst (λ (v : ArenaView). content_of v ≡ content_of c.arena) takes t.locks.keeps.contents) in
          let grows = quiet_grows c o arena c.tape.reserved after t.locks.keeps.contents in
          let answer = answered_on c locked_core op always grows w op.prepared op.splits op.removal locking.unprepared going.answer in
          quiet_gives c (shown c) o refl h few op there arena c.tape.reserved w op.outcome op.prepared
          (subst (LeavesPairs c o) (sym takes) leaves) (ap is_done at_lock)
          (subst (λ (p : Phase). MayFollow p w.phase) (sym at_lock) (subst (MayFollow Lock) (sym cleans) tt))
          writes (subst (λ (p : Phase). IsOfKind p w.aim) (sym cleans) (writes ∙ subst (λ (p : Phase). IsOfKind p op.walk.aim) at_lock always.kind)) refl
          (subst (λ (p : Phase). Notes (shown c) (view_of op) p w.phase op.outcome) (sym at_lock) (subst (λ (p : Phase). Notes (shown c) (view_of op) Lock p op.outcome) (sym cleans) refl))
          (λ j inside holds. subst (λ (p : Phase). HoldsAt p after j) (sym cleans) (locked_here within j (subst (λ (v : ArenaView). j < length v.nodes) takes inside) (subst (λ (v : ArenaView). (at v j).holder ≡ Some o) takes holds) ∙ sym place))
          (subst (λ (p : Phase). IsKeptAt p locked_core o after) (sym cleans)
          (removal_kept CleanLayer locked_core o after going.removes (unsplit_at Lock at_lock refl) (subst (λ (x : Walk). IsAtCleanLayer arena o op.task.key x op.removal) (sym whole) (t.kept cleans)) answer))
          (λ facts. subst (λ (p : Phase). IsBackAt p arena after) (sym cleans) tt)
          (unsplit_at Lock at_lock refl)
          (let none = unready_none op Lock at_lock tt in let no = unready_none after CleanLayer cleans tt in omega (arith, none, no))
          (subst (Touches (view_of op) o c.arena) (sym takes) (replaced_touches c.arena k within (locked n o) (view_of op) o (inr (ap locks_next at_lock, refl))))
          false (sym (ap is_done cleans))
        where
          -- it holds no node but that one
          locked_here : k < length c.arena.nodes → HoldsOnly (with_node c.arena k (locked n o)) o k
          locked_here within j inside holds = elim (replaced_holds c.arena k within (locked n o) o j inside holds) [
            | inl same ↦ same.0
            | inr was ↦ absurd (holds_here c (shown c) o refl h few op there Lock at_lock j was.0 was.1)
          ]

      -- a removal that was to lock its border node on its way back
      pub lock_back : Gives (shown c) locked_core o false
      lock_back = elim (outdated_or_not n op.walk.place.seen) [
        | inl outdated ↦ as_put (t.goes (λ judges. absurd (by t.reached.phase judges (subst (λ (x : Walk). IsOnWay x.phase) (sym (t.locks.locks.goes_on outdated)) (changed_leads Lock tt tt op.walk n.version n.next).0))))
        | inr fresh ↦
            let reached = t.locks.locks.judges fresh in
            elim (cases_eq (layer_of (tree_at c.arena.trees t.tree).prefix) (op.walk.layer + 1)) [
              | inl below ↦ at_link (not_true n.version.deleted (λ gone. fresh (inl gone))) (t.locks.locks.takes fresh) reached (t.cleans (ap (λ (x : Walk). x.phase) reached) below)
              | inr other ↦ as_put (t.goes (λ judges. other))
            ]
      ]
        where
          by : (p : Phase) → p ≡ Judge → IsOnWay p → ⊥
          by p is on = subst IsOnWay is on

  module _ (at_unlock : op.walk.phase ≡ Unlock) (removes : is_remove (ask op.task) ≡ true) (told : op.outcome ≢ None) (none : op.splits.halves.items ≡ []) where
    unlocking : IsUnlocking c o op
    unlocking = returning_told op.outcome told c o op (subst (λ (p : Phase). IsKeptAt p c o op) at_unlock (h.ops o op there).kept)

    both : MayUnlock [] c.arena o op
    both = subst (λ (halves : List Halves). MayUnlock halves c.arena o op) none unlocking.unlocks

    unlocks : IsAtUnlockRemoval c.arena o op.task.key op.walk op.removal
    unlocks = subst (λ (b : Bool). MayUnlockUnsplit b c.arena o op) removes both.0

    begun_unlock : 0 < op.walk.first
    begun_unlock = always.begun (λ enters. absurd (let no : Unlock ≡ Enter = sym at_unlock ∙ enters in cc))

    -- all that it holds are nodes of its removal, and it holds each of these
    holds_removal : HoldsRemoval c.arena o op.walk op.removal
    holds_removal j inside holds =
        subst (λ (halves : List Halves). HoldsLast halves op j) none (holds_here c (shown c) o refl h few op there Unlock at_unlock j inside holds)

    removal_held : (j : ℕ) → IsOfRemoval op.walk op.removal j → IsHeld c.arena j o
    removal_held j among = elim among [
      | inl node ↦ subst (λ i. IsHeld c.arena i o) (sym node) unlocks.node.returns.held
      | inr (inl left) ↦ (unlocks.left j left).0.returns.held
      | inr (inr (inl parent)) ↦ (unlocks.parent j parent).returns.held
      | inr (inr (inr below)) ↦ (unlocks.removes.below j below).returns.held
    ]

    each_returned : (arena : ArenaView) → ReturnsRemoval c.arena arena op.walk op.removal → (j : ℕ) → j < length c.arena.nodes
        → (((at c.arena j).holder ≡ Some o) × (at arena j ≡ unlocked (at c.arena j))) ⊎ (at arena j ≡ at c.arena j)
    each_returned arena r j inside = elim (is_held_or_not (at c.arena j).holder o) [
      | inl held ↦ inl (held, r.given j (holds_removal j inside held))
      | inr free ↦ inr (r.others j (λ among. free (removal_held j among).holder))
    ]

    -- whether the layer was left empty can be told
    pub empties_or_not : EmptiesLayer c.arena op.walk op.removal ⊎ ¬ EmptiesLayer c.arena op.walk op.removal
    empties_or_not = elim (true_or_not op.removal.emptied) [
      | inr stays ↦ inr (λ e. stays e.emptied)
      | inl emptied ↦ elim (cases_lt 0 op.walk.layer) [
        | inr top ↦ inr (λ e. absurd (let below = e.below in omega (arith, top, below)))
        | inl below ↦ elim (is_root_or_not (cases_eq root op.walk.place.node) (is_held_or_not op.removal.left root)) [
          | inr other ↦ inr (λ e. other e.root)
          | inl is_root ↦ elim (cases_eq (at c.arena root).level 0) [
            | inr high ↦ inr (λ e. high e.border)
            | inl border ↦ elim (empty_or_not (at c.arena root).slots) [
              | inr full ↦ inr (λ e. full e.empty)
              | inl empty ↦ inl (record { emptied = emptied; below = below; root = is_root; border = border; empty = empty })
            ]
          ]
        ]
      ]
    ]
      where
        root : ℕ
        root = root_of c.arena op.walk.place.tree

        true_or_not : (b : Bool) → (b ≡ true) ⊎ (b ≢ true)
        true_or_not true = inl refl
        true_or_not false = inr (λ e. absurd (cc))

        empty_or_not : (slots : List Entry) → (slots ≡ []) ⊎ (slots ≢ [])
        empty_or_not [] = inl refl
        empty_or_not (e ∷ slots) = inr (λ e. absurd (cc))

        is_root_or_not : {A B : Type 0} → A ⊎ ¬ A → B ⊎ ¬ B → (A ⊎ B) ⊎ ¬ (A ⊎ B)
        is_root_or_not (inl a) b = inl (inl a)
        is_root_or_not (inr never) (inl b) = inl (inr b)
        is_root_or_not (inr never) (inr neither) = inr (λ e. elim e [ inl a ↦ never a | inr b ↦ neither b ])

    module _ (arena : ArenaView) (w : Walk) (r : Removal) (t : IsUnlockRemoval o c.arena arena op.walk w op.removal r) where
      abbrev after : Operation
      after = went_on op (c.steps + 1) w op.outcome op.prepared op.splits r

      abbrev new : Core
      new = removing c arena c.tape c.accounts o op w op.outcome op.prepared r

      answer : HasAnswer new after
      answer = answered_on c new op always (quiet_grows c o arena c.tape.reserved after t.keeps.contents) w op.prepared op.splits r unlocking.answer.unprepared unlocking.answer

      returned_on : (q : Phase) → w.phase ≡ q → MayFollow Unlock q → IsUnready q → IsOfKind q w.aim → Notes (shown c) (view_of op) Unlock q op.outcome → IsKeptAt q new o after
          → (ArenaFacts c.arena → IsBackAt q arena after) → (ArenaFacts c.arena → (u : ℕ) → r.cleans ≡ Some u → IsTreeOutFrom (op.birth + 1) c.arena.retired u)
          → Gives (shown c) new o (is_done w.phase)
      returned_on q at_q follows unready kind notes kept back cleans =
          let each = each_returned arena t.is in
          quiet_gives_on c (shown c) o refl h few op there arena c.tape.reserved w op.outcome op.prepared op.splits r
          (returned_leaves c o h arena t.is.count t.is.trees each t.keeps.guarantee t.keeps.contents t.is.retired)
          (λ puts. absurd (both_ways _ puts removes)) (ap is_done at_unlock)
          (subst (λ (p : Phase). MayFollow p w.phase) (sym at_unlock) (subst (MayFollow Unlock) (sym at_q) follows))
          t.keeps.same.aim (subst (λ (p : Phase). IsOfKind p w.aim) (sym at_q) kind) refl
          (subst (λ (p : Phase). Notes (shown c) (view_of op) p w.phase op.outcome) (sym at_unlock) (subst (λ (p : Phase). Notes (shown c) (view_of op) Unlock p op.outcome) (sym at_q) notes))
          (λ j inside holds. absurd (t.nothing holds_removal j inside holds))
          (subst (λ (p : Phase). IsKeptAt p new o after) (sym at_q) kept)
          (λ facts. subst (λ (p : Phase). IsBackAt p arena after) (sym at_q) (back facts)) cleans
          (λ unsplit. both.1)
          (let was = unready_none op Unlock at_unlock tt in let no = unready_none after q at_q unready in omega (arith, was, no))
          (returned_touches c o h arena t.is.count t.is.trees each (view_of op)) (is_done w.phase) refl

      -- it is done, or goes back to the link of a layer that it has left empty
      pub removal_returned : Gives (shown c) new o (is_done w.phase)
      removal_returned = elim empties_or_not [
        | inr stays ↦
            returned_on Done (ap (λ (x : Walk). x.phase) (t.ends stays).0) tt tt tt refl answer (λ facts. tt)
            (λ facts u is. absurd (let none = ap (λ (x : Removal). x.cleans) (sym (t.ends stays).1) ∙ is in cc))
        | inl empties ↦
            let goes = t.cleans empties in
            let back = t.kept op.task.key unlocks empties in
            let whole = walk_same c op always w begun_unlock t.keeps.same.first in
            let enters : w.phase ≡ Enter = ap (λ (x : Walk). x.phase) goes.0 in
            let at_enter : IsAtEnter arena op.task.key after.walk = subst (IsAtEnter arena op.task.key) (sym whole) back.0 in
            returned_on Enter enters tt tt tt refl (record {
              kept = subst (λ (q : Phase). KeptAt q arena (past_of new) op.task.key None after.walk) (sym (ap (λ (x : Walk). x.phase) whole ∙ enters)) at_enter;
              bound = bound_told op.outcome unlocking.answer.outcome unlocking.answer.told new after (record { removes = removes; answer = answer; cleans = back.1 });
              unprepared = unlocking.answer.unprepared;
            })
            (λ facts. first_aside_back op.birth arena w after.walk.first (subst (λ (x : Walk). RemembersKept op.birth arena x) (sym goes.0) (top_back op.birth c.arena facts arena t.is.retired op.walk)))
            (λ facts u is.
            let of : op.walk.place.tree ≡ u = same_Some op.walk.place.tree u (ap (λ (x : Removal). x.cleans) (sym goes.1) ∙ is) in
            subst (λ i. IsTreeOutFrom (op.birth + 1) c.arena.retired i) (unlocks.node.tree ∙ of)
            ((h.remembered o op there).held op.walk.place.node unlocks.node.returns.held.there unlocks.node.returns.held.holder).1)
      ]
