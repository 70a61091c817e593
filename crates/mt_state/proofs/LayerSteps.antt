-- The steps that make a layer, and those that lead into one: for a put that meets another long key, and for one that goes on below.
use Rattle.std.proofs.Common.{◌≡◌, ◌≢◌, ℕ, ◌+◌, ◌<◌, ◌≤◌, inl, inr, Bool, true, false, List, [], length, Option, Some, None, refl, sym, ap, subst, ◌∙◌, arith}
use Rattle.std.proofs.lemmas.List.Elements.{All-from_get_or}
use Rattle.std.specs.{Prelude.{◌^◌}, FinMap.len}
use Rattle.mt_rows.specs.{declared.reply.Reply.TheVariants.NoMemory, Rows.Bytes, Tenants.{Contents, tenant_map}}
use Rattle.mt_border.{specs.Contents.IsStamped, proofs.Edits.any_entry}
use Rattle.mt_tape.specs.Histories.{contents_at, IsLegalTape}
use Rattle.mt_arena.specs.{NodeView.{NodeView, place_at}, Edits.unlocked, Arena.{ArenaView, content_of, Guarantee}, Accesses.{at, tree_of, IsHeld, with_node}}
use Rattle.mt_operation.specs.{declared.walk.Aim.Aim, declared.phase.Phase.Phase}
use Rattle.mt_operation.specs.{declared.phase.Phase.TheVariants.{Enter, Judge, MakeLayer, MarkUnstable, Link, MarkLayer, Unlock, Done}, declared.walk.Walk.Walk}
use Rattle.mt_operation.specs.{declared.outcome.Outcome.Outcome, declared.splits.Halves.Halves, declared.operation.Operation.Operation}
use Rattle.mt_operation.specs.Operations.{OperationView, view_of, IsUnsplit}
use Rattle.mt_operation.specs.Phases.{is_done, MayFollow, IsOfKind, has_splits, IsLayerPhase, FitsAim, IsLayerKind, Kind, change_at, holds_of, may_be_parts, row, is_unplaced}
use Rattle.mt_operation.specs.{Tasks.ask, Tables.{IsLeastBirth, op_at as operation_at}}
use Rattle.mt_remove.specs.Writes.{is_remove}
use Rattle.mt_descent.specs.{KeptWalks.{IsAtEnter, KeptAt, walk_place}, WalkMoves.KeepsPairs}
use Rattle.mt_insert.specs.{KeptPuts.IsAtMakeLayer, Judge.MeetsOther}
use Rattle.mt_held.specs.{Holds.HoldsOnly, Unlock.{MeetsLink, IsUnlock}}
use Rattle.mt_layer.specs.{KeptLayers.KeptLayer, NewLayers.HasStamp, Builds.{IsLayerFrom, IsLeave}}
use Rattle.mt_state.specs.{Views.{StateView, Core, shown, past_of, map_of}, Steps.told_change, Notes.{Notes, Keeps}, Touches.Touches, Given.ChangesArena}
use Rattle.mt_state.specs.KeptOperations.{IsOpenOperation, IsJudging, IsLayering, IsLeaving, IsReturning, HasAnswer, IsKeptAt, IsKeptOf, IsKeptFor, IsBound}
use Rattle.mt_state.specs.KeptBack.{ArenaFacts, IsWalkBack, IsBackAt, Retires}
use Rattle.mt_descent.specs.{KeptBack.RemembersKept, WalkMoves.walk_into}
use Rattle.mt_state.specs.Invariant.{IsTape, IsStampOf, AreStamps, HoldsLast, HoldsAt, StateInvariant, StateGuarantee, HoldsBy}
use Rattle.mt_state.proofs.{Telling.{Gives, gives, logs_later}, Quiet.{quiet, LeavesPairs}, Moved.{went, open_moved, has_moved, first_begun, first_upto}}
use Rattle.mt_state.proofs.{Still.{IsUnready, floor_made, leaves_all, unready_none, IsUnreadyBy}, Reading.walk_same}
use Rattle.mt_state.proofs.OneNode.{counted_unlocked, replaced_at, replaced_touches, replaced_leaves, quiet_grows, holds_here, quiet_gives, border_alone}
use Rattle.mt_state.proofs.{LayerNodes.{BuildsLayer, builds_by}, Giving.{are_forgotten, changes_from, retires_given}, KeptBack.{own_back, first_aside_back, link_back}, Bound.bound_on, Lawful.stopped_free}
use Rattle.mt_walks.specs.Walked.{IsWithin}
use Rattle.mt_operation.specs.declared.walk.Aim.TheVariants as aims
use Rattle.mt_operation.specs.Phases as kinds

-- a phase at which an operation makes a layer, or has made it
abbrev HasLayerBy : Kind → Type 0
HasLayerBy kinds.Layers = Unit {0}
HasLayerBy kinds.Returns = Unit {0}
HasLayerBy _ = ⊥

abbrev HasLayer : Phase → Type 0
HasLayer p = HasLayerBy (row p).kind

-- where a layer comes one step nearer, it goes on so, or the lock may be given back
layer_leads : (p q : Phase) → IsLayerPhase p → MayFollow p q → q ≢ Done → HasLayer q
layer_leads MakeLayer MarkUnstable i f on = tt
layer_leads MakeLayer Done i f on = absurd (on refl)
layer_leads MakeLayer _ i f on = absurd f
layer_leads MarkUnstable Link i f on = tt
layer_leads MarkUnstable _ i f on = absurd f
layer_leads Link MarkLayer i f on = tt
layer_leads Link _ i f on = absurd f
layer_leads MarkLayer Unlock i f on = tt
layer_leads MarkLayer _ i f on = absurd f
layer_leads _ q i f on = absurd i

-- an operation that makes a layer writes, has a step left, and nothing split
layer_begun : (p : Phase) → IsLayerPhase p → p ≢ Enter
layer_begun Enter i e = i
layer_begun _ i e = absurd (cc)

layer_writes : (p : Phase) → IsLayerPhase p → (aim : Aim) → IsOfKind p aim → aim ≡ aims.Write
layer_writes p i aim kind = by (row p).kind i kind
  where
    by : (k : Kind) → IsLayerKind k → FitsAim k aim → aim ≡ aims.Write
    by kinds.Layers i kind = kind
    by _ i kind = absurd i

layer_open : (p : Phase) → IsLayerPhase p → is_done p ≡ false
layer_open Done i = absurd i
layer_open _ i = refl

layer_unready : (p : Phase) → IsLayerPhase p → IsUnready p
layer_unready p i = by (row p).kind i
  where
    by : (k : Kind) → IsLayerKind k → IsUnreadyBy (change_at k)
    by kinds.Layers i = tt
    by _ i = absurd i

layer_unsplit : (p : Phase) → IsLayerPhase p → has_splits p ≡ false
layer_unsplit p i = by (row p).kind i
  where
    by : (k : Kind) → IsLayerKind k → may_be_parts (holds_of k) ≡ false
    by kinds.Layers i = refl
    by _ i = absurd i

-- it holds its border node alone
layer_held : (p : Phase) → IsLayerPhase p → (op : Operation) (k : ℕ) → HoldsAt p op k → k ≡ op.walk.place.node
layer_held p i op k holds = by (row p).kind i holds
  where
    by : (of : Kind) → IsLayerKind of → HoldsBy (holds_of of) op k → k ≡ op.walk.place.node
    by kinds.Layers i holds = holds
    by _ i holds = absurd i

layer_kept : (p : Phase) → IsLayerPhase p → (c : Core) (o : ℕ) (op : Operation) → IsKeptAt p c o op → IsLayering c o op p
layer_kept p i c o op kept = by (row p).kind i kept
  where
    by : (k : Kind) → IsLayerKind k → IsKeptFor k p c o op → IsLayering c o op p
    by kinds.Layers i kept = kept
    by _ i kept = absurd i

kept_layering : (p : Phase) → IsLayerPhase p → (c : Core) (o : ℕ) (op : Operation) → IsLayering c o op p → IsKeptAt p c o op
kept_layering p i c o op layering = by (row p).kind i
  where
    by : (k : Kind) → IsLayerKind k → IsKeptFor k p c o op
    by kinds.Layers i = layering
    by _ i = absurd i

-- so does one that has made it
made_kind : (p : Phase) → HasLayer p → (aim : Aim) → aim ≡ aims.Write → IsOfKind p aim
made_kind p i aim is = by (row p).kind i
  where
    by : (k : Kind) → HasLayerBy k → FitsAim k aim
    by kinds.Layers i = is
    by kinds.Returns i = is
    by _ i = absurd i

made_open : (p : Phase) → HasLayer p → is_done p ≡ false
made_open Done i = absurd i
made_open _ i = refl

made_unready : (p : Phase) → HasLayer p → IsUnready p
made_unready p i = by (row p).kind i
  where
    by : (k : Kind) → HasLayerBy k → IsUnreadyBy (change_at k)
    by kinds.Layers i = tt
    by kinds.Returns i = tt
    by _ i = absurd i

made_back : (p : Phase) → HasLayer p → (v : ArenaView) (op : Operation) → IsBackAt p v op
made_back p i v op = by (row p).kind i
  where
    by : (of : Kind) → HasLayerBy of → IsWalkBack of p v op
    by kinds.Layers i = tt
    by kinds.Returns i = tt
    by _ i = absurd i

made_held : (p : Phase) → HasLayer p → (op : Operation) (k : ℕ) → op.splits.halves.items ≡ [] → k ≡ op.walk.place.node → HoldsAt p op k
made_held p i op k none is = by (row p).kind i
  where
    by : (of : Kind) → HasLayerBy of → HoldsBy (holds_of of) op k
    by kinds.Layers i = is
    by kinds.Returns i = subst (λ (halves : List Halves). HoldsLast halves op k) (sym none) (inl is)
    by _ i = absurd i

made_kept : (p : Phase) → HasLayer p → (c : Core) (o : ℕ) (op : Operation) → IsUnsplit op.splits → IsLayering c o op p → IsKeptAt p c o op
made_kept Unlock i c o op unsplit kept =
    subst (λ (told : Option Outcome). IsReturning told c o op) (sym kept.untold) (record { layering = kept; unsplit = unsplit })
made_kept p i c o op unsplit kept = kept_layering p i c o op kept

-- a step of it leaves it without an outcome
keeps_none : (b : Bool) (told : Option Outcome) → told ≡ None → Keeps b told told
keeps_none true told none = (none, none)
keeps_none false told none = refl

layer_notes : (p q : Phase) → IsLayerPhase p → HasLayer q → (old : StateView) (op : OperationView) → op.outcome ≡ None → Notes old op p q op.outcome
layer_notes MakeLayer Done i j old op none = absurd j
layer_notes MakeLayer q i j old op none = keeps_none (is_unplaced q) op.outcome none
layer_notes MarkUnstable q i j old op none = keeps_none (is_unplaced q) op.outcome none
layer_notes Link q i j old op none = keeps_none (is_unplaced q) op.outcome none
layer_notes MarkLayer q i j old op none = keeps_none (is_unplaced q) op.outcome none
layer_notes _ q i j old op none = absurd i

module _ (c : Core) (o : ℕ) (h : StateInvariant c) (few : c.steps < 2 ^ 59) (op : Operation) (there : operation_at c.table o ≡ Some op) where
  always : IsOpenOperation c op
  always = (h.ops o op there).always

  unsplit_at : (p : Phase) → op.walk.phase ≡ p → has_splits p ≡ false → IsUnsplit op.splits
  unsplit_at p at_p none = (h.ops o op there).unsplit (ap has_splits at_p ∙ none)

  kept_at : (p : Phase) → op.walk.phase ≡ p → IsKeptAt p c o op
  kept_at p at_p = subst (λ (p : Phase). IsKeptAt p c o op) at_p (h.ops o op there).kept

  begun_at : (p : Phase) → op.walk.phase ≡ p → p ≢ Enter → 0 < op.walk.first
  begun_at p at_p other = always.begun (λ enters. other (sym at_p ∙ enters))

  kind_at : (p : Phase) → op.walk.phase ≡ p → IsOfKind p op.walk.aim
  kind_at p at_p = subst (λ (p : Phase). IsOfKind p op.walk.aim) at_p always.kind

  -- the lock of the one node that it holds is given back
  module _ (arena : ArenaView) (w : Walk) (told : Option Outcome) (is : arena ≡ with_node c.arena op.walk.place.node (unlocked (at c.arena op.walk.place.node))) (keeps : KeepsPairs o c.arena arena op.walk w)
      (held : IsHeld c.arena op.walk.place.node o) (only : HoldsOnly c.arena o op.walk.place.node) where
    abbrev k : ℕ
    k = op.walk.place.node

    abbrev n : NodeView
    n = at c.arena op.walk.place.node

    abbrev after : Operation
    after = went op (c.steps + 1) w told op.prepared

    abbrev new : Core
    new = quiet c arena c.tape.reserved o after

    back_leaves : LeavesPairs c o arena
    back_leaves =
        subst (LeavesPairs c o) (sym is) (replaced_leaves c o h k held.there (unlocked n) refl refl refl (counted_unlocked n c.steps (h.versions k held.there) (unlocked n) refl) (λ e. absurd (cc))
        (subst (Guarantee o c.arena) is keeps.guarantee) (subst (λ (v : ArenaView). content_of v ≡ content_of c.arena) is keeps.contents))

    free : (j : ℕ) → j < length (with_node c.arena k (unlocked n)).nodes → (at (with_node c.arena k (unlocked n)) j).holder ≡ Some o → ⊥
    free j inside holds = let r = replaced_at c.arena k held.there (unlocked n) j inside in elim r.1 [
      | inl same ↦ let no = ap (λ (m : NodeView). m.holder) (sym same.1) ∙ holds in absurd (cc)
      | inr other ↦ other.0 (only j r.0 (ap (λ (m : NodeView). m.holder) (sym other.1) ∙ holds))
    ]

    pub back_gives : (p q : Phase) → op.walk.phase ≡ p → w.phase ≡ q → is_done p ≡ false → IsUnready p → IsUnready q → MayFollow p q
        → w.aim ≡ op.walk.aim → IsOfKind q w.aim
        → told_change told ≡ told_change op.outcome → Notes (shown c) (view_of op) p q told → IsKeptAt q new o after
        → (ArenaFacts c.arena → IsBackAt q arena after) → IsUnsplit op.splits
        → Gives (shown c) new o (is_done q)
    back_gives p q at_p at_q unfinished was_unready unready follows writes kind same notes kept back unsplit =
        quiet_gives c (shown c) o refl h few op there arena c.tape.reserved w told op.prepared
        back_leaves (ap is_done at_p ∙ unfinished)
        (subst (λ (p : Phase). MayFollow p w.phase) (sym at_p) (subst (MayFollow p) (sym at_q) follows))
        writes (subst (λ (q : Phase). IsOfKind q w.aim) (sym at_q) kind) same
        (subst (λ (p : Phase). Notes (shown c) (view_of op) p w.phase told) (sym at_p) (subst (λ (q : Phase). Notes (shown c) (view_of op) p q told) (sym at_q) notes))
        (λ j inside holds. absurd (free j (subst (λ (v : ArenaView). j < length v.nodes) is inside) (subst (λ (v : ArenaView). (at v j).holder ≡ Some o) is holds)))
        (subst (λ (q : Phase). IsKeptAt q new o after) (sym at_q) kept)
        (λ facts. subst (λ (q : Phase). IsBackAt q arena after) (sym at_q) (back facts))
        unsplit
        (let none = unready_none op p at_p was_unready in let no = unready_none after q at_q unready in omega (arith, none, no))
        (subst (Touches (view_of op) o c.arena) (sym is) (replaced_touches c.arena k held.there (unlocked n) (view_of op) o (inl held.holder)))
        (is_done q) (sym (ap is_done at_q))

  -- what one remembers that goes on in this tree of the next layer
  goes_back : (arena : ArenaView) (w : Walk) (tree : ℕ) → w ≡ walk_into op.walk tree (op.walk.layer + 1)
      → RemembersKept op.birth arena (walk_into op.walk tree (op.walk.layer + 1)) → IsBackAt Enter arena (went op (c.steps + 1) w op.outcome op.prepared)
  goes_back arena w tree goes h =
      let after = went op (c.steps + 1) w op.outcome op.prepared in
      first_aside_back op.birth arena w after.walk.first (subst (λ (x : Walk). RemembersKept op.birth arena x) (sym goes) h)

  -- an operation that goes on below is on its way there
  below_kept : (arena : ArenaView) (w : Walk) → w.phase ≡ Enter → IsAtEnter arena op.task.key w → op.prepared ≡ None
      → IsBound op.outcome (quiet c arena c.tape.reserved o (went op (c.steps + 1) w op.outcome op.prepared)) (went op (c.steps + 1) w op.outcome op.prepared)
      → IsKeptAt Enter (quiet c arena c.tape.reserved o (went op (c.steps + 1) w op.outcome op.prepared)) o (went op (c.steps + 1) w op.outcome op.prepared)
  below_kept arena w at_enter enters_at unprepared bound =
      let after = went op (c.steps + 1) w op.outcome op.prepared in
      let new = quiet c arena c.tape.reserved o after in
      let enters : IsAtEnter arena op.task.key after.walk = enters_at in
      record {
        kept = subst (λ (q : Phase). KeptAt q arena (past_of new) op.task.key None after.walk) (sym at_enter) enters;
        bound = bound;
        unprepared = unprepared;
      }

  module _ (at_judge : op.walk.phase ≡ Judge) where
    judging : IsJudging c o op
    judging = kept_at Judge at_judge

    -- another long key stands in the place of the operation's own
    pub meet_done : op.outcome ≡ None → is_remove (ask op.task) ≡ false → (arena : ArenaView) (w : Walk) → MeetsOther o op.task.key c.arena arena op.walk w
        → Gives (shown c) (quiet c arena c.tape.reserved o (went op (c.steps + 1) w op.outcome op.prepared)) o false
    meet_done untold stays arena w t =
        let after = went op (c.steps + 1) w op.outcome op.prepared in
        let new = quiet c c.arena c.tape.reserved o after in
        let makes : w.phase ≡ MakeLayer = ap (λ (x : Walk). x.phase) t.walk in
        let writes : w.aim ≡ op.walk.aim = ap (λ (x : Walk). x.aim) t.walk in
        let place : w.place.node ≡ op.walk.place.node = ap (λ (x : Walk). x.place.node) t.walk in
        let whole = walk_same c op always w (begun_at Judge at_judge (λ enters. absurd (cc))) (ap (λ (x : Walk). x.first) t.walk) in
        let own : IsLayering new o after MakeLayer = record {
          stays = stays;
          makes = subst (IsAtMakeLayer c.arena o op.task.key) (sym whole) t.kept;
          light = subst (λ (told : Option Outcome). IsBound told c op) untold judging.bound;
          untold = untold;
          unprepared = judging.unprepared;
        } in
        subst (λ (v : ArenaView). Gives (shown c) (quiet c v c.tape.reserved o after) o false) (sym t.stays)
        (quiet_gives c (shown c) o refl h few op there c.arena c.tape.reserved w op.outcome op.prepared
        (leaves_all c o h) (ap is_done at_judge)
        (subst (λ (p : Phase). MayFollow p w.phase) (sym at_judge) (subst (MayFollow Judge) (sym makes) tt))
        writes (subst (λ (q : Phase). IsOfKind q w.aim) (sym makes) (writes ∙ kind_at Judge at_judge)) refl
        (subst (λ (p : Phase). Notes (shown c) (view_of op) p w.phase op.outcome) (sym at_judge) (subst (λ (q : Phase). Notes (shown c) (view_of op) Judge q op.outcome) (sym makes) (untold, untold)))
        (λ j inside holds. subst (λ (q : Phase). HoldsAt q after j) (sym makes) (holds_here c (shown c) o refl h few op there Judge at_judge j inside holds ∙ sym place))
        (subst (λ (q : Phase). IsKeptAt q new o after) (sym makes) own)
        (λ facts. subst (λ (q : Phase). IsBackAt q c.arena after) (sym makes) tt)
        (unsplit_at Judge at_judge refl)
        (let none = unready_none op Judge at_judge tt in let no = unready_none after MakeLayer makes tt in omega (arith, none, no))
        (λ j inside. inl refl)
        false (sym (ap is_done makes)))

    -- it goes on below by a link that it found under its lock
    pub below_done : (arena : ArenaView) (w : Walk) → MeetsLink o op.task.key c.arena arena op.walk w
        → Gives (shown c) (quiet c arena c.tape.reserved o (went op (c.steps + 1) w op.outcome op.prepared)) o false
    below_done arena w t =
        let enters : w.phase ≡ Enter = ap (λ (x : Walk). x.phase) t.goes.walk in
        back_gives arena w op.outcome t.goes.is t.goes.keeps judging.judges.judged.held (holds_here c (shown c) o refl h few op there Judge at_judge)
        Judge Enter at_judge enters refl tt tt tt t.goes.keeps.same.aim tt refl refl
        (below_kept arena w enters t.kept judging.unprepared
        (bound_on c (quiet c arena c.tape.reserved o (went op (c.steps + 1) w op.outcome op.prepared)) op always (quiet_grows c o arena c.tape.reserved (went op (c.steps + 1) w op.outcome op.prepared) t.goes.keeps.contents) w judging.unprepared (ap (λ (v : ArenaView). v.trees) t.goes.is) op.outcome judging.bound))
        (λ facts. goes_back arena w t.tree t.goes.walk (link_back op.birth c.arena facts arena (ap (λ (v : ArenaView). v.retired) t.goes.is) op.walk.place.node (place_at (at c.arena op.walk.place.node) t.slot) t.tree
        judging.judges.judged.held.there judging.judges.judged.stands.live t.in_slot.in_range t.leads op.walk (op.walk.layer + 1)))
        (unsplit_at Judge at_judge refl)

  module _ (at_unlock : op.walk.phase ≡ Unlock) (untold : op.outcome ≡ None) where
    leaving : IsLeaving c o op
    leaving = subst (λ (told : Option Outcome). IsReturning told c o op) untold (kept_at Unlock at_unlock)

    -- it goes on in the layer that it has made
    pub leave_done : (arena : ArenaView) (w : Walk) → IsLeave o c.arena arena op.walk w
        → Gives (shown c) (quiet c arena c.tape.reserved o (went op (c.steps + 1) w op.outcome op.prepared)) o false
    leave_done arena w t =
        let k = leaving.layering.makes in
        let g = t.goes k.tree k.taken in
        let enters : w.phase ≡ Enter = ap (λ (x : Walk). x.phase) g.walk in
        let only : HoldsOnly c.arena o op.walk.place.node =
        λ j inside holds. border_alone op.walk op.removal j leaving.layering.light
        (subst (λ (halves : List Halves). HoldsLast halves op j) leaving.unsplit.halves (holds_here c (shown c) o refl h few op there Unlock at_unlock j inside holds)) in
        back_gives arena w op.outcome g.is g.keeps leaving.layering.makes.unlock.held only
        Unlock Enter at_unlock enters refl tt tt tt g.keeps.same.aim tt refl refl
        (below_kept arena w enters (t.kept op.task.key k) leaving.layering.unprepared
        (subst (λ (told : Option Outcome). IsBound told (quiet c arena c.tape.reserved o (went op (c.steps + 1) w op.outcome op.prepared)) (went op (c.steps + 1) w op.outcome op.prepared)) (sym untold) leaving.layering.light))
        (λ facts. goes_back arena w k.tree g.walk (link_back op.birth c.arena facts arena (ap (λ (v : ArenaView). v.retired) g.is) op.walk.place.node (walk_place c.arena op.walk) k.tree
        k.unlock.held.there k.live k.in_range k.link op.walk (op.walk.layer + 1)))
        leaving.unsplit

  module _ (at_make : op.walk.phase ≡ MakeLayer) where
    making : IsLayering c o op MakeLayer
    making = kept_at MakeLayer at_make

    -- there is no memory for the layer: the lock is given back in the same step
    pub make_stopped : (arena : ArenaView) (w : Walk) → IsUnlock o c.arena arena op.walk w
        → Gives (shown c) (quiet c arena c.tape.reserved o (went op (c.steps + 1) w (Some (record { reply = NoMemory; at = c.steps + 1 })) op.prepared)) o true
    make_stopped arena w t =
        let told : Option Outcome = Some (record { reply = NoMemory; at = c.steps + 1 }) in
        let after = went op (c.steps + 1) w told op.prepared in
        let own : HasAnswer (quiet c arena c.tape.reserved o after) after = record {
          outcome = record { reply = NoMemory; at = c.steps + 1 };
          told = refl;
          right = record {
            begun = first_begun c op always w;
            since = first_upto c op always w;
            upto = omega arith;
            placed = λ real plain. absurd (cc);
            lawful = stopped_free (map_of (shown (quiet c arena c.tape.reserved o after)) op.task.tenant) (IsWithin after.walk.first after.last) (ask op.task);
          };
          unprepared = making.unprepared;
        } in
        back_gives arena w told t.is t.keeps making.makes.holds.judged.held (holds_here c (shown c) o refl h few op there MakeLayer at_make)
        MakeLayer Done at_make (ap (λ (x : Walk). x.phase) t.walk) refl tt tt tt t.keeps.same.aim tt (sym (ap told_change making.untold)) refl own (λ facts. tt) (unsplit_at MakeLayer at_make refl)

  -- a layer comes one step nearer
  module _ (arena : ArenaView) (w : Walk) (least : ℕ) (facts : ArenaFacts c.arena) (is_least : IsLeastBirth c.table c.steps least) (layer : IsLayerPhase op.walk.phase)
      (from : IsLayerFrom op.walk.phase least o op.task.key c.arena arena op.walk w) where
    abbrev built : Operation
    built = went op (c.steps + 1) w op.outcome op.prepared

    abbrev building : Core
    building = quiet c arena c.tape.reserved o built

    layering : IsLayering c o op op.walk.phase
    layering = layer_kept op.walk.phase layer c o op (h.ops o op there).kept

    t : BuildsLayer least o c.arena arena op.task.key op.walk w
    t = builds_by op.walk.phase layer least o op.task.key c.arena arena op.walk w refl facts.retired (are_forgotten c h facts least is_least.below) layering.makes from

    build_lists : Retires c.steps c.arena.retired arena.retired
    build_lists = retires_given c.steps c.arena.retired arena.retired h.late t.retired

    leads : HasLayer w.phase
    leads = layer_leads op.walk.phase w.phase layer t.follows t.on

    unsplit : IsUnsplit op.splits
    unsplit = unsplit_at op.walk.phase refl (layer_unsplit op.walk.phase layer)

    build_changes : ChangesArena (shown c) o arena
    build_changes = changes_from c least o arena h.late is_least t.last t.steps build_lists

    build_guarantee : StateGuarantee c building o
    build_guarantee = record {
      arena = build_changes;
      grows = quiet_grows c o arena c.tape.reserved built t.contents;
      past = record { steps = omega arith; same = λ n from upto. ap (λ (all : Contents). contents_at c.tape.entries all n) t.contents };
      writes = λ e there. there;
      accounts = λ t there. there;
      floor = refl;
    }

    build_tape : IsTape building
    build_tape = record {
      rises = h.tape.rises;
      made = omega (arith, h.tape.made);
      legal = subst (λ (all : Contents). IsLegalTape c.tape.entries all) (sym t.contents) h.tape.legal;
      keys = h.tape.keys;
      logs = logs_later c.logs c.tape.floor c.steps h.tape.logs;
    }

    -- each pair has the stamp that its owner had before, be it in the slot where it stood, or one layer further down
    old_stamp : (k i : ℕ) (owner : ℕ × Bytes) (stamp : ℕ) → HasStamp c.arena k i owner stamp → IsStampOf (c.steps + 1) c.tape owner stamp
    old_stamp k i owner stamp has =
        let known = h.stamps k has.there has.counted i any_entry has.in_range has.pair has.is in
        let own : IsStampOf c.steps c.tape owner stamp = subst (λ s. IsStampOf c.steps c.tape owner s) has.stamp_is (subst (λ q. IsStampOf c.steps c.tape q has.pair.stamp) has.owner_is known) in
        (omega (arith, own.0), own.1, own.2)

    build_stamps : AreStamps building
    build_stamps k inside counted =
        All-from_get_or (IsStamped (IsStampOf (c.steps + 1) c.tape) (tree_of arena k).prefix) (at arena k).slots any_entry (λ i in_range pair is.
        let old = t.stamps k i _ pair.stamp (record { there = inside; counted = counted; in_range = in_range; pair = pair; is = is; owner_is = refl; stamp_is = refl }) in
        old_stamp old.0 old.1 _ pair.stamp old.2)

    build_kept : IsKeptOf building o built
    build_kept =
        let whole = walk_same c op always w (begun_at op.walk.phase refl (layer_begun op.walk.phase layer)) t.same.first in
        record {
          always = open_moved c op always w building op.outcome op.prepared refl refl (λ t some. some) (floor_made c h.tape) t.same.aim
              (made_kind w.phase leads w.aim (t.same.aim ∙ layer_writes op.walk.phase layer op.walk.aim always.kind));
          kept = made_kept w.phase leads building o built unsplit (record {
            stays = layering.stays;
            makes = subst (KeptLayer w.phase arena o op.task.key) (sym whole) t.kept;
            light = layering.light;
            untold = layering.untold;
            unprepared = layering.unprepared;
          });
          unsplit = λ none. unsplit;
          placed = λ m placed. let once = (h.ops o op there).placed m placed in record {
            entry = once.entry;
            there = once.there;
            step_is = once.step_is;
            worker = once.worker;
            tenant = once.tenant;
            key_is = once.key_is;
            makes = once.makes;
            keeps = once.keeps;
            was = once.was;
            met = once.met;
          };
        }

    -- the tree of the layer was made, or the slot came nearer to its link
    pub build_done : Gives (shown c) building o false
    build_done =
        let only : HoldsOnly c.arena o op.walk.place.node = λ j inside holds. layer_held op.walk.phase layer op j (holds_here c (shown c) o refl h few op there op.walk.phase refl j inside holds) in
        gives (shown c) c building o op built refl h few
        (record {
          there = there;
          unfinished = layer_open op.walk.phase layer;
          asked = refl;
          scan = inl (refl, refl);
          table = refl;
          number = refl;
          answers = refl;
          leaves = build_guarantee;
          tape = build_tape;
          stamps = build_stamps;
          versions = t.versions c.steps h.versions;
          held = λ k inside holds. made_held w.phase leads built k unsplit.halves (t.holds only k inside holds);
          counts =
              λ tenant a is. subst (λ (all : Contents). (a.count ≡ len (tenant_map tenant all)) × (a.count ≤ a.quota)) (sym t.contents) (h.counts tenant a is);
          kept = build_kept;
          reserved =
              let none = unready_none op op.walk.phase refl (layer_unready op.walk.phase layer) in let no = unready_none built w.phase refl (made_unready w.phase leads) in omega (arith, none, no);
          deleted = t.deleted h.deleted;
          late = build_lists.upto;
          remembered = own_back c o op h there arena build_changes build_lists t.takes built (record {
            birth = refl;
            walk = λ facts. made_back w.phase leads arena built;
            cleans = λ facts. (h.remembered o op there).cleans;
          });
        })
        (record {
          logs = refl;
          moves = has_moved c op always w op.outcome op.prepared t.follows;
          notes = layer_notes op.walk.phase w.phase layer leads (shown c) (view_of op) layering.untold;
          touches = t.touches (view_of op) refl;
          effect = inl (record { contents = t.contents; entries = refl; change = refl });
          makes = t.makes;
        })
        false (sym (made_open w.phase leads))
