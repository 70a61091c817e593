-- What the steps of an operation that writes ask of the invariant, and what they tell: for `Inner::write`.
use denote.Enum.Bare.{sameb, same_true}
use Rattle.mt_operation.specs.{contracts.phase.Phase.the_type, declared.walk.Walk.Walk, declared.phase.Phase.Phase}
use Rattle.mt_operation.specs.declared.phase.Phase.TheVariants.{Lock, Judge, Store, Fill, Publish, SplitStart, SplitMove, SplitPrev, LockParent, InsertChild, InteriorSplit, Reparent, RootGrow, MakeLayer, MarkUnstable, Link, MarkLayer, DropKey, LockPrev, LockAbove, Unlink, FixNext, Collapse, CleanLayer, Unlock, Done}
use Rattle.mt_operation.specs.{declared.prepared.Prepared.Prepared, declared.operation.Operation.Operation}
use Rattle.mt_operation.specs.Operations.{OperationView, view_of, splits_of, scan_of, is_unfinished, counted}
use Rattle.mt_operation.specs.{Phases.{is_done, is_prepared, IsClimb, IsLayerPhase, IsRemovalPhase, IsNoLook, IsToGrow}, Tables.{Table, IsLeastBirth, op_at as operation_at}}
use Rattle.mt_operation.specs.Tasks.{ask}
use Rattle.mt_operation.proofs.Tables.{set_is}
use Rattle.std.proofs.Common.{rules, ◌⊎◌, ◌≡◌, ◌≢◌, ℕ, ◌+◌, ◌<◌, inl, inr, true, false, not, set, Bool, Option, Some, None, IsSome, refl, sym, ap, subst, ◌∙◌, arith}
use Rattle.std.proofs.{lemmas.Option.same_Some, lemmas.Bool.{cases_eq, both_ways}}
use Rattle.std.specs.Prelude.{◌^◌}
use Rattle.mt_arena.{specs.{Forests.{layer_of, tree_at}, Arena.{ArenaView, IsArena}}, proofs.Out.upto_later}
use Rattle.mt_state.{specs.KeptBack.ArenaFacts, proofs.Giving.{are_forgotten, may_renew}}
use Rattle.mt_rows.specs.{Rows.Bytes, Accounts.Accounts}
use Rattle.mt_table.specs.{declared.steps.Made.Made, declared.steps.Made.TheVariants.{Step, Blocked, NoMemory, Nothing}}
use Rattle.mt_layer.specs.Builds.{IsLayerFrom}
use Rattle.mt_insert.specs.Puts.{IsPut}
use Rattle.mt_remove.specs.{Ways.Follows, Writes.is_remove}
use Rattle.mt_state.specs.{declared.moves.Move.Move, declared.moves.Move.TheVariants.{Moved, Again, NoSuch, NoMemory as NoMemoryMove, Done as DoneMove}}
use Rattle.mt_state.specs.{Views.{Core, Shown, shown, op_at}, Promises.{Tells, IsStep, HasStep, IsInTheWay}, Invariant.StateInvariant}
use Rattle.mt_state.proofs.{Shown.shown_there, Lawful.put_no_scan}
use Rattle.mt_state.proofs.Needs.{lock_kept, lock_free_hands, lock_cleans, judge_kept, put_at, store_kept, store_ready, fill_kept, fill_ready, publish_kept, publish_ready, write_room, step_later, layer_kept, leave_kept, leave_room, unlock_kept, unlock_room, removal_of, drop_kept, drop_ready, drop_removes, drop_light, drop_counted, removal_kept_at, removal_held_at, removal_unlock_kept, removal_unlock_room}
use Rattle.mt_state.proofs.{ClimbingNodes.climb_makes, RemovalBy.removes_by}
use Rattle.mt_core.specs.{Nexts.{IsNext, ending}, Points.StepsOn}
use Rattle.mt_core.specs.Writes.{Parts, parts, Telling, Writes, WritesAt, MayWrite, MayGive, MayJudge, MayPlace, MayClimb, MayBuild, MayTake, MayUnlock, TellsLocked, TellsJudged, TellsStored, TellsFilled, TellsPublished, TellsBegun, TellsParted, TellsClimbed, TellsBuilt, TellsDropped, TellsTaken, TellsUnlocked}
use Rattle.mt_core.proofs.Following.{IsSound, IsOver, made, holder_open, in_the_way}
use Rattle.mt_core.proofs.PutSteps.{judged_put, lock_made, unlock_made, ready_made, on_made, link_made, refused_made, stale_made, store_made, fill_made, publish_made, full_made}
use Rattle.mt_core.proofs.LayerSteps.{build_made, stop_made, leave_made}
use Rattle.mt_core.proofs.SplitSteps.{start_asks, start_none, start_made, start_stopped, move_ready, move_kept, parts_with, parts_without, all_unlock, all_room, returns_made}
use Rattle.mt_core.proofs.ClimbSteps.{climb_kept, climb_holds, climb_made, climb_refused}
use Rattle.mt_core.proofs.RemovalSteps.{removal_ready, removal_missing, follow_made, back_made, drop_made, take_made, return_made}

-- a phase that doesn't end, and one that does, as a step is answered that leads there
open_moves : (p : Phase) → is_done p ≡ false → ending p ≡ Moved
open_moves Done e = absurd (cc)
open_moves _ e = refl

done_ends : (p : Phase) → is_done p ≡ true → ending p ≡ DoneMove
done_ends Done e = refl
done_ends _ e = absurd (cc)

-- what is there is not none
some_there : (ready : Option Prepared) → IsSome ready → ready ≢ None
some_there None some e = absurd (cc)
some_there (Some prepared) some e = absurd (cc)

-- whether a walk comes to judge
judge_or : (p : Phase) → (p ≡ Judge) ⊎ (p ≢ Judge)
judge_or p = by (sameb the_type p Judge) refl
  where
    by : (b : Bool) → b ≡ sameb the_type p Judge → (p ≡ Judge) ⊎ (p ≢ Judge)
    by true e = inl (same_true the_type (search rules) _ _ (sym e))
    by false e = inr (λ is. let no : false ≡ true = e ∙ ap (λ (q : Phase). sameb the_type q Judge) is in cc)

-- a step of a layer leaves the number of the first step
layer_first : (p : Phase) (least o : ℕ) (key : Bytes) (old new : ArenaView) (before after : Walk) → IsLayerFrom p least o key old new before after → after.first ≡ before.first
layer_first MakeLayer least o key old new before after b = b.on.same.first
layer_first MarkUnstable least o key old new before after b = b.on.keeps.same.first
layer_first Link least o key old new before after b = b.on.keeps.same.first
layer_first MarkLayer least o key old new before after b = b.on.keeps.same.first
layer_first _ least o key old new before after b = absurd b

module _ (c now : Core) (o : ℕ) (is : c ≡ now) (h : StateInvariant c) (few : now.steps < 2 ^ 59) (op : Operation) (there : operation_at c.table o ≡ Some op)
    (least : ℕ) (is_least : IsLeastBirth c.table c.steps least) where
  -- what the step may change, and the state that it leaves
  abbrev pub here : Parts
  here = parts c.arena c.tape c.accounts

  abbrev pub left : Parts → Table → Core
  left to table = made c to.arena to.tape to.accounts table

  -- what it gives: the invariant, and what it answers
  abbrev pub StepGives : Parts → Table → Move → Type 0
  StepGives to table answer = IsSound c.arena (left to table) × StepsOn now (left to table) o answer

  -- the table that it leaves, by what the body makes of the operation
  abbrev pub IsCounted : Table → Operation → Type 0
  IsCounted table after = table ≡ set c.table o (Some (counted after (c.steps + 1) op.walk.first))

  abbrev Comes : Telling → Type 0
  Comes Tells = (to : Parts) (after : Operation) → Tells here to op after → (table : Table) → IsCounted table after → (answer : Move) → answer ≡ ending after.walk.phase → StepGives to table answer

  over_by : (table : Table) (after z : Operation) → IsCounted table after → after ≡ z → IsOver c.table table o (counted z (c.steps + 1) op.walk.first)
  over_by table after z e is =
      let table_is : table ≡ set c.table o (Some (counted z (c.steps + 1) op.walk.first)) = e ∙ ap (λ (y : Operation). set c.table o (Some (counted y (c.steps + 1) op.walk.first))) is in
      record { is = table_is; there = ap (λ (all : Table). operation_at all o) table_is ∙ set_is c.table o (counted z (c.steps + 1) op.walk.first) op there }

  -- a step that is told leads to a phase that ends, or not, as it is told
  told_ends : (new : Core) (y : Operation) → operation_at new.table o ≡ Some y → (done : Bool) → IsStep (shown now) (shown new) o done → is_done y.walk.phase ≡ done
  told_ends new y there_y done s =
      let came : op_at (shown new).table o ≡ Some s.after = ap (λ (t : Shown). op_at t o) s.table ∙ set_is (shown now).table o s.after s.before s.there in
      ap (λ (v : OperationView). is_done v.phase) (same_Some (view_of y) s.after (sym (shown_there new.table o y there_y) ∙ came)) ∙ sym s.ends

  answers_on : (to : Parts) (after : Operation) (table : Table) → IsCounted table after → StepGives to table Moved → (answer : Move) → answer ≡ ending after.walk.phase → StepGives to table answer
  answers_on to after table e g answer ends =
      subst (StepGives to table) (sym (ends ∙ open_moves after.walk.phase (told_ends (left to table) (counted after (c.steps + 1) op.walk.first) (over_by table after after e refl).there false g.1.tells))) g

  answers_end : (to : Parts) (after : Operation) (table : Table) → IsCounted table after → StepGives to table DoneMove → (answer : Move) → answer ≡ ending after.walk.phase → StepGives to table answer
  answers_end to after table e g answer ends =
      subst (StepGives to table) (sym (ends ∙ done_ends after.walk.phase (told_ends (left to table) (counted after (c.steps + 1) op.walk.first) (over_by table after after e refl).there true g.1.tells))) g

  -- tape and tenants are as they were, or the tenants alone
  rest_gives : (to : Parts) (table : Table) (answer : Move) → to ≡ record here { arena = to.arena }
      → IsSound c.arena (made c to.arena c.tape c.accounts table) × StepsOn now (made c to.arena c.tape c.accounts table) o answer → StepGives to table answer
  rest_gives to table answer rest = subst (λ (x : Parts). StepGives x table answer) (sym rest)

  tape_gives : (to : Parts) (table : Table) (answer : Move) → to.accounts ≡ c.accounts
      → IsSound c.arena (made c to.arena to.tape c.accounts table) × StepsOn now (made c to.arena to.tape c.accounts table) o answer → StepGives to table answer
  tape_gives to table answer same = subst (λ (a : Accounts). StepGives (parts to.arena to.tape a) table answer) (sym same)

  -- the tape as it was, where the nodes alone have changed
  same_tape : (to : Parts) → to ≡ record here { arena = to.arena } → to.tape ≡ c.tape
  same_tape to rest = ap (λ (x : Parts). x.tape) rest

  lock_comes : IsArena c.arena.nodes c.arena.trees → op.walk.phase ≡ Lock → Comes (TellsLocked o)
  lock_comes arena e to after (inl t) table counts answer ends =
      answers_on to after table counts (rest_gives to table Moved t.on.rest
      (lock_made c now o is h few op there e t.untold to.arena after.walk table t.locks (over_by table after _ counts t.on.others))) answer ends
  lock_comes arena e to after (inr t) table counts answer ends =
      answers_on to after table counts (rest_gives to table Moved t.on.rest
      (back_made c now o is h few op there e t.told arena to.arena after.walk table t.locks (over_by table after _ counts t.on.others))) answer ends

  -- who judges and removes nothing puts
  puts_there : op.walk.phase ≡ Judge → is_remove (ask op.task) ≡ false → IsPut op.task
  puts_there e stays = let put = judged_put c o h op there e stays in record { put_is = put; owner = (h.ops o op there).always.owner (put_no_scan (ask op.task) put) }

  judge_comes : IsArena c.arena.nodes c.arena.trees → op.walk.phase ≡ Judge → Comes (TellsJudged o (c.steps + 1))
  judge_comes arena e to after (inl t) table counts answer ends = elim t.comes [
    | inl ready ↦ answers_on to after table counts (tape_gives to table Moved ready.accounts
        (ready_made c now o is h few op there e t.untold (judged_put c o h op there e t.stays) to.arena to.tape after.walk ready.prepared table ready.ready (over_by table after _ counts ready.others))) answer ends
    | inr (inl goes) ↦ answers_on to after table counts (rest_gives to table Moved goes.1.rest
        (on_made c now o is h few op there e arena t.untold t.stays to.arena c.tape after.walk table refl goes.0 (over_by table after _ counts goes.1.others))) answer ends
    | inr (inr (inl stale)) ↦ answers_end to after table counts (rest_gives to table DoneMove stale.2.rest
        (stale_made c now o is h few op there e t.untold (puts_there e t.stays) stale.0 to.arena c.tape after.walk table refl stale.1 (over_by table after _ counts stale.2.others))) answer ends
    | inr (inr (inr short)) ↦ answers_end to after table counts (rest_gives to table DoneMove short.1.rest
        (refused_made c now o is h few op there e t.untold to.arena c.tape after.walk table refl short.0.unlocks short.0.slot short.0.stands (over_by table after _ counts short.1.others))) answer ends
  ]
  judge_comes arena e to after (inr (inl t)) table counts answer ends = elim t.comes [
    | inl ready ↦ answers_on to after table counts (tape_gives to table Moved ready.accounts
        (removal_ready c now o is h few op there e t.untold t.removes arena to.arena to.tape after.walk ready.prepared table ready.ready (over_by table after _ counts ready.others))) answer ends
    | inr (inl goes) ↦ answers_on to after table counts (rest_gives to table Moved goes.1.rest
        (link_made c now o is h few op there e arena to.arena c.tape after.walk table refl goes.0 (over_by table after _ counts goes.1.others))) answer ends
    | inr (inr (inl missing)) ↦ answers_end to after table counts (rest_gives to table DoneMove missing.1.rest
        (removal_missing c now o is h few op there e t.untold t.removes to.arena c.tape after.walk table refl missing.0 (over_by table after _ counts missing.1.others))) answer ends
    | inr (inr (inr short)) ↦ answers_end to after table counts (rest_gives to table DoneMove short.1.rest
        (refused_made c now o is h few op there e t.untold to.arena c.tape after.walk table refl short.0.unlocks (Some short.0.slot) short.0.in_slot (over_by table after _ counts short.1.others))) answer ends
  ]
  judge_comes arena e to after (inr (inr t)) table counts answer ends =
      rest_gives to table answer t.on.rest
      (follow_made c now o is h few op there e t.told arena to.arena after.walk table t.follows (over_by table after _ counts t.on.others) answer ends)

  store_comes : IsArena c.arena.nodes c.arena.trees → op.walk.phase ≡ Store → Comes (TellsStored o (c.steps + 1))
  store_comes arena e to after t table counts answer ends =
      let p = t.places in
      answers_on to after table counts (tape_gives to table Moved t.accounts
      (store_made c now o is h few op there e p.prepared p.has to.arena to.tape after.walk t.was table arena p.placed (over_by table after _ counts p.others))) answer ends

  fill_comes : op.walk.phase ≡ Fill → Comes (TellsFilled o)
  fill_comes e to after t table counts answer ends =
      answers_on to after table counts (rest_gives to table Moved t.only
      (fill_made c now o is h few op there e t.prepared t.rest t.has to.arena after.walk table t.fills (over_by table after _ counts t.others))) answer ends

  publish_comes : IsArena c.arena.nodes c.arena.trees → op.walk.phase ≡ Publish → Comes (TellsPublished o (c.steps + 1))
  publish_comes arena e to after (inl p) table counts answer ends =
      answers_on to after table counts (publish_made c now o is h few op there e p.prepared p.has to.arena to.tape to.accounts after.walk table arena p.placed (over_by table after _ counts p.others)) answer ends
  publish_comes arena e to after (inr p) table counts answer ends =
      answers_on to after table counts (full_made c now o is h few op there e p.prepared p.has to.arena to.tape to.accounts after.walk table p.placed (over_by table after _ counts p.others)) answer ends

  begin_comes : ArenaFacts c.arena → op.walk.phase ≡ SplitStart → Comes (TellsBegun o (c.steps + 1) least)
  begin_comes facts e to after (inl t) table counts answer ends =
      answers_on to after table counts (tape_gives to table Moved t.accounts
      (start_made c now o is h few op there e to.arena to.tape after.walk after.splits table least facts is_least t.begins (over_by table after _ counts t.others))) answer ends
  begin_comes facts e to after (inr t) table counts answer ends =
      answers_end to after table counts (tape_gives to table DoneMove t.accounts
      (start_stopped c now o is h few op there e to.arena to.tape after.walk after.splits table t.stops (over_by table after _ counts t.others))) answer ends

  part_comes : IsArena c.arena.nodes c.arena.trees → op.walk.phase ≡ SplitMove → Comes (TellsParted o (c.steps + 1))
  part_comes arena e to after (inl p) table counts answer ends =
      answers_on to after table counts (parts_with c now o is h few op there e to.arena to.tape to.accounts after.walk table arena p.prepared.row p.placed (over_by table after _ counts p.others)) answer ends
  part_comes arena e to after (inr p) table counts answer ends =
      answers_on to after table counts (parts_without c now o is h few op there e to.arena to.tape to.accounts after.walk table p.placed (over_by table after _ counts p.others)) answer ends

  climb_comes : ArenaFacts c.arena → IsClimb op.walk.phase → Comes (TellsClimbed o least)
  climb_comes facts climbs to after t table counts answer ends =
      answers_on to after table counts (rest_gives to table Moved t.rest
      (climb_made c now o is h few op there climbs facts to.arena after.walk after.splits table least is_least t.climbs (over_by table after _ counts t.others))) answer ends

  build_comes : ArenaFacts c.arena → IsLayerPhase op.walk.phase → Comes (TellsBuilt o (c.steps + 1) least)
  build_comes facts layer to after (inl t) table counts answer ends =
      answers_on to after table counts (rest_gives to table Moved t.on.rest
      (build_made c now o is h few op there facts layer to.arena after.walk table least is_least t.builds (over_by table after _ counts t.on.others))) answer ends
  build_comes facts layer to after (inr t) table counts answer ends =
      answers_end to after table counts (rest_gives to table DoneMove t.on.rest
      (stop_made c now o is h few op there to.arena after.walk table t.phase t.unlocks (over_by table after _ counts t.on.others))) answer ends

  -- taking the pair out asks that the nodes that are left are an arena
  drop_comes : IsArena c.arena.nodes c.arena.trees → op.walk.phase ≡ DropKey → (to : Parts) → IsArena to.arena.nodes to.arena.trees → (after : Operation) → TellsDropped o (c.steps + 1) here to op after
      → (table : Table) → IsCounted table after → (answer : Move) → answer ≡ ending after.walk.phase → StepGives to table answer
  drop_comes arena e to is_now after t table counts answer ends =
      answers_on to after table counts (drop_made c now o is h few op there e arena to.arena is_now to.tape to.accounts after.walk after.removal table t.drops (over_by table after _ counts t.others)) answer ends

  take_comes : IsArena c.arena.nodes c.arena.trees → IsRemovalPhase op.walk.phase → Comes (TellsTaken o (c.steps + 1))
  take_comes arena takes to after t table counts answer ends =
      answers_on to after table counts (rest_gives to table Moved t.rest
      (take_made c now o is h few op there takes arena to.arena after.walk after.removal t.takes table (over_by table after _ counts t.others))) answer ends

  unlock_comes : IsArena c.arena.nodes c.arena.trees → op.walk.phase ≡ Unlock → Comes (TellsUnlocked o)
  unlock_comes arena e to after (inl t) table counts answer ends =
      answers_on to after table counts (rest_gives to table Moved t.on.rest
      (leave_made c now o is h few op there arena e t.untold to.arena after.walk table t.leaves (over_by table after _ counts t.on.others))) answer ends
  unlock_comes arena e to after (inr (inl t)) table counts answer ends =
      answers_end to after table counts (rest_gives to table DoneMove t.rest
      (returns_made c now o is h few op there e t.told t.some to.arena after.walk after.splits table t.returns (over_by table after _ counts t.others))) answer ends
  unlock_comes arena e to after (inr (inr (inl t))) table counts answer ends =
      rest_gives to table answer t.rest
      (return_made c now o is h few op there e t.removes t.told t.none arena to.arena after.walk after.removal t.returns table (over_by table after _ counts t.others) answer ends)
  unlock_comes arena e to after (inr (inr (inr t))) table counts answer ends =
      answers_end to after table counts (rest_gives to table DoneMove t.on.rest
      (unlock_made c now o is h few op there e t.stays t.told t.none to.arena after.walk table t.unlocks (over_by table after _ counts t.on.others))) answer ends

  -- what a step gives that was made, where the nodes that it leaves are an arena
  pub write_comes : ArenaFacts c.arena → (p : Phase) → op.walk.phase ≡ p → (to : Parts) → IsArena to.arena.nodes to.arena.trees → (after : Operation)
      → WritesAt p o (c.steps + 1) least here to op Step after → (table : Table) → IsCounted table after → (answer : Move) → answer ≡ ending after.walk.phase → StepGives to table answer
  write_comes facts Lock e to is_now after t = lock_comes facts.arena e to after t
  write_comes facts Judge e to is_now after t = judge_comes facts.arena e to after t
  write_comes facts Store e to is_now after t = store_comes facts.arena e to after t
  write_comes facts Fill e to is_now after t = fill_comes e to after t
  write_comes facts Publish e to is_now after t = publish_comes facts.arena e to after t
  write_comes facts SplitStart e to is_now after t = begin_comes facts e to after t
  write_comes facts SplitMove e to is_now after t = part_comes facts.arena e to after t
  write_comes facts SplitPrev e to is_now after t = climb_comes facts (subst IsClimb (sym e) tt) to after t
  write_comes facts LockParent e to is_now after t = climb_comes facts (subst IsClimb (sym e) tt) to after t
  write_comes facts InsertChild e to is_now after t = climb_comes facts (subst IsClimb (sym e) tt) to after t
  write_comes facts InteriorSplit e to is_now after t = climb_comes facts (subst IsClimb (sym e) tt) to after t
  write_comes facts Reparent e to is_now after t = climb_comes facts (subst IsClimb (sym e) tt) to after t
  write_comes facts RootGrow e to is_now after t = climb_comes facts (subst IsClimb (sym e) tt) to after t
  write_comes facts MakeLayer e to is_now after t = build_comes facts (subst IsLayerPhase (sym e) tt) to after t
  write_comes facts MarkUnstable e to is_now after t = build_comes facts (subst IsLayerPhase (sym e) tt) to after t
  write_comes facts Link e to is_now after t = build_comes facts (subst IsLayerPhase (sym e) tt) to after t
  write_comes facts MarkLayer e to is_now after t = build_comes facts (subst IsLayerPhase (sym e) tt) to after t
  write_comes facts DropKey e to is_now after t = drop_comes facts.arena e to is_now after t
  write_comes facts LockPrev e to is_now after t = take_comes facts.arena (subst IsRemovalPhase (sym e) tt) to after t
  write_comes facts LockAbove e to is_now after t = take_comes facts.arena (subst IsRemovalPhase (sym e) tt) to after t
  write_comes facts Unlink e to is_now after t = take_comes facts.arena (subst IsRemovalPhase (sym e) tt) to after t
  write_comes facts FixNext e to is_now after t = take_comes facts.arena (subst IsRemovalPhase (sym e) tt) to after t
  write_comes facts Collapse e to is_now after t = take_comes facts.arena (subst IsRemovalPhase (sym e) tt) to after t
  write_comes facts CleanLayer e to is_now after t = take_comes facts.arena (subst IsRemovalPhase (sym e) tt) to after t
  write_comes facts Unlock e to is_now after t = unlock_comes facts.arena e to after t
  write_comes facts _ e to is_now after t = absurd (let no_step : ◌≡◌ {A = Made} Step Nothing = t.none in cc)

  -- who is about to write may do so
  may_place : (p : Phase) → op.walk.phase ≡ p → is_prepared p ≡ true → (IsAt : Prepared → Type 0) → op.prepared ≢ None → ((prepared : Prepared) → op.prepared ≡ Some prepared → IsAt prepared)
      → MayPlace (c.steps + 1) c.tape op IsAt
  may_place p e ready IsAt has kept = record { has = has; kept = kept; room = write_room c o h op there p e ready; later = step_later c o h op there }

  may_judge : op.walk.phase ≡ Judge → MayJudge o c.arena op
  may_judge e = record {
    kept = judge_kept c o h op there e;
    puts = λ stays untold. puts_there e stays;
    removes = removal_of c o h op there;
  }

  -- the places that were taken out by the least birth may be given out
  may_give : ArenaFacts c.arena → MayGive least c.arena
  may_give facts = record { forgotten = are_forgotten c h facts least is_least.below; renews = may_renew c h facts least is_least.below }

  may_climb : ArenaFacts c.arena → IsClimb op.walk.phase → MayClimb o least c.arena op
  may_climb facts climbs = record { gives = may_give facts; phase = climbs; kept = climb_kept c now o is h few op there climbs; holds = climb_holds c now o is h few op there climbs }

  may_build : ArenaFacts c.arena → IsLayerPhase op.walk.phase → MayBuild o least c.arena op
  may_build facts layer = record { gives = may_give facts; phase = layer; kept = layer_kept c o h op there op.walk.phase refl layer }

  may_take : IsRemovalPhase op.walk.phase → MayTake o (c.steps + 1) c.arena op
  may_take takes = record {
    phase = takes;
    kept = removal_kept_at c o h op there op.walk.phase refl takes;
    holds = removal_held_at c o h op there takes;
    upto = upto_later c.steps (c.steps + 1) c.arena.retired (omega arith) h.late;
  }

  may_give_back : op.walk.phase ≡ Unlock → MayUnlock o c.arena op
  may_give_back e = record {
    leaves = λ untold. (leave_kept c o h op there e untold, leave_room c o h op there e untold);
    all = λ told some. (all_unlock c now o is h few op there e told some, all_room c now o is h few op there e told some);
    removal = λ told none removes. (removal_unlock_kept c o h op there e removes told none, removal_unlock_room c o h op there e removes told none);
    one = λ told none stays. (unlock_kept c o h op there e stays told none, unlock_room c o h op there e stays told none);
  }

  pub may_write : ArenaFacts c.arena → (p : Phase) → op.walk.phase ≡ p → MayWrite p o (c.steps + 1) least here op
  may_write facts Lock e = record { phase = e; kept = lock_kept c o h op there e; free = lock_free_hands c o h op there e; cleaning = lock_cleans c o h op there e }
  may_write facts Judge e = may_judge e
  may_write facts Store e = record { put = put_at c o h op there Store e tt; place = may_place Store e refl _ (some_there op.prepared (store_ready c o h op there e)) (store_kept c o h op there e) }
  may_write facts Fill e = record { has = some_there op.prepared (fill_ready c o h op there e); kept = fill_kept c o h op there e }
  may_write facts Publish e = record { put = put_at c o h op there Publish e tt; place = may_place Publish e refl _ (some_there op.prepared (publish_ready c o h op there e)) (publish_kept c o h op there e) }
  may_write facts SplitStart e = record { kept = start_asks c now o is h few op there e; none = start_none c now o is h few op there e; room = write_room c o h op there SplitStart e refl; gives = may_give facts }
  may_write facts SplitMove e = record { put = put_at c o h op there SplitMove e tt; place = may_place SplitMove e refl _ (move_ready c now o is h few op there e) (move_kept c now o is h few op there e) }
  may_write facts SplitPrev e = may_climb facts (subst IsClimb (sym e) tt)
  may_write facts LockParent e = may_climb facts (subst IsClimb (sym e) tt)
  may_write facts InsertChild e = may_climb facts (subst IsClimb (sym e) tt)
  may_write facts InteriorSplit e = may_climb facts (subst IsClimb (sym e) tt)
  may_write facts Reparent e = may_climb facts (subst IsClimb (sym e) tt)
  may_write facts RootGrow e = may_climb facts (subst IsClimb (sym e) tt)
  may_write facts MakeLayer e = may_build facts (subst IsLayerPhase (sym e) tt)
  may_write facts MarkUnstable e = may_build facts (subst IsLayerPhase (sym e) tt)
  may_write facts Link e = may_build facts (subst IsLayerPhase (sym e) tt)
  may_write facts MarkLayer e = may_build facts (subst IsLayerPhase (sym e) tt)
  may_write facts DropKey e = record {
    removal = drop_removes c o h op there e;
    place = may_place DropKey e refl _ (some_there op.prepared (drop_ready c o h op there e)) (drop_kept c o h op there e);
    free = drop_light c o h op there e;
    counted = drop_counted c o h op there facts.arena e;
  }
  may_write facts LockPrev e = may_take (subst IsRemovalPhase (sym e) tt)
  may_write facts LockAbove e = may_take (subst IsRemovalPhase (sym e) tt)
  may_write facts Unlink e = may_take (subst IsRemovalPhase (sym e) tt)
  may_write facts FixNext e = may_take (subst IsRemovalPhase (sym e) tt)
  may_write facts Collapse e = may_take (subst IsRemovalPhase (sym e) tt)
  may_write facts CleanLayer e = may_take (subst IsRemovalPhase (sym e) tt)
  may_write facts Unlock e = may_give_back e
  may_write facts _ e = tt

  -- a step is made by an operation that has one left
  pub write_unfinished : (p : Phase) → op.walk.phase ≡ p → (to : Parts) (after : Operation) → WritesAt p o (c.steps + 1) least here to op Step after → is_unfinished op ≡ true
  write_unfinished Done e to after t = absurd (let no_step : ◌≡◌ {A = Made} Step Nothing = t.none in cc)
  write_unfinished _ e to after t = ap (λ (q : Phase). not (is_done q)) e

  -- it leaves the number of the first step
  abbrev KeepsFirst : Telling → Type 0
  KeepsFirst Tells = (to : Parts) (after : Operation) → Tells here to op after → after.walk.first ≡ op.walk.first

  lock_first : KeepsFirst (TellsLocked o)
  lock_first to after (inl t) = t.locks.keeps.same.first
  lock_first to after (inr t) = elim (judge_or t.locks.reached.phase) [
    | inl judges ↦ elim (cases_eq (layer_of (tree_at c.arena.trees t.locks.tree).prefix) (op.walk.layer + 1)) [
      | inl below ↦ ap (λ (w : Walk). w.first) (t.locks.cleans judges below) ∙ t.locks.locks.keeps.same.first
      | inr other ↦ ap (λ (w : Walk). w.first) (t.locks.goes (λ at_judge. other)) ∙ t.locks.locks.keeps.same.first
    ]
    | inr goes_on ↦ ap (λ (w : Walk). w.first) (t.locks.goes (λ judges. absurd (goes_on judges))) ∙ t.locks.locks.keeps.same.first
  ]

  followed_first : (to : Parts) (after : Operation) → Follows o op.task.key c.arena to.arena op.walk after.walk → after.walk.first ≡ op.walk.first
  followed_first to after (inl t) = t.goes.keeps.same.first
  followed_first to after (inr t) = t.unlocks.keeps.same.first

  judge_first : KeepsFirst (TellsJudged o (c.steps + 1))
  judge_first to after (inl t) = elim t.comes [
    | inl ready ↦ ready.ready.keeps.same.first
    | inr (inl goes) ↦ elim goes.0 [
      | inl meets ↦ meets.keeps.same.first
      | inr link ↦ link.goes.keeps.same.first
    ]
    | inr (inr (inl stale)) ↦ stale.1.unlocks.keeps.same.first
    | inr (inr (inr short)) ↦ short.0.unlocks.keeps.same.first
  ]
  judge_first to after (inr (inl t)) = elim t.comes [
    | inl ready ↦ ready.ready.keeps.same.first
    | inr (inl goes) ↦ goes.0.goes.keeps.same.first
    | inr (inr (inl missing)) ↦ missing.0.unlocks.keeps.same.first
    | inr (inr (inr short)) ↦ short.0.unlocks.keeps.same.first
  ]
  judge_first to after (inr (inr t)) = followed_first to after t.follows

  publish_first : KeepsFirst (TellsPublished o (c.steps + 1))
  publish_first to after (inl p) = p.placed.same.first
  publish_first to after (inr p) = p.placed.same.first

  begin_first : KeepsFirst (TellsBegun o (c.steps + 1) least)
  begin_first to after (inl t) = t.begins.same.first
  begin_first to after (inr t) = t.stops.unlocks.keeps.same.first

  part_first : KeepsFirst (TellsParted o (c.steps + 1))
  part_first to after (inl p) = p.placed.parts.same.first
  part_first to after (inr p) = p.placed.parts.same.first

  climb_first : IsClimb op.walk.phase → KeepsFirst (TellsClimbed o least)
  climb_first climbs to after t = (climb_makes op.walk.phase climbs least o c.arena to.arena op.walk after.walk op.splits after.splits t.climbs).same.first

  build_first : KeepsFirst (TellsBuilt o (c.steps + 1) least)
  build_first to after (inl t) = layer_first op.walk.phase least o op.task.key c.arena to.arena op.walk after.walk t.builds
  build_first to after (inr t) = t.unlocks.keeps.same.first

  take_first : IsArena c.arena.nodes c.arena.trees → IsRemovalPhase op.walk.phase → KeepsFirst (TellsTaken o (c.steps + 1))
  take_first arena takes to after t =
      (removes_by o (c.steps + 1) op.task.key c.arena to.arena op.walk after.walk op.removal after.removal arena h.deleted op.walk.phase takes (removal_kept_at c o h op there op.walk.phase refl takes) t.takes).keeps.same.first

  unlock_first : op.walk.phase ≡ Unlock → KeepsFirst (TellsUnlocked o)
  unlock_first e to after (inl t) = let k = leave_kept c o h op there e t.untold in (t.leaves.goes k.tree k.taken).keeps.same.first
  unlock_first e to after (inr (inl t)) = t.returns.keeps.same.first
  unlock_first e to after (inr (inr (inl t))) = t.returns.keeps.same.first
  unlock_first e to after (inr (inr (inr t))) = t.unlocks.keeps.same.first

  pub write_first : IsArena c.arena.nodes c.arena.trees → (p : Phase) → op.walk.phase ≡ p → (to : Parts) (after : Operation) → WritesAt p o (c.steps + 1) least here to op Step after → after.walk.first ≡ op.walk.first
  write_first arena Lock e to after t = lock_first to after t
  write_first arena Judge e to after t = judge_first to after t
  write_first arena Store e to after t = t.places.placed.same.first
  write_first arena Fill e to after t = t.fills.keeps.same.first
  write_first arena Publish e to after t = publish_first to after t
  write_first arena SplitStart e to after t = begin_first to after t
  write_first arena SplitMove e to after t = part_first to after t
  write_first arena SplitPrev e to after t = climb_first (subst IsClimb (sym e) tt) to after t
  write_first arena LockParent e to after t = climb_first (subst IsClimb (sym e) tt) to after t
  write_first arena InsertChild e to after t = climb_first (subst IsClimb (sym e) tt) to after t
  write_first arena InteriorSplit e to after t = climb_first (subst IsClimb (sym e) tt) to after t
  write_first arena Reparent e to after t = climb_first (subst IsClimb (sym e) tt) to after t
  write_first arena RootGrow e to after t = climb_first (subst IsClimb (sym e) tt) to after t
  write_first arena MakeLayer e to after t = build_first to after t
  write_first arena MarkUnstable e to after t = build_first to after t
  write_first arena Link e to after t = build_first to after t
  write_first arena MarkLayer e to after t = build_first to after t
  write_first arena DropKey e to after t = t.drops.same.first
  write_first arena LockPrev e to after t = take_first arena (subst IsRemovalPhase (sym e) tt) to after t
  write_first arena LockAbove e to after t = take_first arena (subst IsRemovalPhase (sym e) tt) to after t
  write_first arena Unlink e to after t = take_first arena (subst IsRemovalPhase (sym e) tt) to after t
  write_first arena FixNext e to after t = take_first arena (subst IsRemovalPhase (sym e) tt) to after t
  write_first arena Collapse e to after t = take_first arena (subst IsRemovalPhase (sym e) tt) to after t
  write_first arena CleanLayer e to after t = take_first arena (subst IsRemovalPhase (sym e) tt) to after t
  write_first arena Unlock e to after t = unlock_first e to after t
  write_first arena _ e to after t = absurd (let no_step : ◌≡◌ {A = Made} Step Nothing = t.none in cc)

  -- and its birth
  abbrev KeepsBirth : Telling → Type 0
  KeepsBirth Tells = (to : Parts) (after : Operation) → Tells here to op after → after.birth ≡ op.birth

  abbrev birth_in : Operation → ℕ
  birth_in y = y.birth

  lock_birth : KeepsBirth (TellsLocked o)
  lock_birth to after (inl t) = ap birth_in t.on.others
  lock_birth to after (inr t) = ap birth_in t.on.others

  judge_birth : KeepsBirth (TellsJudged o (c.steps + 1))
  judge_birth to after (inl t) = elim t.comes [
    | inl ready ↦ ap birth_in ready.others
    | inr (inl goes) ↦ ap birth_in goes.1.others
    | inr (inr (inl stale)) ↦ ap birth_in stale.2.others
    | inr (inr (inr short)) ↦ ap birth_in short.1.others
  ]
  judge_birth to after (inr (inl t)) = elim t.comes [
    | inl ready ↦ ap birth_in ready.others
    | inr (inl goes) ↦ ap birth_in goes.1.others
    | inr (inr (inl missing)) ↦ ap birth_in missing.1.others
    | inr (inr (inr short)) ↦ ap birth_in short.1.others
  ]
  judge_birth to after (inr (inr t)) = ap birth_in t.on.others

  publish_birth : KeepsBirth (TellsPublished o (c.steps + 1))
  publish_birth to after (inl p) = ap birth_in p.others
  publish_birth to after (inr p) = ap birth_in p.others

  begin_birth : KeepsBirth (TellsBegun o (c.steps + 1) least)
  begin_birth to after (inl t) = ap birth_in t.others
  begin_birth to after (inr t) = ap birth_in t.others

  part_birth : KeepsBirth (TellsParted o (c.steps + 1))
  part_birth to after (inl p) = ap birth_in p.others
  part_birth to after (inr p) = ap birth_in p.others

  build_birth : KeepsBirth (TellsBuilt o (c.steps + 1) least)
  build_birth to after (inl t) = ap birth_in t.on.others
  build_birth to after (inr t) = ap birth_in t.on.others

  unlock_birth : KeepsBirth (TellsUnlocked o)
  unlock_birth to after (inl t) = ap birth_in t.on.others
  unlock_birth to after (inr (inl t)) = ap birth_in t.others
  unlock_birth to after (inr (inr (inl t))) = ap birth_in t.others
  unlock_birth to after (inr (inr (inr t))) = ap birth_in t.on.others

  step_birth : (p : Phase) (to : Parts) (after : Operation) → WritesAt p o (c.steps + 1) least here to op Step after → after.birth ≡ op.birth
  step_birth Lock to after t = lock_birth to after t
  step_birth Judge to after t = judge_birth to after t
  step_birth Store to after t = ap birth_in t.places.others
  step_birth Fill to after t = ap birth_in t.others
  step_birth Publish to after t = publish_birth to after t
  step_birth SplitStart to after t = begin_birth to after t
  step_birth SplitMove to after t = part_birth to after t
  step_birth SplitPrev to after t = ap birth_in t.others
  step_birth LockParent to after t = ap birth_in t.others
  step_birth InsertChild to after t = ap birth_in t.others
  step_birth InteriorSplit to after t = ap birth_in t.others
  step_birth Reparent to after t = ap birth_in t.others
  step_birth RootGrow to after t = ap birth_in t.others
  step_birth MakeLayer to after t = build_birth to after t
  step_birth MarkUnstable to after t = build_birth to after t
  step_birth Link to after t = build_birth to after t
  step_birth MarkLayer to after t = build_birth to after t
  step_birth DropKey to after t = ap birth_in t.others
  step_birth LockPrev to after t = ap birth_in t.others
  step_birth LockAbove to after t = ap birth_in t.others
  step_birth Unlink to after t = ap birth_in t.others
  step_birth FixNext to after t = ap birth_in t.others
  step_birth Collapse to after t = ap birth_in t.others
  step_birth CleanLayer to after t = ap birth_in t.others
  step_birth Unlock to after t = unlock_birth to after t
  step_birth _ to after t = absurd (let no_step : ◌≡◌ {A = Made} Step Nothing = t.none in cc)

  -- where another operation is in the way, that one is told
  abbrev pub Waits : Parts → ℕ → Operation → Type 0
  Waits to holder after = IsInTheWay c.arena op.walk.phase op.walk (splits_of op.splits) op.removal (scan_of op.task op.scan) holder × (holder ≢ o) × (to ≡ here) × (after ≡ op)

  pub write_waits : (p : Phase) → (to : Parts) (holder : ℕ) (after : Operation) → WritesAt p o (c.steps + 1) least here to op (Blocked holder) after → Waits to holder after
  write_waits Lock to holder after t = t
  write_waits Judge to holder after t = t
  write_waits Store to holder after t = t
  write_waits Fill to holder after t = t
  write_waits Publish to holder after t = t
  write_waits SplitStart to holder after t = t
  write_waits SplitMove to holder after t = t
  write_waits SplitPrev to holder after t = t
  write_waits LockParent to holder after t = t
  write_waits InsertChild to holder after t = t
  write_waits InteriorSplit to holder after t = t
  write_waits Reparent to holder after t = t
  write_waits RootGrow to holder after t = t
  write_waits MakeLayer to holder after t = t
  write_waits MarkUnstable to holder after t = t
  write_waits Link to holder after t = t
  write_waits MarkLayer to holder after t = t
  write_waits DropKey to holder after t = t
  write_waits LockPrev to holder after t = t
  write_waits LockAbove to holder after t = t
  write_waits Unlink to holder after t = t
  write_waits FixNext to holder after t = t
  write_waits Collapse to holder after t = t
  write_waits CleanLayer to holder after t = t
  write_waits Unlock to holder after t = t
  write_waits _ to holder after t = absurd (let no_block : ◌≡◌ {A = Made} (Blocked holder) Nothing = t.none in cc)

  -- who waits has a step left
  waits_open : (p : Phase) → (to : Parts) (holder : ℕ) (after : Operation) → WritesAt p o (c.steps + 1) least here to op (Blocked holder) after → is_done p ≡ false
  waits_open Done to holder after t = absurd (let no_block : ◌≡◌ {A = Made} (Blocked holder) Nothing = t.none in cc)
  waits_open _ to holder after t = refl

  -- the state in which no step is counted
  abbrev pub kept_as : Parts → Table → Core
  kept_as to table = record c { accounts = to.accounts; arena = to.arena; tape = to.tape; table = table }

  kept_is : (to : Parts) (table : Table) → to ≡ here → table ≡ c.table → kept_as to table ≡ c
  kept_is to table same e = ap (λ (x : Parts). kept_as x table) same ∙ ap (λ (all : Table). record c { table = all }) e

  stays_so : (to : Parts) (table : Table) → to ≡ here → table ≡ c.table → (answer : Move) → StepsOn c c o answer → StateInvariant (kept_as to table) × StepsOn now (kept_as to table) o answer
  stays_so to table same e answer steps =
      let kept = sym (kept_is to table same e) in (
        subst StateInvariant kept h,
        subst (λ (x : Core). StepsOn now x o answer) kept (subst (λ (x : Core). StepsOn x c o answer) is steps),
      )

  pub write_blocked : (to : Parts) (holder : ℕ) (after : Operation) → WritesAt op.walk.phase o (c.steps + 1) least here to op (Blocked holder) after → (table : Table) → table ≡ c.table
      → (answer : Move) → answer ≡ Again holder → StateInvariant (kept_as to table) × StepsOn now (kept_as to table) o answer
  write_blocked to holder after t table e answer again =
      let way = write_waits op.walk.phase to holder after t in
      let held = in_the_way c.arena op.walk.phase op.walk (splits_of op.splits) op.removal (scan_of op.task op.scan) holder way.0 in
      let by = h.holders held.0 holder held.1 held.2 in
      let tells : Tells (shown c) (shown c) o (Again holder) = (
        refl,
        (view_of op, shown_there c.table o op there, waits_open op.walk.phase to holder after t),
        record {
          other = way.1;
          unfinished = (view_of by.0, shown_there c.table holder by.0 by.1, holder_open by.0.walk.phase by.0 held.0 by.2);
          op = view_of op;
          there = shown_there c.table o op there;
          holds = way.0;
        },
      ) in
      stays_so to table way.2 e answer (subst (λ (a : Move). StepsOn c c o a) (sym again) (record { tells = tells; nears = tt; leads = tt }))

  -- where memory is refused, the step can be tried again: all is as it was, but for what the splits have grown
  abbrev Refused : Parts → Operation → Type 0
  Refused to after = Writes o (TellsClimbed o least) here to op NoMemory after

  refused : (p : Phase) → (to : Parts) (after : Operation) → WritesAt p o (c.steps + 1) least here to op NoMemory after → Refused to after
  refused Lock to after t = t
  refused Judge to after t = t
  refused Store to after t = t
  refused Fill to after t = t
  refused Publish to after t = t
  refused SplitStart to after t = t
  refused SplitMove to after t = t
  refused SplitPrev to after t = t
  refused LockParent to after t = t
  refused InsertChild to after t = t
  refused InteriorSplit to after t = t
  refused Reparent to after t = t
  refused RootGrow to after t = t
  refused MakeLayer to after t = t
  refused MarkUnstable to after t = t
  refused Link to after t = t
  refused MarkLayer to after t = t
  refused DropKey to after t = t
  refused LockPrev to after t = t
  refused LockAbove to after t = t
  refused Unlink to after t = t
  refused FixNext to after t = t
  refused Collapse to after t = t
  refused CleanLayer to after t = t
  refused Unlock to after t = t
  refused _ to after t = absurd (let none : ◌≡◌ {A = Made} NoMemory Nothing = t.none in cc)

  grow_climbs : (p : Phase) → IsToGrow p → IsClimb p
  grow_climbs InteriorSplit i = tt
  grow_climbs RootGrow i = tt
  grow_climbs _ i = absurd i

  pub write_grown : (to : Parts) (after : Operation) → WritesAt op.walk.phase o (c.steps + 1) least here to op NoMemory after → (table : Table) → table ≡ set c.table o (Some after)
      → StateInvariant (kept_as to table) × StepsOn now (kept_as to table) o NoMemoryMove
  write_grown to after t table e =
      let r = refused op.walk.phase to after t in
      subst (λ (x : Core). StateInvariant x × StepsOn now x o NoMemoryMove)
      (sym (ap (λ (x : Parts). kept_as x table) r.1 ∙ ap (λ (all : Table). record c { table = all }) (e ∙ ap (λ (y : Operation). set c.table o (Some y)) r.3)))
      (climb_refused c now o is h few op there (grow_climbs op.walk.phase r.0) r.0 after.splits r.2)

  -- its walk is as it was then
  pub write_keeps : (to : Parts) (after : Operation) → WritesAt op.walk.phase o (c.steps + 1) least here to op NoMemory after → after.walk ≡ op.walk
  write_keeps to after t = ap (λ (y : Operation). y.walk) (refused op.walk.phase to after t).3

  -- a step that is left to others is a look, or none, and changes nothing
  pub write_left : (p : Phase) → (to : Parts) (after : Operation) → WritesAt p o (c.steps + 1) least here to op Nothing after → (to ≡ here) × (after ≡ op) × (IsNoLook p → is_done p ≡ true)
  write_left Lock to after t = absurd t
  write_left Judge to after t = absurd t
  write_left Store to after t = absurd t
  write_left Fill to after t = absurd t
  write_left Publish to after t = absurd t
  write_left SplitStart to after t = absurd t
  write_left SplitMove to after t = absurd t
  write_left SplitPrev to after t = absurd t
  write_left LockParent to after t = absurd t
  write_left InsertChild to after t = absurd t
  write_left InteriorSplit to after t = absurd t
  write_left Reparent to after t = absurd t
  write_left RootGrow to after t = absurd t
  write_left MakeLayer to after t = absurd t
  write_left MarkUnstable to after t = absurd t
  write_left Link to after t = absurd t
  write_left MarkLayer to after t = absurd t
  write_left DropKey to after t = absurd t
  write_left LockPrev to after t = absurd t
  write_left LockAbove to after t = absurd t
  write_left Unlink to after t = absurd t
  write_left FixNext to after t = absurd t
  write_left Collapse to after t = absurd t
  write_left CleanLayer to after t = absurd t
  write_left Unlock to after t = absurd t
  write_left Done to after t = (t.same, t.op_is, λ none. refl)
  write_left _ to after t = (t.same, t.op_is, λ none. absurd none)

  -- so it answers that no step is left
  no_step : is_done op.walk.phase ≡ true → ¬ HasStep (shown c) o
  no_step done s = both_ways _ s.2 (ap (λ (v : OperationView). is_done v.phase) (same_Some s.0 (view_of op) (sym s.1 ∙ shown_there c.table o op there)) ∙ done)

  pub write_none : IsNext now o IsNoLook → (to : Parts) (after : Operation) → WritesAt op.walk.phase o (c.steps + 1) least here to op Nothing after → (table : Table) → table ≡ c.table
      → StateInvariant (kept_as to table) × StepsOn now (kept_as to table) o NoSuch
  write_none next to after t table e =
      let n = subst (λ (v : Core). IsNext v o IsNoLook) (sym is) next in
      let none = write_left op.walk.phase to after t in
      let done = none.2 (subst (λ (x : Operation). IsNoLook x.walk.phase) (same_Some n.0 op (sym n.1 ∙ there)) n.2) in
      stays_so to table none.0 e NoSuch (record { tells = (refl, no_step done); nears = tt; leads = tt })

  -- where no step is made, and memory was granted, the operation is as it was
  pub write_leaves : (to : Parts) (made : Made) (after : Operation) → made ≢ Step → made ≢ NoMemory → WritesAt op.walk.phase o (c.steps + 1) least here to op made after → after ≡ op
  write_leaves to Step after other granted t = absurd (other refl)
  write_leaves to (Blocked holder) after other granted t = (write_waits op.walk.phase to holder after t).3
  write_leaves to NoMemory after other granted t = absurd (granted refl)
  write_leaves to Nothing after other granted t = (write_left op.walk.phase to after t).1

  -- so its birth is as it was, whatever comes of the step
  pub write_birth : (to : Parts) (made : Made) (after : Operation) → WritesAt op.walk.phase o (c.steps + 1) least here to op made after → after.birth ≡ op.birth
  write_birth to Step after t = step_birth op.walk.phase to after t
  write_birth to (Blocked holder) after t = ap birth_in (write_waits op.walk.phase to holder after t).3
  write_birth to NoMemory after t = ap birth_in (refused op.walk.phase to after t).3
  write_birth to Nothing after t = ap birth_in (write_left op.walk.phase to after t).1

  -- what is told of the operation as it is, by what a call tells that was lent it
  pub write_told : (to : Parts) (made : Made) (shown left after : Operation) → shown ≡ op → left ≡ after → WritesAt shown.walk.phase o (c.steps + 1) least here to shown made left → WritesAt op.walk.phase o (c.steps + 1) least here to op made after
  write_told to made shown left after shows leaves met =
      subst (λ (x : Operation). WritesAt x.walk.phase o (c.steps + 1) least here to x made after) shows
      (subst (λ (y : Operation). WritesAt shown.walk.phase o (c.steps + 1) least here to shown made y) leaves met)

-- an operation that is to make a step is there
pub write_there : (c now : Core) (o : ℕ) (P : Phase → Type 0) → c ≡ now → IsNext now o P → operation_at c.table o ≡ None → ⊥
write_there c now o P is next none = let n = subst (λ (v : Core). IsNext v o P) (sym is) next in let e = sym none ∙ n.1 in cc
