-- How far an operation comes that is alone, or that nobody disturbs any more, and how its run ends: for `Inner::run_alone`.
use Rattle.std.proofs.Common.{◌≡◌, ◌≢◌, ℕ, zero, suc, ◌+◌, ◌*◌, ◌<◌, ◌≤◌, inl, inr, List, [], ◌∷◌, Bool, true, false, Option, None, Some, refl, sym, ap, subst, ◌∙◌, arith}
use Rattle.std.proofs.{Math.Nat.{mul-le-mul_right, min-le_right}, lemmas.Option.same_Some}
use Rattle.std.specs.Prelude.{◌^◌, min}
use Rattle.mt_arena.specs.Arena.{ArenaView, IsArena, live_count}
use Rattle.mt_operation.specs.{Phases.{Kind, IsClimb, IsClimbKind, row, IsToGrow, is_done}, declared.phase.Phase.Phase}
use Rattle.mt_operation.specs.{declared.phase.Phase.TheVariants.{InteriorSplit, RootGrow, Done}, declared.walk.Walk.Walk, declared.splits.Halves.Halves}
use Rattle.mt_operation.specs.{declared.operation.Operation.Operation, Operations.{OperationView, view_of}, Tasks.ask, Tables.{op_at as operation_at}}
use Rattle.mt_operation.specs.declared.outcome.Outcome.{Outcome}
use Rattle.mt_operation.proofs.Phases.{few_ranks}
use Rattle.mt_core.proofs.{WalkBounds.few_walked, Climbing.{climbed, climb_ungrown}, ScanNears.{scan_few, scan_left}, RemovalNears.{few_removal, removal_left}}
use Rattle.mt_core.proofs.{Following.in_the_way, AloneStarts.unhindered_first, AloneRuns.{no_value, stepped, IsRunning, running_first, running_on, run_outcome}}
use Rattle.mt_core.specs.Budgets.{WalksBy, budget_of, AreBelow, above, astray, before_unlock, split_level}
use Rattle.mt_core.specs.{Points.{MadeBy, IsComing, HasMade, IsFreeOfOthers, IsSoFar, IsUnhindered, MayHaveGrown, StepsOn}, ScanPoints.live_trees}
use Rattle.mt_core.specs.Alone.{most_among, most_steps, IsChain, Runs, IsAlone, EndsAlone, IsUndisturbed, EndsSoon}
use Rattle.mt_state.specs.{KeptOperations.{IsKeptFor, HasAnswer, IsBound, IsKeptAt, IsOnItsWay}, declared.moves.Move.Move}
use Rattle.mt_state.specs.declared.moves.Move.TheVariants.{Moved, Again, NoMemory as NoMemoryMove, Done as DoneMove, Spent, NoSuch}
use Rattle.mt_state.specs.{Views.{StateView, Core, shown, op_at}, Invariant.StateInvariant, Promises.{HasStep, IsHeldByOther, IsAnswer, IsStep, Tells}}
use Rattle.mt_state.proofs.Shown.{shown_there, inside_of}
use Rattle.mt_insert.specs.KeptSplits.{HasSplits, last_of}
use Rattle.mt_remove.specs.Writes.{is_remove}
use Rattle.mt_rows.specs.Maps.{is_scan}
use Rattle.mt_operation.specs.Phases as kinds

-- one step more is part of the run
pub chain_more : (old v w : StateView) (o made : ℕ) → IsChain made old v o → IsStep v w o false → IsChain (made + 1) old w o
chain_more old v w o made chain s = subst (λ n. IsChain n old w o) {x = suc made} (omega arith) (v, chain, s)

-- each of its steps has a number of its own
pub chain_number : (made : ℕ) (old v : StateView) (o : ℕ) → IsChain made old v o → v.steps ≡ old.steps + made
chain_number zero old v o chain = omega (arith, ap (λ (x : StateView). x.steps) chain)
chain_number (suc made) old v o chain = omega (arith, chain_number made old chain.0 o chain.1, chain.2.number)

-- so no run makes them all
pub chain_ends : (made : ℕ) (old : StateView) (new : Core) (o : ℕ) → IsChain made old (shown new) o → StateInvariant new → made ≤ 2 ^ 59
chain_ends made old new o chain h = omega (arith, chain_number made old (shown new) o chain, h.few)

-- each answer but Moved ends the run
pub run_stops : (old v w : StateView) (o made : ℕ) (answer : Move) → IsChain made old v o → answer ≢ Moved → Tells v w o answer → Runs old w o answer
run_stops old v w o made answer chain other s = record { made = made; mid = v; chain = chain; tells = s; ends = other }

-- so it is with one that is alone
undisturbed_alone : (v : StateView) (o : ℕ) (op : OperationView) → IsAlone v o op → IsUndisturbed v o op
undisturbed_alone v o op alone = record {
  there = alone.there;
  unfinished = ap is_done alone.enters;
  free = λ k q within holds. absurd (no_value (sym (alone.free k within) ∙ holds));
}

-- the left half of a split is there, so its level is below the height
split_below : (v : ArenaView) (height o : ℕ) (op : Operation) → AreBelow v height → HasSplits v o op.splits → split_level v op.splits < height
split_below v height o op below s = below (last_of op.splits).left s.parted.left.held.there s.parted.left.live

-- before it gives its locks back
most_unlock : (halves : List Halves) (height : ℕ) → before_unlock halves height ≤ 23 * height + 7
most_unlock [] height = omega arith
most_unlock (x ∷ halves) height = omega arith

-- at most 31 layers are above its own
most_above : (height : ℕ) (w : Walk) → above height w ≤ astray height + 31 * (3 * height + 12)
most_above height w =
    let capped : min w.layer 31 * (3 * height + 12) ≤ 31 * (3 * height + 12) = mul-le-mul_right (3 * height + 12) (min-le_right w.layer 31) in omega (arith, capped)

-- at no phase has it made many steps
few_made : (k : Kind) (p : Phase) → (row p).kind ≡ k → (c : Core) (o : ℕ) (op : Operation) (height made : ℕ) → IsKeptFor k p c o op
    → above height op.walk ≤ astray height + 31 * (3 * height + 12) → (¬ MayHaveGrown p op.splits.halves.items → AreBelow c.arena height)
    → MadeBy k p height made c.arena op.walk op.splits → made < 256 * (height + 64)
few_made k p is c o op height made kept most below = by k is kept
  where
    walked : WalksBy p (budget_of height) made c.arena op.walk → made < 256 * (height + 64)
    walked few = elim (few_walked p (budget_of height) made c.arena op.walk few) [ inl now ↦ omega (arith, now, most) | inr strays ↦ omega (arith, strays) ]

    ranked : made ≤ above height op.walk + 3 * height + (row p).rank → made < 256 * (height + 64)
    ranked few = omega (arith, few, most, few_ranks p)

    by : (k : Kind) → (row p).kind ≡ k → IsKeptFor k p c o op → MadeBy k p height made c.arena op.walk op.splits → made < 256 * (height + 64)
    by kinds.Descends is kept few = walked few
    by kinds.Reads is kept few = walked few
    by kinds.Scans is kept few = walked few
    by kinds.Locks is kept few = walked few
    by kinds.Judges is kept few = ranked few
    by kinds.Writes is kept few = ranked few
    by kinds.Begins is kept few = ranked few
    by kinds.Splits is kept few = ranked few
    by kinds.Layers is kept few = ranked few
    by kinds.Climbs is kept few =
        let climb : IsClimb p = subst IsClimbKind (sym is) tt in
        let low = split_below c.arena height o op (below (climb_ungrown p climb op.splits.halves.items)) (climbed p climb c.arena o op.splits kept.climbs) in
        omega (arith, few, most, low, few_ranks p)
    by kinds.Returns is kept few = omega (arith, few, most, most_unlock op.splits.halves.items height)
    by _ is kept few = absurd few

-- and it is not done
left_at : (p : Phase) (c : Core) (op : Operation) (height made : ℕ) → HasMade p height made c.arena op.walk op.splits → is_done p ≡ false
left_at Done c op height made few = absurd few
left_at _ c op height made few = refl

-- so with a get or a put, and with a removal
so_far_few : (b : Bool) (c : Core) (o : ℕ) (op : Operation) (height made : ℕ) → IsKeptAt op.walk.phase c o op → IsSoFar b height made c.arena op → made < 256 * (height + 64)
so_far_few true c o op height made kept point = few_removal height made c.arena op.walk op.outcome op.removal point
so_far_few false c o op height made kept point = few_made (row op.walk.phase).kind op.walk.phase refl c o op height made kept (most_above height op.walk) point.below point.few

so_far_left : (b : Bool) (c : Core) (op : Operation) (height made : ℕ) → IsSoFar b height made c.arena op → is_done op.walk.phase ≡ false
so_far_left true c op height made point = removal_left op.walk.phase height point.round made c.arena op.walk point.few
so_far_left false c op height made point = left_at op.walk.phase c op height made point.few

-- whether it scans or not
coming_few : (b : Bool) (c : Core) (o : ℕ) (op : Operation) (height trees made : ℕ) → IsKeptAt op.walk.phase c o op → IsComing b height trees made c.arena op
    → made < most_among b height trees
coming_few true c o op height trees made kept point = scan_few height trees made c.arena op.walk op.scan.stop op.task.key point
coming_few false c o op height trees made kept point = so_far_few (is_remove (ask op.task)) c o op height made kept point

coming_left : (b : Bool) (c : Core) (op : Operation) (height trees made : ℕ) → IsComing b height trees made c.arena op → is_done op.walk.phase ≡ false
coming_left true c op height trees made point = scan_left op.walk.phase op.scan.stop height point.round c.arena op.walk point.few
coming_left false c op height trees made point = so_far_left (is_remove (ask op.task)) c op height made point

-- an operation with no step left is at its end
done_is : (p : Phase) → is_done p ≡ true → p ≡ Done
done_is Done e = refl
done_is _ e = absurd (cc)

-- one that is to make a node has its answer
answer_to_grow : (p : Phase) (c : Core) (o : ℕ) (op : Operation) → IsKeptAt p c o op → IsToGrow p → HasAnswer c op
answer_to_grow InteriorSplit c o op kept grows = kept.answer
answer_to_grow RootGrow c o op kept grows = kept.answer
answer_to_grow _ c o op kept grows = absurd grows

-- the run so far of an operation that is alone: nobody is in its way
pub record GoesAlone (old v : Core) (o : ℕ) (op : OperationView) (made : ℕ) : Type 0 where
  pub run : IsRunning (shown old) (shown v) o op made
  pub free : IsUnhindered v o (live_count old.arena.nodes) (live_trees old.arena.trees) made

-- one that has made no step was told nothing
untold_first : (c : Core) (o : ℕ) (op : OperationView) → StateInvariant c → IsAlone (shown c) o op → op.outcome ≡ None
untold_first c o op h alone = ap (λ (x : OperationView). x.outcome) (sym inside.2) ∙ by inside.0.outcome way.bound
  where
    inside : (x : Operation) × (operation_at c.table o ≡ Some x) × (view_of x ≡ op)
    inside = inside_of c.table o op alone.there

    way : IsOnItsWay c inside.0
    way = subst (λ (p : Phase). IsKeptAt p c o inside.0) (ap (λ (x : OperationView). x.phase) inside.2 ∙ alone.enters) (h.ops o inside.0 inside.1).kept

    by : (told : Option Outcome) → IsBound told c inside.0 → told ≡ None
    by None bound = refl
    by (Some told) bound = absurd (let first = ap (λ (x : OperationView). x.first) inside.2 in omega (arith, first, alone.first, bound.answer.right.begun))

pub alone_first : (old : Core) (o : ℕ) (op : OperationView) → StateInvariant old → IsArena old.arena.nodes old.arena.trees → IsAlone (shown old) o op
    → GoesAlone old old o op 0
alone_first old o op h arena alone = record { run = running_first (shown old) o op alone (untold_first old o op h alone); free = (unhindered_first old o op h arena (undisturbed_alone (shown old) o op alone)).0 }

-- an operation that moved goes on
pub alone_goes_on : (old v w : Core) (o : ℕ) (op : OperationView) (made : ℕ) → GoesAlone old v o op made → StepsOn v w o Moved → GoesAlone old w o op (made + 1)
alone_goes_on old v w o op made g s = record {
  run = running_on (shown old) (shown v) (shown w) o op made false g.run s.tells;
  free = s.nears (live_count old.arena.nodes) (live_trees old.arena.trees) made g.free;
}

module _ (old v : Core) (o : ℕ) (op : OperationView) (made : ℕ) (h : StateInvariant v) (g : GoesAlone old v o op made) where
  abbrev inner : Operation
  inner = g.free.op

  -- what is shown of it
  same : g.run.after ≡ view_of inner
  same = same_Some g.run.after (view_of inner) (sym g.run.there ∙ shown_there v.table o inner g.free.there)

  few : made < most_steps (shown old) op.command
  few = subst (λ command. made < most_steps (shown old) command) (ap (λ (x : OperationView). x.command) (sym same) ∙ g.run.asked.command)
      (coming_few (is_scan (ask inner.task)) v o inner (live_count old.arena.nodes) (live_trees old.arena.trees) made (h.ops o inner g.free.there).kept g.free.point)

  left : is_done g.run.after.phase ≡ false
  left = ap (λ (x : OperationView). is_done x.phase) same ∙ coming_left (is_scan (ask inner.task)) v inner (live_count old.arena.nodes) (live_trees old.arena.trees) made g.free.point

  -- a step that ends it ends the run
  ends_done : (w : StateView) → IsStep (shown v) w o true → EndsAlone (shown old) w o op DoneMove
  ends_done w s =
      let run : IsRunning (shown old) w o op (made + 1) = running_on (shown old) (shown v) w o op made true g.run s in
      let is : s.after ≡ run.after = same_Some s.after run.after (sym (stepped (shown v) w o true s) ∙ run.there) in
      let answer = s.answer refl in
      let has : run.after.outcome ≡ Some answer.0 = ap (λ (x : OperationView). x.outcome) (sym is) ∙ answer.1 in
      let right : IsAnswer w run.after answer.0 = subst (λ (x : OperationView). IsAnswer w x answer.0) is answer.2 in
      let ends : run.after.phase ≡ Done = ap (λ (x : OperationView). x.phase) (sym is) ∙ done_is s.after.phase (sym s.ends) in
      record {
        few = omega (arith, run.number, few);
        after = run.after;
        there = run.there;
        asked = run.asked;
        ends = ends;
        makes = record {
          told = answer.0;
          has = has;
          outcome = run_outcome (shown old) w o op (made + 1) run answer.0 has right
              (omega (arith, ap (λ (x : OperationView). x.last) is, s.moves.last, s.number));
        };
      }

  -- one that finds no memory for a node has its answer, and leaves all as it was
  ends_unmade : (p : OperationView) → op_at (shown v).table o ≡ Some p → IsToGrow p.phase → EndsAlone (shown old) (shown v) o op NoMemoryMove
  ends_unmade p there grows =
      let grows_here : IsToGrow g.run.after.phase = subst (λ (x : OperationView). IsToGrow x.phase) (same_Some p g.run.after (sym there ∙ g.run.there)) grows in
      let kept = h.ops o inner g.free.there in
      let answer : HasAnswer v inner = answer_to_grow inner.walk.phase v o inner kept.kept (subst (λ (x : OperationView). IsToGrow x.phase) same grows_here) in
      let has : g.run.after.outcome ≡ Some answer.outcome = ap (λ (x : OperationView). x.outcome) same ∙ answer.told in
      let right : IsAnswer (shown v) g.run.after answer.outcome = subst (λ (x : OperationView). IsAnswer (shown v) x answer.outcome) (sym same) answer.right in
      record {
        few = omega (arith, g.run.number, few);
        after = g.run.after;
        there = g.run.there;
        asked = g.run.asked;
        ends = grows_here;
        makes = record {
          told = answer.outcome;
          has = has;
          outcome = run_outcome (shown old) (shown v) o op made g.run answer.outcome has right
              (omega (arith, ap (λ (x : OperationView). x.last) same, kept.always.made));
        };
      }

  -- one for whose next step no number is left has made its change or none, and has fewer steps behind it than a whole run
  ends_spent : v.steps ≡ 2 ^ 59 → EndsAlone (shown old) (shown v) o op Spent
  ends_spent all = record {
    few = omega (arith, g.run.number, few);
    after = g.run.after;
    there = g.run.there;
    asked = g.run.asked;
    ends = (all, omega (arith, g.run.number, few));
    makes = elim g.run.so_far [
      | inl u ↦ inl u.contents
      | inr p ↦ inr (p.reply, p.number, p.run)
    ];
  }

-- who alone holds nodes is told of nobody
never_again : (v : Core) (o holder : ℕ) → IsFreeOfOthers v.arena o → IsHeldByOther (shown v) o holder → ⊥
never_again v o holder free held =
    let way = in_the_way v.arena held.op.phase held.op.walk held.op.splits held.op.removal held.op.scan holder held.holds in
    held.other (free way.0 holder way.1 way.2)

-- each answer but Moved is Done, or that there is no memory or no number
pub alone_stops : (old v w : Core) (o : ℕ) (op : OperationView) (made : ℕ) (answer : Move) → StateInvariant v → GoesAlone old v o op made
    → answer ≢ Moved → StepsOn v w o answer → EndsAlone (shown old) (shown w) o op answer
alone_stops old v w o op made Moved h g other s = absurd (other refl)
alone_stops old v w o op made DoneMove h g other s = ends_done old v o op made h g (shown w) s.tells
alone_stops old v w o op made (Again holder) h g other s = absurd (never_again v o holder g.free.free s.tells.2)
alone_stops old v w o op made Spent h g other s = subst (λ (x : StateView). EndsAlone (shown old) x o op Spent) (sym s.tells.0) (ends_spent old v o op made h g s.tells.2)
alone_stops old v w o op made NoSuch h g other s = absurd (s.tells.1 (g.run.after, g.run.there, left old v o op made h g))
alone_stops old v w o op made NoMemoryMove h g other s =
    let grow = s.tells.1 in
    subst (λ (x : StateView). EndsAlone (shown old) x o op NoMemoryMove) (sym s.tells.0) (ends_unmade old v o op made h g grow.op grow.there grow.grows)

-- the run so far of an operation that nobody disturbs: nobody is in its way, and it is asked the same
pub record GoesUndisturbed (old v : Core) (o : ℕ) (op : OperationView) (made : ℕ) : Type 0 where
  pub free : IsUnhindered v o (live_count old.arena.nodes) (live_trees old.arena.trees) made
  pub asked : ask free.op.task ≡ op.command

pub undisturbed_first : (old : Core) (o : ℕ) (op : OperationView) → StateInvariant old → IsArena old.arena.nodes old.arena.trees → IsUndisturbed (shown old) o op
    → GoesUndisturbed old old o op 0
undisturbed_first old o op h arena u = let first = unhindered_first old o op h arena u in record { free = first.0; asked = first.1 }

pub undisturbed_goes_on : (old v w : Core) (o : ℕ) (op : OperationView) (made : ℕ) → GoesUndisturbed old v o op made → StepsOn v w o Moved
    → GoesUndisturbed old w o op (made + 1)
undisturbed_goes_on old v w o op made g s =
    let now = s.nears (live_count old.arena.nodes) (live_trees old.arena.trees) made g.free in
    let after : view_of now.op ≡ s.tells.after =
    same_Some (view_of now.op) s.tells.after (sym (shown_there w.table o now.op now.there) ∙ stepped (shown v) (shown w) o false s.tells) in
    let before : view_of g.free.op ≡ s.tells.before = same_Some (view_of g.free.op) s.tells.before (sym (shown_there v.table o g.free.op g.free.there) ∙ s.tells.there) in
    record { free = now; asked = ap (λ (x : OperationView). x.command) after ∙ s.tells.moves.asked.command ∙ ap (λ (x : OperationView). x.command) (sym before) ∙ g.asked }

module _ (old v : Core) (o : ℕ) (op : OperationView) (made : ℕ) (h : StateInvariant v) (g : GoesUndisturbed old v o op made) where
  abbrev met : Operation
  met = g.free.op

  made_few : made < most_steps (shown old) op.command
  made_few = subst (λ command. made < most_steps (shown old) command) g.asked
      (coming_few (is_scan (ask met.task)) v o met (live_count old.arena.nodes) (live_trees old.arena.trees) made (h.ops o met g.free.there).kept g.free.point)

  met_left : HasStep (shown v) o
  met_left = (view_of met, shown_there v.table o met g.free.there, coming_left (is_scan (ask met.task)) v met (live_count old.arena.nodes) (live_trees old.arena.trees) made g.free.point)

-- each answer but Moved is Done, or that there is no memory or no number
pub undisturbed_stops : (old v w : Core) (o : ℕ) (op : OperationView) (made : ℕ) (answer : Move) → StateInvariant v → v.steps ≡ old.steps + made
    → GoesUndisturbed old v o op made → answer ≢ Moved → StepsOn v w o answer → EndsSoon (shown old) (shown w) o op answer
undisturbed_stops old v w o op made Moved h number g other s = absurd (other refl)
undisturbed_stops old v w o op made DoneMove h number g other s = record {
  few = omega (arith, number, s.tells.number, made_few old v o op made h g);
  after = s.tells.after;
  there = stepped (shown v) (shown w) o true s.tells;
  ends = done_is s.tells.after.phase (sym s.tells.ends);
}
undisturbed_stops old v w o op made (Again holder) h number g other s = absurd (never_again v o holder g.free.free s.tells.2)
undisturbed_stops old v w o op made Spent h number g other s =
    subst (λ (x : StateView). EndsSoon (shown old) x o op Spent) (sym s.tells.0) (record {
      few = omega (arith, number, made_few old v o op made h g);
      after = view_of g.free.op;
      there = shown_there v.table o g.free.op g.free.there;
      ends = (s.tells.2, omega (arith, number, made_few old v o op made h g));
    })
undisturbed_stops old v w o op made NoSuch h number g other s = absurd (s.tells.1 (met_left old v o op made h g))
undisturbed_stops old v w o op made NoMemoryMove h number g other s =
    let grow = s.tells.1 in
    subst (λ (x : StateView). EndsSoon (shown old) x o op NoMemoryMove) (sym s.tells.0) (record {
      few = omega (arith, number, made_few old v o op made h g);
      after = grow.op;
      there = grow.there;
      ends = grow.grows;
    })
