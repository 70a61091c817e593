-- What a take and a cancelling make of a state, and what they tell: for `Inner::take` and `cancel`.
use Rattle.std.proofs.{Common.{◌≡◌, ◌≢◌, ℕ, ◌+◌, ◌<◌, true, false, set, None, Some, refl, sym, ap, subst, ◌∙◌, arith}, lemmas.Option.{same_Some, none-some}}
use Rattle.std.specs.Prelude.{not}
use Rattle.mt_runs.specs.declared.event.Answer.{Answer}
use Rattle.mt_operation.specs.{declared.operation.Operation.Operation, declared.phase.Phase.Phase, declared.phase.Phase.TheVariants.{Enter, Done}}
use Rattle.mt_operation.specs.{Operations.{OperationView, view_of, is_unfinished, IsUnsplit}, Phases.{is_done, has_splits, is_prepared}}
use Rattle.mt_operation.specs.Tables.{Table, op_at as operation_at}
use Rattle.mt_state.specs.{Views.{Core, StateView, Shown, shown, op_at}, Promises.IsAnswer, KeptOperations.{HasAnswer, IsKeptAt}}
use Rattle.mt_state.specs.{Invariant.{StateInvariant, HoldsAt}, Begins.{IsAnswerOf, Takes, IsEnded}}
use Rattle.mt_state.proofs.{Shown.{shown_there, shown_set, inside_of}, Answered.answered_out, ScanNeeds.key_sought_is}
use Rattle.mt_core.specs.{declared.displaced.Displaced.Displaced, Tickets.{IsStill, Cancels}, Tidies.{DisplacesRestOf, HandsOutRest}}
use Rattle.mt_core.proofs.Tabling.{with_table, removed_sound, made_inside}

-- an operation that is finished has its answer
pub done_answer : (c : Core) (o : ℕ) (op : Operation) → StateInvariant c → operation_at c.table o ≡ Some op → op.walk.phase ≡ Done → HasAnswer c op
done_answer c o op h there ended = subst (λ p. IsKeptAt p c o op) ended (h.ops o op there).kept

done_is : (p : Phase) → not (is_done p) ≡ false → p ≡ Done
done_is Done e = refl
done_is _ e = absurd (cc)

-- an operation with no step left is done
pub ended_done : (op : Operation) → is_unfinished op ≡ false → op.walk.phase ≡ Done
ended_done op e = done_is op.walk.phase e

-- so it has an outcome
pub done_told : (c : Core) (o : ℕ) → StateInvariant c → (op : Operation) → operation_at c.table o ≡ Some op → is_unfinished op ≡ false → op.outcome ≢ None
done_told c o h op there ended none = let a = done_answer c o op h there (ended_done op ended) in none-some a.outcome (sym none ∙ a.told)

-- what a give-up leaves where it has an answer
abbrev GaveUp : Core → ℕ → Table → Answer → Type 0
GaveUp c o table answer = (op : Operation) × (operation_at c.table o ≡ Some op) × IsAnswerOf (view_of op) answer × (table ≡ set c.table o None)

-- and where it has none
abbrev GaveNone : Core → ℕ → Table → Type 0
GaveNone c o table = (table ≡ c.table) × ((op : Operation) → operation_at c.table o ≡ Some op → is_unfinished op ≡ true)

-- a take leaves the invariant, with one answer more
pub taken_state : (c : Core) (o : ℕ) (table : Table) (answer : Answer) → StateInvariant c → GaveUp c o table answer
    → StateInvariant (with_table c (c.answers + 1) table)
taken_state c o table answer h took =
    let a = done_answer c o took.0 h took.1 took.2.finished in
    subst (λ t. StateInvariant (with_table c (c.answers + 1) t)) (sym took.3)
    (removed_sound c o (c.answers + 1) took.0 h took.1 (λ k held. subst (λ p. HoldsAt p took.0 k) took.2.finished held) (ap is_prepared took.2.finished)
    (answered_out c.answers c.steps c.table o took.0 took.1 a.right.begun h.answered))

-- what a take tells
pub takes_by : (c : Core) (now : StateView) (o : ℕ) (table : Table) (answer : Answer) → shown c ≡ now → StateInvariant c → GaveUp c o table answer
    → Takes now (shown (with_table c (c.answers + 1) table)) o answer
takes_by c now o table answer is h gave =
    subst (λ (v : StateView). Takes v (shown (with_table c (c.answers + 1) table)) o answer) is
    (subst (λ t. Takes (shown c) (shown (with_table c (c.answers + 1) t)) o answer) (sym gave.3) (record {
      op = view_of gave.0;
      there = shown_there c.table o gave.0 gave.1;
      told = gave.2;
      right =
          let a = done_answer c o gave.0 h gave.1 gave.2.finished in
          subst (IsAnswer (shown c) (view_of gave.0)) (same_Some a.outcome (record { reply = answer.reply; at = answer.at }) (sym a.told ∙ gave.2.told)) a.right;
      gone = ap (λ (t : Shown). record (shown c) { answers = c.answers + 1; table = t }) (shown_set c.table o None);
    }))

-- and the rest that it hands out is that of a finished operation
pub hands_out_by : (c : Core) (now : StateView) (o : ℕ) (table : Table) (answer : Answer) (before after : Displaced) → shown c ≡ now
    → StateInvariant c → GaveUp c o table answer
    → DisplacesRestOf c.table o before after → HandsOutRest now.table o before after
hands_out_by c now o table answer before after is h gave displaces =
    let op = gave.0 in
    let kept = h.ops o op gave.1 in
    let displaced = displaces op gave.1 in
    record {
      op = view_of op;
      there = ap (λ (v : StateView). op_at v.table o) (sym is) ∙ shown_there c.table o op gave.1;
      rest = displaced.rest;
      is = displaced.is;
      key = ap (λ (r : Operation). r.task.key) displaced.all ∙ key_sought_is c op kept.always;
      untold = ap (λ (r : Operation). r.outcome) displaced.all;
      unprepared = ap (λ (r : Operation). r.prepared) displaced.all ∙ (done_answer c o op h gave.1 gave.2.finished).unprepared;
      unsplit = subst (λ (r : Operation). IsUnsplit r.splits) (sym displaced.all) (kept.unsplit (ap has_splits gave.2.finished));
      collected = ap (λ (r : Operation). r.scan.collected.items) displaced.all;
      seen = ap (λ (r : Operation). r.scan.seen) displaced.all;
      writes = displaced.writes;
    }

-- what it tells of an operation that is not finished
pub keeps_by : (c : Core) (now : StateView) (o : ℕ) (table : Table) → shown c ≡ now → GaveNone c o table
    → (shown (with_table c c.answers table) ≡ now) × ¬ IsEnded now.table o
keeps_by c now o table is gave = (
  ap (λ t. shown (with_table c c.answers t)) gave.0 ∙ is,
  λ ended.
      let inside = inside_of c.table o ended.0 (ap (λ (v : StateView). op_at v.table o) is ∙ ended.1) in
      let left = gave.1 inside.0 inside.1 in
      let done : is_done inside.0.walk.phase ≡ true = ap (λ (x : OperationView). is_done x.phase) inside.2 ∙ ended.2 in
      absurd (cc),
)

enters : (p : Phase) → (p ≢ Enter → ⊥) → p ≡ Enter
enters Enter at = refl
enters _ at = absurd (at (λ e. cc))

-- an operation that has made no step is about to enter
still_enters : (c : Core) (o : ℕ) (op : Operation) → StateInvariant c → operation_at c.table o ≡ Some op → op.walk.first ≡ 0 → op.walk.phase ≡ Enter
still_enters c o op h there none = enters op.walk.phase (λ other. let begun = (h.ops o op there).always.begun other in omega (arith, begun, none))

-- what is left where an operation is given back
abbrev GaveBack : Core → ℕ → Table → Type 0
GaveBack c o table = (op : Operation) × (operation_at c.table o ≡ Some op) × (op.walk.first ≡ 0) × (table ≡ set c.table o None)

-- a cancelling leaves the invariant
pub cancelled_state : (c : Core) (o : ℕ) (table : Table) → StateInvariant c → GaveBack c o table → StateInvariant (with_table c c.answers table)
cancelled_state c o table h gave =
    let at = still_enters c o gave.0 h gave.1 gave.2 in
    subst (λ t. StateInvariant (with_table c c.answers t)) (sym gave.3)
    (removed_sound c o c.answers gave.0 h gave.1 (λ k held. subst (λ p. HoldsAt p gave.0 k) at held) (ap is_prepared at)
    (let less = made_inside c.table o in let bound = h.answered in omega (arith, less, bound)))

-- what it tells
pub cancels_by : (c : Core) (now : StateView) (o : ℕ) (table : Table) → shown c ≡ now → GaveBack c o table
    → Cancels now (shown (with_table c c.answers table)) o
cancels_by c now o table view gave =
    subst (λ (v : StateView). Cancels v (shown (with_table c c.answers table)) o) view
    (subst (λ t. Cancels (shown c) (shown (with_table c c.answers t)) o) (sym gave.3) (record {
      still = (view_of gave.0, shown_there c.table o gave.0 gave.1, gave.2);
      gone = ap (λ (t : Shown). record (shown c) { table = t }) (shown_set c.table o None);
    }))

-- what it tells of an operation that has made a step, or is not there
pub stays_by : (c : Core) (now : StateView) (o : ℕ) → shown c ≡ now → ((op : Operation) → operation_at c.table o ≡ Some op → 0 < op.walk.first)
    → ¬ IsStill now.table o
stays_by c now o view made still =
    let inside = inside_of c.table o still.0 (ap (λ (v : StateView). op_at v.table o) view ∙ still.1) in
    let first = ap (λ (x : OperationView). x.first) inside.2 in
    let begun = made inside.0 inside.1 in
    let none = still.2 in
    omega (arith, first, begun, none)
