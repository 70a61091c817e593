-- What was answered before another operation was begun precedes it: for the law.
use Rattle.std.proofs.{Common.{◌≡◌, ℕ, zero, suc, ◌<◌, ◌≤◌, List, [], ◌∷◌, true, false, Ok, Err, ap, arith}}
use Rattle.mt_runs.specs.{declared.event.Answer.Answer}
use Rattle.mt_operation.specs.{Operations.OperationView}
use Rattle.mt_state.specs.{Views.StateView, Promises.IsStep}
use Rattle.mt_core.specs.{Restores.IsIdle}
use Rattle.mt_history.specs.Legal.{Along}
use Rattle.mt_book.specs.{Periods.{Deed, Looked, Began, Rested, Stepped, Took, Kept, Period}, Does.Did, Happens.{Happening, Acted, Opened, Given, Happens, Leads}, OneRun.Through}
use Rattle.mt_orders.specs.{Stories.{ids_at, story_along}, Explained.{HappensAt, IsBegunAt, IsTakenAt, TakesAt, BeginsAt, AnsweredBefore}}
use Rattle.mt_orders.proofs.Explaining.{explained}
use Rattle.mt_state.specs.declared.moves.Move.TheVariants as moves

-- no number of steps falls
same_steps : (old new : StateView) → new ≡ old → old.steps ≤ new.steps
same_steps old new is = let same = ap (λ (v : StateView). v.steps) is in omega (arith, same)

deed_rises : (old new : StateView) (deed : Deed) → Did old new deed → old.steps ≤ new.steps
deed_rises old new (Looked logs) d = same_steps old new d.0
deed_rises old new (Began opening logs (Ok ticket) next) d = let same = ap (λ (v : StateView). v.steps) d.1.2.stands in omega (arith, same)
deed_rises old new (Began opening logs (Err refusal) next) d = same_steps old new d.1
deed_rises old new (Rested id) d = same_steps old new d
deed_rises old new (Stepped id turned moves.Moved next) d = let s : IsStep old new id false = d.0 in omega (arith, s.number)
deed_rises old new (Stepped id turned moves.Done next) d = let s : IsStep old new id true = d.0 in omega (arith, s.number)
deed_rises old new (Stepped id turned (moves.Again holder) next) d = same_steps old new d.0.0
deed_rises old new (Stepped id turned moves.NoMemory next) d = same_steps old new d.0.0
deed_rises old new (Stepped id turned moves.Spent next) d = same_steps old new d.0.0
deed_rises old new (Stepped id turned moves.NoSuch next) d = same_steps old new d.0.0
deed_rises old new (Took id room answer) d =
    let gone = ap (λ (v : StateView). v.steps) d.1.gone in
    let left = d.2.2.leaves.steps in
    omega (arith, gone, left)
deed_rises old new (Kept id) d = same_steps old new d.0

pub rises : (old new : StateView) (what : Happening) → Happens old what new → old.steps ≤ new.steps
rises old new (Acted p) d = deed_rises old new p.deed d.1
rises old new Opened d = let same = ap (λ (v : StateView). v.steps) d.stands in omega (arith, same)
rises old new (Given worker batch) d = let same = ap (λ (v : StateView). v.steps) d.stands in omega (arith, same)

-- a period shows no fewer steps than the state has from which its history goes on
shows : (log : List StateView) (run : List Happening) (v : StateView) (k : ℕ) (p : Period) → Through v log run → HappensAt v log k (Acted p) → v.steps ≤ p.steps
shows [] [] v k p through d = absurd d
shows (t ∷ log) (what ∷ run) v zero p through d = let number = d.0 in omega (arith, number)
shows (t ∷ log) (what ∷ run) v (suc k) p through d =
    let more = rises v t what through.0 in
    let rest = shows log run t k p through.1 d in
    omega (arith, more, rest)
shows [] (what ∷ run) v k p through d = absurd through
shows (t ∷ log) [] v k p through d = absurd through

-- a later one no fewer than an earlier one
pub shows_in_turn : (log : List StateView) (run : List Happening) (v : StateView) (j k : ℕ) (p q : Period) → Through v log run → j < k → HappensAt v log j (Acted p)
    → HappensAt v log k (Acted q) → p.steps ≤ q.steps
shows_in_turn [] [] v j k p q through lt d e = absurd d
shows_in_turn (t ∷ log) (what ∷ run) v zero k p q through lt d e =
    let number = d.0 in
    let more = shows (t ∷ log) (what ∷ run) v k q through e in
    omega (arith, number, more)
shows_in_turn (t ∷ log) (what ∷ run) v (suc j) zero p q through lt d e = absurd (omega (arith, lt))
shows_in_turn (t ∷ log) (what ∷ run) v (suc j) (suc k) p q through lt d e = shows_in_turn log run t j k p q through.1 (omega (arith, lt)) d e
shows_in_turn [] (what ∷ run) v j k p q through lt d e = absurd through
shows_in_turn (t ∷ log) [] v j k p q through lt d e = absurd through

pub taken_precedes : (s : StateView) (log : List StateView) (run : List Happening) → IsIdle s → Along Leads s log → Through s log run
    → (place later : ℕ) (answer : Answer) → place < later → TakesAt s log place answer → BeginsAt s log later → AnsweredBefore (story_along s log run) answer later
taken_precedes s log run idle legal through place later answer lt takes begins =
    let all = explained s log run idle legal through in
    let p : Period = record { steps = takes.steps; deed = Took takes.id takes.room answer } in
    let q : Period = record { steps = begins.steps; deed = Began begins.opening begins.logs (Ok begins.ticket) begins.next } in
    let took : IsTakenAt (story_along s log run) (ids_at run place) takes.steps takes.id answer = all.stand place (Acted p) takes.happens in
    let begun : (op : OperationView) × (begins.opening.made ≡ Ok op) × IsBegunAt (story_along s log run) later begins.steps op = all.stand later (Acted q) begins.happens in
    let turn = shows_in_turn log run s place later p q through lt takes.happens begins.happens in
    record {
      earlier = took.name;
      finished = took.finished;
      precedes = λ m n own owns.
          let ended = (all.headline.1.numbers took.name answer took.finished).1.1 m own in
          let last = took.made in
          let after = begun.2.later n owns in
          omega (arith, ended, last, turn, after);
    }
