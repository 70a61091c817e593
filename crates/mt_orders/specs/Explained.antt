-- That one order explains a history, and that the order is of all that happened in it.
use Rattle.std.specs.Prelude.{◌≡◌, ℕ, zero, suc, ◌+◌, ◌<◌, ◌≤◌, List, [], ◌∷◌, Option, Some, Ok}
use Rattle.mt_runs.specs.{declared.event.Answer.Answer, Runs.{Story, owner, Finished}, Placings.HasOneOrder, Orders.Precedes}
use Rattle.mt_operation.specs.{declared.phase.Phase.Phase, Operations.OperationView}
use Rattle.mt_state.specs.{Views.{StateView, quota_of}}
use Rattle.mt_core.specs.{declared.answers.Ticket.Ticket, Admitted.OpeningView}
use Rattle.mt_book.specs.{Periods.{Deed, Began, Stepped, Took}, Happens.{Happening, Acted, Happens}, OneRun.HasAll}
use Rattle.mt_orders.specs.Stories.{Ids, ids_at, story_along, maps_in}
use Rattle.mt_state.specs.declared.moves.Move.TheVariants as moves

-- this is true of a place of a history: it leads from the state there to the next one
abbrev pub HappensAt : StateView → List StateView → ℕ → Happening → Type 0
HappensAt s [] place what = ⊥
HappensAt s (t ∷ log) zero what = Happens s what t
HappensAt s (t ∷ log) (suc place) what = HappensAt t log place what

-- an operation was begun by this name as the opening says, and has made no step before
pub record IsBegunAt (story : Story) (name steps : ℕ) (op : OperationView) : Type 0 where
  pub asked_so : story.asked name ≡ Some (record { tenant = op.tenant; command = op.command })
  pub later : (m : ℕ) → owner story m ≡ Some name → steps < m

-- the operation of an id made the next step
abbrev pub IsMadeAt : Story → Ids → ℕ → ℕ → Type 0
IsMadeAt story ids steps id = (name : ℕ) × (ids id ≡ Some name) × (owner story (steps + 1) ≡ Some name)

-- the operation of an id was finished before, with this answer
pub record IsTakenAt (story : Story) (ids : Ids) (steps id : ℕ) (answer : Answer) : Type 0 where
  pub name : ℕ
  pub is : ids id ≡ Some name
  pub finished : Finished story name answer
  pub made : answer.last ≤ steps

-- What was done at a place, after so many steps, stands in the story. A begin stands by its command, under the name of its place. A step that moved or was done stands by
-- its number, and an answer that was taken as the one of its operation. The operation's first step comes after its begin, and its last one before its take.
abbrev pub StandsBy : Story → ℕ → Ids → ℕ → Deed → Type 0
StandsBy story place ids steps (Began opening logs (Ok ticket) next) = (op : OperationView) × (opening.made ≡ Ok op) × IsBegunAt story place steps op
StandsBy story place ids steps (Stepped id turned moves.Moved next) = IsMadeAt story ids steps id
StandsBy story place ids steps (Stepped id turned moves.Done next) = IsMadeAt story ids steps id
StandsBy story place ids steps (Took id room answer) = IsTakenAt story ids steps id answer
StandsBy story place ids steps _ = Unit {0}

abbrev pub Stands : Story → ℕ → Ids → Happening → Type 0
Stands story place ids (Acted p) = StandsBy story place ids p.steps p.deed
Stands story place ids _ = Unit {0}

-- One order explains a run that leads from a state through others, by the quotas and maps of the first one. Whatever is true of a place stands in the story of the run, told
-- by the run or by anybody else.
pub record IsExplained (s : StateView) (log : List StateView) (run : List Happening) : Type 0 where
  pub headline : HasOneOrder (quota_of s) (maps_in s) (story_along s log run)
  pub stand : (place : ℕ) (what : Happening) → HappensAt s log place what → Stands (story_along s log run) place (ids_at run place) what

-- one run has all that was told of some places of a history, and one order explains it
pub record HaveOneOrder (told : ℕ → Option Happening) (s : StateView) (log : List StateView) : Type 0 where
  pub all : HasAll told s log
  pub explained : IsExplained s log all.run

-- an answer was taken at a place of a history
pub record TakesAt (s : StateView) (log : List StateView) (place : ℕ) (answer : Answer) : Type 0 where
  pub steps : ℕ
  pub id : ℕ
  pub room : ℕ
  pub happens : HappensAt s log place (Acted (record { steps = steps; deed = Took id room answer }))

-- an operation was begun there
pub record BeginsAt (s : StateView) (log : List StateView) (place : ℕ) : Type 0 where
  pub steps : ℕ
  pub opening : OpeningView
  pub logs : ℕ
  pub ticket : Ticket
  pub next : Option Phase
  pub happens : HappensAt s log place (Acted (record { steps = steps; deed = Began opening logs (Ok ticket) next }))

-- the operation that finished with an answer precedes another one in time
pub record AnsweredBefore (story : Story) (answer : Answer) (name : ℕ) : Type 0 where
  pub earlier : ℕ
  pub finished : Finished story earlier answer
  pub precedes : Precedes story earlier name
