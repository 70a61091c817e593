-- What a desk does in one lock period, and what it shows of it.
use Rattle.std.specs.Prelude.{◌≡◌, ℕ, ◌-◌, ◌<◌, ◌≤◌, ◌⊎◌, max, vec_len, vec_capacity, List, [], ◌∷◌, Result, Ok, Err, Option, Some, None, IsSome}
use Rattle.mt_rows.specs.declared.refusal.Refusal.{Refusal}
use Rattle.mt_runs.specs.declared.event.Answer.{Answer}
use Rattle.mt_operation.specs.{declared.phase.Phase.Phase, Operations.OperationView}
use Rattle.mt_state.specs.{declared.moves.Move.Move, declared.moves.Move.TheVariants.{Moved, Again, NoMemory}}
use Rattle.mt_core.specs.{declared.answers.Ticket.Ticket, declared.displaced.Displaced.Displaced, Admitted.OpeningView}
use Rattle.mt_book.specs.{declared.desks.Look.Look, declared.desks.Admission.Admission, declared.desks.Admitted.Admitted, declared.desks.Stepping.Stepping}
use Rattle.mt_book.specs.{declared.desks.Taking.Taking, declared.desks.Taken.Taken, declared.gates.Turned.Turned}
use Rattle.mt_book.specs.declared.desks.Admitted.TheVariants as admitted
use Rattle.mt_book.specs.declared.desks.Taken.TheVariants as taken

-- how many more writes a list of displaced ones can hold without more memory
abbrev pub room_of : Displaced → ℕ
room_of d = vec_capacity d.writes - vec_len d.writes

-- the room that a call's take has at least
abbrev pub least_room : ℕ
least_room = 4

-- What was done. Nothing is begun by `Looked`, which shows the number of logs. `Rested` makes no step and takes no answer. A step uses up what
-- the gate was given. A begin and a step show last what the operation's next step does, if one is left. `Took` shows the room that was handed in for
-- the writes which the tidying gives up. If a take found no answer the ticket was kept.
pub data Deed : Type 0 where
  Looked : ℕ → Deed
  Began : OpeningView → ℕ → Result Ticket Refusal → Option Phase → Deed
  Rested : ℕ → Deed
  Stepped : ℕ → Turned → Move → Option Phase → Deed
  Took : ℕ → ℕ → Answer → Deed
  Kept : ℕ → Deed

-- a lock period: how many steps were made before it, and what it did
pub record Period : Type 0 where
  pub steps : ℕ
  pub deed : Deed

-- the operation of an opening, if there is one, is of this worker
abbrev pub IsOfWorker : ℕ → Result OperationView Refusal → Type 0
IsOfWorker worker (Ok op) = op.worker ≡ worker
IsOfWorker worker (Err refusal) = Unit {0}

-- fewer steps than the pass saw, or no log of its worker
abbrev pub IsEarly : ℕ → ℕ → ℕ → ℕ → Type 0
IsEarly seen worker steps logs = (steps < seen) ⊎ (max logs 1 ≤ worker)

-- no fewer steps than the pass saw, and a log of its worker, or no logs at all
abbrev pub IsReady : ℕ → ℕ → ℕ → ℕ → Type 0
IsReady seen worker steps logs = (seen ≤ steps) × (worker < max logs 1)

-- the period of a look
abbrev pub look_period : Look → Period
look_period l = record { steps = l.steps; deed = Looked l.logs }

-- the period of a begin
abbrev pub admission_deed : OpeningView → ℕ → Admitted → Deed
admission_deed opening logs (admitted.Early back) = Looked logs
admission_deed opening logs (admitted.Begun ticket phase) = Began opening logs (Ok ticket) (Some phase)
admission_deed opening logs (admitted.Refused refusal) = Began opening logs (Err refusal) None

abbrev pub admission_period : OpeningView → Admission → Period
admission_period opening a = record { steps = a.steps; deed = admission_deed opening a.logs a.told }

-- where nothing is begun since the pass is early the opening comes back
abbrev pub FitsAdmitted : ℕ → ℕ → OpeningView → ℕ → ℕ → Admitted → Type 0
FitsAdmitted seen worker opening steps logs (admitted.Early back) = (back ≡ opening) × IsEarly seen worker steps logs
FitsAdmitted seen worker opening steps logs (admitted.Begun ticket phase) = IsReady seen worker steps logs
FitsAdmitted seen worker opening steps logs (admitted.Refused refusal) = IsReady seen worker steps logs

abbrev pub FitsAdmission : ℕ → ℕ → OpeningView → Admission → Type 0
FitsAdmission seen worker opening a = FitsAdmitted seen worker opening a.steps a.logs a.told

-- the period of a step, for which the gate was given this
abbrev pub step_deed : ℕ → Turned → Option Move → Option Phase → Deed
step_deed ticket turned None next = Rested ticket
step_deed ticket turned (Some made) next = Stepped ticket turned made next

abbrev pub step_period : ℕ → Turned → Stepping → Period
step_period ticket turned s = record { steps = s.steps; deed = step_deed ticket turned s.move_made s.phase }

-- a move after which the operation is to be stepped again shows what that step does
abbrev pub ShowsNext : Move → Option Phase → Type 0
ShowsNext Moved next = IsSome next
ShowsNext (Again holder) next = IsSome next
ShowsNext NoMemory next = IsSome next
ShowsNext made next = Unit {0}

-- no step is made exactly where fewer steps are shown than the pass saw, and then no phase is shown
abbrev pub FitsMove : ℕ → ℕ → Option Move → Option Phase → Type 0
FitsMove seen steps None next = (steps < seen) × (next ≡ None)
FitsMove seen steps (Some made) next = (seen ≤ steps) × ShowsNext made next

abbrev pub FitsStepping : ℕ → Stepping → Type 0
FitsStepping seen s = FitsMove seen s.steps s.move_made s.phase

-- the period of a take, to which a list with this room was handed in
abbrev pub taken_deed : ℕ → ℕ → Taken → Deed
taken_deed ticket room (taken.Early back) = Rested ticket
taken_deed ticket room (taken.Open back) = Kept ticket
taken_deed ticket room (taken.Answered answer) = Took ticket room answer

abbrev pub taking_period : ℕ → ℕ → Taking → Period
taking_period ticket room t = record { steps = t.steps; deed = taken_deed ticket room t.told }

-- where no answer is taken the ticket comes back
abbrev pub FitsTaken : ℕ → Ticket → ℕ → Taken → Type 0
FitsTaken seen ticket steps (taken.Early back) = (back ≡ ticket) × (steps < seen)
FitsTaken seen ticket steps (taken.Open back) = (back ≡ ticket) × (seen ≤ steps)
FitsTaken seen ticket steps (taken.Answered answer) = seen ≤ steps

abbrev pub FitsTaking : ℕ → Ticket → Taking → Type 0
FitsTaking seen ticket t = FitsTaken seen ticket t.steps t.told

-- how many answers were taken
abbrev pub answers_in : Taken → ℕ
answers_in (taken.Answered answer) = 1
answers_in _ = 0

-- periods in their order lead a desk from old to new
abbrev pub Chain : {S : Type 0} → (S → Period → S → Type 0) → S → List Period → S → Type 0
Chain does old [] new = new ≡ old
Chain {S} does old (p ∷ ps) new = (mid : S) × does old p mid × Chain does mid ps new
