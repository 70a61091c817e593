-- What a call did over a desk.
use Rattle.std.specs.Prelude.{◌≡◌, ℕ, ◌<◌, ◌≤◌, ◌⊎◌, Bool, true, false, if◌then◌else◌, List, [], ◌∷◌, ◌++◌, Option, Some, None, Result, Ok, Err}
use Rattle.std.specs.List.{AllByRecursion}
use Rattle.mt_rows.specs.{declared.command.Command.Command, declared.refusal.Refusal.Refusal, declared.refusal.Refusal.TheVariants.Memory}
use Rattle.mt_runs.specs.declared.event.Answer.{Answer}
use Rattle.mt_operation.specs.declared.phase.Phase.{Phase}
use Rattle.mt_state.specs.{declared.moves.Move.Move, declared.moves.Move.TheVariants.{Moved, Again, NoMemory, Done, Spent}, Refused.Makes}
use Rattle.mt_core.specs.{declared.answers.Ticket.Ticket, Admitted.{OpeningView, IsMadeOf}}
use Rattle.mt_book.specs.{declared.calls.Begun.Begun, declared.calls.CallFault.CallFault, declared.gates.Turned.Turned}
use Rattle.mt_book.specs.Periods.{Deed, Looked, Began, Rested, Stepped, Took, Period, IsEarly, IsReady, least_room, Chain}
use Rattle.mt_book.specs.declared.calls.CallFault.TheVariants as faults

-- what is asked by a call
pub record Asked : Type 0 where
  pub worker : ℕ
  pub tenant : ℕ
  pub command : Command

abbrev pub asked_by : ℕ → ℕ → Command → Asked
asked_by worker tenant command = record { worker = worker; tenant = tenant; command = command }

-- the opening is made of what was asked
pub record IsOpeningOf (asked : Asked) (opening : OpeningView) : Type 0 where
  pub tenant_is : opening.tenant ≡ asked.tenant
  pub made : IsMadeOf opening.made asked.worker asked.tenant asked.command
  pub refused : Makes asked.command opening.made

-- a period before the begin: fewer steps than the pass saw, or too few logs for its worker
abbrev pub IsBeforeBy : ℕ → ℕ → ℕ → Deed → Type 0
IsBeforeBy seen worker steps (Looked logs) = IsEarly seen worker steps logs
IsBeforeBy seen worker steps _ = ⊥

abbrev pub IsBefore : ℕ → ℕ → Period → Type 0
IsBefore seen worker p = IsBeforeBy seen worker p.steps p.deed

-- a move after which the operation is to be stepped again
abbrev pub LeadsOn : Move → Type 0
LeadsOn Moved = Unit {0}
LeadsOn (Again holder) = Unit {0}
LeadsOn NoMemory = Unit {0}
LeadsOn _ = ⊥

-- the gate was called for the operation, with what the period before had shown: how many steps were made, and what the operation's next step does
pub record IsGiven (turned : Turned) (ticket shown : ℕ) (next : Phase) : Type 0 where
  pub op : turned.op ≡ ticket
  pub after : turned.after ≡ shown
  pub phase : turned.phase ≡ next

-- a period between, where the gate was given what stands first and the period leaves what stands last to be shown: one step of the ticket that leads
-- on, and tells what the next one does; or none, where fewer steps are shown than the pass saw, and the next step is still the same
abbrev pub IsTurnBy : ℕ → ℕ → ℕ → Phase → ℕ → Deed → Phase → Type 0
IsTurnBy seen ticket shown next steps (Stepped t turned made told) left = (t ≡ ticket) × IsGiven turned ticket shown next × (seen ≤ steps) × LeadsOn made × (told ≡ Some left)
IsTurnBy seen ticket shown next steps (Rested t) left = (t ≡ ticket) × (steps < seen) × (left ≡ next)
IsTurnBy seen ticket shown next steps _ left = ⊥

-- periods between, where the one before them showed the first number and phase, and the last of them shows the last ones
abbrev pub AreTurns : ℕ → ℕ → ℕ → Phase → List Period → ℕ → Phase → Type 0
AreTurns seen ticket shown next [] last left = (last ≡ shown) × (left ≡ next)
AreTurns seen ticket shown next (p ∷ ps) last left = (mid : Phase) × IsTurnBy seen ticket shown next p.steps p.deed mid × AreTurns seen ticket p.steps mid ps last left

-- the periods up to the one that begins, which showed this number of steps, and what the first step does
pub record Opens (seen worker : ℕ) (opening : OpeningView) (told : Result Ticket Refusal) (next : Option Phase) (periods : List Period) (shown : ℕ) : Type 0 where
  pub before : List Period
  pub logs : ℕ
  pub parts : periods ≡ before ++ record { steps = shown; deed = Began opening logs told next } ∷ []
  pub early : AllByRecursion (IsBefore seen worker) before
  pub ready : IsReady seen worker shown logs

-- the last step's move: the operation is done, or all step numbers are given
abbrev pub last_move : Bool → Move
last_move done = if done then Done else Spent

-- the steps of a call, up to its last one, where the begin showed this number of steps and this phase
pub record Ends (seen ticket shown : ℕ) (next : Phase) (done : Bool) (periods : List Period) : Type 0 where
  pub between : List Period
  pub last : ℕ
  pub left : Phase
  pub turned : Turned
  pub told : Option Phase
  pub steps : ℕ
  pub parts : periods ≡ between ++ record { steps = steps; deed = Stepped ticket turned (last_move done) told } ∷ []
  pub turns : AreTurns seen ticket shown next between last left
  pub given : IsGiven turned ticket last left
  pub late : seen ≤ steps

-- a period in which no answer was taken, since fewer steps were shown than the pass saw
abbrev pub IsRestBy : ℕ → ℕ → ℕ → Deed → Type 0
IsRestBy seen ticket steps (Rested t) = (t ≡ ticket) × (steps < seen)
IsRestBy seen ticket steps _ = ⊥

abbrev pub IsRest : ℕ → ℕ → Period → Type 0
IsRest seen ticket p = IsRestBy seen ticket p.steps p.deed

-- the periods after the last step, of which the last one takes the answer, and shows the least room for writes or more
pub record IsTaken (seen ticket : ℕ) (answer : Answer) (periods : List Period) : Type 0 where
  pub rests : List Period
  pub steps : ℕ
  pub room : ℕ
  pub parts : periods ≡ rests ++ record { steps = steps; deed = Took ticket room answer } ∷ []
  pub early : AllByRecursion (IsRest seen ticket) rests
  pub late : seen ≤ steps
  pub roomy : least_room ≤ room

-- the periods of a call whose operation was begun and stepped to its end
pub record Runs (seen : ℕ) (asked : Asked) (ticket : Ticket) (done : Bool) (periods : List Period) : Type 0 where
  pub opening : OpeningView
  pub opened : List Period
  pub shown : ℕ
  pub next : Phase
  pub stepped : List Period
  pub parts : periods ≡ opened ++ stepped
  pub made : IsOpeningOf asked opening
  pub opens : Opens seen asked.worker opening (Ok ticket) (Some next) opened shown
  pub ends : Ends seen ticket.id shown next done stepped

-- the periods of a call that was answered
pub record Answers (seen : ℕ) (asked : Asked) (answer : Answer) (periods : List Period) : Type 0 where
  pub ticket : Ticket
  pub front : List Period
  pub back : List Period
  pub parts : periods ≡ front ++ back
  pub runs : Runs seen asked ticket true front
  pub taken : IsTaken seen ticket.id answer back

-- the periods of a call that was refused by its begin
pub record IsRefused (seen : ℕ) (asked : Asked) (refusal : Refusal) (periods : List Period) : Type 0 where
  pub opening : OpeningView
  pub shown : ℕ
  pub made : IsOpeningOf asked opening
  pub opens : Opens seen asked.worker opening (Err refusal) None periods shown

-- what a call did, by its result: its answer is that of the last period, for the ticket of the begin
abbrev pub Tells : ℕ → Asked → List Period → Result Answer CallFault → Type 0
Tells seen asked periods (Ok answer) = Answers seen asked answer periods
Tells seen asked periods (Err (faults.Refused refusal)) = IsRefused seen asked refusal periods ⊎ ((periods ≡ []) × (refusal ≡ Memory))
Tells seen asked periods (Err (faults.Spent ticket)) = Runs seen asked ticket false periods

-- what a call may do with a desk that does this
pub record Calls {S : Type 0} (does : S → Period → S → Type 0) (old new : S) (seen : ℕ) (asked : Asked) (result : Result Answer CallFault) : Type 0 where
  pub periods : List Period
  pub chain : Chain does old periods new
  pub tells : Tells seen asked periods result

-- how many answers a result has
abbrev pub answers_of : Result Answer CallFault → ℕ
answers_of (Ok answer) = 1
answers_of (Err fault) = 0

-- a desk was led from old to new by periods of which this holds
abbrev pub Led : {S : Type 0} → (S → Period → S → Type 0) → S → S → (List Period → Type 0) → Type 0
Led does old new P = (periods : List Period) × Chain does old periods new × P periods

-- the begin of a call
abbrev pub Begins : {S : Type 0} → (S → Period → S → Type 0) → S → S → ℕ → ℕ → OpeningView → Result Begun Refusal → Type 0
Begins does old new seen worker opening (Ok b) = Led does old new (λ ps. Opens seen worker opening (Ok b.ticket) (Some b.phase) ps b.shown)
Begins does old new seen worker opening (Err refusal) = Led does old new (λ ps. (shown : ℕ) × Opens seen worker opening (Err refusal) None ps shown)

-- if the deed is a step, a gate was called with what it says
abbrev pub IsCalled : (ℕ → Phase → Type 0) → Deed → Type 0
IsCalled called (Stepped ticket turned made next) = called turned.op turned.phase
IsCalled called _ = Unit {0}

-- a desk that does this, where the gate was called before each step
abbrev pub Gated : {S : Type 0} → (S → Period → S → Type 0) → (ℕ → Phase → Type 0) → S → Period → S → Type 0
Gated does called old p new = does old p new × IsCalled called p.deed
