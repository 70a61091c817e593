-- The story of a history: the begins and steps of its run, each operation named by the place of its begin.
use Rattle.std.specs.{Prelude.{ℕ, zero, suc, ◌==◌, if◌then◌else◌, List, [], ◌∷◌, Option, Some, None, Result, Ok, Err}, List.cons_option, Option.option_map}
use Rattle.mt_rows.specs.{declared.refusal.Refusal.Refusal, Tenants.tenant_map}
use Rattle.mt_runs.specs.{declared.event.Answer.Answer, declared.event.Event.Event, declared.event.Event.TheVariants.{Begin, Step}, declared.event.Told.Told}
use Rattle.mt_runs.specs.{declared.event.Told.TheVariants.{Begun, Moved, Done}, Runs.{Run, Story, story_of}, Placings.Maps}
use Rattle.mt_operation.specs.{declared.outcome.Outcome.Outcome, Operations.OperationView}
use Rattle.mt_state.specs.{Views.{StateView, Shown, op_at, contents_of}}
use Rattle.mt_book.specs.{Periods.{Deed, Began, Stepped}, Happens.{Happening, Acted}}
use Rattle.mt_state.specs.declared.moves.Move.TheVariants as moves

-- Which operation has an id, by its name: the place in the run at which it was begun. Ids are given again, names are not.
abbrev pub Ids : Type 0
Ids = ℕ → Option ℕ

-- before any begin
abbrev pub no_ids : Ids
no_ids id = None

-- a begin at this place gives its id to the operation that it begins
abbrev pub ids_by : ℕ → Ids → Deed → Ids
ids_by place ids (Began opening logs (Ok ticket) next) = λ id. if id == ticket.id then Some place else ids id
ids_by place ids _ = ids

abbrev pub ids_after : ℕ → Ids → Happening → Ids
ids_after place ids (Acted p) = ids_by place ids p.deed
ids_after place ids _ = ids

-- the ids at a place of a run, of which the part from another place on is given
abbrev pub ids_from : ℕ → Ids → List Happening → ℕ → Ids
ids_from place ids run zero = ids
ids_from place ids [] (suc k) = ids
ids_from place ids (h ∷ run) (suc k) = ids_from (suc place) (ids_after place ids h) run k

abbrev pub ids_at : List Happening → ℕ → Ids
ids_at run place = ids_from 0 no_ids run place

-- the answer of an operation that has this outcome
abbrev pub answer_of : OperationView → Outcome → Answer
answer_of op told = record { command = op.command; reply = told.reply; first = op.first; at = told.at; last = op.last }

abbrev pub answer_in : Option OperationView → Option Answer
answer_in None = None
answer_in (Some op) = option_map (answer_of op) op.outcome

-- a begin by this name, of the operation that an opening has
abbrev pub begin_by : ℕ → Result OperationView Refusal → Option (Event × Told)
begin_by name (Ok op) = Some (Begin name op.worker op.tenant op.command, Begun)
begin_by name (Err refusal) = None

-- a last step by this name, with its operation's answer
abbrev pub done_by : Option ℕ → Option Answer → Option (Event × Told)
done_by (Some name) (Some answer) = Some (Step name, Done answer)
done_by _ _ = None

-- Begins are events, and so are the steps that moved or were done. The answer of a last step is that of the table after it. Nothing else that is done begins an operation or
-- makes a numbered step.
abbrev pub event_by : ℕ → Ids → Shown → Deed → Option (Event × Told)
event_by place ids table (Began opening logs (Ok ticket) next) = begin_by place opening.made
event_by place ids table (Stepped id turned moves.Moved next) = option_map (λ name. (Step name, Moved)) (ids id)
event_by place ids table (Stepped id turned moves.Done next) = done_by (ids id) (answer_in (op_at table id))
event_by place ids table _ = None

abbrev pub event_of : ℕ → Ids → StateView → Happening → Option (Event × Told)
event_of place ids new (Acted p) = event_by place ids new.table p.deed
event_of place ids new _ = None

-- the events of a run through these states, the first of which was led to at this place
abbrev pub events_from : ℕ → Ids → List StateView → List Happening → Run
events_from place ids (t ∷ log) (h ∷ run) = cons_option (event_of place ids t h) (events_from (suc place) (ids_after place ids h) log run)
events_from place ids _ _ = []

-- the story of a run that leads from the first state through the others
abbrev pub story_along : StateView → List StateView → List Happening → Story
story_along s log run = story_of s.steps (events_from 0 no_ids log run)

-- each tenant's map in a state
abbrev pub maps_in : StateView → Maps
maps_in v = λ t. tenant_map t (contents_of v)
