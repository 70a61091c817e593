-- What a begin, a take and a cancelling answer, by their tickets.
use Rattle.std.specs.{Prelude.{◌≡◌, ℕ, Option, Some, None, Result, Ok, Err, slice_set}, Option.option_map, Ordering.nat_cmp, BTreeMap.{BTreeMap, get}}
use Rattle.mt_rows.specs.{declared.command.Command.Command, declared.refusal.Refusal.Refusal}
use Rattle.mt_runs.specs.declared.event.Answer.{Answer}
use Rattle.mt_core.specs.declared.answers.Ticket.{Ticket}
use Rattle.mt_operation.specs.Operations.{OperationView}
use Rattle.mt_state.specs.{Views.{StateView, Shown, op_at}, Begins.{Begins, Takes, IsEnded}, Histories.Names, Refused.Refuses}

-- what a begin may answer: a refused one changes nothing
abbrev pub TellsBegin : StateView → StateView → ℕ → ℕ → Command → Result Ticket Refusal → Type 0
TellsBegin old new worker tenant command (Ok ticket) = Begins old new ticket.id worker tenant command
TellsBegin old new worker tenant command (Err refusal) = new ≡ old

-- what a take may answer: the ticket of an operation that is not finished comes back, and nothing changes
abbrev pub TellsTake : StateView → StateView → Ticket → Result Answer Ticket → Type 0
TellsTake old new ticket (Ok answer) = Takes old new ticket.id answer
TellsTake old new ticket (Err back) = (back ≡ ticket) × (new ≡ old) × ¬ IsEnded old.table ticket.id

-- an operation is there that has made no step
abbrev pub IsStill : Shown → ℕ → Type 0
IsStill table o = (op : OperationView) × (op_at table o ≡ Some op) × (op.first ≡ 0)

-- it is gone; all else is as it was
pub record Cancels (old new : StateView) (o : ℕ) : Type 0 where
  pub still : IsStill old.table o
  pub gone : new ≡ record old { table = slice_set old.table o None }

-- what a cancelling may answer: the ticket of an operation that has made a step, or is not there, comes back, and nothing changes
abbrev pub TellsCancel : StateView → StateView → Ticket → Result (Unit {0}) Ticket → Type 0
TellsCancel old new ticket (Ok done) = Cancels old new ticket.id
TellsCancel old new ticket (Err back) = (back ≡ ticket) × (new ≡ old) × ¬ IsStill old.table ticket.id

-- Memory may stand in place of Spent and of a success, and never of a fault
abbrev pub TellsRefusal : StateView → ℕ → Command → Result Ticket Refusal → Type 0
TellsRefusal v tenant command result = Refuses v tenant command result

-- the names of a run by a map of their tickets
abbrev pub named : BTreeMap ℕ (Option Ticket) → Names
named tickets o = option_map (option_map (λ (t : Ticket). t.id)) (get nat_cmp tickets o)
