-- What a period does to a book.
use Rattle.std.specs.Prelude.{◌≡◌, ◌≢◌, ℕ, length, Option, Some, None, Result, Ok, Err}
use Rattle.mt_rows.specs.{declared.refusal.Refusal.Refusal, Tenants.tenant_map}
use Rattle.mt_operation.specs.{declared.phase.Phase.Phase, Operations.OperationView}
use Rattle.mt_state.specs.{Views.{StateView, op_at, contents_of}, Begins.{Takes, IsEnded}, Promises.Tells, Phases.LeadsOn}
use Rattle.mt_core.specs.{Admitted.{TellsAdmitted, RefusesOpening}, declared.answers.Ticket.Ticket, declared.displaced.Displaced.Displaced, Shows.phase_at}
use Rattle.mt_core.specs.Tidies.{TidiesInto}
use Rattle.mt_book.specs.Periods.{Deed, Looked, Began, Rested, Stepped, Took, Kept, Period, room_of}

-- a begin shows what the first step of its operation does, by the table after it
abbrev pub ShowsFirst : StateView → Result Ticket Refusal → Option Phase → Type 0
ShowsFirst new (Ok ticket) next = next ≡ phase_at new.table ticket.id
ShowsFirst new (Err refusal) next = next ≡ None

-- the map of each tenant but the operation's own is as it was
abbrev pub KeepsOtherTenants : StateView → StateView → ℕ → Type 0
KeepsOtherTenants old new o = (op : OperationView) (t : ℕ) → op_at old.table o ≡ Some op → t ≢ op.tenant → tenant_map t (contents_of new) ≡ tenant_map t (contents_of old)

-- the state has made or kept what the deed says, and the phase that is shown is that of its table afterwards; a step leads where the table of
-- phases says, and keeps the maps of other tenants; an answer that is taken is right, and followed by a tidying that hands out to a list with this room
abbrev pub Did : StateView → StateView → Deed → Type 0
Did old new (Looked logs) = (new ≡ old) × (logs ≡ length old.logs)
Did old new (Began opening logs told next) = (logs ≡ length old.logs) × TellsAdmitted old new opening told × RefusesOpening old opening told × ShowsFirst new told next
Did old new (Rested ticket) = new ≡ old
Did old new (Stepped ticket turned made next) = Tells old new ticket made × LeadsOn old new ticket made × KeepsOtherTenants old new ticket × (next ≡ phase_at new.table ticket)
Did old new (Took ticket room answer) = (mid : StateView) × Takes old mid ticket answer × ((before after : Displaced) × TidiesInto mid new before after × (room_of before ≡ room))
Did old new (Kept ticket) = (new ≡ old) × ¬ IsEnded old.table ticket

abbrev pub DoesState : StateView → Period → StateView → Type 0
DoesState old p new = (p.steps ≡ old.steps) × Did old new p.deed
