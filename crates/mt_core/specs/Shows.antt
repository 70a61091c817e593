-- What a caller may ask of an operation between its steps.
use Rattle.std.specs.{Prelude.{ℕ, Option, Some, None}, Option.option_map}
use Rattle.mt_rows.specs.declared.reply.Reply.{Reply}
use Rattle.mt_operation.specs.{declared.outcome.Outcome.Outcome, declared.phase.Phase.Phase, declared.phase.Phase.TheVariants.{Confirm, Done}}
use Rattle.mt_operation.specs.Operations.{OperationView}
use Rattle.mt_state.specs.Views.{Shown, op_at}

-- the next phase; none, where no step is left
abbrev pub next_phase : Phase → Option Phase
next_phase Done = None
next_phase phase = Some phase

-- the reply that a get remembers, which goes to confirm it
abbrev pub noted_of : Phase → Option Outcome → Option Reply
noted_of Confirm told = option_map (λ t. t.reply) told
noted_of _ told = None

-- of an operation that is there
abbrev pub phase_in : Option OperationView → Option Phase
phase_in None = None
phase_in (Some op) = next_phase op.phase

abbrev pub noted_in : Option OperationView → Option Reply
noted_in None = None
noted_in (Some op) = noted_of op.phase op.outcome

-- what the next step of the operation of an id does, and the reply that it remembers
abbrev pub phase_at : Shown → ℕ → Option Phase
phase_at table o = phase_in (op_at table o)

abbrev pub noted_at : Shown → ℕ → Option Reply
noted_at table o = noted_in (op_at table o)
