-- What a send, a read and an answer do to a connection. For the private functions.
use Rattle.std.specs.{Prelude.{◌≡◌, ◌≢◌, Bool, [], ◌++◌, ◌⊎◌, Option, Some, None, Result, Ok, Err}, Io.KnownBytes.{Consumes, Keeps, IsAtEnd}}
use Rattle.mt_rows.specs.Rows.{Bytes}
use Rattle.mt_wire.specs.{Requests.spelling, declared.message.Request.TheVariants.Settle}
use Rattle.mt_caller.specs.Exchanges.{CallerRelation}
use Rattle.mt_session.specs.{declared.answering.Stop.Stop, declared.ended.ServeFault.ServeFault}
use Rattle.mt_session.specs.{Sessions.Transcript, Endings.IsBeginning, Turns.IsWritten}
use Rattle.mt_session.specs.declared.answering.Stop.TheVariants as stops
use Rattle.mt_session.specs.declared.ended.Ended.TheVariants as ends
use Rattle.mt_session.specs.declared.ended.ServeFault.TheVariants as faults
use Rattle.mt_loop.specs.declared.connection.{Connection.Connection, State.State, State.TheVariants.{Waits, Goes, Ended as HasEnded}}

-- What was unsent was sent, and the rest is kept. Or the writer failed: that ends the session, and nothing is kept.
abbrev pub IsSent : Bytes → State → Bytes → Bytes → State → Type 0
IsSent unsent was sent kept now =
    ((unsent ≡ sent ++ kept) × (now ≡ was)) ⊎ (IsBeginning sent unsent × (kept ≡ []) × (now ≡ HasEnded (Err faults.Write)))

-- How far a session is when more was read after its input, none at the end of what is to be read.
abbrev pub IsAfterRead : Bytes → Bytes → Bytes → State → Type 0
IsAfterRead input more rest Waits = ⊥
IsAfterRead input more rest Goes = (more ≢ []) × (rest ≡ input ++ more)
IsAfterRead input more rest (HasEnded (Ok ends.Closed)) = (more ≡ []) × (rest ≡ input) × (rest ≡ [])
IsAfterRead input more rest (HasEnded (Ok ends.Cut)) = (more ≡ []) × (rest ≡ input) × (rest ≢ [])
IsAfterRead input more rest (HasEnded (Ok ends.Refused)) = ⊥
IsAfterRead input more rest (HasEnded (Err faults.Memory)) = (more ≢ []) × (rest ≡ input)
IsAfterRead input more rest (HasEnded (Err fault)) = ⊥

-- One read of a connection that waits: it failed, or more was read, or the end. A connection that doesn't wait reads nothing.
abbrev pub IsRead : Type 0 → Option Bytes → Option Bytes → Bytes → State → Bytes → State → Type 0
IsRead failed before left input was rest now =
    ((was ≢ Waits) × (left ≡ before) × (rest ≡ input) × (now ≡ was))
    ⊎ (((was ≡ Waits) × failed × Keeps before left × (rest ≡ input) × ((now ≡ Waits) ⊎ (now ≡ HasEnded (Err faults.Read))))
    ⊎ ((was ≡ Waits) × (more : Bytes) × Consumes before left more × (more ≡ [] → IsAtEnd left) × IsAfterRead input more rest now))

-- The Settle at the front of the input has this reply. If memory ran out, a front of the reply is told, and the session has ended.
pub record IsSettled (reply : Bytes) (old new : Connection) : Type 0 where
  pub front : old.input.items ≡ spelling Settle ++ new.input.items
  pub opened : new.opened ≡ old.opened
  pub silent : new.is_silent ≡ old.is_silent
  pub told :
      ((new.unsent.bytes.items ≡ old.unsent.bytes.items ++ reply) × (new.state ≡ old.state))
      ⊎ ((part : Bytes) × (new.unsent.bytes.items ≡ old.unsent.bytes.items ++ part) × IsBeginning part reply × (new.state ≡ HasEnded (Err faults.Write)))

-- where a session is after an answer
abbrev pub state_of : Result Stop ServeFault → State
state_of (Ok stops.Waits) = Waits
state_of (Ok stops.Full) = Goes
state_of (Ok stops.Refused) = HasEnded (Ok ends.Refused)
state_of (Ok stops.Memory) = HasEnded (Err faults.Memory)
state_of (Err fault) = HasEnded (Err fault)

-- Requests of the input were answered, and the replies came after what was unsent.
abbrev pub IsTold : {S : Type 0} → CallerRelation S → Bytes → Bool → S → Result Stop ServeFault → Bytes → Bool → S → Bytes → Bytes → Type 0
IsTold exchanges input was_open old (Ok stops.Full) rest now_open new unsent now_unsent =
    (text : Bytes) × Transcript exchanges input was_open old rest now_open new text × (now_unsent ≡ unsent ++ text)
IsTold exchanges input was_open old (Ok stops.Waits) rest now_open new unsent now_unsent = IsWritten exchanges input was_open old (Ok None) rest now_open new (Some unsent) (Some now_unsent)
IsTold exchanges input was_open old (Ok stops.Refused) rest now_open new unsent now_unsent = IsWritten exchanges input was_open old (Ok (Some ends.Refused)) rest now_open new (Some unsent) (Some now_unsent)
IsTold exchanges input was_open old (Ok stops.Memory) rest now_open new unsent now_unsent = IsWritten exchanges input was_open old (Err faults.Memory) rest now_open new (Some unsent) (Some now_unsent)
IsTold exchanges input was_open old (Err fault) rest now_open new unsent now_unsent = IsWritten exchanges input was_open old (Err fault) rest now_open new (Some unsent) (Some now_unsent)
