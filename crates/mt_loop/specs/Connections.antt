-- A connection: what it has read and told so far, and what to do with it next.
use Rattle.std.specs.{Prelude.{◌≡◌, ◌≢◌, ◌<◌, length, Bool, true, false, [], ◌++◌, ◌⊎◌, Option, Some, None, Result}, Io.KnownBytes.{Consumes, Appends, Keeps}}
use Rattle.mt_rows.specs.Rows.{Bytes}
use Rattle.mt_wire.specs.{Fronts.IsPartial, Requests.spelling, declared.message.Request.TheVariants.Settle}
use Rattle.mt_caller.specs.Exchanges.{CallerRelation}
use Rattle.mt_session.specs.{declared.ended.Ended.Ended, declared.ended.ServeFault.ServeFault, Sessions.Transcript, Endings.Serves}
use Rattle.mt_loop.specs.declared.connection.{Connection.Connection, Next.Next, Next.TheVariants.{Wait, Again, Settle as AsksToSettle, Close}, State.State, State.TheVariants.{Waits, Goes, Ended as HasEnded}}

-- a connection that has read nothing and told nothing
abbrev pub IsFresh : Connection → Type 0
IsFresh c = (c.state ≡ Waits) × (c.input.items ≡ []) × (c.unsent.bytes.items ≡ []) × (c.opened ≡ false)

-- what was told, for all that was read but for rest: while the session goes on, the text; when it has ended, what `serve`
-- writes in a session that ends so
abbrev pub Stands : {S : Type 0} → CallerRelation S → Option Bytes → Option Bytes → Bytes → S → State → Bytes → Bool → S → Type 0
Stands exchanges before left told start Waits rest opened new =
    (read : Bytes) × Consumes before left read × Transcript exchanges read false start rest opened new told × IsPartial rest
Stands exchanges before left told start Goes rest opened new =
    (read : Bytes) × Consumes before left read × Transcript exchanges read false start rest opened new told
Stands exchanges before left told start (HasEnded result) rest opened new =
    Serves exchanges before left (Some []) (Some told) (Unit {0}) (Unit {0}) start new result

-- A session so far. What was written, and then what is unsent, are what was told. The reader had the bytes before and has
-- those left; the writer held some, and holds; each where it tells. The caller was in the state start, and is new.
abbrev pub IsSession : {S : Type 0} → CallerRelation S → Option Bytes → Option Bytes → Option Bytes → Option Bytes → S → Connection → S → Type 0
IsSession exchanges before left held holds start c new =
    (written : Bytes) × Appends held holds written × Stands exchanges before left (written ++ c.unsent.bytes.items) start c.state c.input.items c.opened new

-- how a session ended, if it has
abbrev pub ending_of : State → Option (Result Ended ServeFault)
ending_of Waits = None
ending_of Goes = None
ending_of (HasEnded result) = Some result

-- the next request is a Settle
abbrev pub BeginsWithSettle : Bytes → Type 0
BeginsWithSettle input = (rest : Bytes) × (input ≡ spelling Settle ++ rest)

-- a session that is open has come to a Settle
abbrev pub IsAtSettle : Connection → Type 0
IsAtSettle c = (c.state ≡ Goes) × (c.opened ≡ true) × BeginsWithSettle c.input.items

-- and all that it was told before is sent
abbrev pub AwaitsSettle : Connection → Type 0
AwaitsSettle c = IsAtSettle c × (c.unsent.bytes.items ≡ [])

-- What to do with a connection. It is told a Settle if it awaits one, and else never. It is closed when its session has ended and all is sent, and else never. It waits for its
-- stream only if something is unsent, or if what is left of its input is less than a frame.
abbrev pub IsNext : Next → Connection → Type 0
IsNext Close c = (ending_of c.state ≢ None) × (c.unsent.bytes.items ≡ [])
IsNext Again c = (ending_of c.state ≡ None) × (c.unsent.bytes.items ≡ []) × ¬ AwaitsSettle c
IsNext AsksToSettle c = AwaitsSettle c
IsNext Wait c = (c.unsent.bytes.items ≢ []) ⊎ (c.state ≡ Waits)

-- what a connection may wait for, that the writer, which is blocked, takes what is unsent, or that the reader, which is drained,
-- gives more
abbrev pub MayWait : Type 0 → Type 0 → Connection → Type 0
MayWait blocked drained c = ((c.unsent.bytes.items ≢ []) × blocked) ⊎ ((c.state ≡ Waits) × drained)

-- A turn that another is to follow at once went on: it read, or the reader failed, as one that was interrupted. Or it
-- answered requests that were left of an earlier read.
abbrev pub IsOnward : Type 0 → Connection → Connection → Type 0
IsOnward failed old new =
    (new.is_silent ≡ false) ⊎ (failed ⊎ ((old.state ≡ Goes) × ((new.state ≡ Waits) ⊎ (length new.input.items < length old.input.items))))

-- whether nothing was read
abbrev pub IsSilent : Bool → Option Bytes → Option Bytes → Type 0
IsSilent true before left = Keeps before left
IsSilent false before left = (more : Bytes) × (more ≢ []) × Consumes before left more
