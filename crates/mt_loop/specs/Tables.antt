-- The sessions of a table: what each of its connections has read and told so far.
use Rattle.std.specs.{Prelude.{◌≡◌, ◌≢◌, ◌≤◌, ◌⊎◌, ◌++◌, ◌∷◌, ℕ, Bool, true, List, [], Option, Some, None, Result}, VecDeque.{deque_len, deque_capacity}}
use Rattle.slab.specs.Slab.{get}
use Rattle.mt_rows.specs.{Rows.Bytes, declared.refusal.Refusal.Refusal}
use Rattle.mt_wire.specs.Replies.{reply_spelling}
use Rattle.mt_caller.specs.Exchanges.{CallerRelation, Settles}
use Rattle.mt_session.specs.Sessions.{settle_told}
use Rattle.mt_loop.specs.{Connections.{IsSession, AwaitsSettle, ending_of}, Steps.IsSettled, Deeds.{ButSettles, Led, Resumed, SharedExchanges}}
use Rattle.mt_loop.specs.declared.{sharing.Shared.Shared, table.Entry.Entry, table.Table.Table}

-- each connection of new was one of old, under its key, and only whether it is queued may be another
abbrev pub AreAmong : {T : Type 0} → Table T → Table T → Type 0
AreAmong {T = T} old new = (key : ℕ) (entry : Entry T) → get new.entries key ≡ Some entry
    → (was : Bool) × (get old.entries key ≡ Some (record entry { is_queued = was }))

-- the session of a connection has ended, and all that it told is sent
abbrev pub IsDone : {T : Type 0} → Entry T → Type 0
IsDone entry = (ending_of entry.connection.state ≢ None) × (entry.connection.unsent.bytes.items ≡ [])

-- the queue has no room for another key
abbrev pub IsFull : {T : Type 0} → Table T → Type 0
IsFull table = deque_capacity table.queue ≤ deque_len table.queue

-- how a connection began: what its stream had to be read and held, each if it tells, and the state of the caller
pub record Beginning (C : Type 0) : Type 0 where
  pub had : Option Bytes
  pub held : Option Bytes
  pub caller : C

-- nobody awaits a Settle
abbrev pub NoneAwaits : {T : Type 0} → Table T → Type 0
NoneAwaits {T = T} table = (key : ℕ) (entry : Entry T) → get table.entries key ≡ Some entry → ¬ AwaitsSettle entry.connection

-- whoever awaits a Settle is queued, and the table is to settle
abbrev pub AreQueued : {T : Type 0} → Table T → Type 0
AreQueued {T = T} table = (key : ℕ) (entry : Entry T) → get table.entries key ≡ Some entry → AwaitsSettle entry.connection
    → ((before after : List ℕ) × (table.queue.items ≡ before ++ key ∷ after)) × (table.is_settling ≡ true)

-- a connection that awaited a Settle has this reply; one that didn't is the same
abbrev pub IsSettledOrSame : {T : Type 0} → Bytes → Entry T → Entry T → Type 0
IsSettledOrSame reply was is = (AwaitsSettle was.connection × IsSettled reply was.connection is.connection) ⊎ ((¬ AwaitsSettle was.connection) × (is ≡ was))

-- Each connection that awaited a Settle has this reply. No other has changed, and none is gone.
abbrev pub AreSettled : {T : Type 0} → Bytes → Table T → Table T → Type 0
AreSettled {T = T} reply old new = (key : ℕ) (was : Entry T) → get old.entries key ≡ Some was → (is : Entry T) × (get new.entries key ≡ Some is) × IsSettledOrSame reply was is

-- One Settle for all that await one. It begins when all of them do. Only if nobody does, nothing is asked.
abbrev pub SettlesAll : {C T : Type 0} → CallerRelation C → (C → C → Type 0) → Table T → C → Table T → C → Type 0
SettlesAll {C = C} exchanges resumes old from new now =
    (NoneAwaits old × (new ≡ old) × (now ≡ from))
    ⊎ ((told : Result ℕ Refusal) × (mid : C) × exchanges from (Settles told) mid × Led (ButSettles exchanges) resumes mid now × AreSettled (reply_spelling (settle_told told)) old new × NoneAwaits new)

-- A round: turns, and then one Settle for all that await one.
abbrev pub IsRound : {C T : Type 0} → CallerRelation C → (C → C → Type 0) → C → Table T → C → Type 0
IsRound {C = C} {T = T} exchanges resumes old new now =
    (from : C) × (mid : Table T) × Led exchanges resumes old from × SettlesAll exchanges resumes mid from new now

module _ {C T : Type 0} (exchanges : CallerRelation C) (resumes : C → C → Type 0) (opened : C → Option ℕ) (remaining contents : T → Option Bytes) where
  -- A connection that began so has its session. The turns of others led the caller to the state start, in which the session
  -- begins. Its last turn left the caller in the state last, and the turns of others led it from there to what it is now.
  pub record HasSession (beginning : Beginning C) (entry : Entry T) (now : C) : Type 0 where
    pub start : Shared C
    pub last : Shared C
    pub begun : Resumed exchanges resumes opened beginning.caller start.caller
    pub session : IsSession (SharedExchanges exchanges resumes opened) beginning.had (remaining entry.stream) beginning.held (contents entry.stream) start entry.connection last
    pub left : entry.opened ≡ opened last.caller
    pub led : Led exchanges resumes last.caller now

  -- each connection of a table has its own session
  abbrev pub HaveSessions : (ℕ → Beginning C) → Table T → C → Type 0
  HaveSessions beginnings table now = (key : ℕ) (entry : Entry T) → get table.entries key ≡ Some entry → HasSession (beginnings key) entry now

  -- so it is, and whoever awaits a Settle had its session in the state from
  abbrev pub HaveSessionsSince : (ℕ → Beginning C) → Table T → C → C → Type 0
  HaveSessionsSince beginnings table from now = (key : ℕ) (entry : Entry T) → get table.entries key ≡ Some entry
      → (AwaitsSettle entry.connection → HasSession (beginnings key) entry from) × HasSession (beginnings key) entry now
