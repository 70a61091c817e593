-- What a session does for a line, and what it says of it.
use Rattle.std.specs.Prelude.{◌≡◌, ◌≢◌, ℕ, Bool, [], Option, Some, None, Ok, Err}
use Rattle.mt_rows.specs.{declared.command.Command.Command, declared.refusal.Refusal.Refusal, declared.refusal.Refusal.TheVariants.{TenantThere, Quota, Memory}}
use Rattle.mt_rows.specs.Accounts.{Accounts, account_of, OthersStay, IsQuota}
use Rattle.mt_core.specs.{declared.answers.Ticket.Ticket, Tickets.{TellsBegin, TellsRefusal}, Shapes.IsShape}
use Rattle.mt_lines.specs.{declared.line.Line.Line, declared.response.Response.Response}
use Rattle.mt_lines.specs.{declared.response.Response.TheVariants.{Taken, Refused, Begun, Shape, BadLine}, Names.{operation_of, TakesName}}
use Rattle.mt_lines.specs.Stores.{StoreView, new_store, TellsStep, TellsWalk, TellsNamed, IsFree}
use Rattle.mt_lines.specs.declared.line.Line.TheVariants as lines

-- a session: its store, and the tenants that are gathered, up to the first begin
pub record SessionView : Type 0 where
  pub store : StoreView
  pub gathered : Option Accounts

-- a session before its first line
abbrev pub fresh : SessionView
fresh = record { store = new_store []; gathered = Some [] }

-- the tenant was not in the list, and is there now, without pairs
pub record AddsTenant (old new : Accounts) (tenant quota : ℕ) : Type 0 where
  pub free : account_of old tenant ≡ None
  pub quota_fits : IsQuota quota
  pub added : account_of new tenant ≡ Some (record { quota = quota; count = 0 })
  pub others : OthersStay old new tenant

-- the refusal of a tenant: it is in the list; else its quota is none; else a growth was refused
abbrev pub IsTenantRefusal : Accounts → ℕ → ℕ → Refusal → Type 0
IsTenantRefusal tenants tenant quota TenantThere = account_of tenants tenant ≢ None
IsTenantRefusal tenants tenant quota Quota = (account_of tenants tenant ≡ None) × ¬ IsQuota quota
IsTenantRefusal tenants tenant quota Memory = (account_of tenants tenant ≡ None) × IsQuota quota
IsTenantRefusal tenants tenant quota _ = ⊥

-- what is said of a tenant: `ok`, and the tenants that are gathered have it; a refusal, and they stay; or a bad line, where none are gathered any more
abbrev pub TellsGathered : Option Accounts → Option Accounts → ℕ → ℕ → Response → Type 0
TellsGathered (Some old) (Some new) tenant quota Taken = AddsTenant old new tenant quota
TellsGathered (Some old) (Some new) tenant quota (Refused refusal) = IsTenantRefusal old tenant quota refusal × (new ≡ old)
TellsGathered None None tenant quota BadLine = Unit {0}
TellsGathered _ _ tenant quota _ = ⊥

-- what is said of a tenant, and that the store stays
abbrev pub TellsTenant : SessionView → SessionView → ℕ → ℕ → Response → Type 0
TellsTenant old new tenant quota response = (new.store ≡ old.store) × TellsGathered old.gathered new.gathered tenant quota response

-- the store in which a begin happens: a new one of the tenants that are gathered, and where none are any more the one that is there
abbrev pub store_at_begin : StoreView → Option Accounts → StoreView
store_at_begin store (Some tenants) = new_store tenants
store_at_begin store None = store

-- what is said of a begin that may stand: what the store tells of it, and with which refusal; its name is in use from then on, and shows stamps as was asked
abbrev pub TellsBegun : StoreView → StoreView → ℕ → ℕ → Command → Bool → Response → Type 0
TellsBegun old new name tenant command stamps (Begun other) =
    (other ≡ name) × ((ticket : Ticket) × TellsBegin old.state new.state 0 tenant command (Ok ticket) × TellsRefusal old.state tenant command (Ok ticket) × TakesName old.named new.named name ticket.id stamps)
TellsBegun old new name tenant command stamps (Refused refusal) =
    TellsBegin old.state new.state 0 tenant command (Err refusal) × TellsRefusal old.state tenant command (Err refusal) × (new.named ≡ old.named)
TellsBegun old new name tenant command stamps _ = ⊥

-- what is said of a begin: one by a name in use is a bad line, and nothing changes; after any other no tenants are gathered
abbrev pub TellsBeginLine : SessionView → SessionView → ℕ → ℕ → Command → Bool → Response → Type 0
TellsBeginLine old new name tenant command stamps BadLine = (new ≡ old) × ¬ IsFree old.store name
TellsBeginLine old new name tenant command stamps response =
    IsFree old.store name × (new.gathered ≡ None) × TellsBegun (store_at_begin old.store old.gathered) new.store name tenant command stamps response

-- what is said of the trees
abbrev pub TellsShape : SessionView → Response → Type 0
TellsShape session (Shape lines) = IsShape session.store.state.arena lines.items
TellsShape session _ = ⊥

-- what is said of a line that steps the operation of a name
abbrev pub TellsOf : ℕ → SessionView → SessionView → Response → (ℕ → Type 0) → Type 0
TellsOf name old new response told = (new.gathered ≡ old.gathered) × TellsNamed (operation_of old.store.named name) old.store new.store response told

-- what a session does for a line, and what it says of it
abbrev pub TellsLine : SessionView → SessionView → Line → Response → Type 0
TellsLine old new (lines.Tenant tenant quota) response = TellsTenant old new tenant quota response
TellsLine old new (lines.Begin name tenant command stamps) response = TellsBeginLine old new name tenant command stamps response
TellsLine old new (lines.Step name) response = TellsOf name old new response (λ o. TellsStep old.store new.store name o response)
TellsLine old new (lines.Until name phase) response = TellsOf name old new response (λ o. TellsWalk (Some phase) old.store new.store name o response)
TellsLine old new (lines.Run name) response = TellsOf name old new response (λ o. TellsWalk None old.store new.store name o response)
TellsLine old new lines.Shape response = (new ≡ old) × TellsShape old response

-- what a session does for bytes that are this line, or none: then they are a bad line, and nothing changes
abbrev pub TellsReply : SessionView → SessionView → Option Line → Response → Type 0
TellsReply old new None response = (response ≡ BadLine) × (new ≡ old)
TellsReply old new (Some line) response = TellsLine old new line response
