-- What a caller over one state shows, keeps and answers.
use Rattle.std.specs.Prelude.{◌≡◌, ◌≢◌, ℕ, ◌^◌, [], Option, Some, None, IsSome, Result, Ok, Err}
use Rattle.mt_rows.specs.{declared.command.Command.Command, declared.reply.Reply.Reply, Accounts.account_of, Tenants.tenant_map}
use Rattle.mt_caller.specs.{declared.caller.CallerFault.CallerFault, declared.caller.CallerFault.TheVariants.{Refused, Stuck}, Exchanges.{Exchange, Calls}}
use Rattle.mt_state.specs.{Views.{StateView, contents_of, granted}, Promises.IsPlacedToGrow}
use Rattle.mt_core.specs.declared.answers.Ticket.{Ticket}
use Rattle.mt_alone.specs.{TenantMaps.{TenantMaps, tenant_maps, MapsCall, MapsExchange}, Runs.{Keeps, IsIdle, IsOnly, IsSettled}}

-- the state, the opened tenant, and the ticket of the command that is stuck
pub record AloneView : Type 0 where
  pub state : StateView
  pub opened : Option ℕ
  pub stuck : Option Ticket

abbrev pub alone_view : StateView → Option ℕ → Option Ticket → AloneView
alone_view state opened stuck = record { state = state; opened = opened; stuck = stuck }

-- the maps of a state's tenants; the numbers that were given are those of its steps
abbrev pub maps_in : StateView → Option ℕ → TenantMaps
maps_in v opened = tenant_maps (granted v) (λ t. tenant_map t (contents_of v)) opened v.steps

abbrev pub maps_of : AloneView → TenantMaps
maps_of a = maps_in a.state a.opened

-- no operation is open but the one that is stuck, which places nothing any more; once all numbers are given, one may be that has none for its next step
abbrev pub AreOpen : StateView → Option Ticket → Type 0
AreOpen v None = v.steps ≢ 2 ^ 59 → IsIdle v
AreOpen v (Some ticket) = IsOnly v ticket.id × IsSettled v ticket.id

-- the opened tenant is there
abbrev pub IsThere : StateView → Option ℕ → Type 0
IsThere v None = Unit {0}
IsThere v (Some tenant) = IsSome (account_of v.accounts tenant)

-- what holds of every caller
pub record IsRightAlone (state : StateView) (opened : Option ℕ) (stuck : Option Ticket) : Type 0 where
  pub logs : state.logs ≡ []
  pub alone : AreOpen state stuck
  pub there : IsThere state opened

-- the command that is stuck has placed its change, and wants memory for a node again
abbrev pub IsStuck : StateView → Option Ticket → Type 0
IsStuck v stuck = (ticket : Ticket) × (stuck ≡ Some ticket) × IsPlacedToGrow v ticket.id

-- What is stuck after a call of an opened tenant: after a reply nothing, nor after a refusal while numbers are left; a call is answered Stuck only if a command is.
abbrev pub LeavesStuck : StateView → Option Ticket → Result Reply CallerFault → Type 0
LeavesStuck new stuck (Ok reply) = stuck ≡ None
LeavesStuck new stuck (Err (Refused refusal)) = new.steps ≢ 2 ^ 59 → stuck ≡ None
LeavesStuck new stuck (Err Stuck) = IsStuck new stuck

abbrev pub LeavesBy : Exchange → AloneView → Type 0
LeavesBy (Calls command answer) new = new.opened ≢ None → LeavesStuck new.state new.stuck answer
LeavesBy _ new = Unit {0}

-- What is answered: what the tenants' maps answer. A stuck command is run on first.
pub record AloneExchange (old : AloneView) (exchange : Exchange) (new : AloneView) : Type 0 where
  pub keeps : Keeps old.state new.state
  pub leaves : LeavesBy exchange new
  pub by_maps : MapsExchange (maps_of old) exchange (maps_of new)

-- the command that is stuck is done with, unless no number is left, or it wants memory again
abbrev pub ClearsTo : StateView → Option Ticket → Result (Unit {0}) CallerFault → Type 0
ClearsTo new stuck (Ok done) = new.steps ≢ 2 ^ 59 → stuck ≡ None
ClearsTo new stuck (Err (Refused refusal)) = ⊥
ClearsTo new stuck (Err Stuck) = IsStuck new stuck

-- the command that is stuck is run on, which changes no map
pub record Clears (old new : StateView) (stuck : Option Ticket) (result : Result (Unit {0}) CallerFault) : Type 0 where
  pub keeps : Keeps old new
  pub stands : contents_of new ≡ contents_of old
  pub alone : AreOpen new stuck
  pub ends : ClearsTo new stuck result

-- a command is run by itself for a tenant
pub record Answers (old new : StateView) (tenant : ℕ) (command : Command) (result : Result Reply CallerFault) (stuck : Option Ticket) : Type 0 where
  pub keeps : Keeps old new
  pub alone : AreOpen new stuck
  pub leaves : LeavesStuck new stuck result
  pub by_maps : MapsCall (Some tenant) (maps_in old (Some tenant)) command result (maps_in new (Some tenant))
