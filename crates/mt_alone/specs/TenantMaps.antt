-- What a caller answers that keeps a sorted map for each tenant.
use Rattle.std.specs.Prelude.{◌≡◌, ℕ, ◌^◌, ◌<◌, ◌≤◌, ◌==◌, ◌⊎◌, if◌then◌else◌, Option, Some, None, Result, Ok, Err}
use Rattle.mt_rows.specs.{declared.command.Command.Command, declared.reply.Reply.Reply, declared.reply.Reply.TheVariants.NoMemory}
use Rattle.mt_rows.specs.{declared.refusal.Refusal.Refusal, declared.refusal.Refusal.TheVariants.{NoTenant, NotOpen, NoStore, Spent}, Commands.IsTaken}
use Rattle.mt_rows.specs.Maps.{Map, reply_of, map_after}
use Rattle.mt_runs.specs.Placings.{Maps, no_pairs}
use Rattle.mt_caller.specs.{declared.caller.CallerFault.CallerFault, declared.caller.CallerFault.TheVariants.{Refused, Stuck}}
use Rattle.mt_caller.specs.Exchanges.{Exchange, Opens, Calls, Settles}
use Rattle.mt_state.specs.Refused.{IsFault}

-- each tenant's quota, where there is such a tenant; each tenant's map; the tenant that is opened; and the last number that was given
pub record TenantMaps : Type 0 where
  pub quotas : ℕ → Option ℕ
  pub maps : Maps
  pub opened : Option ℕ
  pub last : ℕ

abbrev pub tenant_maps : (ℕ → Option ℕ) → Maps → Option ℕ → ℕ → TenantMaps
tenant_maps quotas maps opened last = record { quotas = quotas; maps = maps; opened = opened; last = last }

-- all maps are empty, no tenant is opened, and no number was given
abbrev pub fresh_maps : (ℕ → Option ℕ) → TenantMaps
fresh_maps quotas = tenant_maps quotas no_pairs None 0

-- one tenant has another map, and every other one has its own
abbrev pub with_map : ℕ → Map → Maps → Maps
with_map tenant map maps = λ t. if t == tenant then map else maps t

-- the command of a number, of a tenant that may have so many pairs, leaves its map as `map_after` says; numbers up to the last were given
abbrev pub after_command : ℕ → ℕ → ℕ → ℕ → Command → TenantMaps → TenantMaps
after_command tenant quota number last command old = record old { maps = with_map tenant (map_after quota number command (old.maps tenant)) old.maps; last = last }

-- a command took effect, by a number that had not been given before
abbrev pub Applies : ℕ → ℕ → Command → TenantMaps → TenantMaps → Type 0
Applies tenant quota command old new = (number : ℕ) × (old.last < number) × (number ≤ new.last) × (new ≡ after_command tenant quota number new.last command old)

-- nothing changed, but that numbers may have been given
abbrev pub GivesNumbers : TenantMaps → TenantMaps → Type 0
GivesNumbers old new = (old.last ≤ new.last) × (new ≡ record old { last = new.last })

-- a command has taken effect, or nothing has changed
abbrev pub MayApply : ℕ → ℕ → Command → TenantMaps → TenantMaps → Type 0
MayApply tenant quota command old new = Applies tenant quota command old new ⊎ GivesNumbers old new

-- A tenant that is there is opened; of another one NoTenant is told.
abbrev pub MapsOpen : Option ℕ → TenantMaps → ℕ → Option Refusal → TenantMaps → Type 0
MapsOpen (Some quota) old tenant refusal new = (refusal ≡ None) × (new ≡ record old { opened = Some tenant })
MapsOpen None old tenant refusal new = (refusal ≡ Some (NoTenant tenant)) × (new ≡ old)

-- A command is refused for its first fault, or without one for want of memory; then no map changes. Or it is refused without a fault since the last number is
-- given, which is 2 to the 59th.
abbrev pub MapsRefusal : ℕ → ℕ → TenantMaps → Command → Refusal → TenantMaps → Type 0
MapsRefusal tenant quota old command Spent new = IsTaken command × (new.last ≡ 2 ^ 59) × MayApply tenant quota command old new
MapsRefusal tenant quota old command refusal new = IsFault command refusal × GivesNumbers old new

-- A command is answered by its tenant's map, which is then the one that it leaves by a number over all before it. Or it is answered NoMemory, and no map changes.
-- Or it is refused. One that is stuck has no answer: it has left that map, or no map changed.
abbrev pub MapsAnswer : ℕ → ℕ → TenantMaps → Command → Result Reply CallerFault → TenantMaps → Type 0
MapsAnswer tenant quota old command (Ok reply) new = IsTaken command × (((reply ≡ reply_of quota command (old.maps tenant)) × Applies tenant quota command old new) ⊎ ((reply ≡ NoMemory) × GivesNumbers old new))
MapsAnswer tenant quota old command (Err (Refused refusal)) new = MapsRefusal tenant quota old command refusal new
MapsAnswer tenant quota old command (Err Stuck) new = MayApply tenant quota command old new

-- a command is one of the opened tenant; where none is opened, it is refused
abbrev pub MapsCall : Option ℕ → TenantMaps → Command → Result Reply CallerFault → TenantMaps → Type 0
MapsCall (Some tenant) old command answer new = (quota : ℕ) × (old.quotas tenant ≡ Some quota) × MapsAnswer tenant quota old command answer new
MapsCall None old command answer new = (answer ≡ Err (Refused NotOpen)) × (new ≡ old)

-- what the caller answers; a Settle is refused, since no log is kept
abbrev pub MapsExchange : TenantMaps → Exchange → TenantMaps → Type 0
MapsExchange old (Opens tenant refusal) new = MapsOpen (old.quotas tenant) old tenant refusal new
MapsExchange old (Calls command answer) new = MapsCall old.opened old command answer new
MapsExchange old (Settles answer) new = (answer ≡ Err NoStore) × (new ≡ old)
