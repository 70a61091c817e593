-- What a caller answers that keeps a plain map for each of its tenants.
use Rattle.std.specs.Prelude.{◌≡◌, ◌≢◌, ◌<◌, ℕ, ◌==◌, ◌⊎◌, List, length, position, slice_get, slice_set, Option, Some, None, Result, Ok, Err, min, ◌+◌, ◌-◌, ◌^◌}
use Rattle.mt_rows.specs.{declared.command.Command.Command, declared.reply.Reply.Reply, declared.reply.Reply.TheVariants.NoMemory}
use Rattle.mt_rows.specs.{declared.refusal.Refusal.Refusal, declared.refusal.Refusal.TheVariants.{NoTenant, NotOpen, NoStore}, Commands.{IsTaken, IsFirstFault}}
use Rattle.mt_rows.specs.Maps.{reply_of, map_after}
use Rattle.mt_wire.specs.{declared.message.WireReply.WireReply, declared.message.WireReply.TheVariants.Told}
use Rattle.mt_caller.specs.{declared.caller.CallerFault.CallerFault, declared.caller.CallerFault.TheVariants.{Refused, Stuck}}
use Rattle.mt_caller.specs.Exchanges.{Exchange, Opens, Calls, Settles}
use Rattle.mt_session.specs.declared.plain.PlainTenant.{PlainTenant}
use Rattle.mt_wire.specs.declared.message.Shown.TheVariants as shown

-- tenants with their maps, the place of the one that is opened, and the number of the last command
pub record PlainTenants : Type 0 where
  pub list : List PlainTenant
  pub opened : Option ℕ
  pub last : ℕ

abbrev pub plain_tenants : List PlainTenant → Option ℕ → ℕ → PlainTenants
plain_tenants list opened last = record { list = list; opened = opened; last = last }

-- the number of the next command: one more, as far as numbers go
abbrev pub next_number : ℕ → ℕ
next_number last = min (last + 1) (2 ^ 64 - 1)

-- the opened tenant is in the list
abbrev pub IsInList : List PlainTenant → Option ℕ → Type 0
IsInList list None = Unit {0}
IsInList list (Some place) = place < length list

-- the place of a tenant in the list, the first if there are several
abbrev pub place_of : List PlainTenant → ℕ → Option ℕ
place_of list tenant = position (λ t. t.tenant == tenant) list

-- A tenant of the list is opened; of another NoTenant is told.
abbrev pub PlainOpens : Option ℕ → PlainTenants → ℕ → Option Refusal → PlainTenants → Type 0
PlainOpens (Some place) old tenant refusal new = (refusal ≡ None) × (new ≡ record old { opened = Some place })
PlainOpens None old tenant refusal new = (refusal ≡ Some (NoTenant tenant)) × (new ≡ old)

-- A tenant's command of a number is refused for its first fault, or it is answered by the tenant's map, or, where a
-- growth was refused, with NoMemory, and nothing changes. No command is stuck.
abbrev pub TenantCalls : PlainTenant → ℕ → Command → Result Reply CallerFault → PlainTenant → Type 0
TenantCalls old number command (Ok reply) new =
    IsTaken command × (((reply ≡ reply_of old.quota command old.map) × (new ≡ record old { map = map_after old.quota number command old.map })) ⊎ ((reply ≡ NoMemory) × (new ≡ old)))
TenantCalls old number command (Err (Refused refusal)) new = IsFirstFault command refusal × (new ≡ old)
TenantCalls old number command (Err Stuck) new = ⊥

-- A command is one of the opened tenant, and leaves the others; where none is opened, it is refused.
abbrev pub PlainCalls : Option ℕ → PlainTenants → Command → Result Reply CallerFault → PlainTenants → Type 0
PlainCalls (Some place) old command answer new =
    (t u : PlainTenant) × (slice_get old.list place ≡ Some t) × TenantCalls t (next_number old.last) command answer u
    × (new ≡ record old { list = slice_set old.list place u; last = next_number old.last })
PlainCalls None old command answer new = (answer ≡ Err (Refused NotOpen)) × (new ≡ old)

-- what the caller answers: a Settle is refused, since it keeps nothing
abbrev pub PlainExchanges : PlainTenants → Exchange → PlainTenants → Type 0
PlainExchanges old (Opens tenant refusal) new = PlainOpens (place_of old.list tenant) old tenant refusal new
PlainExchanges old (Calls command answer) new = PlainCalls old.opened old command answer new
PlainExchanges old (Settles answer) new = (answer ≡ Err NoStore) × (new ≡ old)

-- a reply that tells of no want of memory
abbrev pub IsAmple : WireReply → Type 0
IsAmple reply = reply ≢ Told shown.NoMemory
