-- Why a server ended before its time.
use Rattle.std.specs.Prelude.{◌≡◌, ℕ, List}
use Rattle.mt_rows.specs.declared.refusal.Refusal.{Refusal}
use Rattle.mt_options.specs.declared.tenants.TenantQuota.{TenantQuota}
use Rattle.mt_store_files.specs.Faults.{status_of as store_status}
use Rattle.mt_service.specs.declared.faults.ServerFault.{ServerFault}
use Rattle.mt_service.specs.{declared.faults.ServerFault.TheVariants.{Refused, Memory, Store, Unsettled, Output, Listen, Socket, Passes}, Accounts.AreServable}
use Rattle.mt_rows.specs.declared.refusal.Refusal.TheVariants as refusals

-- the fault of a tenant that is refused
abbrev pub fault_of : Refusal → ServerFault
fault_of refusals.Memory = Memory
fault_of refusal = Refused refusal

-- 2 if a tenant is refused, that of the store if that is, else 1
abbrev pub status_of : ServerFault → ℕ
status_of (Refused refusal) = 2
status_of (Store told) = store_status told.fault
status_of fault = 1

-- what may be at fault in making the accounts of these tenants: memory, or, if they can't be served, one of them
abbrev pub IsOfTenants : List TenantQuota → ServerFault → Type 0
IsOfTenants tenants Memory = Unit {0}
IsOfTenants tenants (Refused refusal) = ¬ AreServable tenants
IsOfTenants tenants fault = ⊥

-- in listening: the port
abbrev pub IsOfPort : ℕ → ServerFault → Type 0
IsOfPort port (Listen other error) = other ≡ port
IsOfPort port fault = ⊥

-- in writing a line: memory, or the output, if that failed
abbrev pub IsOfWriting : Type 0 → ServerFault → Type 0
IsOfWriting failed Memory = Unit {0}
IsOfWriting failed (Output error) = failed
IsOfWriting failed fault = ⊥

-- in serving: memory, the listener, passes that are lost, or the last settle
abbrev pub IsOfServing : ServerFault → Type 0
IsOfServing Memory = Unit {0}
IsOfServing (Socket error) = Unit {0}
IsOfServing Passes = Unit {0}
IsOfServing (Unsettled refusal) = Unit {0}
IsOfServing fault = ⊥

-- the cause of a server's fault: of a fault of the output, that it failed; no tenant, no store and no port is refused any more
abbrev pub HasCause : Type 0 → ServerFault → Type 0
HasCause failed (Refused refusal) = ⊥
HasCause failed (Store fault) = ⊥
HasCause failed (Listen port error) = ⊥
HasCause failed (Output error) = failed
HasCause failed fault = Unit {0}
