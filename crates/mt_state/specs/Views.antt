-- What a state shows, and the maps that it had.
use Rattle.std.specs.{Prelude.{◌≡◌, ℕ, ◌-◌, ◌≤◌, Bool, true, false, List, map, Option, Some, None, slice_index_or}, Option.option_map}
use Rattle.mt_rows.specs.{declared.tenants.Account.Account, declared.command.Command.Command, declared.reply.Reply.Reply, Accounts.{Accounts, account_of}}
use Rattle.mt_rows.specs.{Maps.{Map, reply_of, is_change}, Tenants.Contents}
use Rattle.mt_tape.specs.{Tapes.Kept, Histories.{contents_at, map_at, is_changed}}
use Rattle.mt_arena.specs.Arena.{ArenaView, content_of}
use Rattle.mt_operation.specs.{Operations.{OperationView, view_of}, Tables.Table}
use Rattle.mt_descent.specs.Pasts.{Past}

-- the operations by their ids, as they are shown: those that were begun and whose answer was not taken
abbrev pub Shown : Type 0
Shown = List (Option OperationView)

-- what a state shows: how many steps it has made, how many answers were taken, for each log the step up to which it was given its worker's changes,
-- the tenants' accounts, all nodes and trees, the changes since a floor, and the operations
pub record StateView : Type 0 where
  pub steps : ℕ
  pub answers : ℕ
  pub logs : List ℕ
  pub accounts : Accounts
  pub arena : ArenaView
  pub tape : Kept
  pub table : Shown

-- what is inside: all of each operation
pub record Core : Type 0 where
  pub steps : ℕ
  pub answers : ℕ
  pub logs : List ℕ
  pub accounts : Accounts
  pub arena : ArenaView
  pub tape : Kept
  pub table : Table

-- what is shown of what is inside
abbrev pub shown : Core → StateView
shown c = record { steps = c.steps; answers = c.answers; logs = c.logs; accounts = c.accounts; arena = c.arena; tape = c.tape; table = map (option_map view_of) c.table }

-- the operation of an id, as it is shown
abbrev pub op_at : Shown → ℕ → Option OperationView
op_at table o = slice_index_or table o None

-- all pairs
abbrev pub contents_of : StateView → Contents
contents_of v = content_of v.arena

-- a tenant's map after step m
abbrev pub map_of : StateView → ℕ → ℕ → Map
map_of v t m = map_at v.tape.entries (contents_of v) t m

-- whether step m changed a map
abbrev pub changed_at : StateView → ℕ → Bool
changed_at v m = is_changed v.tape.entries m

-- the steps that were made, with the contents after each
abbrev pub past_of : Core → Past
past_of c = record { steps = c.steps; contents = contents_at c.tape.entries (content_of c.arena) }

-- how many pairs an account may have, none where there is no account
abbrev pub quota_in : Option Account → ℕ
quota_in None = 0
quota_in (Some account) = account.quota

-- a tenant's quota, if it has an account
abbrev pub granted_in : Option Account → Option ℕ
granted_in account = option_map (λ a. a.quota) account

abbrev pub granted : StateView → ℕ → Option ℕ
granted v t = granted_in (account_of v.accounts t)

-- how many pairs a tenant may have
abbrev pub quota_of : StateView → ℕ → ℕ
quota_of v t = quota_in (account_of v.accounts t)

-- the reply to a command is right at a number: that of a change on the map just before it, any other on the map then
pub record IsPlaced (v : StateView) (tenant : ℕ) (command : Command) (at : ℕ) (reply : Reply) : Type 0 where
  pub changes : is_change reply ≡ true → (changed_at v at ≡ true) × (reply ≡ reply_of (quota_of v tenant) command (map_of v tenant (at - 1)))
  pub looks : is_change reply ≡ false → reply ≡ reply_of (quota_of v tenant) command (map_of v tenant at)

-- what stays of what was: no number falls, the maps and the changes of all steps made stay, and so do the tenants with their quotas
pub record KeepsPast (old new : StateView) : Type 0 where
  pub steps : old.steps ≤ new.steps
  pub quotas : (t : ℕ) → granted new t ≡ granted old t
  pub maps : (t m : ℕ) → m ≤ old.steps → map_of new t m ≡ map_of old t m
  pub changes : (m : ℕ) → m ≤ old.steps → changed_at new m ≡ changed_at old m
