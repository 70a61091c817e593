-- Sorted maps whose commands take their numbers from a list. Given the list, a session has one text, also if it asks for stamps.
use Rattle.std.specs.Prelude.{◌≡◌, ◌≢◌, ℕ, List, ◌∷◌, Some, Ok}
use Rattle.mt_rows.specs.{declared.command.Command.Command, declared.reply.Reply.TheVariants.NoMemory, Maps.map_after}
use Rattle.mt_caller.specs.Exchanges.{Exchange, Calls}
use Rattle.mt_alone.specs.TenantMaps.{TenantMaps, with_map, MapsExchange}

-- tenants' maps, and the numbers of the commands that are to be answered, in their order
pub record NumberedMaps : Type 0 where
  pub maps : TenantMaps
  pub numbers : List ℕ

abbrev pub numbered_maps : TenantMaps → List ℕ → NumberedMaps
numbered_maps maps numbers = record { maps = maps; numbers = numbers }

-- a command of the opened tenant has left its map as it does by this number
abbrev pub AppliesBy : ℕ → Command → TenantMaps → TenantMaps → Type 0
AppliesBy number command old new = (tenant quota : ℕ) → old.opened ≡ Some tenant → old.quotas tenant ≡ Some quota
    → new.maps ≡ with_map tenant (map_after quota number command (old.maps tenant)) old.maps

-- a command that is answered takes the next number, by which it takes effect unless memory is wanting; nothing else takes one
abbrev pub TakesNumber : Exchange → NumberedMaps → NumberedMaps → Type 0
TakesNumber (Calls command (Ok reply)) old new = (number : ℕ) × (old.numbers ≡ number ∷ new.numbers) × (reply ≢ NoMemory → AppliesBy number command old.maps new.maps)
TakesNumber exchange old new = new.numbers ≡ old.numbers

-- what the caller answers, each command by its number
pub record NumberedExchange (old : NumberedMaps) (exchange : Exchange) (new : NumberedMaps) : Type 0 where
  pub answers : MapsExchange old.maps exchange new.maps
  pub takes : TakesNumber exchange old new

-- the same tenants and the same maps, with the same stamps, and the same numbers to come; the last one that was given may be another
pub record AreSameButLast (d c : NumberedMaps) : Type 0 where
  pub quotas : c.maps.quotas ≡ d.maps.quotas
  pub opened : c.maps.opened ≡ d.maps.opened
  pub maps : c.maps.maps ≡ d.maps.maps
  pub numbers : c.numbers ≡ d.numbers
