-- Why a server's store is not opened at its place, and what is left of the folder then.
use Rattle.std.specs.Prelude.{◌≡◌, Bool, List, Option}
use Rattle.mt_rows.specs.Accounts.{Accounts}
use Rattle.mt_options.specs.{declared.options.Options.Options, declared.options.StorePlace.StorePlace}
use Rattle.mt_store_files.specs.Calls.{FolderCall}
use Rattle.mt_service.specs.{declared.faults.ServerFault.ServerFault, declared.faults.ServerFault.TheVariants.{Memory, Store, Listen}, ServedStore.IsOfPlace}

-- why a store is not made anew, or not recovered: memory; what there is at the place, told with its folder; or the port
abbrev pub IsOfStart : Options → StorePlace → Bool → Accounts → ServerFault → Type 0
IsOfStart options place create accounts Memory = Unit {0}
IsOfStart options place create accounts (Store told) =
    (told.folder.bytes.items ≡ place.folder.bytes.items) × IsOfPlace create options.workers accounts told.fault
IsOfStart options place create accounts (Listen port error) = port ≡ options.port
IsOfStart options place create accounts fault = ⊥

-- if the port was not had, nothing was done in the folder
abbrev pub LeavesFolder : Option (List FolderCall) → Option (List FolderCall) → ServerFault → Type 0
LeavesFolder before after (Listen port error) = after ≡ before
LeavesFolder before after fault = Unit {0}
