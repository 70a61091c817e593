-- Why a store is not opened, or not read, as a fault of the server.
use Rattle.std.proofs.Common.{◌≡◌, ℕ, Option, Some, length, sym, subst, arith}
use Rattle.mt_rows.specs.{Accounts.Accounts, Rows.Bytes}
use Rattle.mt_options.specs.{declared.options.Options.Options, declared.options.StorePlace.StorePlace}
use Rattle.mt_store_files.specs.{declared.fault.StoreFault.StoreFault, declared.read_file.ReadFile.ReadFile}
use Rattle.mt_store_files.specs.{declared.fault.StoreFault.TheVariants.{System, Device, Memory as StoreMemory}, declared.names.FolderFile.TheVariants.Digest}
use Rattle.mt_store_files.specs.{declared.names.StoreFile.StoreFile, declared.names.StoreFile.TheVariants.{Log, Numbered, Slot}, Faults.{IsOfDigests, IsOfStore as IsOfStoreFile}}
use Rattle.mt_streams.{specs.Failures.{NoFewer, Failed}, proofs.FailureLemmas.{then-Failed}}
use Rattle.mt_service.specs.{declared.faults.ServerFault.ServerFault, declared.faults.ServerFault.TheVariants.{Refused, Memory, Store, Output}}
use Rattle.mt_service.specs.{Accounts.AreAccountsOf, Faults.{IsOfTenants, IsOfWriting}, ReadStores.{is_honest, holds, failures, IsOfReading}, ServedStore.{IsOfPlace, IsOfStore, IsOfOpening}, StoreFaults.IsToldOf, Verifying.IsOfVerifying}

-- the fault of a place's store, told with its folder
pub told_at_place : (options : Options) (place : StorePlace) (accounts : Accounts) (folder : Bytes) (fault : StoreFault) (e : ServerFault) → options.store ≡ Some place
    → folder ≡ place.folder.bytes.items → AreAccountsOf (length options.tenants.items) options.tenants.items accounts → IsOfPlace place.create options.workers accounts fault
    → IsToldOf folder fault e → IsOfOpening options e
told_at_place options place accounts folder fault Memory there name are is told = tt
told_at_place options place accounts folder fault (Store e) there name are is told =
    subst (λ (store : Option StorePlace). IsOfStore store options.workers options.tenants.items e) (sym there)
    (subst (λ (text : Bytes). e.folder.bytes.items ≡ text) name told.0, (accounts, are, subst (IsOfPlace place.create options.workers accounts) (sym told.1) is))
told_at_place options place accounts folder fault e there name are is told = absurd told

-- that of a store that is only read
pub told_of_reading : (options : Options) (accounts : Accounts) (folder : Bytes) (failed : Type 0) (fault : StoreFault) (e : ServerFault)
    → AreAccountsOf (length options.tenants.items) options.tenants.items accounts → IsOfReading (is_honest {F = ReadFile}) holds failures options.workers accounts fault
    → IsToldOf folder fault e → IsOfVerifying options folder failed e
told_of_reading options accounts folder failed fault Memory are is told = tt
told_of_reading options accounts folder failed fault (Store e) are is told =
    (told.0, (accounts, are, subst (IsOfReading (is_honest {F = ReadFile}) holds failures options.workers accounts) (sym told.1) is))
told_of_reading options accounts folder failed fault e are is told = absurd told

-- one of the tenants
pub told_of_tenants : (options : Options) (folder : Bytes) (failed : Type 0) (e : ServerFault) → IsOfTenants options.tenants.items e → IsOfVerifying options folder failed e
told_of_tenants options folder failed Memory is = tt
told_of_tenants options folder failed (Refused refusal) is = is
told_of_tenants options folder failed e is = absurd is

-- the output, in a text after others
pub told_of_text : (options : Options) (folder : Bytes) (before mid after : Option ℕ) (e : ServerFault) → NoFewer before mid → IsOfWriting (Failed mid after) e
    → IsOfVerifying options folder (Failed before after) e
told_of_text options folder before mid after Memory none is = tt
told_of_text options folder before mid after (Output error) none is = then-Failed before mid after none is
told_of_text options folder before mid after e none is = absurd is

-- of the digest files of slots alone: one of those of slots and logs
store_of_all : (file : StoreFile) → IsOfStoreFile 0 file → IsOfStoreFile 64 file
store_of_all (Slot slot) is = tt
store_of_all (Log worker) is = absurd (omega arith)
store_of_all (Numbered worker parity) is = absurd (omega arith)

pub digests_of_all : (e : StoreFault) → IsOfDigests 0 e → IsOfDigests 64 e
digests_of_all (System (Some (Digest file)) error) is = store_of_all file is
digests_of_all (Device (Digest file) error) is = store_of_all file is
digests_of_all StoreMemory is = tt
digests_of_all e is = absurd is
