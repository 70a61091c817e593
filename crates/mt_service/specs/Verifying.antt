-- What is said of a store that is only read, and why it is not.
use Rattle.std.specs.{Prelude.{◌≡◌, ℕ, ◌++◌, List, Option, codes, decimal, length}, Io.KnownBytes.Appends}
use Rattle.mt_rows.specs.{Accounts.Accounts, Rows.Bytes}
use Rattle.mt_disk.specs.declared.cached.CachedDisk.{CachedDisk}
use Rattle.mt_state.specs.Views.{StateView}
use Rattle.mt_options.specs.declared.options.Options.{Options}
use Rattle.mt_service.specs.declared.verifying.StoreReport.{StoreReport}
use Rattle.mt_slots.specs.declared.store_slots.StoreSlots.{StoreSlots}
use Rattle.mt_store_logs.specs.declared.store_log.StoreLog.{StoreLog}
use Rattle.mt_store_files.specs.{declared.read_file.ReadFile.ReadFile, declared.fault.FolderFault.FolderFault}
use Rattle.mt_service.specs.{declared.faults.ServerFault.ServerFault, declared.faults.ServerFault.TheVariants.{Refused, Memory, Store, Output}}
use Rattle.mt_service.specs.{Accounts.{AreServable, AreAccountsOf}, ReadStores.{is_honest, holds, failures, IsRecoveredFrom, IsOfReading}}

-- up to which step a store goes, and how many pairs it has of how many tenants
abbrev pub store_text : ℕ → ℕ → ℕ → Bytes
store_text steps pairs tenants =
    codes "the store goes up to step " ++ decimal steps ++ codes ": " ++ decimal pairs ++ codes " pairs of " ++ decimal tenants ++ codes " tenants"

abbrev pub store_line : ℕ → ℕ → ℕ → Bytes
store_line steps pairs tenants = store_text steps pairs tenants ++ codes "\n"

-- a disk on a file that is only read
abbrev pub ReadDisk : Type 0
ReadDisk = CachedDisk ReadFile

-- A store of the tenants that are named was recovered on such disks. The output gains some text, and then the line of a report: up to which step that store goes, of
-- how many tenants.
pub record SaysStore (options : Options) (held now : Option Bytes) : Type 0 where
  pub accounts : Accounts
  pub tenants : AreAccountsOf (length options.tenants.items) options.tenants.items accounts
  pub state : StateView
  pub logs : List (StoreLog ReadDisk)
  pub slots : Option (StoreSlots ReadDisk)
  pub recovered : IsRecoveredFrom is_honest holds failures options.workers accounts state logs slots
  pub files : Bytes
  pub report : StoreReport
  pub steps : report.steps ≡ state.steps
  pub count : report.tenants ≡ length options.tenants.items
  pub says : Appends held now (files ++ store_line report.steps report.pairs report.tenants)

-- why the store of a folder is not read on such disks; and the fault names the folder
abbrev pub IsOfReadStore : Options → Bytes → FolderFault → Type 0
IsOfReadStore options folder told =
    (told.folder.bytes.items ≡ folder)
    × ((accounts : Accounts) × AreAccountsOf (length options.tenants.items) options.tenants.items accounts
    × IsOfReading (is_honest {F = ReadFile}) holds failures options.workers accounts told.fault)

-- why: memory; one of the tenants, which can't be served; the store, as at a start; or the output, if that failed
abbrev pub IsOfVerifying : Options → Bytes → Type 0 → ServerFault → Type 0
IsOfVerifying options folder failed Memory = Unit {0}
IsOfVerifying options folder failed (Refused refusal) = ¬ AreServable options.tenants.items
IsOfVerifying options folder failed (Store told) = IsOfReadStore options folder told
IsOfVerifying options folder failed (Output error) = failed
IsOfVerifying options folder failed fault = ⊥
