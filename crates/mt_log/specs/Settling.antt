-- The steps of an opening of a numbered file: for private functions, cited by no public contract.
use Rattle.std.specs.{Prelude.{◌≡◌, ℕ, Bool, IsTrue, Option, Some, None}, List.slice_get}
use Rattle.mt_disk.specs.Disk.{DiskState}
use Rattle.mt_log_generations.specs.declared.header.Parity.{Parity}
use Rattle.mt_log.specs.{declared.fault.ReadFault.ReadFault, declared.windows.Found.Found}
use Rattle.mt_log.specs.declared.reader.FileKind.TheVariants as kinds
use Rattle.mt_log.specs.{Logs.{Opened, IsSyncedOf, IsSyncedOrSame, CountsSync}, Numbered.HasNoLog}

module _ {D : Type 0} (is_honest : D → Bool) (state : D → DiskState) (failures : D → ℕ) where
  -- a numbered file was synced, and has this length; or it has no log
  abbrev pub IsSyncedOrNone : D → D → Option ℕ → Type 0
  IsSyncedOrNone old new (Some len) = IsSyncedOf is_honest state failures old new len × (IsTrue (is_honest old) → slice_get (state old).image 0 ≡ Some 1)
  IsSyncedOrNone old new None = HasNoLog is_honest state failures old new

  -- its sync failed, or that of its torn gate; or it is too long
  pub record FailsToSettle (old new : D) (e : ReadFault) : Type 0 where
    pub moves : IsTrue (is_honest old) → slice_get (state old).image 0 ≡ Some 1 → IsSyncedOrSame (state old) (state new)
    pub count : CountsSync e (failures old) (failures new)
    pub honest : is_honest new ≡ is_honest old

-- what was found, on this disk
abbrev pub FindsNumbered : {D : Type 0} → Parity → (D → Bool) → (D → DiskState) → (D → ℕ) → D → D → Option Found → Type 0
FindsNumbered parity is_honest state failures old disk (Some found) =
    Opened (kinds.Numbered parity) is_honest state failures old (record { disk = disk; end = found.end; mark = found.mark }) found.front
FindsNumbered parity is_honest state failures old disk None = HasNoLog is_honest state failures old disk
