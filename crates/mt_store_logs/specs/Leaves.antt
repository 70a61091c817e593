-- What becomes of the older logs when a store is recovered.
use Rattle.std.specs.{Prelude.{◌≡◌, ◌⊎◌, ℕ, Bool, false, List, Option, Some, None}, List.All}
use Rattle.mt_rows.specs.declared.refusal.Refusal.{Refusal}
use Rattle.mt_disk.specs.Disk.{DiskState}
use Rattle.mt_store_logs.specs.{declared.fault.LogRefusal.LogRefusal, declared.store_log.StoreLog.StoreLog, Lists.{Each, StopsAt}, Turns.{GivesUpOlderLog, FailsToGiveUpOlderLog}}

-- no worker has begun the generation after that from which a store is recovered
abbrev pub NoneBegun : List Bool → Type 0
NoneBegun begun = All (λ (b : Bool). b ≡ false) begun

module _ {D : Type 0} (is_honest : D → Bool) (state : D → DiskState) (failures : D → ℕ) where
  -- each worker's older log was given up, if there is one
  abbrev pub GivesUpAll : List (StoreLog D) → List (StoreLog D) → Type 0
  GivesUpAll old new = Each (λ k was is. GivesUpOlderLog is_honest state failures was is) old new

  -- that of the worker at a place may be there or not
  abbrev pub StopsGivingUpAt : Option ℕ → Refusal → List (StoreLog D) → List (StoreLog D) → Type 0
  StopsGivingUpAt None e old new = ⊥
  StopsGivingUpAt (Some place) e old new =
      StopsAt
      (λ k was is. GivesUpOlderLog is_honest state failures was is)
      (FailsToGiveUpOlderLog is_honest state failures e)
      place old new

  abbrev pub StopsGivingUp : LogRefusal → List (StoreLog D) → List (StoreLog D) → Type 0
  StopsGivingUp e old new = StopsGivingUpAt e.log e.refusal old new

  -- If no worker has begun the next generation, all older logs were given up, and one generation is left. Else nothing was done.
  abbrev pub LeavesOne : List Bool → List (StoreLog D) → List (StoreLog D) → Type 0
  LeavesOne begun old new = (NoneBegun begun × GivesUpAll old new) ⊎ ((¬ NoneBegun begun) × (new ≡ old))
