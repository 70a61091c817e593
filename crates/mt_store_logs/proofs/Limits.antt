-- What is recovered of a store keeps the limits of keys, rows and stamps.
use Rattle.std.{proofs.Common.{ℕ, ◌≤◌, ◌^◌, Bool, List}, specs.List.All}
use Rattle.mt_rows.specs.{Accounts.Accounts, TenantPairs.{IsTenantPair, AreStampedUpto}}
use Rattle.mt_disk.specs.Disk.{DiskState}
use Rattle.mt_slots.specs.declared.store_slots.StoreSlots.{StoreSlots}
use Rattle.mt_recover.specs.declared.recovering.Recovered.{Recovered}
use Rattle.mt_store_logs.specs.{declared.store_log.StoreLog.StoreLog, Recovers.ServesAgain}

-- ---- so it may be put into a state

module _ {D : Type 0} (is_honest : D → Bool) (state : D → DiskState) (failures : D → ℕ) (accounts : Accounts) (r : Recovered) (generation : ℕ)
    (old : List (StoreLog D)) (slots : StoreSlots D) (new : List (StoreLog D)) (now : StoreSlots D)
    (again : ServesAgain is_honest state failures accounts r generation old slots new now) where
  pub limits_of : All IsTenantPair r.pairs.items
  limits_of = again.recovers.limits

  pub resumes_within : r.resume ≤ 2 ^ 59
  resumes_within = again.recovers.last

  pub stamps_of : AreStampedUpto r.resume r.pairs.items
  stamps_of = again.recovers.stamped
