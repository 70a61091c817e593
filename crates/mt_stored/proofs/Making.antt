-- Why the logs of a new store were not made: the disk of one failed; for the store's calls.
use Rattle.std.proofs.Common.{◌≡◌, ◌∙◌, ℕ, ◌<◌, Bool, List, length, Option, Some, refl, ap}
use Rattle.std.proofs.lemmas.Option.{slice_get_within}
use Rattle.mt_rows.specs.declared.refusal.Refusal.{Refusal}
use Rattle.mt_disk.specs.Disk.{DiskState}
use Rattle.mt_store_logs.specs.{declared.fault.LogRefusal.LogRefusal, declared.store_log.StoreLog.StoreLog, Opens.{StopsMakingAt, StopsMaking}}
use Rattle.mt_rows.specs.declared.refusal.Refusal.TheVariants as refusals

module _ {D : Type 0} (is_honest : D → Bool) (state : D → DiskState) (failures : D → ℕ) where
  fails_at : (log : Option ℕ) (refusal : Refusal) (old new : List (StoreLog D)) → StopsMakingAt is_honest state failures log refusal old new
      → (place : ℕ) × (place < length old) × (log ≡ Some place) × (refusal ≡ refusals.Device)
  fails_at (Some place) refusals.Device old new stops = (place, slice_get_within old place stops.was stops.was_there, refl, refl)
  fails_at log refusal old new stops = absurd stops

  pub not_made : (e : LogRefusal) (old new : List (StoreLog D)) → StopsMaking is_honest state failures e old new
      → (place : ℕ) × (place < length old) × (e ≡ record { log = Some place; refusal = refusals.Device })
  not_made e old new stops =
      let at = fails_at e.log e.refusal old new stops in
      let same : e ≡ record { log = Some at.0; refusal = refusals.Device } =
      ap (λ (l : Option ℕ). record { log = l; refusal = e.refusal }) at.2 ∙ ap (λ (r : Refusal). record { log = Some at.0; refusal = r }) at.3 in
      (at.0, at.1, same)
