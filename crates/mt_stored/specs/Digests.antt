-- What is asked of whoever keeps digests beside a store's files.
use Rattle.std.specs.Prelude.{ℕ, Result}
use Rattle.mt_rows.specs.declared.refusal.Refusal.{Refusal}
pub use Rattle.mt_digests.specs.declared.file_digest.FileDigest.{FileDigest}
use Rattle.mt_slots.specs.declared.slot.Slot.{Slot}

-- One call, and what it told.
-- The digests of the files of so many workers' logs of a generation were cleared.
-- Those of their logs of a generation, which are closed, were kept.
-- That of a slot was cleared.
-- This one of a slot was kept.
pub data DigestCall : Type 0 where
  ClearsLogs : ℕ → ℕ → Result (Unit {0}) Refusal → DigestCall
  KeepsLogs : ℕ → ℕ → Result (Unit {0}) Refusal → DigestCall
  ClearsSlot : Slot → Result (Unit {0}) Refusal → DigestCall
  KeepsSlot : Slot → FileDigest → Result (Unit {0}) Refusal → DigestCall
