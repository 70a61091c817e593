-- What was made of a numbered file: settled, read, and its end set right.
use Rattle.std.proofs.Common.{◌≡◌, inr, ℕ, Bool, IsTrue, Option, Some, None}
use Rattle.std.{specs.List.slice_get}
use Rattle.mt_disk.specs.Disk.{DiskState, GoesUp}
use Rattle.mt_gates.{specs.Gates.{IsGateOf, IsSyncedOrSame}, proofs.Crash.tried_sync}
use Rattle.mt_log_generations.specs.{declared.header.Parity.Parity, Calls.{ReadHeader, StillLeaves}}
use Rattle.mt_log.specs.{declared.fault.ReadFault.ReadFault}
use Rattle.mt_log.specs.{Logs.{GivesDiskBack, fault_with}}
use Rattle.mt_log.specs.{Numbered.{HasNoLog, GivesNumberedBack, StillLeavesText, text_of}, Settling.{FailsToSettle}}
use Rattle.mt_log.proofs.{FrontLaws.only_synced, NumberedLaws.{left_opens, text_some}}
use Rattle.mt_log.specs.declared.reader.FileKind.TheVariants as kinds
use Rattle.mt_log.specs.declared.fault.ReadFault.TheVariants as reads

module _ {D : Type 0} (is_honest : D → Bool) (state : D → DiskState) (failures : D → ℕ) (old : D) where
  -- a file without a log
  pub no_log : (new : D) → ReadHeader is_honest state failures old new None → HasNoLog is_honest state failures old new
  no_log new r = record { none = r.tells; durable = λ h. (r.settled h).0; closed = λ h. (r.settled h).1; count = r.count; honest = r.honest }

  -- what settling it leaves of a log that is begun or given up, by what a reading of its header leaves
  pub settled_text : (new : D) → StillLeaves is_honest state failures old new → StillLeavesText is_honest state failures old new
  settled_text new still h c first is before = still h (text_of c) first (text_some c) before

  -- and one that was only synced
  pub gate_text : (mid : D) (len : ℕ) (gate : Option ℕ) → IsGateOf is_honest state old mid (len, gate) → StillLeavesText is_honest state failures old mid
  gate_text mid len gate at h c first is before = tried_sync (text_of c) first (state old) (state mid) before (inr (at.moves h))

  -- its sync failed
  pub sync_failed : (new : D) → (IsTrue (is_honest old) → IsSyncedOrSame (state old) (state new)) → GoesUp (failures old) (failures new) → is_honest new ≡ is_honest old
      → FailsToSettle is_honest state failures old new reads.Device
  sync_failed new moves up honest = record { moves = λ h opened. moves h; count = up; honest = honest }

  -- it was not settled
  pub not_settled : (parity : Parity) (new : D) (e : ReadFault) → FailsToSettle is_honest state failures old new e → GivesNumberedBack parity is_honest state failures old (fault_with new e)
  not_settled parity new reads.Device f = (
    λ h c b first some is before. only_synced c b first (state old) (state new) before (f.moves h (left_opens c b (state old).image some (before.now (state old).image before.reads))),
    f.count,
    f.honest,
  )
  not_settled parity new reads.Memory f = (
    λ h c b first some is before. only_synced c b first (state old) (state new) before (f.moves h (left_opens c b (state old).image some (before.now (state old).image before.reads))),
    f.count,
    f.honest,
  )
  not_settled parity new (reads.Bad number offset) f = absurd f.count

  -- and it was not read, or its end not set right
  pub not_opened : (parity : Parity) (new : D) (e : ReadFault) → (IsTrue (is_honest old) → slice_get (state old).image 0 ≡ Some 1) → GivesDiskBack (kinds.Numbered parity) is_honest state failures old (fault_with new e) → GivesNumberedBack parity is_honest state failures old (fault_with new e)
  not_opened parity new reads.Device opened f = (λ h c b first some is before. f.0 h c b first is before, f.1, f.2)
  not_opened parity new reads.Memory opened f = (λ h c b first some is before. f.0 h c b first is before, f.1, f.2)
  not_opened parity new (reads.Bad number offset) opened f = (f, opened)
