-- Why a call on a slot failed, and what it counts of its disk.
use Rattle.std.specs.Prelude.{◌≡◌, ◌⊎◌, ℕ, Bool, if◌then◌else◌}
use Rattle.mt_rows.specs.declared.refusal.Refusal.{Refusal}
use Rattle.mt_disk.specs.Disk.{GoesUp}
use Rattle.mt_checkpoint.specs.{declared.fault.FaultCause.FaultCause, declared.fault.ReadFault.ReadFault}
use Rattle.mt_checkpoint.specs.declared.fault.FaultCause.TheVariants.{Device, Memory, NotAWalk, NotReadBack}
use Rattle.mt_checkpoint.specs.declared.fault.ReadFault.TheVariants as reads
use Rattle.mt_rows.specs.declared.refusal.Refusal.TheVariants as refusals

-- the refusal that tells a cause
abbrev pub refusal_for : FaultCause → Refusal
refusal_for Device = refusals.Device
refusal_for Memory = refusals.Memory
refusal_for NotAWalk = refusals.Device
refusal_for NotReadBack = refusals.Device

-- the cause that tells why a slot was not read
abbrev pub read_cause : ReadFault → FaultCause
read_cause reads.Device = Device
read_cause reads.Memory = Memory

-- a cause, as a disk tells it to which memory was refused, or was not
abbrev pub told_as : Bool → FaultCause → FaultCause
told_as refused Device = if refused then Memory else Device
told_as refused Memory = Memory
told_as refused NotAWalk = NotAWalk
told_as refused NotReadBack = NotReadBack

-- The count of failures goes up where the disk failed, which it may have done for want of memory.
abbrev pub CountsCause : FaultCause → ℕ → ℕ → Type 0
CountsCause Device old new = GoesUp old new
CountsCause Memory old new = (new ≡ old) ⊎ GoesUp old new
CountsCause NotAWalk old new = new ≡ old
CountsCause NotReadBack old new = new ≡ old

-- what was to be written was refused, before the gate was opened
abbrev pub IsRefused : FaultCause → Type 0
IsRefused Device = ⊥
IsRefused Memory = ⊥
IsRefused NotAWalk = Unit {0}
IsRefused NotReadBack = Unit {0}
