-- Over which file another one is begun, and why not.
use Rattle.std.specs.Prelude.{◌≡◌, ◌⊎◌, ℕ, Some, Result, MatchResult}
use Rattle.std.specs.List.{slice_get}
use Rattle.mt_disk.specs.Disk.{DiskState, GoesUp, synced}
use Rattle.mt_gates.specs.{Gates.IsSyncedOrSame, declared.gated.BeginFault.BeginFault}
use Rattle.mt_gates.specs.declared.gated.BeginFault.TheVariants.{Device, NotShut}

-- the gate is closed
abbrev pub HasShutGate : DiskState → Type 0
HasShutGate s = slice_get s.image 0 ≡ Some 0

-- Why a file is not begun. If the disk failed, the gate was closed, or nothing was written. A file whose gate isn't closed
-- was synced and not written.
abbrev pub StopsOver : BeginFault → DiskState → DiskState → Type 0
StopsOver Device old new = HasShutGate old ⊎ IsSyncedOrSame old new
StopsOver NotShut old new = (HasShutGate old → ⊥) × (new ≡ synced old)

-- a file is begun over a closed gate, or not at all
abbrev pub BeginsOver : {T : Type 0} → Result T BeginFault → DiskState → DiskState → Type 0
BeginsOver result old new = MatchResult result (λ _. HasShutGate old) (λ e. StopsOver e old new)

-- the count of failures goes up if the disk failed, and at nothing else
abbrev pub CountsFault : BeginFault → ℕ → ℕ → Type 0
CountsFault Device old new = GoesUp old new
CountsFault NotShut old new = new ≡ old

abbrev pub CountsBeginning : {T : Type 0} → Result T BeginFault → ℕ → ℕ → Type 0
CountsBeginning result old new = MatchResult result (λ _. new ≡ old) (λ e. CountsFault e old new)
