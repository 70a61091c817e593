-- What a log's first bytes are: what stands at a gate, and what a log begins with. For the functions that read them.
use Rattle.std.specs.Prelude.{◌≡◌, ◌≢◌, ◌⊎◌, ℕ, ◌^◌, ◌<◌, ◌≤◌, [], ◌∷◌, ◌++◌, length, drop}
use Rattle.std.specs.{Int.{w32, to_be_bytes}}
use Rattle.mt_rows.specs.Rows.{Bytes}
use Rattle.mt_log.specs.{declared.fault.ReadFault.ReadFault, declared.reader.Head.Head, declared.reader.Start.Start, declared.reader.FileKind.FileKind}
use Rattle.mt_log.specs.{Format.beginning, Contents.AreNumbers, Fronts.{IsOfKind, IsBadBeginning}}
use Rattle.mt_log.specs.declared.fault.ReadFault.TheVariants as faults
use Rattle.mt_log.specs.declared.reader.Head.TheVariants as heads
use Rattle.mt_log.specs.declared.reader.FileKind.TheVariants.{Numbered}
use Rattle.mt_log_generations.specs.{declared.fault.HeaderFault.HeaderFault, declared.header.Parity.Parity, Headers.{HasNoHeader, IsPastLimits}}
use Rattle.mt_log_generations.specs.declared.fault.HeaderFault.TheVariants as headers

-- a gate that isn't open
pub record IsShutGate (bytes : Bytes) (gate : ℕ) : Type 0 where
  pub is_shut : gate ≢ 1
  pub behind : Bytes
  pub whole : bytes ≡ gate ∷ behind

-- an open gate, and the length of a body behind it
pub record IsOpenGate (bytes : Bytes) (size : ℕ) : Type 0 where
  pub fits : size < 2 ^ 32
  pub behind : Bytes
  pub whole : bytes ≡ 1 ∷ (to_be_bytes w32 size ++ behind)

-- no gate, or an open one without a whole length behind it
pub record IsNoHead (bytes : Bytes) : Type 0 where
  pub short : length bytes < 5
  pub gate : (bytes ≡ []) ⊎ ((behind : Bytes) × (bytes ≡ 1 ∷ behind))

-- what the first bytes at a gate are
abbrev pub IsHead : Bytes → Head → Type 0
IsHead bytes (heads.Shut gate) = IsShutGate bytes gate
IsHead bytes (heads.Open size) = IsOpenGate bytes size
IsHead bytes heads.Bad = IsNoHead bytes

-- the bytes before the first batch gate
abbrev pub begin_bytes : Start → Bytes
begin_bytes s = beginning s.version s.worker s.logs s.generation s.start

-- these bytes begin so
abbrev pub BeginsSo : Bytes → Start → Type 0
BeginsSo bytes s = bytes ≡ begin_bytes s ++ drop s.place bytes

-- the limits of a beginning, and where its first batch gate is
pub record IsWithinLimits (s : Start) : Type 0 where
  pub numbers : AreNumbers s.version s.generation s.start
  pub worker : s.worker < s.logs
  pub logs : s.logs ≤ 64
  pub place : s.place ≡ length (begin_bytes s)

-- what a log's bytes begin with, in a file of this kind
pub record IsStart (kind : FileKind) (bytes : Bytes) (s : Start) : Type 0 where
  pub of_kind : IsOfKind kind s.generation
  pub limits : IsWithinLimits s
  pub header : BeginsSo bytes s
  pub head : IsHead (drop s.place bytes) s.head

-- why no header of format 3 was read after an open outer gate: there is none, or one past its limits
abbrev pub IsNoHeader : Bytes → HeaderFault → Type 0
IsNoHeader bytes headers.Device = ⊥
IsNoHeader bytes (headers.Bad number) = (HasNoHeader bytes × (number ≡ 0)) ⊎ IsPastLimits bytes number

-- or it belongs into the other file
abbrev pub IsBadHeader : Parity → Bytes → HeaderFault → Type 0
IsBadHeader parity bytes headers.Device = ⊥
IsBadHeader parity bytes (headers.Bad number) = IsBadBeginning (Numbered parity) bytes number

-- the fault of a header as that of a file: it stands at its front
abbrev pub fault_of : HeaderFault → ReadFault
fault_of headers.Device = faults.Device
fault_of (headers.Bad number) = faults.Bad number 0

-- why bytes are no log's beginning
abbrev pub IsBadStart : FileKind → Bytes → ReadFault → Type 0
IsBadStart kind bytes faults.Device = ⊥
IsBadStart kind bytes faults.Memory = ⊥
IsBadStart kind bytes (faults.Bad number offset) = IsBadBeginning kind bytes number × (offset ≡ 0)
