-- What the functions say that read a log: for those that call them, whose callers see fronts alone.
use Rattle.std.specs.Prelude.{◌≡◌, ◌≢◌, ℕ, ◌+◌, ◌-◌, ◌<◌, ◌≤◌, min, Bool, IsTrue, List, ◌∷◌, ◌++◌, length, take, drop, Option, Some, None, Vec}
use Rattle.std.specs.{List.{flat_map, AllByRecursion}, declared.alloc.Global.Global}
use Rattle.mt_rows.specs.Rows.{Bytes}
use Rattle.mt_disk.specs.Disk.{DiskState}
use Rattle.mt_log.specs.{declared.batch.LogBatch.LogBatch, declared.fault.ReadFault.ReadFault, declared.reader.Head.Head, declared.reader.Start.Start, declared.reader.FileKind.FileKind}
use Rattle.mt_log.specs.{declared.batch.ReadBatch.ReadBatch, declared.batch_reader.BatchReader.BatchReader, declared.windows.Found.Found}
use Rattle.mt_log.specs.{Format.{body, batch_bytes}, Contents.{IsLogBatch, end_of, IsContents, mark_of, log_bytes, contents_of}}
use Rattle.mt_log.specs.{Fronts.{IsOfKind, IsBadGate, IsBadLog}, Reading.batch_in}
pub use Rattle.mt_log.specs.Beginnings.{IsShutGate, IsOpenGate, IsNoHead, IsHead, begin_bytes, BeginsSo, IsWithinLimits, IsStart, IsNoHeader, IsBadHeader, fault_of, IsBadStart}
use Rattle.mt_log.specs.declared.fault.ReadFault.TheVariants as faults
use Rattle.mt_log.specs.declared.reader.Head.TheVariants as heads

-- ---- bytes

-- the first bytes, so many, are the body of a batch, and behind them is a gate
pub record IsBody (version size : ℕ) (bytes : Bytes) (b : LogBatch) (head : Head) : Type 0 where
  pub batch : IsLogBatch version b
  pub whole : take size bytes ≡ body b
  pub next : IsHead (drop size bytes) head

-- what is read behind an open gate and a length
abbrev pub IsBehind : ℕ → ℕ → Bytes → Option (ReadBatch × Head) → Type 0
IsBehind version size bytes (Some x) = IsBody version size bytes x.0.batch x.1
IsBehind version size bytes None = batch_in version (take size bytes) ≡ None

-- an open gate and a batch, of so many bytes, and what stands at the gate behind them
pub record IsOpenBatch (bytes : Bytes) (b : LogBatch) (len : ℕ) (head : Head) : Type 0 where
  pub parts : bytes ≡ batch_bytes b ++ drop len bytes
  pub within : len ≤ length bytes
  pub next : IsHead (drop len bytes) head

-- no batch stands at a gate: it isn't open, or what stands there isn't in the format
abbrev pub IsNoBatch : ℕ → Bytes → Head → Type 0
IsNoBatch version bytes (heads.Shut gate) = IsShutGate bytes gate
IsNoBatch version bytes (heads.Open size) = IsBadGate version bytes
IsNoBatch version bytes heads.Bad = IsBadGate version bytes

-- a reader went over a batch, of so many bytes, and stands at the gate after it
pub record WentOver (b : LogBatch) (image : Bytes) (old new : BatchReader) : Type 0 where
  pub size : ℕ
  pub place : new.place ≡ old.place + size
  pub batch : IsOpenBatch (drop old.place image) b size new.head

-- what a reader finds at its gate
abbrev pub IsFoundBy : Bytes → BatchReader → Option ReadBatch → BatchReader → Type 0
IsFoundBy image old None new = IsNoBatch old.version (drop old.place image) old.head
IsFoundBy image old (Some read) new = WentOver read.batch image old new

-- what a reader gives of any disk: a batch in the format, and then it stands further on; or none, and then it stays
abbrev pub IsGivenBy : BatchReader → Option ReadBatch → BatchReader → Type 0
IsGivenBy old None new = new ≡ old
IsGivenBy old (Some read) new = IsLogBatch old.version read.batch × (old.place < new.place)

-- batches in the format, from a start on, the last of which ends at the mark
pub record AreBatches (version start mark : ℕ) (batches : List LogBatch) : Type 0 where
  pub each : AllByRecursion (IsLogBatch version) batches
  pub last : mark ≡ end_of start batches

-- these batches stand from the first gate on, before a place
pub record StandBefore (first place : ℕ) (image : Bytes) (batches : List LogBatch) : Type 0 where
  pub parts : drop first image ≡ flat_map batch_bytes batches ++ drop place image
  pub len : place ≡ first + length (flat_map batch_bytes batches)

-- the batches of an image from the first gate on, and the gate where their reader stops
pub record IsStop (version first : ℕ) (image : Bytes) (batches : List LogBatch) (reader : BatchReader) : Type 0 where
  pub stand : StandBefore first reader.place image batches
  pub stops : IsNoBatch version (drop reader.place image) reader.head

-- a front in the format, that ends at a place
pub record IsFoundAt (place : ℕ) (found : Found) : Type 0 where
  pub contents : IsContents (contents_of found.front)
  pub mark : found.mark ≡ mark_of (contents_of found.front)
  pub end : found.end ≡ place

-- the front of an image, and where it ends
pub record IsRead (image : Bytes) (found : Found) : Type 0 where
  pub is_shut : found.gate ≢ 1
  pub behind : Bytes
  pub whole : image ≡ log_bytes (contents_of found.front) ++ (found.gate ∷ behind)
  pub end : found.end ≡ length (log_bytes (contents_of found.front))

-- why an image was not read, in a file of this kind
abbrev pub IsBadRead : FileKind → Bytes → ReadFault → Type 0
IsBadRead kind image faults.Device = ⊥
IsBadRead kind image faults.Memory = ⊥
IsBadRead kind image (faults.Bad number offset) = IsBadLog kind image number offset

-- ---- disks

-- over an honest disk with a file of this length: its image has P
abbrev pub OfImage : {D : Type 0} → (D → Bool) → (D → DiskState) → D → ℕ → (Bytes → Type 0) → Type 0
OfImage is_honest state disk len P = IsTrue (is_honest disk) → len ≡ length (state disk).image → P (state disk).image

-- what was read from a place on, up to so many bytes
pub record IsWindow {D : Type 0} (is_honest : D → Bool) (state : D → DiskState) (disk : D) (len place count : ℕ) (bytes : Vec ℕ Global) : Type 0 where
  pub size : length bytes.items ≡ min count (len - place)
  pub told : OfImage is_honest state disk len (λ image. bytes.items ≡ take count (drop place image))

-- what a log begins with
pub record IsStartOf {D : Type 0} (kind : FileKind) (is_honest : D → Bool) (state : D → DiskState) (disk : D) (len : ℕ) (start : Start) : Type 0 where
  pub limits : IsWithinLimits start
  pub of_kind : IsOfKind kind start.generation
  pub whole : start.place ≤ len
  pub told : OfImage is_honest state disk len (λ image. IsStart kind image start)

-- the batches behind a first gate, and where they stop
pub record IsStopOf {D : Type 0} (is_honest : D → Bool) (state : D → DiskState) (disk : D) (len : ℕ) (start : Start) (bs : List LogBatch) (reader : BatchReader) (mark : ℕ) : Type 0 where
  pub batches : AreBatches start.version start.start mark bs
  pub within : reader.place ≤ len
  pub told : OfImage is_honest state disk len (λ image. IsHead (drop start.place image) start.head → IsStop start.version start.place image bs reader)

-- the front of a file of this kind
pub record IsFrontOf {D : Type 0} (kind : FileKind) (is_honest : D → Bool) (state : D → DiskState) (disk : D) (len : ℕ) (found : Found) : Type 0 where
  pub contents : IsContents (contents_of found.front)
  pub of_kind : IsOfKind kind found.front.generation
  pub mark : found.mark ≡ mark_of (contents_of found.front)
  pub within : found.end ≤ len
  pub told : OfImage is_honest state disk len (λ image. IsRead image found)

-- why a file has none
abbrev pub IsFaultOf : {D : Type 0} → FileKind → (D → Bool) → (D → DiskState) → D → ℕ → ReadFault → Type 0
IsFaultOf kind is_honest state disk len faults.Device = Unit {0}
IsFaultOf kind is_honest state disk len faults.Memory = Unit {0}
IsFaultOf kind is_honest state disk len (faults.Bad number offset) = OfImage is_honest state disk len (λ image. IsBadLog kind image number offset)
