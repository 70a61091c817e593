-- The front of a log, what an append may make of it, and what is no log.
use Rattle.std.specs.Prelude.{◌≡◌, ◌≢◌, ◌⊎◌, ℕ, ◌<◌, ◌≤◌, Bool, true, false, [], ◌∷◌, ◌++◌, length}
use Rattle.mt_rows.specs.Rows.{Bytes}
use Rattle.mt_disk.specs.Disk.{DiskState, IsDurable, LeavesOnly}
use Rattle.mt_log.specs.{declared.batch.LogBatch.LogBatch, declared.reader.FileKind.FileKind, declared.reader.FileKind.TheVariants.{Plain, Numbered}, Format.{header, body, told_body, open_batch, IsVersion}}
use Rattle.mt_log.specs.Contents.{Contents, IsContents, IsLogBatch, log_bytes, with_batch}
use Rattle.mt_log_generations.specs.{declared.header.Header.Header, declared.header.Parity.Parity}
use Rattle.mt_log_generations.specs.Headers.{header_bytes, parity_of, IsHeader, FitsEightBytes, HasNoHeader as HasNoNumberedHeader}

-- The front of an image: its batches with an open gate, up to the first gate that isn't 01. Whatever
-- stands behind that gate counts for nothing.
pub record HasFront (c : Contents) (image : Bytes) : Type 0 where
  pub contents : IsContents c
  pub gate : ℕ
  pub behind : Bytes
  pub is_shut : gate ≢ 1
  pub whole : image ≡ log_bytes c ++ (gate ∷ behind)

-- no header of format 1 or 2 stands at the front, whatever worker and number of logs it might name
abbrev pub HasNoPlainHeader : Bytes → Type 0
HasNoPlainHeader image = (version worker logs : ℕ) (more : Bytes) → IsVersion version → image ≡ header version worker logs ++ more → ⊥

-- a header of format 1 or 2 stands there that names this worker, but as one of no 1 to 64 logs
pub record IsOfNoLogs (image : Bytes) (worker : ℕ) : Type 0 where
  pub version : ℕ
  pub logs : ℕ
  pub more : Bytes
  pub known : IsVersion version
  pub whole : image ≡ header version worker logs ++ more
  pub wrong : worker < logs → logs ≤ 64 → ⊥

-- no batch in the format of this number stands here, whole behind its length
abbrev pub HasNoBatch : ℕ → Bytes → Type 0
HasNoBatch version bytes = (b : LogBatch) (more : Bytes) → IsLogBatch version b → bytes ≡ told_body (body b) ++ more → ⊥

-- no gate stands here, or an open one before no batch
abbrev pub IsBadGate : ℕ → Bytes → Type 0
IsBadGate version bytes = (bytes ≡ []) ⊎ ((behind : Bytes) × (bytes ≡ 1 ∷ behind) × HasNoBatch version behind)

-- behind these batches the image isn't in the format
pub record IsBadAfter (c : Contents) (image : Bytes) : Type 0 where
  pub contents : IsContents c
  pub rest : Bytes
  pub whole : image ≡ log_bytes c ++ rest
  pub bad : IsBadGate c.version rest

-- the log of a plain file is of no generation, that of a numbered file of one from 1 on that has its parity
abbrev pub IsOfKind : FileKind → ℕ → Type 0
IsOfKind Plain generation = generation ≡ 0
IsOfKind (Numbered parity) generation = (1 ≤ generation) × (parity_of generation ≡ parity)

-- a header of format 3 stands there that names this worker, but some number of it is past its limits, or it belongs into
-- the other file
pub record IsOfNoGeneration (parity : Parity) (image : Bytes) (worker : ℕ) : Type 0 where
  pub header : Header
  pub more : Bytes
  pub fits : FitsEightBytes header
  pub whole : image ≡ 1 ∷ (header_bytes header ++ more)
  pub wrong : IsHeader header → parity_of header.generation ≡ parity → ⊥
  pub named : worker ≡ header.worker

-- No log begins so in a file of this kind: it has no such header, and the number is 0; or a wrong one, and the number is
-- its worker. A plain file has no header of format 3, a numbered file no other.
abbrev pub IsBadBeginning : FileKind → Bytes → ℕ → Type 0
IsBadBeginning Plain image number = (HasNoPlainHeader image × (number ≡ 0)) ⊎ IsOfNoLogs image number
IsBadBeginning (Numbered parity) image number = (HasNoNumberedHeader image × (number ≡ 0)) ⊎ IsOfNoGeneration parity image number

-- An image that is no log in a file of this kind: at 0 it has no header, or a bad one; or at the gate after a worker's
-- last good batch it isn't in the format. Then the number is the header's worker.
abbrev pub IsBadLog : FileKind → Bytes → ℕ → ℕ → Type 0
IsBadLog kind image number offset = IsBadBeginning kind image number × (offset ≡ 0)
    ⊎ ((c : Contents) × IsOfKind kind c.generation × IsBadAfter c image × (number ≡ c.worker) × (offset ≡ length (log_bytes c)))

-- these bytes, and then a closed gate
pub record IsShut (front image : Bytes) : Type 0 where
  pub behind : Bytes
  pub whole : image ≡ front ++ (0 ∷ behind)

-- What an append of a body may leave of the old front: its end gate is 00, or it is torn, and then the
-- body and the next closed gate stand whole behind it.
pub record IsTorn (front bytes image : Bytes) : Type 0 where
  pub gate : ℕ
  pub behind : Bytes
  pub is_shut : gate ≢ 1
  pub whole : image ≡ front ++ (gate ∷ behind)
  pub torn : gate ≢ 0 → (more : Bytes) × (behind ≡ told_body bytes ++ 0 ∷ more)

-- the front is the old one, or the old one with the body of one batch more
abbrev pub IsBeforeOrAfter : Bytes → Bytes → Bytes → Type 0
IsBeforeOrAfter front bytes image = IsTorn front bytes image ⊎ IsShut (front ++ open_batch bytes) image

-- What may be left of a log to which a batch was being appended. Its front is the old one or the one
-- with the batch (`before_or_after_is_a_front`).
abbrev pub IsLeft : Contents → LogBatch → Bytes → Type 0
IsLeft c b image = IsBeforeOrAfter (log_bytes c) (body b) image

-- the one or the other
abbrev pub IsOldOrNew : Contents → LogBatch → Contents → Type 0
IsOldOrNew c b front = (front ≡ c) ⊎ (front ≡ with_batch b c)

-- a disk at rest: these bytes, the closed gate, nothing behind it, and all of it durable
pub record IsAtRest (front : Bytes) (place : ℕ) (s : DiskState) : Type 0 where
  pub image : s.image ≡ front ++ 0 ∷ []
  pub durable : IsDurable s
  pub end : place ≡ length front

-- with a body staged behind the end gate, all of it durable
pub record IsStaged (front bytes : Bytes) (place : ℕ) (s : DiskState) : Type 0 where
  pub image : s.image ≡ front ++ (0 ∷ (told_body bytes ++ 0 ∷ []))
  pub durable : IsDurable s
  pub end : place ≡ length front

-- as an opening finds it once it has synced: these bytes end at this gate
pub record IsFound (front : Bytes) (gate place : ℕ) (s : DiskState) : Type 0 where
  pub behind : Bytes
  pub image : s.image ≡ front ++ (gate ∷ behind)
  pub durable : IsDurable s
  pub end : place ≡ length front

-- An append of a body failed here: since some state a crash leaves the old front or the one with the body, and
-- these are the places of their ends.
pub record IsUnsure (front bytes : Bytes) (before after : ℕ) (first s : DiskState) : Type 0 where
  pub leaves : LeavesOnly (IsBeforeOrAfter front bytes) first s
  pub ends_before : before ≡ length front
  pub ends_after : after ≡ length (front ++ open_batch bytes)

-- which of the two is at rest, by whether the body counts
abbrev pub IsAtRestAt : Bytes → Bytes → ℕ → ℕ → DiskState → Bool → Type 0
IsAtRestAt front bytes before after s true = IsAtRest (front ++ open_batch bytes) after s
IsAtRestAt front bytes before after s false = IsAtRest front before s
