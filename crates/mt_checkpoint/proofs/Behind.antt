-- What is cut after a closed gate.
use Rattle.std.proofs.Common.{◌≡◌, ℕ, ◌≤◌, [], length, take, Result, OnOk, arith}
use Rattle.mt_rows.specs.Rows.{Bytes}
use Rattle.mt_disk.specs.Disk.{DiskState, Attempts, LeavesOnly}
use Rattle.mt_checkpoint.specs.Checkpoints.{IsClosed, IsShutIn, IsBehindGate}
use Rattle.mt_checkpoint.proofs.Crash.{shut_closed, write_leaves, cut_text}

-- ---- a closed gate stands before some text

pub shut_of : (text : Bytes) (s : DiskState) → IsBehindGate text s → IsShutIn s
shut_of text s b = record { shut = b.shut; reads = b.reads }

pub text_of : (s : DiskState) → IsShutIn s → (text : Bytes) × IsBehindGate text s
text_of s b =
    let closed = shut_closed s.now b.shut s.image b.reads in
    (closed.behind, record { image = closed.whole; shut = b.shut; reads = b.reads })

-- ---- it is cut

module _ (s : DiskState) (b : IsShutIn s) where
  pub cut_all : {T E : Type 0} (result : Result T E) (to : ℕ) (new : DiskState) → Attempts (1, to) result s new
      → (1 ≤ length s.image → OnOk result (new.image ≡ take 1 s.image)) → OnOk result (IsBehindGate [] new)
  cut_all result to new tried image = let text = text_of s b in cut_text text.0 s text.1 result to new tried image

  pub cut_leaves : {T E : Type 0} (result : Result T E) (to : ℕ) (new : DiskState) → Attempts (1, to) result s new → LeavesOnly IsClosed s new
  cut_leaves result to new tried = let text = text_of s b in write_leaves text.0 s text.1 (1, to) result new (omega arith) tried
