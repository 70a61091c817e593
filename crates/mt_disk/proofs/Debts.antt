-- How the debt of a disk grows at a write or a cut, and that a sync pays it: for the proofs of crates that call a disk.
use Rattle.std.proofs.{Common.{◌≡◌, inl, inr, ℕ, ◌+◌, ◌-◌, ◌≤◌, Result, Ok, Err, ◌∙◌, ap, arith}, lemmas.List.Sums.sum_by_push}
use Rattle.mt_disk.specs.Disk.{Range, Moment, DiskState, debt, dirtied, Attempts, IsDurable}

-- one range more
pub debt_dirtied : (range : Range) (m : Moment) → debt (dirtied range m) ≡ debt m + (range.1 - range.0)
debt_dirtied range m = sum_by_push (λ (r : Range). r.1 - r.0) m.dirty range

-- a write or a cut that was tried
pub debt_tried : {T E : Type 0} (range : Range) (result : Result T E) (old new : DiskState) → Attempts range result old new → debt new.now ≤ debt old.now + (range.1 - range.0)
debt_tried range (Ok x) old new happened = omega (arith, ap debt happened.now ∙ debt_dirtied range old.now)
debt_tried range (Err e) old new (inl same) = omega (arith, ap (λ (s : DiskState). debt s.now) same)
debt_tried range (Err e) old new (inr happened) = omega (arith, ap debt happened.now ∙ debt_dirtied range old.now)

-- so many bytes were written, or tried to
pub debt_written : {T E : Type 0} (at count : ℕ) (result : Result T E) (old new : DiskState) → Attempts (at, at + count) result old new → debt new.now ≤ debt old.now + count
debt_written at count result old new tried = omega (arith, debt_tried (at, at + count) result old new tried)

-- where all is durable, nothing is owed
pub debt_durable : (s : DiskState) → IsDurable s → debt s.now ≡ 0
debt_durable s durable = ap debt durable
