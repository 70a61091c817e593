-- What a log shows on which an append failed, and when it was opened again.
use Rattle.std.proofs.Common.{◌≡◌, inl, inr, ℕ, ◌+◌, Bool, true, false, IsTrue, length, refl, sym, ◌∙◌, ap, subst, length-append}
use Rattle.mt_rows.specs.Rows.{Bytes}
use Rattle.mt_disk.specs.Disk.{DiskState, LeavesOnly, GoesUp}
use Rattle.mt_log.specs.{declared.batch.LogBatch.LogBatch, declared.log_file.LogFile.LogFile, declared.failed_log.FailedLog.FailedLog}
use Rattle.mt_log.specs.{Format.{body, batch_bytes}, Contents.{Contents, IsLogBatch, to_of, mark_of, log_bytes, with_batch}}
use Rattle.mt_log.specs.{Fronts.{IsLeft, IsAtRest, IsBeforeOrAfter, IsUnsure, IsAtRestAt}, Logs.{IsLogOf, FailedAt}}
use Rattle.mt_log.specs.Failures.{end_in, IsFailedLogOf, Reopened, StaysFailed}
use Rattle.mt_log.proofs.FrontLaws.{contents_front, contents_more, more_bytes, end_more}

pair : (m n p q : ℕ) → m ≡ p → n ≡ q → ◌≡◌ {A = ℕ × ℕ} (m, n) (p, q)
pair m n p q e f = λ i. (e i, f i)

-- the end of a log with one batch more
end_with : (c : Contents) (b : LogBatch) → ◌≡◌ {A = ℕ × ℕ} (length (log_bytes c) + length (batch_bytes b), to_of b) (end_in (with_batch b c))
end_with c b =
    pair (length (log_bytes c) + length (batch_bytes b)) (to_of b) (length (log_bytes (with_batch b c))) (mark_of (with_batch b c))
    (sym (length-append (log_bytes c) (batch_bytes b)) ∙ ap length (sym (more_bytes c b)))
    (sym (end_more c.start c.batches b))

module _ {D : Type 0} (is_honest : D → Bool) (state : D → DiskState) (failures : D → ℕ) where
  -- an append failed on a log at rest
  pub failed_log : (old : LogFile D) (log : FailedLog D) (c : Contents) (b : LogBatch) → IsTrue (is_honest old.disk) → IsLogBatch c.version b → IsLogOf state c old
      → FailedAt is_honest state failures old b log → IsFailedLogOf state c b (state old.disk) log
  failed_log old log c b honest batch has f =
      let end = has.rest.end in
      let size = length (batch_bytes b) in
      record {
        contents = contents_more c b has.contents batch;
        before = f.before ∙ pair old.end old.mark (length (log_bytes c)) (mark_of c) end has.mark;
        after = f.after ∙ pair (old.end + size) (to_of b) (length (log_bytes c) + size) (to_of b) (ap (λ (n : ℕ). n + size) end) refl ∙ end_with c b;
        leaves = f.fails.leaves honest c has;
      }

  -- its end was set right, or its disk failed in that
  module _ (old : FailedLog D) (disk : D) (place_before place_after : ℕ) (is_before : place_before ≡ old.before.0) (is_after : place_after ≡ old.after.0)
      (leaves : IsTrue (is_honest old.disk) → (front bytes : Bytes) (first : DiskState) → IsUnsure front bytes place_before place_after first (state old.disk)
      → LeavesOnly (IsBeforeOrAfter front bytes) first (state disk))
      (kept : is_honest disk ≡ is_honest old.disk) where
    unsure : (c : Contents) (b : LogBatch) (first : DiskState) → IsFailedLogOf state c b first old
        → IsUnsure (log_bytes c) (body b) place_before place_after first (state old.disk)
    unsure c b first f = record {
      leaves = f.leaves;
      ends_before = is_before ∙ ap (λ (e : ℕ × ℕ). e.0) f.before;
      ends_after = is_after ∙ ap (λ (e : ℕ × ℕ). e.0) f.after ∙ ap length (more_bytes c b);
    }

    still : IsTrue (is_honest old.disk) → (c : Contents) (b : LogBatch) (first : DiskState) → IsFailedLogOf state c b first old
        → LeavesOnly (IsLeft c b) first (state disk)
    still honest c b first f = leaves honest (log_bytes c) (body b) first (unsure c b first f)

    pub stays_failed : GoesUp (failures old.disk) (failures disk)
        → StaysFailed is_honest state failures old (record { disk = disk; before = old.before; after = old.after })
    stays_failed count = record {
      before = refl;
      after = refl;
      still = λ honest c b first f. record { contents = f.contents; before = f.before; after = f.after; leaves = still honest c b first f };
      count = count;
      honest = kept;
    }

    pub reopened : (counts : Bool) (new : LogFile D)
        → (IsTrue counts → new ≡ record { disk = disk; end = old.after.0; mark = old.after.1 })
        → (counts ≡ false → new ≡ record { disk = disk; end = old.before.0; mark = old.before.1 })
        → (IsTrue (is_honest old.disk) → (front bytes : Bytes) (first : DiskState) → IsUnsure front bytes place_before place_after first (state old.disk)
        → IsAtRestAt front bytes place_before place_after (state disk) counts)
        → failures disk ≡ failures old.disk → Reopened is_honest state failures old new
    reopened true new with_it without rest count =
        let is = with_it refl in
        record {
          end = inr (ap (λ (l : LogFile D). (l.end, l.mark)) is);
          has = λ honest c b first f. (
            with_batch b c,
            inr refl,
            subst (IsLogOf state (with_batch b c)) (sym is) (record {
              contents = f.contents;
              rest =
                  subst (λ n. IsAtRest (log_bytes (with_batch b c)) n (state disk)) is_after
                  (subst (λ l. IsAtRest l place_after (state disk)) (sym (more_bytes c b)) (rest honest (log_bytes c) (body b) first (unsure c b first f)));
              mark = ap (λ (e : ℕ × ℕ). e.1) f.after;
            }),
          );
          leaves = λ honest c b first f. subst (λ (l : LogFile D). LeavesOnly (IsLeft c b) first (state l.disk)) (sym is) (still honest c b first f);
          count = ap (λ (l : LogFile D). failures l.disk) is ∙ count;
          honest = ap (λ (l : LogFile D). is_honest l.disk) is ∙ kept;
        }
    reopened false new with_it without rest count =
        let is = without refl in
        record {
          end = inl (ap (λ (l : LogFile D). (l.end, l.mark)) is);
          has = λ honest c b first f. (
            c,
            inl refl,
            subst (IsLogOf state c) (sym is) (record {
              contents = contents_front c b f.contents;
              rest = subst (λ n. IsAtRest (log_bytes c) n (state disk)) is_before (rest honest (log_bytes c) (body b) first (unsure c b first f));
              mark = ap (λ (e : ℕ × ℕ). e.1) f.before;
            }),
          );
          leaves = λ honest c b first f. subst (λ (l : LogFile D). LeavesOnly (IsLeft c b) first (state l.disk)) (sym is) (still honest c b first f);
          count = ap (λ (l : LogFile D). failures l.disk) is ∙ count;
          honest = ap (λ (l : LogFile D). is_honest l.disk) is ∙ kept;
        }
