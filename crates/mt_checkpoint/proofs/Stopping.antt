-- A writer's call that is stopped gives the checkpoint up.
use Rattle.std.proofs.Common.{◌≡◌, inl, inr, ℕ, Bool, true, false, IsTrue, List, [], ◌∷◌, Some, None, Result, OnOk, refl, sym, ◌∙◌, subst}
use Rattle.mt_rows.specs.declared.record.TenantPair.{TenantPair}
use Rattle.mt_disk.{specs.{Disk.{DiskState, LeavesOnly, GoesUp, CountsFailure}, declared.disk.DeviceFailed.DeviceFailed}, proofs.CrashLaws.{at_ok, joined, widened}}
use Rattle.mt_digests.specs.declared.file_digest.FileDigest.{FileDigest}
use Rattle.mt_checkpoint.specs.{declared.slot.Writer.Writer, declared.fault.WriteFault.WriteFault, declared.fault.FaultCause.FaultCause}
use Rattle.mt_checkpoint.specs.declared.fault.FaultCause.TheVariants.{Device, Memory, NotAWalk, NotReadBack}
use Rattle.mt_checkpoint.specs.{Faults.{CountsCause, told_as, IsRefused}, Checkpoints.{IsWalk, walk_bytes, IsClosed, IsOneOf, IsBehindGate, IsShutIn, IsStaged}, Slots.HasDurably}
use Rattle.mt_checkpoint.specs.{Writes.{LeavesClosed, LeavesNoneOrThis, walk_with, GivesUp, Stops, FailsToAdd, RefusesPairs, Ended, FailsToEnd, RefusesEnd}, Staging.{CutsBehind, ClearsAfter, StopsOn, StagesWalk}}
use Rattle.mt_checkpoint.proofs.{Behind.shut_of}

-- ---- a cause, as its disk tells it

pub counts_told : (refused : Bool) (cause : FaultCause) (a b : ℕ) → CountsCause cause a b → CountsCause (told_as refused cause) a b
counts_told true Device a b up = inr up
counts_told false Device a b up = up
counts_told refused Memory a b up = up
counts_told refused NotAWalk a b up = up
counts_told refused NotReadBack a b up = up

pub not_refused : (refused : Bool) → IsRefused (told_as refused Device) → ⊥
not_refused true is = is
not_refused false is = is

module _ {D : Type 0} (is_honest : D → Bool) (state : D → DiskState) (failures : D → ℕ) where
  pub pairs_told : (refused : Bool) (cause told : FaultCause) (old : Writer D) (pairs : List TenantPair) → told ≡ told_as refused cause → RefusesPairs is_honest state failures old pairs cause
      → RefusesPairs is_honest state failures old pairs told
  pairs_told refused cause told old pairs same is = subst (RefusesPairs is_honest state failures old pairs) (sym same) (by refused cause is)
    where
      by : (refused : Bool) (cause : FaultCause) → RefusesPairs is_honest state failures old pairs cause → RefusesPairs is_honest state failures old pairs (told_as refused cause)
      by true Device is = tt
      by false Device is = tt
      by refused Memory is = is
      by refused NotAWalk is = is
      by refused NotReadBack is = is

  pub end_told : (refused : Bool) (cause told : FaultCause) (old : Writer D) (last : ℕ) → told ≡ told_as refused cause → RefusesEnd is_honest state failures old last cause
      → RefusesEnd is_honest state failures old last told
  end_told refused cause told old last same is = subst (RefusesEnd is_honest state failures old last) (sym same) (by refused cause is)
    where
      by : (refused : Bool) (cause : FaultCause) → RefusesEnd is_honest state failures old last cause → RefusesEnd is_honest state failures old last (told_as refused cause)
      by true Device is = tt
      by false Device is = tt
      by refused Memory is = is
      by refused NotAWalk is = is
      by refused NotReadBack is = is

  -- what leaves a closed gate leaves none
  none_or : (old : Writer D) (last : ℕ) (new : D) → LeavesClosed is_honest state failures old new → LeavesNoneOrThis is_honest state failures old last new
  none_or old last new leaves = λ honest pairs is walk.
      widened IsClosed (IsOneOf (None ∷ Some (walk_with is_honest state failures old last pairs) ∷ [])) (state old.disk) (state new) (λ image closed. inl (inl refl, closed)) (leaves honest pairs is)

  module _ (old mid : Writer D) (cause : FaultCause) (e : WriteFault D) (stopped : StopsOn is_honest state failures old mid cause) (refused : Bool) (same : e.cause ≡ told_as refused cause)
      (cut : Result (Unit {0}) DeviceFailed) (cuts : CutsBehind is_honest state failures mid.disk cut e.disk) where
    still : IsTrue (is_honest old.disk) → IsTrue (is_honest mid.disk)
    still honest = subst IsTrue (sym stopped.honest) honest

    closed : LeavesClosed is_honest state failures old e.disk
    closed = λ honest pairs is.
        joined IsClosed (state old.disk) (state mid.disk) (state e.disk) (stopped.leaves honest pairs is) (cuts.leaves (still honest) (stopped.shut honest pairs is))

    stops : Stops is_honest state failures old e
    stops = record {
      failed = failures mid.disk;
      cut = cut;
      cause = subst (λ (c : FaultCause). CountsCause c (failures old.disk) (failures mid.disk)) (sym same) (counts_told refused cause (failures old.disk) (failures mid.disk) stopped.count);
      gives_up = record {
        image = λ honest pairs is. at_ok cut (λ (b : IsBehindGate [] (state e.disk)). b.image) (cuts.behind (still honest) (stopped.shut honest pairs is));
        count = cuts.count;
        honest = cuts.honest ∙ stopped.honest;
      };
    }

    pub not_added : FailsToAdd is_honest state failures old e
    not_added = record { stops = stops; leaves = closed }

    pub not_staged : (last : ℕ) → FailsToEnd is_honest state failures old last e
    not_staged last = record { stops = stops; leaves = none_or old last e.disk closed; closed = λ other. closed }

  -- ---- giving up

  pub gives_up : (old : Writer D) (cut : Result (Unit {0}) DeviceFailed) (new : D) → CutsBehind is_honest state failures old.disk cut new
      → GivesUp is_honest state failures old (failures old.disk) cut new × LeavesClosed is_honest state failures old new
  gives_up old cut new cuts = (
    record {
      image = λ honest pairs is. at_ok cut (λ (b : IsBehindGate [] (state new)). b.image) (cuts.behind honest (shut_of _ (state old.disk) is.text));
      count = cuts.count;
      honest = cuts.honest;
    },
    λ honest pairs is. cuts.leaves honest (shut_of _ (state old.disk) is.text),
  )

  -- ---- the gate is opened

  module _ (old mid : Writer D) (last : ℕ) (digest : FileDigest) (staged : StagesWalk is_honest state failures old last mid digest) (new : D) where
    honest_so : IsTrue (is_honest old.disk) → IsTrue (is_honest mid.disk)
    honest_so honest = subst IsTrue (sym staged.honest) honest

    module _ (leaves : IsTrue (is_honest mid.disk) → (w : Rattle.mt_checkpoint.specs.Checkpoints.Walk) → IsWalk w → IsStaged (walk_bytes 2 w) (state mid.disk)
        → LeavesOnly (IsOneOf (None ∷ Some w ∷ [])) (state mid.disk) (state new)) (honest_new : is_honest new ≡ is_honest mid.disk) where
      whole : LeavesNoneOrThis is_honest state failures old last new
      whole = λ honest pairs is walk.
          let w = walk_with is_honest state failures old last pairs in
          joined (IsOneOf (None ∷ Some w ∷ [])) (state old.disk) (state mid.disk) (state new) (none_or old last mid.disk staged.leaves honest pairs is walk)
          (leaves (honest_so honest) w walk (staged.staged honest pairs is))

      pub ended : (IsTrue (is_honest mid.disk) → (w : Rattle.mt_checkpoint.specs.Checkpoints.Walk) → IsWalk w → IsStaged (walk_bytes 2 w) (state mid.disk) → HasDurably w (state new))
          → (IsTrue (is_honest mid.disk) → (text : Rattle.mt_rows.specs.Rows.Bytes) → IsStaged text (state mid.disk) → (state new).image ≡ 1 ∷ text)
          → failures new ≡ failures mid.disk → Ended is_honest state failures old last new
      ended has image count = record {
        walk = staged.walk;
        has = λ honest pairs is walk. has (honest_so honest) (walk_with is_honest state failures old last pairs) walk (staged.staged honest pairs is);
        image = λ honest pairs is. image (honest_so honest) (walk_bytes 2 (walk_with is_honest state failures old last pairs)) (staged.staged honest pairs is);
        leaves = whole;
        count = count ∙ staged.count;
        honest = honest_new ∙ staged.honest;
      }

      pub not_opened : (refused : Bool) (cause : FaultCause) → cause ≡ told_as refused Device → ClearsAfter is_honest state failures mid.disk new
          → FailsToEnd is_honest state failures old last (record { cause = cause; disk = new })
      not_opened refused cause same cleared = record {
        stops = record {
          failed = cleared.failed;
          cut = cleared.cut;
          cause = subst (λ (c : FaultCause). CountsCause c (failures old.disk) cleared.failed) (sym same)
              (counts_told refused Device (failures old.disk) cleared.failed (subst (λ n. GoesUp n cleared.failed) staged.count cleared.up));
          gives_up = record {
            image = λ honest pairs is. cleared.image (honest_so honest);
            count = cleared.count;
            honest = honest_new ∙ staged.honest;
          };
        };
        leaves = whole;
        closed = λ is. absurd (not_refused refused (subst IsRefused same is));
      }

  -- what could not be opened is cleared
  pub clears : (cut : Result (Unit {0}) DeviceFailed) (old mid new : D) → GoesUp (failures old) (failures mid) → is_honest mid ≡ is_honest old
      → CountsFailure cut (failures mid) (failures new) → (IsTrue (is_honest mid) → OnOk cut (IsBehindGate [] (state new))) → ClearsAfter is_honest state failures old new
  clears cut old mid new up same count behind = record {
    failed = failures mid;
    cut = cut;
    up = up;
    count = count;
    image = λ honest. at_ok cut (λ (b : IsBehindGate [] (state new)). b.image) (behind (subst IsTrue (sym same) honest));
  }
