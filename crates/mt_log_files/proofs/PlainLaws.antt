-- A plain file that was refused is looked at: it is no log, or a bad one.
use Rattle.std.proofs.Common.{◌≡◌, inr, ℕ, Bool, IsTrue, Option, Some, None, refl, sym, ◌∙◌, subst}
use Rattle.mt_disk.specs.Disk.{DiskState, GoesUp}
use Rattle.mt_log.specs.{declared.batch.Front.Front, Contents.contents_of}
use Rattle.mt_log.proofs.FrontLaws.{only_synced}
use Rattle.mt_recover.specs.{declared.resuming.LogSlot.LogSlot, declared.resuming.LogSlot.TheVariants.{Open, Failed, Closed, Away}}
use Rattle.mt_log_files.specs.Slots.{IsNoPlainLog, FailsToOpen, OpensPlain, FailsToOpenPlain}
use Rattle.mt_rows.specs.declared.refusal.Refusal.TheVariants as refusals
use Rattle.mt_log_files.proofs.ShowLaws.{has_log}

module _ {D : Type 0} (is_honest : D → Bool) (state : D → DiskState) (failures : D → ℕ) where
  -- a file that has a log is no file without one
  pub opened_has : (old : D) (new : LogSlot D) (found : Option Front) → IsTrue (is_honest old) → IsNoPlainLog (state old).image
      → OpensPlain is_honest state failures (Some old) new found → found ≡ None
  opened_has old new None honest none o = refl
  opened_has old (Open log) (Some front) honest none o = absurd (has_log (contents_of front) (state old).image o.of_kind (o.read honest) none)
  opened_has old (Failed log) (Some front) honest none o = absurd o
  opened_has old (Closed disk) (Some front) honest none o = absurd o
  opened_has old Away (Some front) honest none o = absurd o

  -- it was refused, and looked at
  module _ (number offset : ℕ) (mid new : D) (same : IsTrue (is_honest mid) → state new ≡ state mid) (honest : is_honest new ≡ is_honest mid) where
    pub told_failed : (old : Option D) → FailsToOpen is_honest state failures (refusals.BadLog number offset) old (Closed mid) → GoesUp (failures mid) (failures new)
        → FailsToOpenPlain is_honest state failures refusals.Device old (Closed new)
    told_failed None refused count = absurd refused
    told_failed (Some old) refused count = (
      (
        λ h c b first is before. only_synced c b first (state old) (state new) before (inr (same (subst IsTrue (sym refused.honest) h) ∙ refused.moves h)),
        subst (λ (n : ℕ). GoesUp n (failures new)) refused.count count,
        honest ∙ refused.honest,
      ),
      λ n at d told. absurd cc,
    )
