-- What an opening gives back at a fault, by the refusal and the disk.
use Rattle.std.proofs.Common.{◌≡◌, Bool, ℕ, sym, subst}
use Rattle.mt_rows.specs.declared.refusal.Refusal.{Refusal}
use Rattle.mt_disk.specs.Disk.{DiskState}
use Rattle.mt_log_generations.specs.declared.header.Parity.{Parity}
use Rattle.mt_log.specs.{declared.fault.OpenFault.OpenFault, Logs.GivesDiskBack, Numbered.{disk_in, GivesNumberedBack, StillLeavesText}}
use Rattle.mt_log_files.specs.Slots.{refusal_of, FailsOn, FailsOnNumbered}
use Rattle.mt_log.specs.declared.reader.FileKind.TheVariants as kinds
use Rattle.mt_log.specs.declared.fault.OpenFault.TheVariants as opens

module _ {D : Type 0} (is_honest : D → Bool) (state : D → DiskState) (failures : D → ℕ) (old : D) where
  plain_by : (fault : OpenFault D) → GivesDiskBack kinds.Plain is_honest state failures old fault → FailsOn is_honest state failures (refusal_of fault) old (disk_in fault)
  plain_by (opens.Device disk) back = back
  plain_by (opens.Memory disk) back = back
  plain_by (opens.BadLog disk number offset) back = back

  pub plain_refused : (fault : OpenFault D) (disk : D) (e : Refusal) → disk ≡ disk_in fault → e ≡ refusal_of fault → GivesDiskBack kinds.Plain is_honest state failures old fault
      → FailsOn is_honest state failures e old disk
  plain_refused fault disk e same told back =
      subst (λ (r : Refusal). FailsOn is_honest state failures r old disk) (sym told) (subst (λ (d : D). FailsOn is_honest state failures (refusal_of fault) old d) (sym same) (plain_by fault back))

  module _ (parity : Parity) where
    numbered_by : (fault : OpenFault D) → GivesNumberedBack parity is_honest state failures old fault → FailsOnNumbered is_honest state failures parity (refusal_of fault) old (disk_in fault)
    numbered_by (opens.Device disk) back = back
    numbered_by (opens.Memory disk) back = back
    numbered_by (opens.BadLog disk number offset) back = back

    pub numbered_refused : (fault : OpenFault D) (disk : D) (e : Refusal) → disk ≡ disk_in fault → e ≡ refusal_of fault → GivesNumberedBack parity is_honest state failures old fault
        → StillLeavesText is_honest state failures old (disk_in fault)
        → FailsOnNumbered is_honest state failures parity e old disk × StillLeavesText is_honest state failures old disk
    numbered_refused fault disk e same told back text = (
      subst (λ (r : Refusal). FailsOnNumbered is_honest state failures parity r old disk) (sym told)
          (subst (λ (d : D). FailsOnNumbered is_honest state failures parity (refusal_of fault) old d) (sym same) (numbered_by fault back)),
      subst (λ (d : D). StillLeavesText is_honest state failures old d) (sym same) text,
    )
