-- Why a store is refused, also as it is told of what was missing.
use Rattle.std.proofs.Common.{inr, ⊎_elim, ℕ, List, Bool, sym, subst}
use Rattle.mt_rows.specs.Accounts.{Accounts}
use Rattle.mt_disk.specs.Disk.{DiskState}
use Rattle.mt_store_files.specs.{declared.names.StoreFile.StoreFile, declared.fault.StoreFault.StoreFault, Changes.IsToldWith}
use Rattle.mt_store_files.specs.declared.fault.StoreFault.TheVariants.{InUse, NoFolder, NoLog, System, Memory, LogCount, Strange, Missing, Refused, RefusedLog, Device, Spoiled}
use Rattle.mt_service.specs.ReadStores.{IsOfReading, IsOfRecovery}
use Rattle.mt_service.proofs.served_store.recover_in.Goals as goal

module _ {D : Type 0} (is_honest : D → Bool) (state : D → DiskState) (failures : D → ℕ) where
  told_of_place : (missing : List StoreFile) (workers : ℕ) (accounts : Accounts) (fault told : StoreFault) → IsToldWith missing fault told → IsOfReading is_honest state failures workers accounts fault → IsOfReading is_honest state failures workers accounts told
  told_of_place missing workers accounts InUse told is p = subst (IsOfReading is_honest state failures workers accounts) (sym is) p
  told_of_place missing workers accounts NoFolder told is p = subst (IsOfReading is_honest state failures workers accounts) (sym is) p
  told_of_place missing workers accounts (NoLog x y) told is p = subst (IsOfReading is_honest state failures workers accounts) (sym is) p
  told_of_place missing workers accounts (System x y) told is p = subst (IsOfReading is_honest state failures workers accounts) (sym is) p
  told_of_place missing workers accounts (Strange x y) told is p = subst (IsOfReading is_honest state failures workers accounts) (sym is) p
  told_of_place missing workers accounts Memory told is p = subst (IsOfReading is_honest state failures workers accounts) (sym is) p
  told_of_place missing workers accounts (Missing x) told is p = subst (IsOfReading is_honest state failures workers accounts) (sym is) p
  told_of_place missing workers accounts (Refused x y) told is p = subst (IsOfReading is_honest state failures workers accounts) (sym is) p
  told_of_place missing workers accounts (Device x y) told is p = subst (IsOfReading is_honest state failures workers accounts) (sym is) p
  told_of_place missing workers accounts (Spoiled x) told is p = subst (IsOfReading is_honest state failures workers accounts) (sym is) p
  told_of_place missing workers accounts (RefusedLog x y) told is p = subst (IsOfReading is_honest state failures workers accounts) (sym is) p
  told_of_place missing workers accounts (LogCount counts) InUse is p = subst (IsOfReading is_honest state failures workers accounts) (sym is) p
  told_of_place missing workers accounts (LogCount counts) NoFolder is p = subst (IsOfReading is_honest state failures workers accounts) (sym is) p
  told_of_place missing workers accounts (LogCount counts) (NoLog x y) is p = subst (IsOfReading is_honest state failures workers accounts) (sym is) p
  told_of_place missing workers accounts (LogCount counts) (System x y) is p = subst (IsOfReading is_honest state failures workers accounts) (sym is) p
  told_of_place missing workers accounts (LogCount counts) (Strange x y) is p = subst (IsOfReading is_honest state failures workers accounts) (sym is) p
  told_of_place missing workers accounts (LogCount counts) Memory is p = subst (IsOfReading is_honest state failures workers accounts) (sym is) p
  told_of_place missing workers accounts (LogCount counts) (LogCount x) is p = subst (IsOfReading is_honest state failures workers accounts) (sym is) p
  told_of_place missing workers accounts (LogCount counts) (Refused x y) is p = subst (IsOfReading is_honest state failures workers accounts) (sym is) p
  told_of_place missing workers accounts (LogCount counts) (Device x y) is p = subst (IsOfReading is_honest state failures workers accounts) (sym is) p
  told_of_place missing workers accounts (LogCount counts) (Spoiled x) is p = subst (IsOfReading is_honest state failures workers accounts) (sym is) p
  told_of_place missing workers accounts (LogCount counts) (RefusedLog x y) is p = subst (IsOfReading is_honest state failures workers accounts) (sym is) p
  told_of_place missing workers accounts (LogCount counts) (Missing files) is p =
      ⊎_elim (λ (h : ⊥). absurd h) (λ of_check. ⊎_elim (λ (h : ⊥). absurd h) (λ of_files. ⊎_elim (λ (h : ⊥). absurd h) (λ of_slots. ⊎_elim (λ (h : ⊥). absurd h) (λ (r : IsOfRecovery is_honest state failures workers accounts (LogCount counts)). inr (inr (inr (inr (r.0, r.1, record { before = r.2.before; after = r.2.after; tells = r.2.tells.0 }))))) of_slots) of_files) of_check) p

pub returns-in-Err-clause-err : goal.returns-in-Err-clause-err
returns-in-Err-clause-err g c =
    told_of_place g.S.File.Disk.is_honest g.S.File.Disk.state g.S.File.Disk.failures c.read_store.new.folder.made.items c.args.workers c.args.tenants c.in-Err.fault c.refused.result c.refused.ensures.told c.in-Err.ensures.err
