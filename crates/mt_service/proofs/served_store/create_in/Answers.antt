-- Why a store is not made anew on its slots, and the files that it is made on.
use Rattle.std.proofs.{Common.{◌≡◌, ◌∙◌, ◌⊎◌, ⊎_elim, inl, inr, Err, ℕ, true, length, ap, arith}, lemmas.Result.err_from_is_err_and}
use Rattle.mt_rows.specs.Accounts.{Accounts}
use Rattle.mt_store_files.specs.{declared.fault.StoreFault.StoreFault, Faults.{IsOfSlots, IsOfDigests}}
use Rattle.mt_service.{specs.ServedStore.IsOfPlace, proofs.TellingStores.digests_of_all}
use Rattle.mt_service.proofs.served_store.create_in.Goals as goal

of_slots : (workers : ℕ) (accounts : Accounts) (e : StoreFault) → (IsOfSlots e ⊎ IsOfDigests 0 e) → IsOfPlace true workers accounts e
of_slots workers accounts e p = ⊎_elim (λ (h : IsOfSlots e). inr (inr (inr (inl h)))) (λ (h : IsOfDigests 0 e). inr (inl (digests_of_all e h))) p

pub returns-in_err-slots-clause-err : goal.returns-in_err-slots-clause-err
returns-in_err-slots-clause-err g c =
    let p = err_from_is_err_and c.from_residual-in_err-slots.result c.from_residual-in_err-slots.ensures.1 in
    let is : c.from_residual-in_err-slots.result ≡ Err c.in_err-slots.field-0.0 = p.1 ∙ ap Err p.2 in
    rw is (of_slots c.args.workers c.args.tenants _ c.in_err-slots.ensures.fault)

pub returns-in-Ok-clause-ok : goal.returns-in-Ok-clause-ok
returns-in-Ok-clause-ok g c =
    (c.in_ok-files.files.items, c.in_ok-slots.slots, omega (arith, c.in_ok-files.ensures.all, c.in_ok-files.files.ok.0), c.in-Ok.ensures.ok)
