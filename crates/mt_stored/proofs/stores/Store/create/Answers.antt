use Rattle.std.proofs.{Common.{◌≡◌, ◌∙◌, ℕ, length, refl, sym, ap, subst, arith, inr}, lemmas.Result.err_from_is_err_and}
use Rattle.mt_store_logs.{specs.{Places.{AreInOrder}, Opens.{AreClosedOn, MakesAll}}, proofs.Closed.{closed_in_order, same_order}}
use Rattle.mt_state.specs.Begins.{new_state}
use Rattle.mt_book.{specs.Keeping.IsUnasked, proofs.Keeping.unasked_new}
use Rattle.mt_stored.proofs.{Making.not_made, Slices.whole}
use Rattle.mt_stored.proofs.stores.Store.create.Goals as goal

pub returns-in-Ok-clause-ok : goal.returns-in-Ok-clause-ok
returns-in-Ok-clause-ok g c =
    let files = c.args.files in
    let logs = c.in_ok-logs.logs in
    let new = c.create_logs.new.logs in
    let makes = subst (λ was. MakesAll g.D.Disk.is_honest g.D.Disk.state g.D.Disk.failures was new) c.deref_mut.ensures.value c.in_ok-create_logs.ensures.ok in
    let len = c.in_ok-logs.ensures.ok.count in
    let count : logs.len ≡ length files.items = omega (arith, logs.ok.0, len) in
    let same : logs.len ≡ length new = omega (arith, logs.ok.0, makes.len) in
    record {
      state_is = c.in-Ok.ensures ∙ ap (λ n. new_state n c.args.tenants) (omega (arith, c.len.ensures, count, same));
      closed = logs.items;
      closed_so = subst (λ (n : ℕ). AreClosedOn n files.items logs.items) (omega (arith, files.ok.0)) c.in_ok-logs.ensures.ok;
      made = c.create.new.self;
      slots_are = refl;
      slots_made = c.in_ok-create.ensures.ok;
      logs_are = subst (MakesAll g.D.Disk.is_honest g.D.Disk.state g.D.Disk.failures logs.items) (sym (whole logs.len new _ same)) makes;
    }

pub returns-in-Ok-clause-unasked : goal.returns-in-Ok-clause-unasked
returns-in-Ok-clause-unasked g c = subst IsUnasked (sym c.in-Ok.ensures) (unasked_new _ c.args.tenants)

pub invariant_of-result-clause-order : goal.invariant_of-result-clause-order
invariant_of-result-clause-order g c =
    let files = c.args.files in
    let logs = c.in_ok-logs.logs in
    let new = c.create_logs.new.logs in
    let makes = subst (λ was. MakesAll g.D.Disk.is_honest g.D.Disk.state g.D.Disk.failures was new) c.deref_mut.ensures.value c.in_ok-create_logs.ensures.ok in
    let same : logs.len ≡ length new = omega (arith, logs.ok.0, makes.len) in
    subst AreInOrder (sym (whole logs.len new _ same))
    (same_order c.deref_mut.result.now new c.create_logs.ensures.workers
    (subst AreInOrder (sym c.deref_mut.ensures.value) (closed_in_order files.len files.items logs.items c.in_ok-logs.ensures.ok)))

pub returns-in_err-create_logs-clause-err : goal.returns-in_err-create_logs-clause-err
returns-in_err-create_logs-clause-err g c =
    let logs = c.in_ok-logs.logs in
    let e = c.in_err-create_logs.field-0.0 in
    let p = err_from_is_err_and c.from_residual-in_err-create_logs.result c.from_residual-in_err-create_logs.ensures.1 in
    let at = not_made g.D.Disk.is_honest g.D.Disk.state g.D.Disk.failures e c.deref_mut.result.now c.create_logs.new.logs c.in_err-create_logs.ensures.err in
    let value = ap length c.deref_mut.ensures.value in
    rw (p.1, p.2) (inr (at.0, omega (arith, at.1, value, logs.ok.0, c.in_ok-logs.ensures.count), at.2))
