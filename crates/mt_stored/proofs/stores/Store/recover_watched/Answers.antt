use Rattle.std.proofs.{Common.{◌≡◌, ℕ, length, refl, sym, ap, subst, arith, inr}, lemmas.Result.err_from_is_err_and}
use Rattle.mt_store_logs.specs.{Places.AreInOrder, Opens.AreClosedOn, Recovers.{ServesAgain, IsNotRecovered}}
use Rattle.mt_store_logs.proofs.{Closed.{closed_in_order, same_order}, Limits.{limits_of, resumes_within, stamps_of}}
use Rattle.mt_core.specs.Restores.{IsRestored}
use Rattle.mt_recover.proofs.Limits.{distinct}
use Rattle.mt_book.proofs.Keeping.{unasked_restored}
use Rattle.mt_stored.proofs.Slices.{whole, same_count}
use Rattle.mt_stored.proofs.stores.Store.recover_watched.Goals as goal

pub restore-requires-clause-steps : goal.restore-requires-clause-steps
restore-requires-clause-steps g c =
    resumes_within g.D.Disk.is_honest g.D.Disk.state g.D.Disk.failures c.args.tenants c.in_ok-recovered.field-0.recovered c.in_ok-recovered.field-0.generation c.deref_mut.result.now c.args.slots c.recover_store.new.logs c.recover_store.new.slots c.in_ok-recovered.ensures.ok

pub restore-requires-clause-limits : goal.restore-requires-clause-limits
restore-requires-clause-limits g c =
    limits_of g.D.Disk.is_honest g.D.Disk.state g.D.Disk.failures c.args.tenants c.in_ok-recovered.field-0.recovered c.in_ok-recovered.field-0.generation c.deref_mut.result.now c.args.slots c.recover_store.new.logs c.recover_store.new.slots c.in_ok-recovered.ensures.ok

pub restore-requires-clause-stamps : goal.restore-requires-clause-stamps
restore-requires-clause-stamps g c =
    stamps_of g.D.Disk.is_honest g.D.Disk.state g.D.Disk.failures c.args.tenants c.in_ok-recovered.field-0.recovered c.in_ok-recovered.field-0.generation c.deref_mut.result.now c.args.slots c.recover_store.new.logs c.recover_store.new.slots c.in_ok-recovered.ensures.ok

pub restore-requires-clause-distinct : goal.restore-requires-clause-distinct
restore-requires-clause-distinct g c = distinct c.in_ok-recovered.field-0.recovered.pairs.items c.in_ok-recovered.ensures.ok.recovers.ascend

pub restore-requires-clause-tenants : goal.restore-requires-clause-tenants
restore-requires-clause-tenants g c = c.in_ok-recovered.ensures.ok.recovers.tenants

pub restore-requires-clause-quotas : goal.restore-requires-clause-quotas
restore-requires-clause-quotas g c = c.in_ok-recovered.ensures.ok.recovers.quotas

pub returns-in-Ok-clause-ok : goal.returns-in-Ok-clause-ok
returns-in-Ok-clause-ok g c =
    let files = c.args.files in
    let logs = c.in_ok-logs.logs in
    let r = c.in_ok-recovered.field-0.recovered in
    let generation = c.in_ok-recovered.field-0.generation in
    let new = c.recover_store.new.logs in
    let kept = c.recover_store.new.slots in
    let serves = subst (λ was. ServesAgain g.D.Disk.is_honest g.D.Disk.state g.D.Disk.failures c.args.tenants r generation was c.args.slots new kept) c.deref_mut.ensures.value c.in_ok-recovered.ensures.ok in
    let len = c.in_ok-logs.ensures.ok.count in
    let count : logs.len ≡ length files.items = omega (arith, logs.ok.0, len) in
    let value = ap length c.deref_mut.ensures.value in
    let as_many = same_count c.deref_mut.result.now new c.recover_store.ensures.workers in
    let same : logs.len ≡ length new = omega (arith, logs.ok.0, value, as_many) in
    let counted : c.len-count.result ≡ length files.items = omega (arith, c.len-count.ensures, count, same) in
    record {
      recovered = r;
      generation = generation;
      kept = kept;
      slots_are = refl;
      closed = logs.items;
      closed_so = subst (λ (n : ℕ). AreClosedOn n files.items logs.items) (omega (arith, files.ok.0)) c.in_ok-logs.ensures.ok;
      serves =
          subst (λ logs_now. ServesAgain g.D.Disk.is_honest g.D.Disk.state g.D.Disk.failures c.args.tenants r generation logs.items c.args.slots logs_now kept) (sym (whole logs.len new _ same)) serves;
      restored = subst (λ n. IsRestored r.resume n c.args.tenants r.pairs.items c.in-Ok.state) counted c.in-Ok.ensures;
    }

pub returns-in-Ok-clause-unasked : goal.returns-in-Ok-clause-unasked
returns-in-Ok-clause-unasked g c = unasked_restored _ _ _ _ _ c.in-Ok.ensures

pub invariant_of-result-clause-order : goal.invariant_of-result-clause-order
invariant_of-result-clause-order g c =
    let files = c.args.files in
    let logs = c.in_ok-logs.logs in
    let new = c.recover_store.new.logs in
    let value = ap length c.deref_mut.ensures.value in
    let as_many = same_count c.deref_mut.result.now new c.recover_store.ensures.workers in
    let same : logs.len ≡ length new = omega (arith, logs.ok.0, value, as_many) in
    subst AreInOrder (sym (whole logs.len new _ same))
    (same_order c.deref_mut.result.now new c.recover_store.ensures.workers
    (subst AreInOrder (sym c.deref_mut.ensures.value) (closed_in_order files.len files.items logs.items c.in_ok-logs.ensures.ok)))

pub returns-in_err-recovered-clause-err : goal.returns-in_err-recovered-clause-err
returns-in_err-recovered-clause-err g c =
    let files = c.args.files in
    let logs = c.in_ok-logs.logs in
    let new = c.recover_store.new.logs in
    let kept = c.recover_store.new.slots in
    let e = c.in_err-recovered.field-0.0 in
    let p = err_from_is_err_and c.from_residual-in_err-recovered.result c.from_residual-in_err-recovered.ensures.1 in
    rw (p.1, p.2) (inr (record {
      closed = logs.items;
      closed_so = subst (λ (n : ℕ). AreClosedOn n files.items logs.items) (omega (arith, files.ok.0)) c.in_ok-logs.ensures.ok;
      left = new;
      slots = kept;
      stops = subst (λ was. IsNotRecovered g.D.Disk.is_honest g.D.Disk.state g.D.Disk.failures c.args.tenants e was c.args.slots new kept) c.deref_mut.ensures.value c.in_err-recovered.ensures.err;
    }))
