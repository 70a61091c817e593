-- The logs whose files were opened are read a second time, end by the last step of them all, and get their resume batches.
use Rattle.std.{proofs.{Common.{inl, inr, true, subst, sym, ap, ◌∙◌, map}, lemmas.Result.err_from_is_err_and}, specs.List.AllByRecursion}
use Rattle.mt_slots.specs.Places.{with_newest}
use Rattle.mt_recover.specs.{Limits.IsReadSlot}
use Rattle.mt_store_logs.specs.{Leaves.{NoneBegun, LeavesOne}, Recovers.slots_of, Rereads.KeepRules, Taking.{files_of, StopsOpening}}
use Rattle.mt_store_logs.proofs.{ChainFormat.chains_in_format, ForResumes.{are_open_upto, resumes_fronts, cutoff_recovered, both_in_format}, SecondReadings.{many_fronts, many_begun}}
use Rattle.mt_store_logs.proofs.StoreEnds.{same_workers, opens_new, opens_found, recovers_new, recovers_found, none_workers, none_recovered}
use Rattle.mt_store_logs.proofs.recovering.recover_store.Goals as goal

-- ---- what a second reading is given

pub read_again-requires-clause-slots : goal.read_again-requires-clause-slots
read_again-requires-clause-slots g c =
    let told = c.in_ok-seen.ensures.ok in
    subst (AllByRecursion IsReadSlot) (sym told.1) (both_in_format g.D.Disk.is_honest g.D.Disk.state g.D.Disk.failures c.args.slots.now c.look.new.self told.0 told.2)

pub read_again-requires-clause-fronts : goal.read_again-requires-clause-fronts
read_again-requires-clause-fronts g c =
    many_fronts g.D.Disk.is_honest g.D.Disk.state g.D.Disk.failures (slots_of c.in_ok-seen.seen) c.args.logs.now c.open_logs.new.logs c.in_ok-chains.chains c.in_ok-chains.ensures.ok

pub read_again-requires-clause-begun : goal.read_again-requires-clause-begun
read_again-requires-clause-begun g c =
    many_begun g.D.Disk.is_honest g.D.Disk.state g.D.Disk.failures (slots_of c.in_ok-seen.seen) c.args.logs.now c.open_logs.new.logs c.in_ok-chains.chains c.in_ok-chains.ensures.ok

pub read_again-requires-clause-format : goal.read_again-requires-clause-format
read_again-requires-clause-format g c =
    let opens = c.in_ok-chains.ensures.ok in
    chains_in_format g.D.Disk.is_honest g.D.Disk.state g.D.Disk.failures (slots_of c.in_ok-seen.seen) (map files_of c.args.logs.now) opens.files c.in_ok-chains.chains opens.opens

-- ---- the last batches

pub resume_logs-requires-clause-open : goal.resume_logs-requires-clause-open
resume_logs-requires-clause-open g c =
    let is_honest = g.D.Disk.is_honest in
    let state = g.D.Disk.state in
    let failures = g.D.Disk.failures in
    let told = c.in_ok-seen.ensures.ok in
    let seen = c.in_ok-seen.seen in
    let old = c.args.logs.now in
    let new = c.read_again.new.logs in
    let chains = c.in_ok-chains.chains in
    let r = c.in_ok-recovered.recovered in
    let again = c.in_ok-recovered.ensures.ok in
    are_open_upto is_honest state failures (slots_of seen) old new chains r.resume
    (opens_new is_honest state failures c.args.tenants.now seen told.0 told.1 old c.open_logs.new.logs new c.args.slots.now c.look.new.self c.read_again.new.slots told.2 chains
    c.in_ok-chains.ensures.ok again.read again.plain)
    (resumes_fronts (KeepRules is_honest state failures new c.args.slots.now) c.args.tenants.now (slots_of seen) chains.fronts.items r
    (recovers_new is_honest state failures c.args.tenants.now seen told.0 told.1 old c.open_logs.new.logs new c.args.slots.now c.look.new.self c.read_again.new.slots told.2 chains
    c.in_ok-chains.ensures.ok r again))

pub resume_logs-requires-clause-kept : goal.resume_logs-requires-clause-kept
resume_logs-requires-clause-kept g c =
    let is_honest = g.D.Disk.is_honest in
    let state = g.D.Disk.state in
    let failures = g.D.Disk.failures in
    let told = c.in_ok-seen.ensures.ok in
    let seen = c.in_ok-seen.seen in
    let chains = c.in_ok-chains.chains in
    let r = c.in_ok-recovered.recovered in
    cutoff_recovered (KeepRules is_honest state failures c.read_again.new.logs c.args.slots.now) c.args.tenants.now (slots_of seen) chains.fronts.items r
    (recovers_new is_honest state failures c.args.tenants.now seen told.0 told.1 c.args.logs.now c.open_logs.new.logs c.read_again.new.logs c.args.slots.now c.look.new.self
    c.read_again.new.slots told.2 chains c.in_ok-chains.ensures.ok r c.in_ok-recovered.ensures.ok)

-- ---- whose the logs are

pub returns-in_err-recovered-clause-workers : goal.returns-in_err-recovered-clause-workers
returns-in_err-recovered-clause-workers g c =
    let told = c.in_ok-seen.ensures.ok in
    none_workers g.D.Disk.is_honest g.D.Disk.state g.D.Disk.failures c.args.tenants.now c.in_ok-seen.seen told.0 told.1 c.args.logs.now c.open_logs.new.logs c.read_again.new.logs
    c.args.slots.now c.look.new.self c.read_again.new.slots told.2 c.in_ok-chains.chains c.in_ok-chains.ensures.ok c.in_err-recovered.field-0.0 c.in_err-recovered.ensures.err
    ∙ c.open_logs.ensures.workers

pub returns-in_err-resume_logs-clause-workers : goal.returns-in_err-resume_logs-clause-workers
returns-in_err-resume_logs-clause-workers g c =
    c.resume_logs.ensures.workers
    ∙ same_workers g.D.Disk.is_honest g.D.Disk.state g.D.Disk.failures true c.open_logs.new.logs c.read_again.new.logs c.in_ok-recovered.ensures.ok.read
    ∙ c.open_logs.ensures.workers

pub returns-in_err-leave_one-clause-workers : goal.returns-in_err-leave_one-clause-workers
returns-in_err-leave_one-clause-workers g c =
    c.leave_one.ensures.workers ∙ c.resume_logs.ensures.workers
    ∙ same_workers g.D.Disk.is_honest g.D.Disk.state g.D.Disk.failures true c.open_logs.new.logs c.read_again.new.logs c.in_ok-recovered.ensures.ok.read
    ∙ c.open_logs.ensures.workers

pub returns-clause-workers : goal.returns-clause-workers
returns-clause-workers g c =
    c.leave_one.ensures.workers ∙ c.resume_logs.ensures.workers
    ∙ same_workers g.D.Disk.is_honest g.D.Disk.state g.D.Disk.failures true c.open_logs.new.logs c.read_again.new.logs c.in_ok-recovered.ensures.ok.read
    ∙ c.open_logs.ensures.workers

-- ---- errors

pub returns-in_err-chains-clause-err : goal.returns-in_err-chains-clause-err
returns-in_err-chains-clause-err g c =
    let p = err_from_is_err_and c.from_residual-in_err-chains.result c.from_residual-in_err-chains.ensures.1 in
    let told = c.in_ok-seen.ensures.ok in
    rw (p.1, p.2)
    (inl (record {
      found = told.0;
      reads = told.2;
      why = inl
          (subst (λ read. StopsOpening g.D.Disk.is_honest g.D.Disk.state g.D.Disk.failures (slots_of read) c.in_err-chains.field-0.0 c.args.logs.now c.open_logs.new.logs) told.1
          c.in_err-chains.ensures.err);
    }))

pub returns-in_err-recovered-clause-err : goal.returns-in_err-recovered-clause-err
returns-in_err-recovered-clause-err g c =
    let p = err_from_is_err_and c.from_residual-in_err-recovered.result c.from_residual-in_err-recovered.ensures.1 in
    let told = c.in_ok-seen.ensures.ok in
    rw (p.1, p.2)
    (none_recovered g.D.Disk.is_honest g.D.Disk.state g.D.Disk.failures c.args.tenants.now c.in_ok-seen.seen told.0 told.1 c.args.logs.now c.open_logs.new.logs c.read_again.new.logs
    c.args.slots.now c.look.new.self c.read_again.new.slots told.2 c.in_ok-chains.chains c.in_ok-chains.ensures.ok c.in_err-recovered.field-0.0 c.in_err-recovered.ensures.err)

pub returns-in_err-resume_logs-clause-err : goal.returns-in_err-resume_logs-clause-err
returns-in_err-resume_logs-clause-err g c =
    let p = err_from_is_err_and c.from_residual-in_err-resume_logs.result c.from_residual-in_err-resume_logs.ensures.1 in
    let is_honest = g.D.Disk.is_honest in
    let state = g.D.Disk.state in
    let failures = g.D.Disk.failures in
    let told = c.in_ok-seen.ensures.ok in
    let again = c.in_ok-recovered.ensures.ok in
    let r = c.in_ok-recovered.recovered in
    rw (p.1, p.2)
    (inl (record {
      found = told.0;
      reads = again.both c.args.slots.now told.0 told.2;
      why = inr (inr (inl (record {
        mid = c.read_again.new.logs;
        chains = c.in_ok-chains.chains;
        opens =
            opens_found is_honest state failures c.args.tenants.now c.in_ok-seen.seen told.0 told.1 c.args.logs.now c.open_logs.new.logs c.read_again.new.logs c.args.slots.now
            c.look.new.self c.read_again.new.slots told.2 c.in_ok-chains.chains c.in_ok-chains.ensures.ok again.read again.plain;
        r = r;
        recovers =
            recovers_found is_honest state failures c.args.tenants.now c.in_ok-seen.seen told.0 told.1 c.args.logs.now c.open_logs.new.logs c.read_again.new.logs c.args.slots.now
            c.look.new.self c.read_again.new.slots told.2 c.in_ok-chains.chains c.in_ok-chains.ensures.ok r again;
        stops = c.in_err-resume_logs.ensures.err;
      })));
    }))

pub returns-in_err-leave_one-clause-err : goal.returns-in_err-leave_one-clause-err
returns-in_err-leave_one-clause-err g c =
    let p = err_from_is_err_and c.from_residual-in_err-leave_one.result c.from_residual-in_err-leave_one.ensures.1 in
    let is_honest = g.D.Disk.is_honest in
    let state = g.D.Disk.state in
    let failures = g.D.Disk.failures in
    let told = c.in_ok-seen.ensures.ok in
    let again = c.in_ok-recovered.ensures.ok in
    let r = c.in_ok-recovered.recovered in
    rw (p.1, p.2)
    (inl (record {
      found = told.0;
      reads = again.both c.args.slots.now told.0 told.2;
      why = inr (inr (inr (record {
        mid = c.read_again.new.logs;
        chains = c.in_ok-chains.chains;
        opens =
            opens_found is_honest state failures c.args.tenants.now c.in_ok-seen.seen told.0 told.1 c.args.logs.now c.open_logs.new.logs c.read_again.new.logs c.args.slots.now
            c.look.new.self c.read_again.new.slots told.2 c.in_ok-chains.chains c.in_ok-chains.ensures.ok again.read again.plain;
        r = r;
        recovers =
            recovers_found is_honest state failures c.args.tenants.now c.in_ok-seen.seen told.0 told.1 c.args.logs.now c.open_logs.new.logs c.read_again.new.logs c.args.slots.now
            c.look.new.self c.read_again.new.slots told.2 c.in_ok-chains.chains c.in_ok-chains.ensures.ok r again;
        resumed = c.resume_logs.new.logs;
        resumes = c.in_ok-resume_logs.ensures.ok;
        none = subst NoneBegun (c.deref.ensures.value ∙ ap (λ v. v.items) c.in_ok-recovered.ensures.begun) c.in_err-leave_one.ensures.none;
        stops = c.in_err-leave_one.ensures.err;
      })));
    }))

pub returns-clause-ok : goal.returns-clause-ok
returns-clause-ok g c =
    let is_honest = g.D.Disk.is_honest in
    let state = g.D.Disk.state in
    let failures = g.D.Disk.failures in
    let told = c.in_ok-seen.ensures.ok in
    let again = c.in_ok-recovered.ensures.ok in
    let r = c.in_ok-recovered.recovered in
    record {
      rested = c.read_again.new.slots;
      found = told.0;
      reads = again.both c.args.slots.now told.0 told.2;
      mid = c.read_again.new.logs;
      chains = c.in_ok-chains.chains;
      opens =
          opens_found is_honest state failures c.args.tenants.now c.in_ok-seen.seen told.0 told.1 c.args.logs.now c.open_logs.new.logs c.read_again.new.logs c.args.slots.now
          c.look.new.self c.read_again.new.slots told.2 c.in_ok-chains.chains c.in_ok-chains.ensures.ok again.read again.plain;
      from = c.in_ok-recovered.ensures.generation;
      recovers =
          recovers_found is_honest state failures c.args.tenants.now c.in_ok-seen.seen told.0 told.1 c.args.logs.now c.open_logs.new.logs c.read_again.new.logs c.args.slots.now
          c.look.new.self c.read_again.new.slots told.2 c.in_ok-chains.chains c.in_ok-chains.ensures.ok r again;
      resumed = c.resume_logs.new.logs;
      resumes = c.in_ok-resume_logs.ensures.ok;
      leaves = subst (λ begun. LeavesOne is_honest state failures begun c.resume_logs.new.logs c.leave_one.new.logs)
          (c.deref.ensures.value ∙ ap (λ v. v.items) c.in_ok-recovered.ensures.begun) c.in_ok-leave_one.ensures.ok;
      keeps = c.keep.ensures ∙ ap (λ used. with_newest used c.read_again.new.slots) c.used_slot.ensures;
    }
