-- One worker more is opened, and what was read of it stands after the others; or it was not opened.
use Rattle.std.{specs.Prelude.{slice_set, slice_index_or}, proofs.Common.{◌+◌, ◌++◌, ◌∷◌, [], sym, subst, arith}}
use Rattle.mt_chains.specs.declared.worker_logs.WorkerLogs.{WorkerLogs}
use Rattle.mt_chain_files.specs.{Lists.EachBefore, Numbered.{OpensWorker, FailsToOpenWorker, OpensToldWorker, FailsToOpenToldWorker, OpensWorkerAs, StopsNumberedFiles}}
use Rattle.mt_chain_files.proofs.Loops.{one_more, still_left, same_len, walked, stopped, next_was, get_more, get_last, index_there}
use Rattle.mt_chain_files.specs.declared.headers.Told.{Told}
use Rattle.mt_chain_files.proofs.numbered.open_all.Goals as goal

-- what would be read past the end
abbrev no_headers : Told
no_headers = record { even = 0; odd = 0 }

pub returns-in-Err-clause-err : goal.returns-in-Err-clause-err
returns-in-Err-clause-err g c =
    let is_honest = g.D.Disk.is_honest in
    let state = g.D.Disk.state in
    let failures = g.D.Disk.failures in
    let from = c.args.from in
    let told = c.args.told.now in
    let old = c.args.files.now in
    let now = c.loop-place.files in
    let place = c.loop-place.place in
    let headers = slice_index_or told place no_headers in
    let new = c.open_both.new.files in
    let i = c.loop-place.invariant in
    let e = c.in-Err.refusal in
    subst (λ e. StopsNumberedFiles is_honest state failures from told e old (slice_set now place new)) (sym c.at.ensures)
    (stopped (λ k was is. (logs : WorkerLogs) × OpensToldWorker is_honest state failures from told k was is logs) (FailsToOpenToldWorker is_honest state failures from told place e) place old now new c.loop-place-test.true i.len
    (λ k was is below there then. let o = i.before k was is below there then in (o.0, o.2)) i.left
    (λ was there. (
      headers,
      index_there told place no_headers (let within = c.loop-place-test.true in let count = c.requires.told in omega (arith, within, count)),
      subst (λ x. FailsToOpenWorker is_honest state failures from headers e x new) (next_was place old now c.index-files-place.result was i.left there) c.in-Err.ensures.err,
    )))

pub loop-place-preserved : goal.loop-place-preserved
loop-place-preserved g c =
    let is_honest = g.D.Disk.is_honest in
    let state = g.D.Disk.state in
    let failures = g.D.Disk.failures in
    let from = c.args.from in
    let told = c.args.told.now in
    let old = c.args.files.now in
    let now = c.loop-place.files in
    let place = c.loop-place.place in
    let headers = slice_index_or told place no_headers in
    let new = c.open_both.new.files in
    let i = c.loop-place.invariant in
    let worker = c.in-Ok.worker in
    let before = c.loop-place.logs.items in
    let items = c.push_reserved.ensures.items in
    record {
      len = same_len place old now new i.len;
      room = let capacity = c.push_reserved.ensures.capacity in let room = i.room in omega (arith, capacity, room);
      count = let len = c.push_reserved.ensures.len in let count = i.count in omega (arith, len, count);
      before =
          subst (λ logs. EachBefore (OpensWorkerAs is_honest state failures from told logs) (place + 1) old (slice_set now place new)) (sym items)
          (one_more (OpensWorkerAs is_honest state failures from told (before ++ worker ∷ [])) place old now new
          (λ k was is below there then. let o = i.before k was is below there then in (o.0, get_more before (worker ∷ []) k o.0 o.1, o.2))
          (λ was there. (
            worker,
            get_last before place worker i.count,
            (
              headers,
              index_there told place no_headers (let within = c.loop-place-test.true in let count = c.requires.told in omega (arith, within, count)),
              subst (λ x. OpensWorker is_honest state failures from headers x new worker) (next_was place old now c.index-files-place.result was i.left there) c.in-Ok.ensures.ok,
            ),
          )));
      left = still_left place old now new i.left;
    }

pub returns-clause-ok : goal.returns-clause-ok
returns-clause-ok g c =
    let i = c.loop-place.invariant in
    let count = i.count in
    record {
      count = omega (arith, count);
      each = walked (OpensWorkerAs g.D.Disk.is_honest g.D.Disk.state g.D.Disk.failures c.args.from c.args.told.now c.loop-place.logs.items) c.loop-place.place c.args.files.now c.loop-place.files i.len i.before c.loop-place-test.false;
    }
