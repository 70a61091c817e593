-- One plain file more is opened, and its front is in what was read of its worker; or it was not opened.
use Rattle.std.{specs.Prelude.slice_set, proofs.Common.{◌∙◌, sym, subst, arith, refl}}
use Rattle.mt_chains.specs.declared.worker_logs.WorkerLogs.{WorkerLogs}
use Rattle.mt_chain_files.specs.{Plain.{OpensPlainAs, OpensPlainAt, FailsAtPlain, StopsPlainFiles}}
use Rattle.mt_chain_files.proofs.Loops.{one_more, still_left, same_len, walked, stopped, next_was, set_there, set_other, same_set, same_all}
use Rattle.mt_chain_files.proofs.plain.open_plain_files.Goals as goal

pub returns-in-Err-clause-err : goal.returns-in-Err-clause-err
returns-in-Err-clause-err g c =
    let is_honest = g.D.Disk.is_honest in
    let state = g.D.Disk.state in
    let failures = g.D.Disk.failures in
    let old = c.args.files.now in
    let now = c.loop-place.files in
    let place = c.loop-place.place in
    let new = c.open_plain_file.new.files in
    let i = c.loop-place.invariant in
    let e = c.in-Err.refusal in
    subst (λ e. StopsPlainFiles is_honest state failures e old (slice_set now place new)) (sym c.at.ensures)
    (stopped (λ k was is. (logs : WorkerLogs) × OpensPlainAs is_honest state failures logs was is) (FailsAtPlain is_honest state failures e) place old now new c.loop-place-test.true i.len
    (λ k was is below there then. let o = i.before k was is below there then in (o.0, o.2)) i.left
    (λ was there. subst (λ x. FailsAtPlain is_honest state failures e x new) (next_was place old now c.index-files-place.result was i.left there) c.in-Err.ensures.err))

pub returns-in-Err-clause-numbered : goal.returns-in-Err-clause-numbered
returns-in-Err-clause-numbered g c =
    same_set c.loop-place.place c.args.logs.now c.loop-place.logs c.open_plain_file.new.logs c.index-logs-place.result c.loop-place.invariant.numbered c.open_plain_file.ensures.numbered

pub loop-place-preserved : goal.loop-place-preserved
loop-place-preserved g c =
    let is_honest = g.D.Disk.is_honest in
    let state = g.D.Disk.state in
    let failures = g.D.Disk.failures in
    let old = c.args.files.now in
    let now = c.loop-place.files in
    let place = c.loop-place.place in
    let new = c.open_plain_file.new.files in
    let logs = c.loop-place.logs in
    let one = c.open_plain_file.new.logs in
    let i = c.loop-place.invariant in
    let count = i.count in
    record {
      len = same_len place old now new i.len;
      count = same_len place c.args.logs.now logs one i.count;
      numbered = same_set place c.args.logs.now logs one c.index-logs-place.result i.numbered c.open_plain_file.ensures.numbered;
      before =
          one_more (OpensPlainAt is_honest state failures (slice_set logs place one)) place old now new
          (λ k was is below there then. let o = i.before k was is below there then in (o.0, set_other logs place k one (λ e. omega (arith, below, e)) ∙ o.1, o.2))
          (λ was there. (
            one,
            set_there logs place one (let within = c.loop-place-test.true in let same = c.requires in omega (arith, within, count, same)),
            subst (λ x. OpensPlainAs is_honest state failures one x new) (next_was place old now c.index-files-place.result was i.left there) c.in_default.ensures.ok,
          ));
      left = still_left place old now new i.left;
    }

pub returns-clause-ok : goal.returns-clause-ok
returns-clause-ok g c =
    let i = c.loop-place.invariant in
    walked (OpensPlainAt g.D.Disk.is_honest g.D.Disk.state g.D.Disk.failures c.loop-place.logs) c.loop-place.place c.args.files.now c.loop-place.files i.len i.before c.loop-place-test.false

pub loop-place-init : goal.loop-place-init
loop-place-init g c = record {
  len = refl;
  count = refl;
  numbered = same_all c.args.logs.now;
  before = λ k was is below there then. absurd (omega (arith, below));
  left = λ k le. refl;
}
