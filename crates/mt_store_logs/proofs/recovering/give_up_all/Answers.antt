-- The older log of one worker more is given up, or may be there or not.
use Rattle.std.{proofs.Common.{◌∙◌, sym, subst}, specs.Prelude.{slice_set}}
use Rattle.mt_store_logs.specs.{Leaves.StopsGivingUp, Turns.{GivesUpOlderLog, FailsToGiveUpOlderLog}}
use Rattle.mt_store_logs.proofs.Loops.{same_workers, one_more, still_left, same_len, walked, stopped, next_was}
use Rattle.mt_store_logs.proofs.recovering.give_up_all.Goals as goal

pub returns-in-Err-clause-err : goal.returns-in-Err-clause-err
returns-in-Err-clause-err g c =
    let is_honest = g.D.Disk.is_honest in
    let state = g.D.Disk.state in
    let failures = g.D.Disk.failures in
    let old = c.args.logs.now in
    let now = c.loop-place.logs in
    let place = c.loop-place.place in
    let new = c.give_up_older.new.self in
    let e = c.in-Err.refusal in
    let i = c.loop-place.invariant in
    subst (λ e. StopsGivingUp is_honest state failures e old (slice_set now place new)) (sym c.at.ensures)
    (stopped (λ k was is. GivesUpOlderLog is_honest state failures was is) (FailsToGiveUpOlderLog is_honest state failures e) place old now new c.loop-place-test.true i.len i.before i.left
    (λ was there.
    subst (λ x. FailsToGiveUpOlderLog is_honest state failures e x new) (next_was place old now c.index-logs-place.result was i.left there) c.in-Err.ensures.err))

pub loop-place-preserved : goal.loop-place-preserved
loop-place-preserved g c =
    let is_honest = g.D.Disk.is_honest in
    let state = g.D.Disk.state in
    let failures = g.D.Disk.failures in
    let old = c.args.logs.now in
    let now = c.loop-place.logs in
    let place = c.loop-place.place in
    let new = c.give_up_older.new.self in
    let i = c.loop-place.invariant in
    record {
      workers = same_workers place now new c.index-logs-place.result c.give_up_older.ensures.worker ∙ i.workers;
      len = same_len place old now new i.len;
      before =
          one_more (λ k was is. GivesUpOlderLog is_honest state failures was is) place old now new i.before (λ was there.
          subst (λ x. GivesUpOlderLog is_honest state failures x new) (next_was place old now c.index-logs-place.result was i.left there) c.in_default.ensures.ok);
      left = still_left place old now new i.left;
    }

pub returns-clause-ok : goal.returns-clause-ok
returns-clause-ok g c =
    let i = c.loop-place.invariant in
    walked (λ k was is. GivesUpOlderLog g.D.Disk.is_honest g.D.Disk.state g.D.Disk.failures was is) c.loop-place.place c.args.logs.now c.loop-place.logs i.len i.before c.loop-place-test.false

pub returns-in-Err-clause-workers : goal.returns-in-Err-clause-workers
returns-in-Err-clause-workers g c =
    let now = c.loop-place.logs in
    let place = c.loop-place.place in
    same_workers place now c.give_up_older.new.self c.index-logs-place.result c.give_up_older.ensures.worker ∙ c.loop-place.invariant.workers
