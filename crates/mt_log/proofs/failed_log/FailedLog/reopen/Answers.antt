-- The log is at rest at the end that its gate tells, or as unsure as before.
use Rattle.std.proofs.{Common.{refl, sym, ◌∙◌, subst}, lemmas.Bool.true≢false}
use Rattle.mt_log.specs.{declared.failed_log.FailedLog.FailedLog, Failures.{Reopened, StaysFailed}}
use Rattle.mt_log.proofs.Failures.{stays_failed, reopened}
use Rattle.mt_log.proofs.failed_log.FailedLog.reopen.Goals as goal

pub returns-in-Ok-true-clause-ok : goal.returns-in-Ok-true-clause-ok
returns-in-Ok-true-clause-ok g c =
    subst (λ (old : FailedLog g.row.D.Denot). Reopened g.D.Disk.is_honest g.D.Disk.state g.D.Disk.failures old c.at.result) c.self.view_is
    (reopened g.D.Disk.is_honest g.D.Disk.state g.D.Disk.failures _ c.set_right_at.new.disk _ _ refl refl
    c.set_right_at.ensures.leaves c.set_right_at.ensures.honest c.in-Ok-true.field-0 c.at.result (λ h. c.at.ensures) (λ e. absurd (true≢false (sym c.in-Ok-true.field-0-test ∙ e))) c.in-Ok-true.ensures.rest c.in-Ok-true.ensures.count)

pub returns-in-Ok-false-clause-ok : goal.returns-in-Ok-false-clause-ok
returns-in-Ok-false-clause-ok g c =
    subst (λ (old : FailedLog g.row.D.Denot). Reopened g.D.Disk.is_honest g.D.Disk.state g.D.Disk.failures old c.at-in-Ok-false.result) c.self.view_is
    (reopened g.D.Disk.is_honest g.D.Disk.state g.D.Disk.failures _ c.set_right_at.new.disk _ _ refl refl
    c.set_right_at.ensures.leaves c.set_right_at.ensures.honest c.in-Ok-false.field-0 c.at-in-Ok-false.result (λ h. absurd (true≢false (sym h ∙ c.in-Ok-false.field-0-test))) (λ e. c.at-in-Ok-false.ensures) c.in-Ok-false.ensures.rest c.in-Ok-false.ensures.count)

pub returns-in-Err-clause-err : goal.returns-in-Err-clause-err
returns-in-Err-clause-err g c =
    let before = c.self.inside.0.1.0 in
    let after = c.self.inside.0.1.1.0 in
    let log : FailedLog g.row.D.Denot = record { disk = c.set_right_at.new.disk; before = (before.place, before.mark); after = (after.place, after.mark) } in
    subst (λ (old : FailedLog g.row.D.Denot). StaysFailed g.D.Disk.is_honest g.D.Disk.state g.D.Disk.failures old log) c.self.view_is
    (stays_failed g.D.Disk.is_honest g.D.Disk.state g.D.Disk.failures _ c.set_right_at.new.disk _ _ refl refl
    c.set_right_at.ensures.leaves c.set_right_at.ensures.honest c.in-Err.ensures.count)
