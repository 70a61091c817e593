use Rattle.std.proofs.{Common.{Some, refl, sym, subst, length}, lemmas.Result.IfOk-weaker}
use Rattle.mt_lives.{specs.{declared.events.StoreNote.TheVariants.{Told, Tidied}, Steps.IsServedBy, Forced.{IsForced, IsDoneTo}}, proofs.{Goes.Goes, Tidying.tidied}}
use Rattle.mt_lives.proofs.running.serve.Goals as goal

pub returns-in_ok-core-in-Core-clause-goes : goal.returns-in_ok-core-in-Core-clause-goes
returns-in_ok-core-in-Core-clause-goes c = λ accounts slots standing h.
    let logs = c.args.logs.now in
    let served = subst (IsServedBy (length logs)) c.in-Core.is c.requires.worker in
    subst (λ e. Goes accounts slots standing logs c.args.serving.now h e (Told c.in_ok-core-in-Core.field-0) logs c.core.new.serving) (sym c.in-Core.is)
    (c.in_ok-core-in-Core.ensures.goes accounts slots logs served standing h)

pub returns-in-Move-clause-goes : goal.returns-in-Move-clause-goes
returns-in-Move-clause-goes c = λ accounts slots standing h.
    subst (λ e. Goes accounts slots standing c.args.logs.now c.args.serving.now h e c.step.result c.args.logs.now c.step.new.serving) (sym c.in-Move.is)
    (c.step.ensures.goes accounts slots c.args.logs.now standing h)

pub returns-in-Take-clause-goes : goal.returns-in-Take-clause-goes
returns-in-Take-clause-goes c = λ accounts slots standing h.
    subst (λ e. Goes accounts slots standing c.args.logs.now c.args.serving.now h e c.take.result c.args.logs.now c.take.new.serving) (sym c.in-Take.is)
    (c.take.ensures.goes accounts slots c.args.logs.now standing h)

pub returns-in-Move-clause-forced : goal.returns-in-Move-clause-forced
returns-in-Move-clause-forced c = λ accounts.
    subst (λ e. IsForced accounts e c.step.result c.args.logs.now (Some c.args.serving.now) c.args.logs.now) (sym c.in-Move.is) refl

pub returns-in-Take-clause-forced : goal.returns-in-Take-clause-forced
returns-in-Take-clause-forced c = λ accounts.
    subst (λ e. IsForced accounts e c.take.result c.args.logs.now (Some c.args.serving.now) c.args.logs.now) (sym c.in-Take.is) refl

pub returns-in-Move-clause-done : goal.returns-in-Move-clause-done
returns-in-Move-clause-done c =
    subst (λ e. IsDoneTo e c.step.result c.args.serving.now (Some c.step.new.serving)) (sym c.in-Move.is) (c.step.new.serving, refl, c.step.ensures.does)

pub returns-in-Take-clause-done : goal.returns-in-Take-clause-done
returns-in-Take-clause-done c =
    subst (λ e. IsDoneTo e c.take.result c.args.serving.now (Some c.take.new.serving)) (sym c.in-Take.is) (c.take.new.serving, refl, c.take.ensures.does)

pub returns-in-Tidy-clause-done : goal.returns-in-Tidy-clause-done
returns-in-Tidy-clause-done c =
    subst (λ e. IsDoneTo e Tidied c.args.serving.now (Some c.tidy.new.self)) (sym c.in-Tidy.is) (c.tidy.new.self, refl, c.tidy.ensures)

pub returns-in_ok-core-in-Core-clause-done : goal.returns-in_ok-core-in-Core-clause-done
returns-in_ok-core-in-Core-clause-done c =
    subst (λ e. IsDoneTo e (Told c.in_ok-core-in-Core.field-0) c.args.serving.now (Some c.core.new.serving)) (sym c.in-Core.is) tt

pub returns-in-Flush-clause-done : goal.returns-in-Flush-clause-done
returns-in-Flush-clause-done c = subst (λ e. IsDoneTo e c.flush_at.result c.args.serving.now (Some c.flush_at.new.serving)) (sym c.in-Flush.is) tt

pub returns-in-Reopen-clause-done : goal.returns-in-Reopen-clause-done
returns-in-Reopen-clause-done c = subst (λ e. IsDoneTo e c.reopen_at.result c.args.serving.now (Some c.args.serving.now)) (sym c.in-Reopen.is) tt

pub returns-in-SettleBegin-clause-done : goal.returns-in-SettleBegin-clause-done
returns-in-SettleBegin-clause-done c = IfOk-weaker c.begin_settle.result _ _
    (λ note goes. subst (λ e. IsDoneTo e note c.args.serving.now (Some c.begin_settle.new.serving)) (sym c.in-SettleBegin.is) tt)
    c.begin_settle.ensures.goes

pub returns-in-SettleNext-clause-done : goal.returns-in-SettleNext-clause-done
returns-in-SettleNext-clause-done c = subst (λ e. IsDoneTo e c.go_on.result c.args.serving.now (Some c.go_on.new.serving)) (sym c.in-SettleNext.is) tt

pub returns-in-Tidy-clause-goes : goal.returns-in-Tidy-clause-goes
returns-in-Tidy-clause-goes c = λ accounts slots standing h.
    subst (λ e. Goes accounts slots standing c.args.logs.now c.args.serving.now h e Tidied c.args.logs.now c.tidy.new.self) (sym c.in-Tidy.is)
    (tidied accounts slots standing c.args.logs.now c.args.serving.now h c.tidy.new.self c.tidy.ensures)

pub returns-in-Tidy-clause-forced : goal.returns-in-Tidy-clause-forced
returns-in-Tidy-clause-forced c = λ accounts.
    subst (λ e. IsForced accounts e Tidied c.args.logs.now (Some c.args.serving.now) c.args.logs.now) (sym c.in-Tidy.is) refl

pub returns-in-Flush-clause-goes : goal.returns-in-Flush-clause-goes
returns-in-Flush-clause-goes c = λ accounts slots standing h.
    subst (λ e. Goes accounts slots standing c.args.logs.now c.args.serving.now h e c.flush_at.result c.flush_at.new.logs c.flush_at.new.serving) (sym c.in-Flush.is)
    (c.flush_at.ensures.goes accounts slots standing h)

pub returns-in-Reopen-clause-goes : goal.returns-in-Reopen-clause-goes
returns-in-Reopen-clause-goes c = λ accounts slots standing h.
    subst (λ e. Goes accounts slots standing c.args.logs.now c.args.serving.now h e c.reopen_at.result c.reopen_at.new.logs c.args.serving.now) (sym c.in-Reopen.is)
    (c.reopen_at.ensures.goes accounts slots c.args.serving.now standing h)

pub returns-in-SettleBegin-clause-goes : goal.returns-in-SettleBegin-clause-goes
returns-in-SettleBegin-clause-goes c = IfOk-weaker c.begin_settle.result _ _
    (λ note goes accounts slots standing h.
    subst (λ e. Goes accounts slots standing c.args.logs.now c.args.serving.now h e note c.args.logs.now c.begin_settle.new.serving) (sym c.in-SettleBegin.is)
    (goes accounts slots c.args.logs.now standing h))
    c.begin_settle.ensures.goes

pub returns-in-SettleNext-clause-goes : goal.returns-in-SettleNext-clause-goes
returns-in-SettleNext-clause-goes c = λ accounts slots standing h.
    subst (λ e. Goes accounts slots standing c.args.logs.now c.args.serving.now h e c.go_on.result c.go_on.new.logs c.go_on.new.serving) (sym c.in-SettleNext.is)
    (c.go_on.ensures.goes accounts slots standing h)

pub returns-in_ok-core-in-Core-clause-forced : goal.returns-in_ok-core-in-Core-clause-forced
returns-in_ok-core-in-Core-clause-forced c = λ accounts.
    subst (λ e. IsForced accounts e (Told c.in_ok-core-in-Core.field-0) c.args.logs.now (Some c.args.serving.now) c.args.logs.now) (sym c.in-Core.is) refl

pub returns-in-Flush-clause-forced : goal.returns-in-Flush-clause-forced
returns-in-Flush-clause-forced c = λ accounts.
    subst (λ e. IsForced accounts e c.flush_at.result c.args.logs.now (Some c.args.serving.now) c.flush_at.new.logs) (sym c.in-Flush.is) (c.flush_at.ensures.forced accounts)

pub returns-in-Reopen-clause-forced : goal.returns-in-Reopen-clause-forced
returns-in-Reopen-clause-forced c = λ accounts.
    subst (λ e. IsForced accounts e c.reopen_at.result c.args.logs.now (Some c.args.serving.now) c.reopen_at.new.logs) (sym c.in-Reopen.is) (c.reopen_at.ensures.forced accounts c.args.serving.now)

pub returns-in-SettleBegin-clause-forced : goal.returns-in-SettleBegin-clause-forced
returns-in-SettleBegin-clause-forced c = IfOk-weaker c.begin_settle.result _ _
    (λ note goes accounts. subst (λ e. IsForced accounts e note c.args.logs.now (Some c.args.serving.now) c.args.logs.now) (sym c.in-SettleBegin.is) refl)
    c.begin_settle.ensures.goes

pub returns-in-SettleNext-clause-forced : goal.returns-in-SettleNext-clause-forced
returns-in-SettleNext-clause-forced c = λ accounts.
    subst (λ e. IsForced accounts e c.go_on.result c.args.logs.now (Some c.args.serving.now) c.go_on.new.logs) (sym c.in-SettleNext.is) (c.go_on.ensures.forced accounts)
