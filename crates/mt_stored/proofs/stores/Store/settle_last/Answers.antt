use Rattle.std.proofs.Common.{◌≡◌, Ok, Err, arith, rules, ⊎_elim}
use Rattle.mt_stored.proofs.StoreTurns.{no_step, settled}
use Rattle.mt_stored.proofs.stores.Store.settle_last.Goals as goal

pub returns-in_err-settle-clause-state : goal.returns-in_err-settle-clause-state
returns-in_err-settle-clause-state g c =
    let old = c.args.self.now in
    no_step g.D.Disk.is_honest g.D.Disk.state g.D.Disk.failures (λ s. s.source) (λ s. s.logs.items) (Err c.in_err-settle.field-0.0) old.logs.len old c.settle.new.logs c.in_err-settle.ensures.settles

pub returns-clause-settled : goal.returns-clause-settled
returns-clause-settled g c =
    let old = c.args.self.now in
    let all = settled g.D.Disk.is_honest g.D.Disk.state g.D.Disk.failures (λ s. s.source) (λ s. s.logs.items) c.in_ok-settle.field-0 old.logs.len old c.settle.new.logs (omega (arith, old.logs.ok.0)) c.in_ok-settle.ensures.settles in
    all.1

pub returns-clause-state : goal.returns-clause-state
returns-clause-state g c =
    let old = c.args.self.now in
    no_step g.D.Disk.is_honest g.D.Disk.state g.D.Disk.failures (λ s. s.source) (λ s. s.logs.items) (Ok c.in_ok-settle.field-0) old.logs.len old c.settle.new.logs c.in_ok-settle.ensures.settles

pub returns-in_err-settle-clause-err : goal.returns-in_err-settle-clause-err
returns-in_err-settle-clause-err g c =
    let is : c.from_residual.result ≡ Err c.in_err-settle.field-0.0 = search rules in
    rw is (⊎_elim (λ none. absurd (search (arith, none.0, rules))) (λ stops. stops) c.in_err-settle.ensures.settles)
