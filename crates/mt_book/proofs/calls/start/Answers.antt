use Rattle.std.proofs.Common.{subst}
use Rattle.mt_book.{specs.Periods.{admission_period, FitsAdmission}, proofs.Turns.{opens_begun, opens_refused, opens_early}}
use Rattle.mt_book.proofs.calls.start.Goals as goal

pub returns-in-Begun : goal.returns-in-Begun
returns-in-Begun g c =
    let p = c.args.pass.now in
    let same = c.loop.invariant.2 in
    let d = subst (λ x. g.D.Desk.does c.loop.desk (admission_period x c.admit-steps.result) c.admit-steps.new.self) same c.admit-steps.ensures.does in
    let f = subst (λ x. FitsAdmission p.seen p.worker x c.admit-steps.result) same c.admit-steps.ensures.fits in
    opens_begun g.D.Desk.does c.args.desk.now c.loop.desk c.admit-steps.new.self p.seen p.worker c.args.opening c.admit-steps.result c.loop.invariant.3 d f c.in-Begun.ticket c.in-Begun.phase c.in-Begun.is

pub returns-in-Refused : goal.returns-in-Refused
returns-in-Refused g c =
    let p = c.args.pass.now in
    let same = c.loop.invariant.2 in
    let d = subst (λ x. g.D.Desk.does c.loop.desk (admission_period x c.admit-steps.result) c.admit-steps.new.self) same c.admit-steps.ensures.does in
    let f = subst (λ x. FitsAdmission p.seen p.worker x c.admit-steps.result) same c.admit-steps.ensures.fits in
    opens_refused g.D.Desk.does c.args.desk.now c.loop.desk c.admit-steps.new.self p.seen p.worker c.args.opening c.admit-steps.result c.loop.invariant.3 d f c.in-Refused.refusal c.in-Refused.is

pub loop-preserved : goal.loop-preserved
loop-preserved g c =
    let p = c.args.pass.now in
    let same = c.loop.invariant.2 in
    let d = subst (λ x. g.D.Desk.does c.loop.desk (admission_period x c.admit-steps.result) c.admit-steps.new.self) same c.admit-steps.ensures.does in
    let f = subst (λ x. FitsAdmission p.seen p.worker x c.admit-steps.result) same c.admit-steps.ensures.fits in
    let r = opens_early g.D.Desk.does c.args.desk.now c.loop.desk c.admit-steps.new.self p.seen p.worker c.args.opening c.admit-steps.result c.loop.invariant.3 d f c.in-Early.back c.in-Early.is in
    (tt, tt, r.0, r.1)
