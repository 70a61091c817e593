use Rattle.std.proofs.Common.{subst, sym, ap, ◌∙◌, ◌≤◌, arith}
use Rattle.mt_book.{specs.Periods.{taking_period, FitsTaking, answers_in, room_of, least_room}, proofs.Turns.{takes_answer, takes_early}}
use Rattle.mt_book.proofs.calls.answered.Goals as goal

pub returns-in-Answered-clause-taken : goal.returns-in-Answered-clause-taken
returns-in-Answered-clause-taken g c =
    let p = c.args.pass.now in
    let t = c.args.ticket in
    let room = room_of c.loop.displaced in
    let same = c.loop.invariant.2 in
    let d = subst (λ x. g.D.Desk.does c.loop.desk (taking_period x.id room c.take-told.result) c.take-told.new.self) same c.take-told.ensures.does in
    let f = subst (λ x. FitsTaking p.seen x c.take-told.result) same (subst (λ n. FitsTaking n c.loop.ticket c.take-told.result) c.loop.invariant.3 c.take-told.ensures.fits) in
    let roomy = subst (λ x. least_room ≤ room_of x) (sym c.loop.invariant.7) c.requires in
    takes_answer g.D.Desk.does c.args.desk.now c.loop.desk c.take-told.new.self p.seen t room c.take-told.result c.loop.invariant.6 d f c.in-Answered.answer c.in-Answered.is roomy

pub loop-preserved : goal.loop-preserved
loop-preserved g c =
    let p = c.args.pass.now in
    let t = c.args.ticket in
    let room = room_of c.loop.displaced in
    let same = c.loop.invariant.2 in
    let d = subst (λ x. g.D.Desk.does c.loop.desk (taking_period x.id room c.take-told.result) c.take-told.new.self) same c.take-told.ensures.does in
    let f = subst (λ x. FitsTaking p.seen x c.take-told.result) same (subst (λ n. FitsTaking n c.loop.ticket c.take-told.result) c.loop.invariant.3 c.take-told.ensures.fits) in
    let r = takes_early g.D.Desk.does c.args.desk.now c.loop.desk c.take-told.new.self p.seen t room c.take-told.result c.loop.invariant.6 d f c.in-Early.back c.in-Early.is in
    let none = ap answers_in c.in-Early.is in (
      tt,
      tt,
      r.0,
      c.take-told.ensures.seen ∙ c.loop.invariant.3,
      c.take-told.ensures.worker ∙ c.loop.invariant.4,
      omega (arith, c.take-told.ensures.share, none, c.loop.invariant.5),
      r.1,
      c.take-told.ensures.kept none ∙ c.loop.invariant.7,
    )
