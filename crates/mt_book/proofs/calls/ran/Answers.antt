use Rattle.std.proofs.Common.{ℕ, Some, None, Ok, Err, sym, subst}
use Rattle.mt_runs.specs.declared.event.Answer.{Answer}
use Rattle.mt_book.{specs.Calls.{Opens, Calls, Led, Gated}, proofs.{Chains.{call_answered, call_spent}, Gating.{gated_begin, gated_take, call_refused}}}
use Rattle.mt_book.proofs.calls.ran.Goals as goal

pub returns-in-Err-clause-gated : goal.returns-in-Err-clause-gated
returns-in-Err-clause-gated g c asked worker made =
    let p = c.args.pass.now in
    let does = g.D.Desk.does in
    call_refused (g.G.Gate.turned c.args.gate.now) does c.args.desk.now c.start.new.desk p.seen asked c.args.opening made c.in-Err.refusal
    (subst (λ (w : ℕ). Led does c.args.desk.now c.start.new.desk (λ ps. (shown : ℕ) × Opens p.seen w c.args.opening (Err c.in-Err.refusal) None ps shown)) (sym worker) c.in-Err.ensures)

pub returns-then-not-stepped-clause-gated : goal.returns-then-not-stepped-clause-gated
returns-then-not-stepped-clause-gated g c asked worker made =
    let p = c.args.pass.now in
    let called = g.G.Gate.turned c.args.gate.now in
    let does = g.D.Desk.does in
    let b = c.in-Ok.begun in
    let begins = subst (λ (w : ℕ). Led does c.args.desk.now c.start.new.desk (λ ps. Opens p.seen w c.args.opening (Ok b.ticket) (Some b.phase) ps b.shown)) (sym worker) c.in-Ok.ensures in
    call_spent (Gated does called) c.args.desk.now c.stepped.new.desk p.seen asked c.args.opening made c.start.new.desk b.ticket b.shown b.phase
    (gated_begin called does c.args.desk.now c.start.new.desk p.seen asked.worker c.args.opening (Ok b.ticket) (Some b.phase) b.shown begins) c.if-not-stepped.ensures

pub returns-clause-gated : goal.returns-clause-gated
returns-clause-gated g c asked worker made =
    let p = c.args.pass.now in
    let called = g.G.Gate.turned c.args.gate.now in
    let does = g.D.Desk.does in
    let b = c.in-Ok.begun in
    let begins = subst (λ (w : ℕ). Led does c.args.desk.now c.start.new.desk (λ ps. Opens p.seen w c.args.opening (Ok b.ticket) (Some b.phase) ps b.shown)) (sym worker) c.in-Ok.ensures in
    let calls =
    call_answered (Gated does called) c.args.desk.now c.answered-answer.new.desk p.seen asked c.args.opening made c.start.new.desk c.stepped.new.desk b.ticket b.shown b.phase c.answered-answer.result
    (gated_begin called does c.args.desk.now c.start.new.desk p.seen asked.worker c.args.opening (Ok b.ticket) (Some b.phase) b.shown begins)
    c.if-not-stepped.ensures (gated_take called does c.stepped.new.desk c.answered-answer.new.desk p.seen b.ticket.id c.answered-answer.result c.answered-answer.ensures.taken) in
    subst (λ desk. Calls (Gated does called) c.args.desk.now desk p.seen asked (Ok c.believed-answer.result)) (sym c.believed-answer.ensures.desk)
    (subst (λ (answer : Answer). Calls (Gated does called) c.args.desk.now c.answered-answer.new.desk p.seen asked (Ok answer)) (sym c.believed-answer.ensures.answer) calls)
