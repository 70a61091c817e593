-- What the period of a step shows, for `BookDesk::step`.
use Rattle.std.proofs.Common.{arith}
use Rattle.mt_book.proofs.NextPhases.{shows_next}
use Rattle.mt_book.proofs.shared.BookDesk.step.Goals as goal

pub returns-clause-fits : goal.returns-clause-fits
returns-clause-fits g c =
    (omega (arith, c.if-steps-seen.false, c.seen.ensures), shows_next c.args.self.now.state c.step.new.self.state c.args.ticket.now.id c.step.result _ c.step.ensures.told c.phase-phase.ensures)
