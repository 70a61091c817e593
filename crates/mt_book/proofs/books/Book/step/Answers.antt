-- A step leaves the total as it is.
use Rattle.std.proofs.Common.{◌∙◌}
use Rattle.mt_book.proofs.Answering.{step_takes_none}
use Rattle.mt_book.proofs.books.Book.step.Goals as goal

pub invariant_of-self : goal.invariant_of-self
invariant_of-self g c =
    let book = c.args.self.now in
    record { counted = step_takes_none book.state c.step.new.self c.args.ticket.now.id c.step.result c.step.ensures.tells ∙ book.counted; cut = book.cut; idle = book.idle }
