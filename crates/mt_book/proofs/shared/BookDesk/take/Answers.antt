-- A take that gives an answer is followed by a tidying with the room that was handed in, for `BookDesk::take`.
use Rattle.std.{proofs.Common.{◌-◌, ap}, specs.Prelude.{vec_len, vec_capacity}}
use Rattle.mt_book.proofs.shared.BookDesk.take.Goals as goal

pub returns-in-Ok-clause-does : goal.returns-in-Ok-clause-does
returns-in-Ok-clause-does g c =
    let same_room = ap (λ writes. vec_capacity writes - vec_len writes) c.in-Ok.ensures.rest.writes in
    (c.steps-steps.ensures, (c.take.new.self.state, c.in-Ok.ensures.told, (c.take.new.displaced, c.tidy.new.displaced, c.tidy.ensures.tidied, same_room)))
