-- That a step which moves its operation on keeps the names, and that an answer shows stamps as was asked with its name.
use Rattle.std.proofs.Common.{rules, ap}
use Rattle.mt_lines.proofs.store.respond.Goals as goal
use Rattle.mt_lines.specs.declared.response.Response.TheVariants as responses

pub returns-in-Moved-clause-said : goal.returns-in-Moved-clause-said
returns-in-Moved-clause-said c = search rules

pub returns-in-Moved-clause-named : goal.returns-in-Moved-clause-named
returns-in-Moved-clause-named c = c.requires.named

pub returns-in-Done-clause-said : goal.returns-in-Done-clause-said
returns-in-Done-clause-said c = λ o held.
    rw c.in-Done.is (c.give_up.result, ap (λ s. responses.Done c.give_up.result s) c.shows_stamps-stamps.ensures, c.give_up.ensures.given o held)
