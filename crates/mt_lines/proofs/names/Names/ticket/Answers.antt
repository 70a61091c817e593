use Rattle.std.proofs.Common.{ap, ◌∙◌}
use Rattle.mt_lines.specs.Names.{Tickets, ticket_in, ticket_of}
use Rattle.mt_lines.proofs.names.Names.ticket.Goals as goal

pub returns-in-Some : goal.returns-in-Some
returns-in-Some c = ap ticket_in c.in-Some.ensures.value ∙ ap (λ (n : Tickets). ticket_of n c.args.name) c.self.view_is

pub returns-in-None : goal.returns-in-None
returns-in-None c = ap ticket_in c.in-None.ensures.value ∙ ap (λ (n : Tickets). ticket_of n c.args.name) c.self.view_is
