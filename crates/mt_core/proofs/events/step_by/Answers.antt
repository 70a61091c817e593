use Rattle.std.proofs.Common.{Some, refl, sym, ap, subst, ◌∙◌}
use Rattle.mt_state.{specs.Promises.HasStep, proofs.HistoryRuns.step_ended}
use Rattle.mt_core.{specs.Tickets.named, proofs.EventNames.{named_by, one_id, by_id_names, by_id_there, by_id_taken}}
use Rattle.mt_core.proofs.events.step_by.Goals as goal

pub returns-in-Moved-clause-tells : goal.returns-in-Moved-clause-tells
returns-in-Moved-clause-tells c =
    (c.in-Some-Some.ticket.id, (named_by c.args.roster.now.tickets c.args.op c.in-Some-Some.ticket (sym c.in-Some-Some.ensures.value ∙ ap (λ w. Some w) c.in-Some-Some.field-0-is)), refl, c.in-Moved.ensures.tells)

pub returns-in-Again-clause-tells : goal.returns-in-Again-clause-tells
returns-in-Again-clause-tells c =
    (c.in-Some-Some.ticket.id, c.in-Again.holder, (named_by c.args.roster.now.tickets c.args.op c.in-Some-Some.ticket (sym c.in-Some-Some.ensures.value ∙ ap (λ w. Some w) c.in-Some-Some.field-0-is)), by_id_names c.args.roster.now.names (named c.args.roster.now.tickets) c.name_of.result c.in-Again.holder c.requires.by_id (c.requires.named c.in-Again.holder c.in-Again.ensures.tells.2.unfinished.0 c.in-Again.ensures.tells.2.unfinished.1) c.name_of.ensures, c.in-Again.ensures.tells.2, refl, c.in-Again.ensures.tells.0)

pub returns-in-Spent-clause-tells : goal.returns-in-Spent-clause-tells
returns-in-Spent-clause-tells c =
    (c.in-Some-Some.ticket.id, (named_by c.args.roster.now.tickets c.args.op c.in-Some-Some.ticket (sym c.in-Some-Some.ensures.value ∙ ap (λ w. Some w) c.in-Some-Some.field-0-is)), c.in-Spent.ensures.tells.2, refl, c.in-Spent.ensures.tells.0)

pub returns-in-NoSuch-clause-tells : goal.returns-in-NoSuch-clause-tells
returns-in-NoSuch-clause-tells c =
    (λ n e h. c.in-NoSuch.ensures.tells.1 (subst (HasStep c.args.state.now) (one_id c.args.roster.now.tickets c.args.op n c.in-Some-Some.ticket.id e (named_by c.args.roster.now.tickets c.args.op c.in-Some-Some.ticket (sym c.in-Some-Some.ensures.value ∙ ap (λ w. Some w) c.in-Some-Some.field-0-is))) h), refl, c.in-NoSuch.ensures.tells.0)

pub take_by-requires : goal.take_by-requires
take_by-requires c = record { ended = (c.in-Some-Some.ticket.id, (named_by c.args.roster.now.tickets c.args.op c.in-Some-Some.ticket (sym c.in-Some-Some.ensures.value ∙ ap (λ w. Some w) c.in-Some-Some.field-0-is)), step_ended _ _ _ c.in-Done.ensures.tells) }

pub returns-in-Done-clause-logs : goal.returns-in-Done-clause-logs
returns-in-Done-clause-logs c =
    ap (λ v. v.logs) (c.take_by.ensures.takes c.in-Some-Some.ticket.id (named_by c.args.roster.now.tickets c.args.op c.in-Some-Some.ticket (sym c.in-Some-Some.ensures.value ∙ ap (λ w. Some w) c.in-Some-Some.field-0-is))).gone ∙ c.in-Done.ensures.tells.logs

pub returns-in-Done-clause-tells : goal.returns-in-Done-clause-tells
returns-in-Done-clause-tells c =
    (c.in-Some-Some.ticket.id, c.step.new.self, (named_by c.args.roster.now.tickets c.args.op c.in-Some-Some.ticket (sym c.in-Some-Some.ensures.value ∙ ap (λ w. Some w) c.in-Some-Some.field-0-is)), c.take_by.ensures.renames, c.in-Done.ensures.tells, c.take_by.ensures.takes c.in-Some-Some.ticket.id (named_by c.args.roster.now.tickets c.args.op c.in-Some-Some.ticket (sym c.in-Some-Some.ensures.value ∙ ap (λ w. Some w) c.in-Some-Some.field-0-is)))

pub name_of-requires : goal.name_of-requires
name_of-requires c =
    by_id_there c.args.roster.now.names (named c.args.roster.now.tickets) c.in-Again.holder c.requires.by_id (c.requires.named c.in-Again.holder c.in-Again.ensures.tells.2.unfinished.0 c.in-Again.ensures.tells.2.unfinished.1)

pub returns-in-Done-clause-by_id : goal.returns-in-Done-clause-by_id
returns-in-Done-clause-by_id c = by_id_taken c.args.roster.now.names (named c.args.roster.now.tickets) _ c.args.op c.requires.by_id c.take_by.ensures.renames
