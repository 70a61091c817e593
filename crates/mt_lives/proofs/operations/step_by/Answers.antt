use Rattle.std.proofs.{Common.{Some, is_some, refl, sym, ap, ◌∙◌}, lemmas.Bool.both_ways}
use Rattle.mt_core.{specs.Tickets.named, proofs.EventNames.{named_by, by_id_names, by_id_there}}
use Rattle.mt_lives.proofs.operations.step_by.Goals as goal

-- a holder has a name
pub unreachable-requires : goal.unreachable-requires
unreachable-requires c =
    let held = c.in-Again.ensures.tells.2.unfinished in
    let there = by_id_there c.args.roster.now.names (named c.args.roster.now.tickets) c.in-Again.holder c.requires.by_id (c.requires.named c.in-Again.holder held.0 held.1) in
    both_ways _ (ap is_some (sym c.in_default-get.ensures.value)) there

pub returns-in-Some : goal.returns-in-Some
returns-in-Some c =
    let tells = c.in-Again.ensures.tells in
    let held = tells.2.unfinished in (
      c.in-Some-Some.ticket.id,
      c.in-Again.holder,
      named_by c.args.roster.now.tickets c.args.op c.in-Some-Some.ticket (sym c.in-Some-Some.ensures.value ∙ ap (λ w. Some w) c.in-Some-Some.field-0-is),
      by_id_names c.args.roster.now.names (named c.args.roster.now.tickets) c.in-Some.name.now c.in-Again.holder c.requires.by_id (c.requires.named c.in-Again.holder held.0 held.1)
          (sym c.in-Some.ensures.value),
      tells.2,
      refl,
      tells.0,
    )

pub returns-in-Spent : goal.returns-in-Spent
returns-in-Spent c = (
  c.in-Some-Some.ticket.id,
  named_by c.args.roster.now.tickets c.args.op c.in-Some-Some.ticket (sym c.in-Some-Some.ensures.value ∙ ap (λ w. Some w) c.in-Some-Some.field-0-is),
  c.in-Spent.ensures.tells.2,
  refl,
  c.in-Spent.ensures.tells.0,
)
