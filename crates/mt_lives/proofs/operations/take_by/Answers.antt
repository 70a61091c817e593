-- A ticket that comes back stands where it was.
use Rattle.std.proofs.Common.{rules, Some, sym, ap, subst, ◌∙◌}
use Rattle.std.specs.{Ordering.nat_cmp, BTreeMap.Updates}
use Rattle.mt_state.specs.Begins.{IsEnded}
use Rattle.mt_core.proofs.EventNames.{named_by, one_id}
use Rattle.mt_lives.proofs.Moving.{names_stay}
use Rattle.mt_lives.proofs.operations.take_by.Goals as goal

pub returns-in-Err : goal.returns-in-Err
returns-in-Err c =
    let was = c.args.tickets.now in
    let new = c.get_mut.follows.lender (Some c.in-Err.ticket) in
    let updates : Updates nat_cmp was new c.args.op (Some (Some c.in-Err.ticket)) = search rules in
    let there = sym c.in-Some.ensures.value ∙ ap (λ w. Some w) (sym c.take.ensures.value ∙ c.in-Some-take.is) in (
      λ n known ended.
          c.in-Err.ensures.2 (subst (IsEnded c.args.state.now.table) (one_id was c.args.op n c.in-Some-take.ticket.id known (named_by was c.args.op c.in-Some-take.ticket there)) ended),
      names_stay was new c.args.op (Some (Some c.in-Err.ticket)) updates (there ∙ ap (λ t. Some (Some t)) (sym c.in-Err.ensures.0)),
      c.in-Err.ensures.1,
    )
