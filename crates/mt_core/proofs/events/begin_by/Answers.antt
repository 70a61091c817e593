use Rattle.std.{proofs.Common.{Some, refl, sym, subst}, specs.{Ordering.nat_cmp, BTreeMap.Updates}}
use Rattle.mt_core.{specs.Tickets.named, proofs.EventNames.{named_none, renamed, by_id_begun}}
use Rattle.mt_state.specs.{Begins.Begins, Refused.{IsAdmissible, IsRefusal}}
use Rattle.mt_core.proofs.events.begin_by.Goals as goal

pub returns-in-Err-clause-tells : goal.returns-in-Err-clause-tells
returns-in-Err-clause-tells c = (
  named_none c.args.roster.now.tickets c.args.op (sym c.if-contains_key.ensures),
  refl,
  c.in-Err.ensures.told,
  subst (λ command. IsRefusal c.args.state.now c.args.tenant command c.in-Err.refusal) c.in_ok-copied.ensures c.in-Err.ensures.refused,
)

pub returns-in_ok-insert-in-Ok-2-clause-tells : goal.returns-in_ok-insert-in-Ok-2-clause-tells
returns-in_ok-insert-in-Ok-2-clause-tells c = (
  c.in-Ok.ticket.id,
  named_none c.args.roster.now.tickets c.args.op (sym c.if-contains_key.ensures),
  renamed c.args.roster.now.tickets c.insert-in-Ok.new.self c.args.op c.in-Ok.ticket c.in_ok-insert-in-Ok-2.ensures.updates,
  subst (Begins c.args.state.now c.begin.new.self c.in-Ok.ticket.id c.args.worker c.args.tenant) c.in_ok-copied.ensures c.in-Ok.ensures.told,
  subst (λ command. IsAdmissible c.args.state.now c.args.tenant command) c.in_ok-copied.ensures c.in-Ok.ensures.refused,
)

pub returns-in_ok-insert-in-Ok-2-clause-by_id : goal.returns-in_ok-insert-in-Ok-2-clause-by_id
returns-in_ok-insert-in-Ok-2-clause-by_id c =
    by_id_begun c.args.roster.now.names c.insert.new.self (named c.args.roster.now.tickets) (named c.insert-in-Ok.new.self) c.args.state.now.table c.args.op c.in-Ok.ticket.id c.requires.by_id c.requires.held c.in-Ok.ensures.told.free
    (renamed c.args.roster.now.tickets c.insert-in-Ok.new.self c.args.op c.in-Ok.ticket c.in_ok-insert-in-Ok-2.ensures.updates)
    (subst (λ n. Updates nat_cmp c.args.roster.now.names c.insert.new.self n (Some c.args.op)) c.id.ensures c.in_ok-insert-in-Ok.ensures.updates)
