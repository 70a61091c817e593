-- That an operation whose name can't be kept is cancelled, and what a refusal is told, for `NamedStore::begin`.
use Rattle.std.{proofs.Common.{refl, sym, ap, subst, rules}, specs.Prelude.is_some}
use Rattle.mt_core.specs.{declared.answers.Ticket.Ticket, Tickets.{IsStill, Cancels}}
use Rattle.mt_lines.{specs.{Names.Tickets, Stores.HaveOneName}, proofs.NamedLemmas.{named_same, cancelled_same}}
use Rattle.mt_lines.proofs.store.NamedStore.begin.Goals as goal

pub cancel-requires : goal.cancel-requires
cancel-requires c = subst (λ (t : Ticket). IsStill c.begin.new.self.table t.id) (sym c.in-Err-insert.ensures.back.0) (_, c.in-Ok.ensures.told.there, refl)

cancels : (c : goal.After-cancel) → Cancels c.begin.new.self c.cancel.new.state c.in-Ok.ticket.id
cancels c = subst (λ (t : Ticket). Cancels c.begin.new.self c.cancel.new.state t.id) c.in-Err-insert.ensures.back.0 c.cancel.ensures

pub invariant_of-self : goal.invariant_of-self
invariant_of-self c = subst (λ (n : Tickets). HaveOneName c.cancel.new.state.table n) (sym c.in-Err-insert.ensures.back.1)
    (named_same c.self.inside.state.table c.cancel.new.state.table c.self.inside.names
    (λ q. ap is_some (cancelled_same c.self.inside.state c.begin.new.self c.cancel.new.state c.in-Ok.ticket.id 0 c.args.tenant c.args.command c.in-Ok.ensures.told (cancels c) q)) c.self.invariant)

pub returns-in-Err-clause-told : goal.returns-in-Err-clause-told
returns-in-Err-clause-told c = search rules
