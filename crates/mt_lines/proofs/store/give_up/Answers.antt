use Rattle.std.{proofs.{Common.{◌≡◌, Some, subst, sym, ◌∙◌, ap, ℕ}, lemmas.Option.same_Some}, specs.Option.option_map}
use Rattle.mt_core.specs.declared.answers.Ticket.{Ticket}
use Rattle.mt_state.specs.Begins.{Takes}
use Rattle.mt_lines.{specs.Names.operation_of, proofs.NamedLemmas.taken_named}
use Rattle.mt_lines.proofs.store.give_up.Goals as goal

pub returns-clause-given : goal.returns-clause-given
returns-clause-given c = λ o held.
    let same : c.in-Some.ticket.id ≡ o = same_Some c.in-Some.ticket.id o (ap (option_map (λ (t : Ticket). t.id)) c.in-Some.ensures.ticket ∙ held) in
    record {
      taken = c.take.new.self;
      takes = subst (λ (q : ℕ). Takes c.args.state.now c.take.new.self q c.in-Ok.answer) same c.in-Ok.ensures;
      tidies = c.tidy.ensures;
      frees = c.remove.ensures.freed;
    }

pub returns-clause-named : goal.returns-clause-named
returns-clause-named c =
    let held : operation_of c.args.names.now c.args.name ≡ Some c.in-Some.ticket.id = sym (ap (option_map (λ (t : Ticket). t.id)) c.in-Some.ensures.ticket) in
    taken_named c.args.state.now c.take.new.self c.tidy.new.self c.args.names.now c.remove.new.self c.args.name c.in-Some.ticket.id c.in-Ok.answer c.in-Ok.ensures c.tidy.ensures c.remove.ensures.freed held c.requires.named
