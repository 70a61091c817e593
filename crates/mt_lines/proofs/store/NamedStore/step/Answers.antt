use Rattle.std.{proofs.Common.{◌≡◌, Some, refl, sym, ap, subst}, specs.Option.option_map}
use Rattle.mt_core.specs.declared.answers.Ticket.{Ticket}
use Rattle.mt_lines.specs.{Names.operation_of, Stores.{StoreView, TellsStep, TellsNamed}}
use Rattle.mt_lines.proofs.{StepLemmas.{tells_move, can_say, tells_step, of_named}, NamedLemmas.{named_same, move_same}}
use Rattle.mt_lines.proofs.store.NamedStore.step.Goals as goal

pub respond-requires-clause-named : goal.respond-requires-clause-named
respond-requires-clause-named c = named_same _ _ _ (move_same _ _ _ _ (tells_move _ _ _ _ c.step-answer.ensures.tells)) c.self.invariant

pub respond-requires-clause-said : goal.respond-requires-clause-said
respond-requires-clause-said c =
    let held : operation_of c.self.inside.names c.args.name ≡ Some c.in-Some.ticket.now.id = sym (ap (option_map (λ (t : Ticket). t.id)) c.in-Some.ensures) in
    (c.in-Some.ticket.now.id, held, can_say _ _ _ _ (tells_move _ _ _ _ c.step-answer.ensures.tells))

pub returns : goal.returns
returns c =
    let held : operation_of c.self.inside.names c.args.name ≡ Some c.in-Some.ticket.now.id = sym (ap (option_map (λ (t : Ticket). t.id)) c.in-Some.ensures) in
    let old : StoreView = record { state = c.self.inside.state; named = c.self.inside.names } in
    let mid : StoreView = record { state = c.step-answer.new.self; named = c.self.inside.names } in
    let new : StoreView = record { state = c.respond.new.state; named = c.respond.new.names } in
    let tells = tells_step old mid new c.args.name c.in-Some.ticket.now.id c.step-answer.result c.respond.result refl (tells_move _ _ _ _ c.step-answer.ensures.tells) (c.respond.ensures.said c.in-Some.ticket.now.id held) in
    subst (λ (v : StoreView). TellsNamed (operation_of v.named c.args.name) v new c.respond.result (λ o. TellsStep v new c.args.name o c.respond.result)) c.self.view_is
    (of_named c.self.inside.names c.args.name c.in-Some.ticket.now.id old new c.respond.result (λ o. TellsStep old new c.args.name o c.respond.result) held tells)
