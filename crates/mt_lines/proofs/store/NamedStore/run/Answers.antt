use Rattle.std.{proofs.Common.{◌≡◌, ◌≢◌, None, Some, refl, sym, ap, subst}, specs.Option.option_map}
use Rattle.mt_core.specs.declared.answers.Ticket.{Ticket}
use Rattle.mt_lines.specs.{Names.operation_of, Stores.{StoreView, TellsWalk, TellsNamed}}
use Rattle.mt_lines.proofs.{StepLemmas.{never_stops, walk_can_say, tells_walk, of_named}, NamedLemmas.{named_same, walk_same}}
use Rattle.mt_state.specs.declared.moves.Move.TheVariants.{Moved}
use Rattle.mt_lines.proofs.store.NamedStore.run.Goals as goal

pub respond-requires-clause-named : goal.respond-requires-clause-named
respond-requires-clause-named c = named_same _ _ _ (walk_same None _ _ _ _ c.walk-answer.ensures) c.self.invariant

pub respond-requires-clause-said : goal.respond-requires-clause-said
respond-requires-clause-said c =
    let held : operation_of c.self.inside.names c.args.name ≡ Some c.in-Some.ticket.now.id = sym (ap (option_map (λ (t : Ticket). t.id)) c.in-Some.ensures) in
    (c.in-Some.ticket.now.id, held, walk_can_say None _ _ _ _ c.walk-answer.ensures)

pub returns : goal.returns
returns c =
    let held : operation_of c.self.inside.names c.args.name ≡ Some c.in-Some.ticket.now.id = sym (ap (option_map (λ (t : Ticket). t.id)) c.in-Some.ensures) in
    let old : StoreView = record { state = c.self.inside.state; named = c.self.inside.names } in
    let after : StoreView = record { state = c.walk-answer.new.state; named = c.self.inside.names } in
    let new : StoreView = record { state = c.respond.new.state; named = c.respond.new.names } in
    let goes : c.walk-answer.result ≢ Moved = never_stops _ _ _ c.walk-answer.result c.walk-answer.ensures.ends in
    let tells = tells_walk None old after new c.args.name c.in-Some.ticket.now.id c.walk-answer.result c.respond.result refl c.walk-answer.ensures goes (c.respond.ensures.said c.in-Some.ticket.now.id held) in
    subst (λ (v : StoreView). TellsNamed (operation_of v.named c.args.name) v new c.respond.result (λ o. TellsWalk None v new c.args.name o c.respond.result)) c.self.view_is
    (of_named c.self.inside.names c.args.name c.in-Some.ticket.now.id old new c.respond.result (λ o. TellsWalk None old new c.args.name o c.respond.result) held tells)
