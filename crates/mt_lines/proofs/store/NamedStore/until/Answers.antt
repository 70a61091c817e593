use Rattle.std.{proofs.Common.{◌≡◌, Some, refl, sym, ap, subst}, specs.Option.option_map}
use Rattle.mt_core.specs.declared.answers.Ticket.{Ticket}
use Rattle.mt_lines.specs.{Names.operation_of, declared.response.Response.TheVariants.At, Stores.{StoreView, TellsWalk, TellsNamed}}
use Rattle.mt_lines.proofs.{StepLemmas.{walk_can_say, tells_walk, stands_there, of_named}, NamedLemmas.{named_same, walk_same}}
use Rattle.mt_lines.proofs.store.NamedStore.until.Goals as goal

pub invariant_of-self : goal.invariant_of-self
invariant_of-self c = named_same _ _ _ (walk_same (Some c.args.phase) _ _ _ _ c.walk.ensures) c.self.invariant

pub respond-requires : goal.respond-requires
respond-requires c = record {
  named = named_same _ _ _ (walk_same (Some c.args.phase) _ _ _ _ c.walk.ensures) c.self.invariant;
  said =
      let held : operation_of c.self.inside.names c.args.name ≡ Some c.in-Some.ticket.now.id = sym (ap (option_map (λ (t : Ticket). t.id)) c.in-Some.ensures) in
      (c.in-Some.ticket.now.id, held, walk_can_say (Some c.args.phase) _ _ _ _ c.walk.ensures);
}

pub returns-in-Moved : goal.returns-in-Moved
returns-in-Moved c =
    let held : operation_of c.self.inside.names c.args.name ≡ Some c.in-Some.ticket.now.id = sym (ap (option_map (λ (t : Ticket). t.id)) c.in-Some.ensures) in
    let old : StoreView = record { state = c.self.inside.state; named = c.self.inside.names } in
    let new : StoreView = record { state = c.walk.new.state; named = c.self.inside.names } in
    subst (λ (v : StoreView). TellsNamed (operation_of v.named c.args.name) v new (At c.args.phase) (λ o. TellsWalk (Some c.args.phase) v new c.args.name o (At c.args.phase))) c.self.view_is
    (of_named c.self.inside.names c.args.name c.in-Some.ticket.now.id old new (At c.args.phase) (λ o. TellsWalk (Some c.args.phase) old new c.args.name o (At c.args.phase)) held
    (stands_there c.args.phase old new c.args.name c.in-Some.ticket.now.id refl c.in-Moved.ensures))

pub returns-in_default-walk : goal.returns-in_default-walk
returns-in_default-walk c =
    let held : operation_of c.self.inside.names c.args.name ≡ Some c.in-Some.ticket.now.id = sym (ap (option_map (λ (t : Ticket). t.id)) c.in-Some.ensures) in
    let old : StoreView = record { state = c.self.inside.state; named = c.self.inside.names } in
    let after : StoreView = record { state = c.walk.new.state; named = c.self.inside.names } in
    let new : StoreView = record { state = c.respond.new.state; named = c.respond.new.names } in
    let tells = tells_walk (Some c.args.phase) old after new c.args.name c.in-Some.ticket.now.id c.walk.result c.respond.result refl c.walk.ensures c.in_default-walk.not-Moved (c.respond.ensures.said c.in-Some.ticket.now.id held) in
    subst (λ (v : StoreView). TellsNamed (operation_of v.named c.args.name) v new c.respond.result (λ o. TellsWalk (Some c.args.phase) v new c.args.name o c.respond.result)) c.self.view_is
    (of_named c.self.inside.names c.args.name c.in-Some.ticket.now.id old new c.respond.result (λ o. TellsWalk (Some c.args.phase) old new c.args.name o c.respond.result) held tells)
