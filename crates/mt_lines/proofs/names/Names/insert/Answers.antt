use Rattle.std.proofs.Common.{rules, ◌≡◌, ◌≢◌, None, Some, ℕ, sym, ap, subst, ◌∙◌}
use Rattle.mt_lines.{specs.Names.{Tickets, named_of, operation_of, TakesName}, proofs.NameLemmas.{no_id, row_takes, row_same, takes_from}}
use Rattle.mt_lines.proofs.names.Names.insert.Goals as goal

pub insert_new-requires : goal.insert_new-requires
insert_new-requires c = no_id (named_of c.self.inside.tickets.entries c.args.name) (ap (λ (n : Tickets). operation_of n c.args.name) c.self.view_is ∙ c.requires.free)

pub invariant_of-self-2 : goal.invariant_of-self-2
invariant_of-self-2 c =
    let old : Tickets = c.self.inside.tickets.entries in
    let free : operation_of old c.args.name ≡ None = ap (λ (n : Tickets). operation_of n c.args.name) c.self.view_is ∙ c.requires.free in
    let unnamed : ((other : ℕ) → operation_of old other ≢ Some c.id-id.result) = λ other e. c.requires.unnamed other (ap (λ (n : Tickets). operation_of n other) (sym c.self.view_is) ∙ e ∙ ap Some c.id-id.ensures) in
    let takes = subst (λ (o : ℕ). TakesName old c.insert_new.new.tickets.entries c.args.name o c.args.stamps) (sym c.id-id.ensures) (takes_from c.self.inside.tickets c.insert_new.new.tickets c.args.name c.args.ticket c.args.stamps c.in_ok-insert_new.ensures.updates free) in
    row_takes old c.insert_new.new.tickets.entries c.make_room.new.row.items c.args.name c.id-id.result c.args.stamps takes unnamed (search (rules, c.make_room.ensures.room, c.is_err.ensures.value, c.if-is_err.false)) (row_same old c.self.inside.row.items c.make_room.new.row.items c.make_room.ensures.same c.self.invariant)

pub returns-clause-taken : goal.returns-clause-taken
returns-clause-taken c =
    let free : operation_of c.self.inside.tickets.entries c.args.name ≡ None = ap (λ (n : Tickets). operation_of n c.args.name) c.self.view_is ∙ c.requires.free in
    subst (λ (n : Tickets). TakesName n c.insert_new.new.tickets.entries c.args.name c.args.ticket.id c.args.stamps) c.self.view_is (takes_from c.self.inside.tickets c.insert_new.new.tickets c.args.name c.args.ticket c.args.stamps c.in_ok-insert_new.ensures.updates free)
