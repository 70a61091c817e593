use Rattle.std.proofs.Common.{rules, ◌≡◌, ◌<◌, Some, sym, ◌∙◌, ap, subst, length}
use Rattle.mt_lines.{specs.Names.{Tickets, ticket_in, ticket_of, operation_of, FreesName}, proofs.NameLemmas.{id_in, row_frees, frees_from, within_row}}
use Rattle.mt_lines.proofs.names.Names.remove.Goals as goal

pub index_mut-requires : goal.index_mut-requires
index_mut-requires c =
    let held : operation_of c.self.inside.tickets.entries c.args.name ≡ Some c.id-id.result = sym (ap id_in c.in_ok-named.ensures.value) ∙ ap Some (sym c.id-id.ensures) in
    let inside : c.id-id.result < length c.self.inside.row.items = within_row c.self.inside.row.items c.id-id.result c.args.name (c.self.invariant.by_name c.args.name c.id-id.result held) in
    search (rules, inside)

pub invariant_of-self-2 : goal.invariant_of-self-2
invariant_of-self-2 c =
    let held : operation_of c.self.inside.tickets.entries c.args.name ≡ Some c.id-id.result = sym (ap id_in c.in_ok-named.ensures.value) ∙ ap Some (sym c.id-id.ensures) in
    row_frees c.self.inside.tickets.entries c.remove.new.self.entries c.self.inside.row.items c.args.name c.id-id.result (frees_from c.self.inside.tickets c.remove.new.self c.args.name c.remove.ensures.updates) held
    (within_row c.self.inside.row.items c.id-id.result c.args.name (c.self.invariant.by_name c.args.name c.id-id.result held)) c.self.invariant

pub returns-clause-ticket : goal.returns-clause-ticket
returns-clause-ticket c = ap ticket_in c.in_ok-named.ensures.value ∙ ap (λ (n : Tickets). ticket_of n c.args.name) c.self.view_is

pub returns-clause-freed : goal.returns-clause-freed
returns-clause-freed c =
    subst (λ (old : Tickets). FreesName old c.remove.new.self.entries c.args.name) c.self.view_is (frees_from c.self.inside.tickets c.remove.new.self c.args.name c.remove.ensures.updates)
