use Rattle.std.proofs.Common.{sym, ap, ◌∙◌}
use Rattle.mt_table.{specs.Seats.operation_in, proofs.Places.shown_op}
use Rattle.mt_table.proofs.table.Operations.get.Goals as goal

pub returns-in-Some : goal.returns-in-Some
returns-in-Some c = rw c.deref.ensures (ap operation_in c.in-Some.ensures ∙ sym (shown_op c.self.inside.places c.self.inside.seats.slots _ c.args.id c.self.view_is))

pub returns-in-None : goal.returns-in-None
returns-in-None c = ap operation_in c.in-None.ensures ∙ sym (shown_op c.self.inside.places c.self.inside.seats.slots _ c.args.id c.self.view_is)
