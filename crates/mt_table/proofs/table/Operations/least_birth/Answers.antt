use Rattle.std.proofs.Common.{sym}
use Rattle.mt_table.proofs.BeginMoves.{least_none, begins_there, least_first}
use Rattle.mt_table.proofs.table.Operations.least_birth.Goals as goal

pub unreachable-requires : goal.unreachable-requires
unreachable-requires c = begins_there c.self.inside.places c.self.inside.seats.slots c.self.inside.begins _ c.args.steps c.self.view_is c.self.invariant.0.begins c.in-Some.id c.in-Some.is (sym c.in-None-get.ensures)

pub returns-in-Some-get : goal.returns-in-Some-get
returns-in-Some-get c =
    rw c.deref.ensures (least_first c.self.inside.places c.self.inside.seats.slots c.self.inside.begins _ c.args.steps c.self.view_is c.self.invariant.0.begins c.in-Some.id c.in-Some.is c.in-Some-get.seat.now (sym c.in-Some-get.ensures) c.requires)

pub returns-in-None : goal.returns-in-None
returns-in-None c = least_none c.self.inside.places c.self.inside.seats.slots c.self.inside.begins _ c.args.steps c.self.view_is c.self.invariant.0.begins c.in-None.is
