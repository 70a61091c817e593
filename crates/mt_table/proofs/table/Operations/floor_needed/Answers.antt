use Rattle.std.proofs.Common.{sym}
use Rattle.mt_table.proofs.TableMoves.{floor_none, first_there, first_begun, floor_first}
use Rattle.mt_table.proofs.table.Operations.floor_needed.Goals as goal

pub overflow_sub-result : goal.overflow_sub-result
overflow_sub-result c = rw c.deref.ensures (first_begun c.self.inside.seats.slots c.self.inside.first_steps c.in-Some.id c.self.invariant.0.first_steps c.in-Some.is c.in-Some-get.seat.now (sym c.in-Some-get.ensures))

pub unreachable-requires : goal.unreachable-requires
unreachable-requires c = first_there c.self.inside.seats.slots c.self.inside.first_steps c.in-Some.id c.self.invariant.0.first_steps c.in-Some.is (sym c.in-None-get.ensures)

pub returns-in-Some-get : goal.returns-in-Some-get
returns-in-Some-get c = rw c.deref.ensures (floor_first c.self.inside.seats.slots c.self.inside.first_steps c.in-Some.id c.self.invariant.0.first_steps c.in-Some.is c.self.inside.places c.in-Some-get.seat.now _ c.args.steps c.self.view_is c.requires (sym c.in-Some-get.ensures))

pub returns-in-None : goal.returns-in-None
returns-in-None c = floor_none c.self.inside.places c.self.inside.seats.slots c.self.inside.first_steps _ c.args.steps c.self.view_is c.self.invariant.0.first_steps c.in-None.is
