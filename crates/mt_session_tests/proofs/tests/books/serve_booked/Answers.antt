-- What holds of a pass between two calls holds of the caller's at the end of its session.
use Rattle.mt_session_tests.proofs.tests.books.serve_booked.Goals as goal

pub invariant_of-caller : goal.invariant_of-caller
invariant_of-caller g c = record { one = c.serve-ended.new.caller.pass.one; empty = c.serve-ended.new.caller.pass.empty }
