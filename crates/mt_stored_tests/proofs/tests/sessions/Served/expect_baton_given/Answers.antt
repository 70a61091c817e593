-- The pass of a session that ends is as it was.
use Rattle.mt_stored_tests.proofs.tests.sessions.Served.expect_baton_given.Goals as goal

pub invariant_of-session : goal.invariant_of-session
invariant_of-session g c = record { one = c.expect_baton_given.new.self.caller.pass.one; empty = c.expect_baton_given.new.self.caller.pass.empty }
