use Rattle.mt_loop.specs.Deeds.{Led}
use Rattle.mt_loop.proofs.event_loop.EventLoop.run.Given as goal

-- the caller was led on so far
abbrev pub invariant-loop : goal.invariant-loop
invariant-loop g l = record {
  can_next : (goal.iterator-loop g).can_next l.iterator';
  is_finite : (goal.iterator-loop g).is_finite l.iterator';
  led : Led g.C.Caller.exchanges g.C.Sharing.resumes l.fn.caller.caller l.caller.caller;
}
