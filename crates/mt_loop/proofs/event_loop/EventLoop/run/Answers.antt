use Rattle.mt_loop.proofs.Deeds.{led_none, led_then}
use Rattle.mt_loop.proofs.event_loop.EventLoop.run.Goals as goal

pub loop-init : goal.loop-init
loop-init g c = record { can_next = tt; is_finite = tt; led = led_none g.C.Caller.exchanges g.C.Sharing.resumes c.args.caller.now.caller }

pub loop-preserved : goal.loop-preserved
loop-preserved g c = record { can_next = tt; is_finite = tt; led = led_then g.C.Caller.exchanges g.C.Sharing.resumes c.args.caller.now.caller c.loop.caller.caller c.round.new.caller.caller c.loop.invariant.led c.round.ensures.led }

pub returns-in_err-round : goal.returns-in_err-round
returns-in_err-round g c = record { led = led_then g.C.Caller.exchanges g.C.Sharing.resumes c.args.caller.now.caller c.loop.caller.caller c.round.new.caller.caller c.loop.invariant.led c.round.ensures.led }
