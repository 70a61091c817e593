-- A checkpoint is given up, and then the disks of slots at rest crash.
use Rattle.std.proofs.Common.{sym, ◌∙◌}
use Rattle.mt_lives.proofs.Returning.{crashes_live, crashed_at_rest}
use Rattle.mt_lives.proofs.crashes.crash.Goals as goal

pub returns-clause-crashes : goal.returns-clause-crashes
returns-clause-crashes c =
    crashes_live c.args.tenants.now c.args.slots.now _ c.in-Rest.slots c.args.logs.now c.crash_at_rest.new.logs c.args.serving.now c.crash_at_rest.new.serving c.crash_at_rest.result
    (sym c.rest.ensures ∙ c.in-Rest.is) c.crash_at_rest.ensures.crashes

pub returns-clause-forced : goal.returns-clause-forced
returns-clause-forced c =
    crashed_at_rest c.args.tenants.now c.args.images.now c.args.slots.now c.in-Rest.slots c.crash_at_rest.new.slots c.args.logs.now c.crash_at_rest.new.logs c.crash_at_rest.result
    (sym c.rest.ensures ∙ c.in-Rest.is) c.crash_at_rest.ensures.forced
