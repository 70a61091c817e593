-- What a scan tells that has compared the version of its border node, who is in its way, and that memory may stop it.
use Rattle.std.proofs.Common.{inr}
use Rattle.mt_core.proofs.ScanBodies.{blocked_check, may_show, compared, stopped}
use Rattle.mt_core.proofs.looks.check_node.Goals as goal

pub show_at_end-requires : goal.show_at_end-requires
show_at_end-requires c =
    may_show c.args.arena.now c.args.operation.now c.check.new.task c.check.new.walk c.check.new.scan c.in-Ok-None.field-0 c.in-Ok-None.field-0-is c.requires c.in-Ok-None.ensures.checks
    (record { asked = c.in-Ok-None.ensures.task; stored = c.as_bytes-bytes.ensures.stored }) c.in-Ok-None.ensures.same

pub returns-in-Ok-None : goal.returns-in-Ok-None
returns-in-Ok-None c =
    compared c.args.arena.now c.args.operation.now c.args.step c.check.new.task c.check.new.walk c.check.new.scan c.show_at_end.new.operation c.in-Ok-None.field-0 c.in-Ok-None.field-0-is
    c.in-Ok-None.ensures.checks (record { asked = c.in-Ok-None.ensures.task; stored = c.as_bytes-bytes.ensures.stored }) c.in-Ok-None.ensures.same c.in-Ok-None.ensures.kept
    c.show_at_end.ensures.shows c.show_at_end.ensures.goes_on c.show_at_end.ensures.walk

pub returns-in-Ok-Some : goal.returns-in-Ok-Some
returns-in-Ok-Some c =
    blocked_check c.args.arena.now c.args.operation.now c.check.new.task c.check.new.walk c.check.new.scan c.in-Ok-Some.field-0 c.in-Ok-Some.holder c.in-Ok-Some.field-0-is c.requires
    c.in-Ok-Some.ensures.checks c.in-Ok-Some.ensures.blocked

pub returns-in-Err : goal.returns-in-Err
returns-in-Err c = inr (
  c.in-Err.ensures.unchanged_on_err,
  stopped c.args.arena.now c.args.operation.now c.args.step c.check.new.task c.check.new.walk c.check.new.scan c.stop.new.operation c.in-Err.ensures.task_on_err c.in-Err.ensures.stands_on_err c.stop.ensures,
)
