-- What was seen is kept, and the scan is done or goes on.
use Rattle.std.proofs.Common.{sym, subst}
use Rattle.mt_scan.{specs.Goings.HasBehind, proofs.Checking.{keeps_all, keeps_some, on_both}}
use Rattle.mt_scan.proofs.phases.check.keep.Goals as goal

pub returns-then-branch-clause-keeps : goal.returns-then-branch-clause-keeps
returns-then-branch-clause-keeps c count columns asks =
    keeps_all c.args.prefix.now c.args.task.now count columns c.args.scan.now c.collect.new.scan c.in_ok-collect.field-0
    (c.in_ok-collect.ensures count columns asks) c.args.walk.now c.if-branch.true

pub go_behind-requires : goal.go_behind-requires
go_behind-requires c = let a = c.requires.asked in subst (HasBehind c.args.prefix.now) (sym (c.in_ok-collect.ensures a.count a.columns a.asks).stop_is) c.requires.fence

pub returns-clause-keeps : goal.returns-clause-keeps
returns-clause-keeps c count columns asks =
    on_both c.go_behind.result
    (keeps_some c.args.prefix.now c.args.task.now count columns c.args.scan.now c.collect.new.scan c.in_ok-collect.field-0
    (c.in_ok-collect.ensures count columns asks) c.args.walk.now c.if-branch.false _ _)
    c.go_behind.ensures.goes c.go_behind.ensures.stored
