-- What is noted of a crash, by what it made of the disks.
use Rattle.std.proofs.Common.{refl}
use Rattle.mt_lives.proofs.Returning.{crashes_recovered, crashes_refused, crashes_not}
use Rattle.mt_lives.proofs.crashes.crash_at_rest.Goals as goal

pub returns-then-not-branch-clause-crashes : goal.returns-then-not-branch-clause-crashes
returns-then-not-branch-clause-crashes c =
    let same = c.in_ok-crash_all.ensures.unchanged c.if-not-branch.true in
    crashes_not c.args.tenants.now c.args.slots.now c.crash_all.new.slots c.args.logs.now c.crash_all.new.logs c.args.serving.now c.args.serving.now same.1 same.0 refl

pub returns-in-Ok-clause-crashes : goal.returns-in-Ok-clause-crashes
returns-in-Ok-clause-crashes c =
    crashes_recovered c.args.tenants.now c.args.slots.now c.crash_all.new.slots c.come_back.new.slots c.args.logs.now c.crash_all.new.logs c.come_back.new.logs c.args.serving.now
    c.args.images.now (c.in_ok-crash_all.ensures.crashed c.if-not-branch.false) c.in-Ok.recovered c.in-Ok.begun c.in-Ok.ensures.recovered c.in-Ok.ensures.begins

pub returns-in-Err-clause-crashes : goal.returns-in-Err-clause-crashes
returns-in-Err-clause-crashes c =
    crashes_refused c.args.tenants.now c.args.slots.now c.crash_all.new.slots c.come_back.new.slots c.args.logs.now c.crash_all.new.logs c.come_back.new.logs c.args.serving.now
    c.args.images.now (c.in_ok-crash_all.ensures.crashed c.if-not-branch.false) c.in-Err.refusal c.in-Err.ensures.err

pub returns-then-not-branch-clause-forced : goal.returns-then-not-branch-clause-forced
returns-then-not-branch-clause-forced c = c.in_ok-crash_all.ensures.unchanged c.if-not-branch.true

pub returns-in-Ok-clause-forced : goal.returns-in-Ok-clause-forced
returns-in-Ok-clause-forced c = (c.crash_all.new.logs, c.crash_all.new.slots, c.in_ok-crash_all.ensures.crashed c.if-not-branch.false, (c.in-Ok.begun.generation, c.in-Ok.ensures.recovered))

pub returns-in-Err-clause-forced : goal.returns-in-Err-clause-forced
returns-in-Err-clause-forced c = (c.crash_all.new.logs, c.crash_all.new.slots, c.in_ok-crash_all.ensures.crashed c.if-not-branch.false, c.in-Err.ensures.err)
