-- What was done so far, and one deed more.
use Rattle.std.proofs.Common.{◌∙◌, ◌<◌, length, List, subst, rules, arith}
use Rattle.mt_options.specs.declared.tenants.TenantQuota.{TenantQuota}
use Rattle.mt_service.specs.Turners.{turner_of, MayTurn, BySettling}
use Rattle.mt_service.specs.Turning.{Finishes}
use Rattle.mt_service.proofs.TurnerLemmas.{may_work_on, works_on, finish_work}
use Rattle.mt_service.proofs.turners.Turner.run.Goals as goal

pub returns-in-Over : goal.returns-in-Over
returns-in-Over g c =
    let same = c.loop.invariant.tenants in
    let some : 0 < length c.loop.self.tenants.now = search (rules, arith) in
    finish_work g.D.Desk.does g.K.Disk.is_honest g.K.Disk.state g.K.Disk.failures g.S.Logs.does g.S.Logs.logs g.G.Digests.does c.args.self.now.tenants.now (turner_of c.args.self.now) (turner_of c.loop.self) (turner_of c.finish.new.self) c.deref_mut.result.now.checks c.finish.new.checks c.loop.invariant.works
    (subst (λ (tenants : List TenantQuota). Finishes g.D.Desk.does g.K.Disk.is_honest g.K.Disk.state g.K.Disk.failures g.S.Logs.does g.S.Logs.logs g.G.Digests.does tenants c.deref_mut.result.now.checks (turner_of c.loop.self) c.finish.new.checks (turner_of c.finish.new.self)) same (c.finish.ensures.turn some))

pub loop-preserved-in-Due : goal.loop-preserved-in-Due
loop-preserved-in-Due g c = record {
  works =
      may_work_on g.D.Desk.does g.K.Disk.is_honest g.K.Disk.state g.K.Disk.failures g.S.Logs.does g.S.Logs.logs g.G.Digests.does c.args.self.now.tenants.now (turner_of c.args.self.now) (turner_of c.loop.self) (turner_of c.make_turn_if_due.new.self) c.loop.invariant.works
      (subst (λ (tenants : List TenantQuota). MayTurn g.D.Desk.does g.K.Disk.is_honest g.K.Disk.state g.K.Disk.failures g.S.Logs.does g.S.Logs.logs g.G.Digests.does tenants (turner_of c.loop.self) (turner_of c.make_turn_if_due.new.self)) c.loop.invariant.tenants c.make_turn_if_due.ensures.turn);
  tenants = c.make_turn_if_due.ensures.tenants ∙ c.loop.invariant.tenants;
}

pub loop-preserved-then-passes : goal.loop-preserved-then-passes
loop-preserved-then-passes g c = record {
  works =
      works_on g.D.Desk.does g.K.Disk.is_honest g.K.Disk.state g.K.Disk.failures g.S.Logs.does g.S.Logs.logs g.G.Digests.does c.args.self.now.tenants.now (turner_of c.args.self.now) (turner_of c.loop.self) (turner_of c.settle_if_answered.new.self) BySettling c.loop.invariant.works
      c.settle_if_answered.ensures.settles;
  tenants = c.settle_if_answered.ensures.tenants ∙ c.loop.invariant.tenants;
}
