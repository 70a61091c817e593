use Rattle.std.proofs.Common.{◌≡◌}
use Rattle.mt_service.specs.Turners.{turner_of, Works}
use Rattle.mt_service.proofs.turners.Turner.run.Given as goal

-- what was done so far
abbrev pub invariant-loop : goal.invariant-loop
invariant-loop g l = record {
  works : Works g.D.Desk.does g.K.Disk.is_honest g.K.Disk.state g.K.Disk.failures g.S.Logs.does g.S.Logs.logs g.G.Digests.does l.fn.self.tenants.now (turner_of l.fn.self) (turner_of l.self);
  tenants : l.self.tenants.now ≡ l.fn.self.tenants.now;
}
