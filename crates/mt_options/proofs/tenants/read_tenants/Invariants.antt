use Rattle.std.proofs.Common.{map, take}
use Rattle.mt_options.specs.Tenants.{AreTenants}
use Rattle.mt_options.proofs.tenants.read_tenants.Given as goal

-- the words so far name the tenants
abbrev pub invariant-loop-at : goal.invariant-loop-at
invariant-loop-at l = AreTenants (take l.at (map (λ w. w.now) l.words)) l.tenants.items
