-- The first of all is the first of those that are left.
use Rattle.std.proofs.Common.{◌≡◌, drop}
use Rattle.mt_rows.specs.TenantPairs.{quota_in}
use Rattle.mt_recover.specs.Quotas.{first_unknown}
use Rattle.mt_recover.proofs.quotas.first_unknown.Given as goal

abbrev pub invariant-loop-pair : goal.invariant-loop-pair
invariant-loop-pair l = first_unknown (quota_in l.tenants) (drop l.pair-index l.pairs) ≡ first_unknown (quota_in l.tenants) l.pairs
