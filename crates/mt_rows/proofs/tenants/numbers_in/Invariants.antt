-- The numbers so far, and those that come.
use Rattle.std.proofs.Common.{◌≡◌, ◌++◌}
use Rattle.mt_rows.specs.Accounts.{numbers_of}
use Rattle.mt_rows.proofs.tenants.numbers_in.Given as goal

abbrev pub invariant-loop-tenant : goal.invariant-loop-tenant
invariant-loop-tenant l = l.numbers.items ++ l.tenant-iterator ≡ numbers_of l.accounts.entries
