use Rattle.mt_service.specs.Accounts.{AreAccountsOf}
use Rattle.mt_service.proofs.accounts.accounts_of.Given as goal

-- the tenants so far have their accounts
abbrev pub invariant-loop-one : goal.invariant-loop-one
invariant-loop-one l = AreAccountsOf l.one-index l.tenants l.accounts
