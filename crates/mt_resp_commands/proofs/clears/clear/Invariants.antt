use Rattle.std.proofs.Common.{ℕ}
use Rattle.mt_resp.specs.declared.told.Told.TheVariants as told
use Rattle.mt_resp_commands.specs.{Links.{Asked, ButSettles}, Clears.ArePagesCleared}
use Rattle.mt_resp_commands.proofs.clears.clear.Given as goal

abbrev pub invariant-loop : goal.invariant-loop
invariant-loop g l = record {
  pages : (n : ℕ) × ArePagesCleared n g.C.Caller.exchanges l.fn.link l.fn.caller l.last (told.Number l.count) l.link l.caller;
  led : Asked (ButSettles g.C.Caller.exchanges) l.fn.caller l.caller;
}
