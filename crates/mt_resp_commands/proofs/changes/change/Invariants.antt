use Rattle.mt_resp_commands.specs.{Links.{Asked, ButSettles}, Changes.{AreLate}}
use Rattle.mt_resp_commands.proofs.changes.change.Given as goal

abbrev pub invariant-loop : goal.invariant-loop
invariant-loop g l = record {
  late : AreLate l.counter g.C.Caller.exchanges l.fn.link l.fn.caller l.key l.edit l.link l.caller;
  led : Asked (ButSettles g.C.Caller.exchanges) l.fn.caller l.caller;
}
