use Rattle.mt_resp.specs.{Shapes.told_of}
use Rattle.mt_resp.specs.declared.told.Told.TheVariants as told
use Rattle.mt_resp_commands.specs.{Links.{Asked, ButSettles}, Lists.{both}}
use Rattle.mt_resp_commands.proofs.Telling.{Continues}
use Rattle.mt_resp_commands.proofs.lists.all_of.Given as goal

abbrev pub invariant-loop-command : goal.invariant-loop-command
invariant-loop-command g l = record {
  told : Continues g.C.Caller.exchanges (told_of l.shape) both told.Fine l.fn.link l.fn.caller l.fn.commands.items l.all l.link l.caller l.command-iterator.rest.items;
  led : Asked (ButSettles g.C.Caller.exchanges) l.fn.caller l.caller;
}
