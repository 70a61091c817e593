use Rattle.std.proofs.Common.{◌≡◌, ◌++◌, length}
use Rattle.mt_rows.specs.Rows.{Bytes}
use Rattle.mt_resp.specs.{Shapes.told_of, Numbers.number_line}
use Rattle.mt_resp_commands.specs.Links.{Asked, ButSettles}
use Rattle.mt_resp_commands.proofs.Telling.{WritesOn}
use Rattle.mt_resp_commands.proofs.lists.write_each.Given as goal

abbrev pub invariant-loop-command : goal.invariant-loop-command
invariant-loop-command g l = record {
  writes : WritesOn g.C.Caller.exchanges (told_of l.shape) (l.fn.output.items ++ number_line 42 (length l.fn.commands)) l.fn.link l.fn.caller l.fn.commands l.output.items l.link l.caller l.command-iterator.rest.items;
  front : (more : Bytes) × (l.output.items ≡ l.fn.output.items ++ more);
  led : Asked (ButSettles g.C.Caller.exchanges) l.fn.caller l.caller;
}
