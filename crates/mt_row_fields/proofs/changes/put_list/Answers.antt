-- if a column can't be written, what was there before stands at the front
use Rattle.mt_fields.proofs.Lists.{front_then}
use Rattle.mt_row_fields.proofs.changes.put_list.Goals as goal

pub returns-in_err-put_named-clause-front : goal.returns-in_err-put_named-clause-front
returns-in_err-put_named-clause-front c =
    front_then c.args.out.now.items c.loop-named.out.items c.put_named.new.out.items _ c.loop-named.invariant c.put_named.ensures.front
