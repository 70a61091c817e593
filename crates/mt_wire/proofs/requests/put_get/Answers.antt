-- if a field can't be written, what was there before stands at the front
use Rattle.mt_fields.{specs.Fields.string, proofs.Lists.{front_then, written_two}}
use Rattle.std.proofs.Common.{[], ◌∷◌}
use Rattle.mt_wire.proofs.requests.put_get.Goals as goal

pub returns-in_err-put_string-clause-front : goal.returns-in_err-put_string-clause-front
returns-in_err-put_string-clause-front c = front_then _ _ _ _ c.in_ok-push.ensures.items c.put_string.ensures.front

pub returns-clause-front : goal.returns-clause-front
returns-clause-front c =
    let old = c.args.out.now.items in
    let keyed = c.put_string.new.out.items in
    front_then old keyed c.put_indexes.new.out.items _ (written_two old c.push.new.self.items keyed (c.args.kind ∷ []) (string c.as_bytes.result.now) c.in_ok-push.ensures.items c.in_ok-put_string.ensures.ok) c.put_indexes.ensures.front
