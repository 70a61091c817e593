-- where a field can't be written, what was there before stands at the front
use Rattle.std.proofs.Common.{[], ◌∷◌, ◌++◌, ◌∙◌}
use Rattle.mt_fields.{specs.Fields.string, proofs.Lists.{front_then, front_of, written_two}}
use Rattle.mt_wire.proofs.requests.put_command.Goals as goal

pub returns-in_err-put_string-in-Put-clause-front : goal.returns-in_err-put_string-in-Put-clause-front
returns-in_err-put_string-in-Put-clause-front c = front_then _ _ _ _ c.in_ok-push-in-Put.ensures.items c.put_string.ensures.front

pub returns-in_ok-put_string-in-Put-clause-front : goal.returns-in_ok-put_string-in-Put-clause-front
returns-in_ok-put_string-in-Put-clause-front c =
    let old = c.args.out.now.items in
    let keyed = c.put_string.new.out.items in
    front_then old keyed c.put_named_columns.new.out.items _ (written_two old c.push.new.self.items keyed (3 ∷ []) (string c.as_bytes.result.now) c.in_ok-push-in-Put.ensures.items c.in_ok-put_string-in-Put.ensures.ok) c.put_named_columns.ensures.front

pub returns-in_ok-push-in-Remove-clause-front : goal.returns-in_ok-push-in-Remove-clause-front
returns-in_ok-push-in-Remove-clause-front c = front_then _ _ _ _ c.in_ok-push-in-Remove.ensures.items c.put_string-in-Remove.ensures.front

pub returns-in_err-put_string-in-Scan-clause-front : goal.returns-in_err-put_string-in-Scan-clause-front
returns-in_err-put_string-in-Scan-clause-front c = front_then _ _ _ _ c.in_ok-extend_from_slice-in-Scan.ensures.items c.put_string-in-Scan.ensures.front

pub returns-in_err-push-in-Scan-clause-front : goal.returns-in_err-push-in-Scan-clause-front
returns-in_err-push-in-Scan-clause-front c =
    let old = c.args.out.now.items in
    front_of old c.push-in-Scan.new.self.items _ (c.in_err-push-in-Scan.ensures.items ∙ written_two old c.extend_from_slice.new.self.items c.put_string-in-Scan.new.out.items (5 ∷ c.from.result ∷ []) (string c.as_bytes-in-Scan.result.now) c.in_ok-extend_from_slice-in-Scan.ensures.items c.in_ok-put_string-in-Scan.ensures.ok)

pub returns-in_ok-push-in-Scan-clause-front : goal.returns-in_ok-push-in-Scan-clause-front
returns-in_ok-push-in-Scan-clause-front c =
    let old = c.args.out.now.items in
    let asked = c.put_string-in-Scan.new.out.items in
    let counted = c.push-in-Scan.new.self.items in
    front_then old counted c.put_indexes.new.out.items _
    (written_two old asked counted ((5 ∷ c.from.result ∷ []) ++ string c.as_bytes-in-Scan.result.now) (c.in-Scan.count ∷ [])
    (written_two old c.extend_from_slice.new.self.items asked (5 ∷ c.from.result ∷ []) (string c.as_bytes-in-Scan.result.now) c.in_ok-extend_from_slice-in-Scan.ensures.items c.in_ok-put_string-in-Scan.ensures.ok)
    c.in_ok-push-in-Scan.ensures.items)
    c.put_indexes.ensures.front
