use Rattle.std.proofs.Common.{◌≡◌, ◌<◌, length, drop, Ok, subst, sym, arith}
use Rattle.std.proofs.lemmas.List.{length-drop}
use Rattle.mt_resp.specs.Commands.{command_at, IsWhole}
use Rattle.mt_resp_session.proofs.Calls.{front_put}
use Rattle.mt_resp_session.proofs.session.answer_front.Goals as goal

pub returns : goal.returns
returns g c =
    let whole : IsWhole c.args.input.now.items c.in-Ok-Whole.words c.in-Ok-Whole.len = rw (c.in-Ok-Whole.field-0-is, c.as_slice.ensures) at c.in-Ok-Whole.ensures in
    let rest = c.advance.ensures.items in
    let less = length-drop c.in-Ok-Whole.len c.args.input.now.items in
    record {
      front =
          front_put g.C.Caller.exchanges g.C.Knows.knows c.args.input.now.items c.advance.new.self.items c.args.output.now.items c.put_answer.new.output.items c.in-Ok-Whole.words c.in-Ok.asked c.args.session.now c.put_answer.new.link c.args.caller.now c.put_answer.new.caller c.put_answer.result
          (subst (λ x. command_at c.args.input.now.items ≡ Ok (c.in-Ok-Whole.words, x)) (sym rest) whole.reads) c.in-Ok.ensures (subst (λ x. length x < length c.args.input.now.items) (sym rest) (omega arith)) c.put_answer.ensures.put;
      asked = c.put_answer.ensures.asked;
    }
