use Rattle.std.proofs.Common.{◌≡◌, ℕ, List, [], ◌∷◌, ◌++◌, length, refl, rules, subst, sym, ap, ◌∙◌, append_assoc, arith}
use Rattle.std.proofs.lemmas.Grind.{common_steps}
use Rattle.mt_rows.specs.{Rows.Bytes, declared.command.Command.Command}
use Rattle.mt_resp.specs.{Replies.told_text, Numbers.number_line, Shapes.told_of}
use Rattle.mt_resp_commands.proofs.{Asking.{asked_same, asked_then}, Telling.{WritesOn, write_begins, write_goes_on, write_ends, front_then, front_of}}
use Rattle.mt_resp_commands.proofs.lists.write_each.Goals as goal

pub loop-command-init : goal.loop-command-init
loop-command-init g c =
    let held : Bytes = c.args.output.now.items ++ number_line 42 (length c.args.commands) in
    let put : c.write_number.new.out.items ≡ held = c.in_ok-write_number.ensures.ok ∙ ap (λ (n : ℕ). c.args.output.now.items ++ number_line 42 n) c.len.ensures in
    record {
      writes =
          subst (λ (x : Bytes). WritesOn g.C.Caller.exchanges (told_of c.args.shape) held c.args.link.now c.args.caller.now c.args.commands x c.args.link.now c.args.caller.now c.into_iter-command-iterator.result.rest.items) (sym put)
          (subst (λ (x : List Command). WritesOn g.C.Caller.exchanges (told_of c.args.shape) held c.args.link.now c.args.caller.now c.args.commands held c.args.link.now c.args.caller.now x) (search rules)
          (write_begins g.C.Caller.exchanges (told_of c.args.shape) held c.args.link.now c.args.caller.now c.args.commands));
      front = (number_line 42 (length c.args.commands), put);
      led = asked_same g.C.Caller.exchanges c.args.caller.now c.args.caller.now refl;
    }

pub loop-command-preserved : goal.loop-command-preserved
loop-command-preserved g c =
    let left = c.next.new.self.rest.items in
    let goes : c.loop-command.command-iterator.rest.items ≡ c.in-Some.command ∷ left = search rules in
    let front = c.loop-command.invariant.front in
    let (one, told, put) = c.in_ok-write_one.ensures.ok in
    record {
      writes = write_goes_on g.C.Caller.exchanges (told_of c.args.shape) _ _ _ one _ _ _ _ _ _ c.args.commands _ left c.in-Some.command goes told put c.loop-command.invariant.writes;
      front = (front.0 ++ told_text one, put ∙ ap (λ x. x ++ told_text one) front.1 ∙ append_assoc c.args.output.now.items front.0 (told_text one));
      led = asked_then g.C.Caller.exchanges _ _ _ c.loop-command.invariant.led c.in_ok-write_one.ensures.led;
    }

pub returns-in_err-write_one-clause-front : goal.returns-in_err-write_one-clause-front
returns-in_err-write_one-clause-front g c =
    let front = c.loop-command.invariant.front in
    front_then c.args.output.now.items c.loop-command.output.items c.write_one.new.output.items front.0 front.1 c.write_one.ensures.front

pub returns-in_err-write_one-clause-led : goal.returns-in_err-write_one-clause-led
returns-in_err-write_one-clause-led g c = asked_then g.C.Caller.exchanges _ _ _ c.loop-command.invariant.led c.in_err-write_one.ensures.led

pub returns-clause-ok : goal.returns-clause-ok
returns-clause-ok g c =
    let done : c.loop-command.command-iterator.rest.items ≡ [] = grind (arith, common_steps) in
    let (all, told, put) = write_ends g.C.Caller.exchanges (told_of c.args.shape) _ _ _ _ _ _ c.args.commands _ done c.loop-command.invariant.writes in
    (all, told, put ∙ append_assoc c.args.output.now.items _ _)

pub returns-clause-front : goal.returns-clause-front
returns-clause-front g c = let front = c.loop-command.invariant.front in front_of c.args.output.now.items c.loop-command.output.items front.0 front.1
