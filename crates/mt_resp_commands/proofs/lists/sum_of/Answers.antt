use Rattle.std.proofs.Common.{◌≡◌, List, [], ◌∷◌, refl, rules, subst, arith}
use Rattle.std.proofs.lemmas.Grind.{common_steps}
use Rattle.mt_rows.specs.declared.command.Command.{Command}
use Rattle.mt_resp.specs.Shapes.{told_of}
use Rattle.mt_resp.specs.declared.told.Told.TheVariants as told
use Rattle.mt_resp_commands.specs.Lists.{plus}
use Rattle.mt_resp_commands.proofs.{Asking.{asked_same, asked_then}, Telling.{Continues, begins, goes_on, ends}}
use Rattle.mt_resp_commands.proofs.lists.sum_of.Goals as goal

pub loop-command-init : goal.loop-command-init
loop-command-init g c = record {
  told =
      subst (λ (x : List Command). Continues g.C.Caller.exchanges (told_of c.args.shape) plus c.args.first c.args.link.now c.args.caller.now c.args.commands.items c.args.first c.args.link.now c.args.caller.now x) (search rules)
      (begins g.C.Caller.exchanges (told_of c.args.shape) plus c.args.first c.args.link.now c.args.caller.now c.args.commands.items);
  led = asked_same g.C.Caller.exchanges c.args.caller.now c.args.caller.now refl;
}

pub loop-command-preserved : goal.loop-command-preserved
loop-command-preserved g c =
    let left = c.next.new.self.rest.items in
    let goes : c.loop-command.command-iterator.rest.items ≡ c.in-Some.command ∷ left = search rules in
    record {
      told =
          rw c.plus-sum.ensures
          (goes_on g.C.Caller.exchanges (told_of c.args.shape) plus c.args.first c.loop-command.sum c.in_ok-one.one _ _ _ _ _ _ c.args.commands.items _ left c.in-Some.command goes c.in_ok-one.ensures.told c.loop-command.invariant.told);
      led = asked_then g.C.Caller.exchanges _ _ _ c.loop-command.invariant.led c.in_ok-one.ensures.led;
    }

pub returns-in_err-one-clause-led : goal.returns-in_err-one-clause-led
returns-in_err-one-clause-led g c = asked_then g.C.Caller.exchanges _ _ _ c.loop-command.invariant.led c.in_err-one.ensures.led

pub returns-clause-sum : goal.returns-clause-sum
returns-clause-sum g c =
    let done : c.loop-command.command-iterator.rest.items ≡ [] = grind (arith, common_steps) in
    ends g.C.Caller.exchanges (told_of c.args.shape) plus c.args.first c.loop-command.sum _ _ _ _ c.args.commands.items _ done c.loop-command.invariant.told
