use Rattle.std.proofs.{Common.{ap, ap₂, ◌∙◌}, lemmas.Result.IfOk-weaker}
use Rattle.clap.specs.{Words.with_rule, Simple.app_of_fields}
use Rattle.mt_command_line.specs.CommandLine.{server, with_version}
use Rattle.mt_command_line.proofs.command.command_of.Goals as goal

pub returns : goal.returns
unfolding server
returns c =
    let named = ap app_of_fields c.in_ok-bin_name.ensures.0 ∙ c.new.ensures.app in
    let empty = ap app_of_fields c.about.ensures ∙ (ap app_of_fields c.version.ensures ∙ ap with_version named) in
    let one = c.in_ok-arg.ensures.shape c.port_arg.ensures.local ∙ ap₂ with_rule empty c.port_arg.ensures.rule in
    let two = c.in_ok-arg-2.ensures.shape c.workers_arg.ensures.local ∙ ap₂ with_rule one c.workers_arg.ensures.rule in
    let three = c.in_ok-arg-3.ensures.shape c.sessions_arg.ensures.local ∙ ap₂ with_rule two c.sessions_arg.ensures.rule in
    let four = c.in_ok-arg-4.ensures.shape c.store_arg.ensures.local ∙ ap₂ with_rule three c.store_arg.ensures.rule in
    let five = c.in_ok-arg-5.ensures.shape c.create_arg.ensures.local ∙ ap₂ with_rule four c.create_arg.ensures.rule in
    let six = c.in_ok-arg-6.ensures.shape c.checkpoint_arg.ensures.local ∙ ap₂ with_rule five c.checkpoint_arg.ensures.rule in
    let seven = c.in_ok-arg-7.ensures.shape c.checkpoint_bytes_arg.ensures.local ∙ ap₂ with_rule six c.checkpoint_bytes_arg.ensures.rule in
    let eight = c.in_ok-arg-8.ensures.shape c.settle_every_arg.ensures.local ∙ ap₂ with_rule seven c.settle_every_arg.ensures.rule in
    let nine = c.in_ok-arg-9.ensures.shape c.verify_arg.ensures.local ∙ ap₂ with_rule eight c.verify_arg.ensures.rule in
    let ten = c.in_ok-arg-10.ensures.shape c.connections_arg.ensures.local ∙ ap₂ with_rule nine c.connections_arg.ensures.rule in
    let eleven = c.in_ok-arg-11.ensures.shape c.idle_arg.ensures.local ∙ ap₂ with_rule ten c.idle_arg.ensures.rule in
    IfOk-weaker c.arg-12.result _ _ (λ command added. added.shape c.tenants_arg.ensures.local ∙ ap₂ with_rule eleven c.tenants_arg.ensures.rule) c.arg-12.ensures
