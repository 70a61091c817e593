use Rattle.std.proofs.Common.{◌≡◌, ◌<◌, List, ◌++◌, ◌∷◌, [], ◌∙◌, sym, ap, length, get_or, rules, arith}
use Rattle.mt_rows.specs.{Rows.Bytes, Stamps.Stamped, declared.command.Command.Command}
use Rattle.mt_rows.specs.declared.command.Command.TheVariants as commands
use Rattle.mt_resp_commands.proofs.Pages.{removes_more}
use Rattle.mt_resp_commands.proofs.clears.removes_of.Goals as goal

pub loop-key-preserved : goal.loop-key-preserved
loop-key-preserved c =
    let item = c.loop-key-item.result in
    let same : c.in_ok-copied.field-0 ≡ item.0 = c.in_ok-copied.ensures in
    let long = ap length c.as_slice-key-items.ensures.pairs in
    let place : c.loop-key.key-index < length c.args.pairs.now = omega arith in
    let here : item ≡ get_or c.args.pairs.now c.loop-key.key-index item = c.loop-key-item.is ∙ ap (λ (l : List (Bytes × Stamped)). get_or l c.loop-key.key-index item) c.as_slice-key-items.ensures.pairs in
    c.in_ok-push.ensures.items ∙ ap (λ (k : Bytes). c.loop-key.commands.items ++ (commands.Remove k ∷ [])) same
    ∙ ap (λ (l : List Command). l ++ (commands.Remove item.0 ∷ [])) c.loop-key.invariant ∙ sym (removes_more c.args.pairs.now c.loop-key.key-index item place here)
