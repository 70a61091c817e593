-- a command is begun and run by itself
use Rattle.std.proofs.Common.{Ok, Err, sym, subst}
use Rattle.mt_rows.specs.declared.refusal.Refusal.TheVariants.{Spent}
use Rattle.mt_caller.specs.declared.caller.CallerFault.TheVariants.{Refused}
use Rattle.mt_alone.{specs.{declared.runs.Unfinished.Unfinished, Runs.Finishes, Callers.Answers}, proofs.Callers.{answers_refused, answers_done, answers_stuck, answers_spent, idle_before}}
use Rattle.mt_alone.proofs.alone.answer.Goals as goal

pub returns-in-Err : goal.returns-in-Err
returns-in-Err c =
    let v = c.args.state.now in
    let told = answers_refused v c.args.stuck.now c.args.tenant c.args.command c.in-Err.refusal c.requires.there c.requires.alone c.requires.free c.in-Err.ensures.refused in
    subst (λ new. Answers v new c.args.tenant c.args.command (Err (Refused c.in-Err.refusal)) c.args.stuck.now) (sym c.in-Err.ensures.told) told

pub returns-in-Ok-finish : goal.returns-in-Ok-finish
returns-in-Ok-finish c =
    let o = c.in-Ok.ticket.id in
    subst (Answers c.args.state.now c.finish.new.state c.args.tenant c.args.command (Ok c.in-Ok-finish.reply)) (sym (c.requires.free c.in-Ok.ensures.refused.numbered))
    (answers_done c.args.state.now c.begin.new.self o c.args.tenant c.args.command c.facts.ensures (idle_before c.args.state.now c.args.stuck.now c.requires.alone c.requires.free) c.in-Ok.ensures.told c.in-Ok.ensures.refused c.finish.new.state c.in-Ok-finish.reply c.in-Ok-finish.ensures)

pub returns-in-Err-Stuck : goal.returns-in-Err-Stuck
returns-in-Err-Stuck c =
    let o = c.in-Ok.ticket.id in
    answers_stuck c.args.state.now c.begin.new.self o c.args.tenant c.args.command c.facts.ensures (idle_before c.args.state.now c.args.stuck.now c.requires.alone c.requires.free) c.in-Ok.ensures.told c.in-Ok.ensures.refused c.finish.new.state c.in-Err-Stuck.ticket
    (subst (λ (u : Unfinished). Finishes c.begin.new.self c.finish.new.state o (Err u)) c.in-Err-Stuck.field-0-is c.in-Err-Stuck.ensures)

pub returns-in-Err-Spent : goal.returns-in-Err-Spent
returns-in-Err-Spent c =
    let o = c.in-Ok.ticket.id in
    subst (Answers c.args.state.now c.finish.new.state c.args.tenant c.args.command (Err (Refused Spent))) (sym (c.requires.free c.in-Ok.ensures.refused.numbered))
    (answers_spent c.args.state.now c.begin.new.self o c.args.tenant c.args.command c.facts.ensures (idle_before c.args.state.now c.args.stuck.now c.requires.alone c.requires.free) c.in-Ok.ensures.told c.in-Ok.ensures.refused c.finish.new.state c.in-Err-Spent.field-0-0
    (subst (λ (u : Unfinished). Finishes c.begin.new.self c.finish.new.state o (Err u)) c.in-Err-Spent.field-0-is c.in-Err-Spent.ensures))
