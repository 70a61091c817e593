use Rattle.mt_alone.proofs.Callers.{answers_held, answers_behind}
use Rattle.mt_alone.proofs.alone.run.Goals as goal

pub returns-in-Err : goal.returns-in-Err
returns-in-Err c = answers_held c.args.state.now c.finish_stuck.new.state c.finish_stuck.new.stuck c.args.tenant c.args.command c.in-Err.fault c.in-Err.ensures c.requires.there

pub returns-in-Ok : goal.returns-in-Ok
returns-in-Ok c = answers_behind c.args.state.now c.finish_stuck.new.state c.answer.new.state c.finish_stuck.new.stuck c.answer.new.stuck c.args.tenant c.args.command c.answer.result _ c.in-Ok.ensures c.answer.ensures
