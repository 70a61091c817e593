use Rattle.std.proofs.{Common.{Some, Ok, Err}, lemmas.Result.err_from_is_err_and}
use Rattle.mt_session.proofs.Rounds.{round_lost, round_failed}
use Rattle.mt_loop.proofs.{Asking.asked_answered, Sessions.flushed}
use Rattle.mt_loop.proofs.connection.answer_into.Goals as goal

pub returns-in_err-stop-clause-told : goal.returns-in_err-stop-clause-told
returns-in_err-stop-clause-told g c =
    let p = err_from_is_err_and c.from_residual.result c.from_residual.ensures.1 in
    let (n, few, full, last, answers) = c.in_err-stop.ensures.answered in
    let call = c.answer.new in
    let (fault, written) = round_failed g.C.Caller.exchanges n _ call.input.items _ call.output.items _ call.opened _ call.caller (Some c.args.unsent.now.bytes.items) (Some call.writer.bytes.items) c.in_err-stop.field-0.0 c.new-output.ensures.items answers in
    rw (p.1, p.2, fault) written

pub returns-in-Ok-clause-told : goal.returns-in-Ok-clause-told
returns-in-Ok-clause-told g c =
    let (n, few, full, last, answers) = c.in_ok-stop.ensures.answered in
    let call = c.answer.new in
    flushed g.C.Caller.exchanges n c.args.input.now.items call.input.items c.new-output.result.items call.output.items c.args.opened.now call.opened c.args.caller.now call.caller c.args.unsent.now.bytes.items call.writer.bytes.items c.flush.new.writer.bytes.items c.in_ok-stop.stop c.new-output.ensures.items answers c.in-Ok.ensures.ok

pub returns-clause-told : goal.returns-clause-told
returns-clause-told g c =
    let (n, few, full, last, answers) = c.in_ok-stop.ensures.answered in
    let call = c.answer.new in
    round_lost g.C.Caller.exchanges n _ call.input.items _ call.output.items _ call.opened _ call.caller (Some c.args.unsent.now.bytes.items) (Some call.writer.bytes.items) (Some c.flush.new.writer.bytes.items) c.in_ok-stop.stop c.new-output.ensures.items answers c.in-Err.ensures.err

pub returns-in_err-stop-clause-asked : goal.returns-in_err-stop-clause-asked
returns-in_err-stop-clause-asked g c = λ other.
    let (n, few, full, last, answers) = c.in_err-stop.ensures.answered in
    let call = c.answer.new in
    asked_answered g.C.Caller.exchanges n c.args.input.now.items call.input.items c.new-output.result.items call.output.items c.args.opened.now call.opened c.args.caller.now call.caller (Some c.args.unsent.now.bytes.items) (Some call.writer.bytes.items) (Err c.in_err-stop.field-0.0) few last other answers

pub returns-in-Ok-clause-asked : goal.returns-in-Ok-clause-asked
returns-in-Ok-clause-asked g c = λ other.
    let (n, few, full, last, answers) = c.in_ok-stop.ensures.answered in
    let call = c.answer.new in
    asked_answered g.C.Caller.exchanges n c.args.input.now.items call.input.items c.new-output.result.items call.output.items c.args.opened.now call.opened c.args.caller.now call.caller (Some c.args.unsent.now.bytes.items) (Some call.writer.bytes.items) (Ok c.in_ok-stop.stop) few last other answers

pub returns-clause-asked : goal.returns-clause-asked
returns-clause-asked g c = λ other.
    let (n, few, full, last, answers) = c.in_ok-stop.ensures.answered in
    let call = c.answer.new in
    asked_answered g.C.Caller.exchanges n c.args.input.now.items call.input.items c.new-output.result.items call.output.items c.args.opened.now call.opened c.args.caller.now call.caller (Some c.args.unsent.now.bytes.items) (Some call.writer.bytes.items) (Ok c.in_ok-stop.stop) few last other answers
