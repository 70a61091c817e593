use Rattle.std.proofs.{Common.{◌≡◌, ◌∙◌, Err, ap}, lemmas.Result.err_from_is_err_and}
use Rattle.mt_service.proofs.LineLemmas.{on_any, says_nothing, says_less, says_first, says_more, says_all, cause_of, cause_at}
use Rattle.mt_service.proofs.running.run_server.Goals as goal

pub returns-in-Err-clause-err : goal.returns-in-Err-clause-err
returns-in-Err-clause-err g c = says_nothing (g.W.Sink.contents c.args.out.now) c.args.options.now.sessions

pub returns-in_err-say_first-clause-err : goal.returns-in_err-say_first-clause-err
returns-in_err-say_first-clause-err g c = on_any _ (says_less _ _ _ _ c.in_err-say_first.ensures.err)

pub returns-in_err-say_first-clause-cause : goal.returns-in_err-say_first-clause-cause
returns-in_err-say_first-clause-cause g c =
    let p = err_from_is_err_and c.from_residual.result c.from_residual.ensures.1 in
    let is : c.from_residual.result ≡ Err c.in_err-say_first.field-0.0 = p.1 ∙ ap Err p.2 in
    rw is (cause_at _ _ _ c.in_err-say_first.ensures.cause)

pub returns-in_err-answers-clause-err : goal.returns-in_err-answers-clause-err
returns-in_err-answers-clause-err g c = on_any _ (says_first _ _ c.port-port.result _ c.in_ok-say_first.ensures.ok)

pub returns-in_err-say_last-clause-err : goal.returns-in_err-say_last-clause-err
returns-in_err-say_last-clause-err g c = on_any _ (says_more _ _ _ c.port-port.result _ c.in_ok-answers.field-0-0.answers c.in_ok-say_first.ensures.ok c.in_err-say_last.ensures.err)

pub returns-in_err-say_last-clause-cause : goal.returns-in_err-say_last-clause-cause
returns-in_err-say_last-clause-cause g c =
    let p = err_from_is_err_and c.from_residual-in_err-say_last.result c.from_residual-in_err-say_last.ensures.1 in
    let is : c.from_residual-in_err-say_last.result ≡ Err c.in_err-say_last.field-0.0 = p.1 ∙ ap Err p.2 in
    rw is (cause_of _ _ _ _ c.in_ok-say_first.ensures.failures c.in_err-say_last.ensures.cause)

pub returns-clause-ok : goal.returns-clause-ok
returns-clause-ok g c = says_all _ _ _ c.port-port.result _ c.in_ok-answers.field-0-0.answers c.in_ok-say_first.ensures.ok c.in_ok-say_last.ensures.ok
