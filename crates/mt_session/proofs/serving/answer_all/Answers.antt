use Rattle.std.proofs.{Common.{◌≢◌, ◌+◌, [], ◌++◌, Ok, Err, refl, sym, subst}, lemmas.Result.err_from_is_err_and}
use Rattle.mt_rows.specs.Rows.{Bytes}
use Rattle.mt_streams.{specs.Buffering.Buffers, proofs.{BufferLemmas.{Buffers-nil, Buffers-trans}, FailureLemmas.{NoFewer-refl, NoFewer-trans}}}
use Rattle.mt_session.specs.declared.answering.Stop.TheVariants.{Full}
use Rattle.mt_session.proofs.{Transcripts.{of_none, of_then}, Rounds.{answered_then, round_written, round_lost, round_failed}}
use Rattle.mt_session.proofs.serving.answer_all.Goals.{in-Waits, in-Refused, in-Memory}
use Rattle.mt_session.proofs.serving.answer_all.Goals as goal

pub loop-init : goal.loop-init
loop-init g c =
    let held = g.W.Sink.contents c.args.writer.now in
    (0, [], of_none g.C.Caller.exchanges c.args.buffers.now.input.items c.args.opened.now c.args.caller.now, subst (λ (x : Bytes). Buffers held held [] x []) (sym c.clear.ensures.items) (Buffers-nil held []), NoFewer-refl _)

pub loop-preserved : goal.loop-preserved
loop-preserved g c =
    let (count, text, transcript, put, fewer) = c.loop.invariant in
    let (n, few, full, last, answers) = rw c.in-Full.is at c.in_ok-answer.ensures.answered in
    let (more, then, puts) = answers in
    (count + n, text ++ more, of_then g.C.Caller.exchanges count n _ _ _ text more _ _ _ _ _ _ transcript then, Buffers-trans _ _ _ [] _ _ text more put puts, NoFewer-trans _ _ _ fewer c.in_ok-answer.ensures.counts)

pub returns-in_err-answer-clause-written : goal.returns-in_err-answer-clause-written
returns-in_err-answer-clause-written g c =
    let p = err_from_is_err_and c.from_residual.result c.from_residual.ensures.1 in
    let (count, text, transcript, put, fewer) = c.loop.invariant in
    let (n, few, full, last, answers) = c.in_err-answer.ensures.answered in
    let call = c.answer.new in
    let all = answered_then g.C.Caller.exchanges count n _ _ call.input.items text [] _ call.output.items _ _ call.opened _ _ call.caller _ _ (g.W.Sink.contents call.writer) (Err c.in_err-answer.field-0.0) transcript put answers in
    let (fault, written) = round_failed g.C.Caller.exchanges (count + n) _ call.input.items [] call.output.items _ call.opened _ call.caller _ (g.W.Sink.contents call.writer) c.in_err-answer.field-0.0 refl all in
    rw (p.1, p.2, fault) written

pub returns-in-Ok-clause-written : goal.returns-in-Ok-clause-written
returns-in-Ok-clause-written g c =
    let (count, text, transcript, put, fewer) = c.loop.invariant in
    let (n, few, full, last, answers) = c.in_ok-answer.ensures.answered in
    let stop = c.in_ok-answer.field-0 in
    let call = c.answer.new in
    let all = answered_then g.C.Caller.exchanges count n _ _ call.input.items text [] _ call.output.items _ _ call.opened _ _ call.caller _ _ (g.W.Sink.contents call.writer) (Ok stop) transcript put answers in
    let written = λ (last : stop ≢ Full). round_written g.C.Caller.exchanges (count + n) _ call.input.items [] call.output.items _ call.opened _ call.caller _ (g.W.Sink.contents call.writer) _ stop last refl all c.in-Ok.ensures.ok in
    elim c.match-branch-2.branch [
      | in-Waits w ↦ let is = w.in-Waits.is in rw (w.buffers-is, w.ended-is) (rw is at written (λ e. absurd cc))
      | in-Refused w ↦ let is = w.in-Refused.is in rw (w.buffers-is, w.ended-is) (rw is at written (λ e. absurd cc))
      | in-Memory w ↦ let is = w.in-Memory.is in rw (w.buffers-is, w.ended-is) (rw is at written (λ e. absurd cc))
    ]

pub returns-in-Err-clause-written : goal.returns-in-Err-clause-written
returns-in-Err-clause-written g c =
    let (count, text, transcript, put, fewer) = c.loop.invariant in
    let (n, few, full, last, answers) = c.in_ok-answer.ensures.answered in
    let call = c.answer.new in
    let all = answered_then g.C.Caller.exchanges count n _ _ call.input.items text [] _ call.output.items _ _ call.opened _ _ call.caller _ _ (g.W.Sink.contents call.writer) (Ok c.in_ok-answer.field-0) transcript put answers in
    round_lost g.C.Caller.exchanges (count + n) _ call.input.items [] call.output.items _ call.opened _ call.caller _ (g.W.Sink.contents call.writer) _ c.in_ok-answer.field-0 refl all c.in-Err.ensures.err
