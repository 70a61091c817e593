use Rattle.std.proofs.{Common.{[], ◌++◌, ◌+◌, inl, arith}, lemmas.Result.err_from_is_err_and}
use Rattle.mt_streams.proofs.{BufferLemmas.{Buffers-nil, Buffers-trans}, FailureLemmas.{NoFewer-refl, NoFewer-trans}}
use Rattle.mt_wire.specs.Replies.{reply_spelling}
use Rattle.mt_session.proofs.{Transcripts.of_none, Rounds.{one_more, call_ends, call_fails}}
use Rattle.mt_session.proofs.answering.answer.Goals as goal

pub loop-init : goal.loop-init
loop-init g c =
    ([], of_none g.C.Caller.exchanges c.args.input.now.items c.args.opened.now c.args.caller.now, Buffers-nil _ c.args.output.now.items, NoFewer-refl _, omega arith)

pub loop-preserved : goal.loop-preserved
loop-preserved g c =
    let (text, transcript, put, fewer, shorter) = c.loop.invariant in
    let (reply, answers, more) = rw c.in_default.is at c.in_ok-stop.ensures.turn in
    let less = answers.fewer in (
      text ++ reply_spelling reply,
      one_more g.C.Caller.exchanges c.loop.counter _ _ _ text _ _ _ _ _ _ reply transcript answers,
      Buffers-trans _ _ _ _ _ _ text (reply_spelling reply) put more,
      NoFewer-trans _ _ _ fewer c.in_ok-stop.ensures.counts,
      omega arith,
    )

pub returns-then-len-ge-FULL_BYTES-clause-answered :
    goal.returns-then-len-ge-FULL_BYTES-clause-answered
returns-then-len-ge-FULL_BYTES-clause-answered g c =
    let (text, transcript, put, fewer, shorter) = c.loop.invariant in
    let (reply, answers, more) = rw c.in_default.is at c.in_ok-stop.ensures.turn in (
      c.loop.counter + 1,
      omega arith,
      λ e. inl (omega arith),
      λ e. absurd cc,
      (text ++ reply_spelling reply, one_more g.C.Caller.exchanges c.loop.counter _ _ _ text _ _ _ _ _ _ reply transcript answers, Buffers-trans _ _ _ _ _ _ text (reply_spelling reply) put more),
    )

pub returns-in-Some-clause-answered : goal.returns-in-Some-clause-answered
returns-in-Some-clause-answered g c =
    let (text, transcript, put, fewer, shorter) = c.loop.invariant in
    let turn = c.answer_front.new in
    call_ends g.C.Caller.exchanges c.loop.counter c.args.calls _ c.loop.input.items turn.input.items text _ _ turn.output.items _ c.loop.opened turn.opened _ c.loop.caller turn.caller _ _ (g.W.Sink.contents turn.writer) c.in-Some.stop (omega arith) transcript put (rw c.in-Some.is at c.in_ok-stop.ensures.turn)

pub returns-in_err-stop-clause-answered : goal.returns-in_err-stop-clause-answered
returns-in_err-stop-clause-answered g c =
    let p = err_from_is_err_and c.from_residual.result c.from_residual.ensures.1 in
    let (text, transcript, put, fewer, shorter) = c.loop.invariant in
    let turn = c.answer_front.new in
    rw (p.1, p.2) (call_fails g.C.Caller.exchanges c.loop.counter c.args.calls _ c.loop.input.items turn.input.items text _ _ turn.output.items _ c.loop.opened turn.opened _ c.loop.caller turn.caller _ _ (g.W.Sink.contents turn.writer) c.in_err-stop.field-0.0 (omega arith) transcript put c.in_err-stop.ensures.turn)
