use Rattle.std.proofs.{Common.{◌+◌, [], sym, subst, ◌∙◌, inl, inr, arith}, lemmas.Bool.eqb-true, lemmas.List.nil_from_length}
use Rattle.std.proofs.lemmas.Result.{err_from_is_err_and}
use Rattle.mt_rows.specs.Rows.{Bytes}
use Rattle.mt_wire.specs.Fronts.{IsPartial}
use Rattle.mt_streams.proofs.FailureLemmas.{NoFewer-refl, NoFewer-trans, then-Failed}
use Rattle.mt_session.proofs.Servings.{Serving, begins, partial_is_short, read_on, kept_on, round_on, is_closed, fails, round_ends, round_fails}
use Rattle.mt_session.specs.declared.ended.ServeFault.TheVariants as faults
use Rattle.mt_session.proofs.serving.serve_with.Goals as goal

no_bytes : IsPartial []
no_bytes = inl (omega arith)

pub read_more-requires : goal.read_more-requires
read_more-requires g c = partial_is_short _ c.loop.invariant.partial

pub loop-init : goal.loop-init
loop-init g c =
    let before = g.R.Source.remaining c.args.reader.now in
    let held = g.W.Sink.contents c.args.writer.now in
    let empty = c.clear.ensures.items in
    record {
      serving =
          subst (λ (x : Bytes). Serving g.C.Caller.exchanges before before held held c.args.caller.now c.args.caller.now x _ 0) (sym empty) (begins g.C.Caller.exchanges before held c.args.caller.now);
      partial = subst IsPartial (sym empty) no_bytes;
      reader = NoFewer-refl _;
      writer = NoFewer-refl _;
    }

pub returns-in_err-count : goal.returns-in_err-count
returns-in_err-count g c =
    let p = err_from_is_err_and c.from_residual.result c.from_residual.ensures.1 in
    let (same, kept) = c.in_err-count.ensures.err in
    let sv = kept_on g.C.Caller.exchanges _ _ _ _ _ _ _ _ _ _ _ c.loop.invariant.serving kept same in
    rw (p.1, p.2) (fails g.C.Caller.exchanges _ _ _ _ _ _ _ _ _ _ _ c.in_err-count.field-0.0 sv (subst IsPartial (sym same) c.loop.invariant.partial)
    (λ e. inl (then-Failed _ _ _ c.loop.invariant.reader (c.in_err-count.ensures.cause e))) (λ e. absurd (c.in_err-count.ensures.fault e)))

pub returns-then-is_empty : goal.returns-then-is_empty
returns-then-is_empty g c =
    let (more, len, e, consumed) = c.in_ok-count.ensures.ok in
    let sv = read_on g.C.Caller.exchanges _ c.loop.counter _ _ _ _ _ _ _ _ more _ _ c.loop.invariant.serving consumed e (omega arith) in
    is_closed g.C.Caller.exchanges _ _ _ _ _ _ _ _ _ _ _ sv (c.in_ok-count.ensures.end (omega arith)) (nil_from_length _ (eqb-true _ _ (sym c.is_empty.ensures ∙ c.if-is_empty.true)))

pub returns : goal.returns
returns g c =
    fails g.C.Caller.exchanges _ _ _ _ _ _ _ _ _ _ _ faults.Read c.loop.invariant.serving c.loop.invariant.partial (λ e. inr (omega arith)) (λ e. absurd cc)

pub returns-in_err-ended : goal.returns-in_err-ended
returns-in_err-ended g c =
    let p = err_from_is_err_and c.from_residual-in_err-ended.result c.from_residual-in_err-ended.ensures.1 in
    let (more, len, e, consumed) = c.in_ok-count.ensures.ok in
    let sv = read_on g.C.Caller.exchanges _ c.loop.counter _ _ _ _ _ _ _ _ more _ _ c.loop.invariant.serving consumed e (omega arith) in
    let round = c.answer_all.new in
    rw (p.1, p.2) (round_fails g.C.Caller.exchanges _ _ _ _ _ _ _ _ _ _ _ _ round.buffers.input.items _ round.opened c.in_err-ended.field-0.0 sv c.in_err-ended.ensures.written
    (λ e. then-Failed _ _ _ c.loop.invariant.writer (c.in_err-ended.ensures.cause e)))

pub returns-in-Some : goal.returns-in-Some
returns-in-Some g c =
    let (more, len, e, consumed) = c.in_ok-count.ensures.ok in
    let sv = read_on g.C.Caller.exchanges _ c.loop.counter _ _ _ _ _ _ _ _ more _ _ c.loop.invariant.serving consumed e (omega arith) in
    let round = c.answer_all.new in
    round_ends g.C.Caller.exchanges _ _ _ _ _ _ _ _ _ _ _ _ round.buffers.input.items _ round.opened c.in-Some.ended sv (rw c.in-Some.is at c.in_ok-ended.ensures.written)

pub loop-preserved : goal.loop-preserved
loop-preserved g c =
    let (more, len, e, consumed) = c.in_ok-count.ensures.ok in
    let (text, transcript, appended, partial) = rw c.in_default.is at c.in_ok-ended.ensures.written in
    let sv = read_on g.C.Caller.exchanges _ (c.loop.counter + 1) _ _ _ _ _ _ _ _ more _ _ c.loop.invariant.serving consumed e (omega arith) in
    record {
      serving = round_on g.C.Caller.exchanges _ _ _ _ _ _ _ _ _ _ _ text _ _ sv transcript appended;
      partial = partial;
      reader = NoFewer-trans _ _ _ c.loop.invariant.reader c.in_ok-count.ensures.failures;
      writer = NoFewer-trans _ _ _ c.loop.invariant.writer c.in_ok-ended.ensures.failures;
    }
