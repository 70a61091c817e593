use Rattle.std.proofs.{Common.{◌==◌, [], refl, sym, subst, inl, inr, arith}, lemmas.Result.err_from_is_err_and}
use Rattle.mt_lines.specs.{Lines.{Front, front_of}, Sessions.SessionView}
use Rattle.mt_lines.proofs.{EndLemmas.{none_begun, read_fails, take_fails, ends}, ScriptLemmas.{Progress, starts, takes}}
use Rattle.mt_streams.proofs.{FailureLemmas.{NoFewer-refl, NoFewer-trans, then-Failed}, StreamLemmas.Keeps-refl}
use Rattle.mt_lines.proofs.script.run_script.Goals as goal

pub loop-init : goal.loop-init
loop-init g c =
    let before = g.R.Source.remaining c.args.reader.now in
    let held = g.W.Sink.contents c.args.writer.now in
    record {
      way =
          subst (λ (f : Front). Progress before before held held c.in_ok-session.session f 0) (sym c.new-line.ensures) (subst (λ (s : SessionView). Progress before before held held s (front_of []) 0) (sym c.in_ok-session.ensures) (starts before held));
      reader = NoFewer-refl _;
      writer = NoFewer-refl _;
    }

pub returns-in-Err : goal.returns-in-Err
returns-in-Err g c =
    read_fails _ _ _ _ _ _ _ c.loop.counter _ _ c.in-Err.error c.loop.invariant.way c.in-Err.ensures.err (inl (then-Failed _ _ _ c.loop.invariant.reader c.in-Err.ensures.cause))

pub returns : goal.returns
returns g c = read_fails _ _ _ _ _ _ _ c.loop.counter _ _ c.from.result c.loop.invariant.way (Keeps-refl _) (inr (omega arith))

pub returns-in-Ok-None : goal.returns-in-Ok-None
returns-in-Ok-None g c =
    let read = rw c.in-Ok-None.field-0-is at c.in-Ok-None.ensures.end in
    ends _ _ _ _ _ _ _ _ _ c.loop.counter _ _ _ c.answer.result (λ f. then-Failed _ _ _ c.loop.invariant.writer f) c.loop.invariant.way read.1 read.0 c.answer.ensures.answered

pub returns-in_err-take_byte-in-Ok-Some : goal.returns-in_err-take_byte-in-Ok-Some
returns-in_err-take_byte-in-Ok-Some g c =
    let p = err_from_is_err_and c.from_residual-in_err-take_byte-in-Ok-Some.result c.from_residual-in_err-take_byte-in-Ok-Some.ensures.1 in
    let read = rw c.in-Ok-Some.field-0-is at c.in-Ok-Some.ensures.byte in
    rw (p.1, p.2) (take_fails _ _ _ _ _ _ _ _ _ _ c.in-Ok-Some.byte c.loop.counter _ _ _ c.in_err-take_byte-in-Ok-Some.field-0.0 (c.in-Ok-Some.byte == 10) (λ f. then-Failed _ _ _ c.loop.invariant.writer f) refl c.loop.invariant.way read c.in_err-take_byte-in-Ok-Some.ensures.taken)

pub loop-preserved : goal.loop-preserved
loop-preserved g c =
    let read = rw c.in-Ok-Some.field-0-is at c.in-Ok-Some.ensures.byte in
    record {
      way =
          takes _ _ _ _ _ _ _ _ _ _ c.in-Ok-Some.byte c.loop.counter _ (c.in-Ok-Some.byte == 10) refl c.loop.invariant.way read c.in_ok-take_byte-in-Ok-Some.ensures.taken;
      reader = NoFewer-trans _ _ _ c.loop.invariant.reader c.next_byte.ensures.failures;
      writer = NoFewer-trans _ _ _ c.loop.invariant.writer c.take_byte.ensures.failures;
    }

pub returns-in_err-session : goal.returns-in_err-session
returns-in_err-session g c = let p = err_from_is_err_and c.from_residual.result c.from_residual.ensures.1 in rw (p.1, p.2) (none_begun _ _ _ _)
