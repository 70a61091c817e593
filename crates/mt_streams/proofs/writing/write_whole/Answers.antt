use Rattle.std.proofs.{Common.{◌≡◌, ◌≢◌, ◌<◌, List, ℕ, ◌+◌, ◌≤◌, ◌⊎◌, ◌++◌, length, take, drop, sym, ap, subst, ◌∙◌, Bor, arith, inr}, lemmas.Bool.eqb-false}
use Rattle.std.proofs.lemmas.List.{take_rest, length-append, length-take}
use Rattle.mt_streams.specs.Failures.{Failed}
use Rattle.mt_streams.proofs.{StreamLemmas.{Appends-trans, moves_front, kept_appends}, FailureLemmas.{NoFewer-trans, then-Failed, one_turn}}
use Rattle.mt_streams.proofs.writing.write_whole.Goals.{in-Ok, in-Err+else-ne}
use Rattle.mt_streams.proofs.writing.write_whole.Goals as goal

pub loop-preserved : goal.loop-preserved
loop-preserved g c =
    let (done, split, appended, fewer, turns) = c.loop.invariant in
    let rest = c.loop.rest.now in
    let failures = NoFewer-trans _ _ _ fewer c.send.ensures.failures in
    elim c.match-send.branch [
      | in-Ok w ↦ (
          let n = w.in-Ok.count in
          let now : c.match-send.rest.now ≡ drop n rest = ap (λ (r : Bor (List ℕ)). r.now) w.rest-is ∙ take_rest rest n in
          let len : length (done ++ take n rest) ≡ length done + n = omega (arith, length-append done (take n rest), length-take n rest, w.in-Ok.ensures.bound) in
          let none : length rest ≢ 0 = eqb-false (length rest) 0 (sym c.is_empty.ensures ∙ c.if-is_empty.false) in
          let more : 0 < length rest = omega arith in (
            done ++ take n rest,
            moves_front c.args.text.now done rest n split ∙ ap (λ (x : List ℕ). (done ++ take n rest) ++ x) (sym now),
            Appends-trans _ _ _ _ _ appended w.in-Ok.ensures.bytes,
            failures,
            subst (λ (k : ℕ). (c.loop.counter + 1 ≤ k) ⊎ Failed (g.W.Sink.failures c.args.writer.now) (g.W.Sink.failures c.send.new.self)) (sym len) (one_turn _ _ _ _ _ n turns c.send.ensures.failures (w.in-Ok.ensures.some more)),
          ))
      | in-Err+else-ne w ↦ (done, split ∙ ap (λ (r : Bor (List ℕ)). done ++ r.now) (sym w.rest-is), kept_appends _ _ _ _ appended w.in-Err.ensures.bytes, failures, inr (then-Failed _ _ _ fewer w.in-Err.ensures.cause))
    ]
