-- One write more is gathered, and at the end all are, or so many that the batch is full.
use Rattle.std.proofs.{Common.{◌+◌, ◌<◌, ◌++◌, List, [], ◌∷◌, length, drop, refl, ap, ◌∙◌, arith}, lemmas.List.length-append, lemmas.List.Elements.All-weaker}
use Rattle.mt_rows.specs.declared.record.Record.{Record}
use Rattle.mt_drains.{specs.Drains.records_of, proofs.Draining.{one_more, all_gathered, all_now, few_more, in_turn}}
use Rattle.mt_drains.proofs.drains.gather.Goals as goal

pub loop-place-init : goal.loop-place-init
loop-place-init c =
    let none = ap length c.requires.none in
    record {
      given = ap (λ (rs : List Record). rs ++ records_of c.args.worker (drop c.args.first c.args.tape.now.entries)) c.requires.none;
      few = omega (arith, none);
      earlier = λ k e le at j d lt. absurd (omega (arith, none, lt));
      limits = λ k d lt. absurd (omega (arith, none, lt));
    }

pub loop-place-preserved : goal.loop-place-preserved
loop-place-preserved c =
    let l = c.loop-place in
    let e = c.in-Some.entry.now in
    let items = c.take.new.records.items in
    let at = c.in-Some.ensures.some in
    let given = c.in_ok-take.ensures.given in
    let longer = ap length given ∙ length-append l.records.items (records_of c.args.worker (e ∷ [])) in
    let more = few_more c.args.worker e in
    let room = c.if-len-eq-MAX_RECORDS.false in
    record {
      given = one_more c.args.worker c.args.tape.now.entries l.place e l.records.items items (records_of c.args.worker (drop c.args.first c.args.tape.now.entries)) at given l.invariant.given;
      few = omega (arith, longer, more, room, l.invariant.few, c.len.ensures);
      earlier = λ k d le there.
          let later = in_turn c.args.tape.now.floor c.args.tape.now.entries l.place k e d c.requires.rises (omega (arith, le)) at there in
          all_now (λ r. r.stamp < d.step) c.args.worker e l.records.items items given (l.invariant.earlier k d (omega (arith, le)) there) later;
      limits = c.in_ok-take.ensures.limits l.invariant.limits;
    }

pub returns-then-len-eq-MAX_RECORDS-clause-gathers : goal.returns-then-len-eq-MAX_RECORDS-clause-gathers
returns-then-len-eq-MAX_RECORDS-clause-gathers c =
    let l = c.loop-place in
    let e = c.in-Some.entry.now in
    let items = c.take.new.records.items in
    let at = c.in-Some.ensures.some in
    let given = c.in_ok-take.ensures.given in
    let low = all_now (λ r. r.stamp < e.step + 1) c.args.worker e l.records.items items given
    (All-weaker (λ (r : Record). r.stamp < e.step) (λ r. r.stamp < e.step + 1) (λ r lt. omega (arith, lt)) l.records.items (l.invariant.earlier l.place e (omega arith) at)) (omega arith) in (
      l.place,
      e,
      at,
      refl,
      omega (arith, c.if-len-eq-MAX_RECORDS.true, c.len.ensures),
      low,
      one_more c.args.worker c.args.tape.now.entries l.place e l.records.items items (records_of c.args.worker (drop c.args.first c.args.tape.now.entries)) at given l.invariant.given,
    )

pub returns-then-len-eq-MAX_RECORDS-clause-limits : goal.returns-then-len-eq-MAX_RECORDS-clause-limits
returns-then-len-eq-MAX_RECORDS-clause-limits c = c.in_ok-take.ensures.limits c.loop-place.invariant.limits

pub returns-clause-gathers : goal.returns-clause-gathers
returns-clause-gathers c =
    let past = c.loop-place-test.false in
    all_gathered c.args.worker c.args.tape.now.entries c.loop-place.place c.loop-place.records.items
    (records_of c.args.worker (drop c.args.first c.args.tape.now.entries)) (omega (arith, past, c.len-place-end.ensures)) c.loop-place.invariant.given

pub returns-clause-few : goal.returns-clause-few
returns-clause-few c = let few = c.loop-place.invariant.few in omega (arith, few)

pub returns-clause-limits : goal.returns-clause-limits
returns-clause-limits c = c.loop-place.invariant.limits
