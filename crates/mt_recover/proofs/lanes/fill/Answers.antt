-- One batch more, one that does not agree, and an end that comes too early.
use Rattle.std.proofs.{Common.{rules, ◌≡◌, ⊎_elim, inr, arith, refl, subst, Option, Err}, lemmas.{List.nil_from_length, Result.IfErr-weaker}}
use Rattle.std.specs.{Prelude.IfSome, Option.option_map}
use Rattle.mt_log.specs.Contents.{contents_of}
use Rattle.mt_recover.specs.Sources.{Gives, IsReadable}
use Rattle.mt_log.specs.declared.batch.ReadBatch.{ReadBatch}
use Rattle.mt_recover.proofs.LaneLemmas.{reads_one, stops_by_change, no_next, no_end}
use Rattle.mt_recover.proofs.lanes.fill.Goals as goal

pub loop-alloc-preserved : goal.loop-alloc-preserved
loop-alloc-preserved g c =
    let taken = c.in_ok-take-in-Some.ensures in
    record {
      on = reads_one g.S.Source.logs g.S.Source.follows g.S.Source.left c.args.log c.args.source.now (contents_of c.args.front.now) c.args.lane.now c.loop-alloc.source
          (contents_of c.loop-alloc.front) c.loop-alloc.lane c.loop-alloc.invariant.on c.next.new.self c.in-Some.again.batch (contents_of c.take.new.front) c.take.new.lane
          (record { count = c.next.ensures.logs; after = c.next.ensures.follows }) taken.agree taken.batches taken.read taken.left
          (nil_from_length c.loop-alloc.lane.left.items (omega (arith, c.len.ensures, c.loop-alloc-test.true)))
          (λ bs h. subst (λ (o : Option ReadBatch). Gives (g.S.Source.left c.next.new.self c.args.log) bs (option_map (λ (b : ReadBatch). b.batch) o)) c.in-Some.is (c.in_ok-again.ensures.given bs h))
          c.next.ensures.others (subst (λ (o : Option ReadBatch). IfSome o (λ b. IsReadable b.batch)) c.in-Some.is c.in_ok-again.ensures.format);
      more = inr (⊎_elim (λ same. omega (arith, taken.read, same.0)) (λ less. omega (arith, taken.read, less)) c.loop-alloc.invariant.more);
    }

pub returns-in_err-take-in-Some-clause-stops : goal.returns-in_err-take-in-Some-clause-stops
returns-in_err-take-in-Some-clause-stops g c =
    let is : c.from_residual-in_err-take-in-Some.result ≡ Err c.in_err-take-in-Some.field-0.0 = search rules in
    rw is
    (stops_by_change g.S.Source.logs g.S.Source.follows g.S.Source.left c.args.log c.args.source.now (contents_of c.args.front.now) c.args.lane.now c.loop-alloc.source
    (contents_of c.loop-alloc.front) c.loop-alloc.lane c.loop-alloc.invariant.on g.S.Source.refused c.next.new.self c.in_err-take-in-Some.field-0.0
    (record { count = c.next.ensures.logs; after = c.next.ensures.follows }) (contents_of c.take.new.front) c.in_err-take-in-Some.ensures.same c.in_err-take-in-Some.ensures.err.0
    (no_next g.S.Source.logs g.S.Source.follows g.S.Source.left c.args.log c.args.source.now (contents_of c.args.front.now) c.args.lane.now c.loop-alloc.source
    (contents_of c.loop-alloc.front) c.loop-alloc.lane c.loop-alloc.invariant.on c.next.new.self c.in-Some.again.batch
    (λ bs h. subst (λ (o : Option ReadBatch). Gives (g.S.Source.left c.next.new.self c.args.log) bs (option_map (λ (b : ReadBatch). b.batch) o)) c.in-Some.is (c.in_ok-again.ensures.given bs h))
    c.in_err-take-in-Some.ensures.err.1))

pub returns-in-None-clause-stops : goal.returns-in-None-clause-stops
returns-in-None-clause-stops g c =
    IfErr-weaker c.check_end.result _ _
    (λ e why.
    stops_by_change g.S.Source.logs g.S.Source.follows g.S.Source.left c.args.log c.args.source.now (contents_of c.args.front.now) c.args.lane.now c.loop-alloc.source
    (contents_of c.loop-alloc.front) c.loop-alloc.lane c.loop-alloc.invariant.on g.S.Source.refused c.next.new.self e
    (record { count = c.next.ensures.logs; after = c.next.ensures.follows }) (contents_of c.loop-alloc.front) refl why.0
    (no_end g.S.Source.logs g.S.Source.follows g.S.Source.left c.args.log c.args.source.now (contents_of c.args.front.now) c.args.lane.now c.loop-alloc.source
    (contents_of c.loop-alloc.front) c.loop-alloc.lane c.loop-alloc.invariant.on c.next.new.self
    (λ bs h. subst (λ (o : Option ReadBatch). Gives (g.S.Source.left c.next.new.self c.args.log) bs (option_map (λ (b : ReadBatch). b.batch) o)) c.in-None.is (c.in_ok-again.ensures.given bs h))
    why.1))
    c.check_end.ensures.err
