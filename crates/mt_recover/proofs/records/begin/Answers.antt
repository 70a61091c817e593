-- The log that is begun next rises; if that stops, why.
use Rattle.std.proofs.{Common.{rules, ◌≡◌, ℕ, length, ◌∙◌, ap, arith, inr, map, get_or, sym, subst, List, ◌∷◌, ◌++◌, [], ◌+◌, Err, Some}, lemmas.{List.{map-set, length-map}, Option.{slice_get-map, slice_get-get_or}}}
use Rattle.std.specs.{Prelude.{slice_get, slice_set}, Option.option_map}
use Rattle.mt_log.specs.Contents.{Contents, contents_of}
use Rattle.mt_crashes.proofs.Members.{place_in}
use Rattle.mt_recover.specs.{Sources.AreLeft, Takes.{ReadAgain, StopsTaking}, declared.lanes.Lane.Lane}
use Rattle.mt_recover.proofs.{FallLemmas.front_falls_not, ReadLemmas.{Begun, read_stops, why_stops, fresh_left, read_on, one_begun, all_begun}}
use Rattle.mt_recover.proofs.records.begin.Goals as goal

pub fill-requires-clause-rises : goal.fill-requires-clause-rises
fill-requires-clause-rises g c =
    front_falls_not (map contents_of c.loop-log.fronts) _ c.loop-log.invariant.read.again.rise
    (place_in _ c.loop-log.log (map contents_of c.loop-log.fronts)
    (slice_get-map contents_of c.loop-log.fronts c.loop-log.log
    ∙ ap (option_map contents_of) (slice_get-get_or c.loop-log.fronts c.loop-log.log c.index-fronts-log.result (omega (arith, c.loop-log-test.true, c.loop-log.auto.fronts)))))

pub returns-in_err-fill-clause-read : goal.returns-in_err-fill-clause-read
returns-in_err-fill-clause-read g c =
    let first = map contents_of c.args.fronts.now in
    let s = c.args.source.now in
    let fs = map contents_of c.loop-log.fronts in
    let f = contents_of (get_or c.loop-log.fronts c.loop-log.log c.index-fronts-log.result) in
    let at : slice_get fs c.loop-log.log ≡ Some f =
    slice_get-map contents_of c.loop-log.fronts c.loop-log.log
    ∙ ap (option_map contents_of) (slice_get-get_or c.loop-log.fronts c.loop-log.log c.index-fronts-log.result (omega (arith, c.loop-log-test.true, c.loop-log.auto.fronts))) in
    subst (λ (cs : List Contents). ReadAgain g.S.Source.logs g.S.Source.follows g.S.Source.left s first (AreLeft (g.S.Source.left s) first) c.fill.new.source cs)
    (sym (map-set contents_of c.loop-log.fronts c.loop-log.log c.fill.new.front))
    (read_stops g.S.Source.logs g.S.Source.follows g.S.Source.left s first (AreLeft (g.S.Source.left s) first) c.loop-log.source fs c.loop-log.invariant.read c.loop-log.log f at c.new-lane.result
    (fresh_left g.S.Source.logs g.S.Source.follows g.S.Source.left s first c.loop-log.source fs c.loop-log.lanes.items c.loop-log.log c.loop-log.invariant f at c.new-lane.result c.new-lane.ensures.read c.new-lane.ensures.left)
    g.S.Source.refused c.fill.new.source (contents_of c.fill.new.front) c.in_err-fill.field-0.0 c.in_err-fill.ensures.stops)

pub returns-in_err-fill-clause-stops : goal.returns-in_err-fill-clause-stops
returns-in_err-fill-clause-stops g c =
    let is : c.from_residual.result ≡ Err c.in_err-fill.field-0.0 = search rules in
    let first = map contents_of c.args.fronts.now in
    let s = c.args.source.now in
    let fs = map contents_of c.loop-log.fronts in
    let f = contents_of (get_or c.loop-log.fronts c.loop-log.log c.index-fronts-log.result) in
    let at : slice_get fs c.loop-log.log ≡ Some f =
    slice_get-map contents_of c.loop-log.fronts c.loop-log.log
    ∙ ap (option_map contents_of) (slice_get-get_or c.loop-log.fronts c.loop-log.log c.index-fronts-log.result (omega (arith, c.loop-log-test.true, c.loop-log.auto.fronts))) in
    rw is
    (inr (subst (λ (cs : List Contents).
    StopsTaking g.S.Source.logs g.S.Source.follows g.S.Source.left g.S.Source.refused (AreLeft (g.S.Source.left s) first) c.fill.new.source cs c.in_err-fill.field-0.0)
    (sym (map-set contents_of c.loop-log.fronts c.loop-log.log c.fill.new.front))
    (why_stops g.S.Source.logs g.S.Source.follows g.S.Source.left s first (AreLeft (g.S.Source.left s) first) c.loop-log.source fs c.loop-log.invariant.read c.loop-log.log f at c.new-lane.result
    (fresh_left g.S.Source.logs g.S.Source.follows g.S.Source.left s first c.loop-log.source fs c.loop-log.lanes.items c.loop-log.log c.loop-log.invariant f at c.new-lane.result c.new-lane.ensures.read c.new-lane.ensures.left)
    g.S.Source.refused c.fill.new.source (contents_of c.fill.new.front) c.in_err-fill.field-0.0 c.in_err-fill.ensures.stops)))

pub loop-log-preserved : goal.loop-log-preserved
loop-log-preserved g c =
    let first = map contents_of c.args.fronts.now in
    let s = c.args.source.now in
    let fs = map contents_of c.loop-log.fronts in
    let f = contents_of (get_or c.loop-log.fronts c.loop-log.log c.index-fronts-log.result) in
    let at : slice_get fs c.loop-log.log ≡ Some f =
    slice_get-map contents_of c.loop-log.fronts c.loop-log.log
    ∙ ap (option_map contents_of) (slice_get-get_or c.loop-log.fronts c.loop-log.log c.index-fronts-log.result (omega (arith, c.loop-log-test.true, c.loop-log.auto.fronts))) in
    subst (λ (ls : List Lane). Begun g.S.Source.logs g.S.Source.follows g.S.Source.left s first c.fill.new.source (map contents_of (slice_set c.loop-log.fronts c.loop-log.log c.fill.new.front)) ls (c.loop-log.log + 1))
    (sym c.in_ok-push.ensures.items)
    (subst (λ (cs : List Contents). Begun g.S.Source.logs g.S.Source.follows g.S.Source.left s first c.fill.new.source cs (c.loop-log.lanes.items ++ c.fill.new.lane ∷ []) (c.loop-log.log + 1))
    (sym (map-set contents_of c.loop-log.fronts c.loop-log.log c.fill.new.front))
    (one_begun g.S.Source.logs g.S.Source.follows g.S.Source.left s first c.loop-log.source fs c.loop-log.lanes.items c.loop-log.log c.loop-log.invariant f at c.new-lane.result c.new-lane.ensures.read
    c.new-lane.ensures.left c.fill.new.source (contents_of c.fill.new.front) c.fill.new.lane c.in_ok-fill.ensures.on c.in_ok-fill.ensures.full))

pub returns-in_err-push-clause-read : goal.returns-in_err-push-clause-read
returns-in_err-push-clause-read g c =
    let first = map contents_of c.args.fronts.now in
    let s = c.args.source.now in
    let fs = map contents_of c.loop-log.fronts in
    let f = contents_of (get_or c.loop-log.fronts c.loop-log.log c.index-fronts-log.result) in
    let at : slice_get fs c.loop-log.log ≡ Some f =
    slice_get-map contents_of c.loop-log.fronts c.loop-log.log
    ∙ ap (option_map contents_of) (slice_get-get_or c.loop-log.fronts c.loop-log.log c.index-fronts-log.result (omega (arith, c.loop-log-test.true, c.loop-log.auto.fronts))) in
    subst (λ (cs : List Contents). ReadAgain g.S.Source.logs g.S.Source.follows g.S.Source.left s first (AreLeft (g.S.Source.left s) first) c.fill.new.source cs)
    (sym (map-set contents_of c.loop-log.fronts c.loop-log.log c.fill.new.front))
    (read_on g.S.Source.logs g.S.Source.follows g.S.Source.left s first (AreLeft (g.S.Source.left s) first) c.loop-log.source fs c.loop-log.invariant.read c.loop-log.log f at c.new-lane.result
    (fresh_left g.S.Source.logs g.S.Source.follows g.S.Source.left s first c.loop-log.source fs c.loop-log.lanes.items c.loop-log.log c.loop-log.invariant f at c.new-lane.result c.new-lane.ensures.read c.new-lane.ensures.left)
    c.fill.new.source (contents_of c.fill.new.front) c.fill.new.lane c.in_ok-fill.ensures.on)

pub returns-clause-begun : goal.returns-clause-begun
returns-clause-begun g c =
    let s = c.args.source.now in
    let first = map contents_of c.args.fronts.now in
    let fs = map contents_of c.loop-log.fronts in
    let all : c.loop-log.log ≡ length fs = omega (arith, c.loop-log-test.false, c.loop-log.auto.fronts, c.loop-log.auto.log-end, length-map c.loop-log.fronts contents_of) in
    all_begun g.S.Source.logs g.S.Source.follows g.S.Source.left s first c.loop-log.source fs c.loop-log.lanes.items
    (subst (λ (n : ℕ). Begun g.S.Source.logs g.S.Source.follows g.S.Source.left s first c.loop-log.source fs c.loop-log.lanes.items n) all c.loop-log.invariant)
