-- The least record is taken, or two logs have its stamp.
use Rattle.std.proofs.{Common.{rules, ◌≡◌, inl, inr, refl, ℕ, ◌<◌, map, length, get_or, sym, ◌∙◌, ap, subst, arith, List, Option, Some, IfSome, slice_set}, lemmas.{List.{map-set, length-map}, Option.{slice_get-map, slice_get-get_or}, Result.IfErr-weaker}}
use Rattle.std.specs.{Prelude.{slice_get, set}, Option.option_map}
use Rattle.mt_rows.specs.declared.record.Record.{Record}
use Rattle.mt_log.specs.Contents.{Contents, contents_of}
use Rattle.mt_crashes.proofs.Members.{place_in}
use Rattle.mt_recover.specs.{Takes.{HaveLeft, ReadAgain, StopsTaking, Takes}, Merges.{AreMerging, works}, declared.lanes.Lane.Lane}
use Rattle.mt_recover.proofs.{FallLemmas.front_falls_not, TakeLemmas.{is_there, is_first_twice}, TakenLemmas.{works_put, some_left, of_both, on_both, of_either, TakesFirst, first_read, first_left, stop_read, stop_why, first_taken}}
use Rattle.mt_recover.proofs.records.take_record.Goals as goal

pub returns-then-next-clause-stops : goal.returns-then-next-clause-stops
returns-then-next-clause-stops g c =
    let m = c.requires.merging in
    inr (inr (
      c.highest_with-number.result,
      c.in-Some.next.stamp,
      refl,
      is_first_twice m.0 (map contents_of c.args.fronts.now) c.args.lanes.now m.1 c.in-Some.next c.in-Some.ensures c.highest_with-number.result c.requires.set c.if-next.true c.highest_with-number.ensures,
    ))

pub bounds-fronts-next : goal.bounds-fronts-next
bounds-fronts-next g c =
    let m = c.requires.merging in
    let n = c.in-Some.next.log in
    let fs = map contents_of c.args.fronts.now in
    let in_lanes : n < length c.args.lanes.now = is_there c.args.lanes.now n c.in-Some.next.stamp c.in-Some.ensures.first in
    let in_fronts : n < length c.args.fronts.now = omega (arith, in_lanes, m.1.count, length-map c.args.fronts.now contents_of) in
    in_fronts

pub offset_bounds-fronts-next : goal.offset_bounds-fronts-next
offset_bounds-fronts-next g c =
    let m = c.requires.merging in
    let n = c.in-Some.next.log in
    let fs = map contents_of c.args.fronts.now in
    let in_lanes : n < length c.args.lanes.now = is_there c.args.lanes.now n c.in-Some.next.stamp c.in-Some.ensures.first in
    let in_fronts : n < length c.args.fronts.now = omega (arith, in_lanes, m.1.count, length-map c.args.fronts.now contents_of) in
    omega (arith, in_fronts, c.well_formed)

pub bounds-lanes-next : goal.bounds-lanes-next
bounds-lanes-next g c =
    let m = c.requires.merging in
    let n = c.in-Some.next.log in
    let fs = map contents_of c.args.fronts.now in
    let in_lanes : n < length c.args.lanes.now = is_there c.args.lanes.now n c.in-Some.next.stamp c.in-Some.ensures.first in
    let in_fronts : n < length c.args.fronts.now = omega (arith, in_lanes, m.1.count, length-map c.args.fronts.now contents_of) in
    in_lanes

pub offset_bounds-lanes-next : goal.offset_bounds-lanes-next
offset_bounds-lanes-next g c =
    let m = c.requires.merging in
    let n = c.in-Some.next.log in
    let fs = map contents_of c.args.fronts.now in
    let in_lanes : n < length c.args.lanes.now = is_there c.args.lanes.now n c.in-Some.next.stamp c.in-Some.ensures.first in
    let in_fronts : n < length c.args.fronts.now = omega (arith, in_lanes, m.1.count, length-map c.args.fronts.now contents_of) in
    omega (arith, in_lanes, c.well_formed)

pub take_first-requires-clause-log : goal.take_first-requires-clause-log
take_first-requires-clause-log g c =
    let m = c.requires.merging in
    let n = c.in-Some.next.log in
    let fs = map contents_of c.args.fronts.now in
    let in_lanes : n < length c.args.lanes.now = is_there c.args.lanes.now n c.in-Some.next.stamp c.in-Some.ensures.first in
    let in_fronts : n < length c.args.fronts.now = omega (arith, in_lanes, m.1.count, length-map c.args.fronts.now contents_of) in
    let front = get_or c.args.fronts.now n c.index-fronts-next.result in
    let lane = get_or c.args.lanes.now n c.index-lanes-next.result in
    let at : slice_get fs n ≡ Some (contents_of front) =
    slice_get-map contents_of c.args.fronts.now n ∙ ap (option_map contents_of) (slice_get-get_or c.args.fronts.now n c.index-fronts-next.result in_fronts) in
    let at_lane : slice_get c.args.lanes.now n ≡ Some lane = slice_get-get_or c.args.lanes.now n c.index-lanes-next.result in_lanes in
    omega (arith, in_fronts, c.requires.logs)

pub take_first-requires-clause-within : goal.take_first-requires-clause-within
take_first-requires-clause-within g c =
    let m = c.requires.merging in
    let n = c.in-Some.next.log in
    let fs = map contents_of c.args.fronts.now in
    let in_lanes : n < length c.args.lanes.now = is_there c.args.lanes.now n c.in-Some.next.stamp c.in-Some.ensures.first in
    let in_fronts : n < length c.args.fronts.now = omega (arith, in_lanes, m.1.count, length-map c.args.fronts.now contents_of) in
    let front = get_or c.args.fronts.now n c.index-fronts-next.result in
    let lane = get_or c.args.lanes.now n c.index-lanes-next.result in
    let at : slice_get fs n ≡ Some (contents_of front) =
    slice_get-map contents_of c.args.fronts.now n ∙ ap (option_map contents_of) (slice_get-get_or c.args.fronts.now n c.index-fronts-next.result in_fronts) in
    let at_lane : slice_get c.args.lanes.now n ≡ Some lane = slice_get-get_or c.args.lanes.now n c.index-lanes-next.result in_lanes in
    (m.1.lane n (contents_of front) lane at at_lane).0.within

pub take_first-requires-clause-rises : goal.take_first-requires-clause-rises
take_first-requires-clause-rises g c =
    let m = c.requires.merging in
    let n = c.in-Some.next.log in
    let fs = map contents_of c.args.fronts.now in
    let in_lanes : n < length c.args.lanes.now = is_there c.args.lanes.now n c.in-Some.next.stamp c.in-Some.ensures.first in
    let in_fronts : n < length c.args.fronts.now = omega (arith, in_lanes, m.1.count, length-map c.args.fronts.now contents_of) in
    let front = get_or c.args.fronts.now n c.index-fronts-next.result in
    let lane = get_or c.args.lanes.now n c.index-lanes-next.result in
    let at : slice_get fs n ≡ Some (contents_of front) =
    slice_get-map contents_of c.args.fronts.now n ∙ ap (option_map contents_of) (slice_get-get_or c.args.fronts.now n c.index-fronts-next.result in_fronts) in
    let at_lane : slice_get c.args.lanes.now n ≡ Some lane = slice_get-get_or c.args.lanes.now n c.index-lanes-next.result in_lanes in
    front_falls_not fs (contents_of front) m.1.rise (place_in (contents_of front) n fs at)

pub take_first-requires-clause-some : goal.take_first-requires-clause-some
take_first-requires-clause-some g c =
    let m = c.requires.merging in
    let n = c.in-Some.next.log in
    let fs = map contents_of c.args.fronts.now in
    let in_lanes : n < length c.args.lanes.now = is_there c.args.lanes.now n c.in-Some.next.stamp c.in-Some.ensures.first in
    let in_fronts : n < length c.args.fronts.now = omega (arith, in_lanes, m.1.count, length-map c.args.fronts.now contents_of) in
    let front = get_or c.args.fronts.now n c.index-fronts-next.result in
    let lane = get_or c.args.lanes.now n c.index-lanes-next.result in
    let at : slice_get fs n ≡ Some (contents_of front) =
    slice_get-map contents_of c.args.fronts.now n ∙ ap (option_map contents_of) (slice_get-get_or c.args.fronts.now n c.index-fronts-next.result in_fronts) in
    let at_lane : slice_get c.args.lanes.now n ≡ Some lane = slice_get-get_or c.args.lanes.now n c.index-lanes-next.result in_lanes in
    some_left c.args.lanes.now n c.in-Some.next.stamp lane at_lane c.in-Some.ensures.first

pub returns-clause-read : goal.returns-clause-read
returns-clause-read g c =
    let m = c.requires.merging in
    let n = c.in-Some.next.log in
    let fs = map contents_of c.args.fronts.now in
    let in_lanes : n < length c.args.lanes.now = is_there c.args.lanes.now n c.in-Some.next.stamp c.in-Some.ensures.first in
    let in_fronts : n < length c.args.fronts.now = omega (arith, in_lanes, m.1.count, length-map c.args.fronts.now contents_of) in
    let front = get_or c.args.fronts.now n c.index-fronts-next.result in
    let lane = get_or c.args.lanes.now n c.index-lanes-next.result in
    let at : slice_get fs n ≡ Some (contents_of front) =
    slice_get-map contents_of c.args.fronts.now n ∙ ap (option_map contents_of) (slice_get-get_or c.args.fronts.now n c.index-fronts-next.result in_fronts) in
    let at_lane : slice_get c.args.lanes.now n ≡ Some lane = slice_get-get_or c.args.lanes.now n c.index-lanes-next.result in_lanes in
    subst (λ (cs : List Contents). ReadAgain g.S.Source.logs g.S.Source.follows g.S.Source.left c.args.source.now fs (HaveLeft g.S.Source.logs g.S.Source.follows g.S.Source.left c.args.source.now fs c.args.lanes.now) c.take_first.new.source cs)
    (sym (map-set contents_of c.args.fronts.now n c.take_first.new.front))
    (of_either c.take_first.result _ _ _ c.take_first.ensures.on c.take_first.ensures.stops (λ first on. first_read g.S.Source.logs g.S.Source.follows g.S.Source.left c.args.source.now fs c.args.lanes.now m.0 m.1 c.in-Some.next c.in-Some.ensures c.if-next.false (contents_of front) at lane at_lane c.take_first.new.source (contents_of c.take_first.new.front) c.take_first.new.lane first on) (λ e stop. stop_read g.S.Source.logs g.S.Source.follows g.S.Source.left c.args.source.now fs c.args.lanes.now m.0 m.1 c.in-Some.next c.in-Some.ensures c.if-next.false (contents_of front) at lane at_lane c.take_first.new.source (contents_of c.take_first.new.front) c.take_first.new.lane g.S.Source.refused e stop))

pub returns-clause-taken : goal.returns-clause-taken
returns-clause-taken g c =
    let m = c.requires.merging in
    let n = c.in-Some.next.log in
    let fs = map contents_of c.args.fronts.now in
    let in_lanes : n < length c.args.lanes.now = is_there c.args.lanes.now n c.in-Some.next.stamp c.in-Some.ensures.first in
    let in_fronts : n < length c.args.fronts.now = omega (arith, in_lanes, m.1.count, length-map c.args.fronts.now contents_of) in
    let front = get_or c.args.fronts.now n c.index-fronts-next.result in
    let lane = get_or c.args.lanes.now n c.index-lanes-next.result in
    let at : slice_get fs n ≡ Some (contents_of front) =
    slice_get-map contents_of c.args.fronts.now n ∙ ap (option_map contents_of) (slice_get-get_or c.args.fronts.now n c.index-fronts-next.result in_fronts) in
    let at_lane : slice_get c.args.lanes.now n ≡ Some lane = slice_get-get_or c.args.lanes.now n c.index-lanes-next.result in_lanes in
    of_both c.take_first.result _ _ _ c.take_first.ensures.on c.take_first.ensures.full
    (λ first on full taken merging.
    subst (λ (cs : List Contents). Takes taken first cs (set c.args.lanes.now n c.take_first.new.lane)) (sym (map-set contents_of c.args.fronts.now n c.take_first.new.front))
    (first_taken g.S.Source.logs g.S.Source.follows g.S.Source.left c.args.source.now fs c.args.lanes.now m.0 m.1 c.in-Some.next c.in-Some.ensures c.if-next.false (contents_of front) at lane at_lane c.take_first.new.source (contents_of c.take_first.new.front) c.take_first.new.lane first on full taken merging))

pub returns-clause-left : goal.returns-clause-left
returns-clause-left g c =
    let m = c.requires.merging in
    let n = c.in-Some.next.log in
    let fs = map contents_of c.args.fronts.now in
    let in_lanes : n < length c.args.lanes.now = is_there c.args.lanes.now n c.in-Some.next.stamp c.in-Some.ensures.first in
    let in_fronts : n < length c.args.fronts.now = omega (arith, in_lanes, m.1.count, length-map c.args.fronts.now contents_of) in
    let front = get_or c.args.fronts.now n c.index-fronts-next.result in
    let lane = get_or c.args.lanes.now n c.index-lanes-next.result in
    let at : slice_get fs n ≡ Some (contents_of front) =
    slice_get-map contents_of c.args.fronts.now n ∙ ap (option_map contents_of) (slice_get-get_or c.args.fronts.now n c.index-fronts-next.result in_fronts) in
    let at_lane : slice_get c.args.lanes.now n ≡ Some lane = slice_get-get_or c.args.lanes.now n c.index-lanes-next.result in_lanes in
    on_both c.take_first.result _ _ c.take_first.ensures.on
    (λ first on had.
    subst (λ (cs : List Contents). HaveLeft g.S.Source.logs g.S.Source.follows g.S.Source.left c.take_first.new.source cs (set c.args.lanes.now n c.take_first.new.lane)) (sym (map-set contents_of c.args.fronts.now n c.take_first.new.front))
    (first_left g.S.Source.logs g.S.Source.follows g.S.Source.left c.args.source.now fs c.args.lanes.now m.0 m.1 c.in-Some.next c.in-Some.ensures c.if-next.false (contents_of front) at lane at_lane c.take_first.new.source (contents_of c.take_first.new.front) c.take_first.new.lane first on had))

pub returns-clause-less : goal.returns-clause-less
returns-clause-less g c =
    let m = c.requires.merging in
    let n = c.in-Some.next.log in
    let fs = map contents_of c.args.fronts.now in
    let in_lanes : n < length c.args.lanes.now = is_there c.args.lanes.now n c.in-Some.next.stamp c.in-Some.ensures.first in
    let in_fronts : n < length c.args.fronts.now = omega (arith, in_lanes, m.1.count, length-map c.args.fronts.now contents_of) in
    let front = get_or c.args.fronts.now n c.index-fronts-next.result in
    let lane = get_or c.args.lanes.now n c.index-lanes-next.result in
    let at : slice_get fs n ≡ Some (contents_of front) =
    slice_get-map contents_of c.args.fronts.now n ∙ ap (option_map contents_of) (slice_get-get_or c.args.fronts.now n c.index-fronts-next.result in_fronts) in
    let at_lane : slice_get c.args.lanes.now n ≡ Some lane = slice_get-get_or c.args.lanes.now n c.index-lanes-next.result in_lanes in
    of_both c.take_first.result _ _ _ c.take_first.ensures.on c.take_first.ensures.less
    (λ first on less.
    subst (λ (o : Option Record). IfSome o (λ _. works (map contents_of (slice_set c.args.fronts.now n c.take_first.new.front)) (set c.args.lanes.now n c.take_first.new.lane) < works fs c.args.lanes.now)) (sym on.2)
    (subst (λ (cs : List Contents). works cs (set c.args.lanes.now n c.take_first.new.lane) < works fs c.args.lanes.now) (sym (map-set contents_of c.args.fronts.now n c.take_first.new.front))
    (works_put fs c.args.lanes.now n (contents_of front) (contents_of c.take_first.new.front) lane c.take_first.new.lane at at_lane less)))

pub returns-clause-stops : goal.returns-clause-stops
returns-clause-stops g c =
    let m = c.requires.merging in
    let n = c.in-Some.next.log in
    let fs = map contents_of c.args.fronts.now in
    let in_lanes : n < length c.args.lanes.now = is_there c.args.lanes.now n c.in-Some.next.stamp c.in-Some.ensures.first in
    let in_fronts : n < length c.args.fronts.now = omega (arith, in_lanes, m.1.count, length-map c.args.fronts.now contents_of) in
    let front = get_or c.args.fronts.now n c.index-fronts-next.result in
    let lane = get_or c.args.lanes.now n c.index-lanes-next.result in
    let at : slice_get fs n ≡ Some (contents_of front) =
    slice_get-map contents_of c.args.fronts.now n ∙ ap (option_map contents_of) (slice_get-get_or c.args.fronts.now n c.index-fronts-next.result in_fronts) in
    let at_lane : slice_get c.args.lanes.now n ≡ Some lane = slice_get-get_or c.args.lanes.now n c.index-lanes-next.result in_lanes in
    IfErr-weaker c.take_first.result _ _
    (λ e stop.
    subst (λ (cs : List Contents). StopsTaking g.S.Source.logs g.S.Source.follows g.S.Source.left g.S.Source.refused (HaveLeft g.S.Source.logs g.S.Source.follows g.S.Source.left c.args.source.now fs c.args.lanes.now) c.take_first.new.source cs e)
    (sym (map-set contents_of c.args.fronts.now n c.take_first.new.front))
    (stop_why g.S.Source.logs g.S.Source.follows g.S.Source.left c.args.source.now fs c.args.lanes.now m.0 m.1 c.in-Some.next c.in-Some.ensures c.if-next.false (contents_of front) at lane at_lane c.take_first.new.source (contents_of c.take_first.new.front) c.take_first.new.lane g.S.Source.refused e stop))
    c.take_first.ensures.stops
