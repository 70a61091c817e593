-- the first entry that is not before the key stands at its place
use Rattle.std.proofs.{Common.{refl, ◌<◌, length, arith, ap, below_more}, lemmas.Bool.Decides.nat_tests, lemmas.List.length-map}
use Rattle.mt_border.specs.{declared.entry.Entry.Entry, Slots.listed}
use Rattle.mt_border.proofs.{Edits.place_in-is, Counts.{slices_fall, slices_count, lower_slices, other_slice, lower_mark, other_mark}}
use Rattle.mt_border.proofs.places.place_of.Goals.{then-slices-place-via-then-slices-place, then-slices-place-via-else-slices-place+then-not-is_before}
use Rattle.mt_border.proofs.places.place_of.Goals as goal

pub count_below-place-requires-clause-rises : goal.count_below-place-requires-clause-rises
count_below-place-requires-clause-rises c = slices_fall (listed c.args.slots.now) _ c.requires.border refl

pub count_below-place-requires-clause-few : goal.count_below-place-requires-clause-few
count_below-place-requires-clause-few c = c.requires.border.within

pub loop-place-init : goal.loop-place-init
loop-place-init c =
    let es = (listed c.args.slots.now) in
    let count = slices_count es c.args.slice _ c.requires.border c.count_below-place.ensures in
    let size = length-map es (λ (e : Entry). e.slice) in
    lower_slices es c.args.slice _ c.args.mark c.requires.border (omega (arith, count.within, size)) count.below

pub mark-requires : goal.mark-requires
mark-requires c =
    let es = (listed c.args.slots.now) in
    let size = length-map es (λ (e : Entry). e.slice) in
    omega (arith, ap length c.slices-slices.ensures, c.loop-place-test.true, size)

pub returns-then-slices-place-clause-place : goal.returns-then-slices-place-clause-place
returns-then-slices-place-clause-place c =
    let es = (listed c.args.slots.now) in
    let count = slices_count es c.args.slice _ c.requires.border c.count_below-place.ensures in
    let size = length-map es (λ (e : Entry). e.slice) in
    let within : c.loop-place.place < length es = omega (arith, ap length c.slices-slices.ensures, c.loop-place-test.true, size) in
    place_in-is _ _ c.loop-place.place (omega (arith, within)) c.loop-place.invariant (λ _. elim c.then-slices-place.branch [
      | then-slices-place-via-then-slices-place w ↦
          other_slice es c.args.slice c.count_below-place.result c.loop-place.place c.args.mark c.requires.border c.requires.mark (λ lt. count.above (omega (arith, lt, size))) c.loop-place.auto.place within (rw (← c.slices-slices.ensures) w.if-slices-place.true)
      | then-slices-place-via-else-slices-place+then-not-is_before w ↦
          other_mark es c.args.slice c.loop-place.place c.args.mark w.mark.result within (rw (← c.slices-slices.ensures) w.if-slices-place.false) w.mark.ensures.value (grind (arith, nat_tests))
    ])

pub loop-place-preserved : goal.loop-place-preserved
loop-place-preserved c =
    let es = (listed c.args.slots.now) in
    let size = length-map es (λ (e : Entry). e.slice) in
    let within : c.loop-place.place < length es = omega (arith, ap length c.slices-slices.ensures, c.loop-place-test.true, size) in
    below_more _ _ c.loop-place.invariant (lower_mark es c.args.slice c.loop-place.place c.args.mark c.mark.result within (rw (← c.slices-slices.ensures) c.if-slices-place.false) c.mark.ensures.value (grind (arith, nat_tests)))

pub returns-clause-place : goal.returns-clause-place
returns-clause-place c =
    let es = (listed c.args.slots.now) in
    let size = length-map es (λ (e : Entry). e.slice) in
    let whole = ap length c.slices-slices.ensures in
    place_in-is es _ (length c.slices-slices.result.now) (omega (arith, whole, size)) (λ k lt. c.loop-place.invariant k (omega (arith, lt, c.loop-place-test.false))) (λ lt. absurd (omega (arith, lt, whole, size)))
