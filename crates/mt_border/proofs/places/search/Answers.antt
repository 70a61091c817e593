-- what was passed has not the slice and the mark, and nothing behind an entry of another slice has it
use Rattle.std.proofs.{Common.{refl, rules, ◌<◌, length, ap, arith}, lemmas.List.length-map}
use Rattle.mt_border.specs.{declared.entry.Entry.Entry, Slots.listed}
use Rattle.mt_border.proofs.{Counts.{slices_fall, slices_count}, Finds.{none_lower, none_more, missing_behind}}
use Rattle.mt_border.proofs.places.search.Goals as goal

pub count_below-place-requires-clause-rises : goal.count_below-place-requires-clause-rises
count_below-place-requires-clause-rises c = slices_fall (listed c.args.slots.now) _ c.requires refl

pub count_below-place-requires-clause-few : goal.count_below-place-requires-clause-few
count_below-place-requires-clause-few c = c.requires.within

pub loop-place-init : goal.loop-place-init
loop-place-init c =
    let es = (listed c.args.slots.now) in
    none_lower es c.args.slice c.count_below-place.result c.args.mark (slices_count es c.args.slice _ c.requires c.count_below-place.ensures).below

pub mark-requires : goal.mark-requires
mark-requires c =
    let es = (listed c.args.slots.now) in
    let size = length-map es (λ (e : Entry). e.slice) in
    omega (arith, ap length c.slices-slices.ensures, c.loop-place-test.true, size)

pub returns-then-slices-place-clause-missing : goal.returns-then-slices-place-clause-missing
returns-then-slices-place-clause-missing c =
    let es = (listed c.args.slots.now) in
    let count = slices_count es c.args.slice _ c.requires c.count_below-place.ensures in
    let size = length-map es (λ (e : Entry). e.slice) in
    let within : c.loop-place.place < length es = omega (arith, ap length c.slices-slices.ensures, c.loop-place-test.true, size) in
    missing_behind es c.args.slice c.count_below-place.result c.loop-place.place c.args.mark c.requires (λ lt. count.above (omega (arith, lt, size))) c.loop-place.auto.place within (rw (← c.slices-slices.ensures) c.if-slices-place.true) c.loop-place.invariant

pub loop-place-preserved : goal.loop-place-preserved
loop-place-preserved c =
    let es = (listed c.args.slots.now) in
    let size = length-map es (λ (e : Entry). e.slice) in
    let within : c.loop-place.place < length es = omega (arith, ap length c.slices-slices.ensures, c.loop-place-test.true, size) in
    none_more es c.args.slice c.loop-place.place c.args.mark c.mark.result c.loop-place.invariant within c.mark.ensures.value (search rules)
