-- each side is a part of the entries, cut where their slices reach the separator
use Rattle.std.proofs.{Common.{refl, ◌≡◌, length, ap, arith}, lemmas.List.{length-take, length-drop, length-map}}
use Rattle.mt_border.specs.{declared.entry.Entry.Entry, Entries.IsMissing, Slots.listed, Node.entries_of}
use Rattle.mt_border.proofs.{Edits.{border_take, border_drop}, Cuts.{marks_of, least_left, least_right}, Counts.{slices_fall, slices_count}, Parts.parted_at}
use Rattle.mt_border.proofs.border.Border.split_without.Goals as goal

pub count_below-keep-requires-clause-rises : goal.count_below-keep-requires-clause-rises
count_below-keep-requires-clause-rises c = slices_fall (listed c.self.inside.slots) _ c.self.invariant.border refl

pub count_below-keep-requires-clause-few : goal.count_below-keep-requires-clause-few
count_below-keep-requires-clause-few c = c.self.invariant.border.within

pub invariant_of-self : goal.invariant_of-self
invariant_of-self c =
    let count = slices_count (listed c.self.inside.slots) c.separator-separator.result _ c.self.invariant.border c.count_below-keep.ensures in
    let size = length-map (listed c.self.inside.slots) (λ (e : Entry). e.slice) in
    record { slotted = c.part.ensures.slotted; border = rw c.part.ensures.kept (border_take _ c.count_below-keep.result c.self.invariant.border.rising c.self.invariant.border.each (omega (arith, count.within, size, c.self.invariant.border.within))) }

pub invariant_of-right : goal.invariant_of-right
invariant_of-right c = record {
  slotted = c.part.ensures.slotted_on_the_right;
  border = rw c.part.ensures.moved (border_drop _ c.count_below-keep.result c.self.invariant.border.rising c.self.invariant.border.each (omega (arith, c.self.invariant.border.within)));
}

pub returns-clause-parted : goal.returns-clause-parted
returns-clause-parted c =
    let es = (listed c.self.inside.slots) in
    let count = slices_count (listed c.self.inside.slots) c.separator-separator.result _ c.self.invariant.border c.count_below-keep.ensures in
    let size = length-map es (λ (e : Entry). e.slice) in
    rw (← c.self.view_is, c.part.ensures.kept, c.part.ensures.moved)
    (parted_at es _ c.count_below-keep.result c.self.invariant.border.rising (marks_of _ c.self.invariant.border) (omega (arith, count.within, size)) count.below (λ lt. count.above (omega (arith, lt, size))))

pub returns-clause-two_on_the_left : goal.returns-clause-two_on_the_left
returns-clause-two_on_the_left c =
    let es = (listed c.self.inside.slots) in
    let entries_are = ap entries_of c.self.view_is in
    let count = slices_count (listed c.self.inside.slots) c.separator-separator.result _ c.self.invariant.border c.count_below-keep.ensures in
    let size = length-map es (λ (e : Entry). e.slice) in
    let full : length es ≡ 15 = rw entries_are c.requires.full in
    let missing : IsMissing es c.args.slice c.args.mark = rw entries_are c.requires.missing in
    let separator = rw (← entries_are) at c.separator-separator.ensures in
    let keep = least_left es c.args.slice c.args.mark c.self.invariant.border c.requires.mark missing full _ _ separator (λ lt. count.above (omega (arith, lt, size))) in
    rw c.part.ensures.kept (omega (arith, length-take c.count_below-keep.result es, keep, count.within, size))

pub returns-clause-two_on_the_right : goal.returns-clause-two_on_the_right
returns-clause-two_on_the_right c =
    let es = (listed c.self.inside.slots) in
    let entries_are = ap entries_of c.self.view_is in
    let count = slices_count (listed c.self.inside.slots) c.separator-separator.result _ c.self.invariant.border c.count_below-keep.ensures in
    let full : length es ≡ 15 = rw entries_are c.requires.full in
    let missing : IsMissing es c.args.slice c.args.mark = rw entries_are c.requires.missing in
    let separator = rw (← entries_are) at c.separator-separator.ensures in
    let keep = least_right es c.args.slice c.args.mark c.self.invariant.border c.requires.mark missing full _ _ separator count.below in
    rw c.part.ensures.moved (omega (arith, length-drop c.count_below-keep.result es, keep, full))
