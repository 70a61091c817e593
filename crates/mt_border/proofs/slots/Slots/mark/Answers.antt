-- the row of marks has those of the entries
use Rattle.std.proofs.Common.{get_or, ap, sym, ◌∙◌, arith}
use Rattle.mt_border.proofs.Slotting.{size-listed, marks-listed}
use Rattle.mt_border.proofs.slots.Slots.mark.Goals as goal

pub get-requires : goal.get-requires
get-requires c = omega (arith, c.requires, size-listed _ _ c.self.invariant c.self.view_is, c.self.invariant.slices_are, c.self.invariant.marks_are)

pub returns-clause-value : goal.returns-clause-value
returns-clause-value c = c.get.ensures.value ∙ ap (λ ms. get_or ms c.args.place c.get.result) (sym (marks-listed _ _ c.self.invariant c.self.view_is))
