-- the first row has the slices of the entries
use Rattle.std.{proofs.Common.{subst, count_by, ap, sym, ◌∙◌, arith}, specs.Prelude.nat_lt}
use Rattle.mt_lists.specs.Rising.{NeverFalls}
use Rattle.mt_border.proofs.Slotting.{slices-listed, size-listed}
use Rattle.mt_border.proofs.slots.Slots.count_below.Goals as goal

pub count_below-requires : goal.count_below-requires
count_below-requires c = record {
  rises = subst NeverFalls (slices-listed _ _ c.self.invariant c.self.view_is) c.requires.rises;
  few = omega (arith, c.requires.few, size-listed _ _ c.self.invariant c.self.view_is, c.self.invariant.slices_are);
}

pub returns : goal.returns
returns c = c.count_below.ensures ∙ ap (λ xs. count_by (λ s. nat_lt s c.args.slice) xs) (sym (slices-listed _ _ c.self.invariant c.self.view_is))
