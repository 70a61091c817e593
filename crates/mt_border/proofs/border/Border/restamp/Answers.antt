-- other stamps leave the order
use Rattle.mt_border.{specs.Restamps.new_stamp, proofs.Restamping.border-restamped}
use Rattle.mt_border.proofs.border.Border.restamp.Goals as goal

pub invariant_of-self : goal.invariant_of-self
invariant_of-self c = record {
  slotted = c.restamp.ensures.slotted;
  border = rw (c.restamp.ensures.entries) (border-restamped (new_stamp c.args.stamps.now) _ c.self.invariant.border);
}
