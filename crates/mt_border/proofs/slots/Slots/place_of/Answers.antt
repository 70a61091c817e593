-- the order tells the place
use Rattle.mt_border.proofs.Slotting.{live_told, place_told, none_told}
use Rattle.mt_border.proofs.slots.Slots.place_of.Goals as goal

pub returns-clause-live : goal.returns-clause-live
returns-clause-live c = live_told _ _ c.args.slot c.self.invariant c.self.view_is c.place_of.result c.place_of.ensures.some

pub returns-clause-some : goal.returns-clause-some
returns-clause-some c = place_told _ _ c.args.slot c.self.invariant c.self.view_is c.place_of.result c.place_of.ensures.some

pub returns-clause-none : goal.returns-clause-none
returns-clause-none c = none_told _ _ c.args.slot c.self.invariant c.self.view_is c.place_of.result c.place_of.ensures.none
