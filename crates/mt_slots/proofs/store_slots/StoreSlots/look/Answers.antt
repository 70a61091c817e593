-- Each slot was read, the first one first.
use Rattle.std.proofs.Common.{refl}
use Rattle.mt_slots.specs.declared.slot.Slot.TheVariants.{First, Second}
use Rattle.mt_slots.proofs.store_slots.StoreSlots.look.Goals as goal

pub returns-clause-ok : goal.returns-clause-ok
returns-clause-ok g c = (
  record { first = c.in_ok-first.first; second = c.in_ok-second.second },
  refl,
  record { each = elim [ First ↦ c.in_ok-first.ensures.ok | Second ↦ c.in_ok-second.ensures.ok ]; newest = refl; owed = refl },
)
