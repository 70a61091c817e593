-- The checkpoint is given up.
use Rattle.std.proofs.Common.{refl}
use Rattle.mt_lives.specs.declared.live_slots.LiveSlots.TheVariants.{Rest}
use Rattle.mt_lives.proofs.CheckNotes.{not_stepped_up}
use Rattle.mt_lives.proofs.checks.after_step.Goals as goal

pub returns-in-Begun : goal.returns-in-Begun
returns-in-Begun c =
    not_stepped_up c.args.writing c.args.walk c.args.name c.args.told.now (Rest c.give_up.result) c.in-Begun.is (c.give_up.result, refl, c.give_up.ensures)
