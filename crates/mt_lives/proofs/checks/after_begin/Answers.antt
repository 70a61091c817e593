-- The checkpoint is given up.
use Rattle.std.proofs.Common.{refl}
use Rattle.mt_lives.specs.declared.live_slots.LiveSlots.TheVariants.{Rest}
use Rattle.mt_lives.proofs.CheckNotes.{not_begun_up}
use Rattle.mt_lives.proofs.checks.after_begin.Goals as goal

pub returns-in_default : goal.returns-in_default
returns-in_default c =
    not_begun_up c.args.writing c.args.walk c.args.name c.args.told.now (Rest c.give_up.result) c.in_default.not-Begun (c.give_up.result, refl, c.give_up.ensures)
