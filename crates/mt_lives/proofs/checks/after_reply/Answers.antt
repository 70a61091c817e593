-- The walk has taken the page.
use Rattle.std.proofs.Common.{inl, refl, sym, subst}
use Rattle.mt_rows.specs.declared.reply.Reply.{Reply}
use Rattle.mt_lives.specs.{declared.live_slots.LiveSlots.TheVariants.{Rest, Writes}, declared.live_slots.CheckStage.TheVariants.Adds, Checks.{check_with, AfterReply}}
use Rattle.mt_lives.proofs.CheckNotes.{not_shown_up}
use Rattle.mt_lives.proofs.checks.after_reply.Goals as goal

pub returns-in-Ok : goal.returns-in-Ok
returns-in-Ok c =
    subst (λ (r : Reply). AfterReply c.args.writing c.args.walk r (Writes (check_with c.args.writing c.take.new.self (Adds c.in-Ok.pairs)))) (sym c.in-Pairs.is)
    (inl (record { next = c.take.new.self; pairs = c.in-Ok.pairs; takes = c.in-Ok.ensures.ok; limits = c.in-Ok.ensures.limits; stands = refl }))

pub returns-in_default : goal.returns-in_default
returns-in_default c =
    not_shown_up c.args.writing c.args.walk c.args.reply.now (Rest c.give_up.result) (c.give_up.result, refl, c.give_up.ensures)

pub returns-in-Err : goal.returns-in-Err
returns-in-Err c =
    not_shown_up c.args.writing c.args.walk c.args.reply.now (Rest c.give_up-in-Err.result) (c.give_up-in-Err.result, refl, c.give_up-in-Err.ensures)
