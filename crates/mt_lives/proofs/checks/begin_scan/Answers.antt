-- The walk's next scan begins, or the checkpoint ends.
use Rattle.std.proofs.Common.{inl, refl, sym, ◌∙◌, arith}
use Rattle.mt_rows.specs.declared.refusal.Refusal.TheVariants.{Memory}
use Rattle.mt_lives.specs.{declared.live_slots.LiveSlots.TheVariants.Writes, declared.live_slots.CheckStage.TheVariants.Begins, Checks.check_with}
use Rattle.mt_lives.proofs.CheckNotes.{given_so, begin_goes_on, none_is}
use Rattle.mt_lives.proofs.checks.begin_scan.Goals as goal

pub returns-in-Err-clause-goes : goal.returns-in-Err-clause-goes
returns-in-Err-clause-goes c = λ accounts logs standing h.
    given_so accounts standing logs c.args.serving.now c.args.writing c.args.walk Begins h Memory (inl refl) c.give_up.result c.give_up.ensures

pub core-requires : goal.core-requires
core-requires c =
    let held = c.requires in
    let some = held.1.2.some in
    record { held = (held.0, (held.1.0, Writes (check_with c.args.writing c.args.walk Begins), held.1.1, held.1.2), omega (arith, some)) }

pub returns-in_ok-told-in-Some-clause-goes : goal.returns-in_ok-told-in-Some-clause-goes
returns-in_ok-told-in-Some-clause-goes c = λ accounts logs standing h.
    begin_goes_on accounts standing logs c.args.serving.now c.args.writing c.args.walk h c.core.new.serving _ c.in-Some.tenant c.in-Some.command (sym c.in-Some.is ∙ c.in-Ok.ensures) c.in_ok-told-in-Some.told
    c.in_ok-told-in-Some.ensures.tells c.after_begin-slots.result c.after_begin-slots.ensures

pub end-requires-clause-held : goal.end-requires-clause-held
end-requires-clause-held c = (
  c.requires.0,
  c.args.serving.now,
  c.requires.1,
  sym c.steps-last.ensures.value,
  none_is c.args.walk.tenants.items c.args.walk.place c.args.walk.from c.args.walk.after (sym c.in-None.is ∙ c.in-Ok.ensures),
)

pub returns-in-None-clause-goes : goal.returns-in-None-clause-goes
returns-in-None-clause-goes c = λ accounts logs standing h.
    c.end.ensures.goes accounts logs c.args.serving.now (sym c.steps-last.ensures.value) (none_is c.args.walk.tenants.items c.args.walk.place c.args.walk.from c.args.walk.after (sym c.in-None.is ∙ c.in-Ok.ensures)) standing h
