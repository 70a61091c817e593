-- The checkpoint of a turn begins, or not.
use Rattle.std.proofs.Common.{ℕ, Vec, inl, refl, sym, ap, subst, ◌∙◌}
use Rattle.std.specs.declared.alloc.Global.{Global}
use Rattle.mt_pages.specs.Walked.{Rise}
use Rattle.mt_lives.specs.{declared.live_slots.CheckStage.TheVariants.Begins as BeginsNext, declared.live_slots.TurnStage.TheVariants.Begins as BeginsAt, Checks.check_with}
use Rattle.mt_lives.proofs.CheckNotes.{begin_refused, begin_fails, begin_goes, begin_forced, writes_forced}
use Rattle.mt_lives.proofs.checks.begin_writing.Goals as goal

pub returns-in-Err-clause-goes : goal.returns-in-Err-clause-goes
returns-in-Err-clause-goes c = λ logs serving all same standing h. begin_refused c.args.tenants.now standing logs serving c.args.slots c.args.log all h

pub returns-in-Err-clause-forced : goal.returns-in-Err-clause-forced
returns-in-Err-clause-forced c = λ logs all. refl

pub returns-in-Ok-begin-clause-goes : goal.returns-in-Ok-begin-clause-goes
returns-in-Ok-begin-clause-goes c = λ logs serving all same standing h.
    begin_goes c.args.tenants.now standing logs serving c.args.slots c.args.log all h c.args.steps c.in-Ok-begin.writing c.new.result same c.in-Ok-begin.ensures.ok
    (subst (λ (v : Vec ℕ Global). Rise v.items) (sym c.new.ensures.tenants) c.in-Ok.ensures.rise) c.new.ensures.place c.new.ensures.from c.new.ensures.after
    (ap (λ (v : Vec ℕ Global). v.items) c.new.ensures.tenants ∙ c.in-Ok.ensures.all)

pub returns-in-Ok-begin-clause-forced : goal.returns-in-Ok-begin-clause-forced
returns-in-Ok-begin-clause-forced c = λ logs all.
    writes_forced c.args.slots c.args.log logs (check_with c.in-Ok-begin.writing c.new.result BeginsNext) c.args.steps all c.in-Ok-begin.ensures.ok.begun.first_is

pub returns-in-Err-begin-clause-goes : goal.returns-in-Err-begin-clause-goes
returns-in-Err-begin-clause-goes c = λ logs serving all same standing h.
    begin_fails c.args.tenants.now standing logs serving c.args.slots c.args.log all h c.in-Err-begin.slots c.in-Err-begin.ensures.err

pub returns-in-Err-begin-clause-forced : goal.returns-in-Err-begin-clause-forced
returns-in-Err-begin-clause-forced c = λ logs all. inl (begin_forced c.args.slots c.in-Err-begin.slots (BeginsAt c.args.log) c.in-Err-begin.ensures.err, refl)
