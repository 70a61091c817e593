-- Images that the disks may not leave, of logs or of slots.
use Rattle.std.proofs.Common.{◌∙◌, true≢false, refl, sym, subst}
use Rattle.mt_slots.specs.Crashes.{MayLeaveBoth}
use Rattle.mt_store_logs.specs.Crashes.{MayLeaveLogs}
use Rattle.mt_lives.proofs.crashes.crash_all.Goals as goal

pub returns-then-not-may_leave-clause-unchanged : goal.returns-then-not-may_leave-clause-unchanged
returns-then-not-may_leave-clause-unchanged c = λ no. (
  refl,
  refl,
  λ m.
      let may = subst (λ f. MayLeaveBoth f c.deref-2.result.now c.args.slots.now) (sym c.deref.ensures.value)
      (subst (λ x. MayLeaveBoth c.args.images.now.first.items x c.args.slots.now) (sym c.deref-2.ensures.value) m.slots_may) in
      absurd (true≢false (sym (c.may_leave.ensures.1 may) ∙ c.if-not-may_leave.true)),
)

pub returns-then-not-branch-clause-unchanged : goal.returns-then-not-branch-clause-unchanged
returns-then-not-branch-clause-unchanged c = λ no.
    let same = c.in_ok-crash_logs.ensures.unchanged c.if-not-branch.true in (
      same.0,
      refl,
      λ m. same.1 (subst (λ images. MayLeaveLogs images c.args.logs.now) (sym c.deref-3.ensures.value) m.logs_may),
    )
