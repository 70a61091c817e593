-- Nothing ascends, and what does not have the numbers that were seen is not what the slot holds.
use Rattle.std.proofs.{Common.{◌≡◌, inr, sym, ap, ◌∙◌, Option, Some, Bor}, lemmas.Result.IfErr-weaker}
use Rattle.mt_checkpoint.specs.declared.checkpoint.Checkpoint.{Checkpoint}
use Rattle.mt_recover.specs.Loads.{used_of}
use Rattle.mt_recover.proofs.{BaseLaws.nothing_ascends, Loading.{not_held, used_first, used_second}}
use Rattle.mt_recover.proofs.recovering.load_base.Goals.{then-slot-eq0, else-slot-eq0}
use Rattle.mt_recover.proofs.recovering.load_base.Goals as goal

pub returns-in_default-clause-ascend : goal.returns-in_default-clause-ascend
returns-in_default-clause-ascend g c = nothing_ascends c.new.result.items c.new.ensures.items

pub returns-clause-stops : goal.returns-clause-stops
returns-clause-stops g c =
    let loaded = c.in_ok-load.field-0 in
    let seen : c.if-slot-eq0.seen.now ≡ used_of (Some c.in-Some.slot) c.args.first.now c.args.second.now = elim c.if-slot-eq0.branch [
      | then-slot-eq0 w ↦ ap (λ (s : Bor (Option Checkpoint)). s.now) w.seen-is ∙ sym (used_first c.in-Some.slot c.args.first.now c.args.second.now w.if-slot-eq0.true)
      | else-slot-eq0 w ↦ ap (λ (s : Bor (Option Checkpoint)). s.now) w.seen-is ∙ sym (used_second c.in-Some.slot c.args.first.now c.args.second.now w.if-slot-eq0.false)
    ] in
    IfErr-weaker c.agreed.result _ _
    (λ e why. inr (why.0, not_held (g.S.Source.holds c.args.source.now) c.args.used c.in-Some.slot c.args.first.now c.args.second.now c.if-slot-eq0.seen.now loaded c.in-Some.is c.requires seen c.in_ok-load.ensures.given why.1))
    c.agreed.ensures.err
