-- That a turn is one of the store, whose logs stay as many and in order after it.
use Rattle.std.proofs.{Common.{rules, ◌≡◌, ◌<◌, length, Some, sym, subst, ap, ◌∙◌, arith}, lemmas.Option.slice_get-get_or, lemmas.Result.IfOk-weaker}
use Rattle.std.specs.Prelude.{slice_get, slice_set, IfOk, IfErr}
use Rattle.mt_settle.specs.Turns.{BegunNext, mark_told}
use Rattle.mt_store_logs.{proofs.{Closed.same_order, Loops.same_workers}, specs.Places.worker_of}
use Rattle.mt_stored.{specs.{Begins.{BringsUpAndBegins, FailsToBringUpAndBegin}, Stores.{gives_own, DoesStore}}, proofs.StoreTurns.{turned_next, as_many_next}}
use Rattle.mt_stored.proofs.stores.StoreLogs.begin_next.Goals as goal

pub bring_up_and_begin-requires : goal.bring_up_and_begin-requires
bring_up_and_begin-requires g c =
    let logs = c.args.self.now.logs.items in
    let place = c.from.result in
    let before = c.index_mut.result.now in
    let within : place < length logs = search rules in
    let there : slice_get logs place ≡ Some before = slice_get-get_or logs place before within ∙ ap Some (sym c.index_mut.ensures.value) in
    let whose : worker_of before ≡ place = c.args.self.now.order place before there in
    let all = c.args.self.now.all in
    let len = c.args.self.now.logs.ok.0 in
    (omega (arith, whose, within, all, len), omega (arith, c.steps-steps.ensures.value))

pub returns-clause-whose : goal.returns-clause-whose
returns-clause-whose g c =
    let logs = c.args.self.now.logs.items in
    let place = c.from.result in
    let before = c.index_mut.result.now in
    let within : place < length logs = search rules in
    let there : slice_get logs place ≡ Some before = slice_get-get_or logs place before within ∙ ap Some (sym c.index_mut.ensures.value) in
    IfOk-weaker c.bring_up_and_begin.result _ _ (λ f e. e ∙ c.args.self.now.order place before there ∙ c.from.ensures) c.bring_up_and_begin.ensures.whose

pub returns-clause-does : goal.returns-clause-does
returns-clause-does g c =
    let was = c.args.self.now.source in
    let is = c.bring_up_and_begin.new.source in
    let logs = c.args.self.now.logs.items in
    let place = c.from.result in
    let before = c.index_mut.result.now in
    let after = c.bring_up_and_begin.new.log in
    let r = c.bring_up_and_begin.result in
    let within : place < length logs = search rules in
    let there : slice_get logs place ≡ Some before = slice_get-get_or logs place before within ∙ ap Some (sym c.index_mut.ensures.value) in
    let whose : worker_of before ≡ c.args.log = c.args.self.now.order place before there ∙ c.from.ensures in
    subst (λ k. DoesStore g.D.Disk.is_honest g.D.Disk.state g.D.Disk.failures (BegunNext c.args.log c.args.generation (mark_told r)) was logs is (slice_set logs k after)) (sym c.from.ensures)
    (turned_next g.D.Disk.is_honest g.D.Disk.state g.D.Disk.failures c.args.log c.args.generation r was is logs before after
    (subst (λ k. slice_get logs k ≡ Some before) c.from.ensures there) whose
    (subst (λ n. IfOk r (λ f. BringsUpAndBegins g.D.Disk.is_honest g.D.Disk.state g.D.Disk.failures gives_own n c.args.generation f.mark before after was is)) c.steps-steps.ensures.value c.bring_up_and_begin.ensures.ok)
    (subst (λ n. IfErr r (λ e. FailsToBringUpAndBegin g.D.Disk.is_honest g.D.Disk.state g.D.Disk.failures gives_own n c.args.generation e before after was is)) c.steps-steps.ensures.value c.bring_up_and_begin.ensures.err))

pub invariant_of-self : goal.invariant_of-self
invariant_of-self g c =
    let logs = c.args.self.now.logs.items in
    let place = c.from.result in
    let before = c.index_mut.result.now in
    let after = c.bring_up_and_begin.new.log in
    record {
      all =
          as_many_next g.D.Disk.is_honest g.D.Disk.state g.D.Disk.failures c.steps-steps.result c.args.generation c.bring_up_and_begin.result c.args.self.now.source c.bring_up_and_begin.new.source
          before after c.bring_up_and_begin.ensures.ok c.bring_up_and_begin.ensures.err
          ∙ c.args.self.now.all;
      order =
          same_order logs (slice_set logs place after) (same_workers place logs after before (c.bring_up_and_begin.ensures.worker ∙ ap (λ l. worker_of l) c.index_mut.ensures.value))
          c.args.self.now.order;
    }
