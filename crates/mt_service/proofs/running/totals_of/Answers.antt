-- The sum of the passes that came back.
use Rattle.std.{proofs.{Common.{◌∙◌, ◌+◌, map, ap}, lemmas.List.Sums.sum_by-cons}, specs.List.sum_by}
use Rattle.mt_book.specs.declared.passes.Pass.{Pass}
use Rattle.mt_service.specs.Sessions.{pass_in}
use Rattle.mt_service.proofs.ShareLemmas.{sum_moved}
use Rattle.mt_service.proofs.running.totals_of.Goals.{in-Ok, in-Err}
use Rattle.mt_service.proofs.running.totals_of.Goals as goal

pub returns-clause-answers : goal.returns-clause-answers
returns-clause-answers g c =
    let share = λ (pass : Pass g.row.L.Denot). pass.share.amount in
    let own = c.args.turner.pass in
    elim (c.match-gather.branch) [
      | in-Ok w ↦
          rw w.result-is
          (w.in-Ok.ensures.sum ∙ ap (sum_by share) c.in_ok-passes.ensures.passes ∙ sum_by-cons share own (map pass_in c.args.served.items)
          ∙ ap (λ n. own.share.amount + n) (sum_moved share pass_in c.args.served.items))
      | in-Err w ↦ rw w.result-is tt
    ]
