-- The one order of a run's story, for `run_events`.
use Rattle.std.{proofs.Common.subst, specs.List.zip}
use Rattle.mt_rows.specs.Accounts.{account_of}
use Rattle.mt_runs.{specs.{Runs.{Run, story_of}, Placings.{Quotas, no_pairs}}, proofs.Order.one_order}
use Rattle.mt_state.{specs.{Views.{StateView, quota_in, map_of, changed_at}, Histories.{no_names, BringsTo}}, proofs.HistoryNew.right_new}
use Rattle.mt_core.specs.Tickets.{named}
use Rattle.mt_core.proofs.events.run_events.Goals as goal

pub returns-clause-headline : goal.returns-clause-headline
returns-clause-headline c =
    let run : Run = zip c.args.events.now c.in_ok-told.told.items in
    let quotas : Quotas = λ t. quota_in (account_of c.args.tenants t) in
    let names = named c.tell_all.new.roster.tickets in
    let v : StateView = c.tell_all.new.state in
    let leads = subst (λ (start : StateView). BringsTo no_names start run names v) c.in_ok-state.ensures c.in_ok-told.ensures.run in
    one_order quotas no_pairs (story_of 0 run) (map_of v) (changed_at v) (right_new c.args.logs c.args.tenants run names v leads)
