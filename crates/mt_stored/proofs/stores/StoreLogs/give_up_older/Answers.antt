-- That a turn is one of the store, whose logs stay as many and in order after it.
use Rattle.std.proofs.{Common.{rules, ◌≡◌, ◌<◌, length, Some, sym, subst, ap, ◌∙◌}, lemmas.Option.slice_get-get_or}
use Rattle.std.specs.Prelude.{slice_get, slice_set}
use Rattle.mt_settle.specs.Turns.{GivenUp}
use Rattle.mt_store_logs.{proofs.{Closed.same_order, Loops.same_workers}, specs.Places.worker_of}
use Rattle.mt_stored.{specs.Stores.DoesStore, proofs.StoreTurns.given_up}
use Rattle.mt_stored.proofs.stores.StoreLogs.give_up_older.Goals as goal

pub returns-clause-does : goal.returns-clause-does
returns-clause-does g c =
    let was = c.args.self.now.source in
    let logs = c.args.self.now.logs.items in
    let place = c.from.result in
    let before = c.index_mut.result.now in
    let after = c.give_up_older.new.self in
    let r = c.give_up_older.result in
    let within : place < length logs = search rules in
    let there : slice_get logs place ≡ Some before = slice_get-get_or logs place before within ∙ ap Some (sym c.index_mut.ensures.value) in
    let whose : worker_of before ≡ c.args.log = c.args.self.now.order place before there ∙ c.from.ensures in
    subst (λ k. DoesStore g.D.Disk.is_honest g.D.Disk.state g.D.Disk.failures (GivenUp c.args.log r) was logs was (slice_set logs k after)) (sym c.from.ensures)
    (given_up g.D.Disk.is_honest g.D.Disk.state g.D.Disk.failures c.args.log r was logs before after
    (subst (λ k. slice_get logs k ≡ Some before) c.from.ensures there) whose c.give_up_older.ensures.ok c.give_up_older.ensures.err)

pub invariant_of-self : goal.invariant_of-self
invariant_of-self g c =
    let logs = c.args.self.now.logs.items in
    let place = c.from.result in
    let before = c.index_mut.result.now in
    let after = c.give_up_older.new.self in
    record {
      all = c.args.self.now.all;
      order =
          same_order logs (slice_set logs place after) (same_workers place logs after before (c.give_up_older.ensures.worker ∙ ap (λ l. worker_of l) c.index_mut.ensures.value))
          c.args.self.now.order;
    }
