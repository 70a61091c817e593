-- An event that is a crash, and any other, of a store that serves or does not.
use Rattle.std.{proofs.{Common.{rules, ◌≡◌, ◌++◌, List, length, take, drop, Some, refl, sym, ap, subst, ◌∙◌}, Math.Seq.take-append_seam, lemmas.Result.IfOk-weaker}, specs.Prelude.IfOk}
use Rattle.mt_disk.specs.declared.mem.MemDisk.{MemDisk}
use Rattle.mt_store_logs.specs.{declared.store_log.StoreLog.StoreLog, Places.AreInOrder}
use Rattle.mt_lives.specs.{Holds.{quotas_of, Holds}, Steps.{LeavesSlots, IsServedBy}, declared.events.StoreNote.TheVariants.NoSuch, Forced.{IsForced, IsDone}}
use Rattle.mt_lives.proofs.{Forcing.{none_forced, crash_forced, served_forced, slots_alone}, Returning.{not_away, crashed_goes}}
use Rattle.mt_lives.proofs.Happening.{leaves_slots, done_other, nothing_noted, serves_none, served_count, served_workers, served_goes, begun_goes, begun_forced, stepped_goes, stepped_forced}
use Rattle.mt_lives.proofs.running.happen.Goals as goal

pub returns-in-Crash-clause-goes : goal.returns-in-Crash-clause-goes
returns-in-Crash-clause-goes c =
    let items = c.args.store.now.logs.items in
    let new = c.crash.new.logs in
    let behind = drop (length new) items in
    let len : c.args.store.now.logs.len ≡ length new = search rules in
    let whole : take c.args.store.now.logs.len (new ++ behind) ≡ new = ap (λ n. take n (new ++ behind)) len ∙ take-append_seam new behind in
    crashed_goes c.args.tenants.now c.args.store.now.slots c.crash.new.slots c.in-Crash.images c.args.event.now c.deref_mut.result.now items new (take c.args.store.now.logs.len (new ++ behind)) c.args.store.now.serving c.crash.new.serving
    c.crash.result c.in-Crash.is c.deref_mut.ensures.value (sym whole) c.crash.ensures.crashes

pub returns-in-Crash-clause-forced : goal.returns-in-Crash-clause-forced
returns-in-Crash-clause-forced c =
    let items = c.args.store.now.logs.items in
    let new = c.crash.new.logs in
    let behind = drop (length new) items in
    let len : c.args.store.now.logs.len ≡ length new = search rules in
    let whole : take c.args.store.now.logs.len (new ++ behind) ≡ new = ap (λ n. take n (new ++ behind)) len ∙ take-append_seam new behind in
    crash_forced c.deref_mut.result.now items new (take c.args.store.now.logs.len (new ++ behind)) c.crash.result c.deref_mut.ensures.value (sym whole) c.args.tenants.now c.args.event.now
    c.args.store.now.slots c.crash.new.slots c.in-Crash.images c.args.store.now.serving c.in-Crash.is c.crash.ensures.forced

pub crash-requires-clause-there : goal.crash-requires-clause-there
crash-requires-clause-there c = not_away c.args.tenants.now c.args.store.now.slots c.requires.held.0 c.args.store.now.logs.items c.args.store.now.serving c.requires.held.1

pub returns-in-Crash-clause-done : goal.returns-in-Crash-clause-done
returns-in-Crash-clause-done c =
    IfOk-weaker c.crash.result _ _
    (λ note crashes. done_other c.args.event.now note c.args.store.now.serving c.crash.new.serving (subst (λ e. ¬ LeavesSlots e) (sym c.in-Crash.is) (λ never. never)))
    c.crash.ensures.crashes

pub returns-in-CheckBegin-clause-done : goal.returns-in-CheckBegin-clause-done
returns-in-CheckBegin-clause-done c =
    done_other c.args.event.now c.begin_check.result c.args.store.now.serving c.args.store.now.serving (subst (λ e. ¬ LeavesSlots e) (sym c.in-CheckBegin.is) (λ never. never))

pub returns-in-CheckStep-clause-done : goal.returns-in-CheckStep-clause-done
returns-in-CheckStep-clause-done c =
    IfOk-weaker c.step_check.result _ _
    (λ note goes. done_other c.args.event.now note c.args.store.now.serving c.step_check.new.serving (subst (λ e. ¬ LeavesSlots e) (sym c.in-CheckStep.is) (λ never. never)))
    c.step_check.ensures.goes

pub returns-in-CheckBegin-clause-goes : goal.returns-in-CheckBegin-clause-goes
returns-in-CheckBegin-clause-goes c =
    begun_goes c.args.tenants.now c.args.store.now.slots c.begin_check.new.slots c.args.event.now c.begin_check.result c.deref.result.now c.args.store.now.logs.items c.args.store.now.serving
    c.in-CheckBegin.is c.deref.ensures.value c.begin_check.ensures.goes

pub returns-in-CheckBegin-clause-forced : goal.returns-in-CheckBegin-clause-forced
returns-in-CheckBegin-clause-forced c =
    begun_forced c.args.tenants.now c.args.store.now.slots c.begin_check.new.slots c.args.event.now c.begin_check.result c.deref.result.now c.args.store.now.logs.items c.args.store.now.serving
    c.in-CheckBegin.is c.deref.ensures.value c.begin_check.ensures.forced

pub step_check-requires : goal.step_check-requires
step_check-requires c =
    let value = sym c.deref_mut-in-CheckStep.ensures.value in
    let held = c.requires.held in
    record {
      held = (
        c.args.tenants.now,
        held.0,
        subst (λ logs. Holds c.args.tenants.now c.args.store.now.slots held.0 logs c.args.store.now.serving) value held.1,
      );
      order = subst AreInOrder value c.requires.order;
    }

pub returns-in-CheckStep-clause-goes : goal.returns-in-CheckStep-clause-goes
returns-in-CheckStep-clause-goes c =
    let items = c.args.store.now.logs.items in
    let new = c.step_check.new.logs in
    let behind = drop (length new) items in
    let len : c.args.store.now.logs.len ≡ length new = search rules in
    let whole : take c.args.store.now.logs.len (new ++ behind) ≡ new = ap (λ n. take n (new ++ behind)) len ∙ take-append_seam new behind in
    stepped_goes c.args.tenants.now c.args.store.now.slots c.step_check.new.slots c.args.event.now c.deref_mut-in-CheckStep.result.now items new (take c.args.store.now.logs.len (new ++ behind))
    c.args.store.now.serving c.step_check.new.serving c.step_check.result c.in-CheckStep.is c.deref_mut-in-CheckStep.ensures.value (sym whole) c.step_check.ensures.goes

pub returns-in-CheckStep-clause-forced : goal.returns-in-CheckStep-clause-forced
returns-in-CheckStep-clause-forced c =
    let items = c.args.store.now.logs.items in
    let new = c.step_check.new.logs in
    let behind = drop (length new) items in
    let len : c.args.store.now.logs.len ≡ length new = search rules in
    let whole : take c.args.store.now.logs.len (new ++ behind) ≡ new = ap (λ n. take n (new ++ behind)) len ∙ take-append_seam new behind in
    stepped_forced c.args.tenants.now c.args.store.now.slots c.step_check.new.slots c.args.event.now c.deref_mut-in-CheckStep.result.now items new (take c.args.store.now.logs.len (new ++ behind))
    c.args.store.now.serving c.step_check.result c.in-CheckStep.is c.deref_mut-in-CheckStep.ensures.value (sym whole) c.step_check.ensures.forced

pub returns-in-CheckStep-clause-workers : goal.returns-in-CheckStep-clause-workers
returns-in-CheckStep-clause-workers c =
    let items = c.args.store.now.logs.items in
    let new = c.step_check.new.logs in
    let behind = drop (length new) items in
    let len : c.args.store.now.logs.len ≡ length new = search rules in
    let whole : take c.args.store.now.logs.len (new ++ behind) ≡ new = ap (λ n. take n (new ++ behind)) len ∙ take-append_seam new behind in
    served_workers c.deref_mut-in-CheckStep.result.now items new (take c.args.store.now.logs.len (new ++ behind)) c.step_check.result c.deref_mut-in-CheckStep.ensures.value (sym whole)
    c.step_check.ensures.workers

pub returns-in-Crash-clause-workers : goal.returns-in-Crash-clause-workers
returns-in-Crash-clause-workers c =
    let items = c.args.store.now.logs.items in
    let new = c.crash.new.logs in
    let behind = drop (length new) items in
    let len : c.args.store.now.logs.len ≡ length new = search rules in
    let whole : take c.args.store.now.logs.len (new ++ behind) ≡ new = ap (λ n. take n (new ++ behind)) len ∙ take-append_seam new behind in
    served_workers c.deref_mut.result.now items new (take c.args.store.now.logs.len (new ++ behind)) c.crash.result c.deref_mut.ensures.value (sym whole) c.crash.ensures.workers

pub serve-requires : goal.serve-requires
serve-requires c =
    let value = sym c.deref_mut-in-Some.ensures.value in
    let held = c.requires.held in
    record {
      held = (
        c.args.tenants.now,
        c.args.store.now.slots,
        held.0,
        subst (λ logs. Holds c.args.tenants.now c.args.store.now.slots held.0 logs (Some c.in-Some.serving)) value
            (subst (Holds c.args.tenants.now c.args.store.now.slots held.0 c.args.store.now.logs.items) c.in-Some.is held.1),
      );
      order = subst AreInOrder value c.requires.order;
      worker = subst (λ (logs : List (StoreLog MemDisk)). IsServedBy (length logs) c.args.event.now) value c.requires.worker;
      slots = leaves_slots c.args.event.now c.in_default.not-CheckBegin c.in_default.not-CheckStep c.in_default.not-Crash;
    }

pub returns-in-Some : goal.returns-in-Some
returns-in-Some c =
    let items = c.args.store.now.logs.items in
    let new = c.serve.new.logs in
    let behind = drop (length new) items in
    let last = take c.args.store.now.logs.len (new ++ behind) in
    let len : c.args.store.now.logs.len ≡ length new = search rules in
    let whole : take c.args.store.now.logs.len (new ++ behind) ≡ new = ap (λ n. take n (new ++ behind)) len ∙ take-append_seam new behind in
    let value = c.deref_mut-in-Some.ensures.value in
    record {
      count = served_count c.deref_mut-in-Some.result.now items new last c.serve.result value (sym whole) c.serve.ensures.count;
      workers = served_workers c.deref_mut-in-Some.result.now items new last c.serve.result value (sym whole) c.serve.ensures.workers;
      goes =
          served_goes c.deref_mut-in-Some.result.now items new last c.serve.result value (sym whole) c.args.tenants.now c.args.store.now.slots c.args.event.now c.in-Some.serving c.serve.new.serving
          c.args.store.now.serving c.in-Some.is c.serve.ensures.goes;
      forced =
          served_forced c.deref_mut-in-Some.result.now items new last c.serve.result value (sym whole) c.args.tenants.now c.args.event.now c.args.store.now.slots c.in-Some.serving c.args.store.now.serving
          c.in-Some.is (leaves_slots c.args.event.now c.in_default.not-CheckBegin c.in_default.not-CheckStep c.in_default.not-Crash) c.serve.ensures.forced;
      done = subst (λ s. IfOk c.serve.result (λ note. IsDone c.args.event.now note s (Some c.serve.new.serving))) (sym c.in-Some.is) c.serve.ensures.done;
    }

pub returns-in-None : goal.returns-in-None
returns-in-None c = record {
  count = refl;
  workers = refl;
  done = subst (λ s. IsDone c.args.event.now NoSuch s c.args.store.now.serving) (sym c.in-None.is) tt;
  goes = λ standing h.
      let held = subst (Holds c.args.tenants.now c.args.store.now.slots standing c.args.store.now.logs.items) c.in-None.is h in
      (standing, nothing_noted (quotas_of c.args.tenants.now) standing c.args.event.now (leaves_slots c.args.event.now c.in_default.not-CheckBegin c.in_default.not-CheckStep c.in_default.not-Crash) (serves_none c.args.tenants.now c.args.store.now.slots standing c.args.store.now.logs.items held), h);
  forced =
      let not = leaves_slots c.args.event.now c.in_default.not-CheckBegin c.in_default.not-CheckStep c.in_default.not-Crash in
      slots_alone c.args.tenants.now c.args.store.now.slots c.args.event.now NoSuch c.args.store.now.logs.items c.args.store.now.serving c.args.store.now.logs.items not
      (subst (λ s. IsForced c.args.tenants.now c.args.event.now NoSuch c.args.store.now.logs.items s c.args.store.now.logs.items) (sym c.in-None.is)
      (none_forced c.args.tenants.now c.args.event.now c.args.store.now.logs.items not));
}
