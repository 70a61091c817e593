-- One log more has crashed, or memory was refused for it.
use Rattle.std.proofs.Common.{ℕ, List, Some, inl, inr, ◌⊎◌, ◌≡◌, refl, sym, ◌∙◌, ap, subst, arith}
use Rattle.std.specs.Prelude.{slice_index_or}
use Rattle.mt_disk.specs.declared.mem.MemDisk.{MemDisk}
use Rattle.mt_store_logs.specs.{declared.crashing.FileImages.FileImages, declared.store_log.StoreLog.StoreLog}
use Rattle.mt_store_logs.specs.Crashes.{IsCrashed, IsLeftOrCrashed, AtPlace}
use Rattle.mt_store_logs.proofs.Loops.{same_workers, one_more, still_left, same_len, next_was, so_far, on_err, read_or, each_of}
use Rattle.mt_store_logs.proofs.crashing.crash_logs.Goals as goal

abbrev MayBe : List FileImages → ℕ → StoreLog MemDisk → StoreLog MemDisk → Type 0
MayBe images k was is = (is ≡ was) ⊎ AtPlace IsLeftOrCrashed images k was is

-- a file that has crashed has crashed or not
crashed_left : (images : List FileImages) (k : ℕ) (was is : StoreLog MemDisk) → MayBe images k was is ⊎ AtPlace IsCrashed images k was is → MayBe images k was is
crashed_left images k was is (inl left) = left
crashed_left images k was is (inr r) = inr (
  r.0,
  r.1,
  record {
    files = record { plain = inr r.2.files.plain; even = inr r.2.files.even; odd = inr r.2.files.odd };
    log = r.2.log;
    none = r.2.none;
  },
)

pub returns-in_err-crash_log-clause-err : goal.returns-in_err-crash_log-clause-err
returns-in_err-crash_log-clause-err c =
    let old = c.args.logs.now in
    let now = c.loop-place.logs in
    let place = c.loop-place.place in
    let new = c.crash_log.new.log in
    let i = c.loop-place.invariant in
    let many = i.many in
    let within = c.loop-place-test.true in
    let images = c.args.images.now in
    on_err c.from_residual.result
    (each_of _ (MayBe images) old _ (crashed_left images)
    (so_far (AtPlace IsCrashed images) (MayBe images) place old now new (λ k x. inl refl) i.len i.before i.left
    (λ was there. inr (
      c.index-images-place.result,
      read_or images place c.index-images-place.result (omega (arith, many, within)) ∙ ap (λ v. Some v) (sym c.index-images-place.is),
      subst (λ x. IsLeftOrCrashed c.index-images-place.result x new) (next_was place old now c.index-logs-place.result was i.left there) c.in_err-crash_log.ensures.err,
    ))))

pub loop-place-preserved : goal.loop-place-preserved
loop-place-preserved c =
    let old = c.args.logs.now in
    let now = c.loop-place.logs in
    let place = c.loop-place.place in
    let new = c.crash_log.new.log in
    let i = c.loop-place.invariant in
    let many = i.many in
    let within = c.loop-place-test.true in
    record {
      many = many;
      workers = same_workers place now new c.index-logs-place.result (c.crash_log.ensures.worker) ∙ i.workers;
      len = same_len place old now new i.len;
      before =
          one_more (AtPlace IsCrashed c.args.images.now) place old now new i.before (λ was there. (
            c.index-images-place.result,
            read_or c.args.images.now place c.index-images-place.result (omega (arith, many, within)) ∙ ap (λ v. Some v) (sym c.index-images-place.is),
            subst (λ x. IsCrashed c.index-images-place.result x new) (next_was place old now c.index-logs-place.result was i.left there) c.in_ok-crash_log.ensures.ok,
          ));
      left = still_left place old now new i.left;
    }

pub returns-in_err-crash_log-clause-workers : goal.returns-in_err-crash_log-clause-workers
returns-in_err-crash_log-clause-workers c =
    same_workers c.loop-place.place c.loop-place.logs c.crash_log.new.log c.index-logs-place.result c.crash_log.ensures.worker ∙ c.loop-place.invariant.workers

pub crash_log-requires : goal.crash_log-requires
crash_log-requires c =
    let now = c.loop-place.logs in
    let place = c.loop-place.place in
    let i = c.loop-place.invariant in
    let many = i.many in
    let len = i.len in
    let within = c.loop-place-test.true in
    let may = c.if-not-may_leave.ensures.0 refl in
    may.each place c.index-images-place.result (slice_index_or now place c.index-logs-place.result)
    (read_or c.args.images.now place c.index-images-place.result (omega (arith, many, within)) ∙ ap (λ v. Some v) (sym c.index-images-place.is))
    (sym (i.left place (omega arith)) ∙ read_or now place c.index-logs-place.result (omega (arith, len, within)))
