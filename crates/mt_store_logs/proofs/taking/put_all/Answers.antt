-- One log more has its files.
use Rattle.std.proofs.Common.{◌∙◌, ℕ, ◌-◌, Some, sym, ap, subst, arith}
use Rattle.std.specs.Prelude.{slice_index_or}
use Rattle.mt_store_logs.specs.Taking.{IsSameOn, HasItsFiles}
use Rattle.mt_store_logs.proofs.Loops.{same_workers, one_more, still_left, same_len, walked, next_was, read_or}
use Rattle.mt_store_logs.proofs.taking.put_all.Goals as goal

pub loop-place-preserved : goal.loop-place-preserved
loop-place-preserved g c =
    let old = c.args.logs.now in
    let now = c.loop-place.logs in
    let place = c.loop-place.place in
    let new = c.put_files.new.self in
    let files = c.loop-place.files.items in
    let i = c.loop-place.invariant in
    let within = c.loop-place-test.true in
    let count = i.count in
    let size = c.args.files.ok.0 in
    let asked = c.requires.count in
    record {
      workers = same_workers place now new c.index-logs-place.result c.put_files.ensures.log.worker ∙ i.workers;
      len = same_len place old now new i.len;
      count = same_len place c.args.files.items files c.replace-one.new.dest i.count;
      before =
          one_more (HasItsFiles c.args.generation c.args.begun.now c.args.files.items) place old now new i.before (λ was there.
          let at = next_was place old now c.index-logs-place.result was i.left there in
          subst (λ x. HasItsFiles c.args.generation c.args.begun.now c.args.files.items place x new) at
          (record {
            one = c.replace-one.result;
            there =
                sym (i.rest place (omega arith))
                ∙ read_or files place c.index_mut.result.now (omega (arith, within, count, size, asked))
                ∙ ap (λ v. Some v) (sym c.index_mut.ensures.value ∙ sym c.replace-one.ensures.value);
            stands = subst (λ n. IsSameOn n c.replace-one.result (slice_index_or now place c.index-logs-place.result) new) c.last_generation.ensures c.put_files.ensures.log;
            oldest = c.put_files.ensures.oldest ∙ ap (λ (n : ℕ). n - 1) c.last_generation.ensures;
            rest = record { sure = c.put_files.ensures.sure; none = c.put_files.ensures.kept ∙ ap (λ x. x.kept) at ∙ c.requires.none place was there };
          }));
      left = still_left place old now new i.left;
      rest = still_left place c.args.files.items files c.replace-one.new.dest i.rest;
    }

pub returns-clause-logs : goal.returns-clause-logs
returns-clause-logs g c =
    let i = c.loop-place.invariant in
    walked (HasItsFiles c.args.generation c.args.begun.now c.args.files.items) c.loop-place.place c.args.logs.now c.loop-place.logs i.len i.before c.loop-place-test.false
