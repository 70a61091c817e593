-- The files of one log more are in the list.
use Rattle.std.proofs.Common.{◌≡◌, ◌∙◌, ◌++◌, ◌∷◌, [], Some, sym, ap, subst, arith}
use Rattle.std.specs.Prelude.{slice_get}
use Rattle.mt_crashes.proofs.Invariant.{within_place}
use Rattle.mt_store_logs.specs.Taking.{files_of, IsEmptied}
use Rattle.mt_store_logs.proofs.Loops.{same_workers, one_more, still_left, same_len, walked, next_was, made_more, made_of, get_within}
use Rattle.mt_store_logs.proofs.taking.take_all.Goals as goal

pub loop-place-preserved : goal.loop-place-preserved
loop-place-preserved g c =
    let old = c.args.logs.now in
    let now = c.loop-place.logs in
    let place = c.loop-place.place in
    let new = c.take_files-one.new.self in
    let files = c.loop-place.files.items in
    let i = c.loop-place.invariant in
    let here = within_place old place c.loop-place-test.true in
    let same = next_was place old now c.index-logs-place.result here.0 i.left here.1 in
    let one = c.take_files-one.ensures.files ∙ ap files_of same in
    let items : c.push_reserved.new.self.items ≡ files ++ files_of here.0 ∷ [] = c.push_reserved.ensures.items ∙ ap (λ r. files ++ r ∷ []) one in
    record {
      workers = same_workers place now new c.index-logs-place.result c.take_files-one.ensures.log.worker ∙ i.workers;
      len = same_len place old now new i.len;
      room = let capacity = c.push_reserved.ensures.capacity in let room = i.room in omega (arith, capacity, room);
      count = let len = c.push_reserved.ensures.len in let count = i.count in omega (arith, len, count);
      taken = λ k z below there. subst (λ fs. slice_get fs k ≡ Some (files_of z)) (sym items) (made_more files_of place old files here.0 i.count here.1 i.taken k z below there);
      before =
          one_more (λ k was is. IsEmptied was is) place old now new i.before (λ was there.
          subst (λ x. IsEmptied x new) (next_was place old now c.index-logs-place.result was i.left there) (record { away = c.take_files-one.ensures.log; rest = record { sure = c.take_files-one.ensures.sure; none = c.take_files-one.ensures.none } }));
      left = still_left place old now new i.left;
    }

pub returns-clause-files : goal.returns-clause-files
returns-clause-files g c =
    let old = c.args.logs.now in
    let i = c.loop-place.invariant in
    let all = c.loop-place-test.false in
    let end = c.loop-place.auto.place-end in
    let count = i.count in
    made_of files_of old c.loop-place.files.items (omega (arith, count, all, end))
    (λ k x there. let below = get_within old k x there in i.taken k x (omega (arith, below, all)) there)

pub returns-clause-logs : goal.returns-clause-logs
returns-clause-logs g c =
    let i = c.loop-place.invariant in
    walked (λ k was is. IsEmptied was is) c.loop-place.place c.args.logs.now c.loop-place.logs i.len i.before c.loop-place-test.false
