-- The headers of one worker more are read, and what they tell stands after the others; or they are not.
use Rattle.std.{specs.Prelude.slice_set, proofs.Common.{◌+◌, ◌++◌, ◌∷◌, [], sym, subst, arith, refl}}
use Rattle.mt_chain_files.specs.declared.headers.Told.{Told}
use Rattle.mt_chain_files.specs.{Lists.EachBefore, Headers.{LooksAtWorker, FailsToLookAtWorker, LooksAtWorkerAs, StopsLooking}}
use Rattle.mt_chain_files.proofs.Loops.{one_more, still_left, same_len, walked, stopped, next_was, get_more, get_last}
use Rattle.mt_chain_files.proofs.headers.look_at_all.Goals as goal

pub returns-in-Err-clause-err : goal.returns-in-Err-clause-err
returns-in-Err-clause-err g c =
    let is_honest = g.D.Disk.is_honest in
    let state = g.D.Disk.state in
    let failures = g.D.Disk.failures in
    let old = c.args.files.now in
    let now = c.loop-place.files in
    let place = c.loop-place.place in
    let new = c.look_at.new.files in
    let i = c.loop-place.invariant in
    subst (λ e. StopsLooking is_honest state failures e old (slice_set now place new)) (sym c.at.ensures) (
      refl,
      stopped (λ k was is. (told : Told) × LooksAtWorker is_honest state failures was is told) (FailsToLookAtWorker is_honest state failures) place old now new c.loop-place-test.true i.len
          (λ k was is below there then. let o = i.before k was is below there then in (o.0, o.2)) i.left
          (λ was there. subst (λ x. FailsToLookAtWorker is_honest state failures x new) (next_was place old now c.index-files-place.result was i.left there) c.in-Err.ensures.err),
    )

pub loop-place-preserved : goal.loop-place-preserved
loop-place-preserved g c =
    let is_honest = g.D.Disk.is_honest in
    let state = g.D.Disk.state in
    let failures = g.D.Disk.failures in
    let old = c.args.files.now in
    let now = c.loop-place.files in
    let place = c.loop-place.place in
    let new = c.look_at.new.files in
    let i = c.loop-place.invariant in
    let one = c.in-Ok.one in
    let before = c.loop-place.told.items in
    let items = c.push_reserved.ensures.items in
    record {
      len = same_len place old now new i.len;
      room = let capacity = c.push_reserved.ensures.capacity in let room = i.room in omega (arith, capacity, room);
      count = let len = c.push_reserved.ensures.len in let count = i.count in omega (arith, len, count);
      before =
          subst (λ told. EachBefore (LooksAtWorkerAs is_honest state failures told) (place + 1) old (slice_set now place new)) (sym items)
          (one_more (LooksAtWorkerAs is_honest state failures (before ++ one ∷ [])) place old now new
          (λ k was is below there then. let o = i.before k was is below there then in (o.0, get_more before (one ∷ []) k o.0 o.1, o.2))
          (λ was there. (one, get_last before place one i.count, subst (λ x. LooksAtWorker is_honest state failures x new one) (next_was place old now c.index-files-place.result was i.left there) c.in-Ok.ensures.ok)));
      left = still_left place old now new i.left;
    }

pub returns-clause-ok : goal.returns-clause-ok
returns-clause-ok g c =
    let i = c.loop-place.invariant in
    let count = i.count in
    record {
      count = omega (arith, count);
      each = walked (LooksAtWorkerAs g.D.Disk.is_honest g.D.Disk.state g.D.Disk.failures c.loop-place.told.items) c.loop-place.place c.args.files.now c.loop-place.files i.len i.before c.loop-place-test.false;
    }
