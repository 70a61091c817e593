-- A store is refused that so many files hold, of whose bytes it was told before.
use Rattle.std.proofs.Common.{◌≡◌, ◌∙◌, ◌++◌, List, Option, Some, None, take, drop, length, inr, ap, append_assoc, arith}
use Rattle.mt_stored.proofs.Slices.{whole}
use Rattle.mt_store_files.specs.Calls.{FolderCall, Adds}
use Rattle.mt_service.proofs.served_store.read_store.Goals as goal

pub returns-in-Err-clause-err : goal.returns-in-Err-clause-err
returns-in-Err-clause-err g c =
    let old = c.in_ok-files.files in
    let new = c.begin.new.files in
    let behind = drop (length new) old.items in
    let value = ap length c.deref_mut.ensures.value in
    let same : old.len ≡ length new = omega (arith, c.begin.ensures, value, old.ok.0) in
    let len : length (take old.len (new ++ behind)) ≡ c.args.workers = ap length (whole old.len new behind same) ∙ omega (arith, same, c.in_ok-files.ensures.all) in
    inr (inr (inr (inr (c.in-Err.refusal, (take old.len (new ++ behind), c.in_ok-slots.slots, len, c.in-Err.ensures.err), record { before = _; after = _; tells = c.not_recovered.ensures }))))

pub returns-in-Ok-clause-ok : goal.returns-in-Ok-clause-ok
returns-in-Ok-clause-ok g c =
    let old = c.in_ok-files.files in
    let new = c.begin.new.files in
    let behind = drop (length new) old.items in
    let value = ap length c.deref_mut.ensures.value in
    let same : old.len ≡ length new = omega (arith, c.begin.ensures, value, old.ok.0) in
    let len : length (take old.len (new ++ behind)) ≡ c.args.workers = ap length (whole old.len new behind same) ∙ omega (arith, same, c.in_ok-files.ensures.all) in
    (take old.len (new ++ behind), c.in_ok-slots.slots, len, c.in-Ok.ensures.ok)

-- calls after others
adds_more : (a b c : Option (List FolderCall)) (xs ys : List FolderCall) → Adds a b xs → Adds b c ys → Adds a c (xs ++ ys)
adds_more a b None xs ys p q = tt
adds_more None None (Some z) xs ys p q = absurd q
adds_more None (Some y) (Some z) xs ys p q = absurd p
adds_more (Some x) None (Some z) xs ys p q = absurd q
adds_more (Some x) (Some y) (Some z) xs ys p q = q ∙ ap (λ (l : List FolderCall). l ++ ys) p ∙ append_assoc x xs ys

pub returns-in-Ok-clause-compared : goal.returns-in-Ok-clause-compared
returns-in-Ok-clause-compared g c =
    let logs = c.in_ok-files.ensures.opened in
    let slots = c.in_ok-slots.ensures.opened in
    record {
      between = _;
      agree = c.in_ok-check_digests.ensures.checked;
      later = _;
      others = adds_more _ _ _ _ _ logs.calls slots.calls;
    }
