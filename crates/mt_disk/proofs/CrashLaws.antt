-- How `LeavesOnly` goes on, one device call at a time: for the proofs of crates that call a disk.
use Rattle.std.proofs.Common.{◌≡◌, inl, inr, ℕ, List, [], ◌∷◌, ◌++◌, Result, Ok, Err, OnOk, OnErr, refl, sym, ◌∙◌, ap, subst, append_assoc}
use Rattle.std.proofs.{lemmas.List.append-nil, lemmas.List.Elements.{All-append, All-nil, All-cons}}
use Rattle.mt_disk.specs.Disk.{Range, Moment, MayLeave, DiskState, moments, dirtied, Dirties, Attempts, synced, LeavesOnlyAt, LeavesOnlySince, LeavesOnly, IsDurable}

-- where all that a read gives is durable, a crash leaves just that
pub left_of_durable : (s : DiskState) (image : List ℕ) → IsDurable s → MayLeave s.now image → image ≡ s.image
left_of_durable s image durable left = (subst (λ m. MayLeave m image) durable left).untouched refl

-- and a read gives what a crash may leave
pub reads_durable : (s : DiskState) → IsDurable s → MayLeave s.now s.image
reads_durable s durable = subst (λ m. MayLeave m s.image) (sym durable) (record { untouched = λ e. refl; keeps = λ i within out. refl })

-- before the first call, on a disk that is durable
pub started : (P : List ℕ → Type 0) (s : DiskState) → IsDurable s → P s.image → LeavesOnly P s s
started P s durable has = record {
  so_far = record { since = []; goes_on = sym (append-nil (moments s)); each = All-nil (LeavesOnlyAt P) };
  now = λ image left. subst P (sym (left_of_durable s image durable left)) has;
  reads = reads_durable s durable;
}

-- one moment more
one_more : (P : List ℕ → Type 0) (old mid new : DiskState) → LeavesOnlySince P old mid → new.past ≡ moments mid → LeavesOnlyAt P new.now → LeavesOnlySince P old new
one_more P old mid new so_far past now = record {
  since = so_far.since ++ new.now ∷ [];
  goes_on = ap (λ (l : List Moment). l ++ new.now ∷ []) (past ∙ so_far.goes_on) ∙ append_assoc (moments old) so_far.since (new.now ∷ []);
  each = All-append (LeavesOnlyAt P) so_far.since (new.now ∷ []) so_far.each (All-cons (LeavesOnlyAt P) new.now [] now (All-nil (LeavesOnlyAt P)));
}

-- a range more is dirty
dirties : (P : List ℕ → Type 0) (range : Range) (old mid new : DiskState) → LeavesOnly P old mid → LeavesOnlyAt P (dirtied range mid.now) → Dirties range mid new → LeavesOnly P old new
dirties P range old mid new kept leaves happened =
    let here : LeavesOnlyAt P new.now = subst (LeavesOnlyAt P) (sym happened.now) leaves in
    record { so_far = one_more P old mid new kept.so_far happened.past here; now = here; reads = happened.reads kept.reads }

-- after a write or a cut
pub after_write : {T E : Type 0} (P : List ℕ → Type 0) (range : Range) (result : Result T E) (old mid new : DiskState) → LeavesOnly P old mid → LeavesOnlyAt P (dirtied range mid.now) → Attempts range result mid new → LeavesOnly P old new
after_write P range (Ok x) old mid new kept leaves tried = dirties P range old mid new kept leaves tried
after_write P range (Err e) old mid new kept leaves (inl same) = subst (LeavesOnly P old) (sym same) kept
after_write P range (Err e) old mid new kept leaves (inr happened) = dirties P range old mid new kept leaves happened

-- after a sync that succeeded
pub after_sync : (P : List ℕ → Type 0) (old mid new : DiskState) → LeavesOnly P old mid → new ≡ synced mid → LeavesOnly P old new
after_sync P old mid new kept done =
    let has : P mid.image = kept.now mid.image kept.reads in
    let here : LeavesOnlyAt P (synced mid).now = λ image left. subst P (sym (left.untouched refl)) has in
    subst (LeavesOnly P old) (sym done) (record {
      so_far = one_more P old mid (synced mid) kept.so_far refl here;
      now = here;
      reads = record { untouched = λ e. refl; keeps = λ i within out. refl };
    })

-- after a sync that may have failed
pub after_sync_tried : {T E : Type 0} (P : List ℕ → Type 0) (result : Result T E) (old mid new : DiskState) → LeavesOnly P old mid → OnOk result (new ≡ synced mid) → OnErr result (new ≡ mid) → LeavesOnly P old new
after_sync_tried P (Ok x) old mid new kept done failed = after_sync P old mid new kept done
after_sync_tried P (Err e) old mid new kept done failed = subst (LeavesOnly P old) (sym failed) kept

-- what follows from a fact at Ok
pub at_ok : {T E : Type 0} (result : Result T E) {P Q : Type 0} → (P → Q) → OnOk result P → OnOk result Q
at_ok (Ok x) to has = to has
at_ok (Err e) to has = has

-- one run behind another
pub joined : (P : List ℕ → Type 0) (old mid new : DiskState) → LeavesOnly P old mid → LeavesOnly P mid new → LeavesOnly P old new
joined P old mid new first second = record {
  so_far = record {
    since = first.so_far.since ++ second.so_far.since;
    goes_on = second.so_far.goes_on ∙ ap (λ (l : List Moment). l ++ second.so_far.since) first.so_far.goes_on ∙ append_assoc (moments old) first.so_far.since second.so_far.since;
    each = All-append (LeavesOnlyAt P) first.so_far.since second.so_far.since first.so_far.each second.so_far.each;
  };
  now = second.now;
  reads = second.reads;
}

-- what is kept for one purpose is kept for a wider one
pub widened : (P Q : List ℕ → Type 0) (old new : DiskState) → ((image : List ℕ) → P image → Q image) → LeavesOnly P old new → LeavesOnly Q old new
widened P Q old new to kept = record {
  so_far = record { since = kept.so_far.since; goes_on = kept.so_far.goes_on; each = λ k d within image left. to image (kept.so_far.each k d within image left) };
  now = λ image left. to image (kept.now image left);
  reads = kept.reads;
}
