-- Closed logs on some files, each of the worker at its place.
use Rattle.std.proofs.Common.{◌≡◌, ◌⊎◌, ⊎_elim, inl, inr, ◌∙◌, ℕ, zero, suc, List, [], ◌∷◌, ◌++◌, length, Some, refl, sym, ap, subst, append_assoc, arith}
use Rattle.std.proofs.{lemmas.List.{length-append, append-nil}, lemmas.Option.same_Some}
use Rattle.std.specs.Prelude.{slice_get, slice_index_or}
use Rattle.mt_crashes.proofs.{Members.no_some, Invariant.{within_place}}
use Rattle.mt_log_files.specs.declared.worker.WorkerFiles.{WorkerFiles}
use Rattle.mt_store_logs.specs.{declared.store_log.StoreLog.StoreLog, Places.{worker_of, workers_of, AreInOrder}, Opens.{IsClosedOn, AreClosedOn}}
use Rattle.mt_store_logs.proofs.Loops.{get_within}

-- so they are in order
pub closed_in_order : {D : Type 0} (count : ℕ) (files : List (WorkerFiles D)) (logs : List (StoreLog D)) → AreClosedOn count files logs → AreInOrder logs
closed_in_order count files logs closed k log there =
    let below = get_within logs k log there in
    let len = closed.count in
    let one = within_place files k (omega (arith, below, len)) in
    (closed.each k one.0 log one.1 there).log.worker

-- logs of the same workers in their order are in order
abbrev tail : List ℕ → List ℕ
tail [] = []
tail (n ∷ ns) = ns

same_place : {D : Type 0} (was is : List (StoreLog D)) (i : ℕ) (l : StoreLog D) → workers_of is ≡ workers_of was → slice_get is i ≡ Some l
    → (w : StoreLog D) × (slice_get was i ≡ Some w) × (worker_of l ≡ worker_of w)
same_place was [] i l e at = absurd (no_some l at)
same_place [] (x ∷ is) i l e at = absurd (let n = ap length e in omega (arith, n))
same_place (w ∷ was) (x ∷ is) zero l e at =
    (w, refl, ap (λ (y : StoreLog _). worker_of y) (sym (same_Some x l at)) ∙ ap (λ (ns : List ℕ). slice_index_or ns 0 0) e)
same_place (w ∷ was) (x ∷ is) (suc i) l e at = same_place was is i l (ap tail e) at

pub same_order : {D : Type 0} (old new : List (StoreLog D)) → workers_of new ≡ workers_of old → AreInOrder old → AreInOrder new
same_order old new same order k log there = let at = same_place old new k log same there in at.2 ∙ order k at.0 at.1

-- ---- one log more

-- the logs so far are on some of the files, and these are left
pub record SoFar {D : Type 0} (count : ℕ) (files : List (WorkerFiles D)) (logs : List (StoreLog D)) (rest : List (WorkerFiles D)) : Type 0 where
  pub before : List (WorkerFiles D)
  pub all : before ++ rest ≡ files
  pub closed : AreClosedOn count before logs

-- what stands in a list with one element more
last_cases : {X : Type 0} (xs : List X) (y z : X) (k : ℕ) → slice_get (xs ++ y ∷ []) k ≡ Some z → (slice_get xs k ≡ Some z) ⊎ ((k ≡ length xs) × (z ≡ y))
last_cases [] y z zero h = inr (refl, sym (same_Some y z h))
last_cases [] y z (suc k) h = absurd (no_some z h)
last_cases (x ∷ xs) y z zero h = inl h
last_cases (x ∷ xs) y z (suc k) h = ⊎_elim inl (λ r. inr (ap suc r.0, r.1)) (last_cases xs y z k h)

pub closed_more : {D : Type 0} (count : ℕ) (files : List (WorkerFiles D)) (logs : List (StoreLog D)) (one : WorkerFiles D) (rest : List (WorkerFiles D)) (new : StoreLog D)
    → IsClosedOn (length logs) count one new → SoFar count files logs (one ∷ rest) → SoFar count files (logs ++ new ∷ []) rest
closed_more {D} count files logs one rest new is so_far = record {
  before = so_far.before ++ one ∷ [];
  all = append_assoc so_far.before (one ∷ []) rest ∙ so_far.all;
  closed = record {
    count = let len = so_far.closed.count in let a = length-append logs (new ∷ []) in let b = length-append so_far.before (one ∷ []) in omega (arith, len, a, b);
    each = λ k file log at_file at_log.
        ⊎_elim
        (λ log_before.
        ⊎_elim
        (λ file_before. so_far.closed.each k file log file_before log_before)
        (λ file_last. let below = get_within logs k log log_before in let len = so_far.closed.count in let at = file_last.0 in absurd (omega (arith, below, len, at)))
        (last_cases so_far.before one file k at_file))
        (λ log_last.
        ⊎_elim
        (λ file_before. let below = get_within so_far.before k file file_before in let len = so_far.closed.count in let at = log_last.0 in absurd (omega (arith, below, len, at)))
        (λ file_last.
        subst (λ (n : ℕ). IsClosedOn n count file log) (sym log_last.0)
        (subst (λ (f : WorkerFiles D). IsClosedOn (length logs) count f log) (sym file_last.1)
        (subst (IsClosedOn (length logs) count one) (sym log_last.1) is)))
        (last_cases so_far.before one file k at_file))
        (last_cases logs new log k at_log);
  };
}

pub closed_none : {D : Type 0} (count : ℕ) (files : List (WorkerFiles D)) → SoFar count files [] files
closed_none count files = record { before = []; all = refl; closed = record { count = refl; each = λ k one log at_one at_log. absurd (no_some log at_log) } }

pub closed_all : {D : Type 0} (count : ℕ) (files : List (WorkerFiles D)) (logs : List (StoreLog D)) → SoFar count files logs [] → AreClosedOn count files logs
closed_all count files logs so_far = subst (λ fs. AreClosedOn count fs logs) (sym (append-nil so_far.before) ∙ so_far.all) so_far.closed

pub none_left : {X : Type 0} (xs : List X) → length xs ≡ 0 → xs ≡ []
none_left [] none = refl
none_left (x ∷ xs) none = absurd (omega (arith, none))
