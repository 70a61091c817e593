-- Owed changes made again, one after the other; and what a change and a sync leave of what a disk keeps.
use Rattle.std.proofs.Common.{◌≡◌, ℕ, zero, suc, ◌+◌, ◌<◌, ◌≤◌, List, [], ◌∷◌, length, drop, Some, Result, Ok, Err, refl, sym, ◌∙◌, ap, subst, arith}
use Rattle.std.proofs.lemmas.Option.{same_Some, none-some}
use Rattle.std.specs.List.{slice_get}
use Rattle.mt_disk.specs.{declared.edit.Edit.Edit, declared.system.FileFault.FileFault, declared.system.FileFault.TheVariants.{NotMade, Failed}}
use Rattle.mt_disk.specs.Disk.{MayLeave, dirtied}
use Rattle.mt_disk.specs.FileEdits.{FileEdit, BeginsWithin, edit_of, edits_of, range_of, edited}
use Rattle.mt_disk.specs.Files.{FileState, Happens, IsTried, IsAgain, Syncs, all_owed, still_owed}
use Rattle.mt_disk.specs.MemFiles.{Commits, IsCommit}

-- a file of which these changes are owed
abbrev pub owing : FileState → List FileEdit → FileState
owing s edits = record { disk = s.disk; unsynced = s.unsynced; owed = edits }

-- the edit at a place, and those after it
parted : (edits : List Edit) (k : ℕ) (e : Edit) → slice_get edits k ≡ Some e → edits_of (drop k edits) ≡ edit_of e ∷ edits_of (drop (suc k) edits)
parted [] k e at = absurd (none-some e at)
parted (x ∷ xs) zero e at = ap (λ y. edit_of y ∷ edits_of xs) (same_Some x e at)
parted (x ∷ xs) (suc k) e at = parted xs k e at

-- the next one is made again
pub next : (s now new : FileState) (edits : List Edit) (k : ℕ) (e : Edit) → slice_get edits k ≡ Some e → now ≡ owing s (edits_of (drop k edits))
    → IsAgain (edit_of e) (Ok tt) now new → new ≡ owing s (edits_of (drop (k + 1) edits))
next s now new edits k e at is made =
    let one : suc k ≡ k + 1 = omega arith in
    made (edits_of (drop (suc k) edits)) (ap (λ (t : FileState). t.owed) is ∙ parted edits k e at)
    ∙ ap (λ (t : FileState). owing t (edits_of (drop (suc k) edits))) is
    ∙ ap (λ (n : ℕ). owing s (edits_of (drop n edits))) one

-- or it fails, and all are owed
pub stopped : (s now new : FileState) (edits : List Edit) (k : ℕ) (e : Edit) (fault : FileFault) → slice_get edits k ≡ Some e → now ≡ owing s (edits_of (drop k edits))
    → IsAgain (edit_of e) (Err fault) now new → new ≡ all_owed s
stopped s now new edits k e fault at is made =
    made (edits_of (drop (suc k) edits)) (ap (λ (t : FileState). t.owed) is ∙ parted edits k e at)
    ∙ ap all_owed is

-- ---- a file in memory

-- nothing is owed after the last one
pub none_owed : (edits : List Edit) (k : ℕ) → length edits ≤ k → drop k (edits_of edits) ≡ []
none_owed [] zero le = refl
none_owed [] (suc k) le = refl
none_owed (x ∷ xs) zero le = absurd (omega (arith, le))
none_owed (x ∷ xs) (suc k) le = none_owed xs k (omega (arith, le))

-- before it something is
pub some_owed : (edits : List Edit) (k : ℕ) → k < length edits → drop k (edits_of edits) ≡ [] → ⊥
some_owed [] k lt none = omega (arith, lt)
some_owed (x ∷ xs) zero lt none = omega (arith, ap length none)
some_owed (x ∷ xs) (suc k) lt none = some_owed xs k (omega (arith, lt)) none

-- after a change that succeeded: all, if something was owed
pub all_still : (edits : List Edit) (k now : ℕ) (after : List FileEdit) → k < length edits → now ≡ 0 → drop now after ≡ still_owed (drop k (edits_of edits)) after
all_still edits k now after lt none = ap (λ (n : ℕ). drop n after) none ∙ by (drop k (edits_of edits)) (some_owed edits k lt)
  where
    by : (owed : List FileEdit) → (owed ≡ [] → ⊥) → after ≡ still_owed owed after
    by [] some = absurd (some refl)
    by (e ∷ rest) some = refl

-- else nothing
pub none_still : (edits : List Edit) (k now : ℕ) (after : List Edit) → length edits ≤ k → length after ≤ now → drop now (edits_of after) ≡ still_owed (drop k (edits_of edits)) (edits_of after)
none_still edits k now after le all = none_owed after now all ∙ sym (ap (λ (l : List FileEdit). still_owed l (edits_of after)) (none_owed edits k le))

-- the next one is made again
pub tail_owed : (edits : List Edit) (k : ℕ) (e : FileEdit) (rest : List FileEdit) → k < length edits → drop k (edits_of edits) ≡ e ∷ rest → drop (k + 1) (edits_of edits) ≡ rest
tail_owed edits k e rest lt is =
    let one : k + 1 ≡ suc k = omega arith in
    ap (λ (n : ℕ). drop n (edits_of edits)) one ∙ by edits k lt is
  where
    by : (edits : List Edit) (k : ℕ) → k < length edits → drop k (edits_of edits) ≡ e ∷ rest → drop (suc k) (edits_of edits) ≡ rest
    by [] k lt is = absurd (omega (arith, lt))
    by (x ∷ xs) zero lt is = ap (λ (l : List FileEdit). drop 1 l) is
    by (x ∷ xs) (suc k) lt is = by xs k (omega (arith, lt)) is

-- a sync that succeeds while something is owed says nothing
pub syncs_nothing : (old new : FileState) → (old.owed ≡ [] → ⊥) → Syncs (Ok tt) old new
syncs_nothing old new owes = record { done = λ none. absurd (owes none); failed = λ e is. absurd cc }

-- a change that was committed was tried
pub committed : (e : FileEdit) (after : List ℕ) (result : Result Unit FileFault) (old new : FileState)
    → IsCommit after (range_of e old.disk) e result old new → (MayLeave old.disk.now old.disk.image → MayLeave (dirtied (range_of e old.disk) old.disk.now) after)
    → (BeginsWithin e old.disk.image → after ≡ edited e old.disk.image) → IsTried e result old new
committed e after result old new made left image = by result made
  where
    happens : Commits after (range_of e old.disk) e old new → Happens e old new
    happens c = record {
      dirties = record {
        now = c.now;
        past = c.past;
        reads = λ may. subst (λ m. MayLeave m new.disk.image) (sym c.now) (subst (MayLeave (dirtied (range_of e old.disk) old.disk.now)) (sym c.image) (left may));
      };
      image = λ within. c.image ∙ image within;
      unsynced = c.unsynced;
    }

    by : (r : Result Unit FileFault) → IsCommit after (range_of e old.disk) e r old new → IsTried e r old new
    by (Ok done) m = (happens m.0, m.1)
    by (Err Failed) m = (happens m.0, m.1)
    by (Err NotMade) m = m
