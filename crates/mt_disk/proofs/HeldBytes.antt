-- What a disk remembers of its file holds no more bytes than are dirty.
use Rattle.std.proofs.Common.{◌≡◌, ◌⊎◌, inl, inr, ℕ, ◌+◌, ◌-◌, ◌≤◌, Bool, true, false, if◌then◌else◌, List, [], ◌∷◌, ◌++◌, length, Result, Ok, Err, is_err, refl, ◌∙◌, ap, subst, sym, arith}
use Rattle.std.proofs.lemmas.List.{length-take}
use Rattle.mt_disk.{specs.{declared.system.FileFault.FileFault, declared.system.FileFault.TheVariants.{NotMade, Failed}}, proofs.{CutLaws.{cut_one}, Debts.{debt_dirtied}}}
use Rattle.mt_disk.specs.Disk.{debt}
use Rattle.mt_disk.specs.FileEdits.{FileEdit, Wrote, CutTo, begins_before, bytes_in, cut_back, range_of, remembered}
use Rattle.mt_disk.specs.Files.{FileState, Happens, IsFirst, IsTried, Keeps, still_owed}

-- one more
bytes_more : (e : FileEdit) (edits : List FileEdit) → bytes_in (edits ++ e ∷ []) ≡ bytes_in edits + bytes_in (e ∷ [])
bytes_more e [] = omega arith
bytes_more e (Wrote at bytes ∷ rest) = omega (arith, bytes_more e rest)
bytes_more e (CutTo len ∷ rest) = bytes_more e rest

-- a cut leaves no more
fewer_bytes : (len : ℕ) (edits : List FileEdit) → bytes_in (cut_back len edits) ≤ bytes_in edits
fewer_bytes len [] = omega arith
fewer_bytes len (e ∷ rest) = by e (fewer_bytes len rest) (begins_before len e) refl
  where
    by : (e : FileEdit) → bytes_in (cut_back len rest) ≤ bytes_in rest → (b : Bool) → b ≡ begins_before len e → bytes_in (cut_back len (e ∷ rest)) ≤ bytes_in (e ∷ rest)
    by (Wrote at bytes) less true is = subst (λ (l : List FileEdit). bytes_in l ≤ length bytes + bytes_in rest) (sym (cut_one len (Wrote at bytes) rest true is)) (omega (arith, less, length-take (len - at) bytes))
    by (CutTo to) less true is = subst (λ (l : List FileEdit). bytes_in l ≤ bytes_in rest) (sym (cut_one len (CutTo to) rest true is)) less
    by (Wrote at bytes) less false is = subst (λ (l : List FileEdit). bytes_in l ≤ length bytes + bytes_in rest) (sym (cut_one len (Wrote at bytes) rest false is)) (omega (arith, less))
    by (CutTo to) less false is = subst (λ (l : List FileEdit). bytes_in l ≤ bytes_in rest) (sym (cut_one len (CutTo to) rest false is)) less

-- a change that happened
happened : (e : FileEdit) (old new : FileState) (edits : List FileEdit) → Happens e old new → bytes_in edits ≤ debt old.disk.now → bytes_in (remembered e edits) ≤ debt new.disk.now
happened (Wrote at bytes) old new edits did fits =
    omega (arith, fits, bytes_more (Wrote at bytes) edits, ap debt did.dirties.now ∙ debt_dirtied (range_of (Wrote at bytes) old.disk) old.disk.now)
happened (CutTo len) old new edits did fits =
    omega (arith, fits, fewer_bytes len edits, bytes_more (CutTo len) (cut_back len edits), ap debt did.dirties.now ∙ debt_dirtied (range_of (CutTo len) old.disk) old.disk.now)

-- a change that may be made was tried
tried_first : (e : FileEdit) (result : Result Unit FileFault) (old new : FileState) (edits : List FileEdit) (is_owed : Bool) → Keeps old edits is_owed
    → (is_owed ≡ false) ⊎ ((len : ℕ) × (e ≡ CutTo len)) → IsFirst e result old new → IsTried e result old new
tried_first (Wrote at bytes) result old new edits is_owed keeps (inl none) first = first (keeps.owed ∙ ap (λ b. if b then edits else []) none)
tried_first (Wrote at bytes) result old new edits is_owed keeps (inr (len, is)) first = absurd cc
tried_first (CutTo to) result old new edits is_owed keeps may first = first

-- and happened, unless nothing was done
pub still_fits : (e : FileEdit) (result : Result Unit FileFault) (old new : FileState) (edits after : List FileEdit) (is_owed : Bool) → Keeps old edits is_owed
    → (is_owed ≡ false) ⊎ ((len : ℕ) × (e ≡ CutTo len)) → IsFirst e result old new → (result ≡ Err NotMade → ⊥) → after ≡ remembered e edits → bytes_in after ≤ debt new.disk.now
still_fits e result old new edits after is_owed keeps may first made is = subst (λ (l : List FileEdit). bytes_in l ≤ debt new.disk.now) (sym is) (by result (tried_first e result old new edits is_owed keeps may first) made)
  where
    by : (r : Result Unit FileFault) → IsTried e r old new → (r ≡ Err NotMade → ⊥) → bytes_in (remembered e edits) ≤ debt new.disk.now
    by (Ok done) tried made = happened e old new edits tried.0 keeps.fits
    by (Err Failed) tried made = happened e old new edits tried.0 keeps.fits
    by (Err NotMade) tried made = absurd (made refl)

-- what is owed after it: all, if something was owed
pub still_all : (e : FileEdit) (result : Result Unit FileFault) (old new : FileState) (edits after : List FileEdit) (is_owed : Bool) → Keeps old edits is_owed
    → (is_owed ≡ false) ⊎ ((len : ℕ) × (e ≡ CutTo len)) → IsFirst e result old new → (result ≡ Err NotMade → ⊥) → after ≡ remembered e edits
    → is_owed ≡ true → (edits ≡ [] → ⊥) → new.owed ≡ after
still_all e result old new edits after is_owed keeps may first made is was some = by result (tried_first e result old new edits is_owed keeps may first) made
  where
    whole : new.unsynced ≡ remembered e old.unsynced → new.unsynced ≡ after
    whole same = same ∙ ap (λ (l : List FileEdit). remembered e l) keeps.unsynced ∙ sym is

    owed : old.owed ≡ edits
    owed = keeps.owed ∙ ap (λ b. if b then edits else []) was

    all : (l : List FileEdit) → (l ≡ [] → ⊥) → still_owed l new.unsynced ≡ new.unsynced
    all [] there = absurd (there refl)
    all (x ∷ xs) there = refl

    by : (r : Result Unit FileFault) → IsTried e r old new → (r ≡ Err NotMade → ⊥) → new.owed ≡ after
    by (Ok done) tried made = tried.1 ∙ all old.owed (λ none. some (sym owed ∙ none)) ∙ whole tried.0.unsynced
    by (Err Failed) tried made = tried.1 ∙ whole tried.0.unsynced
    by (Err NotMade) tried made = absurd (made refl)

-- else all if it failed, and nothing if it did not
pub still_none : (e : FileEdit) (result : Result Unit FileFault) (old new : FileState) (edits after : List FileEdit) (is_owed : Bool) → Keeps old edits is_owed
    → (is_owed ≡ false) ⊎ ((len : ℕ) × (e ≡ CutTo len)) → IsFirst e result old new → (result ≡ Err NotMade → ⊥) → after ≡ remembered e edits
    → old.owed ≡ [] → new.owed ≡ (if is_err result then after else [])
still_none e result old new edits after is_owed keeps may first made is none = by result (tried_first e result old new edits is_owed keeps may first) made
  where
    by : (r : Result Unit FileFault) → IsTried e r old new → (r ≡ Err NotMade → ⊥) → new.owed ≡ (if is_err r then after else [])
    by (Ok done) tried made = tried.1 ∙ ap (λ (l : List FileEdit). still_owed l new.unsynced) none
    by (Err Failed) tried made = tried.1 ∙ tried.0.unsynced ∙ ap (λ (l : List FileEdit). remembered e l) keeps.unsynced ∙ sym is
    by (Err NotMade) tried made = absurd (made refl)
