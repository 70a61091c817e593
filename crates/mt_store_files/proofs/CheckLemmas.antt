-- Files that are checked one after the other.
use Rattle.std.proofs.Common.{◌≡◌, ◌∙◌, ◌-◌, ℕ, suc, zero, ◌+◌, ◌≤◌, ◌++◌, [], ◌∷◌, List, Option, Some, None, Result, Ok, Err, Bool, IsTrue, refl, sym, ap, subst, append_assoc, add-zero, add-suc, arith}
use Rattle.std.proofs.lemmas.List.{append-nil}
use Rattle.mt_disk.specs.Disk.{DiskState}
use Rattle.mt_store_files.specs.{declared.names.StoreFile.StoreFile, declared.fault.StoreFault.StoreFault, declared.fault.StoreFault.TheVariants.Spoiled}
use Rattle.mt_store_files.specs.{declared.names.FolderFile.TheVariants.{Store, Digest}, Calls.{FolderCall, Opened, Missed, Adds}, FoundLogs.{files_of, files_up_to}}
use Rattle.mt_store_files.specs.Checks.{Agree, IsChecked, AreChecked, FailsToCheck, Checks}
use Rattle.mt_store_files.proofs.CallLemmas.{adds_more}

-- the files of more workers begin with those of fewer
up_to_plus : (k d : ℕ) → (rest : List StoreFile) × (files_up_to (k + d) ≡ files_up_to k ++ rest)
up_to_plus k zero = ([], ap files_up_to (add-zero k) ∙ sym (append-nil (files_up_to k)))
up_to_plus k (suc d) =
    let before = up_to_plus k d in
    (before.0 ++ files_of (k + d), ap files_up_to (add-suc k d) ∙ ap (λ l. l ++ files_of (k + d)) before.1 ∙ append_assoc (files_up_to k) before.0 (files_of (k + d)))

pub up_to_more : (k n : ℕ) → k ≤ n → (rest : List StoreFile) × (files_up_to n ≡ files_up_to k ++ rest)
up_to_more k n le =
    let more = up_to_plus k (n - k) in
    let whole : n ≡ k + (n - k) = omega arith in
    (more.0, ap files_up_to whole ∙ more.1)

module _ {D : Type 0} (is_honest : D → Bool) (state : D → DiskState) where
  pub checked_more : (xs ys : List StoreFile) (a b c : Option (List FolderCall)) → AreChecked is_honest state xs a b → AreChecked is_honest state ys b c → AreChecked is_honest state (xs ++ ys) a c
  checked_more [] ys a b c p q = subst (λ x. AreChecked is_honest state ys x c) p q
  checked_more (x ∷ xs) ys a b c p q = (p.0, p.1, checked_more xs ys p.0 b c p.2 q)

  pub checked_one : (file : StoreFile) (a b : Option (List FolderCall)) → IsChecked is_honest state file a b → AreChecked is_honest state (file ∷ []) a b
  checked_one file a b p = (b, p, refl)

  -- one file: its digest file isn't there; or the file isn't; or both are, and agree or don't
  pub has_no_digest : (file : StoreFile) (a b : Option (List FolderCall)) → Adds a b (Missed (Digest file) ∷ []) → AreChecked is_honest state (file ∷ []) a b
  has_no_digest file a b p = checked_one file a b (record { digests = None; disk = None; agree = tt; calls = p })

  module _ (file : StoreFile) (digests : D) (a m b : Option (List FolderCall)) (p : Adds a m (Opened (Digest file) (state digests) ∷ [])) where
    pub is_not_there : Adds m b (Missed (Store file) ∷ []) → AreChecked is_honest state (file ∷ []) a b
    is_not_there q =
        checked_one file a b (record { digests = Some digests; disk = None; agree = tt; calls = adds_more a m b (Opened (Digest file) (state digests) ∷ []) (Missed (Store file) ∷ []) p q })

    both : (disk : D) → Adds m b (Opened (Store file) (state disk) ∷ []) → Adds a b (Opened (Digest file) (state digests) ∷ Opened (Store file) (state disk) ∷ [])
    both disk q = adds_more a m b (Opened (Digest file) (state digests) ∷ []) (Opened (Store file) (state disk) ∷ []) p q

    pub do_agree : (disk : D) → Adds m b (Opened (Store file) (state disk) ∷ []) → (IsTrue (is_honest digests) → IsTrue (is_honest disk) → Agree is_honest state digests disk)
        → AreChecked is_honest state (file ∷ []) a b
    do_agree disk q agree = checked_one file a b (record { digests = Some digests; disk = Some disk; agree = agree; calls = both disk q })

    pub do_not_agree : (disk : D) → Adds m b (Opened (Store file) (state disk) ∷ []) → (IsTrue (is_honest digests) → IsTrue (is_honest disk) → Agree is_honest state digests disk → ⊥)
        → FailsToCheck is_honest state (file ∷ []) (Spoiled file) a b
    do_not_agree disk q disagree = record {
      passed = [];
      rest = [];
      between = a;
      parts = refl;
      agree = refl;
      wrong = record { digests = digests; disk = disk; disagree = disagree; calls = both disk q };
    }

  -- a failure after files that agree
  pub fails_after : (xs ys : List StoreFile) (e : StoreFault) (a b c : Option (List FolderCall)) → AreChecked is_honest state xs a b → FailsToCheck is_honest state ys e b c → FailsToCheck is_honest state (xs ++ ys) e a c
  fails_after xs ys (Spoiled file) a b c p q = record {
    passed = xs ++ q.passed;
    rest = q.rest;
    between = q.between;
    parts = ap (λ l. xs ++ l) q.parts ∙ sym (append_assoc xs q.passed (file ∷ q.rest));
    agree = checked_more xs q.passed a b q.between p q.agree;
    wrong = q.wrong;
  }
  fails_after xs ys e a b c p q = tt

  -- a check after files that agree
  pub checks_after : {T : Type 0} (xs ys : List StoreFile) (r : Result T StoreFault) (a b c : Option (List FolderCall)) → AreChecked is_honest state xs a b → Checks is_honest state ys r b c → Checks is_honest state (xs ++ ys) r a c
  checks_after xs ys (Ok x) a b c p q = checked_more xs ys a b c p q
  checks_after xs ys (Err e) a b c p q = fails_after xs ys e a b c p q

  -- a failure before files that are not looked at
  pub fails_before : (xs ys : List StoreFile) (e : StoreFault) (a b : Option (List FolderCall)) → FailsToCheck is_honest state xs e a b → FailsToCheck is_honest state (xs ++ ys) e a b
  fails_before xs ys (Spoiled file) a b q = record {
    passed = q.passed;
    rest = q.rest ++ ys;
    between = q.between;
    parts = ap (λ l. l ++ ys) q.parts ∙ append_assoc q.passed (file ∷ q.rest) ys;
    agree = q.agree;
    wrong = q.wrong;
  }
  fails_before xs ys e a b q = tt
