-- Headers that are compared one after the other.
use Rattle.std.proofs.Common.{◌≡◌, ◌∙◌, ℕ, ◌++◌, [], ◌∷◌, List, Option, Result, Ok, Err, Bool, refl, sym, ap, subst, append_assoc}
use Rattle.mt_disk.specs.Disk.{DiskState}
use Rattle.mt_store_files.specs.{declared.names.StoreFile.StoreFile, declared.labels.StrangeLog.StrangeLog, declared.labels.Beginning.Beginning}
use Rattle.mt_store_files.specs.{Calls.FolderCall, Labels.LooksAt, Strange.{HasExpected, HaveExpected, IsFirstStrange, ComparesHeaders}}

module _ {D : Type 0} (is_honest : D → Bool) (state : D → DiskState) (logs : ℕ) where
  pub expected_more : (xs ys : List StoreFile) (a b c : Option (List FolderCall)) → HaveExpected is_honest state logs xs a b → HaveExpected is_honest state logs ys b c
      → HaveExpected is_honest state logs (xs ++ ys) a c
  expected_more [] ys a b c p q = subst (λ x. HaveExpected is_honest state logs ys x c) p q
  expected_more (x ∷ xs) ys a b c p q = (p.0, p.1, expected_more xs ys p.0 b c p.2 q)

  pub expected_one : (file : StoreFile) (beginning : Beginning) (a b : Option (List FolderCall)) → LooksAt is_honest state file beginning a b → HasExpected logs file beginning
      → HaveExpected is_honest state logs (file ∷ []) a b
  expected_one file beginning a b p q = (b, (beginning, p, q), refl)

  -- a strange one after files that are expected
  pub strange_after : (xs ys : List StoreFile) (s : StrangeLog) (a b c : Option (List FolderCall)) → HaveExpected is_honest state logs xs a b → IsFirstStrange is_honest state logs ys s b c
      → IsFirstStrange is_honest state logs (xs ++ ys) s a c
  strange_after xs ys s a b c p q = record {
    passed = xs ++ q.passed;
    rest = q.rest;
    between = q.between;
    parts = ap (λ l. xs ++ l) q.parts ∙ sym (append_assoc xs q.passed (s.file ∷ q.rest));
    others = expected_more xs q.passed a b q.between p q.others;
    found = q.found;
    expected = q.expected;
    differs = q.differs;
  }

  -- a strange one before files that are not looked at
  pub strange_before : (xs ys : List StoreFile) (s : StrangeLog) (a b : Option (List FolderCall)) → IsFirstStrange is_honest state logs xs s a b → IsFirstStrange is_honest state logs (xs ++ ys) s a b
  strange_before xs ys s a b q = record {
    passed = q.passed;
    rest = q.rest ++ ys;
    between = q.between;
    parts = ap (λ l. l ++ ys) q.parts ∙ append_assoc q.passed (s.file ∷ q.rest) ys;
    others = q.others;
    found = q.found;
    expected = q.expected;
    differs = q.differs;
  }

  -- files that are compared after others
  pub compares_after : {T : Type 0} (xs ys : List StoreFile) (r : Result T StrangeLog) (a b c : Option (List FolderCall)) → HaveExpected is_honest state logs xs a b
      → ComparesHeaders is_honest state logs ys r b c → ComparesHeaders is_honest state logs (xs ++ ys) r a c
  compares_after xs ys (Ok x) a b c p q = expected_more xs ys a b c p q
  compares_after xs ys (Err s) a b c p q = strange_after xs ys s a b c p q
