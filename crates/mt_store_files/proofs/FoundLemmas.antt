-- Files that are found one after the other.
use Rattle.std.proofs.Common.{◌≡◌, ◌∙◌, ℕ, ◌+◌, ◌++◌, [], ◌∷◌, List, Option, IsTrue, Bool, refl, sym, ap, subst, append_assoc}
use Rattle.std.proofs.lemmas.List.{append-nil}
use Rattle.std.proofs.lemmas.Grind.{flat_map-append}
use Rattle.std.specs.List.{flat_map}
use Rattle.mt_disk.specs.Disk.{DiskState}
use Rattle.mt_gates.specs.Gates.{IsGivenUp}
use Rattle.mt_log_files.specs.{declared.worker.WorkerFiles.WorkerFiles, Slots.closed_files}
use Rattle.mt_log_generations.specs.declared.header.Parity.TheVariants.{Even, Odd}
use Rattle.mt_store_files.specs.{declared.names.StoreFile.StoreFile, declared.names.StoreFile.TheVariants.{Log, Numbered}}
use Rattle.mt_store_files.specs.{Made.IsMadeIfEmpty, Calls.{FolderCall, Adds}, Found.{name_of, calls_to_open, made_of, IsFoundFile, IsFoundMade}}
use Rattle.mt_store_files.specs.FoundLogs.{FoundLog, StandOn, IsFoundLog, AreFound, files_up_to, names_of_log, calls_to_open_log, made_of_log}
use Rattle.mt_store_files.proofs.CallLemmas.{adds_none, adds_more, files_next, zip_append}

-- what each of some logs gives, and then one more
one_more : {X : Type 0} (f : FoundLog → List X) (logs : List FoundLog) (log : FoundLog) → flat_map f (logs ++ log ∷ []) ≡ flat_map f logs ++ f log
one_more f logs log = flat_map-append f logs (log ∷ []) ∙ ap (λ xs. flat_map f logs ++ xs) (append-nil (f log))

pub found_none : {D : Type 0} (is_honest : D → Bool) (state : D → DiskState) (a : Option (List FolderCall)) (known : List StoreFile) → AreFound is_honest state 0 [] a a known known
found_none is_honest state a known = record { logs = []; names = refl; calls = adds_none a; made = sym (append-nil known); disks = tt }

pub found_next : {D : Type 0} (is_honest : D → Bool) (state : D → DiskState) (k j n : ℕ) (files : List (WorkerFiles D)) (file : WorkerFiles D) (a b c : Option (List FolderCall)) (known some all : List StoreFile)
    → j ≡ k → n ≡ k + 1 → AreFound is_honest state k files a b known some → IsFoundLog is_honest state j file b c some all → AreFound is_honest state n (files ++ file ∷ []) a c known all
found_next is_honest state k j n files file a b c known some all same next p q = record {
  logs = p.logs ++ q.log ∷ [];
  names = one_more names_of_log p.logs q.log ∙ ap (λ xs. xs ++ names_of_log q.log) p.names ∙ ap (λ xs. files_up_to k ++ xs) q.names ∙ sym (files_next k j n same next);
  calls = subst (Adds a c) (sym (one_more calls_to_open_log p.logs q.log)) (adds_more a b c (flat_map calls_to_open_log p.logs) (calls_to_open_log q.log) p.calls q.calls);
  made = q.made ∙ ap (λ xs. xs ++ made_of_log q.log) p.made ∙ append_assoc known (flat_map made_of_log p.logs) (made_of_log q.log) ∙ ap (λ xs. known ++ xs) (sym (one_more made_of_log p.logs q.log));
  disks = zip_append (StandOn is_honest state) p.logs (q.log ∷ []) files (file ∷ []) p.disks (q.disks, tt);
}

-- a file that was found, and then made what it should be if it had no byte
pub ready : {D : Type 0} (IsMade : DiskState → Type 0) (is_honest : D → Bool) (state : D → DiskState) (file : StoreFile) (old new : D) (a b : Option (List FolderCall)) (known all : List StoreFile)
    → is_honest new ≡ is_honest old → (IsTrue (is_honest old) → IsMadeIfEmpty IsMade (state old) (state new)) → IsFoundFile file (state old) a b known all → IsFoundMade IsMade is_honest state file new a b known all
ready IsMade is_honest state file old new a b known all same made p =
    (p.0, (λ honest. subst (λ disk. IsMadeIfEmpty IsMade disk (state new)) (sym p.1) (made (subst IsTrue same honest))), p.2)

three : {X : Type 0} (x y z u v w : X) → x ≡ u → y ≡ v → z ≡ w → x ∷ y ∷ z ∷ [] ≡ u ∷ v ∷ w ∷ []
three x y z u v w p q r = cc

joined : {X : Type 0} (a b c d x y z : List X) → b ≡ a ++ x → c ≡ b ++ y → d ≡ c ++ z → d ≡ a ++ (x ++ y ++ z)
joined a b c d x y z p q r =
    let first : b ++ y ≡ a ++ (x ++ y) = ap (λ xs. xs ++ y) p ∙ append_assoc a x y in
    r ∙ ap (λ xs. xs ++ z) (q ∙ first) ∙ append_assoc a (x ++ y) z

-- the three files of a worker
pub log_found : {D : Type 0} (is_honest : D → Bool) (state : D → DiskState) (worker : ℕ) (plain even odd : D) (files : WorkerFiles D) (a b c d : Option (List FolderCall)) (known some more all : List StoreFile)
    → IsFoundFile (Log worker) (state plain) a b known some → IsFoundMade IsGivenUp is_honest state (Numbered worker Even) even b c some more → IsFoundMade IsGivenUp is_honest state (Numbered worker Odd) odd c d more all
    → files ≡ closed_files plain even odd → IsFoundLog is_honest state worker files a d known all
log_found is_honest state worker plain even odd files a b c d known some more all p q r closed =
    let twice = adds_more a b c (calls_to_open p.0) (calls_to_open q.0) p.2.calls q.2.calls in
    record {
      log = record { plain = p.0; even = q.0; odd = r.0 };
      names = three (name_of p.0) (name_of q.0) (name_of r.0) (Log worker) (Numbered worker Even) (Numbered worker Odd) p.2.name q.2.name r.2.name;
      calls = adds_more a c d (calls_to_open p.0 ++ calls_to_open q.0) (calls_to_open r.0) twice r.2.calls;
      made = joined known some more all (made_of p.0) (made_of q.0) (made_of r.0) p.2.made q.2.made r.2.made;
      disks = record { plain = plain; even = even; odd = odd; closed = closed; plain_disk = sym p.1; even_disk = q.1; odd_disk = r.1 };
    }
