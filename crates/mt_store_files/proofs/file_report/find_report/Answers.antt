-- A file is opened, and then its digest file is looked for.
use Rattle.std.proofs.{Common.{◌≡◌, ◌⊎◌, ◌∷◌, [], inl, inr, refl, List, Option}, lemmas.List.Elements.All-cons}
use Rattle.mt_disk.specs.Disk.{DiskState}
use Rattle.mt_store_files.specs.{declared.names.FolderFile.FolderFile, Calls.{FolderCall, Opened, Failed, Adds, IsLook}, Reports.OnlyLooks}
use Rattle.mt_store_files.proofs.CallLemmas.{adds_more}
use Rattle.mt_store_files.proofs.file_report.find_report.Goals as goal

abbrev IsLookOrFailed : FolderCall → Type 0
IsLookOrFailed call = IsLook call ⊎ (call ≡ Failed)

-- a look more, before others
looks_first : (a b c : Option (List FolderCall)) (file : FolderFile) (disk : DiskState) → Adds a b (Opened file disk ∷ []) → OnlyLooks b c → OnlyLooks a c
looks_first a b c file disk p q =
    (Opened file disk ∷ q.0, All-cons IsLookOrFailed (Opened file disk) q.0 (inl tt) q.1, adds_more a b c (Opened file disk ∷ []) q.0 p q.2)

pub returns-in_err-digest-clause-looks : goal.returns-in_err-digest-clause-looks
returns-in_err-digest-clause-looks g c =
    let opened = rw c.in-Some.is at c.in_ok-disk.ensures.calls in
    looks_first _ _ _ _ _ opened c.find_comparison.ensures

pub returns-clause-looks : goal.returns-clause-looks
returns-clause-looks g c =
    let opened = rw c.in-Some.is at c.in_ok-disk.ensures.calls in
    looks_first _ _ _ _ _ opened c.find_comparison.ensures

pub returns-clause-told : goal.returns-clause-told
returns-clause-told g c =
    let opened = rw c.in-Some.is at c.in_ok-disk.ensures.calls in
    let more = c.find_comparison.ensures in
    record {
      name = refl;
      holds = inr (c.in-Some.disk, c.holding_of-holding.new.disk, c.holding_of-holding.ensures, (more.0, adds_more _ _ _ _ _ opened more.2));
    }
