-- Where a worker's last log begins, whatever a crash leaves of its file.
use Rattle.std.proofs.Common.{◌≡◌, ℕ, ◌≤◌, Bool, Option, Some, sym, subst}
use Rattle.mt_disk.specs.Disk.{DiskState}
use Rattle.mt_log.specs.Contents.{Contents, JoinsAndRises, mark_of}
use Rattle.mt_crashes.specs.Stores.{LogNow}
use Rattle.mt_generations.{specs.Chains.EndsLog, proofs.Parts.{end_from, same_end, chain_joins}}
use Rattle.mt_log_files.specs.Files.{FileNow, MayLeaveFile}
use Rattle.mt_chain_files.specs.Turns.{FilesNow, now_of}
use Rattle.mt_store_logs.specs.{declared.store_log.StoreLog.StoreLog, Ends.StandsInTurn}
use Rattle.mt_store_logs.proofs.TurnFiles.{left_start}

-- an end of a log whose batches join begins by where that log ends
begins_by : (whole last : Contents) → EndsLog whole last → JoinsAndRises whole → last.start ≤ mark_of whole
begins_by whole last ends joins =
    subst (λ (n : ℕ). last.start ≤ n) (same_end whole last ends) (end_from last.start last.batches (chain_joins whole last ends joins))

pub began_by : {D : Type 0} (is_honest : D → Bool) (state : D → DiskState) (g : ℕ) (now : LogNow) (files : FilesNow) (log : StoreLog D)
    → StandsInTurn is_honest state g now files log → JoinsAndRises now.had → (x : Option Contents) → MayLeaveFile (now_of log.log.generation files) x
    → (c : Contents) × (x ≡ Some c) × (c.start ≤ mark_of now.had)
began_by is_honest state g now files log s joins x may =
    let last = s.stands.last in
    let left = subst (λ (f : FileNow). MayLeaveFile f x) s.has may in
    (left.0, left.2, subst (λ (n : ℕ). n ≤ mark_of now.had) (sym (left_start last left.0 left.1)) (begins_by now.had last.had s.stands.is_end.ends joins))
