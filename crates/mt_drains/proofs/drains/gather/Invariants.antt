-- The records so far, with those of the writes from here on, are all; each is of an earlier step than these writes; and each has its limits, if its key has.
use Rattle.std.{proofs.Common.{◌≡◌, ◌++◌, ◌<◌, ◌≤◌, ℕ, Some, length, drop}, specs.{Prelude.slice_get, List.All}}
use Rattle.mt_rows.specs.Commands.{IsKey}
use Rattle.mt_batches.specs.Batches.{IsRecord}
use Rattle.mt_tape.specs.declared.entry.Entry.{Entry}
use Rattle.mt_drains.specs.Drains.{records_of}
use Rattle.mt_drains.proofs.drains.gather.Given as goal

abbrev pub invariant-loop-place : goal.invariant-loop-place
invariant-loop-place l = record {
  given : l.records.items ++ records_of l.worker (drop l.place l.tape.entries) ≡ records_of l.worker (drop l.first l.tape.entries);
  few : length l.records.items < 4096;
  earlier : (k : ℕ) (e : Entry) → l.place ≤ k → slice_get l.tape.entries k ≡ Some e → All (λ r. r.stamp < e.step) l.records.items;
  limits : All (λ r. IsKey r.key → IsRecord r) l.records.items;
}
