-- the records so far have so many bytes, and are within their limits
use Rattle.std.{proofs.Common.{◌≡◌, ◌*◌, ◌≤◌, ◌<◌, ℕ, get_or, length, take}, specs.List.flat_map}
use Rattle.mt_rows.specs.declared.record.Record.{Record}
use Rattle.mt_log.specs.Format.{record_bytes}
use Rattle.mt_batches.specs.Batches.{IsRecord}
use Rattle.mt_log.proofs.writer.records_len.Given as goal

abbrev pub invariant-loop-record : goal.invariant-loop-record
invariant-loop-record l = record {
  exact : l.len ≡ length (flat_map record_bytes (take l.record-index l.records));
  few : l.len ≤ 16699 * l.record-index;
  each : (k : ℕ) (d : Record) → k < l.record-index → IsRecord (get_or l.records k d);
}
