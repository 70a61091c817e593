-- What falls first of all stamps is what does of those that are left.
use Rattle.std.proofs.Common.{◌≡◌, drop, map}
use Rattle.mt_rows.specs.declared.record.Record.{Record}
use Rattle.mt_log.specs.Falls.{fall_in}
use Rattle.mt_log.proofs.order.fall_in.Given as goal

abbrev pub invariant-loop-record : goal.invariant-loop-record
invariant-loop-record l = fall_in l.last l.to (map (λ (r : Record). r.stamp) (drop l.record-index l.records)) ≡ fall_in l.from l.to (map (λ (r : Record). r.stamp) l.records)
