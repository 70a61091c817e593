-- the records that were read and those that are left are all that are announced
use Rattle.std.proofs.Common.{◌≡◌, ◌-◌}
use Rattle.mt_fields.{specs.Reading.each_at, proofs.Loop.with_front}
use Rattle.mt_log.specs.Reading.{record_at}
use Rattle.mt_log.proofs.records.record_list_of.Given as goal

abbrev pub invariant-loop : goal.invariant-loop
invariant-loop l = with_front l.records.items (each_at (record_at l.old) (l.count - l.counter) l.rest) ≡ each_at (record_at l.old) l.count l.bytes
