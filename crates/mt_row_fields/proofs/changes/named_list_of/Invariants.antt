-- the columns that were read and those that are left are all that are announced
use Rattle.std.proofs.Common.{◌≡◌, ◌-◌}
use Rattle.mt_fields.{specs.Reading.each_at, proofs.Loop.with_front}
use Rattle.mt_row_fields.specs.Reading.{named_at}
use Rattle.mt_row_fields.proofs.changes.named_list_of.Given as goal

abbrev pub invariant-loop : goal.invariant-loop
invariant-loop l = with_front l.columns.items (each_at named_at (l.count - l.counter) l.rest) ≡ each_at named_at l.count l.bytes
