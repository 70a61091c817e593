-- What a change has made ready.
use Rattle.std.specs.Prelude.{ℕ, List, [], Bool, true, false}
use Rattle.mt_rows.specs.Rows.{Columns, columns_of}
use Rattle.mt_tape.specs.declared.entry.Entry.{Entry}
use Rattle.mt_operation.specs.declared.prepared.Made.{Made, TheVariants.{Pair, Row, Nothing}}

-- What a new key has behind its slice, the row, and the write, which has its number only once it is placed; whether the row is there, alone or in its
-- pair; and whether the pair is there, in which the suffix is. Once the row stands in a slot, it is that of the write.
pub record Prepared : Type 0 where
  pub suffix : List ℕ
  pub row : Columns
  pub write : Entry
  pub whole : Bool
  pub paired : Bool

-- a new key's pair, and the write
abbrev pub pair_ready : List ℕ → Columns → Entry → Prepared
pair_ready suffix row write = record { suffix = suffix; row = row; write = write; whole = true; paired = true }

-- a row that is written over another one, and the write
abbrev pub row_ready : Columns → Entry → Prepared
row_ready row write = record { suffix = []; row = row; write = write; whole = true; paired = false }

-- the write alone
abbrev pub placed : Entry → Prepared
placed write = record { suffix = []; row = columns_of write.after; write = write; whole = false; paired = false }

abbrev pub prepared_in : Made → Entry → Prepared
prepared_in (Pair pair) write = pair_ready pair.suffix pair.row write
prepared_in (Row row) write = row_ready row write
prepared_in Nothing write = placed write
