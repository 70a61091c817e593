-- The bytes of a column, however it holds them.
use Rattle.mt_rows.specs.{declared.column.ColumnBytes.ColumnBytes, declared.column.ColumnBytes.TheVariants.{Short, Long}}
use Rattle.mt_rows.specs.Rows.{Bytes}

-- the bytes in place, or in a piece of memory of their own
abbrev pub held_bytes : ColumnBytes → Bytes
held_bytes (Short bytes) = bytes.items
held_bytes (Long bytes) = bytes.items
