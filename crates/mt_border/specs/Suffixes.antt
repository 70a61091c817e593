-- The bytes of a suffix, in place or on the heap.
use Rattle.std.specs.Prelude.{ℕ, List}
use Rattle.mt_border.specs.declared.suffix.SuffixBytes.{SuffixBytes}
use Rattle.mt_border.specs.declared.suffix.SuffixBytes.TheVariants.{Short, Long}

abbrev pub bytes_in : SuffixBytes → List ℕ
bytes_in (Short bytes) = bytes
bytes_in (Long bytes) = bytes.items
