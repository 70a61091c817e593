-- What a scan remembers between its steps: what is shown of it.
use Rattle.std.specs.{Prelude.{◌+◌, ◌≤◌, List, length, map, take, drop}, List.All}
use Rattle.mt_rows.specs.{Rows.Bytes, Stamps.Stamped}
use Rattle.mt_operation.specs.declared.seen.SeenPair.{SeenPair}

-- a pair of those that were seen: its key stands among these bytes
abbrev pub pair_in : Bytes → SeenPair → Bytes × Stamped
pair_in bytes p = (take p.key_length (drop p.key_start bytes), p.row)

abbrev pub pairs_in : Bytes → List SeenPair → List (Bytes × Stamped)
pairs_in bytes pairs = map (pair_in bytes) pairs

-- each has its key there
abbrev pub HasKeys : Bytes → List SeenPair → Type 0
HasKeys bytes pairs = All (λ p. p.key_start + p.key_length ≤ length bytes) pairs
