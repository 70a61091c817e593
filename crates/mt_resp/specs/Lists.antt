-- How lists of keys and of pairs are spelled.
use Rattle.std.specs.{Prelude.{ℕ, ◌*◌, Bool, true, List, [], ◌++◌, codes, decimal, nat_eq, Option, Some, None, if◌then◌else◌}, List.{filter, flat_map, count_by, starts_with}}
use Rattle.mt_rows.specs.Stamps.{Stamped}
use Rattle.mt_resp.specs.{Grammar.{Bytes, bulk}, Strings.value_of, Patterns.is_like, Numbers.number_line}

-- pairs of keys and rows with their stamps
abbrev pub Pairs : Type 0
Pairs = List (Bytes × Stamped)

-- a key is like the pattern, if there is one
abbrev pub is_matched : Option Bytes → Bytes × Stamped → Bool
is_matched None pair = true
is_matched (Some pattern) pair = is_like pattern pair.0

-- a key begins with the prefix, if there is one
abbrev pub is_begun : Option Bytes → Bytes × Stamped → Bool
is_begun None pair = true
is_begun (Some prefix) pair = starts_with nat_eq pair.0 prefix

-- a list of the keys that are like the pattern
abbrev pub keys_text : Option Bytes → Pairs → Bytes
keys_text pattern pairs = number_line 42 (count_by (is_matched pattern) pairs) ++ flat_map (λ pair. bulk pair.0) (filter (is_matched pattern) pairs)

-- what a SCAN is told: the cursor to go on from, and the keys
abbrev pub scan_text : ℕ → Pairs → Option Bytes → Bytes
scan_text cursor pairs pattern = codes "*2\r\n" ++ (bulk (decimal cursor) ++ keys_text pattern pairs)

-- a key, its string, and its stamp if so asked
abbrev pub pair_text : Bool → Bytes × Stamped → Bytes
pair_text stamps pair = bulk pair.0 ++ (bulk (value_of pair.1.row) ++ (if stamps then number_line 58 pair.1.stamp else []))

-- how many items a list of pairs has
abbrev pub items : Option Bytes → Bool → Pairs → ℕ
items prefix stamps pairs = count_by (is_begun prefix) pairs * (if stamps then 3 else 2)

-- what a RANGE is told: a flat list of the pairs whose keys begin with the prefix
abbrev pub range_text : Pairs → Option Bytes → Bool → Bytes
range_text pairs prefix stamps = number_line 42 (items prefix stamps pairs) ++ flat_map (pair_text stamps) (filter (is_begun prefix) pairs)
