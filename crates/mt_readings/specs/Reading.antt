-- What a scan reads of a border node's entries: the pairs from a fence on, up to the first link.
use Rattle.std.specs.Prelude.{◌≡◌, ◌≢◌, ℕ, ◌≤◌, ◌<◌, Bool, true, false, if◌then◌else◌, List, [], ◌∷◌, Option, Some, None, length, slice_index_or}
use Rattle.std.specs.{Ordering.{nat_cmp, is_le, is_lt, ordering_then}, declared.cmp.Ordering.Ordering, declared.cmp.Ordering.TheVariants.{Less, Equal, Greater}}
use Rattle.std.specs.{Cmp.Lexicographic.slice_cmp, List.Contains}
use Rattle.mt_slices.specs.{Marks.mark_rank, Slices.{slice_of, mark_of, suffix_of}, declared.mark.Mark.TheVariants.Long}
use Rattle.mt_rows.specs.Rows.{Bytes}
use Rattle.mt_border.specs.{Held.Pair, declared.entry.Entry.Entry, Entry.{pair_of, order_of}, Contents.{HasKey, IsOfTree}}

-- whether a key is done with at a fence: it stands before the fence, or is the fence itself where a scan begins behind it
abbrev pub is_below : Bytes → Bool → Bytes → Bool
is_below fence after key = if after then is_le (slice_cmp nat_cmp key fence) else is_lt (slice_cmp nat_cmp key fence)

-- the same of an entry, by how its slice and mark stand to the fence's, and by its pair; a link stands for all longer keys of its slice
abbrev pub behind_by : Bytes → Bool → Ordering → Option Pair → Bool
behind_by suffix after Less pair = true
behind_by suffix after Greater pair = false
behind_by suffix after Equal None = false
behind_by suffix after Equal (Some pair) = is_below suffix after pair.suffix

abbrev pub is_behind : Bytes → Bool → ℕ → Entry → Bool
is_behind fence after layer e =
    behind_by (suffix_of fence layer) after (ordering_then (nat_cmp e.slice (slice_of fence layer)) (nat_cmp (mark_rank e.mark) (mark_rank (mark_of fence layer)))) (pair_of e.held)

-- the entries that are read, each with its pair
abbrev pub read_on : Entry → Option Pair → List (Entry × Pair) → List (Entry × Pair)
read_on e None rest = []
read_on e (Some pair) rest = (e, pair) ∷ rest

abbrev pub read : (Entry → Bool) → List Entry → List (Entry × Pair)
read behind [] = []
read behind (e ∷ es) = if behind e then read behind es else read_on e (pair_of e.held) (read behind es)

-- the link at which the reading stops
abbrev pub stop_on : Entry → Option Pair → Option Entry → Option Entry
stop_on e None rest = Some e
stop_on e (Some pair) rest = rest

abbrev pub stop : (Entry → Bool) → List Entry → Option Entry
stop behind [] = None
stop behind (e ∷ es) = if behind e then stop behind es else stop_on e (pair_of e.held) (stop behind es)

-- an entry stands at the key's slice and mark, with the pair of another key
pub record HasOther (es : List Entry) (layer : ℕ) (key : Bytes) : Type 0 where
  pub slot : ℕ
  pub in_range : slot < length es
  pub entry : Entry
  pub is : (d : Entry) → slice_index_or es slot d ≡ entry
  pub slice_is : entry.slice ≡ slice_of key layer
  pub mark_is : entry.mark ≡ mark_of key layer
  pub other : Pair
  pub pair_is : pair_of entry.held ≡ Some other
  pub differs : other.suffix ≢ suffix_of key layer

-- the key's pair was read
pub record IsRead (prefix : Bytes) (layer : ℕ) (behind : Entry → Bool) (es : List Entry) (key : Bytes) : Type 0 where
  pub x : Entry × Pair
  pub among : Contains (read behind es) x
  pub has : HasKey prefix layer x.0 key

-- the reading stopped at a link, at or before this place in the order
pub record IsStopped (behind : Entry → Bool) (es : List Entry) (order : ℕ) : Type 0 where
  pub link : Entry
  pub stops : stop behind es ≡ Some link
  pub before : order_of link ≤ order

-- the next fence at a link: the bytes that lead to the link and a zero byte, the least of the keys that go through it
pub record IsAtLink (prefix : Bytes) (layer slice : ℕ) (fence : Bytes) : Type 0 where
  pub of_tree : IsOfTree prefix layer fence
  pub slice_is : slice_of fence layer ≡ slice
  pub mark_is : mark_of fence layer ≡ Long
  pub suffix_is : suffix_of fence layer ≡ 0 ∷ []
