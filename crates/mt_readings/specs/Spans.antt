-- A scan at a border node, and what its reading of the node tells of the contents.
use Rattle.std.specs.Prelude.{◌≡◌, ◌≢◌, ◌⊎◌, ℕ, ◌≤◌, ◌<◌, ◌*◌, ◌-◌, ◌==◌, if◌then◌else◌, Bool, true, false, List, length, take, slice_index, Some, None}
use Rattle.std.specs.List.{Contains}
use Rattle.mt_slices.specs.{Keys.IsStoredKey, Slices.{slice_of, rest_of}}
use Rattle.mt_rows.specs.{Rows.Bytes, Tenants.Contents}
use Rattle.mt_border.specs.{Held.Pair, declared.entry.Entry.Entry, Contents.{owned, HasKey, IsOfTree, row_of}}
use Rattle.mt_arena.specs.{declared.tree.Tree.Tree, declared.tree.Standing.TheVariants.Live, NodeView.{NodeView, node_at}, Forests.tree_at, Stands.IsLiveBorder}
use Rattle.mt_readings.specs.Reading.{is_below}
use Rattle.std.specs.FinMap as pairs

-- a scan is at live border node k of a live tree, of a layer: its fence goes through the tree, and its slice isn't below the node's range
pub record IsScanAt (nodes : List NodeView) (trees : List Tree) (k layer : ℕ) (fence : Bytes) : Type 0 where
  pub border : IsLiveBorder nodes (node_at nodes k).tree k
  pub tree_live : (tree_at trees (node_at nodes k).tree).standing ≡ Live
  pub of_tree : IsOfTree (tree_at trees (node_at nodes k).tree).prefix layer fence
  pub begun : 8 * layer < length fence
  pub from : (node_at nodes k).low ≤ slice_of fence layer

-- a pair that was read is the key's, and the contents have its row with its stamp
pub record HasPair (c : Contents) (prefix : Bytes) (layer : ℕ) (xs : List (Entry × Pair)) (key : Bytes) : Type 0 where
  pub x : Entry × Pair
  pub among : Contains xs x
  pub has : HasKey prefix layer x.0 key
  pub row : pairs.get c (owned key) ≡ Some (row_of x.1)

-- what was read is all that the contents have from one fence to another
pub record TellsAll (c : Contents) (prefix : Bytes) (layer : ℕ) (fence : Bytes) (after : Bool) (reached : Bytes) (xs : List (Entry × Pair)) : Type 0 where
  pub whole : (key : Bytes) → IsStoredKey key → is_below fence after key ≡ false → is_below reached false key ≡ true → HasPair c prefix layer xs key ⊎ (pairs.get c (owned key) ≡ None)
  pub real : (x : Entry × Pair) → Contains xs x → (key : Bytes) × HasKey prefix layer x.0 key × (pairs.get c (owned key) ≡ Some (row_of x.1)) × (is_below fence after key ≡ false) × (is_below reached false key ≡ true)

-- the fewest bytes that a key has in a layer
abbrev pub least_in : ℕ → ℕ
least_in layer = if layer == 0 then 4 else 1

-- the least bytes of a tree whose slice is this one or a higher one: they end in this slice, with no zero byte at their end but where a key needs one. They
-- need not be a stored key: in the last layer they may be a byte too long for one, and still part the tree's keys
pub record IsAtSlice (prefix : Bytes) (layer slice : ℕ) (fence : Bytes) : Type 0 where
  pub are_bytes : (i : ℕ) → slice_index fence i < 256
  pub begins : prefix ≡ take (8 * layer) fence
  pub slice_is : slice_of fence layer ≡ slice
  pub few : length (rest_of fence layer) ≤ 8
  pub least : (length (rest_of fence layer) ≤ least_in layer) ⊎ (slice_index (rest_of fence layer) (length (rest_of fence layer) - 1) ≢ 0)
