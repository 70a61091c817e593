-- What the changes of an interior node leave.
use Rattle.std.specs.Prelude.{ℕ, ◌+◌, ◌-◌, [], ◌∷◌, take, drop, insert, remove, slice_index}
use Rattle.mt_interior.specs.{Node.InteriorNode, Places.place_of}

-- a node with these two children alone
abbrev pub over_two : InteriorNode → ℕ → ℕ → ℕ → InteriorNode
over_two n left separator right = record n { separators = separator ∷ []; children = left ∷ right ∷ [] }

-- a node with one more child, which begins at the separator
abbrev pub with_child : InteriorNode → ℕ → ℕ → InteriorNode
with_child n separator child = record n {
  separators = insert n.separators (place_of n.separators separator) separator;
  children = insert n.children (place_of n.separators separator + 1) child;
}

-- a node without child i, which is not the first, and without the separator before it
abbrev pub without_child : InteriorNode → ℕ → InteriorNode
without_child n i = record n { separators = remove n.separators (i - 1); children = remove n.children i }

-- the ninth separator, which a split of sixteen sends upwards
abbrev pub middle : InteriorNode → ℕ
middle n = slice_index n.separators 8

-- a node with the eight separators before the ninth, and their nine children
abbrev pub left_half : InteriorNode → InteriorNode
left_half n = record n { separators = take 8 n.separators; children = take 9 n.children }

-- the node at the right with the separators behind the ninth, and the other children
abbrev pub right_half : InteriorNode → InteriorNode → InteriorNode
right_half n right = record right { separators = drop 9 n.separators; children = drop 9 n.children }
