-- The shape of the live trees, and its lines as they are printed.
use Rattle.std.specs.Prelude.{◌≡◌, ℕ, zero, suc, ◌+◌, ◌-◌, ◌*◌, ◌<◌, Bool, true, false, if◌then◌else◌, List, [], ◌∷◌, ◌++◌, length, map, replicate, codes, slice_get, Some}
use Rattle.std.specs.{Fmt.{digits, decimal}, List.{filter, flat_map}, List.Sorted.{IsPermutation, IsStrictlySortedBy}, Option.option_map}
use Rattle.std.specs.{Ordering.{nat_cmp, ordering_then}, declared.cmp.Ordering.Ordering, Cmp.Lexicographic.slice_cmp}
use Rattle.mt_slices.specs.{declared.mark.Mark.Mark, declared.mark.Mark.TheVariants.{Short, Long}}
use Rattle.mt_rows.specs.Rows.{Bytes}
use Rattle.mt_border.specs.{declared.entry.Entry.Entry, Held.Held, Held.{Link as LinkTo}}
use Rattle.mt_arena.specs.{declared.tree.Tree.Tree, Arena.ArenaView, Contents.is_live, Forests.layer_of, Accesses.at}
use Rattle.mt_core.specs.{declared.shape.Edge.Edge, declared.shape.ShapeLine.ShapeLine}
use Rattle.mt_core.specs.declared.shape.ShapeLine.TheVariants.{Tree as TreeLine, Interior, Border}

-- so many hexadecimal digits, in lower case, the highest first
abbrev pub hex_digits : ℕ → ℕ → List ℕ
hex_digits count n = let shown = digits 16 false n in replicate (count - length shown) 48 ++ shown

-- a mark: how many bytes, or a longer key, or a link
abbrev pub mark_text : Mark → Bool → List ℕ
mark_text (Short bytes) is_link = decimal bytes
mark_text Long is_link = if is_link then codes "T" else codes "L"

-- a slice, a colon and a mark
abbrev pub edge_text : Edge → List ℕ
edge_text e = hex_digits 16 e.slice ++ (codes ":" ++ mark_text e.mark e.is_link)

-- two spaces, and two more for each level below the root
abbrev pub indent_text : ℕ → List ℕ
indent_text depth = replicate (2 * (depth + 1)) 32

-- separators, each after a space
abbrev pub separators_text : List ℕ → List ℕ
separators_text slices = flat_map (λ slice. codes " " ++ hex_digits 16 slice) slices

-- a prefix: two digits for each byte, and `-` where there is none
abbrev pub prefix_text : Bytes → List ℕ
prefix_text [] = codes "-"
prefix_text bytes = flat_map (hex_digits 2) bytes

-- a line, as it is printed
abbrev pub line_text : ShapeLine → List ℕ
line_text (TreeLine prefix) = codes "tree " ++ (prefix_text prefix ++ (codes " layer " ++ decimal (layer_of prefix)))
line_text (Interior depth separators) = indent_text depth ++ (codes "interior" ++ separators_text separators)
line_text (Border depth count (Some first) (Some last)) =
    indent_text depth ++ (codes "border " ++ (decimal count ++ (codes " " ++ (edge_text first ++ (codes " " ++ edge_text last)))))
line_text (Border depth count first last) = indent_text depth ++ (codes "border " ++ decimal count)

-- whether a slot holds a link
abbrev pub is_link : Held → Bool
is_link (LinkTo tree) = true
is_link _ = false

-- an entry at the edge of a node
abbrev pub edge_in : Entry → Edge
edge_in e = record { slice = e.slice; mark = e.mark; is_link = is_link e.held }

-- the line of a border node of these entries
abbrev pub line_in : ℕ → List Entry → ShapeLine
line_in depth entries = Border depth (length entries) (option_map edge_in (slice_get entries 0)) (option_map edge_in (slice_get entries (length entries - 1)))

-- the line of a node, and those of all nodes below it, in the order of their keys
abbrev pub lines_from : ℕ → ArenaView → ℕ → ℕ → List ShapeLine
lines_from zero v depth k = line_in depth (at v k).slots ∷ []
lines_from (suc level) v depth k = Interior depth (at v k).separators ∷ flat_map (lines_from level v (depth + 1)) (at v k).children

-- the line of a tree, and those of its root and of all nodes below it
abbrev pub tree_lines : ArenaView → Tree → List ShapeLine
tree_lines v tree = TreeLine tree.prefix ∷ lines_from (at v tree.root).level v 0 tree.root

-- the root of a tree is there, and live
pub record HasLiveRoot (v : ArenaView) (tree : Tree) : Type 0 where
  pub there : tree.root < length v.nodes
  pub live : (at v tree.root).version.deleted ≡ false

-- the order of prefixes: the shorter one first, and where two are as long the one that is first by its bytes
abbrev pub prefix_cmp : Bytes → Bytes → Ordering
prefix_cmp one other = ordering_then (nat_cmp (length one) (length other)) (slice_cmp nat_cmp one other)

-- the live trees of these, each once, in the order of their prefixes
pub record IsListing (trees listed : List Tree) : Type 0 where
  pub live : IsPermutation (filter (λ t. is_live t.standing) trees) listed
  pub rising : IsStrictlySortedBy prefix_cmp (map (λ t. t.prefix) listed)

-- the lines of all live trees, one tree after the other
abbrev pub IsShape : ArenaView → List ShapeLine → Type 0
IsShape v lines = (trees : List Tree) × IsListing v.trees trees × (lines ≡ flat_map (tree_lines v) trees)
