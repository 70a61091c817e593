-- The contents: the pairs of all live slots of all live trees.
use Rattle.std.specs.{Prelude.{ℕ, Bool, true, false, if◌then◌else◌, List, [], filter_map}, List.flat_map}
use Rattle.mt_rows.specs.{Rows.Bytes, Tenants.Contents, Stamps.Stamped}
use Rattle.mt_border.specs.Contents.{pair_in}
use Rattle.mt_arena.specs.{declared.tree.Tree.Tree, declared.tree.Standing.Standing, declared.tree.Standing.TheVariants.{Made, Live, Dead}, NodeView.NodeView}
use Rattle.mt_arena.specs.Forests.{tree_at}
use Rattle.std.specs.FinMap as finite

-- whether a tree's pairs count
abbrev pub is_live : Standing → Bool
is_live (Made by) = false
is_live Live = true
is_live Dead = false

-- a node's pairs count where it is live and its tree is
abbrev pub counts : List Tree → NodeView → Bool
counts trees n = if n.version.deleted then false else is_live (tree_at trees n.tree).standing

-- the pairs for which a node's slots stand, each with its owner and its stamp
abbrev pub live_pairs : List Tree → NodeView → List ((ℕ × Bytes) × Stamped)
live_pairs trees n = if counts trees n then filter_map (pair_in (tree_at trees n.tree).prefix) n.slots else []

-- the map of all tenants
unfoldable pub content : List Tree → List NodeView → Contents
content trees nodes = finite.from_entries (flat_map (live_pairs trees) nodes)
