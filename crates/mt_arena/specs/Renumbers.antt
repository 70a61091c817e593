-- All nodes with counters at 0 and other stamps, and one step for all that is out. It is what is left where nobody remembers a version.
use Rattle.std.specs.{Prelude.{◌≡◌, ℕ, List, map}, Option.option_map}
use Rattle.mt_version.specs.Parts.{uncounted}
use Rattle.mt_rows.specs.{Rows.Bytes, Stamps.restamped_row, Tenants.Contents}
use Rattle.mt_border.specs.Restamps.{all_restamped, with_stamps}
use Rattle.mt_arena.specs.{NodeView.NodeView, Idle.all_out_at, Arena.ArenaView}
use Rattle.std.specs.FinMap as finite

-- a node whose version counts no change, and each of whose pairs has the stamp that a function gives for its own
abbrev pub renumbered : (ℕ → ℕ) → NodeView → NodeView
renumbered f n = record n {
  slots = all_restamped f n.slots;
  cells = record n.cells { helds = map (with_stamps f) n.cells.helds };
  version = uncounted n.version;
}

-- all nodes
abbrev pub all_renumbered : (ℕ → ℕ) → List NodeView → List NodeView
all_renumbered f nodes = map (renumbered f) nodes

-- an arena with these nodes, of which the step of this number took out all that are out
abbrev pub arena_renumbered : ℕ → (ℕ → ℕ) → ArenaView → ArenaView
arena_renumbered step f v = record v { nodes = all_renumbered f v.nodes; retired = all_out_at step v.retired }

-- the same contents, each of whose rows has the stamp that a function gives for its old one
abbrev pub AreRestamped : (ℕ → ℕ) → Contents → Contents → Type 0
AreRestamped f old new = (q : ℕ × Bytes) → finite.get new q ≡ option_map (restamped_row f) (finite.get old q)
