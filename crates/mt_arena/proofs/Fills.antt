-- The whole invariant, the guarantee and the contents where the free slot that is taken next is written: for `fill`.
use Rattle.std.{proofs.Common.{◌≡◌, ◌≢◌, ℕ, ◌<◌, List, length, set, Bool, true, false, Some, None, refl, sym, ◌∙◌, arith}, specs.Prelude.{◌||◌}}
use Rattle.mt_version.specs.{Parts.Parts, Changes.Ages}
use Rattle.mt_version.proofs.Aging.{ages-marked_inserting}
use Rattle.mt_border.specs.{Held.Held, Slots.{next_free, is_dropped}, Keeps.KeepsEntries}
use Rattle.mt_arena.specs.{declared.tree.Tree.Tree, Idle.{RetiredPlaces, Rooms}, NodeView.{NodeView, node_at}, Nodes.AreNodes, Contents.content}
use Rattle.mt_arena.specs.{Guarantee.Changes, Edits.{with_filled, cells_filled}, Invariant.ArenaInvariant, Arena.{ArenaView, Guarantee}, Accesses.{at, IsOpen, with_node}}
use Rattle.mt_arena.proofs.{Quiet.{nodes_quiet, held_node}, Ranged.ranged_marked, Steps.{sound_set, own_keys, step_set}, LinkEdits.same_links, Locks.not_others}
use Rattle.mt_arena.proofs.ContentQuiet.{stands_unchanged}
use Rattle.mt_version.proofs.CallerLemmas as versions

-- a version that may be marked
pub ages_marked_so : (marked : Bool) (p : Parts) → Ages p (record p { inserting = marked || p.inserting })
ages_marked_so true p = ages-marked_inserting p
ages_marked_so false p = versions.ages_refl p

-- the version of a node whose free slot is written
abbrev pub version_filled : NodeView → Parts
version_filled n = record n.version { inserting = is_dropped n.cells (next_free n.cells) || n.version.inserting }

nodes_filled : (xs : List NodeView) (i : ℕ) (held : Held) → i < length xs → AreNodes xs → (node_at xs i).holder ≢ None
    → AreNodes (set xs i (with_filled (node_at xs i) held))
nodes_filled xs i held within nodes has =
    let x = node_at xs i in
    let h = nodes.each i within in
    nodes_quiet xs i x.slots (cells_filled x.cells held) (version_filled x) x.holder within nodes refl (λ e. e)
    (held_node (length xs) x x.slots (cells_filled x.cells held) (version_filled x) x.holder h has h.lock.locked refl refl (λ e. e) h.slots)

pub sound_filled : (xs : List NodeView) (trees : List Tree) (gone : RetiredPlaces) (room : Rooms) (i : ℕ) (held : Held) → i < length xs → ArenaInvariant xs trees gone room
    → (node_at xs i).holder ≢ None → ArenaInvariant (set xs i (with_filled (node_at xs i) held)) trees gone room
sound_filled xs trees gone room i held within sound has =
    let x = node_at xs i in
    sound_set xs trees gone room i (with_filled x held) within sound (nodes_filled xs i held within sound.arena.nodes has)
    (ranged_marked xs i x.slots (cells_filled x.cells held) (version_filled x) within sound.arena.ranged refl (λ marked. marked) (λ whole. whole))
    record { tree = refl; level = refl; low = refl; deleted = refl; flag = refl; root = λ r. record { live = r.live; flag = r.flag; parentless = r.parentless; low = r.low; reach = r.reach } }
    (own_keys xs trees i within sound.arena.forest)
    record { tree = refl; deleted = refl; forth = same_links x.slots; back = same_links x.slots }
    record { next = refl; children = refl }

-- a version that says nothing new was not marked
unmarked : (dropped was : Bool) → was ≡ (dropped || was) → was ≡ false → dropped ≡ false
unmarked true was same still = absurd (let marked = sym still ∙ same in cc)
unmarked false was same still = refl

-- what a reader may remember is kept, or the version tells
pub changes_filled : (op : ℕ) (x : NodeView) (held : Held) → x.holder ≡ Some op
    → (is_dropped x.cells (next_free x.cells) ≡ false → KeepsEntries x.slots x.cells x.slots (cells_filled x.cells held)) → Changes op x (with_filled x held)
changes_filled op x held mine keeps = record {
  tree = refl;
  level = refl;
  low = refl;
  ages = ages_marked_so (is_dropped x.cells (next_free x.cells)) x.version;
  peopled = λ some. some;
  widens = λ same whole live. omega arith;
  keys = λ range insertion whole still. record {
    slots = keeps (unmarked (is_dropped x.cells (next_free x.cells)) x.version.inserting (versions.insert_age_tells x.version (version_filled x) insertion).1 still);
    separators = refl;
    children = refl;
  };
  held = λ q other e. absurd (not_others op q x mine other e);
  taken = λ q other e. e;
}

pub step_filled : (v : ArenaView) (i op : ℕ) (held : Held) → i < length v.nodes → (at v i).holder ≡ Some op → IsOpen v i op
    → (is_dropped (at v i).cells (next_free (at v i).cells) ≡ false → KeepsEntries (at v i).slots (at v i).cells (at v i).slots (cells_filled (at v i).cells held))
    → Guarantee op v (with_node v i (with_filled (at v i) held))
step_filled v i op held within has mine keeps =
    step_set op v i (with_filled (at v i) held) within (changes_filled op (at v i) held has keeps) mine (record { previous = λ j e not_mine. e; parent = λ j e not_mine. e })
    (λ whole slot live gone. absurd (gone live))

pub content_filled : (trees : List Tree) (nodes : List NodeView) (i : ℕ) (held : Held) → content trees (set nodes i (with_filled (node_at nodes i) held)) ≡ content trees nodes
content_filled trees nodes i held = stands_unchanged trees nodes i (with_filled (node_at nodes i) held) record { slots = refl; deleted = refl; tree = refl }
