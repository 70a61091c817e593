-- What may be given back may still be given back after an edit that leaves the node as it is, but for the one before it and its parent, and
-- by which nobody comes to name it: for the phases of a split.
use Rattle.std.proofs.Common.{ℕ, ◌<◌, ◌≤◌, List, length, ◌∙◌}
use Rattle.mt_arena.specs.{NodeView.{NodeView, node_at}, Arena.ArenaView, Accesses.at}
use Rattle.mt_operation.specs.declared.splits.Halves.{Halves}
use Rattle.mt_held.{proofs.Returns.{StaysButNames, NamesNoMoreOf, child_stays, TreesStand, returnable_still}, specs.Holds.MayReturn}
use Rattle.mt_insert.specs.KeptSplits.{halves_at, AreReturnable, NothingLags}

-- nothing lags behind such a node
pub nothing_lags_still : (xs ys : List NodeView) (k : ℕ) → StaysButNames (node_at xs k) (node_at ys k) → NamesNoMoreOf xs ys k → NothingLags xs k
    → NothingLags ys k
nothing_lags_still xs ys k stays names lags = record {
  followers = λ j is. stays.next ∙ lags.followers j (names.follows j is);
  children = λ j is. child_stays (node_at xs k) (node_at ys k) j stays.children stays.deleted (lags.children j (names.under j is));
}

module _ (v u : ArenaView) (op : ℕ) (more : length v.nodes ≤ length u.nodes) (trees : TreesStand v.trees u.trees) where
  -- and so both halves of each split, if each held node of a lower level stays
  pub all_returnable_still : (halves : List Halves) (count : ℕ)
      → ((level k : ℕ) → level < count → MayReturn v op level k → StaysButNames (at v k) (at u k) × NamesNoMoreOf v.nodes u.nodes k)
      → AreReturnable v op halves count → AreReturnable u op halves count
  all_returnable_still halves count each all i lt =
      let m = all i lt in
      let left = each i (halves_at halves i).left lt m.left in
      let right = each i (halves_at halves i).right lt m.right in
      record {
        differ = m.differ;
        left = returnable_still v u op more trees i (halves_at halves i).left left.0 left.1 m.left;
        right = returnable_still v u op more trees i (halves_at halves i).right right.0 right.1 m.right;
      }
