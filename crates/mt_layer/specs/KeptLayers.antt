-- What is kept of an operation that makes a layer, by its next phase. Each fact speaks of the node and the slot that it holds, and of its tree.
use Rattle.std.specs.Prelude.{◌≡◌, ◌≢◌, ℕ, ◌+◌, ◌*◌, ◌<◌, false, [], ◌∷◌, length, Some, None}
use Rattle.mt_rows.specs.Rows.{Bytes}
use Rattle.mt_border.specs.{Held.Pair, Held.Held, Held.{Stable, Unstable}, Contents.{IsOfTree, row_of}}
use Rattle.mt_arena.specs.{Forests.tree_at, Layers.slot_at, Layering.{IsLayerOf, IsSettledBut}, Arena.ArenaView, Accesses.at, Given.IsGiven}
use Rattle.mt_arena.specs.declared.tree.Standing.TheVariants.{Made}
use Rattle.mt_operation.specs.{declared.phase.Phase.Phase, declared.walk.Taken.TheVariants.Link, declared.walk.Walk.Walk}
use Rattle.mt_descent.specs.KeptWalks.{GoesThrough, IsAtEnter, walk_place}
use Rattle.mt_insert.specs.KeptPuts.{IsAtMakeLayer}
use Rattle.mt_held.specs.Holds.{IsAtUnlock}
use Rattle.mt_layer.specs.NewLayers.{entry_below}
use Rattle.mt_border.specs.Held as helds
use Rattle.mt_operation.specs.declared.phase.Phase.TheVariants as phases

-- the key is one of tree t, which is a layer further down, and has bytes there
pub record GoesBelow (v : ArenaView) (t layer : ℕ) (key : Bytes) : Type 0 where
  pub there : t < length v.trees
  pub of_tree : IsOfTree (tree_at v.trees t).prefix (layer + 1) key
  pub begun : 8 * (layer + 1) < length key

-- the operation makes tree t for its key and for the one of the walk's slot, which holds this of the pair; nothing else lags behind the node, and the
-- tree has the pair as its first entry, with its row and stamp
pub record MakesLayer (v : ArenaView) (op : ℕ) (key : Bytes) (w : Walk) (t : ℕ) (what : Held) (pair : Pair) : Type 0 where
  pub taken : w.taken ≡ Link t
  pub other : Bytes
  pub layer : IsLayerOf v w.place.node (walk_place v w) t op what other (row_of pair)
  pub settled : IsSettledBut v.nodes w.place.node (walk_place v w)
  pub goes_on : GoesBelow v t w.layer key
  pub first : (at v (tree_at v.trees t).root).slots ≡ entry_below pair ∷ []

-- at MarkUnstable: the slot holds its pair as before
pub record IsAtMarkUnstable (v : ArenaView) (op : ℕ) (key : Bytes) (w : Walk) : Type 0 where
  pub tree : ℕ
  pub pair : Pair
  pub makes : MakesLayer v op key w tree (Stable pair) pair

-- at Link: the pair is unstable
pub record IsAtLink (v : ArenaView) (op : ℕ) (key : Bytes) (w : Walk) : Type 0 where
  pub tree : ℕ
  pub pair : Pair
  pub makes : MakesLayer v op key w tree (Unstable pair None) pair

-- at MarkLayer: it has the number of the tree
pub record IsAtMarkLayer (v : ArenaView) (op : ℕ) (key : Bytes) (w : Walk) : Type 0 where
  pub tree : ℕ
  pub pair : Pair
  pub makes : MakesLayer v op key w tree (Unstable pair (Some tree)) pair

-- at Unlock: the lock may be given back, the walk's slot is a link to the new tree, and the key goes through that
pub record IsAtLeave (v : ArenaView) (op : ℕ) (key : Bytes) (w : Walk) : Type 0 where
  pub tree : ℕ
  pub taken : w.taken ≡ Link tree
  pub unlock : IsAtUnlock v op w
  pub live : (at v w.place.node).version.deleted ≡ false
  pub in_range : walk_place v w < length (at v w.place.node).slots
  pub link : (slot_at (at v w.place.node) (walk_place v w)).held ≡ helds.Link tree
  pub through : GoesThrough v tree (w.layer + 1) key

-- what is kept of an operation that makes a layer by its next phase, until it begins anew in the tree of the layer
abbrev pub KeptLayer : Phase → ArenaView → ℕ → Bytes → Walk → Type 0
KeptLayer phases.MakeLayer v op key w = IsAtMakeLayer v op key w
KeptLayer phases.MarkUnstable v op key w = IsAtMarkUnstable v op key w
KeptLayer phases.Link v op key w = IsAtLink v op key w
KeptLayer phases.MarkLayer v op key w = IsAtMarkLayer v op key w
KeptLayer phases.Unlock v op key w = IsAtLeave v op key w
KeptLayer phases.Enter v op key w = IsAtEnter v key w
KeptLayer _ v op key w = ⊥

-- no place of a node was given out for a tree that operation o was making
abbrev pub GivesNoneInto : ℕ → ArenaView → ArenaView → Type 0
GivesNoneInto o old new = (k : ℕ) → k < length old.nodes → IsGiven (at old k) (at new k) → (tree_at old.trees (at new k).tree).standing ≢ Made o
