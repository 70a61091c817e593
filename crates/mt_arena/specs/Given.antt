-- Which places an operation keeps back, and what stands between two arenas where places are given out again.
use Rattle.std.specs.Prelude.{◌≡◌, ℕ, ◌<◌, ◌≤◌, ◌⊎◌, true, false, List, [], length, slice_index, slice_index_or, Some, None}
use Rattle.mt_version.specs.Changes.{AgesOn, CanRenew}
use Rattle.mt_arena.specs.{declared.retired.Retired.Retired, declared.tree.Tree.Tree, declared.tree.Standing.TheVariants.{Made, Dead}}
use Rattle.mt_arena.specs.{NodeView.{NodeView, node_at}, Forests.tree_at, Idle.{RetiredPlaces, place_of_idle}, Arena.{ArenaView, Guarantee, content_of}, Accesses.at}

-- the step that took out one of a list
abbrev pub step_of_idle : List Retired → ℕ → ℕ
step_of_idle gone i = (slice_index_or gone i (record { place = 0; step = 0 })).step

-- where the place stands in the list, this step or a later one took it out
abbrev pub IsOutFrom : ℕ → List Retired → ℕ → Type 0
IsOutFrom step gone place = (i : ℕ) → i < length gone → place_of_idle gone i ≡ place → step ≤ step_of_idle gone i

-- the same of a node and of a tree: it is there, or was taken out by this step or a later one
pub record IsNodeOutFrom (step : ℕ) (gone : RetiredPlaces) (k : ℕ) : Type 0 where
  pub border : IsOutFrom step gone.borders k
  pub interior : IsOutFrom step gone.interiors k

abbrev pub IsTreeOutFrom : ℕ → RetiredPlaces → ℕ → Type 0
IsTreeOutFrom step gone t = IsOutFrom step gone.trees t

-- the node names the other one to its readers: as the next one, or as a child
abbrev pub NamesNode : NodeView → ℕ → Type 0
NamesNode n k = (n.next ≡ Some k) ⊎ ((i : ℕ) × (i < length n.children) × (slice_index n.children i ≡ k))

-- what the places of this list name is there, or was taken out no earlier than they
abbrev pub NameLater : List NodeView → RetiredPlaces → List Retired → Type 0
NameLater nodes gone list = (i k : ℕ) → i < length list → NamesNode (node_at nodes (place_of_idle list i)) k → IsNodeOutFrom (step_of_idle list i) gone k

-- so is what all nodes and trees name that were taken out: their next nodes, children and roots
pub record IsNamedLate (nodes : List NodeView) (trees : List Tree) (gone : RetiredPlaces) : Type 0 where
  pub of_borders : NameLater nodes gone gone.borders
  pub of_interiors : NameLater nodes gone gone.interiors
  pub of_trees : (i : ℕ) → i < length gone.trees → IsNodeOutFrom (step_of_idle gone.trees i) gone (tree_at trees (place_of_idle gone.trees i)).root

-- the steps of a list rise, up to this one
pub record RisesUpTo (step : ℕ) (gone : List Retired) : Type 0 where
  pub rises : (i j : ℕ) → i < j → j < length gone → step_of_idle gone i ≤ step_of_idle gone j
  pub upto : (i : ℕ) → i < length gone → step_of_idle gone i ≤ step

-- so do those of all lists
pub record AreOutUpTo (step : ℕ) (gone : RetiredPlaces) : Type 0 where
  pub borders : RisesUpTo step gone.borders
  pub interiors : RisesUpTo step gone.interiors
  pub trees : RisesUpTo step gone.trees

-- a live node without slots and children, which nobody holds and which names nobody
pub record IsBlank (n : NodeView) : Type 0 where
  pub live : n.version.deleted ≡ false
  pub free : n.holder ≡ None
  pub slots : n.slots ≡ []
  pub children : n.children ≡ []
  pub next : n.next ≡ None
  pub previous : n.previous ≡ None
  pub parent : n.parent ≡ None

-- a blank node in the place of one that was taken out, which nobody held
pub record IsGiven (n m : NodeView) : Type 0 where
  pub out : n.version.deleted ≡ true
  pub free : n.holder ≡ None
  pub blank : IsBlank m
  pub ages : AgesOn n.version m.version

-- between two arenas some places were given out: blank nodes stand there, and other trees in the place of dead ones; all else is as it was
pub record GivesOut (old new : ArenaView) : Type 0 where
  pub count : length new.nodes ≡ length old.nodes
  pub tree_count : length new.trees ≡ length old.trees
  pub nodes : (k : ℕ) → k < length old.nodes → (at new k ≡ at old k) ⊎ IsGiven (at old k) (at new k)
  pub trees : (t : ℕ) → t < length old.trees → (tree_at new.trees t ≡ tree_at old.trees t) ⊎ ((tree_at old.trees t).standing ≡ Dead)

-- the place stands in the list, and this step or an earlier one took it out
pub record IsOutBy (step : ℕ) (gone : List Retired) (place : ℕ) : Type 0 where
  pub index : ℕ
  pub within : index < length gone
  pub place_is : place_of_idle gone index ≡ place
  pub upto : step_of_idle gone index ≤ step

-- the place of a node is idle so
abbrev pub IsNodeOutBy : ℕ → RetiredPlaces → ℕ → Type 0
IsNodeOutBy step gone k = IsOutBy step gone.borders k ⊎ IsOutBy step gone.interiors k

-- nobody holds a node that this step or an earlier one took out, and its version has room for one split more
abbrev pub AreForgotten : ℕ → ArenaView → Type 0
AreForgotten step v = (k : ℕ) → IsNodeOutBy step v.retired k → (at v k).holder ≡ None

abbrev pub MayRenew : ℕ → ArenaView → Type 0
MayRenew step v = (k : ℕ) → IsNodeOutBy step v.retired k → CanRenew (at v k).version

-- what a step of an operation that may give places out leaves to all others. First blank nodes and other trees come into places that step `least` or an
-- earlier one took out, and no node comes into a tree that another operation makes. From there on it is a step as any other
pub record StepsFrom (least op : ℕ) (old new : ArenaView) : Type 0 where
  pub mid : ArenaView
  pub gives : GivesOut old mid
  pub nodes_out : (k : ℕ) → (at mid k ≡ at old k) ⊎ IsNodeOutBy least old.retired k
  pub trees_out : (t : ℕ) → (tree_at mid.trees t ≡ tree_at old.trees t) ⊎ IsOutBy least old.retired.trees t
  pub into : (k q : ℕ) → k < length old.nodes → IsGiven (at old k) (at mid k) → (tree_at old.trees (at mid k).tree).standing ≡ Made q → q ≡ op
  pub contents : content_of mid ≡ content_of old
  pub step : Guarantee op mid new

-- operation o is none of those that it concerns: the tree of each node that it holds is as it was
pub record GivesOutBeside (o : ℕ) (old new : ArenaView) : Type 0 where
  pub gives : GivesOut old new
  pub trees : (k : ℕ) → k < length old.nodes → (at old k).holder ≡ Some o → tree_at new.trees (at old k).tree ≡ tree_at old.trees (at old k).tree
