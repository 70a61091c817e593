-- Which nodes and trees a scan remembers at its phase: those of which something is kept.
use Rattle.std.specs.Prelude.{◌≡◌, ℕ, ◌⊎◌, false, length, Some}
use Rattle.mt_arena.specs.{declared.tree.Standing.TheVariants.Live, Forests.tree_at, Arena.ArenaView, Accesses.at, Given.NamesNode}
use Rattle.mt_operation.specs.{declared.phase.Phase.Phase, declared.phase.Phase.TheVariants.{Check, Hop, Done}, declared.walk.Walk.Walk, declared.scan.Stop.Stop}
use Rattle.mt_descent.specs.Remembered as walks
use Rattle.mt_operation.specs.declared.scan.Stop.TheVariants as stops

-- the next node, if the stretch ends with the node
abbrev pub IsNextAfter : Walk → Stop → ℕ → Type 0
IsNextAfter w (stops.Next slice) k = w.next ≡ Some k
IsNextAfter w _ k = ⊥

-- the tree of the link, if the stretch ends at one
abbrev pub IsLinkAfter : Stop → ℕ → Type 0
IsLinkAfter (stops.Link slice tree) t = t ≡ tree
IsLinkAfter _ t = ⊥

-- the tree in which Hop goes on: the link's, or the walk's, in which the next node is
abbrev pub IsTreeAfter : Walk → Stop → ℕ → Type 0
IsTreeAfter w (stops.Link slice tree) t = t ≡ tree
IsTreeAfter w (stops.Next slice) t = t ≡ w.place.tree
IsTreeAfter w _ t = ⊥

-- The nodes: at Check its own one and the next one, at Hop the next one alone. At all other phases they are those of its walk.
abbrev pub RemembersNode : Phase → Walk → Stop → ℕ → Type 0
RemembersNode Check w stop k = (k ≡ w.place.node) ⊎ IsNextAfter w stop k
RemembersNode Hop w stop k = IsNextAfter w stop k
RemembersNode phase w stop k = walks.RemembersNode phase w k

-- The trees: at Check its own one and the link's, at Hop the one in which it goes on. At all other phases it is its own one, and none at the end.
abbrev pub RemembersTree : Phase → Walk → Stop → ℕ → Type 0
RemembersTree Check w stop t = (t ≡ w.place.tree) ⊎ IsLinkAfter stop t
RemembersTree Hop w stop t = IsTreeAfter w stop t
RemembersTree Done w stop t = ⊥
RemembersTree _ w stop t = t ≡ w.place.tree

-- other nodes and trees may have come in the places of some: none that the scan remembers
pub record IsGivenElsewhere (old new : ArenaView) (phase : Phase) (w : Walk) (stop : Stop) : Type 0 where
  pub count : length new.nodes ≡ length old.nodes
  pub tree_count : length new.trees ≡ length old.trees
  pub nodes : (k : ℕ) → RemembersNode phase w stop k → at new k ≡ at old k
  pub trees : (t : ℕ) → RemembersTree phase w stop t → tree_at new.trees t ≡ tree_at old.trees t

-- what a look may come to remember: what is live, what the scan remembers, and what a node names that it remembers
abbrev pub MayLearnNode : ArenaView → Walk → Stop → ℕ → Type 0
MayLearnNode v w stop k =
    ((at v k).version.deleted ≡ false) ⊎ RemembersNode w.phase w stop k ⊎ ((from : ℕ) × RemembersNode w.phase w stop from × NamesNode (at v from) k)

abbrev pub MayLearnTree : ArenaView → Walk → Stop → ℕ → Type 0
MayLearnTree v w stop t = ((tree_at v.trees t).standing ≡ Live) ⊎ RemembersTree w.phase w stop t

-- the scan has come to remember nothing else
pub record Learns (v : ArenaView) (before after : Walk) (was is : Stop) : Type 0 where
  pub nodes : (k : ℕ) → RemembersNode after.phase after is k → MayLearnNode v before was k
  pub trees : (t : ℕ) → RemembersTree after.phase after is t → MayLearnTree v before was t
