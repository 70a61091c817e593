-- How far a scan has come that nobody is in the way of, also where it was disturbed before: by the trees and border nodes that lie ahead of its fence.
use Rattle.std.specs.{Prelude.{◌≡◌, ℕ, ◌+◌, ◌*◌, ◌≤◌, ◌⊎◌, if◌then◌else◌, Bool, true, false, List, [], ◌∷◌, Some}, declared.cmp.Ordering.Ordering}
use Rattle.std.specs.{declared.cmp.Ordering.TheVariants.{Less, Equal, Greater}, Ordering.{nat_cmp, is_lt}, Cmp.Lexicographic.slice_cmp}
use Rattle.mt_slices.specs.Fences.{least_from}
use Rattle.mt_rows.specs.Rows.{Bytes}
use Rattle.mt_arena.specs.{declared.tree.Tree.Tree, declared.tree.Standing.Standing, declared.tree.Standing.TheVariants.Live, NodeView.NodeView}
use Rattle.mt_arena.specs.{Forests.tree_at, Arena.{ArenaView, one_if_live, live_count}, Accesses.at}
use Rattle.mt_operation.specs.{declared.phase.Phase.Phase, declared.phase.Phase.TheVariants.{Check, Hop}, declared.walk.Walk.Walk, declared.scan.Stop.Stop}
use Rattle.mt_core.specs.Budgets.{AreBelow, SeesNow, IsLiveTree, WalksBy, astray, behind, budget_of, until}
use Rattle.mt_operation.specs.declared.scan.Stop.TheVariants as stops

-- a fence is behind all keys that begin with these bytes: at the first byte where it is another one it has the greater
abbrev pub is_behind_on : Ordering → Bool → Bool
is_behind_on Less rest = true
is_behind_on Equal rest = rest
is_behind_on Greater rest = false

abbrev pub is_behind_tree : Bytes → Bytes → Bool
is_behind_tree [] fence = false
is_behind_tree (a ∷ prefix) [] = false
is_behind_tree (a ∷ prefix) (b ∷ fence) = is_behind_on (nat_cmp a b) (is_behind_tree prefix fence)

-- how many trees are live, and how many of them a fence isn't behind
abbrev pub one_if_standing : Standing → ℕ
one_if_standing Live = 1
one_if_standing _ = 0

abbrev pub live_trees : List Tree → ℕ
live_trees [] = 0
live_trees (tree ∷ trees) = one_if_standing tree.standing + live_trees trees

abbrev pub one_if_tree : Bytes → Tree → ℕ
one_if_tree fence tree = if is_behind_tree tree.prefix fence then 0 else one_if_standing tree.standing

abbrev pub trees_ahead : List Tree → Bytes → ℕ
trees_ahead [] fence = 0
trees_ahead (tree ∷ trees) fence = one_if_tree fence tree + trees_ahead trees fence

-- the least key from which on a border node may have any, and how many live ones begin ahead of a fence
abbrev pub begin_of : List Tree → NodeView → Bytes
begin_of trees n = least_from (tree_at trees n.tree).prefix n.low

abbrev pub one_if_node : List Tree → Bytes → NodeView → ℕ
one_if_node trees fence n = if is_lt (slice_cmp nat_cmp fence (begin_of trees n)) then one_if_live n else 0

abbrev pub nodes_ahead : List Tree → List NodeView → Bytes → ℕ
nodes_ahead trees [] fence = 0
nodes_ahead trees (n ∷ nodes) fence = one_if_node trees fence n + nodes_ahead trees nodes fence

-- how many steps a scan makes at most till it has gone down all layers from the top, where no live node is as high as this
abbrev pub round_of : ℕ → ℕ
round_of height = 97 * height + 400

-- a link at which its stretch ends leads to a live tree, and a next node is live
abbrev pub LeadsOnward : ArenaView → Walk → Stop → Type 0
LeadsOnward v w (stops.Link slice tree) = IsLiveTree v tree
LeadsOnward v w (stops.Next slice) = (j : ℕ) → w.next ≡ Some j → (at v j).version.deleted ≡ false
LeadsOnward v w _ = Unit {0}

-- at Hop: into the tree of a link, to the next node, or from the top; or it is still finding its way
abbrev pub HopsBy : Stop → ℕ → ℕ → ArenaView → Walk → Type 0
HopsBy (stops.Link slice tree) height made v w = (IsLiveTree v tree × (made ≤ until (budget_of height) w + 2)) ⊎ (made + 2 ≤ astray height)
HopsBy (stops.Next slice) height made v w = (LeadsOnward v w (stops.Next slice) × (made + 1 ≤ until (budget_of height) w)) ⊎ (made + 2 ≤ astray height)
HopsBy _ height made v w = made + 2 ≤ astray height

-- how many steps of its round a scan has made at most that comes to this phase
abbrev pub ScansBy : Phase → Stop → ℕ → ℕ → ArenaView → Walk → Type 0
ScansBy Check stop height made v w =
    (SeesNow v w × LeadsOnward v w stop × (made ≤ until (budget_of height) w + 1)) ⊎ (made + (4 + behind v w.place.node) ≤ astray height)
ScansBy Hop stop height made v w = HopsBy stop height made v w
ScansBy p stop height made v w = WalksBy p (budget_of height) made v w

-- How far a scan has come whose walk is here, in a stretch that ends so, and whose fence is this, among so many live nodes and trees: each border node that it
-- goes on to by its fence takes three steps, and each tree behind which it goes on from the top a whole round; what is ahead of its fence is still to come.
pub record IsScanAt (height trees made : ℕ) (v : ArenaView) (w : Walk) (stop : Stop) (fence : Bytes) : Type 0 where
  pub live : live_count v.nodes ≤ height
  pub standing : live_trees v.trees ≤ trees
  pub below : AreBelow v height
  pub round : ℕ
  pub few : ScansBy w.phase stop height round v w
  pub spent : made + 3 * nodes_ahead v.trees v.nodes fence + round_of height * trees_ahead v.trees fence ≤ round + 3 * height + round_of height * trees
