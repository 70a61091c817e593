-- How many steps an operation makes at most on its way to its border node, also where it was disturbed before: the budget of a way, and what a walk has made of it.
use Rattle.std.specs.Prelude.{◌≡◌, ℕ, ◌+◌, ◌*◌, ◌<◌, ◌≤◌, ◌⊎◌, if◌then◌else◌, nat_lt, min, List, [], ◌∷◌, length, false}
use Rattle.mt_arena.specs.{NodeView.{NodeView, place_at}, Arena.{ArenaView, one_if_live}, Accesses.at, Forests.tree_at, declared.tree.Standing.TheVariants.Live}
use Rattle.mt_operation.specs.declared.phase.Phase.{Phase}
use Rattle.mt_operation.specs.declared.phase.Phase.TheVariants.{Enter, Pick, Child, Verify, Search, Load, Confirm, Forward, Lock, Snap}
use Rattle.mt_operation.specs.{declared.walk.Walk.Walk, declared.splits.Halves.Halves, declared.splits.Splits.Splits}
use Rattle.mt_insert.specs.KeptSplits.{last_of}
use Rattle.mt_operation.specs.declared.walk.Taken.TheVariants as takens

-- every live node stands on a level below this one
abbrev pub AreBelow : ArenaView → ℕ → Type 0
AreBelow v height = (k : ℕ) → k < length v.nodes → (at v k).version.deleted ≡ false → (at v k).level < height

-- the version that the walk remembers is the one that its node has now, and so for the child that it has picked
abbrev pub SeesNow : ArenaView → Walk → Type 0
SeesNow v w = w.place.seen ≡ (at v w.place.node).version

abbrev pub SeesChild : ArenaView → Walk → Type 0
SeesChild v w = w.child_seen ≡ (at v w.child).version

-- how many live nodes begin behind this fence
abbrev pub one_if_behind : ℕ → NodeView → ℕ
one_if_behind low n = if nat_lt low n.low then one_if_live n else 0

abbrev pub behind_count : List NodeView → ℕ → ℕ
behind_count [] low = 0
behind_count (n ∷ nodes) low = one_if_behind low n + behind_count nodes low

-- and behind where node k does: to so many a walk may go on from there
abbrev pub behind : ArenaView → ℕ → ℕ
behind v k = behind_count v.nodes (at v k).low

-- how many steps an operation makes at most, among so many nodes, till it has found its way again: one for each node behind its own, and a few more
abbrev pub astray : ℕ → ℕ
astray height = height + 16

-- the level of the walk's node, and that of the last split
abbrev pub level_of : ArenaView → Walk → ℕ
level_of v w = (at v w.place.node).level

abbrev pub split_level : ArenaView → Splits → ℕ
split_level v s = (at v (last_of s).left).level

-- how many steps an operation makes at most till it comes to its layer, in trees below this height: those in which it finds its way again; and for each of
-- the layers above, which are 31 at most, three a level on its way down, and twelve more where it finds a link or makes one
abbrev pub above : ℕ → Walk → ℕ
above height w = astray height + min w.layer 31 * (3 * height + 12)

-- how many it makes in its own before it gives its locks back: twenty more a level on its way up, where nodes are split
abbrev pub before_unlock : List Halves → ℕ → ℕ
before_unlock [] height = 3 * height + 7
before_unlock (_ ∷ _) height = 23 * height + 7

-- the tree is live, and so is that of a link that the walk took
abbrev pub IsLiveTree : ArenaView → ℕ → Type 0
IsLiveTree v t = (tree_at v.trees t).standing ≡ Live

abbrev pub TookLiveTree : ArenaView → Walk → Type 0
TookLiveTree v w = (t : ℕ) → w.taken ≡ takens.Link t → IsLiveTree v t

-- How many steps an operation makes at most on its way: till it has found its way again, and till it begins in a layer; and so many levels a tree has that it
-- goes down.
pub record Budget : Type 0 where
  pub lost : ℕ
  pub enters : ℕ → ℕ
  pub tall : ℕ → ℕ

-- and till it comes to a node of the lowest level in its tree
abbrev pub until : Budget → Walk → ℕ
until b w = b.enters w.layer + 3 * b.tall w.place.tree

-- What holds of a way with these bounds: whoever has found its way again is within them, wherever it stands, and so is a walk at the root of its tree.
pub record IsBudget (v : ArenaView) (b : Budget) : Type 0 where
  pub begins : (layer : ℕ) → b.lost ≤ b.enters layer
  pub under : (k : ℕ) → k < length v.nodes → (at v k).version.deleted ≡ false → (layer t : ℕ) → b.lost + 3 * (at v k).level ≤ b.enters layer + 3 * b.tall t
  pub roots : (t : ℕ) → t < length v.trees → IsLiveTree v t → (at v (tree_at v.trees t).root).level < b.tall t

-- the slot that the walk has found is live still
abbrev pub SeesSlot : ArenaView → Walk → Type 0
SeesSlot v w = place_at (at v w.place.node) w.slot < length (at v w.place.node).slots

-- How many steps an operation has made at most that comes to this phase on its way. A walk that compares a version remembers that of now, and one that begins
-- anew is in a live tree; or it is still finding its way: back to the top, down to the child that it picked, or from one border node to the next.
abbrev pub WalksBy : Phase → Budget → ℕ → ArenaView → Walk → Type 0
WalksBy Enter b made v w = (IsLiveTree v w.place.tree × (made ≤ b.enters w.layer)) ⊎ (made + 1 ≤ b.lost)
WalksBy Pick b made v w = (SeesNow v w × (made + 3 * level_of v w ≤ until b w)) ⊎ (made + 4 ≤ b.lost)
WalksBy Child b made v w = (SeesNow v w × (made + 3 * level_of v w ≤ until b w + 1)) ⊎ (made + 3 ≤ b.lost)
WalksBy Verify b made v w = (SeesNow v w × SeesChild v w × (made + 3 * level_of v w ≤ until b w + 2)) ⊎ (SeesChild v w × (made + 2 ≤ b.lost)) ⊎ (made + (6 + behind v w.child) ≤ b.lost)
WalksBy Search b made v w = (SeesNow v w × (made ≤ until b w)) ⊎ (made + (5 + behind v w.place.node) ≤ b.lost)
WalksBy Snap b made v w = (SeesNow v w × (made ≤ until b w)) ⊎ (made + (5 + behind v w.place.node) ≤ b.lost)
WalksBy Load b made v w = (SeesNow v w × SeesSlot v w × (made ≤ until b w + 1)) ⊎ (made + (4 + behind v w.place.node) ≤ b.lost)
WalksBy Confirm b made v w = (SeesNow v w × TookLiveTree v w × (made ≤ until b w + 2)) ⊎ (made + (3 + behind v w.place.node) ≤ b.lost)
WalksBy Forward b made v w = (SeesNow v w × (made + (2 + behind v w.place.node) ≤ b.lost)) ⊎ (made + (6 + behind v w.place.node) ≤ b.lost)
WalksBy Lock b made v w = (SeesNow v w × (made ≤ until b w)) ⊎ (made + (3 + behind v w.place.node) ≤ b.lost)
WalksBy _ b made v w = ⊥

-- a get or a put in trees below this height
abbrev pub budget_of : ℕ → Budget
budget_of height = record { lost = astray height; enters = λ layer. astray height + min layer 31 * (3 * height + 12); tall = λ t. height }
