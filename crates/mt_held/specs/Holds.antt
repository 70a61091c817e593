-- What an operation keeps that holds its border node, and what it may do with a node that it holds.
use Rattle.std.specs.Prelude.{◌≡◌, ℕ, ◌<◌, Bool, true, false, length, Some}
use Rattle.mt_version.specs.{Parts.Parts, Changes.IsStable}
use Rattle.mt_rows.specs.Rows.{Bytes}
use Rattle.mt_arena.specs.{Settled.IsSettled, Arena.ArenaView, Accesses.{at, IsHeld, IsOpen}}
use Rattle.mt_operation.specs.declared.walk.Walk.{Walk}
use Rattle.mt_descent.specs.{KeptWalks.IsAtBorder, Seen.RangeStands}

-- the version is unmarked, or marked at most for readers of keys
abbrev pub IsStillBut : Bool → Parts → Type 0
IsStillBut false p = IsStable p
IsStillBut true p = p.splitting ≡ false

-- the operation holds the border node, with the range that was seen; the node is unmarked, or may be marked for readers of its keys
pub record HoldsNode (marked : Bool) (v : ArenaView) (op : ℕ) (key : Bytes) (w : Walk) : Type 0 where
  pub at_border : IsAtBorder v key w
  pub held : IsHeld v w.place.node op
  pub still : IsStillBut marked (at v w.place.node).version
  pub stands : RangeStands (at v w.place.node) w.place.seen

-- it does, and nothing lags behind the node
pub record HoldsBy (marked : Bool) (v : ArenaView) (op : ℕ) (key : Bytes) (w : Walk) : Type 0 where
  pub judged : HoldsNode marked v op key w
  pub settled : IsSettled v.nodes w.place.node (at v w.place.node)

-- at Judge, and until it writes into the node: the operation holds the border node as its lock was taken
abbrev pub HoldsBorder : ArenaView → ℕ → Bytes → Walk → Type 0
HoldsBorder v op key w = HoldsBy false v op key w

-- at Unlock: the operation holds the node, nobody else is making its tree, and nothing lags behind it
pub record IsAtUnlock (v : ArenaView) (op : ℕ) (w : Walk) : Type 0 where
  pub held : IsHeld v w.place.node op
  pub tree_there : (at v w.place.node).tree < length v.trees
  pub mine : IsOpen v w.place.node op
  pub settled : IsSettled v.nodes w.place.node (at v w.place.node)

-- the operation holds no other node than this one
abbrev pub HoldsOnly : ArenaView → ℕ → ℕ → Type 0
HoldsOnly v op k = (j : ℕ) → j < length v.nodes → (at v j).holder ≡ Some op → j ≡ k

-- the operation may give the node back: it holds it, nobody else is making its tree, and nothing lags behind it
pub record MayReturn (v : ArenaView) (op level k : ℕ) : Type 0 where
  pub held : IsHeld v k op
  pub level_is : (at v k).level ≡ level
  pub tree_there : (at v k).tree < length v.trees
  pub mine : IsOpen v k op
  pub settled : IsSettled v.nodes k (at v k)
