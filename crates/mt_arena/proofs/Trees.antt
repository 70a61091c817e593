-- A list of trees with one more: for the calls that make a tree or change its record.
use Rattle.std.proofs.{Common.{◌≡◌, ℕ, zero, suc, ◌+◌, ◌<◌, List, [], ◌∷◌, ◌++◌, length, refl, arith}}
use Rattle.mt_arena.specs.{declared.tree.Tree.Tree}
use Rattle.mt_arena.specs.{Forests.tree_at}

-- a list of trees with one more: the last one, and those before it
pub last_tree : (ts : List Tree) (u : Tree) → tree_at (ts ++ u ∷ []) (length ts) ≡ u
last_tree [] u = refl
last_tree (t ∷ ts) u = last_tree ts u

-- and those before it
pub before_tree : (ts : List Tree) (u : Tree) (k : ℕ) → k < length ts → tree_at (ts ++ u ∷ []) k ≡ tree_at ts k
before_tree [] u k lt = absurd (omega arith)
before_tree (t ∷ ts) u zero lt = refl
before_tree (t ∷ ts) u (suc k) lt = before_tree ts u k (omega arith)
