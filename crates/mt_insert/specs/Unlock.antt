-- Unlock: the locks are given back.
use Rattle.std.specs.Prelude.{length, ℕ, ◌≡◌}
use Rattle.mt_arena.specs.{Arena.ArenaView, Accesses.at, Edits.unlocked}
use Rattle.mt_operation.specs.{Operations.IsUnsplit, declared.splits.Splits.Splits, declared.walk.Walk.Walk}
use Rattle.mt_descent.specs.{KeptWalks.HoldsNothing, WalkMoves.KeepsPairs}
use Rattle.mt_held.specs.Moves.{walk_done}
use Rattle.mt_insert.specs.KeptSplits.{HoldsSplits, IsAmong}

-- the locks of the splits' nodes were given back, and nothing else was done
pub record Returns (old new : ArenaView) (s : Splits) : Type 0 where
  pub count : length new.nodes ≡ length old.nodes
  pub given : (k : ℕ) → IsAmong s k → at new k ≡ unlocked (at old k)
  pub others : (k : ℕ) → ¬ IsAmong s k → at new k ≡ at old k
  pub trees : new.trees ≡ old.trees
  pub retired : new.retired ≡ old.retired

-- so that it holds none, and has split nothing any more
pub record IsUnlockAll (op : ℕ) (old new : ArenaView) (before after : Walk) (s t : Splits) : Type 0 where
  pub is : Returns old new s
  pub walk : after ≡ walk_done before
  pub keeps : KeepsPairs op old new before after
  pub unsplit : IsUnsplit t
  pub nothing : HoldsSplits old op s → HoldsNothing new op
