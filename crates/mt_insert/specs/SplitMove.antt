-- SplitMove: the quota is judged, and the keys of the full border node are parted among the halves.
use Rattle.std.specs.{Prelude.{Bool, None, Option, Some, false, true, ℕ, ◌≡◌}, FinMap.get, Option.option_map}
use Rattle.mt_rows.specs.{Accounts.{Accounts, HasRoom, OthersStay, account_of, one_more}, Rows.Columns}
use Rattle.mt_border.specs.{Contents.owned, Entries.with_entry}
use Rattle.mt_tape.specs.Tapes.{Kept}
use Rattle.mt_arena.specs.{Several.AreHalved, Arena.{ArenaView, Guarantee, content_of}, Accesses.at}
use Rattle.mt_operation.specs.{declared.phase.Phase.TheVariants.{LockParent, SplitPrev}, declared.phase.Phase.Phase, declared.splits.Splits.Splits}
use Rattle.mt_operation.specs.{declared.task.Task.Task, declared.walk.Walk.Walk, Tasks.ask}
use Rattle.mt_descent.specs.WalkMoves.{Continues}
use Rattle.mt_insert.specs.{KeptSplits.{HoldsSplits, KeptSplit, last_of}, Placing.{Places, entry_of}, Puts.MeetsStamp}
use Rattle.mt_held.specs.{Taping.released, Moves.walk_at}

-- a node behind the halves still names the left one; where there is none, the parent comes next
abbrev pub after_parting : Option ℕ → Phase
after_parting None = LockParent
after_parting (Some behind) = SplitPrev

-- the keys were parted by a put that may be placed where no row stands: what is kept of the halves, which the operation holds alone
pub record PartsKeys (op : ℕ) (task : Task) (old new : ArenaView) (before after : Walk) (s : Splits) : Type 0 where
  pub missing : get (content_of old) (owned task.key) ≡ None
  pub met : MeetsStamp (ask task) 0
  pub nodes_alone : new ≡ record old { nodes = new.nodes }
  pub walk : after ≡ walk_at (after_parting (at old before.place.node).next) before
  pub same : Continues before after
  pub guarantee : Guarantee op old new
  pub kept : KeptSplit after.phase new op s
  pub holds : HoldsSplits old op s → HoldsSplits new op s

-- with the new pair among them, placed by the step of this number: it is counted, and its write is on the tape
pub record IsSplitMove (op step : ℕ) (task : Task) (row : Columns) (old new : ArenaView) (tape taped : Kept) (accounts counted : Accounts) (before after : Walk) (s : Splits) : Type 0 where
  pub parts : PartsKeys op task old new before after s
  pub room : HasRoom (account_of accounts task.tenant)
  pub more : account_of counted task.tenant ≡ option_map one_more (account_of accounts task.tenant)
  pub others : OthersStay accounts counted task.tenant
  pub is : AreHalved (with_entry (at old before.place.node).slots (entry_of task.key before.layer row step)) old.nodes new.nodes before.place.node (last_of s).right
  pub places : Places task step old new tape taped

-- without it, where the quota has no room: the room on the tape is given back
pub record IsSplitMoveFull (op : ℕ) (task : Task) (old new : ArenaView) (tape taped : Kept) (accounts counted : Accounts) (before after : Walk) (s : Splits) : Type 0 where
  pub parts : PartsKeys op task old new before after s
  pub full : ¬ HasRoom (account_of accounts task.tenant)
  pub is : AreHalved (at old before.place.node).slots old.nodes new.nodes before.place.node (last_of s).right
  pub contents : content_of new ≡ content_of old
  pub uncounted : counted ≡ accounts
  pub tape_is : taped ≡ released tape

-- by what it tells: whether there was room
abbrev pub TellsSplitMoved : Bool → ℕ → ℕ → Task → Columns → ArenaView → ArenaView → Kept → Kept → Accounts → Accounts → Walk → Walk → Splits → Type 0
TellsSplitMoved true op step task row old new tape taped accounts counted before after s =
    IsSplitMove op step task row old new tape taped accounts counted before after s
TellsSplitMoved false op step task row old new tape taped accounts counted before after s =
    IsSplitMoveFull op task old new tape taped accounts counted before after s
