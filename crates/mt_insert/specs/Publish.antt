-- Publish: the quota is judged, and the pair of the missing key made live.
use Rattle.std.specs.{Prelude.{Bool, None, false, true, ℕ, ◌≡◌}, FinMap.get, Option.option_map}
use Rattle.mt_rows.specs.{Accounts.{Accounts, HasRoom, OthersStay, account_of, one_more}, Rows.Columns}
use Rattle.mt_border.specs.{Contents.owned, Entry.order_of, Entries.{place_in, with_entry}}
use Rattle.mt_tape.specs.Tapes.{Kept}
use Rattle.mt_arena.specs.{Arena.{ArenaView, Guarantee, content_of}, Accesses.{at, with_node}, Edits.{with_slots, cells_with}}
use Rattle.mt_operation.specs.{declared.task.Task.Task, declared.walk.Walk.Walk, Tasks.ask}
use Rattle.mt_descent.specs.WalkMoves.{Continues}
use Rattle.mt_held.specs.{Holds.IsAtUnlock, Taping.released, Moves.walk_placed}
use Rattle.mt_insert.specs.{Placing.{Places, entry_of}, Puts.MeetsStamp}

-- The pair is live, placed by the step of this number, and counted; its write is on the tape. The put may be placed where no row stands.
pub record IsPublish (op step : ℕ) (task : Task) (row : Columns) (old new : ArenaView) (tape taped : Kept) (accounts counted : Accounts) (before after : Walk) : Type 0 where
  pub missing : get (content_of old) (owned task.key) ≡ None
  pub met : MeetsStamp (ask task) 0
  pub room : HasRoom (account_of accounts task.tenant)
  pub more : account_of counted task.tenant ≡ option_map one_more (account_of accounts task.tenant)
  pub others : OthersStay accounts counted task.tenant
  pub is : new ≡ with_node old before.place.node (with_slots (at old before.place.node) (with_entry (at old before.place.node).slots (entry_of task.key before.layer row step))
      (cells_with (at old before.place.node).cells (place_in (at old before.place.node).slots (order_of (entry_of task.key before.layer row step))) (entry_of task.key before.layer row step)))
  pub places : Places task step old new tape taped
  pub walk : after ≡ walk_placed before
  pub same : Continues before after
  pub guarantee : Guarantee op old new
  pub kept : IsAtUnlock new op after

-- The put may be placed where no row stands, but the quota has no room. Nothing changes but that the room on the tape is given back.
pub record IsPublishFull (op : ℕ) (task : Task) (old new : ArenaView) (tape taped : Kept) (accounts counted : Accounts) (before after : Walk) : Type 0 where
  pub missing : get (content_of old) (owned task.key) ≡ None
  pub met : MeetsStamp (ask task) 0
  pub full : ¬ HasRoom (account_of accounts task.tenant)
  pub stays : new ≡ old
  pub uncounted : counted ≡ accounts
  pub tape_is : taped ≡ released tape
  pub walk : after ≡ walk_placed before
  pub same : Continues before after
  pub guarantee : Guarantee op old new
  pub kept : IsAtUnlock new op after

-- by what it tells: whether there was room
abbrev pub TellsPublished : Bool → ℕ → ℕ → Task → Columns → ArenaView → ArenaView → Kept → Kept → Accounts → Accounts → Walk → Walk → Type 0
TellsPublished true op step task row old new tape taped accounts counted before after =
    IsPublish op step task row old new tape taped accounts counted before after
TellsPublished false op step task row old new tape taped accounts counted before after = IsPublishFull op task old new tape taped accounts counted before after
