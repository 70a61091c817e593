-- A turn of all logs, whole or stopped, by its parts in their order.
use Rattle.std.specs.Prelude.{◌≡◌, ◌⊎◌, ℕ, Bool, List, Result, Ok, Err}
use Rattle.mt_disk.specs.Disk.{DiskState}
use Rattle.mt_book.specs.Periods.{Period}
use Rattle.mt_slots.specs.declared.store_slots.StoreSlots.{StoreSlots}
use Rattle.mt_settle.specs.Turns.{Turn}
use Rattle.mt_stored.specs.{Checkpoints.Scanner, Digests.DigestCall, TurnParts.{Begins, StopsBeginning, WritesSlot, StopsSlot, TellsEnd}}
use Rattle.mt_stored.specs.declared.turns.TurnStop.{TurnStop}

-- what a turn of all logs is made over: the logs, the desk with its pass, the slots, and who keeps digests of them
pub record Parts (K S D G : Type 0) : Type 0 where
  pub logs : K
  pub desk : Scanner S
  pub slots : StoreSlots D
  pub digests : G

abbrev pub parts : {K S D G : Type 0} → K → Scanner S → StoreSlots D → G → Parts K S D G
parts logs desk slots digests = record { logs = logs; desk = desk; slots = slots; digests = digests }

module _ {K S D G : Type 0} (turns : K → Turn → K → Type 0) (does : S → Period → S → Type 0) (worker : ℕ) (is_honest : D → Bool) (state : D → DiskState) (failures : D → ℕ) (calls : G → DigestCall → G → Type 0) (count generation : ℕ) (tenants : List ℕ) where
  -- All logs went to the generation before the first scan of the checkpoint. That was written, and then this was told of the turn's end. What is owed is where
  -- the checkpoint ends.
  pub record WritesAnd (told : Result (Unit {0}) TurnStop) (old new : Parts K S D G) : Type 0 where
    pub closed : ℕ
    pub begun : K
    pub before : G
    pub begins : Begins turns calls count generation closed old.logs old.digests begun before
    pub kept : G
    pub writes : WritesSlot does worker is_honest state failures calls tenants old.desk old.slots before new.desk new.slots kept
    pub ends : TellsEnd turns calls count new.slots.owed closed begun kept new.logs new.digests told

  -- a whole turn
  abbrev pub WritesTurn : Parts K S D G → Parts K S D G → Type 0
  WritesTurn old new = WritesAnd (Ok tt) old new

  -- not all logs went to the generation, and the desk and the slots are as they were
  pub record StopsBefore (stop : TurnStop) (old new : Parts K S D G) : Type 0 where
    pub stops : StopsBeginning turns calls count generation stop old.logs old.digests new.logs new.digests
    pub same : new ≡ record old { logs = new.logs; digests = new.digests }

  -- all did, and the checkpoint was not written, or has no digest
  pub record StopsWriting (stop : TurnStop) (old new : Parts K S D G) : Type 0 where
    pub closed : ℕ
    pub before : G
    pub begins : Begins turns calls count generation closed old.logs old.digests new.logs before
    pub stops : StopsSlot does worker is_honest state failures calls tenants stop old.desk old.slots before new.desk new.slots new.digests

  -- The turn is not whole. Not all logs went to the generation; or the checkpoint was not written, or has no digest; or the turn did not end.
  abbrev pub StopsTurn : TurnStop → Parts K S D G → Parts K S D G → Type 0
  StopsTurn stop old new = StopsBefore stop old new ⊎ (StopsWriting stop old new ⊎ WritesAnd (Err stop) old new)
