-- What a turner has done since it was made.
use Rattle.std.specs.{Prelude.{◌≡◌, ◌⊎◌, ℕ, Bool, List, Result}, List.FoldsTo}
use Rattle.mt_disk.specs.Disk.{DiskState}
use Rattle.mt_book.specs.Periods.{Period}
use Rattle.mt_options.specs.declared.tenants.TenantQuota.{TenantQuota}
use Rattle.mt_slots.specs.declared.store_slots.StoreSlots.{StoreSlots}
use Rattle.mt_settle.specs.Turns.{Turn}
use Rattle.mt_stored.specs.{declared.checks.DueTurn.DueTurn, declared.turns.TurnStop.TurnStop, Checkpoints.{Scanner, scanner}, Digests.DigestCall}
use Rattle.mt_service.specs.{declared.turners.Turner.Turner, Turning.{Turning, turning, SettlesByClock, TellsTurn}}

-- a turner between two of its deeds
abbrev pub turner_of : {L R S K G : Type 0} → Turner L R S K G → Turning S K G
turner_of t = turning t.logs (scanner t.desk t.pass.seen t.pass.share.amount) t.pass.worker t.digests t.settled t.next

-- a deed of a turner: it settled by the clock, or a turn that was due was made or stopped
pub data TurnerDeed : Type 0 where
  BySettling : TurnerDeed
  ByTurn : TurnerDeed

module _ {S K D G : Type 0} (does : S → Period → S → Type 0) (is_honest : D → Bool) (state : D → DiskState) (failures : D → ℕ) (keeps : K → Turn → K → Type 0) (count : K → ℕ) (calls : G → DigestCall → G → Type 0) (tenants : List TenantQuota) where
  abbrev pub DoesDeed : Turning S K G → TurnerDeed → Turning S K G → Type 0
  DoesDeed old BySettling new = SettlesByClock does keeps count old new
  DoesDeed old ByTurn new =
      (due : DueTurn D) × (told : Result (StoreSlots D) (TurnStop × StoreSlots D)) × TellsTurn does is_honest state failures keeps count calls tenants due old told new

  -- a turn, or nothing
  abbrev pub MayTurn : Turning S K G → Turning S K G → Type 0
  MayTurn old new = (new ≡ old) ⊎ DoesDeed old ByTurn new

  -- deeds, one after the other
  abbrev pub Works : Turning S K G → Turning S K G → Type 0
  Works old new = (deeds : List TurnerDeed) × FoldsTo DoesDeed old deeds new

  -- deeds led a turner to what is left of it: its pass, its desk and its logs
  pub record Leaves (old : Turning S K G) (desk : Scanner S) (logs : K) : Type 0 where
    pub last : Turning S K G
    pub works : Works old last
    pub desk_is : last.desk ≡ desk
    pub logs_are : last.logs ≡ logs
