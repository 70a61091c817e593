-- What a turner does: the turns of all logs that are due, with a checkpoint of all tenants in each, and a Settle by the clock.
use Rattle.std.specs.Prelude.{◌≡◌, ◌⊎◌, ℕ, ◌+◌, ◌-◌, ◌^◌, ◌<◌, ◌≤◌, min, Bool, List, Option, Some, Result, Ok, Err, Vec}
use Rattle.std.specs.Global.{Global}
use Rattle.mt_rows.specs.{declared.refusal.Refusal.Refusal, declared.refusal.Refusal.TheVariants.{Device, Memory}}
use Rattle.mt_disk.specs.Disk.{DiskState}
use Rattle.mt_book.specs.Periods.{Period}
use Rattle.mt_options.specs.declared.tenants.TenantQuota.{TenantQuota}
use Rattle.mt_slots.specs.declared.store_slots.StoreSlots.{StoreSlots}
use Rattle.mt_settle.specs.{Turns.Turn, Settles.Settles}
use Rattle.mt_stored.specs.{Checkpoints.{Scanner, Looks}, Digests.DigestCall, WholeTurns.{Parts, parts, WritesTurn, StopsTurn}, Checks.{IsDue, TakesDue, EndsTurn}}
use Rattle.mt_stored.specs.{declared.checks.Checks.Checks, declared.checks.DueTurn.DueTurn, declared.turns.TurnStop.TurnStop, declared.turns.TurnStop.TheVariants.Logs}
use Rattle.mt_service.specs.Accounts.{AreRising}

-- a turner between two of its deeds: its logs, its desk with its pass, whose worker it is, its digests, up to which step it has settled by the clock, and to which
-- generation its next turn goes
pub record Turning (S K G : Type 0) : Type 0 where
  pub logs : K
  pub desk : Scanner S
  pub worker : ℕ
  pub digests : G
  pub settled : ℕ
  pub next : ℕ

abbrev pub turning : {S K G : Type 0} → K → Scanner S → ℕ → G → ℕ → ℕ → Turning S K G
turning logs desk worker digests settled next = record { logs = logs; desk = desk; worker = worker; digests = digests; settled = settled; next = next }

-- to which generation the next turn goes, by what is told of one to this generation: after a whole turn to the one after it, if one is left; else to the same
abbrev pub next_after : {A B : Type 0} → ℕ → Result A B → ℕ
next_after generation (Ok left) = min (generation + 1) (2 ^ 64 - 1)
next_after generation (Err told) = generation

module _ {K : Type 0} (keeps : K → Turn → K → Type 0) (count : K → ℕ) where
  -- a number up to which all logs are settled: what is known, if that is as much as is owed; else what a Settle of all logs tells
  abbrev pub SettlesOwed : ℕ → ℕ → K → Result ℕ Refusal → K → Type 0
  SettlesOwed settled owed old told new =
      ((owed ≤ settled) × (told ≡ Ok settled) × (new ≡ old)) ⊎ ((settled < owed) × Settles keeps (count old) old new told)

  -- why a turn can't begin, by what was told of that number
  abbrev pub IsInTheWay : ℕ → Result ℕ Refusal → Refusal → Type 0
  IsInTheWay owed (Ok number) refusal = ((number < owed) × (refusal ≡ Device)) ⊎ ((owed ≤ number) × (refusal ≡ Memory))
  IsInTheWay owed (Err cause) refusal = refusal ≡ cause

  -- A turn can begin: all logs are settled up to what is owed, and these are the numbers of all tenants, which rise. Or it can't, for this refusal.
  abbrev pub TellsReady : List TenantQuota → ℕ → ℕ → K → Result (Vec ℕ Global) Refusal → K → Type 0
  TellsReady tenants settled owed old (Ok numbers) new = ((number : ℕ) × (owed ≤ number) × SettlesOwed settled owed old (Ok number) new) × AreRising tenants numbers.items
  TellsReady tenants settled owed old (Err refusal) new = (told : Result ℕ Refusal) × SettlesOwed settled owed old told new × IsInTheWay owed told refusal

-- what a Settle by the clock tells is kept in mind
abbrev pub settled_after : ℕ → Result ℕ Refusal → ℕ
settled_after settled (Ok number) = number
settled_after settled (Err refusal) = settled

module _ {S K G : Type 0} (does : S → Period → S → Type 0) (keeps : K → Turn → K → Type 0) (count : K → ℕ) where
  -- The desk showed how many steps were made. Only if there are more than were settled so far, all logs are settled.
  pub record SettlesByClock (old new : Turning S K G) : Type 0 where
    pub steps : ℕ
    pub looked : Looks does old.worker old.desk steps new.desk
    pub settles : ((steps ≤ old.settled) × (new ≡ record old { desk = new.desk }))
        ⊎ ((old.settled < steps) × ((told : Result ℕ Refusal) × Settles keeps (count old.logs) old.logs new.logs told
        × (new ≡ record old { logs = new.logs; desk = new.desk; settled = settled_after old.settled told })))

module _ {S K D G : Type 0} (does : S → Period → S → Type 0) (is_honest : D → Bool) (state : D → DiskState) (failures : D → ℕ) (keeps : K → Turn → K → Type 0) (count : K → ℕ) (calls : G → DigestCall → G → Type 0) (tenants : List TenantQuota) where
  -- it was not begun: something is in the way, and the desk and the slots are as they were
  abbrev pub BeginsNoTurn : DueTurn D → Turning S K G → TurnStop × StoreSlots D → Turning S K G → Type 0
  BeginsNoTurn due old told new =
      (told.1 ≡ due.slots) × (new ≡ record old { logs = new.logs })
      × ((refusal : Refusal) × (told.0 ≡ Logs refusal) × TellsReady keeps count tenants due.settled due.slots.owed old.logs (Err refusal) new.logs)

  -- a whole turn, or one that was begun and stopped
  abbrev pub ComesTo : ℕ → ℕ → ℕ → List ℕ → Result (StoreSlots D) (TurnStop × StoreSlots D) → (StoreSlots D → Parts K S D G) → Parts K S D G → Type 0
  ComesTo worker logs generation numbers (Ok left) new old = WritesTurn keeps does worker is_honest state failures calls logs generation numbers old (new left)
  ComesTo worker logs generation numbers (Err told) new old = StopsTurn keeps does worker is_honest state failures calls logs generation numbers told.0 old (new told.1)

  -- The turn that is due was begun, after all was settled that is owed. It went to the turner's next generation. Its checkpoint is one of all tenants, in the slots
  -- that were handed out. Its scans are of the turner's own pass.
  pub record MakesTurn (due : DueTurn D) (old : Turning S K G) (told : Result (StoreSlots D) (TurnStop × StoreSlots D)) (new : Turning S K G) : Type 0 where
    pub mid : K
    pub numbers : List ℕ
    pub number : ℕ
    pub owed : due.slots.owed ≤ number
    pub settles : SettlesOwed keeps count due.settled due.slots.owed old.logs (Ok number) mid
    pub rising : AreRising tenants numbers
    pub came : ComesTo old.worker (count mid) old.next numbers told (λ left. parts new.logs new.desk left new.digests) (parts mid old.desk due.slots old.digests)
    pub same : new ≡ record old { logs = new.logs; desk = new.desk; digests = new.digests; next = next_after old.next told }

  -- what is told of the turn that is due
  abbrev pub TellsTurn : DueTurn D → Turning S K G → Result (StoreSlots D) (TurnStop × StoreSlots D) → Turning S K G → Type 0
  TellsTurn due old (Ok left) new = MakesTurn due old (Ok left) new
  TellsTurn due old (Err told) new = BeginsNoTurn due old told new ⊎ MakesTurn due old (Err told) new

  -- the turn that is due was handed out and told of, and its slots are back
  pub record TakesAndEnds (old_checks : Checks D) (old : Turning S K G) (new_checks : Checks D) (new : Turning S K G) : Type 0 where
    pub due : DueTurn D
    pub taken : Checks D
    pub told : Result (StoreSlots D) (TurnStop × StoreSlots D)
    pub stop : Option TurnStop
    pub takes : TakesDue old_checks (Some due) taken
    pub makes : TellsTurn due old told new
    pub ends : EndsTurn told taken stop new_checks

  -- a turn that is due is made, or stopped; if none is due, nothing is done
  abbrev pub Finishes : Checks D → Turning S K G → Checks D → Turning S K G → Type 0
  Finishes old_checks old new_checks new =
      ((¬ IsDue old_checks) × (new_checks ≡ old_checks) × (new ≡ old)) ⊎ TakesAndEnds old_checks old new_checks new
