-- The parts of a turn of all logs: they go to the generation that they tell, a checkpoint is written, all logs are settled, and the older logs are given up
-- with their digests.
use Rattle.std.specs.Prelude.{◌≡◌, ◌≢◌, ◌⊎◌, ℕ, ◌-◌, ◌<◌, ◌≤◌, Bool, List, Result, Ok, Err}
use Rattle.mt_rows.specs.{declared.refusal.Refusal.Refusal, declared.refusal.Refusal.TheVariants.{Device, LogCount}}
use Rattle.mt_disk.specs.Disk.{DiskState}
use Rattle.mt_book.specs.Periods.{Period}
use Rattle.mt_slots.specs.{declared.store_slots.StoreSlots.StoreSlots, Places.next_slot}
use Rattle.mt_settle.specs.{Turns.Turn, Next.TellsNext, Settles.{SettlesAll, Settles}, Parts.{TellsBegun, TellsGivenUp}}
use Rattle.mt_stored.specs.{Checkpoints.{Scanner, WritesCheckpoint, GivesUp}, Digests.{FileDigest, DigestCall, ClearsLogs, KeepsLogs, ClearsSlot, KeepsSlot}}
use Rattle.mt_stored.specs.{declared.turns.TurnStop.TurnStop, declared.turns.TurnStop.TheVariants.{Checkpoint, Digest, Logs}, declared.digests.Digested.TheVariants.{OfLogs, OfSlot}}

-- ---- the logs go to a generation

-- all logs told of another generation than this one, or a log told of none
abbrev pub TellsOther : {K : Type 0} → (K → Turn → K → Type 0) → ℕ → ℕ → Refusal → K → Type 0
TellsOther turns count generation refusal old =
    TellsNext turns count old (Err refusal) ⊎ ((refusal ≡ LogCount) × (other : ℕ) × TellsNext turns count old (Ok other) × (other ≢ generation))

module _ {K G : Type 0} (turns : K → Turn → K → Type 0) (calls : G → DigestCall → G → Type 0) (count generation : ℕ) where
  -- All logs told that the next turn goes to this generation. The digests of its files were cleared, and then this was done.
  pub record Clears (Then : G → Type 0) (old : K) (was : G) : Type 0 where
    pub next : TellsNext turns count old (Ok generation)
    pub cleared : G
    pub clears : calls was (ClearsLogs count generation (Ok tt)) cleared
    pub then : Then cleared

  -- all logs went to that generation, and the digests of the logs before, which are closed then, were kept
  abbrev pub Begins : ℕ → K → G → K → G → Type 0
  Begins closed old was new is =
      Clears (λ cleared. TellsBegun turns generation count old new (Ok tt) × (closed ≡ generation - 1) × calls cleared (KeepsLogs count closed (Ok tt)) is) old was

  -- the logs did not tell of this generation, and nothing was done; or not all went to it
  abbrev pub StopsAtLogs : Refusal → K → G → K → G → Type 0
  StopsAtLogs refusal old was new is =
      (TellsOther turns count generation refusal old × (new ≡ old) × (is ≡ was))
      ⊎ Clears (λ cleared. TellsBegun turns generation count old new (Err refusal) × (is ≡ cleared)) old was

  -- the digests of that generation were not cleared, and no log was touched; or all logs went to it, and those of the one before were not kept
  abbrev pub StopsAtDigests : ℕ → Refusal → K → G → K → G → Type 0
  StopsAtDigests g refusal old was new is =
      ((g ≡ generation) × TellsNext turns count old (Ok generation) × calls was (ClearsLogs count generation (Err refusal)) is × (new ≡ old))
      ⊎ Clears (λ cleared. TellsBegun turns generation count old new (Ok tt) × (g ≡ generation - 1) × calls cleared (KeepsLogs count g (Err refusal)) is) old was

  -- why not all was done
  abbrev pub StopsBeginning : TurnStop → K → G → K → G → Type 0
  StopsBeginning (Logs refusal) old was new is = StopsAtLogs refusal old was new is
  StopsBeginning (Digest (OfLogs g) refusal) old was new is = StopsAtDigests g refusal old was new is
  StopsBeginning stop old was new is = ⊥

-- ---- the checkpoint is written

module _ {S D G : Type 0} (does : S → Period → S → Type 0) (worker : ℕ) (is_honest : D → Bool) (state : D → DiskState) (failures : D → ℕ) (calls : G → DigestCall → G → Type 0) (tenants : List ℕ) where
  -- the digest of the slot that has not the newest checkpoint was cleared, and then this was done
  pub record ClearsNext (Then : G → Type 0) (slots : StoreSlots D) (was : G) : Type 0 where
    pub cleared : G
    pub clears : calls was (ClearsSlot (next_slot slots.newest) (Ok tt)) cleared
    pub then : Then cleared

  -- the checkpoint was written there, and this was told of its digest, which was to be kept
  abbrev pub WritesAndKeeps : Result (Unit {0}) Refusal → Scanner S → StoreSlots D → Scanner S → StoreSlots D → G → G → Type 0
  WritesAndKeeps told old slots new left is cleared =
      (digest : FileDigest) × WritesCheckpoint does worker is_honest state failures old tenants slots digest new left × calls cleared (KeepsSlot (next_slot slots.newest) digest told) is

  -- the checkpoint was written, and has its digest
  abbrev pub WritesSlot : Scanner S → StoreSlots D → G → Scanner S → StoreSlots D → G → Type 0
  WritesSlot old slots was new left is = ClearsNext (WritesAndKeeps (Ok tt) old slots new left is) slots was

  -- it was given up, or its digest was not cleared before it was begun, or not kept
  abbrev pub StopsSlot : TurnStop → Scanner S → StoreSlots D → G → Scanner S → StoreSlots D → G → Type 0
  StopsSlot (Checkpoint stop) old slots was new left is =
      ClearsNext (λ cleared. GivesUp does worker is_honest state failures old tenants slots stop new left × (is ≡ cleared)) slots was
  StopsSlot (Digest (OfSlot slot) refusal) old slots was new left is =
      (slot ≡ next_slot slots.newest)
      × ((calls was (ClearsSlot slot (Err refusal)) is × (new ≡ old) × (left ≡ slots)) ⊎ ClearsNext (WritesAndKeeps (Err refusal) old slots new left is) slots was)
  StopsSlot stop old slots was new left is = ⊥

-- ---- all logs are settled, and the older ones are given up

module _ {K G : Type 0} (turns : K → Turn → K → Type 0) (calls : G → DigestCall → G → Type 0) (count owed closed : ℕ) where
  -- the digests of the closed logs were cleared, and then this was told of the older logs, which were given up one after the other
  pub record ClearsAndGivesUp (told : Result (Unit {0}) Refusal) (old : K) (was : G) (new : K) (is : G) : Type 0 where
    pub clears : calls was (ClearsLogs count closed (Ok tt)) is
    pub gives : TellsGivenUp turns count old new told

  -- What is told of the older logs after a Settle of this number. Only if that is at least what is owed were their digests cleared, and they given up.
  abbrev pub TellsOlder : ℕ → K → G → K → G → Result (Unit {0}) TurnStop → Type 0
  TellsOlder number old was new is (Ok _) = (owed ≤ number) × ClearsAndGivesUp (Ok tt) old was new is
  TellsOlder number old was new is (Err (Logs refusal)) =
      ((number < owed) × (refusal ≡ Device) × (new ≡ old) × (is ≡ was)) ⊎ ((owed ≤ number) × ClearsAndGivesUp (Err refusal) old was new is)
  TellsOlder number old was new is (Err (Digest (OfLogs g) refusal)) = (owed ≤ number) × (g ≡ closed) × calls was (ClearsLogs count g (Err refusal)) is × (new ≡ old)
  TellsOlder number old was new is (Err stop) = ⊥

  -- all logs were settled, and then this was told of the older ones
  pub record SettlesAnd (told : Result (Unit {0}) TurnStop) (old : K) (was : G) (new : K) (is : G) : Type 0 where
    pub settled : K
    pub number : ℕ
    pub settles : SettlesAll turns count old settled number
    pub older : TellsOlder number settled was new is told

  -- a log was not settled
  abbrev pub SettlesNotAll : Result (Unit {0}) TurnStop → K → G → K → G → Type 0
  SettlesNotAll (Err (Logs refusal)) old was new is = Settles turns count old new (Err refusal) × (is ≡ was)
  SettlesNotAll told old was new is = ⊥

  -- A log was not settled, and none was given up. Or all logs were settled, and then the older ones were given up, or not all of them.
  abbrev pub TellsEnd : K → G → K → G → Result (Unit {0}) TurnStop → Type 0
  TellsEnd old was new is told = SettlesNotAll told old was new is ⊎ SettlesAnd told old was new is
