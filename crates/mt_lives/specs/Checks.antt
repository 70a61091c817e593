-- The slots of a store as it runs, and the walk whose checkpoint is written in one of them.
use Rattle.std.specs.{Prelude.{◌≡◌, ◌⊎◌, ℕ, ◌<◌, ◌≤◌, true, List, [], ◌++◌, map, length, Option, Some, None, Result, Ok, Err, Vec, slice_get}, List.All, declared.alloc.Global.Global}
use Rattle.mt_rows.specs.{Accounts.{Accounts, numbers_of}, declared.command.Command.TheVariants.Scan, declared.record.TenantPair.TenantPair}
use Rattle.mt_disk.specs.{declared.mem.MemDisk.MemDisk, Mem.mem_state}
use Rattle.mt_rows.specs.{declared.reply.Reply.Reply, declared.reply.Reply.TheVariants.Pairs}
use Rattle.mt_runs.specs.{Runs.owner, declared.event.Told.Told, declared.event.Told.TheVariants.{Begun, Moved, Again, NoMemory, Spent, Done}}
use Rattle.mt_checkpoint.specs.Checkpoints.{IsPair}
use Rattle.mt_crashes.specs.{Histories.Placed, Walks.Page, SlotDisks.slot_now, Stores.SlotNow}
use Rattle.mt_slots.specs.{Places.{in_order, given_up}, Keeps.{Mays, KeepsSlots, KeepsWriting}, Calls.GivesUpIn, declared.store_slots.StoreSlots.StoreSlots}
use Rattle.mt_slots.specs.declared.checkpointing.Checkpointing.{Checkpointing}
use Rattle.mt_pages.specs.{declared.walk.PageWalk.PageWalk, Pages.TakesAt, Walked.Finds}
use Rattle.mt_lives.specs.{declared.live_slots.LiveSlots.LiveSlots, declared.live_slots.LiveSlots.TheVariants.{Rest, Turns, Writes, Away}}
use Rattle.mt_lives.specs.{declared.live_slots.Check.Check, declared.live_slots.CheckStage.CheckStage}
use Rattle.mt_lives.specs.declared.live_slots.CheckStage.TheVariants.{Scans, Adds}
use Rattle.mt_lives.specs.Lives.{Life, Past, story_in}

-- the slots as they stand, after a turn that was made has ended, with the checkpoint that was being written
abbrev pub at_rest : LiveSlots → LiveSlots
at_rest (Rest slots) = Rest slots
at_rest (Turns turn) = Rest turn.slots
at_rest (Writes check) = Rest (given_up check.writing)
at_rest Away = Away

-- after how many steps a walk began
abbrev pub first_of : Check → ℕ
first_of check = check.writing.writer.first

-- what its pages showed and its checkpoint doesn't have yet
abbrev pub pending : CheckStage → List TenantPair
pending (Adds pairs) = pairs.items
pending stage = []

-- a checkpoint of this slot, walk and stage
abbrev pub check_with : Checkpointing MemDisk → PageWalk → CheckStage → Check
check_with writing walk stage = record { writing = writing; walk = walk; stage = stage }

-- the checkpoint was given up, and its slot was cut, or that failed
abbrev pub IsGivenUp : Checkpointing MemDisk → LiveSlots → Type 0
IsGivenUp writing slots = (left : StoreSlots MemDisk) × (slots ≡ Rest left) × GivesUpIn (λ (d : MemDisk). true) mem_state (λ d. d.failures) writing left

-- What comes after a scan was begun by a name. If it was not, the checkpoint is given up.
abbrev pub AfterBegin : Checkpointing MemDisk → PageWalk → ℕ → Told → LiveSlots → Type 0
AfterBegin writing walk name Begun slots = slots ≡ Writes (check_with writing walk (Scans name))
AfterBegin writing walk name told slots = IsGivenUp writing slots

-- the walk has taken a page, and its pairs are to be added
pub record TakesPage (writing : Checkpointing MemDisk) (walk : PageWalk) (page : Page) (slots : LiveSlots) : Type 0 where
  pub next : PageWalk
  pub pairs : Vec TenantPair Global
  pub takes : TakesAt (slice_get walk.tenants.items walk.place) page walk next pairs.items
  pub limits : All IsPair pairs.items
  pub stands : slots ≡ Writes (check_with writing next (Adds pairs))

-- What comes after the scan's reply. If it shows no pairs, or memory is refused, the checkpoint is given up.
abbrev pub AfterReply : Checkpointing MemDisk → PageWalk → Reply → LiveSlots → Type 0
AfterReply writing walk (Pairs page) slots = TakesPage writing walk page slots ⊎ IsGivenUp writing slots
AfterReply writing walk reply slots = IsGivenUp writing slots

-- What comes after a step of the scan of a name. It stays open, or it is done, or it is gone.
abbrev pub AfterStep : Checkpointing MemDisk → PageWalk → ℕ → Told → LiveSlots → Type 0
AfterStep writing walk name (Done answer) slots = AfterReply writing walk answer.reply slots
AfterStep writing walk name Moved slots = slots ≡ Writes (check_with writing walk (Scans name))
AfterStep writing walk name (Again other) slots = slots ≡ Writes (check_with writing walk (Scans name))
AfterStep writing walk name NoMemory slots = slots ≡ Writes (check_with writing walk (Scans name))
AfterStep writing walk name Spent slots = slots ≡ Writes (check_with writing walk (Scans name))
AfterStep writing walk name told slots = IsGivenUp writing slots

-- An operation of a life is the scan that a walk makes next, and has made its steps since the walk began.
pub record IsScanIn (life : Life) (first : ℕ) (walk : PageWalk) (name : ℕ) : Type 0 where
  pub tenant : ℕ
  pub there : slice_get walk.tenants.items walk.place ≡ Some tenant
  pub asked_so : (story_in life).asked name ≡ Some (record { tenant = tenant; command = Scan walk.from walk.after 64 [] })
  pub since : (m : ℕ) → owner (story_in life) m ≡ Some name → first < m

-- a walk's open scan is such an operation
abbrev pub HasScan : Life → ℕ → PageWalk → CheckStage → Type 0
HasScan life first walk (Scans name) = IsScanIn life first walk name
HasScan life first walk stage = Unit {0}

-- where a life is served
abbrev pub HasScanNow : Result Life Past → ℕ → PageWalk → CheckStage → Type 0
HasScanNow (Ok life) first walk stage = HasScan life first walk stage
HasScanNow (Err past) first walk stage = ⊥

-- Slots at rest stand as a store tells: a crash leaves of each what it may have.
pub record SlotsStand (now : List SlotNow) (slots : StoreSlots MemDisk) : Type 0 where
  pub mays : Mays
  pub shown : now ≡ map slot_now (in_order mays)
  pub keeps : KeepsSlots (λ (d : MemDisk). true) mem_state (λ d. d.failures) mays slots

-- And so do those of which one is written, by a walk over all tenants. The slot has the pairs that the walk has found, but for those that are pending. There
-- are tenants, and a scan of any made a step. So once the walk is through, the checkpoint's two numbers differ.
pub record CheckStands (accounts : Accounts) (now : Result Life Past) (shown : List SlotNow) (history : List Placed) (steps : ℕ) (check : Check) : Type 0 where
  pub mays : Mays
  pub shown_so : shown ≡ map slot_now (in_order mays)
  pub pairs : List TenantPair
  pub keeps : KeepsWriting (λ (d : MemDisk). true) mem_state (λ d. d.failures) mays (first_of check) pairs check.writing
  pub found : Finds history (first_of check) steps check.walk (pairs ++ pending check.stage)
  pub all : check.walk.tenants.items ≡ numbers_of accounts
  pub some : 0 < length (numbers_of accounts)
  pub moved : (check.walk.place ≡ 0) ⊎ (first_of check < steps)
  pub scan : HasScanNow now (first_of check) check.walk check.stage

-- a turn is made, which began by so many steps
abbrev pub BeganBy : Option ℕ → ℕ → Type 0
BeganBy None n = ⊥
BeganBy (Some begun) n = begun ≤ n

-- the slots stand, in a turn or in none
abbrev pub LiveSlotsStand : Accounts → Option ℕ → Result Life Past → List SlotNow → List Placed → ℕ → LiveSlots → Type 0
LiveSlotsStand accounts check now shown history steps (Rest slots) = (check ≡ None) × SlotsStand shown slots
LiveSlotsStand accounts check now shown history steps (Turns turn) = BeganBy check steps × (0 < length (numbers_of accounts)) × SlotsStand shown turn.slots
LiveSlotsStand accounts check now shown history steps (Writes c) = BeganBy check (first_of c) × CheckStands accounts now shown history steps c
LiveSlotsStand accounts check now shown history steps Away = ⊥
