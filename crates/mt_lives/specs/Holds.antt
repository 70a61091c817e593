-- What ties a store as it runs to what has happened to it.
use Rattle.std.specs.Prelude.{◌≡◌, ℕ, ◌+◌, ◌<◌, ◌≤◌, min, true, List, ◌++◌, map, length, Option, Some, None, Result, Ok, Err, slice_get}
use Rattle.std.specs.{List.{All, filter}, Ordering.nat_cmp, BTreeMap.{BTreeMap, get}}
use Rattle.mt_rows.specs.{Accounts.{Accounts, account_of}, TenantPairs.{quota_in, HasTenants, KeepsQuotas}, declared.record.Batch.Batch}
use Rattle.mt_disk.specs.{declared.mem.MemDisk.MemDisk, Mem.mem_state}
use Rattle.mt_tape.specs.{declared.entry.Entry.Entry, Histories.contents_at}
use Rattle.mt_runs.specs.Placings.{Quotas}
use Rattle.mt_operation.specs.{declared.phase.Phase.TheVariants.Enter, Operations.OperationView}
use Rattle.mt_state.specs.{Views.{StateView, contents_of, op_at, granted}, Histories.{Names, AreById}}
use Rattle.mt_drains.specs.Drains.{record_of}
use Rattle.mt_core.specs.{Rights.IsRightState, Tickets.named}
use Rattle.mt_crashes.specs.Histories.{Placed, changes_of, pairs_upto}
use Rattle.mt_crashes.specs.Stores.{Store, LogNow, new_store, Leads, is_between, ReachesAt, AllReach}
use Rattle.mt_chain_files.specs.Turns.{FilesNow, AreOfTurn, ShowFiles}
use Rattle.mt_store_logs.specs.{declared.store_log.StoreLog.StoreLog, Shows.drained_upto, Ends.StandsInTurn}
use Rattle.mt_lives.specs.{declared.live_slots.LiveSlots.LiveSlots, Bases.{Whole, BeginsBy}, Turning.{Part, IsPart, Turning, part_of, StandsOnBase}, Checks.LiveSlotsStand}
use Rattle.mt_lives.specs.{declared.serving.Serving.Serving, declared.serving.Settle.Settle, Lives.{Life, Past, Standing, firsts, story_in, AreLeftOf}, Earlier.untidied, Remembers.Remembers}
use Rattle.mt_state.specs.Views as views

-- the quotas of a list of tenants
abbrev pub quotas_of : Accounts → Quotas
quotas_of accounts t = views.quota_in (account_of accounts t)

-- what may have become of a new store of so many logs
abbrev pub HasCome : ℕ → Store → Type 0
HasCome count s = (n : ℕ) × Leads n (new_store count) s

-- things happened that led from one store to another
abbrev pub LeadsTo : Store → Store → Type 0
LeadsTo s t = (n : ℕ) × Leads n s t

-- a write of the tape, as a change that its worker placed
abbrev pub placed_of : Entry → Placed
placed_of e = record { worker = e.worker; change = record_of e }

-- a batch holds a worker's changes over one step and up to another, which was made
pub record HoldsChanges (s : Store) (worker : ℕ) (b : Batch) : Type 0 where
  pub made : b.to ≤ s.steps
  pub records : b.records ≡ changes_of (filter (is_between worker b.from b.to) s.history)

abbrev pub HoldsKept : Store → ℕ → Option Batch → Type 0
HoldsKept s worker None = Unit {0}
HoldsKept s worker (Some b) = HoldsChanges s worker b

-- A worker's log stands as the store tells, in its part of a turn from a generation, and was given what the state drained.
pub record IsLogAt (g : ℕ) (part : Part) (s : Store) (given : List ℕ) (worker : ℕ) (now : LogNow) (log : StoreLog MemDisk) : Type 0 where
  pub files : FilesNow
  pub stands : StandsInTurn (λ (d : MemDisk). true) mem_state g now files log
  pub begins : IsPart g part files
  pub given_so : slice_get given worker ≡ Some (drained_upto now log.kept)
  pub kept : HoldsKept s worker log.kept

-- P of each log with what the store tells of it
abbrev pub EachLog : (ℕ → LogNow → StoreLog MemDisk → Type 0) → Store → List (StoreLog MemDisk) → Type 0
EachLog P s logs = (worker : ℕ) (now : LogNow) (log : StoreLog MemDisk) → slice_get s.logs worker ≡ Some now → slice_get logs worker ≡ Some log → P worker now log

-- a Settle has begun after so many steps, and each log before its next one goes up to its least step
pub record IsSettle (s : Store) (begun : ℕ) (settle : Settle) : Type 0 where
  pub same : settle.begun ≡ begun
  pub made : begun ≤ s.steps
  pub least : begun ≤ settle.least
  pub next : settle.next < length s.logs
  pub before : (worker : ℕ) → worker < settle.next → ReachesAt settle.least s worker

abbrev pub IsSettleIn : Store → Option ℕ → Option Settle → Type 0
IsSettleIn s None None = Unit {0}
IsSettleIn s (Some begun) (Some settle) = IsSettle s begun settle
IsSettleIn s begun settle = ⊥

abbrev pub AreSettles : Store → (ℕ → Option ℕ) → BTreeMap ℕ Settle → Type 0
AreSettles s begun settles = (id : ℕ) → IsSettleIn s (begun id) (get nat_cmp settles id)

-- A state serves a life, with the names of its events. The history of the store is what was written up to the tape's floor, and then what the tape holds.
-- With the writes of the life that it gave up, the state's tape goes back to where the life began. Up to its floor it then tells the pairs of the store's history.
pub record Serves (accounts : Accounts) (life : Life) (s : Store) (v : StateView) (names : Names) : Type 0 where
  pub serving : s.serving ≡ true
  pub steps : v.steps ≡ s.steps
  pub logs : length v.logs ≡ length s.logs
  pub gone : List Entry
  pub history : Remembers (quotas_of accounts) (firsts life) (story_in life) names (untidied gone life.base v)
  pub tenants : (t : ℕ) → granted v t ≡ quota_in accounts t
  pub right : IsRightState v
  pub floor : life.base ≤ v.tape.floor
  pub given_up : All (λ e. e.step ≤ v.tape.floor) gone
  pub workers : (n : ℕ) (op : OperationView) → op_at v.table n ≡ Some op → op.worker < length s.logs
  pub starts : (n : ℕ) (op : OperationView) → op_at v.table n ≡ Some op → op.first ≡ 0 → op.phase ≡ Enter
  pub before : List Placed
  pub ended : All (λ p. p.change.stamp ≤ v.tape.floor) before
  pub holds : s.history ≡ before ++ map placed_of v.tape.entries
  pub pairs : (cutoff : ℕ) → life.base ≤ cutoff → cutoff ≤ v.tape.floor → pairs_upto cutoff s.history ≡ contents_at (gone ++ v.tape.entries) (contents_of v) cutoff
  pub reach : AllReach life.base s

-- A life has ended, and no other has begun: whatever the next cutoff, what is recovered are the pairs that this life left, as far as they are kept.
pub record IsDown (accounts : Accounts) (past : Past) (s : Store) : Type 0 where
  pub left : (cutoff : ℕ) → past.life.base ≤ cutoff → AreLeftOf (quotas_of accounts) past.life (min past.kept cutoff) (pairs_upto cutoff s.history)
  pub reach : AllReach past.life.base s

-- every map of the history keeps the quotas
abbrev pub KeepsAll : Accounts → Store → Type 0
KeepsAll accounts s = (m : ℕ) → HasTenants (quota_in accounts) (pairs_upto m s.history) × KeepsQuotas (quota_in accounts) (pairs_upto m s.history)

pub record HoldsServing (g : ℕ) (turning : Turning) (accounts : Accounts) (begun : ℕ → Option ℕ) (life : Life) (s : Store) (logs : List (StoreLog MemDisk)) (serving : Serving) : Type 0 where
  pub serves : Serves accounts life s serving.state (named serving.roster.tickets)
  pub by_id : AreById serving.roster.names (named serving.roster.tickets)
  pub each : EachLog (λ worker. IsLogAt g (part_of turning worker) s serving.state.logs worker) s logs
  pub turns_to : serving.generation ≡ g + 1
  pub settles : AreSettles s begun serving.settles

-- The files of a worker's log show what they may be, wherever its last log is: it is not served.
pub record IsLogDown (g : ℕ) (h : Whole) (now : LogNow) (log : StoreLog MemDisk) : Type 0 where
  pub files : FilesNow
  pub turn : AreOfTurn g now files
  pub shows : ShowFiles (λ (d : MemDisk). true) mem_state files log.log.files
  pub begins : BeginsBy g h files
  pub owner : (log.log.owner.worker ≡ now.had.worker) × (log.log.owner.logs ≡ now.had.logs)

pub record HoldsDown (g : ℕ) (h : Whole) (accounts : Accounts) (past : Past) (s : Store) (logs : List (StoreLog MemDisk)) : Type 0 where
  pub down : IsDown accounts past s
  pub each : EachLog (λ worker now log. IsLogDown g h now log) s logs

abbrev pub HoldsNow : ℕ → Turning → Accounts → (ℕ → Option ℕ) → Result Life Past → Store → List (StoreLog MemDisk) → Option Serving → Type 0
HoldsNow g turning accounts begun (Ok life) s logs (Some serving) = HoldsServing g turning accounts begun life s logs serving
HoldsNow g turning accounts begun (Err past) s logs None = HoldsDown g turning.whole accounts past s logs
HoldsNow g turning accounts begun now s logs serving = ⊥

-- All of it: each number that was settled is in every log, whatever a crash leaves of it. The logs are in a turn from one generation on. All logs of a
-- generation stand whole, on a base of what was given up before.
pub record Holds (accounts : Accounts) (slots : LiveSlots) (standing : Standing) (logs : List (StoreLog MemDisk)) (serving : Option Serving) : Type 0 where
  pub s : Store
  pub from : ℕ
  pub turning : Turning
  pub some : 0 < length logs
  pub few : length logs ≤ 64
  pub come : HasCome (length logs) s
  pub count : length s.logs ≡ length logs
  pub stand : LiveSlotsStand accounts standing.check standing.now s.slots s.history s.steps slots
  pub base : StandsOnBase standing.now from turning slots s
  pub settled : AllReach standing.settled s
  pub keeps : KeepsAll accounts s
  pub now : HoldsNow from turning accounts standing.begun standing.now s logs serving
