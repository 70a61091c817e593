-- What becomes of a store when it is recovered: its logs and its slots are read twice.
use Rattle.std.specs.{Prelude.{◌≡◌, ◌⊎◌, ℕ, ◌≤◌, ◌^◌, Bool, false, List, map, Option, None}, List.All}
use Rattle.mt_rows.specs.{Accounts.Accounts, TenantPairs.{pairs_of, quota_in, HasTenants, KeepsQuotas, IsTenantPair, AreStampedUpto}}
use Rattle.mt_disk.specs.Disk.{DiskState}
use Rattle.mt_log.specs.{declared.batch.Front.Front, Contents.{Contents, contents_of}}
use Rattle.mt_crashes.specs.Bases.{Slots}
use Rattle.mt_generations.specs.Chains.{IsRecoveredOver}
use Rattle.mt_chain_files.specs.declared.opening.Chains.{Chains}
use Rattle.mt_checkpoint.specs.declared.checkpoint.Checkpoint.{Checkpoint}
use Rattle.mt_recover.specs.{declared.recovering.Recovered.Recovered, Outlines.AreAgain, Pairs.Ascend, Refusals.IsRefusal, Sources.AreLoaded}
use Rattle.mt_slots.specs.{declared.store_slots.StoreSlots.StoreSlots, Places.{Both, in_order, with_newest}, Calls.{ReadsBoth, StopsReading}}
use Rattle.mt_store_logs.specs.{declared.fault.StoreRefusal.StoreRefusal, declared.fault.StoreRefusal.TheVariants.{Logs as OfLogs, Slot as OfSlot}}
use Rattle.mt_store_logs.specs.{declared.fault.LogRefusal.LogRefusal, declared.store_log.StoreLog.StoreLog, Taking.{OpensLogs, StopsOpening}}
pub use Rattle.mt_store_logs.specs.Resumes.{slots_of, used_slot, refusal_in, AreOpenUpto, ResumesLog, FailsToResumeLog, ResumesAll, StopsResumingAt, StopsResuming}
pub use Rattle.mt_store_logs.specs.Leaves.{NoneBegun, GivesUpAll, StopsGivingUpAt, StopsGivingUp, LeavesOne}
use Rattle.mt_store_logs.specs.Rereads.{IsFault, LogsAreRead, SlotsStay, KeepRules}
use Rattle.mt_rows.specs.declared.refusal.Refusal.TheVariants as refusals

-- What stands in place of fronts and of slots that were seen first, once they were read again. A checkpoint has its two numbers. Of disks that keep the rules
-- all is as it was seen.
pub record IsAgain (rules : Type 0) (seen : Slots) (fronts : List Front) (now : List Contents) (loaded : Slots) : Type 0 where
  pub numbers : AreLoaded seen loaded
  pub same : rules → (now ≡ map contents_of fronts) × (loaded ≡ seen)

-- What is recovered of fronts and of slots that are read again, with the quotas of these tenants.
pub record IsRecoveredOf (rules : Type 0) (accounts : Accounts) (seen : Slots) (fronts : List Front) (r : Recovered) : Type 0 where
  pub now : List Contents
  pub loaded : Slots
  pub again : IsAgain rules seen fronts now loaded
  pub outlines : AreAgain (map contents_of fronts) now
  pub over : IsRecoveredOver now loaded r.cutoff r.resume r.used (pairs_of r.pairs.items)
  pub ascend : Ascend r.pairs.items
  pub tenants : HasTenants (quota_in accounts) (pairs_of r.pairs.items)
  pub quotas : KeepsQuotas (quota_in accounts) (pairs_of r.pairs.items)
  pub limits : All IsTenantPair r.pairs.items
  pub stamped : AreStampedUpto r.resume r.pairs.items
  pub last : r.resume ≤ 2 ^ 59

-- Why nothing is: a call of the second reading was refused; or it did not give what was seen first, which disks that keep the rules never do.
abbrev pub StopsAgain : Type 0 → StoreRefusal → Type 0
StopsAgain rules e = IsFault e ⊎ ((e ≡ OfLogs (record { log = None; refusal = refusals.Device })) × ¬ rules)

module _ {D : Type 0} (is_honest : D → Bool) (state : D → DiskState) (failures : D → ℕ) where
  -- Both slots were looked at, then the files of all logs were opened, the store was recovered by a second reading of both, and each log has its resume batch.
  -- What is older than the generation of the chains was given up, unless a worker has begun the next one. The newest checkpoint is the one that was used, and
  -- it owes nothing.
  pub record ServesAgain (accounts : Accounts) (r : Recovered) (generation : ℕ) (old : List (StoreLog D)) (slots : StoreSlots D) (new : List (StoreLog D)) (now : StoreSlots D) : Type 0 where
    pub rested : StoreSlots D
    pub found : Both (Option Checkpoint)
    pub reads : ReadsBoth is_honest state failures slots rested found
    pub mid : List (StoreLog D)
    pub chains : Chains
    pub opens : OpensLogs is_honest state failures (slots_of (in_order found)) old mid chains
    pub from : generation ≡ chains.generation
    pub recovers : IsRecoveredOf (KeepRules is_honest state failures mid slots) accounts (slots_of (in_order found)) chains.fronts.items r
    pub resumed : List (StoreLog D)
    pub resumes : ResumesAll is_honest state failures r.cutoff r.resume mid resumed
    pub leaves : LeavesOne is_honest state failures chains.begun.items resumed new
    pub keeps : now ≡ with_newest (used_slot r.used) rested

  module _ (accounts : Accounts) (e : LogRefusal) (slots : StoreSlots D) (seen : Slots) (old new : List (StoreLog D)) where
    -- they were, and there is no recovery from what both tell
    pub record IsRefusedOf : Type 0 where
      pub all : e.log ≡ None
      pub chains : Chains
      pub opens : OpensLogs is_honest state failures seen old new chains
      pub now : List Contents
      pub loaded : Slots
      pub again : IsAgain (KeepRules is_honest state failures new slots) seen chains.fronts.items now loaded
      pub refused : IsRefusal now loaded (quota_in accounts) e.refusal

    -- it was recovered, and one log has its resume batch not for certain
    pub record ResumesInPart : Type 0 where
      pub mid : List (StoreLog D)
      pub chains : Chains
      pub opens : OpensLogs is_honest state failures seen old mid chains
      pub r : Recovered
      pub recovers : IsRecoveredOf (KeepRules is_honest state failures mid slots) accounts seen chains.fronts.items r
      pub stops : StopsResuming is_honest state failures r.cutoff r.resume e mid new

    -- each has its resume batch, and one older log may be there or not
    pub record GivesUpInPart : Type 0 where
      pub mid : List (StoreLog D)
      pub chains : Chains
      pub opens : OpensLogs is_honest state failures seen old mid chains
      pub r : Recovered
      pub recovers : IsRecoveredOf (KeepRules is_honest state failures mid slots) accounts seen chains.fronts.items r
      pub resumed : List (StoreLog D)
      pub resumes : ResumesAll is_honest state failures r.cutoff r.resume mid resumed
      pub none : NoneBegun chains.begun.items
      pub stops : StopsGivingUp is_honest state failures e resumed new

  -- both slots were looked at, and then there was no recovery
  pub record StopsAfterSlots (accounts : Accounts) (e : LogRefusal) (old : List (StoreLog D)) (slots : StoreSlots D) (new : List (StoreLog D)) (now : StoreSlots D) : Type 0 where
    pub found : Both (Option Checkpoint)
    pub reads : ReadsBoth is_honest state failures slots now found
    pub why : StopsOpening is_honest state failures (slots_of (in_order found)) e old new
        ⊎ (IsRefusedOf accounts e slots (slots_of (in_order found)) old new
        ⊎ (ResumesInPart accounts e slots (slots_of (in_order found)) old new ⊎ GivesUpInPart accounts e slots (slots_of (in_order found)) old new))

  -- Both slots were looked at, and the files of all logs were opened. Then the second reading stopped: the logs were only read, and what a crash may leave of the
  -- slots stays.
  pub record StopsInSecond (e : StoreRefusal) (old : List (StoreLog D)) (slots : StoreSlots D) (new : List (StoreLog D)) (now : StoreSlots D) : Type 0 where
    pub rested : StoreSlots D
    pub found : Both (Option Checkpoint)
    pub reads : ReadsBoth is_honest state failures slots rested found
    pub mid : List (StoreLog D)
    pub chains : Chains
    pub opens : OpensLogs is_honest state failures (slots_of (in_order found)) old mid chains
    pub read : LogsAreRead is_honest state failures false mid new
    pub stay : SlotsStay is_honest state failures rested now
    pub why : StopsAgain (KeepRules is_honest state failures mid slots) e

  -- what a store's refusal tells of its first reading: a slot was not looked at, and no log was touched; or it stopped after that
  abbrev pub StopsInFirst : Accounts → StoreRefusal → List (StoreLog D) → StoreSlots D → List (StoreLog D) → StoreSlots D → Type 0
  StopsInFirst accounts (OfLogs e) old slots new now = StopsAfterSlots accounts e old slots new now
  StopsInFirst accounts (OfSlot fault) old slots new now = StopsReading is_honest state failures fault slots now × (new ≡ old)

  -- A slot was not looked at, a log was not opened, the store was refused, or a log stopped it. Or the second reading stopped.
  abbrev pub IsNotRecovered : Accounts → StoreRefusal → List (StoreLog D) → StoreSlots D → List (StoreLog D) → StoreSlots D → Type 0
  IsNotRecovered accounts e old slots new now = StopsInFirst accounts e old slots new now ⊎ StopsInSecond e old slots new now
