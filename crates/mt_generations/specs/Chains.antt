-- What is left of the logs of a store if the older part of each was given up, and what is recovered from that.
use Rattle.std.specs.Prelude.{◌≡◌, ◌⊎◌, ℕ, ◌<◌, ◌≤◌, List, ◌++◌, Option, Some, None}
use Rattle.mt_rows.specs.{Tenants.{Contents as Pairs}, declared.record.Record.Record}
use Rattle.mt_log.specs.{declared.batch.LogBatch.LogBatch, Contents.{Contents, end_of}}
use Rattle.mt_crashes.specs.Fronts.{In, cutoff_of, IsReplay, HoldResume, IsLastServed, after_replay}
use Rattle.mt_crashes.specs.{Bases.{CheckpointView, Slots}, Recoveries.{MayUse, HasSlot, IsBaseOf, resume_of}}

-- A chain: a worker's log from one generation on. It ends where its last batch does, or else at its start.
abbrev pub Chain : Type 0
Chain = Contents

-- A chain is the end of a worker's whole log. It begins after the batches that were given up, at the step where these end.
pub record EndsLog (log : Contents) (c : Chain) : Type 0 where
  pub given : List LogBatch
  pub parts : log.batches ≡ given ++ c.batches
  pub start : c.start ≡ end_of log.start given
  pub owner : (c.worker ≡ log.worker) × (c.logs ≡ log.logs)

-- all chains begin by a step
abbrev pub BeginBy : ℕ → List Chain → Type 0
BeginBy n chains = (c : Chain) → In c chains → c.start ≤ n

-- A checkpoint covers what was given up to a step: its walk began no earlier. If anything was given up, its two numbers differ too. For one that ends just
-- at that step may be void by a resume batch that was given up.
abbrev pub Covers : ℕ → CheckpointView → Type 0
Covers start c = (start ≤ c.from) × ((start ≡ 0) ⊎ (c.from < c.to))

-- A checkpoint that may be used over chains: it covers what was given up of each; it ended by the cutoff, and in no void range.
pub record MayUseOver (chains : List Chain) (c : CheckpointView) : Type 0 where
  pub covers : (d : Chain) → In d chains → Covers d.start c
  pub may : MayUse chains c

-- Which one is used: of those that may be, the one that was walked last, the first of these. There is none only if all chains begin at 0, since nothing at
-- all is a base of what comes after 0.
abbrev pub IsUsedOver : List Chain → Slots → Option ℕ → Type 0
IsUsedOver chains slots None = BeginBy 0 chains × ((k : ℕ) (c : CheckpointView) → HasSlot slots k c → MayUseOver chains c → ⊥)
IsUsedOver chains slots (Some k) = (c : CheckpointView) × HasSlot slots k c × MayUseOver chains c
    × ((j : ℕ) (d : CheckpointView) → HasSlot slots j d → MayUseOver chains d → (d.to < c.to) ⊎ ((d.to ≡ c.to) × (k ≤ j)))

-- some base may be used over chains: nothing at all, or a checkpoint
abbrev pub HasUse : List Chain → Slots → Type 0
HasUse chains slots = BeginBy 0 chains ⊎ ((k : ℕ) × (c : CheckpointView) × HasSlot slots k c × MayUseOver chains c)

-- a recovery from chains
pub record IsRecoveredOver (chains : List Chain) (slots : Slots) (cutoff resume : ℕ) (used : Option ℕ) (pairs : Pairs) : Type 0 where
  pub cutoff_is : cutoff ≡ cutoff_of chains
  pub resume_is : resume ≡ resume_of chains slots
  pub used_is : IsUsedOver chains slots used
  pub from : ℕ
  pub base : Pairs
  pub base_is : IsBaseOf slots used from base
  pub replayed : List Record
  pub replay : IsReplay from chains replayed
  pub pairs_are : pairs ≡ after_replay base replayed

-- No chain is older than the others. Take the last number from which any of them tells that the store has served. Each has a resume batch up to there, or
-- begins there or later: then that batch was given up.
abbrev pub NoneOlderOver : List Chain → Type 0
NoneOlderOver chains = (n : ℕ) (d : Chain) → 0 < n → IsLastServed chains n → In d chains → HoldResume n d.batches ⊎ (n ≤ d.start)
