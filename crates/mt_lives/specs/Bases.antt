-- Which generation of a store's logs stands whole, and the base of what was given up before it.
use Rattle.std.specs.Prelude.{◌≡◌, ◌⊎◌, ℕ, ◌+◌, ◌≤◌, false, Option, Some, slice_get}
use Rattle.mt_log.specs.Contents.{Contents}
use Rattle.mt_crashes.specs.{Fronts.is_void, Bases.CheckpointView, Stores.{Store, only_this}}
use Rattle.mt_slots.specs.{declared.slot.Slot.Slot, Places.{number_of, other_of}}
use Rattle.mt_generations.specs.{Chains.{Chain, Covers}, Turns.{IsSettledIn}}
use Rattle.mt_log_files.specs.{Files.MayLeaveFile, Workers.standing_of}
use Rattle.mt_chain_files.specs.Turns.{FilesNow, now_of}

-- a generation that stands whole, and the step by which each of its logs began
pub record Whole : Type 0 where
  pub generation : ℕ
  pub starts : ℕ

-- Whatever a crash leaves of a worker's files in a turn, it has a log of that generation, which began by that step.
abbrev pub BeginsBy : ℕ → Whole → FilesNow → Type 0
BeginsBy g whole files = (x y : Option Contents) → MayLeaveFile (now_of g files) x → MayLeaveFile (now_of (g + 1) files) y
    → (c : Chain) × (standing_of g x y whole.generation ≡ Some c) × (c.start ≤ whole.starts)

-- A checkpoint stands in a slot whatever crashes, is not void, and covers what is before a step. It is a base of that once all logs go by its end.
pub record IsWritten (s : Store) (starts k : ℕ) (c : CheckpointView) : Type 0 where
  pub stands : slice_get s.slots k ≡ Some (only_this (Some c))
  pub covers : Covers starts c
  pub live : is_void s.voids c.to ≡ false

-- Nothing was given up, or the newest checkpoint is a settled base of that. So the next one is not written over it.
abbrev pub NewestIsBase : Option Slot → Store → ℕ → Type 0
NewestIsBase newest s starts = (starts ≡ 0) ⊎ ((slot : Slot) × (c : CheckpointView) × (newest ≡ Some slot) × IsSettledIn s starts (number_of slot) c)

-- The newest one is not settled yet, but is a base as soon as all logs go by what it owes. Till then the base is in the other slot.
pub record OtherIsBase (newest : Option Slot) (owed : ℕ) (s : Store) (starts : ℕ) : Type 0 where
  pub slot : Slot
  pub at : newest ≡ Some slot
  pub written : CheckpointView
  pub stands : IsWritten s starts (number_of slot) written
  pub owes : written.to ≤ owed
  pub base : CheckpointView
  pub settled : IsSettledIn s starts (number_of (other_of slot)) base

-- the base is the newest checkpoint, or the one before it
abbrev pub EitherIsBase : Option Slot → ℕ → Store → ℕ → Type 0
EitherIsBase newest owed s starts = NewestIsBase newest s starts ⊎ OtherIsBase newest owed s starts
