-- What is done in a turn from one generation of logs to the next, and the base that has to stand meanwhile.
use Rattle.std.specs.Prelude.{◌≡◌, ◌⊎◌, ℕ, ◌≤◌, ◌==◌, false, List, Some, None, if◌then◌else◌, slice_get}
use Rattle.mt_log.specs.{declared.batch.LogBatch.LogBatch, Contents.{Contents, with_batch}}
use Rattle.mt_crashes.specs.{Fronts.{In, is_void}, Bases.CheckpointView, Stores.{Store, WritesSlot, only_this, AllReach}}
use Rattle.mt_generations.specs.{Chains.{Chain, Covers}, Standings.Standing}

-- a worker's logs with this one of a generation
abbrev pub with_log : ℕ → Chain → Standing → Standing
with_log g c f = λ h. if h == g then Some c else f h

-- without any of that generation, as if it was given up
abbrev pub without : ℕ → Standing → Standing
without g f = λ h. if h == g then None else f h

-- a worker's first log, of generation 0
abbrev pub only_first : Contents → Standing
only_first log = with_log 0 log (λ h. None)

-- a log with one batch more
abbrev pub longer : LogBatch → Chain → Chain
longer b c = with_batch b c

-- A settled base for what was given up to a step: a checkpoint that covers that, stands in its slot whatever crashes, and is not void. Every log goes by
-- its end, whatever a crash leaves of it.
pub record IsSettledIn (s : Store) (starts k : ℕ) (c : CheckpointView) : Type 0 where
  pub stands : slice_get s.slots k ≡ Some (only_this (Some c))
  pub covers : Covers starts c
  pub live : is_void s.voids c.to ≡ false
  pub settled : AllReach c.to s

-- such a base, or nothing was given up
abbrev pub HasBase : Store → ℕ → Type 0
HasBase s starts = (starts ≡ 0) ⊎ ((k : ℕ) × (c : CheckpointView) × IsSettledIn s starts k c)

-- a happening that writes this slot
abbrev pub Writes : ℕ → Store → Store → Type 0
Writes k old new = (h : WritesSlot old new) × (h.slot ≡ k)

-- each worker has a log of a generation, and it began by a step
abbrev pub AllBegunBy : ℕ → ℕ → List Standing → Type 0
AllBegunBy g starts files = (f : Standing) → In f files → (c : Chain) × (f g ≡ Some c) × (c.start ≤ starts)

-- A generation stands whole: each worker has a log of it, and a base covers what is before these. So a next one may be begun, and older ones given up.
abbrev pub StandsWhole : ℕ → Store → List Standing → Type 0
StandsWhole g s files = (starts : ℕ) × AllBegunBy g starts files × HasBase s starts

-- if a worker has a log of a generation, it still has one, from the same start on
abbrev pub KeepsLog : ℕ → Standing → Standing → Type 0
KeepsLog g old new = (c : Chain) → old g ≡ Some c → (d : Chain) × (new g ≡ Some d) × (d.start ≡ c.start)
