-- What was read of the log files of a store's workers, as the logs that stand.
use Rattle.std.specs.{Prelude.{◌≡◌, ◌⊎◌, ℕ, ◌+◌, ◌<◌, ◌==◌, List, [], ◌∷◌, length, Option, Some, None, if◌then◌else◌, slice_get}, Option.option_map}
use Rattle.mt_log.specs.{declared.batch.Front.Front, Contents.contents_of}
use Rattle.mt_generations.specs.{Chains.Chain, Standings.{Standing, StartFalls}}
use Rattle.mt_chains.specs.declared.worker_logs.WorkerLogs.{WorkerLogs}

-- the first log of some numbered files that is of a generation
abbrev pub numbered_log : ℕ → List (Option Front) → Option Chain
numbered_log g [] = None
numbered_log g (None ∷ files) = numbered_log g files
numbered_log g (Some front ∷ files) = if front.generation == g then Some (contents_of front) else numbered_log g files

-- a worker's logs that stand: that of generation 0 in its plain file, any other in its numbered files
abbrev pub standing_of : WorkerLogs → Standing
standing_of logs g = if g == 0 then option_map contents_of logs.plain else numbered_log g logs.numbered

-- of two workers' files the numbered ones are the same
abbrev pub SameNumbered : WorkerLogs → WorkerLogs → Type 0
SameNumbered logs others = logs.numbered ≡ others.numbered

-- A worker's log: it names the worker by its place, and the number of all workers.
abbrev pub IsOwned : ℕ → ℕ → Chain → Type 0
IsOwned worker count c = (c.worker ≡ worker) × (c.logs ≡ count)

-- so does each worker's log of a generation, and that of the next one
abbrev pub AreOwned : ℕ → List Standing → Type 0
AreOwned g files = (k : ℕ) (f : Standing) (c : Chain) → slice_get files k ≡ Some f → (f g ≡ Some c) ⊎ (f (g + 1) ≡ Some c) → IsOwned k (length files) c

-- A number falls in a worker's logs from a generation on: the next log begins elsewhere than where the one before it ends. If it does not, a log of the
-- generation after the next one stands. This is its start.
abbrev pub FallsFrom : ℕ → Standing → ℕ → Type 0
FallsFrom g f start = StartFalls g f start ⊎ (((n : ℕ) → ¬ StartFalls g f n) × ((c : Chain) × (f (g + 2) ≡ Some c) × (start ≡ c.start)))

-- The first worker, by its place, in whose logs from a generation on a start falls, with this start.
pub record IsFirstApart (g : ℕ) (files : List Standing) (place start : ℕ) : Type 0 where
  pub worker : Standing
  pub there : slice_get files place ≡ Some worker
  pub falls : FallsFrom g worker start
  pub first : (k : ℕ) (other : Standing) (n : ℕ) → k < place → slice_get files k ≡ Some other → ¬ FallsFrom g other n
