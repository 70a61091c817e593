-- Which logs of a store's workers stand, by their generations, and from which of them on the store is recovered.
use Rattle.std.specs.{Prelude.{◌≡◌, ◌≢◌, ◌⊎◌, ℕ, ◌+◌, ◌≤◌, List, [], ◌++◌, Option, Some, None}, List.AllZip}
use Rattle.mt_log.specs.{declared.batch.LogBatch.LogBatch, Contents.{Contents, end_of, mark_of}}
use Rattle.mt_crashes.specs.{Fronts.In, Bases.Slots}
use Rattle.mt_generations.specs.Chains.{Chain, HasUse}

-- a worker's logs that stand, by their generations, each as a chain of its own
abbrev pub Standing : Type 0
Standing = ℕ → Option Chain

-- a log with that of the next generation after it, if there is one
abbrev pub joined : Option Chain → Option Chain → Option Chain
joined None next = None
joined (Some first) None = Some first
joined (Some first) (Some next) = Some (record first { batches = first.batches ++ next.batches })

-- a worker's chain from a generation on: its log of that, with that of the next one
abbrev pub chain_from : ℕ → Standing → Option Chain
chain_from g f = joined (f g) (f (g + 1))

-- these are the chains of all workers from a generation on; so each worker has a log of it
abbrev pub AreFrom : ℕ → List Standing → List Chain → Type 0
AreFrom g files chains = AllZip (λ f c. chain_from g f ≡ Some c) files chains

-- each worker has a log of a generation
abbrev pub AllHave : ℕ → List Standing → Type 0
AllHave g files = (f : Standing) → In f files → (c : Chain) × (f g ≡ Some c)

-- it is the last generation of which each worker has a log
abbrev pub IsLast : ℕ → List Standing → Type 0
IsLast g files = AllHave g files × ((h : ℕ) → AllHave h files → h ≤ g)

-- a recovery can begin at a generation: each worker has a log of it, and some base may be used over the chains from there on
abbrev pub CanBegin : ℕ → List Standing → Slots → Type 0
CanBegin g files slots = (chains : List Chain) × AreFrom g files chains × HasUse chains slots

-- From which generation on a store is recovered, and from which chains. It is the last generation of which each worker has a log, if a recovery can begin
-- there. Else it is the one before that, if it can begin there.
abbrev pub IsChosen : List Standing → Slots → ℕ → List Chain → Type 0
IsChosen files slots g chains = AreFrom g files chains × HasUse chains slots × (IsLast g files ⊎ (IsLast (g + 1) files × ¬ CanBegin (g + 1) files slots))

-- the logs are refused as no set: there is nothing to choose
abbrev pub HaveNoChoice : List Standing → Slots → Type 0
HaveNoChoice files slots = (g : ℕ) (chains : List Chain) → ¬ IsChosen files slots g chains

-- A number falls in the chain from a generation on: the next log begins elsewhere than where the one before it ends. This is its start.
pub record StartFalls (g : ℕ) (f : Standing) (start : ℕ) : Type 0 where
  pub first : Chain
  pub next : Chain
  pub has_first : f g ≡ Some first
  pub has_next : f (g + 1) ≡ Some next
  pub apart : next.start ≢ mark_of first
  pub is : start ≡ next.start

-- others have the same logs from a generation on
abbrev pub AgreeFrom : ℕ → List Standing → List Standing → Type 0
AgreeFrom g files others = AllZip (λ f o. (h : ℕ) → g ≤ h → o h ≡ f h) files others

-- ---- what stands of a worker's whole log

-- a log of one generation: it has these batches of the whole log, after those
pub record IsPart (log : Contents) (before batches : List LogBatch) (c : Chain) : Type 0 where
  pub start : c.start ≡ end_of log.start before
  pub batches_are : c.batches ≡ batches
  pub owner : (c.worker ≡ log.worker) × (c.logs ≡ log.logs)

-- What may stand of a worker's whole log during a turn from a generation to the next. Some batches were given up for good. Those after them are of the log
-- of this generation, and the last ones of the next log, once it was begun. Either log may be missing, and no other stands.
pub record StandsFor (g : ℕ) (log : Contents) (f : Standing) : Type 0 where
  pub given : List LogBatch
  pub first : List LogBatch
  pub next : List LogBatch
  pub parts : log.batches ≡ given ++ (first ++ next)
  pub has_first : (c : Chain) → f g ≡ Some c → IsPart log given first c
  pub has_next : (c : Chain) → f (g + 1) ≡ Some c → IsPart log (given ++ first) next c
  pub not_begun : f (g + 1) ≡ None → next ≡ []
  pub no_other : (h : ℕ) (c : Chain) → f h ≡ Some c → (h ≡ g) ⊎ (h ≡ g + 1)
