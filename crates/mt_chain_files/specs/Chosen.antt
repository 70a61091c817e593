-- With which chains a recovery begins, by what was read of the log files, and why with none.
use Rattle.std.specs.{Prelude.{◌≡◌, ◌⊎◌, ℕ, ◌+◌, ◌<◌, Bool, List, map, Some, None}, List.AllZip}
use Rattle.mt_disk.specs.Disk.{DiskState}
use Rattle.mt_log.specs.Contents.{contents_of}
use Rattle.mt_crashes.specs.{Fronts.In, Bases.Slots}
use Rattle.mt_generations.specs.Chains.{Chain}
use Rattle.mt_generations.specs.Standings.{Standing, AllHave, AreFrom, AgreeFrom, IsLast, CanBegin, IsChosen, HaveNoChoice}
use Rattle.mt_chains.specs.{declared.worker_logs.WorkerLogs.WorkerLogs, Files.{standing_of, SameNumbered, AreOwned, FallsFrom, IsFirstApart}, Testing.is_there}
use Rattle.mt_log_files.specs.declared.worker.WorkerFiles.{WorkerFiles}
use Rattle.mt_chain_files.specs.{declared.fault.FilesFault.FilesFault, declared.opening.Chains.Chains}
use Rattle.mt_chain_files.specs.{Rounds.{ReadsNumbered, StopsNumbered}, Plain.{OpensPlainFiles, StopsPlainFiles}}
use Rattle.mt_rows.specs.declared.refusal.Refusal.TheVariants as refusals

-- ---- by the logs that stand

-- A recovery may have to begin at generation 0: there is no later one of which each worker has a log, or the last one is 1 and no recovery can begin there.
abbrev pub NeedPlain : List Standing → Slots → Type 0
NeedPlain standings slots = ((g : ℕ) → ¬ AllHave g standings) ⊎ (IsLast 1 standings × ¬ CanBegin 1 standings slots)

-- The chains from a generation on are the choice. Each of their logs is of its worker. In each chain the next log begins where the one before it ends, and no
-- later one stands.
pub record BeginAt (standings : List Standing) (slots : Slots) (g : ℕ) : Type 0 where
  pub chosen : (chains : List Chain) → AreFrom g standings chains → IsChosen standings slots g chains
  pub owned : AreOwned g standings
  pub meets : (f : Standing) (start : ℕ) → In f standings → ¬ FallsFrom g f start

-- the chains of the choice begin at a generation, and one of their logs is not of its worker
pub record StrangeAt (standings : List Standing) (slots : Slots) : Type 0 where
  pub generation : ℕ
  pub has : AllHave generation standings
  pub chosen : (chains : List Chain) → AreFrom generation standings chains → IsChosen standings slots generation chains
  pub strange : ¬ AreOwned generation standings

-- the chains of the choice begin at a generation, all their logs are of their workers, and in one of them, the first such one, a start falls
pub record FallAt (standings : List Standing) (slots : Slots) (place start : ℕ) : Type 0 where
  pub generation : ℕ
  pub has : AllHave generation standings
  pub chosen : (chains : List Chain) → AreFrom generation standings chains → IsChosen standings slots generation chains
  pub owned : AreOwned generation standings
  pub apart : IsFirstApart generation standings place start

-- why no recovery begins with what was read: there is nothing to choose, or a log is not of its worker; or else a start falls
abbrev pub RefuseToBegin : List Standing → Slots → FilesFault → Type 0
RefuseToBegin standings slots e =
    ((HaveNoChoice standings slots ⊎ StrangeAt standings slots) × (e ≡ record { log = None; refusal = refusals.LogCount }))
    ⊎ ((place : ℕ) × (start : ℕ) × FallAt standings slots place start × (e ≡ record { log = Some place; refusal = refusals.StampsFall place start }))

-- The chains of the choice, of logs of their workers. In each the next log begins where the one before it ends, and no later one stands.
pub record AreChosen (standings : List Standing) (slots : Slots) (chains : Chains) : Type 0 where
  pub chosen : IsChosen standings slots chains.generation (map contents_of chains.fronts.items)
  pub owned : AreOwned chains.generation standings
  pub meets : (f : Standing) (start : ℕ) → In f standings → ¬ FallsFrom chains.generation f start

-- ---- by the files

-- which workers have a log of the generation after one
abbrev pub begun_in : ℕ → List WorkerLogs → List Bool
begun_in g logs = map (λ worker. is_there (standing_of worker (g + 1))) logs

-- What may stand, by what was read of the numbered files first, and then of all: just that, if the plain files are needed. Else these may have anything.
abbrev pub MayStand : Slots → List WorkerLogs → List WorkerLogs → List Standing → Type 0
MayStand slots first logs standings =
    (NeedPlain (map standing_of first) slots → standings ≡ map standing_of logs) × AgreeFrom 1 (map standing_of logs) standings

module _ {D : Type 0} (is_honest : D → Bool) (state : D → DiskState) (failures : D → ℕ) (slots : Slots) where
  -- after the numbered files, the plain ones are opened if they are needed, and are as they were if not
  abbrev pub ReadsPlain : List (WorkerFiles D) → List (WorkerFiles D) → List WorkerLogs → List WorkerLogs → Type 0
  ReadsPlain old new first logs =
      (NeedPlain (map standing_of first) slots × OpensPlainFiles is_honest state failures old new logs × AllZip SameNumbered first logs)
      ⊎ ((¬ NeedPlain (map standing_of first) slots) × (new ≡ old) × (logs ≡ first))

  -- a plain file that is needed was not opened
  abbrev pub StopsPlain : FilesFault → List (WorkerFiles D) → List (WorkerFiles D) → List WorkerLogs → Type 0
  StopsPlain e old new first = NeedPlain (map standing_of first) slots × StopsPlainFiles is_honest state failures e old new

  -- from which generation on the chains are
  abbrev pub Chooses : ℕ → List (WorkerFiles D) → List (WorkerFiles D) → List WorkerLogs → List WorkerLogs → Type 0
  Chooses g old new first logs = ReadsPlain old new first logs × BeginAt (map standing_of logs) slots g

  -- or why there are none
  abbrev pub NotChosen : FilesFault → List (WorkerFiles D) → List (WorkerFiles D) → List WorkerLogs → List WorkerLogs → Type 0
  NotChosen e old new first logs = StopsPlain e old new first ⊎ (ReadsPlain old new first logs × RefuseToBegin (map standing_of logs) slots e)

  -- what was read of all files that are needed
  pub record ReadsFiles (old new : List (WorkerFiles D)) : Type 0 where
    pub between : List (WorkerFiles D)
    pub first : List WorkerLogs
    pub numbered : ReadsNumbered is_honest state failures slots old between first
    pub logs : List WorkerLogs
    pub plain : ReadsPlain between new first logs

  -- The files were opened, and gave these chains. They are the chains of whatever stands, if it has from their generation on what was read. So plain files that
  -- were not opened count for nothing.
  pub record OpensChains (old new : List (WorkerFiles D)) (chains : Chains) : Type 0 where
    pub reads : ReadsFiles old new
    pub numbered : ¬ NeedPlain (map standing_of reads.first) slots → 0 < chains.generation
    pub begun : chains.begun.items ≡ begun_in chains.generation reads.logs
    pub chosen : (standings : List Standing) → AgreeFrom chains.generation (map standing_of reads.logs) standings → AreChosen standings slots chains

  -- a plain file was not opened, after the numbered ones that count were
  pub record StopsAtPlain (e : FilesFault) (old new : List (WorkerFiles D)) : Type 0 where
    pub between : List (WorkerFiles D)
    pub first : List WorkerLogs
    pub numbered : ReadsNumbered is_honest state failures slots old between first
    pub plain : StopsPlain e between new first

  -- all files that are needed were opened, but there is no memory for the chains, or no recovery begins with whatever stands
  pub record RefusesFiles (e : FilesFault) (old new : List (WorkerFiles D)) : Type 0 where
    pub reads : ReadsFiles old new
    pub why : (e ≡ record { log = None; refusal = refusals.Memory })
        ⊎ ((standings : List Standing) → MayStand slots reads.first reads.logs standings → RefuseToBegin standings slots e)

  -- why there are no chains
  abbrev pub StopsChains : FilesFault → List (WorkerFiles D) → List (WorkerFiles D) → Type 0
  StopsChains e old new = StopsNumbered is_honest state failures slots e old new ⊎ (StopsAtPlain e old new ⊎ RefusesFiles e old new)
