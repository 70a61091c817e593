-- To which generation the next turn of a store goes that is owned alone, and what its first turn goes to.
use Rattle.std.specs.Prelude.{◌≡◌, ◌⊎◌, ℕ, ◌+◌, ◌-◌, ◌^◌, ◌≤◌, false, List, length, Some, slice_get}
use Rattle.mt_store_logs.specs.{declared.store_log.StoreLog.StoreLog, declared.standing.Generations.Generations, Standing.TellsOf}
use Rattle.mt_settle.specs.Next.{AreOf, IsNextOf}

-- A log is of the generation before this one, or of this one, and then no later log is in doubt. The oldest one that may stand is no later than its last one.
pub record IsNear {D : Type 0} (g : ℕ) (log : StoreLog D) : Type 0 where
  pub oldest : log.oldest ≤ log.log.generation
  pub at : (log.log.generation + 1 ≡ g) ⊎ ((log.log.generation ≡ g) × (log.next_in_doubt ≡ false))

-- so is each of some logs
abbrev pub AreNear : {D : Type 0} → ℕ → List (StoreLog D) → Type 0
AreNear {D} g logs = (k : ℕ) (log : StoreLog D) → slice_get logs k ≡ Some log → IsNear g log

-- what all logs tell of their generations
pub record AllTell {D : Type 0} (logs : List (StoreLog D)) (told : List Generations) : Type 0 where
  pub count : length told ≡ length logs
  pub each : (k : ℕ) (log : StoreLog D) (t : Generations) → slice_get logs k ≡ Some log → slice_get told k ≡ Some t → TellsOf log t

-- The next turn of these logs goes to this generation, by all that they may tell. Each is of the generation before it, or has gone to it.
pub record GoOnTo {D : Type 0} (g : ℕ) (logs : List (StoreLog D)) : Type 0 where
  pub near : AreNear g logs
  pub tell : (told : List Generations) → AllTell logs told → IsNextOf told g

-- The generation to which the next turn of these logs goes, as all of them tell it. It is 0 if there are no logs, or if no generation is left.
abbrev pub IsNextTurn : {D : Type 0} → List (StoreLog D) → ℕ → Type 0
IsNextTurn logs next =
    ((told : List Generations) × AllTell logs told × IsNextOf told next)
    ⊎ ((next ≡ 0) × ((length logs ≡ 0) ⊎ ((told : List Generations) × AllTell logs told × AreOf (2 ^ 64 - 1) told)))
