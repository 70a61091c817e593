-- What a worker's log tells of the generations of its files.
use Rattle.std.specs.Prelude.{◌≡◌, ◌↔◌, ◌<◌, IsTrue}
use Rattle.mt_store_logs.specs.{declared.standing.Generations.Generations, declared.store_log.StoreLog.StoreLog}

-- its last generation, and whether a log of an earlier one may stand
pub record TellsOf {D : Type 0} (log : StoreLog D) (told : Generations) : Type 0 where
  pub last : told.last ≡ log.log.generation
  pub older : IsTrue told.has_older ↔ (log.oldest < log.log.generation)
