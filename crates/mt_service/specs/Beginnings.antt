-- How a server's workers and its turner begin.
use Rattle.std.specs.Prelude.{◌≡◌, ℕ, List, None, length}
use Rattle.mt_options.specs.declared.tenants.TenantQuota.{TenantQuota}
use Rattle.mt_book.specs.declared.shared.Clerk.{Clerk}
use Rattle.mt_stored.specs.declared.shared.SharedLogs.{SharedLogs}
use Rattle.mt_service.specs.{declared.workers.SessionWorker.SessionWorker, Turning.Turning, Workers.AreOfWorker}

-- The worker at a place is new. Its pass and its keeper have the place's number among so many logs, which are those that it has. Its pass has seen no step and was
-- given no answer. It serves these tenants, none of which is opened. Its keeper has counted no answer, and gave no log a turn.
pub record IsNewWorker {L J R D : Type 0} (logs : ℕ) (tenants : List TenantQuota) (place : ℕ) (worker : SessionWorker L J R D) : Type 0 where
  pub own : AreOfWorker logs place worker.caller.pass.worker worker.caller.keeper.worker worker.caller.runner.place
  pub logs_are : length worker.caller.keeper.logs.logs.now ≡ logs
  pub seen : worker.caller.pass.seen ≡ 0
  pub answered : worker.caller.pass.share.amount ≡ 0
  pub serves : worker.caller.tenants.now ≡ tenants
  pub opened : worker.caller.opened ≡ None
  pub counted : worker.caller.keeper.since.answers ≡ 0
  pub next : worker.caller.keeper.next ≡ 0

-- A turner is new. It has so many logs and these digests, and calls for worker 0. Its pass has seen no step and was given no answer. It has settled nothing by the
-- clock. Its next turn goes to this generation.
pub record IsNewTurner {L J R D G : Type 0} (logs next : ℕ) (digests : G) (turner : Turning (Clerk L J) (SharedLogs L J R D) G) : Type 0 where
  pub logs_are : length turner.logs.logs.now ≡ logs
  pub digests_are : turner.digests ≡ digests
  pub worker : turner.worker ≡ 0
  pub seen : turner.desk.seen ≡ 0
  pub answered : turner.desk.counted ≡ 0
  pub settled : turner.settled ≡ 0
  pub goes_to : turner.next ≡ next
