-- The history in which all stands that a server's sessions were told.
use Rattle.std.specs.{Prelude.{◌≡◌, ◌≢◌, ◌+◌, ℕ, Bool, List, ◌∷◌, length}, List.{AllZip, sum_by}}
use Rattle.mt_disk.specs.Disk.{DiskState}
use Rattle.mt_state.specs.Views.{StateView}
use Rattle.mt_history.specs.{Legal.{Along, last_from}}
use Rattle.mt_book.specs.{declared.shared.Clerk.Clerk, Happens.{Happening, Leads}, OneRun.Through}
use Rattle.mt_orders.specs.Explained.{IsExplained}
use Rattle.mt_crew.specs.{Servings.IsServed, declared.crew.Served.Served}
use Rattle.mt_options.specs.declared.tenants.TenantQuota.{TenantQuota}
use Rattle.mt_store_logs.specs.declared.store_log.StoreLog.{StoreLog}
use Rattle.mt_stored.specs.{NextTurns.IsNextTurn, declared.shared.SharedLogs.SharedLogs, Checkpoints.Scanner, Digests.DigestCall}
use Rattle.mt_service.specs.{declared.workers.SessionWorker.SessionWorker, Sessions.{IsSessionOver, LeavesOver, SeesFront, LogsSeeFront, all_clerks, answers_in}, Loops.IsLedOver, Beginnings.{IsNewWorker, IsNewTurner}, Workers.EachAt, Turning.Turning}

-- One history from a state on. There is a run through it, and one order explains whichever there is. So many new workers, with so many logs, were led on: with one
-- connection at a time by their sessions, else by the deeds of sessions that share a worker's caller. Each exchange was made over a beginning of the history. A new
-- turner, whose first turn goes to this generation, was led to what is left of it. Each of its periods, so each look and scan, was made over one too. These clerks
-- added each state of the history but the first, and but a last look of each and of the clerk that began it. So many answers were taken as the passes came back with.
pub record HaveOneHistory (L J R : Type 0) {D G : Type 0} (is_honest : D → Bool) (state : D → DiskState) (failures : D → ℕ) (was_refused : D → Bool) (calls : G → DigestCall → G → Type 0) (digests : G) (tenants : List TenantQuota) (workers connections log_count next : ℕ) (first : StateView) : Type 0 where
  pub log : List StateView
  pub legal : Along Leads first log
  pub run : List Happening
  pub through : Through first log run
  pub explained : (other : List Happening) → Through first log other → IsExplained first log other
  pub begun : List (SessionWorker L J R D)
  pub many : length begun ≡ workers
  pub new : EachAt begun (IsNewWorker log_count tenants)
  pub served : List (Served (SessionWorker L J R D))
  pub alone : connections ≡ 1 → AllZip (IsServed (IsSessionOver is_honest state failures was_refused (first ∷ log))) begun served
  pub sharing : connections ≢ 1 → AllZip (IsLedOver is_honest state failures was_refused (first ∷ log)) begun served
  pub turner : Turning (Clerk L J) (SharedLogs L J R D) G
  pub fresh : IsNewTurner log_count next digests turner
  pub desk : Scanner (Clerk L J)
  pub logs : SharedLogs L J R D
  pub turned : LeavesOver is_honest state failures was_refused calls tenants (first ∷ log) turner desk logs
  pub seen : SeesFront (first ∷ log) desk.desk × LogsSeeFront (first ∷ log) logs
  pub added : length log ≡ sum_by (λ (c : Clerk L J). c.mark.made) (all_clerks desk.desk logs.book.clerk served) + length (all_clerks desk.desk logs.book.clerk served) + 1
  pub taken : (last_from first log).answers ≡ desk.counted + answers_in served

-- so of these logs, which tell to which generation the turner's first turn goes
abbrev pub HaveOneHistoryOf : (L J R : Type 0) {D G : Type 0} (is_honest : D → Bool) (state : D → DiskState) (failures : D → ℕ) (was_refused : D → Bool) (calls : G → DigestCall → G → Type 0) → G
    → List TenantQuota → ℕ → ℕ → List (StoreLog D) → StateView → Type 0
HaveOneHistoryOf L J R is_honest state failures was_refused calls digests tenants workers connections logs first =
    (next : ℕ) × IsNextTurn logs next × HaveOneHistory L J R is_honest state failures was_refused calls digests tenants workers connections (length logs) next first
