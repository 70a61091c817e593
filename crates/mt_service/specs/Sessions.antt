-- What a worker's sessions asked its caller, and what was seen of a history meanwhile.
use Rattle.std.specs.{Prelude.{◌≡◌, ℕ, Bool, true, false, List, [], ◌∷◌, length, min}, List.{flat_map, sum_by}}
use mathlib.Core.List.{IsPrefix}
use Rattle.mt_rows.specs.Rows.{Bytes}
use Rattle.mt_disk.specs.Disk.{DiskState}
use Rattle.mt_state.specs.Views.{StateView}
use Rattle.mt_book.specs.{declared.passes.Pass.Pass, declared.shared.Clerk.Clerk, Periods.Period, Serves.{Serves, clerk_of}}
use Rattle.mt_crew.specs.declared.crew.Served.{Served}
use Rattle.mt_caller.specs.Exchanges.{CallerRelation}
use Rattle.mt_session.specs.{Sessions.Transcript, Endings.AsksAtMostOne}
use Rattle.mt_options.specs.declared.tenants.TenantQuota.{TenantQuota}
use Rattle.mt_settle.specs.Turns.{Turn}
use Rattle.mt_stored.specs.{declared.shared.SharedLogs.SharedLogs, Checkpoints.Scanner, Digests.DigestCall, Keeping.keeping, Shared.{LearnsSeen, DoesShared}}
use Rattle.mt_service.specs.{declared.callers.DeskCaller.DeskCaller, declared.workers.SessionWorker.SessionWorker, Asking.{Asker, asker, AsksDesk}, Turning.Turning, Turners.Leaves}

-- a caller between two exchanges
abbrev pub asker_of : {L R D S K : Type 0} → DeskCaller L R D S K → Asker D S
asker_of c = asker c.desk c.pass.worker c.pass.seen c.pass.share.amount c.tenants.now c.opened (keeping c.keeper.logs c.keeper.worker c.keeper.since.answers c.keeper.next)

-- what a period does to a clerk, what a turn does to logs behind their locks, and how many these are
abbrev pub acts : {L J : Type 0} → Clerk L J → Period → Clerk L J → Type 0
acts old p new = Serves (clerk_of old.mark old.birth) p (clerk_of new.mark new.birth)

abbrev pub turns : {L J R D : Type 0} (is_honest : D → Bool) (state : D → DiskState) (failures : D → ℕ) (was_refused : D → Bool) → SharedLogs L J R D → Turn → SharedLogs L J R D → Type 0
turns is_honest state failures was_refused old turn new = DoesShared is_honest state failures was_refused old.book.clerk.mark turn new.book.clerk.mark

abbrev pub logs_of : {L J R D : Type 0} → SharedLogs L J R D → ℕ
logs_of s = min (length s.logs.now) 255

-- what a worker's caller answers, over a clerk of the book, and over logs into which another clerk drains it
abbrev pub AsksBook : {L J R D K : Type 0} (is_honest : D → Bool) (state : D → DiskState) (failures : D → ℕ) (was_refused : D → Bool) → CallerRelation (DeskCaller L R (Clerk L J) (SharedLogs L J R D) K)
AsksBook is_honest state failures was_refused old e new =
    AsksDesk acts (λ x clerk y. LearnsSeen x.book.clerk.mark clerk.mark y.book.clerk.mark) (turns is_honest state failures was_refused) logs_of (asker_of old) e (asker_of new)

-- the pass of a worker, and its two clerks
abbrev pub pass_in : {L J R D : Type 0} → Served (SessionWorker L J R D) → Pass L
pass_in served = served.worker.caller.pass

abbrev pub clerks_in : {L J R D : Type 0} → Served (SessionWorker L J R D) → List (Clerk L J)
clerks_in served = served.worker.caller.desk ∷ served.worker.caller.keeper.logs.book.clerk ∷ []

-- what workers came back with: the answers of their passes, and all clerks with the turner's two
abbrev pub answers_in : {L J R D : Type 0} → List (Served (SessionWorker L J R D)) → ℕ
answers_in served = sum_by (λ one. (pass_in one).share.amount) served

abbrev pub all_clerks : {L J R D : Type 0} → Clerk L J → Clerk L J → List (Served (SessionWorker L J R D)) → List (Clerk L J)
all_clerks desk logs served = desk ∷ logs ∷ flat_map clerks_in served

-- A session over a caller. The requests of the bytes that were read were asked in their order, and then at most one more, of which nobody was told. If the session
-- ended as it should, all bytes were requests that were answered.
pub record IsSession {S : Type 0} (exchanges : CallerRelation S) (right : Bool) (old new : S) : Type 0 where
  pub read : Bytes
  pub rest : Bytes
  pub text : Bytes
  pub is_open : Bool
  pub mid : S
  pub transcript : Transcript exchanges read false old rest is_open mid text
  pub more : AsksAtMostOne exchanges is_open mid rest new
  pub whole : right ≡ true → (rest ≡ []) × (new ≡ mid)

-- something was done after which this holds of whoever did it
abbrev pub Within : {S E : Type 0} → (S → Type 0) → (S → E → S → Type 0) → S → E → S → Type 0
Within holds does old e new = does old e new × holds new

-- a clerk has seen a beginning of this history; so has the clerk of some logs; so have both clerks of a caller
abbrev pub SeesFront : {L J : Type 0} → List StateView → Clerk L J → Type 0
SeesFront history clerk = IsPrefix clerk.mark.log history

abbrev pub LogsSeeFront : {L J R D : Type 0} → List StateView → SharedLogs L J R D → Type 0
LogsSeeFront history logs = SeesFront history logs.book.clerk

abbrev pub SeeFronts : {L J R D K : Type 0} → List StateView → DeskCaller L R (Clerk L J) (SharedLogs L J R D) K → Type 0
SeeFronts history c = SeesFront history c.desk × LogsSeeFront history c.keeper.logs

-- a session of a worker, each exchange of which was made over beginnings of this history
abbrev pub IsSessionOver : {L J R D : Type 0} (is_honest : D → Bool) (state : D → DiskState) (failures : D → ℕ) (was_refused : D → Bool) → List StateView → SessionWorker L J R D → Bool → SessionWorker L J R D → Type 0
IsSessionOver is_honest state failures was_refused history old right new =
    IsSession (Within (SeeFronts history) (AsksBook is_honest state failures was_refused)) right old.caller new.caller

-- A turner's deeds led to what is left of it. Each period of its clerk, and each turn of a log, was made over a beginning of this history.
abbrev pub LeavesOver : {L J R D G : Type 0} (is_honest : D → Bool) (state : D → DiskState) (failures : D → ℕ) (was_refused : D → Bool) (calls : G → DigestCall → G → Type 0) (tenants : List TenantQuota) → List StateView
    → Turning (Clerk L J) (SharedLogs L J R D) G → Scanner (Clerk L J) → SharedLogs L J R D → Type 0
LeavesOver is_honest state failures was_refused calls tenants history turner desk logs =
    Leaves (Within (SeesFront history) acts) is_honest state failures (Within (LogsSeeFront history) (turns is_honest state failures was_refused)) logs_of calls tenants turner desk logs
