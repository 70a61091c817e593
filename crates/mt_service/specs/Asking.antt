-- What a caller over a desk may answer to a session.
use Rattle.std.specs.Prelude.{◌≡◌, ℕ, ◌+◌, ◌<◌, List, Option, Some, None, Result, Ok, Err, IfOk}
use Rattle.mt_rows.specs.{declared.command.Command.Command, declared.reply.Reply.Reply, declared.refusal.Refusal.Refusal}
use Rattle.mt_rows.specs.declared.refusal.Refusal.TheVariants.{NoTenant, NotOpen}
use Rattle.mt_runs.specs.declared.event.Answer.{Answer}
use Rattle.mt_options.specs.{declared.tenants.TenantQuota.TenantQuota, Tenants.IsListed}
use Rattle.mt_book.specs.{declared.calls.CallFault.CallFault, Periods.Period, Calls.{Calls, asked_by, answers_of}}
use Rattle.mt_settle.specs.{Turns.Turn, Settles.Settles}
use Rattle.mt_stored.specs.{Keeping.{Kept, Counts}, Checkpoints.seen_after}
use Rattle.mt_caller.specs.{declared.caller.CallerFault.CallerFault, declared.caller.CallerFault.TheVariants.Refused}
use Rattle.mt_caller.specs.Exchanges.{Exchange, Opens, Calls as CallsFor, Settles as SettlesFor}
use Rattle.mt_service.specs.Telling.{told_of}

-- a caller between two exchanges: its desk, its pass with the last step that it knows of and the answers that it counts, the tenants that are
-- served, the one that is opened, and what its answers are kept in
pub record Asker (S K : Type 0) : Type 0 where
  pub desk : S
  pub worker : ℕ
  pub seen : ℕ
  pub counted : ℕ
  pub tenants : List TenantQuota
  pub opened : Option ℕ
  pub kept : Kept K

abbrev pub asker : {S K : Type 0} → S → ℕ → ℕ → ℕ → List TenantQuota → Option ℕ → Kept K → Asker S K
asker desk worker seen counted tenants opened kept =
    record { desk = desk; worker = worker; seen = seen; counted = counted; tenants = tenants; opened = opened; kept = kept }

-- A tenant is opened exactly if it is served; of another one NoTenant is told, and nothing changes.
abbrev pub OpensTenant : {S K : Type 0} → Asker S K → ℕ → Option Refusal → Asker S K → Type 0
OpensTenant old tenant None new = IsListed old.tenants tenant × (new ≡ record old { opened = Some tenant })
OpensTenant old tenant (Some refusal) new = (refusal ≡ NoTenant tenant) × (¬ IsListed old.tenants tenant) × (new ≡ old)

-- what a call makes of what its answers are kept in: an answer is counted, and with each 1,024th logs have their turns
abbrev pub KeepsAnswer : {K : Type 0} → (K → Turn → K → Type 0) → (K → ℕ) → Kept K → Result Answer CallFault → Kept K → Type 0
KeepsAnswer keeps logs old (Ok answer) new = Counts keeps logs old new
KeepsAnswer keeps logs old (Err fault) new = new ≡ old

-- The command is asked of the desk by one call, of the pass's worker and for the opened tenant; the session is told what came of it. An answer is one
-- to this command, begun after all steps that the pass knew of, and it is counted.
pub record AsksCall {S K : Type 0} (does : S → Period → S → Type 0) (keeps : K → Turn → K → Type 0) (logs : K → ℕ) (old new : Asker S K) (tenant : ℕ) (command : Command) (told : Result Reply CallerFault) : Type 0 where
  pub result : Result Answer CallFault
  pub calls : Calls does old.desk new.desk old.seen (asked_by old.worker tenant command) result
  pub told_is : told ≡ told_of result
  pub command_is : IfOk result (λ answer. answer.command ≡ command)
  pub later : IfOk result (λ answer. old.seen < answer.first)
  pub seen : new.seen ≡ seen_after old.seen result
  pub counted : new.counted ≡ old.counted + answers_of result
  pub worker : new.worker ≡ old.worker
  pub tenants : new.tenants ≡ old.tenants
  pub opened : new.opened ≡ old.opened
  pub kept : KeepsAnswer keeps logs old.kept result new.kept

-- a command is one of the opened tenant; if none is opened, it is refused
abbrev pub AsksOpened : {S K : Type 0} → (S → Period → S → Type 0) → (K → Turn → K → Type 0) → (K → ℕ) → Asker S K → Option ℕ → Command → Result Reply CallerFault → Asker S K → Type 0
AsksOpened does keeps logs old (Some tenant) command told new = AsksCall does keeps logs old new tenant command told
AsksOpened does keeps logs old None command told new = (told ≡ Err (Refused NotOpen)) × (new ≡ old)

-- The logs learn what the desk has seen. A Settle is then told what a Settle of all logs tells, and changes these alone; if there are no logs it is refused.
pub record AsksSettle {S K : Type 0} (learns : K → S → K → Type 0) (keeps : K → Turn → K → Type 0) (logs : K → ℕ) (old : Asker S K) (told : Result ℕ Refusal) (new : Asker S K) : Type 0 where
  pub learned : K
  pub learns_so : learns old.kept.logs old.desk learned
  pub settles : Settles keeps (logs learned) learned new.kept.logs told
  pub same : new ≡ record old { kept = record old.kept { logs = new.kept.logs } }

-- what the caller answers
abbrev pub AsksDesk : {S K : Type 0} → (S → Period → S → Type 0) → (K → S → K → Type 0) → (K → Turn → K → Type 0) → (K → ℕ) → Asker S K → Exchange → Asker S K → Type 0
AsksDesk does learns keeps logs old (Opens tenant refusal) new = OpensTenant old tenant refusal new
AsksDesk does learns keeps logs old (CallsFor command told) new = AsksOpened does keeps logs old old.opened command told new
AsksDesk does learns keeps logs old (SettlesFor told) new = AsksSettle learns keeps logs old told new
