-- What holds of every state, by what it shows.
use Rattle.std.specs.{Prelude.{◌≡◌, ℕ, ◌+◌, ◌<◌, ◌≤◌, true, Some, IsSome, length}, List.{All, Contains}, FinMap.len}
use Rattle.mt_rows.specs.{declared.tenants.Account.Account, Accounts.account_of, Commands.{key_of, IsKey}, Stamps.stamp_in, Tenants.tenant_map}
use Rattle.mt_tape.specs.{declared.entry.Entry.{Entry as TapeEntry}, Tapes.{RisesOver, last_write}, Histories.{IsLegalTape, after_of}}
use Rattle.mt_insert.specs.Puts.{MeetsStamp}
use Rattle.mt_remove.specs.Writes.{is_remove}
use Rattle.mt_border.specs.Contents.{AllStamped}
use Rattle.mt_arena.specs.{Contents.counts, Accesses.{at, tree_of}}
use Rattle.mt_operation.specs.{declared.outcome.Outcome.Outcome, Operations.OperationView, Phases.is_done}
use Rattle.mt_state.specs.{Views.{StateView, contents_of, op_at}, Steps.change_in, Promises.{IsAnswer, HasStep}, Invariant.{AreLogs, IsStampOf, made_count}}
use Rattle.mt_state.specs.Written.{KeepsQuotas, IsWritten, row_left, change_kept}

-- the steps of the tape rise over its floor and were made, each entry tells what its step did to a user's key, and it goes back as far as the logs need it
pub record IsRightTape (v : StateView) : Type 0 where
  pub rises : RisesOver v.tape.floor v.tape.entries
  pub made : last_write v.tape ≤ v.steps
  pub legal : IsLegalTape v.tape.entries (contents_of v)
  pub keys : All (λ e. IsKey e.key) v.tape.entries
  pub logs : AreLogs v.logs v.tape.floor v.steps

-- A change that an operation has placed has an entry of its step, worker, tenant and key. The row after it is the one that the command leaves over the one before.
-- That one was there if it removes, and had the stamp that the command asks for, if it asks for one. Over a row that was there a put's entry keeps the change.
pub record HasEntry (v : StateView) (op : OperationView) (step : ℕ) : Type 0 where
  pub entry : TapeEntry
  pub there : Contains v.tape.entries entry
  pub step_is : entry.step ≡ step
  pub worker : entry.worker ≡ op.worker
  pub tenant : entry.tenant ≡ op.tenant
  pub key_is : entry.key ≡ key_of op.command
  pub makes : after_of entry ≡ row_left entry.step op.command entry.before
  pub keeps : entry.change ≡ change_kept op.command entry.before
  pub was : is_remove op.command ≡ true → IsSome entry.before
  pub met : MeetsStamp op.command (stamp_in entry.before)

-- what holds of an operation: the tape goes back before its first step, its reply is right once it is finished, and its change has its entry
pub record IsRightOperation (v : StateView) (op : OperationView) : Type 0 where
  pub floor : 0 < op.first → v.tape.floor < op.first
  pub answer : is_done op.phase ≡ true → (told : Outcome) × (op.outcome ≡ Some told) × IsAnswer v op told
  pub placed : (m : ℕ) → change_in op ≡ Some m → HasEntry v op m

-- a tenant's count is the number of its pairs, at most its quota
pub record IsRightAccount (v : StateView) (tenant : ℕ) (account : Account) : Type 0 where
  pub count : account.count ≡ len (tenant_map tenant (contents_of v))
  pub quota : account.count ≤ account.quota

-- each pair that counts has the stamp of the step that placed it
abbrev pub AreRightStamps : StateView → Type 0
AreRightStamps v =
    (k : ℕ) → k < length v.arena.nodes → counts v.arena.trees (at v.arena k) ≡ true → AllStamped (IsStampOf v.steps v.tape) (tree_of v.arena k).prefix (at v.arena k).slots

-- All of it; each answer that was taken, and each operation that has made a step, made one of its own; who holds a node is an operation that has a
-- step left; every map since the tape's floor keeps its quota; and each entry of the tape is made by a change, also once its operation was taken.
pub record IsRightState (v : StateView) : Type 0 where
  pub answers : v.answers + made_count v.table ≤ v.steps
  pub tape : IsRightTape v
  pub operations : (o : ℕ) (op : OperationView) → op_at v.table o ≡ Some op → IsRightOperation v op
  pub accounts : (t : ℕ) (account : Account) → account_of v.accounts t ≡ Some account → IsRightAccount v t account
  pub holders : (k o : ℕ) → k < length v.arena.nodes → (at v.arena k).holder ≡ Some o → HasStep v o
  pub quotas : KeepsQuotas v
  pub written : (e : TapeEntry) → Contains v.tape.entries e → IsWritten v e
  pub stamps : AreRightStamps v
