-- The invariant of a state, and what a step of one operation leaves of it to all others.
use Rattle.std.specs.{Prelude.{◌≡◌, ℕ, ◌+◌, ◌==◌, ◌≤◌, ◌<◌, ◌^◌, true, if◌then◌else◌, List, [], ◌∷◌, length, Option, Some, None, IsSome}, List.{All, Contains}}
use Rattle.std.specs.FinMap.{len}
use Rattle.mt_rows.specs.{declared.tenants.Account.Account, Rows.Bytes, Commands.IsKey, Accounts.account_of, Tenants.tenant_map}
use Rattle.mt_border.specs.Contents.{AllStamped}
use Rattle.mt_tape.specs.{declared.entry.Entry.{Entry as TapeEntry}, Tapes.{Kept, RisesOver, last_write}}
use Rattle.mt_tape.specs.Histories.{IsLegalTape, IsUnwrittenSince, written_key}
use Rattle.mt_arena.specs.{NodeView.NodeView, Given.AreOutUpTo, Arena.{ArenaView, content_of, Guarantee}, Contents.counts, Accesses.{at, tree_of}}
use Rattle.mt_operation.specs.{declared.phase.Phase.Phase, Phases.{Holding, Free, Border, Parts, Emptied, Last, row, is_prepared, holds_of}}
use Rattle.mt_operation.specs.{declared.splits.Halves.Halves, declared.operation.Operation.Operation, Tables.{Table, op_at as operation_at}}
use Rattle.mt_operation.specs.Operations.{OperationView}
use Rattle.mt_descent.specs.{Pasts.ExtendsPast, KeptBack.RetiresAfter}
use Rattle.mt_state.specs.{Views.{Shown, Core, shown, past_of, KeepsPast}, KeptOperations.{IsKeptOf, IsScanKept}, KeptBack.IsKeptBack, Given.ChangesArena}
use Rattle.mt_state.specs.Written.{KeepsQuotas, IsMadeByChange}
use Rattle.mt_insert.specs.KeptSplits.{IsAmong}
use Rattle.mt_remove.specs.KeptRemovals.{IsAmong as IsOfRemoval}

-- the logs, at most 64: each was given its worker's changes up to a step that was made, and the tape goes back to that
pub record AreLogs (logs : List ℕ) (floor steps : ℕ) : Type 0 where
  pub few : length logs ≤ 64
  pub made : All (λ m. m ≤ steps) logs
  pub reached : All (λ m. floor ≤ m) logs

-- the tape: its steps rise and were made, each entry tells what its step did to a user's key, and it goes back as far as the logs need it
pub record IsTape (c : Core) : Type 0 where
  pub rises : RisesOver c.tape.floor c.tape.entries
  pub made : last_write c.tape ≤ c.steps
  pub legal : IsLegalTape c.tape.entries (content_of c.arena)
  pub keys : All (λ e. IsKey e.key) c.tape.entries
  pub logs : AreLogs c.logs c.tape.floor c.steps

-- a step is the one that placed a key's row: it was made, the key was not written after it, and the tape has its write where it goes back so far
abbrev pub IsStampOf : ℕ → Kept → ℕ × Bytes → ℕ → Type 0
IsStampOf steps tape q s =
    (s ≤ steps) × IsUnwrittenSince tape.entries q s × (tape.floor < s → (e : TapeEntry) × Contains tape.entries e × (e.step ≡ s) × (written_key e ≡ q))

-- each pair that counts has the stamp of the step that placed it
abbrev pub AreStamps : Core → Type 0
AreStamps c =
    (k : ℕ) → k < length c.arena.nodes → counts c.arena.trees (at c.arena k) ≡ true → AllStamped (IsStampOf c.steps c.tape) (tree_of c.arena k).prefix (at c.arena k).slots

-- no node's version counts more changes than steps were made
pub record IsCountedUpTo (steps : ℕ) (n : NodeView) : Type 0 where
  pub inserts : n.version.inserts ≤ steps
  pub splits : n.version.splits ≤ steps

abbrev pub AreVersions : Core → Type 0
AreVersions c = (k : ℕ) → k < length c.arena.nodes → IsCountedUpTo c.steps (at c.arena k)

-- a node that an operation holds that is to give its locks back: its border node or one of its removal where nothing was split, else those of the splits
abbrev pub HoldsLast : List Halves → Operation → ℕ → Type 0
HoldsLast [] op k = IsOfRemoval op.walk op.removal k
HoldsLast (_ ∷ _) op k = IsAmong op.splits k

-- a node that an operation holds, by what its phase holds
abbrev pub HoldsBy : Holding → Operation → ℕ → Type 0
HoldsBy Free op k = ⊥
HoldsBy Border op k = k ≡ op.walk.place.node
HoldsBy Parts op k = IsAmong op.splits k
HoldsBy Emptied op k = IsOfRemoval op.walk op.removal k
HoldsBy Last op k = HoldsLast op.splits.halves.items op k

abbrev pub HoldsAt : Phase → Operation → ℕ → Type 0
HoldsAt p op k = HoldsBy (holds_of (row p).kind) op k

-- who holds a node is an operation that is there, at a phase in which it holds that node
abbrev pub AreHolders : Core → Type 0
AreHolders c = (k o : ℕ) → k < length c.arena.nodes → (at c.arena k).holder ≡ Some o →
    (op : Operation) × (operation_at c.table o ≡ Some op) × HoldsAt op.walk.phase op k

-- how many operations have
abbrev pub one_if_prepared : Option Operation → ℕ
one_if_prepared None = 0
one_if_prepared (Some op) = if is_prepared op.walk.phase then 1 else 0

abbrev pub prepared_count : Table → ℕ
prepared_count [] = 0
prepared_count (op ∷ table) = one_if_prepared op + prepared_count table

-- whether an operation has made a step, as a number
abbrev pub one_if_made : Option OperationView → ℕ
one_if_made None = 0
one_if_made (Some op) = if op.first == 0 then 0 else 1

-- how many operations have
abbrev pub made_count : Shown → ℕ
made_count [] = 0
made_count (op ∷ table) = one_if_made op + made_count table

-- each tenant's count is the number of its pairs, at most its quota
abbrev pub AreCounted : Core → Type 0
AreCounted c = (t : ℕ) (a : Account) → account_of c.accounts t ≡ Some a → (a.count ≡ len (tenant_map t (content_of c.arena))) × (a.count ≤ a.quota)

-- what is kept of all operations
abbrev pub AreKept : Core → Type 0
AreKept c = (o : ℕ) (op : Operation) → operation_at c.table o ≡ Some op → IsKeptOf c o op

-- and what the scans have done
abbrev pub AreScansKept : Core → Type 0
AreScansKept c = (o : ℕ) (op : Operation) → operation_at c.table o ≡ Some op → IsScanKept c op

-- and what they remember
abbrev pub AreKeptBack : Core → Type 0
AreKeptBack c = (o : ℕ) (op : Operation) → operation_at c.table o ≡ Some op → IsKeptBack c.arena o op

-- a node that was taken out has no slots
abbrev pub DeletedAreEmpty : ArenaView → Type 0
DeletedAreEmpty v = (k : ℕ) → k < length v.nodes → (at v k).version.deleted ≡ true → (at v k).slots ≡ []

-- the invariant; `IsArena` is the arena's own; by `answered` each answer that was taken, and each operation that has made a step, has a step of its own;
-- by `late` all that is out was taken out by a step that was made; by `remembered` what an operation remembers was not, or after its birth
pub record StateInvariant (c : Core) : Type 0 where
  pub tape : IsTape c
  pub stamps : AreStamps c
  pub versions : AreVersions c
  pub holders : AreHolders c
  pub counts : AreCounted c
  pub ops : AreKept c
  pub scans : AreScansKept c
  pub reserved : c.tape.reserved ≡ prepared_count c.table
  pub answered : c.answers + made_count (shown c).table ≤ c.steps
  pub deleted : DeletedAreEmpty c.arena
  pub late : AreOutUpTo c.steps c.arena.retired
  pub remembered : AreKeptBack c
  pub few : c.steps ≤ 2 ^ 59
  pub quotas : KeepsQuotas (shown c)
  pub written : All IsMadeByChange c.tape.entries

-- what a step of operation o leaves to all others: of the arena what `ChangesArena` says; the past stands, no account is lost, and the tape goes as far back
pub record StateGuarantee (old new : Core) (o : ℕ) : Type 0 where
  pub arena : ChangesArena (shown old) o new.arena
  pub grows : KeepsPast (shown old) (shown new)
  pub past : ExtendsPast 0 (past_of old) (past_of new)
  pub writes : (e : TapeEntry) → Contains old.tape.entries e → Contains new.tape.entries e
  pub accounts : (t : ℕ) → IsSome (account_of old.accounts t) → IsSome (account_of new.accounts t)
  pub floor : new.tape.floor ≡ old.tape.floor
