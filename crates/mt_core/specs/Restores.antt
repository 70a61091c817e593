-- A state that begins with pairs, as a recovery leaves them.
use Rattle.std.specs.{Prelude.{◌≡◌, ℕ, ◌<◌, ◌≤◌, true, List, [], length, replicate, Some, None}, Option.option_map, BTreeMap.BTreeMap}
use Rattle.mt_rows.specs.{declared.command.Command.Command, declared.command.Command.TheVariants.Put, declared.record.TenantPair.TenantPair}
use Rattle.mt_rows.specs.{declared.tenants.Account.Account, Accounts.{Accounts, account_of}, Changes.indexed, Rows.Bytes, Stamps.{Stamped, StampsUpto}, Tenants.{Contents, tenant_map}}
use Rattle.mt_rows.specs.TenantPairs.{owner_of, pairs_of, IsTenantPair}
use Rattle.mt_border.specs.{Contents.AllStamped, Restamps.new_stamp}
use Rattle.mt_arena.specs.{NodeView.NodeView, Contents.counts, Accesses.{at, tree_of}, Renumbers.AreRestamped}
use Rattle.mt_state.specs.Views.{StateView, contents_of, op_at, granted}
use Rattle.std.specs.FinMap as pairs

-- no operation is open
abbrev pub IsIdle : StateView → Type 0
IsIdle v = (o : ℕ) → op_at v.table o ≡ None

-- the command that makes a pair where its key is missing
abbrev pub put_of : TenantPair → Command
put_of p = Put p.key (indexed 0 p.row.row)

-- the contents with a pair more
abbrev pub with_pair : TenantPair → Contents → Contents
with_pair p c = pairs.insert c (owner_of p) p.row

-- its row as the step of this number puts it, and the contents with that
abbrev pub row_put : TenantPair → ℕ → Stamped
row_put p number = record { stamp = number; row = p.row.row }

abbrev pub with_put : TenantPair → ℕ → Contents → Contents
with_put p number c = pairs.insert c (owner_of p) (row_put p number)

-- a pair may be put: it keeps the limits, its key is missing, and its tenant is there with room for it
pub record MayPut (v : StateView) (p : TenantPair) : Type 0 where
  pub limits : IsTenantPair p
  pub missing : pairs.get (contents_of v) (owner_of p) ≡ None
  pub most : ℕ
  pub there : granted v p.tenant ≡ Some most
  pub room : pairs.len (tenant_map p.tenant (contents_of v)) < most

-- A state has a pair more, which the step of this number put, and no operation open. It has as many logs as before, and the same tenants with their quotas.
pub record HasOneMore (old new : StateView) (p : TenantPair) (number : ℕ) : Type 0 where
  pub idle : IsIdle new
  pub logs : length new.logs ≡ length old.logs
  pub granted_so : (t : ℕ) → granted new t ≡ granted old t
  pub contents : contents_of new ≡ with_put p number (contents_of old)
  pub since : old.steps < number
  pub upto : number ≤ new.steps

-- A state has these contents now, but for the stamps. Its stamps are the numbers of the steps that filled it, and a list has the right one for each. No operation is
-- open. The state has as many logs as before, and the same tenants with their quotas.
pub record HasPut (old new : StateView) (stamps : BTreeMap ℕ ℕ) (now : Contents) : Type 0 where
  pub idle : IsIdle new
  pub logs : length new.logs ≡ length old.logs
  pub granted_so : (t : ℕ) → granted new t ≡ granted old t
  pub contents : AreRestamped (new_stamp stamps) (contents_of new) now
  pub upto : StampsUpto new.steps (contents_of new)

-- an account that counts so many pairs
abbrev pub counting : ℕ → Account → Account
counting count account = record account { count = count }

-- no change of a node is counted by its version
pub record IsUncounted (n : NodeView) : Type 0 where
  pub inserts : n.version.inserts ≡ 0
  pub splits : n.version.splits ≡ 0

-- the pair of a key has this stamp
abbrev pub IsStampIn : Contents → ℕ × Bytes → ℕ → Type 0
IsStampIn contents q s = option_map (λ r. r.stamp) (pairs.get contents q) ≡ Some s

-- A state that has made so many steps, and has these pairs alone, each with its stamp. The tenants are those of the list with their quotas, each counting its
-- pairs. No operation is open, no answer was taken, no version counts a change. The tape has no entry and begins at that step, and each of so many logs was
-- given all up to it.
pub record IsRestored (steps logs : ℕ) (accounts : Accounts) (ps : List TenantPair) (v : StateView) : Type 0 where
  pub steps_are : v.steps ≡ steps
  pub answers_are : v.answers ≡ 0
  pub logs_are : v.logs ≡ replicate logs steps
  pub tape_is : v.tape ≡ record { entries = []; floor = steps; reserved = 0 }
  pub table_is : v.table ≡ []
  pub contents_are : contents_of v ≡ pairs_of ps
  pub accounts_are : (t : ℕ) → account_of v.accounts t ≡ option_map (counting (pairs.len (tenant_map t (pairs_of ps)))) (account_of accounts t)
  pub stamps : (k : ℕ) → k < length v.arena.nodes → counts v.arena.trees (at v.arena k) ≡ true → AllStamped (IsStampIn (pairs_of ps)) (tree_of v.arena k).prefix (at v.arena k).slots
  pub versions : (k : ℕ) → k < length v.arena.nodes → IsUncounted (at v.arena k)
