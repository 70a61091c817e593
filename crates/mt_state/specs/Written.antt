-- What holds of every number that the tape goes back to, and of every entry of the tape.
use Rattle.std.specs.{Prelude.{◌≡◌, ℕ, ◌-◌, ◌≤◌, ◌⊎◌, Option, Some, None, IsSome}, Option.option_map, FinMap.len}
use Rattle.mt_rows.specs.{declared.tenants.Account.Account, declared.command.Command.Command, declared.command.Command.TheVariants.{Put, PutIf, Remove}}
use Rattle.mt_rows.specs.{Changes.{Named, IsChange}, Stamps.{Stamped, written}, Accounts.account_of}
use Rattle.mt_tape.specs.{declared.entry.Entry.{Entry as TapeEntry}, Histories.after_of}
use Rattle.mt_state.specs.Views.{StateView, map_of}
use Rattle.std.specs.FinMap as pairs

-- each tenant had at most its quota of pairs after every step from the tape's floor on
abbrev pub KeepsQuotas : StateView → Type 0
KeepsQuotas v = (t m : ℕ) (a : Account) → account_of v.accounts t ≡ Some a → v.tape.floor ≤ m → m ≤ v.steps → len (map_of v t m) ≤ a.quota

-- the row that the change of a command leaves at its key, made by the step of this number over this one, or over none
abbrev pub row_left : ℕ → Command → Option Stamped → Option Stamped
row_left number (Put key change) before = Some (written number change before)
row_left number (PutIf key stamp change) before = Some (written number change before)
row_left number (Remove key) before = None
row_left number _ before = before

-- the change that the entry of a command keeps, by the row before it: that of a put over a row that was there
abbrev pub change_kept : Command → Option Stamped → Option Named
change_kept (Put key change) before = option_map (λ was. change) before
change_kept (PutIf key stamp change) before = option_map (λ was. change) before
change_kept _ before = None

-- The row of an entry is what some change within its limits makes of the row before it, by the entry's step. It is the change that the entry keeps, if it keeps
-- one.
pub record IsMadeByPut (e : TapeEntry) : Type 0 where
  pub change : Named
  pub within : IsChange change
  pub makes : after_of e ≡ Some (written e.step change e.before)
  pub kept : (c : Named) → e.change ≡ Some c → c ≡ change

-- or there was a row, and none is left
pub record IsMadeByRemove (e : TapeEntry) : Type 0 where
  pub was : IsSome e.before
  pub gone : after_of e ≡ None

abbrev pub IsMadeByChange : TapeEntry → Type 0
IsMadeByChange e = IsMadeByPut e ⊎ IsMadeByRemove e

-- and the row before it is the one that the key had just before the entry's step
pub record IsWritten (v : StateView) (e : TapeEntry) : Type 0 where
  pub made : IsMadeByChange e
  pub before : pairs.get (map_of v e.tenant (e.step - 1)) e.key ≡ e.before
