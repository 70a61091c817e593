-- When sessions over sorted maps have one text: what they must not ask, nor be told, and in what their maps agree.
use Rattle.std.specs.Prelude.{◌≡◌, ◌≢◌, ℕ, Option, Some, None}
use Rattle.mt_rows.specs.{declared.command.Command.Command, declared.command.Command.TheVariants.PutIf, declared.refusal.Refusal.TheVariants.{Memory, Spent}}
use Rattle.mt_rows.specs.{Maps.Map, Rows.{Bytes, Columns}, Stamps.Stamped}
use Rattle.mt_wire.specs.{declared.message.Request.Request, declared.message.Request.TheVariants.{Call, GetStamped}, declared.message.WireReply.WireReply, declared.message.WireReply.TheVariants.Told}
use Rattle.mt_session.specs.Sessions.{refused}
use Rattle.mt_alone.specs.TenantMaps.{TenantMaps}
use Rattle.mt_wire.specs.declared.message.Shown.TheVariants as shown
use Rattle.std.specs.FinMap as pairs

-- a reply that tells of no want of memory or of numbers
abbrev pub IsAmple : WireReply → Type 0
IsAmple reply = (reply ≢ Told shown.NoMemory) × (reply ≢ refused Memory) × (reply ≢ refused Spent)

-- a command that asks for no stamp, and a request that neither asks for one nor for one to be shown
abbrev pub IsWithoutStamp : Command → Type 0
IsWithoutStamp (PutIf key stamp change) = ⊥
IsWithoutStamp _ = Unit {0}

abbrev pub AsksNoStamp : Request → Type 0
AsksNoStamp (Call command) = IsWithoutStamp command
AsksNoStamp (GetStamped key columns) = ⊥
AsksNoStamp _ = Unit {0}

-- the row that stands at a key, without its stamp
abbrev pub row_in : Option Stamped → Option Columns
row_in None = None
row_in (Some r) = Some r.row

-- two maps with the same rows, whatever their stamps
abbrev pub HaveSameRows : Map → Map → Type 0
HaveSameRows m n = (key : Bytes) → row_in (pairs.get m key) ≡ row_in (pairs.get n key)

-- the same tenants, and the same rows in each one's map; stamps and numbers may be others
pub record AreSameButStamps (d c : TenantMaps) : Type 0 where
  pub quotas : c.quotas ≡ d.quotas
  pub opened : c.opened ≡ d.opened
  pub rows : (t : ℕ) → HaveSameRows (d.maps t) (c.maps t)
