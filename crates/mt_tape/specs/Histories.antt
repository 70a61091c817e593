-- The pairs of all tenants after each step, by the present ones and the writes of a tape.
use Rattle.std.specs.{Prelude.{◌≡◌, ◌≢◌, ℕ, ◌<◌, ◌≤◌, ◌==◌, Bool, List, [], ◌∷◌, Option, Some, None}, List.{list_any, All}, declared.cmp.Ordering.Ordering}
use Rattle.std.specs.{FinMap.FinMap, Option.option_map}
use Rattle.mt_rows.specs.{Rows.{Bytes, Columns}, Maps.Map, Tenants.{Contents, tenant_map}, Changes.Named, Stamps.Stamped}
use Rattle.mt_rows.specs.{declared.record.Write.TheVariants.{Changed, Removed, Whole}, declared.record.Write.Write}
use Rattle.mt_tape.specs.{declared.entry.Entry.Entry, Tapes.{last_step_over, later_entries}}
use Rattle.std.specs.FinMap as pairs

-- a map with this row at a key, or with none there
abbrev pub with_row : {K : Type 0} {R : K → K → Ordering} → FinMap R Stamped → K → Option Stamped → FinMap R Stamped
with_row m key None = pairs.remove m key
with_row m key (Some row) = pairs.insert m key row

-- the key that an entry wrote, with its tenant
abbrev pub written_key : Entry → ℕ × Bytes
written_key e = (e.tenant, e.key)

-- what stands at a written key after the write: its row, stamped with the step
abbrev pub after_of : Entry → Option Stamped
after_of e = option_map (λ row. record { stamp = e.step; row = row }) e.after

-- what a log tells of a row that was written: the columns that were changed, if a row was there and the change is kept
abbrev pub logged_by : Option Stamped → Option Named → Columns → Write
logged_by (Some was) (Some change) row = Changed change
logged_by _ _ row = Whole row

-- and of a row after a write, or of none
abbrev pub logged_of : Option Columns → Option Stamped → Option Named → Write
logged_of None before change = Removed
logged_of (Some row) before change = logged_by before change row

-- what a log tells of a write: a removal, a new row, or the columns that were changed
abbrev pub logged : Entry → Write
logged e = logged_of e.after e.before e.change

-- the pairs after a write
abbrev pub with_write : Contents → Entry → Contents
with_write contents e = with_row contents (written_key e) (after_of e)

-- the pairs with a write undone
abbrev pub without_write : Contents → Entry → Contents
without_write contents e = with_row contents (written_key e) e.before

-- the pairs with the writes of a list undone, the last one first
abbrev pub undone : List Entry → Contents → Contents
undone [] contents = contents
undone (e ∷ entries) contents = without_write (undone entries contents) e

-- the pairs of all tenants after step m, by those of now
abbrev pub contents_at : List Entry → Contents → ℕ → Contents
contents_at entries contents m = undone (later_entries m entries) contents

-- a tenant's map after step m, by the pairs of now
abbrev pub map_at : List Entry → Contents → ℕ → ℕ → Map
map_at entries contents t m = tenant_map t (contents_at entries contents m)

-- whether step m wrote
abbrev pub is_changed : List Entry → ℕ → Bool
is_changed entries m = list_any (λ e. e.step == m) entries

-- after its step, the key of each entry had the row that the entry tells
abbrev pub IsLegalTape : List Entry → Contents → Type 0
IsLegalTape entries contents = All (λ e. pairs.get (contents_at entries contents e.step) (written_key e) ≡ after_of e) entries

-- an entry may come next: its step is over those of all others, and the row before it is the one of now
pub record IsNextWrite (floor : ℕ) (entries : List Entry) (contents : Contents) (e : Entry) : Type 0 where
  pub later : last_step_over floor entries < e.step
  pub before : pairs.get contents (written_key e) ≡ e.before

-- no step after m and up to n wrote
abbrev pub IsQuietStep : List Entry → ℕ → ℕ → Type 0
IsQuietStep entries m n = All (λ e. m < e.step → n < e.step) entries

-- no step after m and up to n wrote a key of this tenant
abbrev pub IsQuietFor : ℕ → List Entry → ℕ → ℕ → Type 0
IsQuietFor t entries m n = All (λ e. m < e.step → e.step ≤ n → e.tenant ≢ t) entries

-- no step after m wrote this key
abbrev pub IsUnwrittenSince : List Entry → ℕ × Bytes → ℕ → Type 0
IsUnwrittenSince entries key m = All (λ e. m < e.step → written_key e ≢ key) entries
