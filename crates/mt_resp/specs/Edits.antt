-- What is made of a row that was read, and what is told of it.
use Rattle.std.specs.Prelude.{ℕ, Bool, true, false, [], ◌∷◌, ◌++◌, length, Option, Some, None, if◌then◌else◌}
use Rattle.mt_rows.specs.{Rows.column, Changes.Named, Stamps.{Stamped, columns_in}}
use Rattle.mt_resp.specs.{Grammar.Bytes, Strings.value_of, Making.change_of, Numbers.{signed_of, sum_of, spelling}}
use Rattle.mt_resp.specs.declared.{asked.{Edit.Edit, When.When}, told.Told.Told, edits.Edited.Edited, arguments.Amount.Amount}
use Rattle.mt_resp.specs.declared.asked.Edit.TheVariants as edits
use Rattle.mt_resp.specs.declared.asked.When.TheVariants as whens
use Rattle.mt_resp.specs.declared.told.Told.TheVariants as told
use Rattle.mt_resp.specs.declared.told.Failure.TheVariants as failures
use Rattle.mt_resp.specs.declared.edits.Edited.TheVariants as edited

-- a put is done at such a key
abbrev pub is_put : When → Option Stamped → Bool
is_put whens.Always found = true
is_put whens.New None = true
is_put whens.New (Some row) = false
is_put whens.There None = false
is_put whens.There (Some row) = true

-- the string that was there, or nil
abbrev pub old_string : Option Stamped → Told
old_string None = told.Nil
old_string (Some row) = told.Value row

-- a put of columns, if the key is as asked
abbrev pub put_edited : Named → When → Bool → Option Stamped → Edited
put_edited change when shows_old found =
    if is_put when found
    then edited.Put change (if shows_old then old_string found else told.Fine)
    else edited.Kept (if shows_old then old_string found else told.Nil)

-- a put of a longer string, if it isn't too long
abbrev pub longer_edited : ℕ → Option Named → Edited
longer_edited len None = edited.Kept (told.Failed failures.LongString)
longer_edited len (Some change) = edited.Put change (told.Number len)

abbrev pub string_edited : Bytes → Edited
string_edited value = longer_edited (length value) (change_of value)

-- a put of a number into a column
abbrev pub sum_edited : ℕ → Option Amount → Edited
sum_edited index None = edited.Kept (told.Failed failures.Overflow)
sum_edited index (Some sum) = edited.Put ((index, spelling sum) ∷ []) (told.Signed sum)

-- a number goes up or down
abbrev pub add_edited : ℕ → Option Amount → Amount → Edited
add_edited index None amount = edited.Kept (told.Failed failures.NoInteger)
add_edited index (Some number) amount = sum_edited index (sum_of number amount)

-- what an edit makes of the row that was found, or of none
abbrev pub edited_of : Edit → Option Stamped → Edited
edited_of (edits.Put change when shows_old) found = put_edited change when shows_old found
edited_of (edits.Append word) found = string_edited (value_of (columns_in found) ++ word)
edited_of (edits.Add index amount) found = add_edited index (signed_of (column (columns_in found) index)) amount
