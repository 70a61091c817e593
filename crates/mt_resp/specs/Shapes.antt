-- What a client is told of a reply of the store.
use Rattle.std.specs.{Prelude.{ℕ, ◌-◌, Bool, not, List, length, take, Some, None, nat_lt, if◌then◌else◌}, List.list_all}
use Rattle.mt_rows.specs.{Rows.{Columns, column}, Stamps.Stamped, declared.reply.Reply.Reply}
use Rattle.mt_rows.specs.declared.reply.Reply.TheVariants as replies
use Rattle.mt_resp.specs.{Strings.value_of, declared.told.{Told.Told, Shape.Shape, Kind.Kind}}
use Rattle.mt_resp.specs.declared.told.Told.TheVariants as told
use Rattle.mt_resp.specs.declared.told.Kind.TheVariants as kinds
use Rattle.mt_resp.specs.declared.told.Failure.TheVariants as failures
use Rattle.mt_resp.specs.declared.told.Shape.TheVariants as shapes

-- columns that no string ends in
abbrev pub are_full : Columns → Bool
are_full columns = list_all (λ c. not (nat_lt (length c) 1024)) columns

-- a row is a string if all columns before its last one are full
abbrev pub kind_of : Columns → Kind
kind_of columns = if are_full (take (length columns - 1) columns) then kinds.String else kinds.Hash

-- what is told of a row that a get found
abbrev pub told_of_row : Shape → Stamped → Told
told_of_row shapes.Value row = told.Value row
told_of_row shapes.Stamped row = told.Stamped row
told_of_row (shapes.Column i) row = told.Column row i
told_of_row shapes.Fields row = told.Fields row
told_of_row shapes.Width row = told.Number (length row.row)
told_of_row shapes.Length row = told.Number (length (value_of row.row))
told_of_row (shapes.ColumnLength i) row = told.Number (length (column row.row i))
told_of_row (shapes.HasColumn i) row = told.Number (if nat_lt i (length row.row) then 1 else 0)
told_of_row shapes.Presence row = told.Number 1
told_of_row shapes.Kind row = told.Kind (kind_of row.row)
told_of_row shape row = told.Failed failures.Strange

-- A put that finds no room, and any command without memory, is told as such. A get of a key that isn't there is told nil,
-- an empty list or 0; a put that asks for another stamp is told nil or 0.
abbrev pub told_of : Shape → Reply → Told
told_of shape replies.Full = told.Failed failures.OverQuota
told_of shape replies.NoMemory = told.Failed failures.NoMemory
told_of shape (replies.Found row) = told_of_row shape row
told_of shapes.Value replies.Absent = told.Nil
told_of shapes.Stamped replies.Absent = told.Nil
told_of (shapes.Column i) replies.Absent = told.Nil
told_of shapes.Fields replies.Absent = told.Empty
told_of shapes.Kind replies.Absent = told.Kind kinds.Nothing
told_of shapes.Width replies.Absent = told.Number 0
told_of shapes.Length replies.Absent = told.Number 0
told_of (shapes.ColumnLength i) replies.Absent = told.Number 0
told_of (shapes.HasColumn i) replies.Absent = told.Number 0
told_of shapes.Presence replies.Absent = told.Number 0
told_of shapes.Removed replies.Absent = told.Number 0
told_of shapes.Removed replies.Removed = told.Number 1
told_of shapes.Put replies.New = told.Fine
told_of shapes.Put replies.Replaced = told.Fine
told_of shapes.PutIf replies.New = told.Fine
told_of shapes.PutIf replies.Replaced = told.Fine
told_of shapes.PutIf (replies.Stale stamp) = told.Nil
told_of shapes.Changed replies.New = told.Number 1
told_of shapes.Changed replies.Replaced = told.Number 1
told_of shapes.Changed (replies.Stale stamp) = told.Number 0
told_of (shapes.PutCounted n) replies.New = told.Number n
told_of (shapes.PutCounted n) replies.Replaced = told.Number 0
told_of shape reply = told.Failed failures.Strange

-- what is told of columns that a client named
abbrev pub picked_of : Reply → List ℕ → Told
picked_of (replies.Found row) indexes = told.Picked (Some row) indexes
picked_of replies.Absent indexes = told.Picked None indexes
picked_of replies.NoMemory indexes = told.Failed failures.NoMemory
picked_of reply indexes = told.Failed failures.Strange
