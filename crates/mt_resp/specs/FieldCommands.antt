-- What commands of a row's fields ask: a field is the index of a column.
use Rattle.std.specs.{Prelude.{ℕ, Bool, true, false, List, [], ◌∷◌, length, ◌%◌, Option, Some, None, ◌==◌, if◌then◌else◌}}
use Rattle.mt_rows.specs.Changes.{Named}
use Rattle.mt_rows.specs.declared.command.Command.TheVariants as commands
use Rattle.mt_resp.specs.{Grammar.Bytes, Failing.{failed, miscounted}, Arguments.{amount_of, column_of, are_fields}, Making.{get, named_from, columns_in}, NumberCommands.add_asked}
use Rattle.mt_resp.specs.declared.{asked.Asked.Asked, told.Shape.Shape, names.FieldName.FieldName, arguments.Amount.Amount}
use Rattle.mt_resp.specs.declared.asked.Asked.TheVariants as asks
use Rattle.mt_resp.specs.declared.told.Failure.TheVariants as failures
use Rattle.mt_resp.specs.declared.told.Shape.TheVariants as shapes
use Rattle.mt_resp.specs.declared.names.FieldName.TheVariants as names

abbrev pub put_shape : Bool → Named → Shape
put_shape counted named = if counted then shapes.PutCounted (length named) else shapes.Put

-- a put of the columns that are named
abbrev pub put_fields : Bytes → Bytes → List Bytes → Bool → Asked
put_fields word key pairs counted =
    if length pairs == 0 then miscounted word else
    if length pairs % 2 == 1 then miscounted word else
    if are_fields pairs then asks.Call (commands.Put key (named_from 16 0 pairs)) (put_shape counted (named_from 16 0 pairs)) else failed failures.NoField

-- in which of three ways one column is shown
abbrev pub column_shape : FieldName → ℕ → Shape
column_shape names.Has index = shapes.HasColumn index
column_shape names.Length index = shapes.ColumnLength index
column_shape name index = shapes.Column index

abbrev pub column_asked : FieldName → Bytes → Option ℕ → Asked
column_asked name key None = failed failures.NoField
column_asked name key (Some index) = asks.Call (get key) (column_shape name index)

abbrev pub columns_asked : Bytes → Option (List ℕ) → Asked
columns_asked key None = failed failures.NoField
columns_asked key (Some indexes) = asks.Pick (get key) indexes

abbrev pub add_to_field : Bytes → Option ℕ → Option Amount → Asked
add_to_field key None amount = failed failures.NoField
add_to_field key (Some index) amount = add_asked key index amount

-- what commands of fields ask
abbrev pub fields_asked : Bytes → FieldName → List Bytes → Asked
fields_asked word names.Put (key ∷ pairs) = put_fields word key pairs true
fields_asked word names.PutFine (key ∷ pairs) = put_fields word key pairs false
fields_asked word names.Get (key ∷ field ∷ []) = column_asked names.Get key (column_of field)
fields_asked word names.Has (key ∷ field ∷ []) = column_asked names.Has key (column_of field)
fields_asked word names.Length (key ∷ field ∷ []) = column_asked names.Length key (column_of field)
fields_asked word names.GetSome (key ∷ field ∷ fields) = columns_asked key (columns_in (field ∷ fields))
fields_asked word names.GetAll (key ∷ []) = asks.Call (get key) shapes.Fields
fields_asked word names.Width (key ∷ []) = asks.Call (get key) shapes.Width
fields_asked word names.UpBy (key ∷ field ∷ amount ∷ []) = add_to_field key (column_of field) (amount_of amount)
fields_asked word name words = miscounted word
