-- What commands of numbers and of stamps ask.
use Rattle.std.specs.Prelude.{ℕ, ◌-◌, ◌^◌, List, [], ◌∷◌, Option, Some, None}
use Rattle.mt_resp.specs.{Grammar.Bytes, Failing.{failed, miscounted}, Arguments.{number_of, amount_of, turned}, Making.get, SetOptions.put_at}
use Rattle.mt_resp.specs.declared.{asked.Asked.Asked, names.NumberName.NumberName, arguments.Amount.Amount}
use Rattle.mt_resp.specs.declared.asked.Asked.TheVariants as asks
use Rattle.mt_resp.specs.declared.asked.Edit.TheVariants as edits
use Rattle.mt_resp.specs.declared.told.Failure.TheVariants as failures
use Rattle.mt_resp.specs.declared.told.Shape.TheVariants as shapes
use Rattle.mt_resp.specs.declared.arguments.Amount.TheVariants as amounts
use Rattle.mt_resp.specs.declared.names.NumberName.TheVariants as names

-- the number in a column goes up or down
abbrev pub add_asked : Bytes → ℕ → Option Amount → Asked
add_asked key index None = failed failures.NoInteger
add_asked key index (Some amount) = asks.Change key (edits.Add index amount)

-- DECRBY: the other way
abbrev pub subtract_asked : Bytes → Option Amount → Asked
subtract_asked key None = failed failures.NoInteger
subtract_asked key (Some amount) = asks.Change key (edits.Add 0 (turned amount))

-- what commands of numbers and of stamps ask
abbrev pub numbers_asked : Bytes → NumberName → List Bytes → Asked
numbers_asked word names.Up (key ∷ []) = asks.Change key (edits.Add 0 (amounts.Up 1))
numbers_asked word names.UpBy (key ∷ amount ∷ []) = add_asked key 0 (amount_of amount)
numbers_asked word names.Down (key ∷ []) = asks.Change key (edits.Add 0 (amounts.Down 1))
numbers_asked word names.DownBy (key ∷ amount ∷ []) = subtract_asked key (amount_of amount)
numbers_asked word names.GetStamped (key ∷ []) = asks.Call (get key) shapes.Stamped
numbers_asked word names.PutIf (key ∷ stamp ∷ value ∷ []) = put_at key (number_of (2 ^ 64 - 1) stamp) value shapes.Changed
numbers_asked word name words = miscounted word
