-- What commands of keys ask, whatever their rows.
use Rattle.std.specs.Prelude.{◌-◌, ◌^◌, true, false, ◌||◌, List, [], ◌∷◌, map, codes, if◌then◌else◌}
use Rattle.mt_rows.specs.declared.command.Command.TheVariants as commands
use Rattle.mt_resp.specs.{Grammar.Bytes, Names.is_named, Failing.{failed, miscounted}, Making.get, Arguments.number_of, ScanCommands.{count_of, scan_asked, range_asked}}
use Rattle.mt_resp.specs.declared.{asked.Asked.Asked, names.KeyName.KeyName}
use Rattle.mt_resp.specs.declared.asked.Asked.TheVariants as asks
use Rattle.mt_resp.specs.declared.asked.Status.TheVariants as statuses
use Rattle.mt_resp.specs.declared.told.Failure.TheVariants as failures
use Rattle.mt_resp.specs.declared.told.Shape.TheVariants as shapes
use Rattle.mt_resp.specs.declared.names.KeyName.TheVariants as names

-- FLUSHDB with its option: COUNT, ASYNC or SYNC
abbrev pub clear_asked : List Bytes → Asked
clear_asked [] = asks.Clear false
clear_asked (o ∷ []) =
    if is_named o (codes "count") then asks.Clear true else
    if is_named o (codes "async") || is_named o (codes "sync") then asks.Clear false else failed failures.Syntax
clear_asked options = failed failures.Syntax

-- what commands of keys ask
abbrev pub keys_asked : Bytes → KeyName → List Bytes → Asked
keys_asked word names.Remove (key ∷ []) = asks.Call (commands.Remove key) shapes.Removed
keys_asked word names.Remove (key ∷ other ∷ more) = asks.Sum (map (λ k. commands.Remove k) (key ∷ other ∷ more)) shapes.Removed
keys_asked word names.Has (key ∷ []) = asks.Call (get key) shapes.Presence
keys_asked word names.Has (key ∷ other ∷ more) = asks.Sum (map get (key ∷ other ∷ more)) shapes.Presence
keys_asked word names.Kind (key ∷ []) = asks.Call (get key) shapes.Kind
keys_asked word names.Scan (cursor ∷ options) = scan_asked (number_of (2 ^ 64 - 1) cursor) options
keys_asked word names.Range (from ∷ count ∷ options) = range_asked from (count_of count) options
keys_asked word names.Count [] = asks.Status statuses.Count
keys_asked word names.Clear options = clear_asked options
keys_asked word name words = miscounted word
