-- What commands of strings ask.
use Rattle.std.specs.{Prelude.{true, List, [], ◌∷◌, map, Option, Some, None, ◌%◌, length, ◌==◌, if◌then◌else◌}}
use Rattle.mt_rows.specs.declared.command.Command.{Command}
use Rattle.mt_resp.specs.{Grammar.Bytes, Failing.{failed, miscounted}, Arguments.begins_path, Making.{get, change_of, puts}, SetOptions.{put_asked, replace_asked, set_asked}}
use Rattle.mt_resp.specs.declared.{asked.Asked.Asked, names.StringName.StringName}
use Rattle.mt_resp.specs.declared.asked.Asked.TheVariants as asks
use Rattle.mt_resp.specs.declared.asked.Edit.TheVariants as edits
use Rattle.mt_resp.specs.declared.asked.When.TheVariants as whens
use Rattle.mt_resp.specs.declared.told.Failure.TheVariants as failures
use Rattle.mt_resp.specs.declared.told.Shape.TheVariants as shapes
use Rattle.mt_resp.specs.declared.names.StringName.TheVariants as names

abbrev pub all_or_long : Option (List Command) → Asked
all_or_long None = failed failures.LongString
all_or_long (Some cs) = asks.All cs shapes.Put

-- MSET: each key has its value
abbrev pub each_asked : Bytes → List Bytes → Asked
each_asked word pairs = if length pairs % 2 == 1 then miscounted word else all_or_long (puts pairs)

-- a GET of two words: a browser's, if the first one is a path
abbrev pub page_asked : Bytes → Bytes → Asked
page_asked word path = if begins_path path then asks.Close else miscounted word

-- what commands of strings ask
abbrev pub strings_asked : Bytes → StringName → List Bytes → Asked
strings_asked word names.Get (key ∷ []) = asks.Call (get key) shapes.Value
strings_asked word names.Get (path ∷ version ∷ []) = page_asked word path
strings_asked word names.Set (key ∷ value ∷ options) = set_asked key value options
strings_asked word names.GetEach (key ∷ keys) = asks.Each (map get (key ∷ keys)) shapes.Value
strings_asked word names.SetEach (key ∷ value ∷ pairs) = each_asked word (key ∷ value ∷ pairs)
strings_asked word names.SetNew (key ∷ value ∷ []) = put_asked key (Some 0) shapes.Changed (change_of value)
strings_asked word names.Length (key ∷ []) = asks.Call (get key) shapes.Length
strings_asked word names.GetSet (key ∷ value ∷ []) = replace_asked key whens.Always true (change_of value)
strings_asked word names.GetTake (key ∷ []) = asks.Take key
strings_asked word names.Append (key ∷ value ∷ []) = asks.Change key (edits.Append value)
strings_asked word name words = miscounted word
