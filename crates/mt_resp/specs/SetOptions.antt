-- What a SET asks, by its options.
use Rattle.std.specs.{Prelude.{ℕ, ◌-◌, ◌^◌, Bool, true, false, ◌||◌, List, [], ◌∷◌, codes, Option, Some, None, if◌then◌else◌}, List.list_any}
use Rattle.mt_rows.specs.{Changes.Named}
use Rattle.mt_resp.specs.{Grammar.Bytes, Names.is_named, Failing.failed, Arguments.number_of, Making.{change_of, put_of}}
use Rattle.mt_resp.specs.declared.{asked.{Asked.Asked, When.When}, told.Shape.Shape}
use Rattle.mt_resp.specs.declared.asked.Asked.TheVariants as asks
use Rattle.mt_resp.specs.declared.asked.Edit.TheVariants as edits
use Rattle.mt_resp.specs.declared.asked.When.TheVariants as whens
use Rattle.mt_resp.specs.declared.told.Failure.TheVariants as failures
use Rattle.mt_resp.specs.declared.told.Shape.TheVariants as shapes

-- a put of a string, of whatever stamp or of one
abbrev pub put_asked : Bytes → Option ℕ → Shape → Option Named → Asked
put_asked key stamp shape None = failed failures.LongString
put_asked key stamp shape (Some change) = asks.Call (put_of stamp key change) shape

-- a put that asks for the stamp that a word is
abbrev pub put_at : Bytes → Option ℕ → Bytes → Shape → Asked
put_at key None value shape = failed failures.NoInteger
put_at key (Some stamp) value shape = put_asked key (Some stamp) shape (change_of value)

-- a put that needs to know what is there
abbrev pub replace_asked : Bytes → When → Bool → Option Named → Asked
replace_asked key when shows_old None = failed failures.LongString
replace_asked key when shows_old (Some change) = asks.Change key (edits.Put change when shows_old)

-- an option that asks for an expiry
abbrev pub is_expiry : Bytes → Bool
is_expiry word = is_named word (codes "ex") || is_named word (codes "px") || is_named word (codes "exat") || is_named word (codes "pxat") || is_named word (codes "keepttl")

-- options that a SET has not
abbrev pub options_refused : List Bytes → Asked
options_refused options = if list_any is_expiry options then failed failures.NoExpiry else failed failures.Syntax

abbrev pub when_of : Bytes → Option When
when_of option = if is_named option (codes "nx") then Some whens.New else if is_named option (codes "xx") then Some whens.There else None

-- NX or XX, with GET
abbrev pub shown_asked : Bytes → Bytes → Option When → List Bytes → Asked
shown_asked key value None options = options_refused options
shown_asked key value (Some when) options = replace_asked key when true (change_of value)

-- SET with its options: none; NX, XX or GET; NX or XX with GET; IFSTAMP and a stamp
abbrev pub set_asked : Bytes → Bytes → List Bytes → Asked
set_asked key value [] = put_asked key None shapes.Put (change_of value)
set_asked key value (o ∷ []) =
    if is_named o (codes "nx") then put_asked key (Some 0) shapes.PutIf (change_of value) else
    if is_named o (codes "xx") then replace_asked key whens.There false (change_of value) else
    if is_named o (codes "get") then replace_asked key whens.Always true (change_of value) else options_refused (o ∷ [])
set_asked key value (o ∷ p ∷ []) =
    if is_named o (codes "ifstamp") then put_at key (number_of (2 ^ 64 - 1) p) value shapes.PutIf else
    if is_named o (codes "get") then shown_asked key value (when_of p) (o ∷ p ∷ []) else
    if is_named p (codes "get") then shown_asked key value (when_of o) (o ∷ p ∷ []) else options_refused (o ∷ p ∷ [])
set_asked key value (o ∷ p ∷ q ∷ more) = options_refused (o ∷ p ∷ q ∷ more)
