-- What the words of a command ask.
use Rattle.std.specs.Prelude.{List, [], ◌∷◌, Option, Some, None}
use Rattle.mt_resp.specs.{Grammar.Bytes, declared.asked.Asked.Asked, declared.told.Failure.Failure}
use Rattle.mt_resp.specs.{Names.{string_name, number_name, field_name, key_name, link_name, reason}, Failing.failed}
use Rattle.mt_resp.specs.{StringCommands.strings_asked, NumberCommands.numbers_asked, FieldCommands.fields_asked, KeyCommands.keys_asked, LinkCommands.link_asked}
use Rattle.mt_resp.specs.declared.asked.Asked.TheVariants as asks
use Rattle.mt_resp.specs.declared.told.Told.TheVariants as told

-- a command that isn't there, for a reason or none
abbrev pub not_there : Bytes → Option Failure → Asked
not_there word (Some failure) = failed failure
not_there word None = asks.Told (told.Unknown word)

-- what a name of a group asks, else what another one does
abbrev pub either : {N : Type 0} → Option N → (N → Asked) → Asked → Asked
either (Some name) asked other = asked name
either None asked other = other

-- what a command of this name asks
abbrev pub asked_by : Bytes → List Bytes → Asked
asked_by word words =
    either (string_name word) (λ name. strings_asked word name words)
    (either (number_name word) (λ name. numbers_asked word name words)
    (either (field_name word) (λ name. fields_asked word name words)
    (either (key_name word) (λ name. keys_asked word name words)
    (either (link_name word) (λ name. link_asked word name words)
    (not_there word (reason word))))))

-- what the words of a command ask; nothing is asked by none
abbrev pub meaning : List Bytes → Asked
meaning [] = asks.Told told.Nothing
meaning (word ∷ words) = asked_by word words
