-- What is asked by words that no command has.
use Rattle.mt_resp.specs.{Grammar.Bytes, declared.asked.Asked.Asked, declared.told.{Failure.Failure}}
use Rattle.mt_resp.specs.declared.asked.Asked.TheVariants as asks
use Rattle.mt_resp.specs.declared.told.Told.TheVariants as told

abbrev pub failed : Failure → Asked
failed failure = asks.Told (told.Failed failure)

-- a command of this name has another number of words
abbrev pub miscounted : Bytes → Asked
miscounted word = asks.Told (told.Arity word)
