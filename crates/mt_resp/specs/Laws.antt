-- Statements of laws.
use Rattle.std.specs.Prelude.{◌≡◌, List, ◌++◌, Result, Ok}
use Rattle.mt_resp.specs.{declared.stop.Stop.Stop, Grammar.{Bytes, IsSpelling}}

-- What a reader gave is what a text at the front spells: the text gives it again, whatever follows, and all that follows is left.
pub record Takes {A : Type 0} (read : Bytes → Result (A × Bytes) Stop) (bytes : Bytes) (value : A) (rest : Bytes) : Type 0 where
  pub text : Bytes
  pub parts : bytes ≡ text ++ rest
  pub again : (more : Bytes) → read (text ++ more) ≡ Ok (value, more)

abbrev pub IsExact : {A : Type 0} → (Bytes → Result (A × Bytes) Stop) → Type 0
IsExact {A = A} read = (bytes rest : Bytes) (value : A) → read bytes ≡ Ok (value, rest) → Takes read bytes value rest

-- some bytes begin with a spelling of these words, and the rest is left after it
pub record IsSpelled (bytes : Bytes) (words : List Bytes) (rest : Bytes) : Type 0 where
  pub text : Bytes
  pub parts : bytes ≡ text ++ rest
  pub spells : IsSpelling text words
