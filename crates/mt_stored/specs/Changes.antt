-- What a turn made of a log's place.
use Rattle.std.specs.{Prelude.{ℕ, List, ◌++◌, codes, Option, Some, None}, Fmt.decimal}
use Rattle.mt_stored.specs.{declared.changes.LogChange.LogChange, declared.changes.LogChange.TheVariants.{Closed, Opened}}

-- a log that was open is closed, or the other way round; else nothing
abbrev pub change_in : ℕ → Option ℕ → Option ℕ → Option LogChange
change_in log (Some before) None = Some (Closed log)
change_in log None (Some after) = Some (Opened log)
change_in log before after = None

-- what is said of it
abbrev pub text_of : LogChange → List ℕ
text_of (Closed log) = codes "log " ++ decimal log ++ codes ": its disk failed; it is closed until a write succeeds"
text_of (Opened log) = codes "log " ++ decimal log ++ codes ": open again"
