-- How the program ends, for its arguments and its script.
use Rattle.std.specs.{Prelude.{◌≡◌, ℕ, ◌++◌, if◌then◌else◌, List, [], ◌∷◌, codes, Option, Result, Ok, Err}, Io.KnownBytes.{Appends, Keeps}}
use Rattle.mt_rows.specs.Rows.{Bytes}
use Rattle.mt_lines.specs.{declared.program.Purpose.Purpose, declared.program.Ending.Ending}
use Rattle.mt_lines.specs.{declared.program.Ending.TheVariants.{Answered, Helped, GivenUp, Misused}, declared.script.ScriptFault.ScriptFault}
use Rattle.mt_lines.specs.{declared.script.ScriptFault.TheVariants.{Read, Write, Memory}, Scripts.RunsScript, Words.is_text}
use Rattle.mt_lines.specs.declared.program.Purpose.TheVariants as purposes

-- what arguments ask for: none, a script; `--help` alone, the use; any others are none of the program's
abbrev pub purpose_of : List Bytes → Purpose
purpose_of [] = purposes.Script
purpose_of (word ∷ []) = if is_text word (codes "--help") then purposes.Help else purposes.Misuse
purpose_of _ = purposes.Misuse

-- the exit status
abbrev pub status_of : Ending → ℕ
status_of Answered = 0
status_of Helped = 0
status_of (GivenUp fault) = 1
status_of Misused = 2

-- what failed
abbrev pub failed_of : Ending → Bytes
failed_of Answered = codes "nothing failed"
failed_of Helped = codes "nothing failed"
failed_of (GivenUp (Read e)) = codes "reading failed"
failed_of (GivenUp (Write e)) = codes "writing failed"
failed_of (GivenUp Memory) = codes "out of memory"
failed_of Misused = codes "no argument is taken but --help"

-- what stands of what was printed, or how the program is used
abbrev pub stands_of : Ending → Bytes
stands_of (GivenUp (Write e)) = codes "what was printed stands, and its last answer may be cut"
stands_of Misused = codes "usage: mt_script < SCRIPT"
stands_of _ = codes "the answers printed stand"

-- how it ends that was to answer a script
abbrev pub ending_of : Result (Unit {0}) ScriptFault → Ending
ending_of (Ok u) = Answered
ending_of (Err fault) = GivenUp fault

-- how it ends that was to print its use: that was printed, or a front of it where the writer failed
abbrev pub Helps : Option Bytes → Option Bytes → Type 0 → Ending → Type 0
Helps held holds writer_failed Helped = Appends held holds (codes "usage: mt_script < SCRIPT\n")
Helps held holds writer_failed (GivenUp (Write e)) =
    ((front : Bytes) × (lost : Bytes) × (front ++ lost ≡ codes "usage: mt_script < SCRIPT\n") × Appends held holds front) × writer_failed
Helps held holds writer_failed _ = ⊥

-- a run of the program, by what its arguments ask for; a script alone is read
abbrev pub RunsProgram : Purpose → Option Bytes → Option Bytes → Option Bytes → Option Bytes → Type 0 → Type 0 → Ending → Type 0
RunsProgram purposes.Script before left held holds reader_failed writer_failed ending =
    (result : Result (Unit {0}) ScriptFault) × RunsScript before left held holds reader_failed writer_failed result × (ending ≡ ending_of result)
RunsProgram purposes.Help before left held holds reader_failed writer_failed ending = Keeps before left × Helps held holds writer_failed ending
RunsProgram purposes.Misuse before left held holds reader_failed writer_failed ending = Keeps before left × Keeps held holds × (ending ≡ Misused)
