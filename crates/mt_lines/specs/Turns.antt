-- What the front of a line is answered, and what a byte of a script does.
use Rattle.std.specs.{Prelude.{◌≡◌, ℕ, Bool, true, false, [], ◌++◌, Option, Some, None, Result, Ok, Err, OnOk, IfErr}, Io.KnownBytes.Appends}
use Rattle.mt_lines.specs.{declared.line.Line.Line, declared.script.ScriptFault.ScriptFault, declared.script.ScriptFault.TheVariants.{Read, Write, Memory}}
use Rattle.mt_lines.specs.{Line.line_of, Lines.{Front, front_of, with_byte, without_return, whole_line}, Scripts.{is_silent, Answers}, Sessions.SessionView}
use Rattle.mt_rows.specs.Rows.{Bytes}

-- what a line that may be too long asks for
abbrev pub meaning_in : Option Bytes → Option Line
meaning_in None = None
meaning_in (Some line) = line_of line

-- the line of this front is answered by this text
abbrev pub AnswersFront : SessionView → Front → SessionView → Bytes → Type 0
AnswersFront old front new text = Answers (is_silent front.bytes) (meaning_in (whole_line front)) old new text

-- a text was written whole; or, where the writer failed, a front of it; or nothing, where a growth was refused
abbrev pub Writes : (Bytes → Type 0) → Option Bytes → Option Bytes → Type 0 → Result (Unit {0}) ScriptFault → Type 0
Writes P held holds writer_failed (Ok u) = (text : Bytes) × P text × Appends held holds text
Writes P held holds writer_failed (Err (Read e)) = ⊥
Writes P held holds writer_failed (Err (Write e)) = (front : Bytes) × (lost : Bytes) × P (front ++ lost) × Appends held holds front × writer_failed
Writes P held holds writer_failed (Err Memory) = Appends held holds []

-- a byte that ends the line, and one that is one more of it
abbrev pub TakesByte : Bool → ℕ → SessionView → SessionView → Front → Front → Option Bytes → Option Bytes → Type 0 → Result (Unit {0}) ScriptFault → Type 0
TakesByte true byte old new line left held holds writer_failed result =
    Writes (AnswersFront old (without_return line) new) held holds writer_failed result × OnOk result (left ≡ front_of [])
TakesByte false byte old new line left held holds writer_failed result =
    (new ≡ old) × Appends held holds [] × OnOk result (left ≡ with_byte line byte) × IfErr result (λ e. e ≡ Memory)
