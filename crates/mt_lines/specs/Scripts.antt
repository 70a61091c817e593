-- What is written for a script that is read.
use Rattle.std.specs.Prelude.{◌≡◌, ℕ, ◌-◌, ◌^◌, ◌≤◌, ◌⊎◌, Bool, true, false, ◌==◌, nat_lt, if◌then◌else◌, List, [], ◌∷◌, ◌++◌, length, Option, None, Result, OnOk, IfErr}
use Rattle.std.specs.{Io.BufRead.strip_last, Io.KnownBytes.{Consumes, Appends, IsAtEnd}}
use Rattle.mt_rows.specs.Rows.{Bytes}
use Rattle.mt_lines.specs.{declared.line.Line.Line, declared.response.Response.Response, declared.script.ScriptFault.ScriptFault}
use Rattle.mt_lines.specs.{declared.script.ScriptFault.TheVariants.{Read, Write, Memory}, Line.line_of, Sessions.{SessionView, fresh, TellsReply}, Text.IsText}

-- bytes, cut at each line feed: the lines that end in them, and what stands behind the last end
pub record Cut : Type 0 where
  pub ended : List Bytes
  pub last : Bytes

-- a line feed ends a line, and a carriage return before it is dropped; any other byte is one more of the line
abbrev pub cut_at : Cut → ℕ → Cut
cut_at cut byte =
    if byte == 10 then record { ended = cut.ended ++ strip_last 13 cut.last ∷ []; last = [] } else record { ended = cut.ended; last = cut.last ++ byte ∷ [] }

-- more bytes behind those that were cut
abbrev pub cut_behind : Cut → Bytes → Cut
cut_behind cut [] = cut
cut_behind cut (byte ∷ bytes) = cut_behind (cut_at cut byte) bytes

-- all bytes of a script, cut
abbrev pub cut_of : Bytes → Cut
cut_of bytes = cut_behind (record { ended = []; last = [] }) bytes

-- the lines of a script: the last needs no end
abbrev pub lines_of : Bytes → List Bytes
lines_of bytes = (cut_of bytes).ended ++ (cut_of bytes).last ∷ []

-- an empty line and a comment
abbrev pub is_silent : Bytes → Bool
is_silent [] = true
is_silent (byte ∷ bytes) = byte == 35

-- what a line asks for: nothing, where it has over 65,536 bytes or is none of the language's
abbrev pub meaning_of : Bytes → Option Line
meaning_of line = if nat_lt 65536 (length line) then None else line_of line

-- A silent line changes nothing, and has no answer. Any other is answered by the text of what the session says of it.
abbrev pub Answers : Bool → Option Line → SessionView → SessionView → Bytes → Type 0
Answers true asked old new text = (new ≡ old) × (text ≡ [])
Answers false asked old new text = (response : Response) × TellsReply old new asked response × IsText response text

-- a line is answered by this text
abbrev pub IsLineAnswered : SessionView → Bytes → SessionView → Bytes → Type 0
IsLineAnswered old line new text = Answers (is_silent line) (meaning_of line) old new text

-- lines are answered one after the other, and this is the text of their answers
abbrev pub AreLinesAnswered : SessionView → List Bytes → SessionView → Bytes → Type 0
AreLinesAnswered old [] new text = (new ≡ old) × (text ≡ [])
AreLinesAnswered old (line ∷ lines) new text =
    (mid : SessionView) × (first : Bytes) × (rest : Bytes) × IsLineAnswered old line mid first × AreLinesAnswered mid lines new rest × (text ≡ first ++ rest)

-- this was written for a script that was read: the answers of its lines, in a session that begins with the first of them
abbrev pub IsScript : Bytes → Bytes → Type 0
IsScript read written = (final : SessionView) × AreLinesAnswered fresh (lines_of read) final written

-- what was written of the answer to a line at which a script stopped: a front of it where the writer failed, else nothing
abbrev pub IsFront : ScriptFault → SessionView → Bytes → Bytes → Type 0
IsFront (Write e) old line front = (new : SessionView) × (lost : Bytes) × IsLineAnswered old line new (front ++ lost)
IsFront _ old line front = front ≡ []

-- no byte behind the line was read; where the reader failed, the line's own end was not
abbrev pub IsUnread : ScriptFault → List Bytes → Type 0
IsUnread (Read e) behind = behind ≡ []
IsUnread _ behind = (behind ≡ []) ⊎ (behind ≡ [] ∷ [])

-- A script stopped at a line: those before it were answered, and no byte behind it was read.
pub record StopsAtLine (fault : ScriptFault) (read written : Bytes) : Type 0 where
  pub before : List Bytes
  pub line : Bytes
  pub behind : List Bytes
  pub session : SessionView
  pub text : Bytes
  pub front : Bytes
  pub lines : lines_of read ≡ before ++ line ∷ behind
  pub unread : IsUnread fault behind
  pub answered : AreLinesAnswered fresh before session text
  pub front_of_answer : IsFront fault session line front
  pub written_is : written ≡ text ++ front

-- a fault has its cause: the reader failed, or gave as many bytes as can be counted; the writer failed
abbrev pub IsCause : ScriptFault → Bytes → Type 0 → Type 0 → Type 0
IsCause (Read e) read reader_failed writer_failed = reader_failed ⊎ (2 ^ 64 - 1 ≤ length read)
IsCause (Write e) read reader_failed writer_failed = writer_failed
IsCause Memory read reader_failed writer_failed = Unit {0}

-- A run of a script. What was read is what the reader lost, and what was written is what the writer got. It is Ok where all was read, and
-- then the whole answer was written; else a beginning of it, and the fault has its cause.
pub record RunsScript (before left held holds : Option Bytes) (reader_failed writer_failed : Type 0) (result : Result (Unit {0}) ScriptFault) : Type 0 where
  pub read : Bytes
  pub written : Bytes
  pub consumed : Consumes before left read
  pub appended : Appends held holds written
  pub whole : OnOk result (IsAtEnd left × IsScript read written)
  pub beginning : IfErr result (λ fault. StopsAtLine fault read written)
  pub cause : IfErr result (λ fault. IsCause fault read reader_failed writer_failed)
