-- The two lines of a server's output.
use Rattle.std.specs.{Prelude.{ℕ, ◌++◌, Option, codes, decimal}, Io.KnownBytes.Appends}
use Rattle.mt_rows.specs.Rows.{Bytes}
use Rattle.mt_session.specs.Endings.{IsBeginning}

-- where it listens
abbrev pub first_line : ℕ → Bytes
first_line port = codes "listening 127.0.0.1:" ++ decimal port ++ codes "\n"

-- how many sessions and answers there were
abbrev pub last_line : ℕ → ℕ → Bytes
last_line sessions answers = codes "sessions " ++ decimal sessions ++ codes " answers " ++ decimal answers ++ codes "\n"

-- the output gains a beginning of a text
abbrev pub Begins : Option Bytes → Option Bytes → Bytes → Type 0
Begins held holds text = (written : Bytes) × IsBeginning written text × Appends held holds written

-- the output gains both lines
abbrev pub SaysAll : Option Bytes → Option Bytes → ℕ → Type 0
SaysAll held holds sessions = (port answers : ℕ) × Appends held holds (first_line port ++ last_line sessions answers)

-- the output gains a beginning of them
abbrev pub SaysPart : Option Bytes → Option Bytes → ℕ → Type 0
SaysPart held holds sessions = (port answers : ℕ) × Begins held holds (first_line port ++ last_line sessions answers)
