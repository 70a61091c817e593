-- The lines of the language: which line, if any, some bytes are.
use Rattle.std.specs.Prelude.{ℕ, Bool, true, false, if◌then◌else◌, List, [], ◌∷◌, codes, Option, Some, None}
use Rattle.mt_rows.specs.{declared.command.Command.Command, declared.command.Command.TheVariants.{Get, Put, PutIf, Remove, Scan}}
use Rattle.mt_operation.specs.{declared.phase.Phase.Phase, Phases.{name_of, steps}}
use Rattle.mt_lines.specs.{declared.line.Line.Line, declared.line.Line.TheVariants.{Tenant, Begin, Step, Until, Run, Shape}}
use Rattle.mt_lines.specs.Words.{◌>>=◌, words_of, next, no_more, each, number_up_to, name_word, is_text, key_word, column_word}

-- a number of 32 bits, a column's index, and a stamp
abbrev pub number_word : List ℕ → Option ℕ
number_word word = number_up_to 4294967295 word

abbrev pub index_word : List ℕ → Option ℕ
index_word word = number_up_to 255 word

abbrev pub stamp_word : List ℕ → Option ℕ
stamp_word word = number_up_to 18446744073709551615 word

-- the first of some phases whose name this is
abbrev pub phase_in : List Phase → List ℕ → Option Phase
phase_in [] word = None
phase_in (phase ∷ phases) word = if is_text word (name_of phase) then Some phase else phase_in phases word

-- the phase of this name
unfoldable pub phase_word : List ℕ → Option Phase
phase_word word = phase_in steps word

-- tenant T Q
unfoldable pub tenant_line : List (List ℕ) → Option Line
tenant_line words = do
  first ← next words
  second ← next first.1
  end ← no_more second.1
  tenant ← number_word first.0
  quota ← number_word second.0
  Some (Tenant tenant quota)

-- get K [index ..] and gets K [index ..], behind their first word
unfoldable pub get_words : List (List ℕ) → Option Command
get_words words = do
  first ← next words
  key ← key_word first.0
  indexes ← each index_word first.1
  Some (Get key indexes)

-- put K index=value .., behind its first word: at least one column
unfoldable pub put_words : List (List ℕ) → Option Command
put_words words = do
  first ← next words
  second ← next first.1
  key ← key_word first.0
  columns ← each column_word first.1
  Some (Put key columns)

-- putif K S index=value .., behind its first word: at least one column
unfoldable pub put_if_words : List (List ℕ) → Option Command
put_if_words words = do
  first ← next words
  second ← next first.1
  third ← next second.1
  key ← key_word first.0
  stamp ← stamp_word second.0
  columns ← each column_word second.1
  Some (PutIf key stamp columns)

-- remove K, behind its first word
unfoldable pub remove_words : List (List ℕ) → Option Command
remove_words words = do
  first ← next words
  end ← no_more first.1
  key ← key_word first.0
  Some (Remove key)

-- whether a scan begins behind its key: it does where `after` stands, and not where nothing more does
abbrev pub after_words : List (List ℕ) → Option Bool
after_words [] = Some false
after_words (word ∷ words) = do
  end ← no_more words
  if is_text word (codes "after") then Some true else None

-- scan K count [after], behind its first word: all columns of each row
unfoldable pub scan_words : List (List ℕ) → Option Command
scan_words words = do
  first ← next words
  second ← next first.1
  after ← after_words second.1
  count ← index_word second.0
  from ← key_word first.0
  Some (Scan from after count [])

-- the command of a verb
abbrev pub command_by : List ℕ → List (List ℕ) → Option Command
command_by verb words =
    if is_text verb (codes "get") then get_words words
    else if is_text verb (codes "gets") then get_words words
    else if is_text verb (codes "put") then put_words words
    else if is_text verb (codes "putif") then put_if_words words
    else if is_text verb (codes "remove") then remove_words words
    else if is_text verb (codes "scan") then scan_words words
    else None

-- a command
unfoldable pub command_words : List (List ℕ) → Option Command
command_words words = do
  first ← next words
  command_by first.0 first.1

-- whether a command's answer shows the stamp of a row: that of gets does
abbrev pub shows_stamps : List (List ℕ) → Bool
shows_stamps [] = false
shows_stamps (verb ∷ words) = is_text verb (codes "gets")

-- begin N T, and a command
unfoldable pub begin_line : List (List ℕ) → Option Line
begin_line words = do
  first ← next words
  second ← next first.1
  name ← name_word first.0
  tenant ← number_word second.0
  command ← command_words second.1
  Some (Begin name tenant command (shows_stamps second.1))

-- step N, run N: a name alone
unfoldable pub name_alone : List (List ℕ) → Option ℕ
name_alone words = do
  first ← next words
  end ← no_more first.1
  name_word first.0

-- until N phase
unfoldable pub until_line : List (List ℕ) → Option Line
until_line words = do
  first ← next words
  second ← next first.1
  end ← no_more second.1
  name ← name_word first.0
  phase ← phase_word second.0
  Some (Until name phase)

-- shape
unfoldable pub shape_line : List (List ℕ) → Option Line
shape_line words = do
  end ← no_more words
  Some Shape

-- step N and run N
unfoldable pub step_line : List (List ℕ) → Option Line
step_line words = do
  name ← name_alone words
  Some (Step name)

unfoldable pub run_line : List (List ℕ) → Option Line
run_line words = do
  name ← name_alone words
  Some (Run name)

-- the line of a verb
abbrev pub line_by : List ℕ → List (List ℕ) → Option Line
line_by verb words =
    if is_text verb (codes "tenant") then tenant_line words
    else if is_text verb (codes "begin") then begin_line words
    else if is_text verb (codes "step") then step_line words
    else if is_text verb (codes "until") then until_line words
    else if is_text verb (codes "run") then run_line words
    else if is_text verb (codes "shape") then shape_line words
    else None

-- which line these words are, by the first of them
unfoldable pub line_of_words : List (List ℕ) → Option Line
line_of_words words = do
  first ← next words
  line_by first.0 first.1

-- which line these bytes are
abbrev pub line_of : List ℕ → Option Line
line_of bytes = line_of_words (words_of bytes)
