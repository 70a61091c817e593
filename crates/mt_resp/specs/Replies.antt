-- How what a client is told is spelled.
use Rattle.std.specs.{Prelude.{ℕ, ◌+◌, ◌&&◌, List, [], ◌∷◌, ◌++◌, length, map, take, codes, decimal, slice_get, nat_le, Option, Some, None, if◌then◌else◌}, List.flat_map, Char.to_ascii_lowercase}
use Rattle.mt_rows.specs.Rows.{Columns}
use Rattle.mt_resp.specs.{Grammar.{Bytes, line_end, bulk}, Strings.value_of, Numbers.{number_line, spelling}, Lists.{scan_text, range_text}, Refused.failure_text, declared.told.{Told.Told, Kind.Kind}}
use Rattle.mt_resp.specs.declared.told.Told.TheVariants as told
use Rattle.mt_resp.specs.declared.told.Kind.TheVariants as kinds

-- nothing is there
abbrev pub nil : Bytes
nil = codes "$-1\r\n"

abbrev pub text_or_nil : Option Bytes → Bytes
text_or_nil None = nil
text_or_nil (Some text) = bulk text

-- a column of a row, nil past its end
abbrev pub column_text : Columns → ℕ → Bytes
column_text columns index = text_or_nil (slice_get columns index)

-- a list of columns of a row
abbrev pub picked_text : Columns → List ℕ → Bytes
picked_text columns indexes = number_line 42 (length indexes) ++ flat_map (column_text columns) indexes

-- columns, each after its index
abbrev pub fields_from : ℕ → Columns → Bytes
fields_from index [] = []
fields_from index (text ∷ texts) = bulk (decimal index) ++ (bulk text ++ fields_from (index + 1) texts)

-- a list of a string and a stamp
abbrev pub stamped_text : Columns → ℕ → Bytes
stamped_text columns stamp = codes "*2\r\n" ++ (bulk (value_of columns) ++ number_line 58 stamp)

abbrev pub kind_text : Kind → Bytes
kind_text kinds.Nothing = codes "+none\r\n"
kind_text kinds.String = codes "+string\r\n"
kind_text kinds.Hash = codes "+hash\r\n"

-- a byte as it is shown in a line: a question mark if it can't be printed
abbrev pub shown_byte : ℕ → ℕ
shown_byte byte = if nat_le 32 byte && nat_le byte 126 then to_ascii_lowercase byte else 63

-- at most 64 bytes of a word as they are shown in a line
abbrev pub shown_word : Bytes → Bytes
shown_word word = map shown_byte (take 64 word)

-- the list that a HELLO is told
abbrev pub greeting : Bytes
greeting = codes "*14\r\n$6\r\nserver\r\n$8\r\nrebjauts\r\n$7\r\nversion\r\n$5\r\n7.0.0\r\n$5\r\nproto\r\n:2\r\n$2\r\nid\r\n:0\r\n$4\r\nmode\r\n$10\r\nstandalone\r\n$4\r\nrole\r\n$6\r\nmaster\r\n$7\r\nmodules\r\n*0\r\n"

abbrev pub told_text : Told → Bytes
told_text told.Nothing = []
told_text told.Fine = codes "+OK\r\n"
told_text told.Pong = codes "+PONG\r\n"
told_text told.Reset = codes "+RESET\r\n"
told_text told.Settled = codes "*2\r\n:1\r\n:0\r\n"
told_text told.Greeting = greeting
told_text told.Nil = nil
told_text told.Empty = codes "*0\r\n"
told_text (told.Number n) = number_line 58 n
told_text (told.Signed amount) = 58 ∷ (spelling amount ++ line_end)
told_text (told.Time seconds micros) = codes "*2\r\n" ++ (bulk (decimal seconds) ++ bulk (decimal micros))
told_text (told.Text text) = bulk text
told_text (told.Kind kind) = kind_text kind
told_text (told.Value row) = bulk (value_of row.row)
told_text (told.Stamped row) = stamped_text row.row row.stamp
told_text (told.Column row index) = column_text row.row index
told_text (told.Picked None indexes) = picked_text [] indexes
told_text (told.Picked (Some row) indexes) = picked_text row.row indexes
told_text (told.Fields row) = number_line 42 (length row.row + length row.row) ++ fields_from 0 row.row
told_text (told.Keys cursor pairs pattern) = scan_text cursor pairs pattern
told_text (told.Pairs pairs prefix stamps) = range_text pairs prefix stamps
told_text (told.Unknown word) = codes "-ERR unknown command '" ++ (shown_word word ++ codes "'\r\n")
told_text (told.Arity word) = codes "-ERR wrong number of arguments for '" ++ (shown_word word ++ codes "' command\r\n")
told_text (told.Failed failure) = failure_text failure
