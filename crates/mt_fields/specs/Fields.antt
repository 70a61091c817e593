-- How a string is spelled. All numbers have their highest byte first.
use Rattle.std.specs.{Prelude.{ℕ, List, ◌++◌, length}, Int.{w16, to_be_bytes}}

-- bytes, one number each
abbrev pub Bytes : Type 0
Bytes = List ℕ

-- a string: two bytes of length, and that many bytes
abbrev pub string : Bytes → Bytes
string bytes = to_be_bytes w16 (length bytes) ++ bytes
