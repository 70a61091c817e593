-- The command at the front of some bytes.
use Rattle.std.specs.Prelude.{◌≡◌, ℕ, ◌-◌, ◌≤◌, ◌<◌, List, [], ◌∷◌, length, drop, Result, Ok, Err, nat_lt, ◌==◌, if◌then◌else◌}
use Rattle.mt_resp.specs.{declared.stop.Stop.Stop, declared.words.Front.Front, Grammar.Bytes, Reading.{array_at, line_at}}
use Rattle.mt_resp.specs.declared.stop.Stop.TheVariants as stops
use Rattle.mt_resp.specs.declared.stop.Fault.TheVariants as faults
use Rattle.mt_resp.specs.declared.words.Front.TheVariants as fronts

-- an array or a line, however long
abbrev pub any_at : Bytes → Result (List Bytes × Bytes) Stop
any_at [] = Err stops.Partial
any_at (b ∷ rest) = if b == 42 then array_at rest else line_at (b ∷ rest)

-- what was read of some bytes, if it took at most 65,536 of them, or may still do so
abbrev pub within : Bytes → Result (List Bytes × Bytes) Stop → Result (List Bytes × Bytes) Stop
within bytes (Ok x) = if nat_lt 65536 (length bytes - length x.1) then Err (stops.Bad faults.Long) else Ok x
within bytes (Err stops.Partial) = if nat_lt (length bytes) 65536 then Err stops.Partial else Err (stops.Bad faults.Long)
within bytes (Err stops.Memory) = Err stops.Memory
within bytes (Err (stops.Bad fault)) = Err (stops.Bad fault)

-- a command, and what is left after it
unfoldable pub command_at : Bytes → Result (List Bytes × Bytes) Stop
command_at bytes = within bytes (any_at bytes)

-- the command at the front, of len bytes
pub record IsWhole (bytes : Bytes) (words : List Bytes) (len : ℕ) : Type 0 where
  pub reads : command_at bytes ≡ Ok (words, drop len bytes)
  pub inside : len ≤ length bytes
  pub some : 0 < len
  pub short : len ≤ 65536

-- less than a command
pub record IsPartial (bytes : Bytes) : Type 0 where
  pub reads : command_at bytes ≡ Err stops.Partial
  pub short : length bytes < 65536

-- what stands at the front: a command, less than one, or none
abbrev pub Reads : Bytes → Front → Type 0
Reads bytes (fronts.Whole words len) = IsWhole bytes words len
Reads bytes fronts.Partial = IsPartial bytes
Reads bytes (fronts.Bad fault) = command_at bytes ≡ Err (stops.Bad fault)
