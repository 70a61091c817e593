use Rattle.std.{proofs.Common.take, specs.{List.flat_map, Fmt.{HasWritten, IsPlainFormatter}}}
use Rattle.mt_core.specs.Shapes.{hex_digits}
use Rattle.mt_core.proofs.shape.HexadecimalDisplay.fmt.Given as goal

-- the bytes so far are written
abbrev pub invariant-loop-byte : goal.invariant-loop-byte
invariant-loop-byte g l =
    IsPlainFormatter l.initial.f → HasWritten g.W.Write.write_str_gives l.initial.f (flat_map (hex_digits 2) (take l.byte-index l.byte-items)) l.f
