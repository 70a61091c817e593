use Rattle.std.{proofs.Common.take, specs.Fmt.{HasWritten, IsPlainFormatter}}
use Rattle.mt_core.specs.Shapes.{separators_text}
use Rattle.mt_core.proofs.shape.SeparatorsDisplay.fmt.Given as goal

-- the separators so far are written
abbrev pub invariant-loop-slice : goal.invariant-loop-slice
invariant-loop-slice g l =
    IsPlainFormatter l.initial.f → HasWritten g.W.Write.write_str_gives l.initial.f (separators_text (take l.slice-index l.slice-items)) l.f
