use Rattle.std.{proofs.Common.{◌+◌, ◌*◌, replicate}, specs.Fmt.{HasWritten, IsPlainFormatter}}
use Rattle.mt_core.proofs.shape.IndentDisplay.fmt.Given as goal

-- two spaces, and two for each level so far
abbrev pub invariant-loop-level : goal.invariant-loop-level
invariant-loop-level g l =
    IsPlainFormatter l.fn.f → HasWritten g.W.Write.write_str_gives l.fn.f (replicate (2 * (l._level + 1)) 32) l.f
