use Rattle.std.proofs.Common.{sym, arith}
use Rattle.std.proofs.lemmas.List.{take_all, length-take}
use Rattle.mt_resp.proofs.writing.front_of.Goals as goal

pub slice_bounds-result-end : goal.slice_bounds-result-end
slice_bounds-result-end c = let long = c.if-word-gt64.true in omega (arith, length-take 64 c.args.word.now)

pub returns-else-word-gt64 : goal.returns-else-word-gt64
returns-else-word-gt64 c = sym (take_all 64 c.args.word.now c.if-word-gt64.false)
