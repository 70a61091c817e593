-- A link that was followed on the way back, or none.
use Rattle.std.proofs.Common.{inr, refl}
use Rattle.mt_core.proofs.removals.judge_back.Goals as goal

pub follow-requires : goal.follow-requires
follow-requires c = record { kept = c.requires.may.kept }

pub returns : goal.returns
returns c = λ step tape accounts. inr (inr (record { told = c.requires.told; follows = c.follow.ensures; on = record { others = refl; rest = refl } }))
