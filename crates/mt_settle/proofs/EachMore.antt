-- The same was done to one log more; for the loops over all logs.
use Rattle.std.proofs.Common.{◌≡◌, ℕ, suc, ◌+◌, subst, arith}
use Rattle.mt_settle.specs.Parts.{EachOf}

pub each_more : {S : Type 0} (Does : ℕ → S → S → Type 0) (log : ℕ) (old mid new : S) → EachOf Does log old mid → Does log mid new → EachOf Does (log + 1) old new
each_more Does log old mid new before d =
    let next : suc log ≡ log + 1 = omega arith in
    subst (λ n. EachOf Does n old new) next (mid, before, d)
