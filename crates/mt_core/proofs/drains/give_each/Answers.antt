-- one more has the step, and at last all have
use Rattle.std.proofs.Common.{◌≡◌, ◌≤◌, ◌++◌, ℕ, List, [], ◌∷◌, length, replicate, take, drop, refl, ap, ◌∙◌, arith}
use Rattle.std.proofs.lemmas.List.{append-nil, take_all, drop_all}
use Rattle.std.specs.Prelude.{map}
use Rattle.mt_border.proofs.Sweeps.{sweeps}
use Rattle.mt_core.proofs.drains.give_each.Goals as goal

const : (step : ℕ) (xs : List ℕ) → map (λ n. step) xs ≡ replicate (length xs) step
const step [] = refl
const step (x ∷ xs) = ap (λ ys. step ∷ ys) (const step xs)

pub loop-given-preserved : goal.loop-given-preserved
loop-given-preserved c = sweeps (λ n. c.args.step) c.args.logs.now c.loop-given.logs c.loop-given.given-index 0 c.args.step c.loop-given-test.true c.loop-given.invariant refl

at_end : (step i : ℕ) (xs now : List ℕ) → length xs ≤ i → now ≡ map (λ n. step) (take i xs) ++ drop i xs → now ≡ replicate (length xs) step
at_end step i xs now end is =
    is ∙ ap (λ ys. map (λ n. step) ys ++ drop i xs) (take_all i xs end) ∙ ap (λ ys. map (λ n. step) xs ++ ys) (drop_all i xs end) ∙ append-nil (map (λ n. step) xs) ∙ const step xs

pub returns : goal.returns
returns c = at_end c.args.step c.loop-given.given-index c.args.logs.now c.loop-given.logs (let over = c.loop-given-test.false in omega (arith, over)) c.loop-given.invariant
