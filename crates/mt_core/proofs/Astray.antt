-- How many border nodes a walk may still go on to: fewer from each than from the one before, and no more than there are. For the step to the next node, and for
-- where an operation stands that was disturbed.
use Rattle.std.proofs.{Common.{◌≡◌, ℕ, zero, suc, ◌<◌, ◌≤◌, inl, inr, Bool, false, List, [], ◌∷◌, length, arith, ap}, lemmas.Bool.{cases_lt, lt-ltb, le-ltb}}
use Rattle.std.specs.Prelude.{if◌then◌else◌, nat_lt}
use Rattle.mt_arena.specs.{NodeView.{NodeView, node_at}, Arena.{live_count, one_if_live}}
use Rattle.mt_core.specs.Budgets.{behind_count, one_if_behind}

-- behind a node begin no more than behind one that begins before it
one_less : (low high l one : ℕ) → low < high → (if nat_lt high l then one else 0) ≤ (if nat_lt low l then one else 0)
one_less low high l one lt = elim (cases_lt high l) [
  | inl over ↦ let here = ap (λ b. if b then one else 0) (lt-ltb high l over) in let there = ap (λ b. if b then one else 0) (lt-ltb low l (omega (arith, lt, over))) in omega (arith, here, there)
  | inr under ↦ let here = ap (λ b. if b then one else 0) (le-ltb high l under) in omega (arith, here)
]

one_fewer : (low high : ℕ) (n : NodeView) → low < high → n.low ≡ high → n.version.deleted ≡ false → one_if_behind high n < one_if_behind low n
one_fewer low high n lt is live =
    let one : one_if_live n ≡ 1 = ap (λ (deleted : Bool). if deleted then 0 else 1) live in
    let here = ap (λ b. if b then one_if_live n else 0) (le-ltb high n.low (omega (arith, is))) in
    let there = ap (λ b. if b then one_if_live n else 0) (lt-ltb low n.low (omega (arith, lt, is))) in
    omega (arith, here, there, one)

behind_less : (ns : List NodeView) (low high : ℕ) → low < high → behind_count ns high ≤ behind_count ns low
behind_less [] low high lt = omega arith
behind_less (n ∷ ns) low high lt = omega (arith, one_less low high n.low (one_if_live n) lt, behind_less ns low high lt)

-- and fewer, where it is there itself, and live
pub behind_fewer : (ns : List NodeView) (low high d : ℕ) → low < high → d < length ns → (node_at ns d).version.deleted ≡ false → (node_at ns d).low ≡ high
    → behind_count ns high < behind_count ns low
behind_fewer [] low high d lt within live is = absurd (omega (arith, within))
behind_fewer (n ∷ ns) low high zero lt within live is = omega (arith, one_fewer low high n lt is live, behind_less ns low high lt)
behind_fewer (n ∷ ns) low high (suc d) lt within live is =
    omega (arith, one_less low high n.low (one_if_live n) lt, behind_fewer ns low high d lt (omega (arith, within)) live is)

-- no more begin behind it than are live
one_at_most : (low l one : ℕ) → (if nat_lt low l then one else 0) ≤ one
one_at_most low l one = elim (cases_lt low l) [
  | inl over ↦ let is = ap (λ b. if b then one else 0) (lt-ltb low l over) in omega (arith, is)
  | inr under ↦ let is = ap (λ b. if b then one else 0) (le-ltb low l under) in omega (arith, is)
]

pub behind_most : (ns : List NodeView) (low : ℕ) → behind_count ns low ≤ live_count ns
behind_most [] low = omega arith
behind_most (n ∷ ns) low = omega (arith, one_at_most low n.low (one_if_live n), behind_most ns low)
