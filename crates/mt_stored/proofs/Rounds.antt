-- A round over some logs comes to each of them; for the law of rounds.
use Rattle.std.proofs.Common.{◌≡◌, ◌∙◌, ◌⊎◌, inl, inr, ⊎_elim, ℕ, zero, suc, ◌+◌, ◌-◌, ◌<◌, ◌≤◌, ◌%◌, sym, ap, arith}
use Rattle.std.proofs.Math.Nat.{mod-eq_of_lt, mod-lt, mod-mod, mod_self}
use Rattle.mt_stored.specs.Keeping.{turn_after}

splits : (a b : ℕ) → (a ≤ b) ⊎ (b < a)
splits zero b = inl (omega arith)
splits (suc a) zero = inr (omega arith)
splits (suc a) (suc b) = ⊎_elim (λ e. inl (omega (arith, e))) (λ e. inr (omega (arith, e))) (splits a b)

-- whole rounds make no difference
same_place : (count next turns : ℕ) → turn_after count (next % count) turns ≡ turn_after count next turns
same_place count next zero = mod-mod next count
same_place count next (suc turns) = ap (λ (k : ℕ). turn_after count (k + 1) turns) (mod-mod next count)

-- up to the last log the turns go up one by one
goes_up : (count place turns : ℕ) → place + turns < count → turn_after count place turns ≡ place + turns
goes_up count place zero less = mod-eq_of_lt (omega (arith, less)) ∙ omega arith
goes_up count place (suc turns) less =
    let here : place % count ≡ place = mod-eq_of_lt (omega (arith, less)) in
    ap (λ (k : ℕ). turn_after count (k + 1) turns) here ∙ goes_up count (place + 1) turns (omega (arith, less)) ∙ omega arith

-- after the last log comes the first
wraps : (count place rest log : ℕ) → place + rest + 1 ≡ count → log < count → turn_after count place (suc (rest + log)) ≡ log
wraps count place zero log all less =
    let here : place % count ≡ place = mod-eq_of_lt (omega (arith, all)) in
    let next : place % count + 1 ≡ count = omega (arith, here, all) in
    let none : zero + log ≡ log = omega arith in
    ap (λ (k : ℕ). turn_after count k (zero + log)) next ∙ ap (λ (k : ℕ). turn_after count count k) none ∙ sym (same_place count count log)
    ∙ ap (λ (k : ℕ). turn_after count k log) (mod_self count) ∙ goes_up count zero log (omega (arith, less)) ∙ none
wraps count place (suc rest) log all less =
    let here : place % count ≡ place = mod-eq_of_lt (omega (arith, all)) in
    let one_less : suc rest + log ≡ suc (rest + log) = omega arith in
    ap (λ (k : ℕ). turn_after count (k + 1) (suc rest + log)) here ∙ ap (λ (k : ℕ). turn_after count (place + 1) k) one_less ∙ wraps count (place + 1) rest log (omega (arith, all)) less

pub comes_to_each : (count next log : ℕ) → log < count → (turns : ℕ) × (turns < count) × (turn_after count next turns ≡ log)
comes_to_each count next log less =
    let place = next % count in
    let within : place < count = mod-lt next (omega (arith, less)) in
    ⊎_elim
    (λ (e : place ≤ log). (log - place, omega (arith, e, less), sym (same_place count next (log - place)) ∙ goes_up count place (log - place) (omega (arith, e, less)) ∙ omega (arith, e)))
    (λ (e : log < place).
    let rest = count - 1 - place in
    (suc (rest + log), omega (arith, e, within), sym (same_place count next (suc (rest + log))) ∙ wraps count place rest log (omega (arith, within)) less))
    (splits place log)
