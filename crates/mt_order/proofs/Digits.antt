-- Slots as digits to the base 16.
use Rattle.std.proofs.{Common.{◌≡◌, ℕ, suc, ◌+◌, ◌*◌, ◌^◌, ◌<◌, ◌≤◌, List, length, get_or, drop, lit<, arith}, Math.Nat.{pow-suc, pow-le-pow_right}}
use Rattle.std.proofs.lemmas.List.{drop_more}
use Rattle.mt_order.specs.Places.{number}

-- a number of k digits, with one more
pub one_digit : (k w s : ℕ) → w < 16 ^ k → s < 16 → w * 16 + s < 16 ^ suc k
one_digit k w s below digit = rw (pow-suc 16 k) (omega (arith, below, digit))

-- it fits while the digits do
pub digits_fit : (k n w : ℕ) → w < 16 ^ k → k ≤ n → w < 16 ^ n
digits_fit k n w below le = omega (arith, below, pow-le-pow_right {n = 16} (lit< tt) {i = k} {j = n} le)

pub number_more : (slots : List ℕ) (i w : ℕ) → i < length slots → w ≡ number (drop (i + 1) slots) → w * 16 + get_or slots i 0 ≡ number (drop i slots)
number_more slots i w within is = rw (drop_more slots i 0 within) (omega (arith, is))
