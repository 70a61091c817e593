-- Keys between two that begin alike begin so, too.
use Rattle.std.proofs.Common.{◌≡◌, ℕ, zero, suc, ◌<◌, ◌≤◌, inl, inr, true, false, [], ◌∷◌, length, take, refl, sym, ap, ◌∙◌, arith}
use Rattle.std.proofs.{lemmas.Bool.{cases_lt, cases_eq}, lemmas.Bool.Decides.nat_tests}
use Rattle.std.specs.{declared.cmp.Ordering.Ordering, declared.cmp.Ordering.TheVariants.{Less, Equal, Greater}, Ordering.{nat_cmp, is_lt, ordering_then}}
use Rattle.std.specs.Cmp.Lexicographic.{slice_cmp}
use Rattle.mt_rows.specs.Rows.{Bytes}

abbrev cmp : Bytes → Bytes → Ordering
cmp = slice_cmp nat_cmp

pub nat_less : (m n : ℕ) → m < n → nat_cmp m n ≡ Less
nat_less m n lt = grind (arith, nat_tests)

pub nat_greater : (m n : ℕ) → n < m → nat_cmp m n ≡ Greater
nat_greater m n lt = grind (arith, nat_tests)

pub nat_same : (n : ℕ) → nat_cmp n n ≡ Equal
nat_same n = grind (arith, nat_tests)

first_less : (a c : ℕ) (f k : Bytes) → c < a → cmp (c ∷ k) (a ∷ f) ≡ Less
first_less a c f k lt = ap (λ o. ordering_then o (cmp k f)) (nat_less c a lt)

first_greater : (a c : ℕ) (f k : Bytes) → a < c → cmp (c ∷ k) (a ∷ f) ≡ Greater
first_greater a c f k lt = ap (λ o. ordering_then o (cmp k f)) (nat_greater c a lt)

first_same : (a : ℕ) (f k : Bytes) → cmp (a ∷ k) (a ∷ f) ≡ cmp k f
first_same a f k = ap (λ o. ordering_then o (cmp k f)) (nat_same a)

less_no : (o : Ordering) → o ≡ Less → is_lt o ≡ false → ⊥
less_no o e n = let both = sym (ap is_lt e) ∙ n in cc

-- a key from one on and below another, which both begin with the same bytes
pub squeeze : (n : ℕ) (f k e : Bytes) → n ≤ length f → take n f ≡ take n e → is_lt (cmp k f) ≡ false → is_lt (cmp k e) ≡ true → take n k ≡ take n f
squeeze zero f k e long alike from to = refl
squeeze (suc n) [] k e long alike from to = absurd (omega (arith, long))
squeeze (suc n) (a ∷ f) k [] long alike from to = absurd (let none = ap length alike in cc)
squeeze (suc n) (a ∷ f) [] (b ∷ e) long alike from to = absurd (cc)
squeeze (suc n) (a ∷ f) (c ∷ k) (b ∷ e) long alike from to =
    let same : a ≡ b = cc in
    let rest : take n f ≡ take n e = cc in
    elim (cases_lt c a) [
      | inl below ↦ absurd (less_no (cmp (c ∷ k) (a ∷ f)) (first_less a c f k below) from)
      | inr at_least ↦ elim (cases_eq c a) [
        | inl here ↦
            let from_rest : is_lt (cmp k f) ≡ false = ap is_lt (sym (first_same a f k) ∙ ap (λ x. cmp (x ∷ k) (a ∷ f)) (sym here)) ∙ from in
            let to_rest : is_lt (cmp k e) ≡ true = ap is_lt (sym (first_same b e k) ∙ ap (λ x. cmp (x ∷ k) (b ∷ e)) (sym (here ∙ same))) ∙ to in
            let more = squeeze n f k e (omega (arith, long)) rest from_rest to_rest in
            (λ i. here i ∷ more i)
        | inr differ ↦ absurd (let above : b < c = omega (arith, at_least, differ, same) in let great = ap is_lt (first_greater b c e k above) in let both = sym great ∙ to in cc)
      ]
    ]

-- a key that begins with some bytes of another one, and has no more than these, stands before it
pub shorter : (n : ℕ) (f k : Bytes) → n < length f → take n k ≡ take n f → length k ≤ n → is_lt (cmp k f) ≡ true
shorter n [] k long alike few = absurd (omega (arith, long))
shorter n (a ∷ f) [] long alike few = refl
shorter zero (a ∷ f) (c ∷ k) long alike few = absurd (omega (arith, few))
shorter (suc n) (a ∷ f) (c ∷ k) long alike few =
    let same : c ≡ a = cc in
    let rest : take n k ≡ take n f = cc in
    ap is_lt (ap (λ x. cmp (x ∷ k) (a ∷ f)) same ∙ first_same a f k) ∙ shorter n f k (omega (arith, long)) rest (omega (arith, few))

-- so many bytes there are where as many are alike
pub reaches : (n : ℕ) (f k : Bytes) → n ≤ length f → take n k ≡ take n f → n ≤ length k
reaches zero f k long alike = omega arith
reaches (suc n) [] k long alike = absurd (omega (arith, long))
reaches (suc n) (a ∷ f) [] long alike = absurd (let none = ap length alike in cc)
reaches (suc n) (a ∷ f) (c ∷ k) long alike = let rest : take n k ≡ take n f = cc in let more = reaches n f k (omega (arith, long)) rest in omega (arith, more)
