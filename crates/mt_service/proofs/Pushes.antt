-- What is so of each element with its place, and of one more, is so of all.
use Rattle.std.proofs.{Common.{ℕ, zero, suc, List, [], ◌∷◌, ◌++◌, length, subst}, lemmas.Option.{same_Some, none-some}}
use Rattle.mt_service.specs.Workers.{EachAt}

pub pushed : {X : Type 0} (xs : List X) (x : X) (P : ℕ → X → Type 0) → EachAt xs P → P (length xs) x → EachAt (xs ++ x ∷ []) P
pushed [] x P all last zero y at = subst (P 0) (same_Some x y at) last
pushed [] x P all last (suc k) y at = absurd (none-some y at)
pushed (z ∷ xs) x P all last zero y at = all 0 y at
pushed (z ∷ xs) x P all last (suc k) y at = pushed xs x (λ n. P (suc n)) (λ n w here. all (suc n) w here) last k y at
