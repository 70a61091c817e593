-- Callers that move from one list to others; for `callers_of` and `totals_of`.
use Rattle.std.{proofs.{Common.{◌≡◌, ℕ, ◌+◌, List, [], ◌∷◌, ◌++◌, refl, sym, ap, ◌∙◌, append_assoc}}, specs.{Prelude.map, List.{flat_map, sum_by}}, proofs.lemmas.List.Sums.sum_by-cons}

-- one more moves, as one of another list or as several
pub one_moves : {X Y : Type 0} (g : X → Y) (done after all : List Y) (rest left : List X) (one : X) (y : Y) → done ++ map g rest ≡ all → rest ≡ one ∷ left
    → after ≡ done ++ y ∷ [] → y ≡ g one → after ++ map g left ≡ all
one_moves g done after all rest left one y so goes pushed is =
    ap (λ l. l ++ map g left) pushed ∙ append_assoc done (y ∷ []) (map g left) ∙ ap (λ z. done ++ z ∷ map g left) is ∙ sym (ap (λ l. done ++ map g l) goes) ∙ so

pub some_move : {X Y : Type 0} (g : X → List Y) (done after all : List Y) (rest left : List X) (one : X) (ys : List Y) → done ++ flat_map g rest ≡ all → rest ≡ one ∷ left
    → after ≡ done ++ ys → ys ≡ g one → after ++ flat_map g left ≡ all
some_move g done after all rest left one ys so goes pushed is =
    ap (λ l. l ++ flat_map g left) pushed ∙ append_assoc done ys (flat_map g left) ∙ ap (λ z. done ++ (z ++ flat_map g left)) is ∙ sym (ap (λ l. done ++ flat_map g l) goes) ∙ so

-- the sum over what was moved
pub sum_moved : {X Y : Type 0} (f : Y → ℕ) (g : X → Y) (xs : List X) → sum_by f (map g xs) ≡ sum_by (λ x. f (g x)) xs
sum_moved f g [] = refl
sum_moved f g (x ∷ xs) = sum_by-cons f (g x) (map g xs) ∙ ap (λ n. f (g x) + n) (sum_moved f g xs) ∙ sym (sum_by-cons (λ y. f (g y)) x xs)
