-- Lists that are put into a buffer item by item: for the writers of rows and of pairs.
use Rattle.std.proofs.Common.{◌≡◌, ℕ, ◌+◌, ◌<◌, ◌≤◌, List, [], ◌∷◌, ◌++◌, Option, length, get_or, take, drop, sym, ap, subst, ◌∙◌, append_assoc}
use Rattle.std.proofs.lemmas.List.{take_all, take_more, take-append-drop, flat_map_more}
use Rattle.std.proofs.lemmas.List.Concat.{flat_map-append}
use Rattle.std.specs.List.{flat_map}
use Rattle.mt_streams.specs.{Failures.{NoFewer, Failed}, Buffering.{Buffers, WritesFront}}
use Rattle.mt_streams.proofs.{BufferLemmas.{Buffers-trans, Buffers-lost, stops}, FailureLemmas.then-Failed}

-- the items so far and one more
one_more : {B : Type 0} (f : B → List ℕ) (head : List ℕ) (xs : List B) (i : ℕ) (x : B) → i < length xs → x ≡ get_or xs i x
    → (head ++ flat_map f (take i xs)) ++ f x ≡ head ++ flat_map f (take (i + 1) xs)
one_more f head xs i x inside is =
    flat_map_more f head (take i xs) x ∙ ap (λ ys. head ++ flat_map f ys) (ap (λ y. take i xs ++ y ∷ []) is ∙ sym (take_more xs i x inside))

-- one item more is put after those before it
pub put_more : {B : Type 0} (f : B → List ℕ) (a b c : Option (List ℕ)) (k l m head : List ℕ) (xs : List B) (i : ℕ) (x : B) → i < length xs → x ≡ get_or xs i x
    → Buffers a b k l (head ++ flat_map f (take i xs)) → Buffers b c l m (f x) → Buffers a c k m (head ++ flat_map f (take (i + 1) xs))
put_more f a b c k l m head xs i x inside is p q =
    subst (Buffers a c k m) (one_more f head xs i x inside is) (Buffers-trans a b c k l m (head ++ flat_map f (take i xs)) (f x) p q)

-- and the last of them ends the list
pub put_all : {B : Type 0} (f : B → List ℕ) (a b : Option (List ℕ)) (k l head : List ℕ) (xs : List B) (i : ℕ) → length xs ≤ i
    → Buffers a b k l (head ++ flat_map f (take i xs)) → Buffers a b k l (head ++ flat_map f xs)
put_all f a b k l head xs i past = subst (λ ys. Buffers a b k l (head ++ flat_map f ys)) (take_all i xs past)

-- the items before the place, this one and those after it
all_items : {B : Type 0} (f : B → List ℕ) (head : List ℕ) (xs : List B) (i : ℕ) → (head ++ flat_map f (take i xs)) ++ flat_map f (drop i xs) ≡ head ++ flat_map f xs
all_items f head xs i =
    append_assoc head (flat_map f (take i xs)) (flat_map f (drop i xs)) ∙ ap (λ ys. head ++ ys) (sym (flat_map-append f (take i xs) (drop i xs)) ∙ ap (flat_map f) (take-append-drop i xs))

-- where the writer failed in an item, a front was written of the whole list
pub put_stops : {B : Type 0} (f : B → List ℕ) (a b c : Option (List ℕ)) (i j n : Option ℕ) (k l head : List ℕ) (xs : List B) (at : ℕ) (x : B) → at < length xs → x ≡ get_or xs at x
    → Buffers a b k l (head ++ flat_map f (take at xs)) → NoFewer i j → WritesFront b c (l ++ f x) × Failed j n → WritesFront a c (k ++ (head ++ flat_map f xs)) × Failed i n
put_stops f a b c i j n k l head xs at x inside is p q h =
    let so_far = subst (λ ys. WritesFront a c (k ++ ys)) (one_more f head xs at x inside is) (Buffers-lost a b c k l (head ++ flat_map f (take at xs)) (f x) p h.0) in
    (subst (λ ys. WritesFront a c (k ++ ys)) (all_items f head xs (at + 1)) (stops a c i n k (head ++ flat_map f (take (at + 1) xs)) (flat_map f (drop (at + 1) xs)) (so_far, then-Failed i j n q h.1)).0, then-Failed i j n q h.1)

-- a text was put, and the writer failed in the next one: a front was written of both and of what comes after them
pub second_stops : (a b c : Option (List ℕ)) (i j n : Option ℕ) (k l s t u : List ℕ) → Buffers a b k l s → NoFewer i j → WritesFront b c (l ++ t) × Failed j n
    → WritesFront a c (k ++ ((s ++ t) ++ u)) × Failed i n
second_stops a b c i j n k l s t u p q h = stops a c i n k (s ++ t) u (Buffers-lost a b c k l s t p h.0, then-Failed i j n q h.1)
