-- The changes that a cut leaves make the same bytes before the new end as all of them did.
use Rattle.std.proofs.Common.{◌≡◌, ℕ, zero, suc, ◌+◌, ◌-◌, ◌<◌, ◌≤◌, Bool, true, false, List, [], ◌∷◌, ◌++◌, length, take, drop, refl, sym, ◌∙◌, ap, arith}
use Rattle.std.proofs.{Math.Seq.{drop-nil}, lemmas.Bool.Decides.{nat_tests}}
use Rattle.mt_disk.{specs.Disk.overwritten, proofs.CutLaws.cut_one}
use Rattle.mt_disk.specs.FileEdits.{FileEdit, Wrote, CutTo, BeginsWithin, AllBeginWithin, edited, image_after, begins_before, shortened, cut_back}

-- a write past the first byte leaves it
over_more : (at : ℕ) (bytes : List ℕ) (x : ℕ) (xs : List ℕ) → overwritten (suc at) bytes (x ∷ xs) ≡ x ∷ overwritten at bytes xs
over_more at bytes x xs =
    let one : suc at + length bytes ≡ suc (at + length bytes) = omega arith in
    ap (λ (n : ℕ). take (suc at) (x ∷ xs) ++ bytes ++ drop n (x ∷ xs)) one

-- one from the first byte on stands in front
over_front : (bytes xs : List ℕ) → overwritten 0 bytes xs ≡ bytes ++ drop (length bytes) xs
over_front bytes xs =
    let none : 0 + length bytes ≡ length bytes = omega arith in
    ap (λ (n : ℕ). bytes ++ drop n xs) none

-- images that begin with the same bytes, each with one more
one_more : (len : ℕ) (x y : ℕ) (xs ys : List ℕ) → x ≡ y → take len xs ≡ take len ys → take (suc len) (x ∷ xs) ≡ take (suc len) (y ∷ ys)
one_more len x y xs ys head tail = ap (λ (l : List ℕ). x ∷ l) tail ∙ ap (λ (z : ℕ). z ∷ take len ys) head

-- bytes that are put in front of both
put_front : (len : ℕ) (bytes x y : List ℕ) → take len x ≡ take len y → take len (bytes ++ drop (length bytes) x) ≡ take len (take len bytes ++ drop (length (take len bytes)) y)
put_front zero bytes x y same = refl
put_front (suc len) [] x y same = same
put_front (suc len) (b ∷ bs) [] [] same =
    let more = put_front len bs [] [] refl in
    ap (λ (l : List ℕ). b ∷ take len (bs ++ l)) (sym (drop-nil (length bs))) ∙ ap (λ (l : List ℕ). b ∷ l) more ∙ ap (λ (l : List ℕ). b ∷ take len (take len bs ++ l)) (drop-nil (length (take len bs)))
put_front (suc len) (b ∷ bs) [] (y ∷ ys) same = absurd cc
put_front (suc len) (b ∷ bs) (x ∷ xs) [] same = absurd cc
put_front (suc len) (b ∷ bs) (x ∷ xs) (y ∷ ys) same =
    let tail : take len xs ≡ take len ys = cc in
    ap (λ (l : List ℕ). b ∷ l) (put_front len bs xs ys tail)

-- or written over both, what lies past the end left out
put_at : (len at : ℕ) (bytes x y : List ℕ) → at < len → at ≤ length x → take len x ≡ take len y → take len (overwritten at bytes x) ≡ take len (overwritten at (take (len - at) bytes) y)
put_at zero at bytes x y lt le same = absurd (omega (arith, lt))
put_at (suc len) zero bytes x y lt le same =
    let all : suc len - 0 ≡ suc len = omega arith in
    ap (λ (l : List ℕ). take (suc len) l) (over_front bytes x) ∙ put_front (suc len) bytes x y same
    ∙ sym (ap (λ (l : List ℕ). take (suc len) l) (over_front (take (suc len) bytes) y)) ∙ sym (ap (λ (n : ℕ). take (suc len) (overwritten 0 (take n bytes) y)) all)
put_at (suc len) (suc at) bytes [] y lt le same = absurd (omega (arith, le))
put_at (suc len) (suc at) bytes (x ∷ xs) [] lt le same = absurd cc
put_at (suc len) (suc at) bytes (x ∷ xs) (y ∷ ys) lt le same =
    let head : x ≡ y = cc in
    let tail : take len xs ≡ take len ys = cc in
    let less : suc len - suc at ≡ len - at = omega arith in
    let cut = take (len - at) bytes in
    ap (λ (l : List ℕ). take (suc len) l) (over_more at bytes x xs)
    ∙ one_more len x y (overwritten at bytes xs) (overwritten at cut ys) head (put_at len at bytes xs ys (omega (arith, lt)) (omega (arith, le)) tail)
    ∙ sym (ap (λ (l : List ℕ). take (suc len) l) (over_more at cut y ys)) ∙ sym (ap (λ (n : ℕ). take (suc len) (overwritten (suc at) (take n bytes) (y ∷ ys))) less)

-- what is written past the end leaves what lies before it
put_past : (len at : ℕ) (bytes x : List ℕ) → len ≤ at → at ≤ length x → take len (overwritten at bytes x) ≡ take len x
put_past zero at bytes x past le = refl
put_past (suc len) zero bytes x past le = absurd (omega (arith, past))
put_past (suc len) (suc at) bytes [] past le = absurd (omega (arith, le))
put_past (suc len) (suc at) bytes (x ∷ xs) past le =
    ap (λ (l : List ℕ). take (suc len) l) (over_more at bytes x xs) ∙ ap (λ (l : List ℕ). x ∷ l) (put_past len at bytes xs (omega (arith, past)) (omega (arith, le)))

-- both cut before the end
cut_before : (len to : ℕ) (x y : List ℕ) → to < len → take len x ≡ take len y → take len (take to x) ≡ take len (take to y)
cut_before zero to x y lt same = absurd (omega (arith, lt))
cut_before (suc len) zero x y lt same = refl
cut_before (suc len) (suc to) [] [] lt same = refl
cut_before (suc len) (suc to) [] (y ∷ ys) lt same = absurd cc
cut_before (suc len) (suc to) (x ∷ xs) [] lt same = absurd cc
cut_before (suc len) (suc to) (x ∷ xs) (y ∷ ys) lt same =
    let head : x ≡ y = cc in
    let tail : take len xs ≡ take len ys = cc in
    one_more len x y (take to xs) (take to ys) head (cut_before len to xs ys (omega (arith, lt)) tail)

-- a cut past the end
cut_past : (len to : ℕ) (x : List ℕ) → len ≤ to → take len (take to x) ≡ take len x
cut_past zero to x past = refl
cut_past (suc len) zero x past = absurd (omega (arith, past))
cut_past (suc len) (suc to) [] past = refl
cut_past (suc len) (suc to) (x ∷ xs) past = ap (λ (l : List ℕ). x ∷ l) (cut_past len to xs (omega (arith, past)))

-- a change that is left
one_kept : (len : ℕ) (e : FileEdit) (x y : List ℕ) → BeginsWithin e x → true ≡ begins_before len e → take len x ≡ take len y → take len (edited e x) ≡ take len (edited (shortened len e) y)
one_kept len (Wrote at bytes) x y le is same =
    let lt : at < len = grind (arith, nat_tests) in
    put_at len at bytes x y lt le same
one_kept len (CutTo to) x y le is same =
    let lt : to < len = grind (arith, nat_tests) in
    cut_before len to x y lt same

-- a change that is gone
one_gone : (len : ℕ) (e : FileEdit) (x : List ℕ) → BeginsWithin e x → false ≡ begins_before len e → take len (edited e x) ≡ take len x
one_gone len (Wrote at bytes) x le is =
    let past : len ≤ at = grind (arith, nat_tests) in
    put_past len at bytes x past le
one_gone len (CutTo to) x le is =
    let past : len ≤ to = grind (arith, nat_tests) in
    cut_past len to x past

-- all of them, over images with the same bytes before the end
pub same_before : (len : ℕ) (edits : List FileEdit) (x y : List ℕ) → AllBeginWithin edits x → take len x ≡ take len y → take len (image_after edits x) ≡ take len (image_after (cut_back len edits) y)
same_before len [] x y within same = same
same_before len (e ∷ rest) x y within same = by (λ z. same_before len rest (edited e x) z within.1) (begins_before len e) refl
  where
    by : ((z : List ℕ) → take len (edited e x) ≡ take len z → take len (image_after rest (edited e x)) ≡ take len (image_after (cut_back len rest) z))
        → (b : Bool) → b ≡ begins_before len e → take len (image_after rest (edited e x)) ≡ take len (image_after (cut_back len (e ∷ rest)) y)
    by after true is = after (edited (shortened len e) y) (one_kept len e x y within.0 is same) ∙ sym (ap (λ (l : List FileEdit). take len (image_after l y)) (cut_one len e rest true is))
    by after false is = after y (one_gone len e x within.0 is ∙ same) ∙ sym (ap (λ (l : List FileEdit). take len (image_after l y)) (cut_one len e rest false is))
