-- Columns behind their indexes, one more at a time.
use Rattle.std.proofs.Common.{◌≡◌, ℕ, ◌+◌, ◌<◌, List, [], ◌∷◌, ◌++◌, length, get_or, take, drop, Option, Some, None, refl, sym, ap, ◌∙◌, append_assoc, append-nil, arith}
use Rattle.std.proofs.lemmas.List.{take_more, length-take, take-append-drop, take_at}
use Rattle.std.specs.Prelude.{decimal}
use Rattle.mt_resp.specs.{Grammar.{Bytes, bulk}, Replies.fields_from}

fields_snoc : (k : ℕ) (ys : List Bytes) (x : Bytes) → fields_from k (ys ++ x ∷ []) ≡ fields_from k ys ++ (bulk (decimal (k + length ys)) ++ bulk x)
fields_snoc k [] x =
    let e : k ≡ k + 0 = omega arith in
    ap (λ (t : Bytes). bulk (decimal k) ++ t) (append-nil (bulk x)) ∙ ap (λ (n : ℕ). bulk (decimal n) ++ bulk x) e
fields_snoc k (y ∷ ys) x =
    let e : (k + 1) + length ys ≡ k + length (y ∷ ys) = omega arith in
    let h : Bytes = bulk (decimal k) in
    let last : Bytes = bulk (decimal ((k + 1) + length ys)) ++ bulk x in
    ap (λ (t : Bytes). h ++ (bulk y ++ t)) (fields_snoc (k + 1) ys x)
    ∙ ap (λ (t : Bytes). h ++ t) (sym (append_assoc (bulk y) (fields_from (k + 1) ys) last))
    ∙ sym (append_assoc h (bulk y ++ fields_from (k + 1) ys) last)
    ∙ ap (λ (n : ℕ). (h ++ (bulk y ++ fields_from (k + 1) ys)) ++ (bulk (decimal n) ++ bulk x)) e

-- one column more
pub fields_more : (cols : List Bytes) (i : ℕ) (x : Bytes) → i < length cols → x ≡ get_or cols i x
    → fields_from 0 (take i cols) ++ (bulk (decimal i) ++ bulk x) ≡ fields_from 0 (take (i + 1) cols)
fields_more cols i x inside is =
    let len : 0 + length (take i cols) ≡ i = omega (arith, length-take i cols) in
    ap (λ (n : ℕ). fields_from 0 (take i cols) ++ (bulk (decimal n) ++ bulk x)) (sym len) ∙ sym (fields_snoc 0 (take i cols) x)
    ∙ ap (fields_from 0) (ap (λ (y : Bytes). take i cols ++ y ∷ []) is ∙ sym (take_more cols i x inside))

-- written behind a header
pub more_written : (old head mid new : Bytes) (cols : List Bytes) (i : ℕ) (x : Bytes) → i < length cols → x ≡ get_or cols i x
    → mid ≡ old ++ (head ++ fields_from 0 (take i cols)) → new ≡ mid ++ (bulk (decimal i) ++ bulk x) → new ≡ old ++ (head ++ fields_from 0 (take (i + 1) cols))
more_written old head mid new cols i x inside is e g =
    let one : Bytes = bulk (decimal i) ++ bulk x in
    g ∙ ap (λ (t : Bytes). t ++ one) e ∙ append_assoc old (head ++ fields_from 0 (take i cols)) one
    ∙ ap (λ (t : Bytes). old ++ t) (append_assoc head (fields_from 0 (take i cols)) one ∙ ap (λ (t : Bytes). head ++ t) (fields_more cols i x inside is))

-- what stands at the front of the middle stands at the front of the new
pub front_then : (old mid new more : Bytes) → mid ≡ old ++ more → take (length mid) new ≡ mid → take (length old) new ≡ old
front_then old mid new more e f =
    let whole : new ≡ old ++ (more ++ drop (length mid) new) = sym (take-append-drop (length mid) new) ∙ ap (λ x. x ++ drop (length mid) new) (f ∙ e) ∙ append_assoc old more (drop (length mid) new) in
    ap (take (length old)) whole ∙ take_at old (more ++ drop (length mid) new) (length old) refl

-- columns that were found before others
abbrev pub columns_after : List ℕ → Option (List ℕ) → Option (List ℕ)
columns_after front None = None
columns_after front (Some others) = Some (front ++ others)
