-- What a scan has collected, pair by pair.
use Rattle.std.proofs.{Common.{◌≡◌, ℕ, ◌+◌, List, [], ◌∷◌, ◌++◌, length, take, get_or, Some, refl, sym, ap, ◌∙◌, add-one}, Math.Seq.take-suc}
use Rattle.std.proofs.{lemmas.List.{get_or_default, map-append, append_assoc}, lemmas.Option.{slice_get_within, slice_get_read, same_Some}}
use Rattle.std.specs.Prelude.{slice_get}
use Rattle.mt_rows.specs.{Rows.Bytes, Stamps.{Stamped, as_shown}}
use Rattle.mt_walks.specs.Walked.{shown_all}

-- one more of a list is its next element
take_more : {X : Type 0} (xs : List X) (i : ℕ) (x : X) → slice_get xs i ≡ Some x → take (i + 1) xs ≡ take i xs ++ x ∷ []
take_more xs i x is =
    let below = slice_get_within xs i x is in
    let read = slice_get_read xs (length xs) i (get_or xs i x) refl below (get_or_default xs i x (get_or xs i x) below) in
    let same : get_or xs i x ≡ x = same_Some (get_or xs i x) x (sym read ∙ is) in
    ap (λ n. take n xs) (add-one i) ∙ take-suc xs i x below ∙ ap (λ y. take i xs ++ y ∷ []) same

pub collects_more : (columns : List ℕ) (seen first now next : List (Bytes × Stamped)) (i : ℕ) (key : Bytes) (row : Stamped) → slice_get seen i ≡ Some (key, row)
    → now ≡ first ++ shown_all columns (take i seen) → next ≡ now ++ (key, as_shown columns row) ∷ [] → next ≡ first ++ shown_all columns (take (i + 1) seen)
collects_more columns seen first now next i key row is now_is next_is =
    next_is ∙ ap (λ xs. xs ++ (key, as_shown columns row) ∷ []) now_is ∙ append_assoc first (shown_all columns (take i seen)) ((key, as_shown columns row) ∷ [])
    ∙ ap (λ xs. first ++ xs) (sym (map-append (λ (p : Bytes × Stamped). (p.0, as_shown columns p.1)) (take i seen) ((key, row) ∷ []))
    ∙ ap (shown_all columns) (sym (take_more seen i (key, row) is)))
