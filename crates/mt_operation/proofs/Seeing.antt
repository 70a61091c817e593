-- Pairs that were seen, as their keys stand in one row of bytes.
use Rattle.std.proofs.Common.{◌≡◌, ◌≤◌, ◌+◌, ◌++◌, ℕ, List, [], ◌∷◌, length, take, drop, refl, ap, ◌∙◌, arith}
use Rattle.std.proofs.{lemmas.List.{length-drop, map-append, take-append-le, drop-append-le}, lemmas.List.Elements.{All-head, All-tail}}
use Rattle.std.proofs.Math.Seq.{drop-append_seam, take-length}
use Rattle.mt_rows.specs.{Rows.Bytes, Stamps.Stamped}
use Rattle.mt_operation.specs.{declared.seen.SeenPair.SeenPair, Scans.{pair_in, pairs_in, HasKeys}}

-- bytes behind the others leave what stands there
cut_stays : (bytes more : Bytes) (start count : ℕ) → start + count ≤ length bytes → take count (drop start (bytes ++ more)) ≡ take count (drop start bytes)
cut_stays bytes more start count within =
    let size = length-drop start bytes in
    ap (take count) (drop-append-le start bytes more (omega (arith, within)))
    ∙ take-append-le count (drop start bytes) more (omega (arith, size, within))

-- a pair has its key among these bytes
abbrev HasKeyIn : Bytes → SeenPair → Type 0
HasKeyIn bytes p = p.key_start + p.key_length ≤ length bytes

pub stays : (bytes more : Bytes) (pairs : List SeenPair) → HasKeys bytes pairs → pairs_in (bytes ++ more) pairs ≡ pairs_in bytes pairs
stays bytes more [] keys = refl
stays bytes more (p ∷ pairs) keys =
    ap (λ (key : Bytes). (key, p.row) ∷ pairs_in (bytes ++ more) pairs) (cut_stays bytes more p.key_start p.key_length (All-head (HasKeyIn bytes) p pairs keys))
    ∙ ap (λ (rest : List (Bytes × Stamped)). pair_in bytes p ∷ rest) (stays bytes more pairs (All-tail (HasKeyIn bytes) p pairs keys))

-- one more pair, whose key stands behind the others
pub one_more : (bytes key : Bytes) (pairs : List SeenPair) (p : SeenPair) → HasKeys bytes pairs → p.key_start ≡ length bytes → p.key_length ≡ length key
    → pairs_in (bytes ++ key) (pairs ++ p ∷ []) ≡ pairs_in bytes pairs ++ (key, p.row) ∷ []
one_more bytes key pairs p keys starts long =
    map-append (pair_in (bytes ++ key)) pairs (p ∷ [])
    ∙ ap (λ (front : List (Bytes × Stamped)). front ++ pair_in (bytes ++ key) p ∷ []) (stays bytes key pairs keys)
    ∙ ap (λ (k : Bytes). pairs_in bytes pairs ++ (k, p.row) ∷ []) is
  where
    is : take p.key_length (drop p.key_start (bytes ++ key)) ≡ key
    is = ap (λ n. take p.key_length (drop n (bytes ++ key))) starts ∙ ap (take p.key_length) (drop-append_seam bytes key) ∙ ap (λ n. take n key) long ∙ take-length key
