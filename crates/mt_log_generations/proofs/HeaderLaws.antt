-- A file has one header at most; what may be left of a log is read as that log or as none.
use Rattle.std.proofs.Common.{◌≡◌, ◌⊎◌, inl, inr, ℕ, ◌<◌, ◌^◌, List, [], ◌∷◌, ◌++◌, take, drop, Option, Some, None, refl, sym, ◌∙◌, ap, subst, arith, append_assoc}
use Rattle.std.proofs.{lemmas.Option.same_Some, lemmas.Nat.from_be_bytes-to_be_bytes_8}
use Rattle.std.specs.{Prelude.slice_index_or, Int.{to_be_bytes, from_be_bytes, w64}, List.slice_get}
use Rattle.mt_gates.{specs.Gates.{IsClosed, IsLeftOf}, proofs.Crash.counts}
use Rattle.mt_log_generations.specs.declared.header.Header.{Header}
use Rattle.mt_log_generations.specs.Headers.{header_with, header_bytes, begun_text, IsHeader, FitsEightBytes, IsLog, IsNoLog, Has, IsBad}

-- ---- numbers

pub fits : (h : Header) → IsHeader h → FitsEightBytes h
fits h is = record { generation = omega (arith, is.generation); start = omega (arith, is.start) }

-- a number of eight bytes by these
number_is : (n m : ℕ) → n < 2 ^ 64 → m < 2 ^ 64 → to_be_bytes w64 n ≡ to_be_bytes w64 m → n ≡ m
number_is n m below other e = sym (from_be_bytes-to_be_bytes_8 n below) ∙ ap (from_be_bytes w64) e ∙ from_be_bytes-to_be_bytes_8 m other

-- bytes spell one header
pub one_header : (h k : Header) (a b : List ℕ) → FitsEightBytes h → FitsEightBytes k → header_bytes h ++ a ≡ header_bytes k ++ b → h ≡ k
one_header h k a b fits_h fits_k e =
    let worker : h.worker ≡ k.worker = ap (λ (l : List ℕ). slice_index_or l 6 0) e in
    let logs : h.logs ≡ k.logs = ap (λ (l : List ℕ). slice_index_or l 7 0) e in
    let first : to_be_bytes w64 h.generation ≡ to_be_bytes w64 k.generation = ap (λ (l : List ℕ). take 8 (drop 8 l)) e in
    let second : to_be_bytes w64 h.start ≡ to_be_bytes w64 k.start = ap (λ (l : List ℕ). take 8 (drop 16 l)) e in
    let generation = number_is h.generation k.generation fits_h.generation fits_k.generation first in
    let start = number_is h.start k.start fits_h.start fits_k.start second in
    λ i. header_with (worker i) (logs i) (generation i) (start i)

-- ---- files

pub closed_is_none : (image : List ℕ) → IsClosed image → IsNoLog image
closed_is_none image closed e = omega (arith, same_Some 0 1 (sym (ap (λ (l : List ℕ). slice_get l 0) closed.whole) ∙ e))

pub is_a_log : (h : Header) (image : List ℕ) → IsLog h image → IsNoLog image → ⊥
is_a_log h image log none = none (ap (λ (l : List ℕ). slice_get l 0) log.whole)

pub one : (h k : Header) (image : List ℕ) → IsLog h image → IsLog k image → h ≡ k
one h k image log other =
    one_header h k log.behind other.behind (fits h log.header) (fits k other.header) (ap (λ (l : List ℕ). drop 1 l) (sym log.whole ∙ other.whole))

pub not_bad : (h : Header) (image : List ℕ) (number : ℕ) → IsLog h image → IsBad image number → ⊥
not_bad h image number log bad =
    elim bad.why [
      | inl none ↦ none.0 h log.behind (fits h log.header) log.whole
      | inr past ↦ past.wrong (subst IsHeader (one_header h past.header log.behind past.more (fits h log.header) past.fits (ap (λ (l : List ℕ). drop 1 l) (sym log.whole ∙ past.whole))) log.header)
    ]

pub told : (h : Header) (image : List ℕ) (x : Option Header) → IsLog h image → Has x image → x ≡ Some h
told h image None log none = absurd (is_a_log h image log none)
told h image (Some k) log other = ap (λ (y : Header). Some y) (one k h image other log)

pub begun : (h : Header) → IsHeader h → IsLog h (1 ∷ begun_text h)
begun h is = record { header = is; behind = 0 ∷ []; whole = refl }

-- ---- what may be left

module _ (h : Header) (rest image : List ℕ) (is : IsHeader h) where
  pub whole_or_none : IsLeftOf (header_bytes h ++ rest) image → IsNoLog image ⊎ ((behind : List ℕ) × (image ≡ 1 ∷ (header_bytes h ++ (rest ++ behind))))
  whole_or_none left =
      elim (counts (header_bytes h ++ rest) image left) [
        | inl none ↦ inl none
        | inr opened ↦ inr (opened.behind, opened.whole ∙ ap (λ (l : List ℕ). 1 ∷ l) (append_assoc (header_bytes h) rest opened.behind))
      ]

  log_of : ((behind : List ℕ) × (image ≡ 1 ∷ (header_bytes h ++ (rest ++ behind)))) → IsLog h image
  log_of x = record { header = is; behind = rest ++ x.0; whole = x.1 }

  pub left_not_bad : (number : ℕ) → IsLeftOf (header_bytes h ++ rest) image → IsBad image number → ⊥
  left_not_bad number left bad =
      elim (whole_or_none left) [
        | inl none ↦ none bad.opened
        | inr x ↦ not_bad h image number (log_of x) bad
      ]

  pub left_told : (x : Option Header) → IsLeftOf (header_bytes h ++ rest) image → Has x image → (x ≡ None) ⊎ (x ≡ Some h)
  left_told None left has = inl refl
  left_told (Some k) left has =
      elim (whole_or_none left) [
        | inl none ↦ absurd (is_a_log k image has none)
        | inr x ↦ inr (ap (λ (y : Header). Some y) (one k h image has (log_of x)))
      ]
