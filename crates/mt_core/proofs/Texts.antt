-- How what stands in a line is printed: for the `Display`s of edges, separators and indents.
use Rattle.std.proofs.Common.{◌≡◌, ℕ, ◌+◌, ◌-◌, ◌*◌, ◌^◌, true, false, List, [], ◌++◌, length, replicate, Option, Some, sym, ap, ◌∙◌, arith}
use Rattle.std.proofs.lemmas.List.{append-nil, replicate-append-replicate}
use Rattle.std.specs.{Prelude.codes, Fmt.{digits, decimal, padded_integral, format_spec, char_count, ◌++?◌}}
use Rattle.mt_slices.specs.declared.mark.Mark.TheVariants.{Short, Long}
use Rattle.mt_core.specs.{declared.shape.Edge.Edge, Shapes.{hex_digits, mark_text, edge_text}}

-- what is filled up with zeros to so many places
filled : (count : ℕ) (shown : List ℕ) → padded_integral (format_spec 32 0 4 count (2 ^ 64 - 1)) false [] shown ≡ replicate (count - length shown) 48 ++ shown
unfolding padded_integral char_count
filled count shown =
    let zeros : count - length shown - 0 - 0 ≡ count - length shown = omega arith in
    ap (λ k. replicate k 48 ++ (shown ++ [])) zeros ∙ ap (λ rest. replicate (count - length shown) 48 ++ rest) (append-nil shown)

-- so the digits of a number
pub hex_written : (count n : ℕ) → Some (padded_integral (format_spec 32 0 4 count (2 ^ 64 - 1)) false [] (digits 16 false n)) ≡ Some (hex_digits count n)
hex_written count n = ap Some (filled count (digits 16 false n))

-- an edge is its slice's digits, and then what its mark writes
module _ (e : Edge) (slice : Option (List ℕ)) (written : slice ≡ Some (hex_digits 16 e.slice)) where
  -- the mark of a short key
  pub short_written : (bytes : ℕ) → e.mark ≡ Short bytes → (slice ++? Some (codes ":" ++ decimal bytes)) ≡ Some (edge_text e)
  short_written bytes is =
      ap (λ o. o ++? Some (codes ":" ++ decimal bytes)) written ∙ ap (λ m. Some (hex_digits 16 e.slice ++ (codes ":" ++ mark_text m e.is_link))) (sym is)

  -- the mark of a link
  pub link_written : e.mark ≡ Long → e.is_link ≡ true → (slice ++? Some (codes ":T")) ≡ Some (edge_text e)
  link_written is link =
      ap (λ o. o ++? Some (codes ":T")) written
      ∙ ap (λ b. Some (hex_digits 16 e.slice ++ (codes ":" ++ mark_text Long b))) (sym link)
      ∙ ap (λ m. Some (hex_digits 16 e.slice ++ (codes ":" ++ mark_text m e.is_link))) (sym is)

  -- the mark of a longer key
  pub long_written : e.mark ≡ Long → e.is_link ≡ false → (slice ++? Some (codes ":L")) ≡ Some (edge_text e)
  long_written is link =
      ap (λ o. o ++? Some (codes ":L")) written
      ∙ ap (λ b. Some (hex_digits 16 e.slice ++ (codes ":" ++ mark_text Long b))) (sym link)
      ∙ ap (λ m. Some (hex_digits 16 e.slice ++ (codes ":" ++ mark_text m e.is_link))) (sym is)

-- two spaces more
pub two_more : (n : ℕ) → replicate (2 * n) 32 ++ codes "  " ≡ replicate (2 * (n + 1)) 32
two_more n =
    let space : ℕ = 32 in
    let even : 2 * n + 2 ≡ 2 * (n + 1) = omega arith in
    replicate-append-replicate (2 * n) 2 space ∙ ap (λ k. replicate k space) even
