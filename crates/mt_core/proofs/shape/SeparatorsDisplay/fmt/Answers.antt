-- What separators write, for their `Display`.
use Rattle.std.proofs.{Common.{◌≡◌, ℕ, List, ◌++◌, Option, Some, get_or, subst, rules}, Output.{has_written_append, has_written_of_eq}}
use Rattle.std.specs.{Prelude.codes, Fmt.{styled_digits_output, ◌++?◌, DisplaysOnOk}}
use Rattle.mt_core.{specs.Shapes.hex_digits, proofs.{Texts.hex_written, Lines.next_piece}}
use Rattle.mt_core.proofs.shape.SeparatorsDisplay.fmt.Goals as goal

-- one separator more
pub loop-slice-preserved : goal.loop-slice-preserved
loop-slice-preserved g c plain =
    let slices = c.as_slice-slice-items.result.now in
    let next = get_or slices c.loop-slice.slice-index 0 in
    let digits : styled_digits_output c.in_radix.result c.laid_out.result ≡ Some (hex_digits 16 next) = rw (c.laid_out.ensures, c.in_radix.ensures) (hex_written 16 next) in
    let spaced : Option (List ℕ) → Type 0 = λ o. DisplaysOnOk g.W.Write.write_str_gives c.loop-slice.f c.write.result (Some (codes " ") ++? o) c.write.new.self in
    let writes : spaced (Some (hex_digits 16 next)) = subst spaced digits c.write.ensures.writes in
    let before = c.loop-slice.invariant plain in
    let one_more = next_piece (λ slice. codes " " ++ hex_digits 16 slice) slices c.loop-slice.slice-index 0 c.loop-slice-test.true in
    has_written_of_eq _ _ _ _ _ one_more (has_written_append _ _ _ _ _ _ before (writes before.plain (search rules)))
