-- What the digits of a prefix write, for their `Display`.
use Rattle.std.proofs.{Common.{◌≡◌, ℕ, List, Option, Some, get_or, subst, rules}, Output.{has_written_append, has_written_of_eq}}
use Rattle.std.specs.Fmt.{styled_digits_output, DisplaysOnOk}
use Rattle.mt_core.{specs.Shapes.hex_digits, proofs.{Texts.hex_written, Lines.next_piece}}
use Rattle.mt_core.proofs.shape.HexadecimalDisplay.fmt.Goals as goal

-- one byte more
pub loop-byte-preserved : goal.loop-byte-preserved
loop-byte-preserved g c plain =
    let bytes = c.args.self.now.bytes.now in
    let next = get_or bytes c.loop-byte.byte-index 0 in
    let digits : styled_digits_output c.in_radix.result c.laid_out.result ≡ Some (hex_digits 2 next) = rw (c.laid_out.ensures, c.in_radix.ensures) (hex_written 2 next) in
    let written : Option (List ℕ) → Type 0 = λ o. DisplaysOnOk g.W.Write.write_str_gives c.loop-byte.f c.write.result o c.write.new.self in
    let writes : written (Some (hex_digits 2 next)) = subst written digits c.write.ensures.writes in
    let before = c.loop-byte.invariant plain in
    let one_more = next_piece (hex_digits 2) bytes c.loop-byte.byte-index 0 c.loop-byte-test.true in
    has_written_of_eq _ _ _ _ _ one_more (has_written_append _ _ _ _ _ _ before (writes before.plain (search rules)))
