-- What an edge writes, for its `Display`.
use Rattle.std.{proofs.Common.{◌≡◌, Some, subst}, specs.Fmt.{styled_digits_output, DisplaysOnOk}}
use Rattle.mt_core.{specs.Shapes.hex_digits, proofs.Texts.{hex_written, short_written, link_written, long_written}}
use Rattle.mt_core.proofs.shape.EdgeDisplay.fmt.Goals as goal

pub returns-in-Short-clause-writes : goal.returns-in-Short-clause-writes
returns-in-Short-clause-writes g c =
    let digits : styled_digits_output c.in_radix.result c.laid_out.result ≡ Some (hex_digits 16 c.args.self.now.slice) = rw (c.laid_out.ensures, c.in_radix.ensures) (hex_written 16 c.args.self.now.slice) in
    subst (λ o. DisplaysOnOk g.W.Write.write_str_gives c.args.f.now c.write.result o c.write.new.self) (short_written c.args.self.now _ digits c.in-Short.bytes c.in-Short.is) c.write.ensures.writes

pub returns-in-Long-clause-writes : goal.returns-in-Long-clause-writes
returns-in-Long-clause-writes g c =
    let digits : styled_digits_output c.in_radix-in-Long.result c.laid_out-in-Long.result ≡ Some (hex_digits 16 c.args.self.now.slice) = rw (c.laid_out-in-Long.ensures, c.in_radix-in-Long.ensures) (hex_written 16 c.args.self.now.slice) in
    subst (λ o. DisplaysOnOk g.W.Write.write_str_gives c.args.f.now c.write-in-Long.result o c.write-in-Long.new.self) (link_written c.args.self.now _ digits c.in-Long.is c.if-self.true) c.write-in-Long.ensures.writes

pub returns-in-Long-2-clause-writes : goal.returns-in-Long-2-clause-writes
returns-in-Long-2-clause-writes g c =
    let digits : styled_digits_output c.in_radix-in-Long-2.result c.laid_out-in-Long-2.result ≡ Some (hex_digits 16 c.args.self.now.slice) = rw (c.laid_out-in-Long-2.ensures, c.in_radix-in-Long-2.ensures) (hex_written 16 c.args.self.now.slice) in
    subst (λ o. DisplaysOnOk g.W.Write.write_str_gives c.args.f.now c.write-in-Long-2.result o c.write-in-Long-2.new.self) (long_written c.args.self.now _ digits c.in-Long-2.is c.if-self.false) c.write-in-Long-2.ensures.writes
