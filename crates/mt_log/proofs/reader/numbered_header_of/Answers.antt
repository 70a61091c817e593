-- A header of the other parity belongs into the other file.
use Rattle.std.proofs.Common.{inr, drop, refl, rules}
use Rattle.mt_log_generations.{proofs.HeaderLaws.fits}
use Rattle.mt_log.proofs.reader.numbered_header_of.Goals as goal

pub returns-then-ne-clause-err : goal.returns-then-ne-clause-err
returns-then-ne-clause-err c = inr (record {
  header = c.in_ok-header.header;
  more = drop 25 c.args.bytes.now;
  fits = fits c.in_ok-header.header c.in_ok-header.ensures.header;
  whole = c.in_ok-header.ensures.whole;
  wrong = λ within same. search (rules, same, c.of.ensures, c.if-ne.true, c.ne.ensures);
  named = refl;
})
