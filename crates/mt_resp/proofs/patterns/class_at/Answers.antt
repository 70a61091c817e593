use Rattle.std.proofs.Common.{refl}
use Rattle.std.proofs.lemmas.Bool.{ne_eqb}
use Rattle.mt_resp.proofs.Stars.{class_goes_on}
use Rattle.mt_resp.proofs.patterns.class_at.Goals as goal

pub loop-rest-preserved-then-found : goal.loop-rest-preserved-then-found
loop-rest-preserved-then-found c =
    class_goes_on c.args.byte c.loop-rest.found c.loop-rest.found c.class_item-taken.result.0 c.loop-rest.rest.now c.class_item-taken.result.1.now _ c.in-len1-up.len_at_least (ne_eqb _ 93 c.if-own-eq93.false) c.class_item-taken.ensures (rw c.if-found.true refl) c.loop-rest.invariant

pub loop-rest-preserved : goal.loop-rest-preserved
loop-rest-preserved c =
    class_goes_on c.args.byte c.loop-rest.found c.class_item-taken.result.0 c.class_item-taken.result.0 c.loop-rest.rest.now c.class_item-taken.result.1.now _ c.in-len1-up.len_at_least (ne_eqb _ 93 c.if-own-eq93.false) c.class_item-taken.ensures (rw c.if-found.false refl) c.loop-rest.invariant
