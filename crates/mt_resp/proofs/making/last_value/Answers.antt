use Rattle.std.proofs.Common.{refl, arith}
use Rattle.mt_resp.proofs.Values.{next_value}
use Rattle.mt_resp.proofs.making.last_value.Goals as goal

pub loop-rest-preserved-then-is_field : goal.loop-rest-preserved-then-is_field
loop-rest-preserved-then-is_field c =
    next_value c.args.index _ _ _ c.loop-rest.rest.now c.field-item.result c.value-item.result c.is_field.result (omega arith) c.field-item.is c.value-item.is c.is_field.ensures (rw c.if-is_field.true refl) c.loop-rest.invariant

pub loop-rest-preserved : goal.loop-rest-preserved
loop-rest-preserved c =
    next_value c.args.index _ _ _ c.loop-rest.rest.now c.field-item.result c.value-item.result c.is_field.result (omega arith) c.field-item.is c.value-item.is c.is_field.ensures (rw c.if-is_field.false refl) c.loop-rest.invariant
