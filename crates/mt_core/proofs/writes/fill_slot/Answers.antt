-- A pair that was written into a free slot.
use Rattle.std.proofs.Common.{refl}
use Rattle.mt_core.proofs.writes.fill_slot.Goals as goal

pub take_ready-prepared-requires : goal.take_ready-prepared-requires
take_ready-prepared-requires c = c.requires.has

pub fill-requires : goal.fill-requires
fill-requires c = record { kept = (c.args.operation.now.task, c.requires.kept _ c.take_ready-prepared.ensures.ready) }

pub returns : goal.returns
returns c = λ tape accounts. record {
  prepared = c.take_ready-prepared.result;
  rest = c.fill.new.prepared;
  has = c.take_ready-prepared.ensures.ready;
  fills = c.fill.ensures c.args.operation.now.task (c.requires.kept _ c.take_ready-prepared.ensures.ready);
  only = refl;
  others = refl;
}
