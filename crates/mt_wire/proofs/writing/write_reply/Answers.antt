use Rattle.mt_wire.proofs.writing.write_reply.Goals as goal

pub returns-in-Settled : goal.returns-in-Settled
returns-in-Settled g c = rw c.in-Settled.is c.write_number.ensures
