-- The log in a place was read.
use Rattle.std.proofs.Common.{inr, refl}
use Rattle.mt_chain_files.proofs.Giving.{slot_given}
use Rattle.mt_chain_files.proofs.chain_reader.read_slot.Goals as goal

pub returns-in-Open-clause-ahead : goal.returns-in-Open-clause-ahead
returns-in-Open-clause-ahead g c =
    rw c.in-Open.is
    (slot_given g.D.Disk.is_honest g.D.Disk.state g.D.Disk.failures c.read_log.result c.args.kind c.in-Open.log c.read_log.new.log c.args.reader.now c.read_log.new.reader c.read_log.ensures.log
    c.read_log.ensures.ahead)

pub returns-in-Open-clause-read : goal.returns-in-Open-clause-read
returns-in-Open-clause-read g c =
    inr (record { was = c.in-Open.log; is = c.read_log.new.log; from = c.in-Open.is; to = refl; only = c.read_log.ensures.log; count = c.read_log.ensures.count })
