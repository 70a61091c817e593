-- Over disks that keep the rules what was read again is what was seen.
use Rattle.std.proofs.Common.{map}
use Rattle.mt_rows.specs.TenantPairs.{pairs_of}
use Rattle.mt_log.specs.Contents.{contents_of}
use Rattle.mt_generations.proofs.Whole.{whole_over}
use Rattle.mt_store_logs.specs.Rereads.{KeepRules}
use Rattle.mt_store_logs.proofs.SecondReadings.{recovered_over}
use Rattle.mt_store_logs.proofs.laws.a_recovery_is_of_what_was_seen.Goals as goal

pub returns-clause-over : goal.returns-clause-over
returns-clause-over g c = λ accounts seen fronts r logs slots rules is.
    recovered_over (KeepRules g.D.Disk.is_honest g.D.Disk.state g.D.Disk.failures logs slots) accounts seen fronts r rules is

pub returns-clause-whole : goal.returns-clause-whole
returns-clause-whole g c = λ accounts seen fronts r logs slots rules is begin.
    whole_over (map contents_of fronts) begin seen r.cutoff r.resume r.used (pairs_of r.pairs.items)
    (recovered_over (KeepRules g.D.Disk.is_honest g.D.Disk.state g.D.Disk.failures logs slots) accounts seen fronts r rules is)
