-- What was read stands for whole logs, so there is a choice, and no start falls.
use Rattle.std.proofs.Common.{map}
use Rattle.mt_log.specs.Contents.{contents_of}
use Rattle.mt_crashes.specs.Stores.{new_store}
use Rattle.mt_crashes.proofs.{NewStore.new_is, Kept.leads}
use Rattle.mt_generations.proofs.Whole.{recovered_over}
use Rattle.mt_chain_files.proofs.OwnFiles as own
use Rattle.mt_chain_files.proofs.laws.files_of_a_store_are_never_refused.Goals as goal

pub returns-clause-opened : goal.returns-clause-opened
returns-clause-opened q c g count n h s files slots old new chains some few lead turn left whole shows opens =
    own.opened q.D.Disk.is_honest q.D.Disk.state q.D.Disk.failures s (leads n (new_store count) s (new_is count some few) lead) g h files slots left turn whole old shows new chains opens

pub returns-clause-recovered : goal.returns-clause-recovered
returns-clause-recovered q c g count n h s files slots old new chains cutoff resume used found some few lead turn left whole shows opens recovers =
    let is = leads n (new_store count) s (new_is count some few) lead in
    let o = own.opened q.D.Disk.is_honest q.D.Disk.state q.D.Disk.failures s is g h files slots left turn whole old shows new chains opens in
    (recovered_over s o.fronts (map contents_of chains.fronts.items) is o.left o.ends slots cutoff resume used found left recovers).0

pub returns-clause-failed : goal.returns-clause-failed
returns-clause-failed q c g count n h s files slots old new e some few lead turn left whole shows stops =
    own.failed q.D.Disk.is_honest q.D.Disk.state q.D.Disk.failures s (leads n (new_store count) s (new_is count some few) lead) g h files slots left turn whole old shows new e stops
