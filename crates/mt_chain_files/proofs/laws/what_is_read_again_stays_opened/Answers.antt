-- Logs that were only read are open as they were.
use Rattle.mt_chain_files.proofs.{StillOpen.opened_again, StillShown.all_shown_again}
use Rattle.mt_chain_files.proofs.laws.what_is_read_again_stays_opened.Goals as goal

pub returns-clause-opened : goal.returns-clause-opened
returns-clause-opened g c = λ slots old mid new chains read plain o. opened_again g.D.Disk.is_honest g.D.Disk.state g.D.Disk.failures slots old mid new chains read plain o

pub returns-clause-shows : goal.returns-clause-shows
returns-clause-shows g c = λ well files old new read shows. all_shown_again g.D.Disk.is_honest g.D.Disk.state g.D.Disk.failures well files old new read shows
