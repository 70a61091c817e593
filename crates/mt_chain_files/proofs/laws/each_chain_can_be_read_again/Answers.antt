-- Each log of a chain stands in its file.
use Rattle.mt_chain_files.proofs.ChainsAhead.{ahead_of}
use Rattle.mt_chain_files.proofs.laws.each_chain_can_be_read_again.Goals as goal

pub returns : goal.returns
returns g c = λ slots old new chains opens k front files begun there then told honest.
    ahead_of g.D.Disk.is_honest g.D.Disk.state g.D.Disk.failures slots old new chains opens k front files there then honest begun told
