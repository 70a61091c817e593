use Rattle.mt_stored.proofs.{FirstTurns.{goes_to_first, goes_on}, TurnEnds.{after_whole, after_stopped}}
use Rattle.mt_stored.proofs.laws.a_turn_is_finished_before_the_next.Goals as goal

pub returns-clause-first : goal.returns-clause-first
returns-clause-first g c = λ files bare accounts v logs slots some new.
    goes_to_first g.D.Disk.is_honest g.D.Disk.state g.D.Disk.failures files bare accounts v logs slots some new

pub returns-clause-recovered : goal.returns-clause-recovered
returns-clause-recovered g c = λ files found accounts v logs slots some up.
    goes_on g.D.Disk.is_honest g.D.Disk.state g.D.Disk.failures files found accounts v logs slots some up

pub returns-clause-whole : goal.returns-clause-whole
returns-clause-whole g c = λ source logs n h worker tenants old new goes w.
    after_whole g.D.Disk.is_honest g.D.Disk.state g.D.Disk.failures source logs n g.T.Desk.does worker g.K.Disk.is_honest g.K.Disk.state g.K.Disk.failures g.G.Digests.does h tenants old new goes w

pub returns-clause-stopped : goal.returns-clause-stopped
returns-clause-stopped g c = λ source logs n h worker tenants stop old new goes s.
    after_stopped g.D.Disk.is_honest g.D.Disk.state g.D.Disk.failures source logs n g.T.Desk.does worker g.K.Disk.is_honest g.K.Disk.state g.K.Disk.failures g.G.Digests.does h tenants old new stop goes s
