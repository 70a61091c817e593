use Rattle.mt_stored.proofs.SharedTurns.{each_goes}
use Rattle.mt_stored.proofs.laws.each_log_goes_to_the_generation_of_a_turn.Goals as goal

pub returns : goal.returns
returns g c = λ seen count generation closed old new was is begins log less.
    each_goes g.D.Disk.is_honest g.D.Disk.state g.D.Disk.failures g.D.Disk.was_refused seen generation count old new begins.then.0 log less
