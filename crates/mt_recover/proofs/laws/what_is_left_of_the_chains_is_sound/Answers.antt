-- By what a crash leaves of each log.
use Rattle.mt_recover.proofs.OwnFiles.{sound_over}
use Rattle.mt_recover.proofs.laws.what_is_left_of_the_chains_is_sound.Goals as goal

pub returns : goal.returns
returns c = sound_over
