use Rattle.mt_border.specs.Restamps.{new_stamp}
use Rattle.mt_arena.proofs.Renumbering.{sound_so, content-renumbered}
use Rattle.mt_arena.proofs.arena.Arena.renumber.Goals as goal

pub invariant_of-self : goal.invariant_of-self
invariant_of-self c = rw (c.renumber_all.ensures, c.renumber.ensures) (sound_so c.args.step (new_stamp c.args.stamps.now) _ _ _ _ c.self.invariant)

pub returns-clause-contents : goal.returns-clause-contents
returns-clause-contents c = rw (← c.self.view_is, c.renumber_all.ensures) (content-renumbered (new_stamp c.args.stamps.now) _ _)
