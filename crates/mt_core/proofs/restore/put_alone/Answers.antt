-- the put that was begun ran alone, so its pair was put, and a tidying leaves it
use Rattle.mt_state.specs.Views.{shown}
use Rattle.mt_core.proofs.Restoring.{tidied}
use Rattle.mt_core.proofs.restore.put_alone.Goals as goal

pub returns : goal.returns
returns c =
    tidied (shown c.args.inner.now) (shown c.run.new.inner) (shown c.tidy.new.self) c.args.pair c.in_ok-over.over.number
    (c.in_ok-over.ensures (shown c.args.inner.now) c.args.pair c.requires.idle c.requires.pair c.in_ok-ticket.ensures) c.tidy.ensures
