use Rattle.mt_border.specs.Held.{Link}
use Rattle.mt_arena.proofs.SettledBut.{settled_but, settled_but_stays, settled_but_made, settled_but_held, settled_again}
use Rattle.mt_arena.proofs.laws.settled_once_linked.Goals as goal

pub returns : goal.returns
returns c = record {
  before = settled_but;
  others = settled_but_stays;
  made = λ v prefix e least op k i arena listed forgotten within live settled. settled_but_made v prefix e least op k i arena.nodes listed forgotten within live settled;
  held = λ v k i held arena within inside settled. settled_but_held v k i held arena.nodes within inside settled;
  linked = λ v k i t arena within inside settled. settled_again v k i (Link t) arena.nodes within inside settled (λ none. none);
}
