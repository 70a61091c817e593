use Rattle.mt_arena.proofs.Settling.{followed_stays, followed_again, followed_no_more, settled_aside, settled_alone, settled_followed}
use Rattle.mt_arena.proofs.laws.followed_until_named.Goals as goal

pub returns : goal.returns
returns c = record {
  others = followed_stays;
  named = λ nodes left behind within apart followed. followed_again nodes left left behind within apart followed;
  unnamed = λ nodes left removed behind within apart away followed. followed_no_more nodes left removed behind within apart away followed;
  beside = λ nodes left behind k within other away settled. settled_aside nodes left left behind within k other away settled;
  by_none = settled_alone;
  by_the_next = settled_followed;
}
