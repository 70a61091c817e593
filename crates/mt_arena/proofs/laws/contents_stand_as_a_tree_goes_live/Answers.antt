use Rattle.mt_arena.proofs.{GoingLive.layered, Homes.begun}
use Rattle.mt_arena.proofs.laws.contents_stand_as_a_tree_goes_live.Goals as goal

pub returns : goal.returns
returns c =
    λ nodes trees key layer k i pair low t r tree y e arena at made prefix standing none has. layered nodes trees arena (begun nodes trees arena.forest) key layer k i pair at low t r made tree prefix standing y e none has
