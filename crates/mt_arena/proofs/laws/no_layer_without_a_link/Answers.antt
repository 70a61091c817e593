use Rattle.mt_arena.proofs.NoLayer.{link_would_be_here}
use Rattle.mt_arena.proofs.laws.no_layer_without_a_link.Goals as goal

pub returns : goal.returns
returns c = λ nodes trees tree slice k i arena live at none u live_u same. link_would_be_here nodes trees tree slice k i arena live at none u live_u same
