use Rattle.mt_arena.proofs.{Links.{one_tree, links_above}, Down.{goes_on, goes_on_top, belongs_here}}
use Rattle.mt_arena.proofs.laws.linked_from_the_top.Goals as goal

pub returns-clause-one_tree : goal.returns-clause-one_tree
returns-clause-one_tree c = λ nodes trees t u arena. one_tree nodes trees t u arena.forest

pub returns-clause-links : goal.returns-clause-links
returns-clause-links c = λ nodes trees key t layer above arena. links_above nodes trees arena key t layer above

pub returns-clause-top : goal.returns-clause-top
returns-clause-top c = goes_on_top

pub returns-clause-down : goal.returns-clause-down
returns-clause-down c = goes_on

pub returns-clause-here : goal.returns-clause-here
returns-clause-here c = belongs_here
