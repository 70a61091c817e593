use Rattle.mt_arena.proofs.ContentQuiet.{stands_unchanged, stands_held, stands_unlinked, stands_without_slots, stands_pushed, stands_tree_pushed, stands_tree_set, stands_tree_left}
use Rattle.mt_arena.proofs.{Homes.begun, Steps.keys_of, Halves.parted_as_were}
use Rattle.mt_arena.specs.{NodeView.node_at, Forests.{tree_at, layer_of}}
use Rattle.mt_arena.proofs.laws.contents_stand.Goals as goal

pub returns-clause-same_slots : goal.returns-clause-same_slots
returns-clause-same_slots c = λ nodes trees. stands_unchanged trees nodes

pub returns-clause-same_pair : goal.returns-clause-same_pair
returns-clause-same_pair c = λ nodes trees. stands_held trees nodes

pub returns-clause-no_link : goal.returns-clause-no_link
returns-clause-no_link c = λ nodes trees. stands_unlinked trees nodes

pub returns-clause-no_slots : goal.returns-clause-no_slots
returns-clause-no_slots c = λ nodes trees. stands_without_slots trees nodes

pub returns-clause-push : goal.returns-clause-push
returns-clause-push c = λ nodes trees. stands_pushed trees nodes

pub returns-clause-push_tree : goal.returns-clause-push_tree
returns-clause-push_tree c = λ nodes trees. stands_tree_pushed trees nodes

pub returns-clause-set_tree : goal.returns-clause-set_tree
returns-clause-set_tree c = λ nodes trees. stands_tree_set trees nodes

pub returns-clause-left_tree : goal.returns-clause-left_tree
returns-clause-left_tree c = λ nodes trees. stands_tree_left trees nodes

pub returns-clause-parted : goal.returns-clause-parted
returns-clause-parted c = λ nodes trees k j x y left right separator arena within live tree_live half parts first second.
    parted_as_were nodes trees arena (begun nodes trees arena.forest) (layer_of (tree_at trees (node_at nodes k).tree).prefix) k j within live tree_live half (keys_of nodes trees k within arena.forest).keys x y left right separator first second parts
