use Rattle.mt_arena.specs.{NodeView.node_at, Edits.again_half}
use Rattle.mt_arena.proofs.{Counted.{pairs-nil, pairs-gone}, ContentQuiet.content-set, Again.arena_again}
use Rattle.std.proofs.Common.{sym, ◌∙◌, refl}
use Rattle.mt_arena.proofs.laws.a_place_may_be_given_out_again.Goals as goal

pub returns-clause-arena : goal.returns-clause-arena
returns-clause-arena c = λ nodes trees left k low op arena ll lk differ gone free kind live held marked level range begins.
    arena_again nodes left k low op ll lk differ arena.nodes gone free kind live held marked level trees arena.ranged arena.forest arena.layers range begins

pub returns-clause-contents : goal.returns-clause-contents
returns-clause-contents c = λ nodes trees left k low op gone.
    let y = again_half (node_at nodes k) (node_at nodes left) left low op in
    content-set trees nodes k y (pairs-nil trees y refl ∙ sym (pairs-gone trees (node_at nodes k) gone))
