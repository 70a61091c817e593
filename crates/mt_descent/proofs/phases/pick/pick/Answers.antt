-- What is kept of the child that was picked.
use Rattle.std.proofs.Common.{◌≡◌, ap, subst, sym, ◌∙◌}
use Rattle.mt_arena.specs.{NodeView.NodeView, Accesses.at}
use Rattle.mt_descent.{specs.{Seen.child_for, KeptWalks.{IsAtChild, slice_in}, WalkMoves.after_pick}, proofs.Ways.{same_child, kept_picked}}
use Rattle.mt_descent.proofs.phases.pick.pick.Goals as goal

pub returns-clause-kept : goal.returns-clause-kept
returns-clause-kept c =
    let is : c.child_of-walk.result ≡ child_for (at c.args.arena.now c.args.walk.now.place.node) (slice_in c.args.key.now c.args.walk.now) =
    c.child_of-walk.ensures.value
    ∙ same_child (at c.args.arena.now c.args.walk.now.place.node) c.interior.result.now c.slice-slice.result (ap (λ (n : NodeView). n.separators) c.interior.ensures) (ap (λ (n : NodeView). n.children) c.interior.ensures)
    ∙ ap (λ s. child_for (at c.args.arena.now c.args.walk.now.place.node) s) c.slice-slice.ensures in
    subst (λ k. IsAtChild c.args.arena.now c.args.key.now (after_pick c.args.walk.now k)) (sym is) (kept_picked c.args.arena.now c.args.key.now c.args.walk.now c.facts.ensures.arena c.requires.kept)
