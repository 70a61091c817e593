-- the node is empty where its border node is
use Rattle.std.proofs.Common.{refl, sym, ap, ◌∙◌}
use Rattle.mt_arena.specs.NodeView.{NodeView}
use Rattle.mt_operation.specs.declared.phase.Phase.{Phase}
use Rattle.mt_held.specs.Moves.{walk_at}
use Rattle.mt_remove.proofs.emptied.go_on_emptied.Goals as goal

pub returns : goal.returns
returns c =
    let slots = ap (λ (n : NodeView). n.slots) c.border.ensures in
    record {
      unlinks = λ u. ap (λ (p : Phase). walk_at p c.args.walk.now) (c.phase_emptied-walk.ensures.unlinks u);
      returns = λ u. ap (λ (p : Phase). walk_at p c.args.walk.now) (c.phase_emptied-walk.ensures.returns u);
      emptied = (λ e. slots ∙ c.is_empty-removal.ensures.0 e, λ e. c.is_empty-removal.ensures.1 (sym slots ∙ e));
      removal = refl;
    }
