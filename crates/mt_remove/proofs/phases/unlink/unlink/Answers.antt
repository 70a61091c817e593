-- What is kept once the node was taken out.
use Rattle.std.proofs.{Common.{ℕ, refl, ap, sym, ◌∙◌, rules}, lemmas.Option.same_Some}
use Rattle.mt_arena.specs.{NodeView.NodeView, Accesses.at, Removals.without_node}
use Rattle.mt_operation.specs.declared.phase.Phase.{Phase}
use Rattle.mt_held.specs.Moves.{walk_at}
use Rattle.mt_remove.{specs.RemovalEdits.after_unlink, proofs.TakingOut.{unlink_done, unlink_done_holds}}
use Rattle.mt_remove.proofs.phases.unlink.unlink.Goals as goal

pub returns : goal.returns
returns c =
    let v = c.args.arena.now in
    let u = c.unlink.new.self in
    let o = c.args.operation in
    let w = c.args.walk.now in
    let r = c.args.removal.now in
    let arena = c.facts.ensures.arena in
    let next = c.next-next.ensures ∙ ap (λ (n : NodeView). n.next) c.node.ensures in
    record {
      is = λ left parent is_left is_parent.
          c.unlink.ensures.is
          ∙ ap (λ (k : ℕ). without_node v c.parent_of-parent.result k w.place.node c.args.step) (same_Some _ _ (sym c.left_of-left.ensures ∙ is_left))
          ∙ ap (λ (k : ℕ). without_node v k left w.place.node c.args.step) (same_Some _ _ (sym c.parent_of-parent.ensures ∙ is_parent));
      walk = λ parent is_parent. ap (λ (phase : Phase). walk_at phase w)
          (c.phase_after-walk.ensures
          ∙ ap (λ n. after_unlink n (at u c.parent_of-parent.result)) next
          ∙ ap (λ k. after_unlink (at v w.place.node).next (at u k)) (same_Some _ _ (sym c.parent_of-parent.ensures ∙ is_parent)));
      removal = refl;
      on = record {
        keeps = search rules;
        kept = λ key kept.
            unlink_done v u o c.args.step key w r arena kept c.left_of-left.result c.parent_of-parent.result c.next-next.result c.phase_after-walk.result
            c.left_of-left.ensures c.parent_of-parent.ensures next c.phase_after-walk.ensures c.unlink.ensures.is
            c.unlink.ensures.parent_settled c.unlink.ensures.left_unnamed c.unlink.ensures.node_followed c.unlink.ensures.others_settled;
        holds = unlink_done_holds v u o c.args.step c.requires.kept.0 w r arena c.requires.kept.1 c.left_of-left.result c.parent_of-parent.result c.phase_after-walk.result
            c.left_of-left.ensures c.parent_of-parent.ensures c.unlink.ensures.is;
      };
    }
