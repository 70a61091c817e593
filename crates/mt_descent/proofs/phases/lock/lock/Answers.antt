-- What is kept where a border node was deleted or split before the lock was taken, and that nothing lags behind one that was locked.
use Rattle.std.proofs.Common.{rules, length, ap, sym, ◌∙◌}
use Rattle.mt_arena.{specs.{NodeView.NodeView, Accesses.at}, proofs.SettledEdits.settled_locked}
use Rattle.mt_descent.proofs.Ways.{free_stable, kept_moved_on}
use Rattle.mt_descent.proofs.phases.lock.lock.Goals as goal

pub returns-then-is_outdated-clause-locks : goal.returns-then-is_outdated-clause-locks
returns-then-is_outdated-clause-locks c =
    let k = c.args.walk.now.place.node in
    let n = at c.args.arena.now k in
    let free = ap (λ (n : NodeView). n.holder) (sym c.node-node.ensures) ∙ sym c.holder.ensures ∙ c.in_default.is in
    record {
      free = free;
      locks = search rules;
      keeps = search rules;
      kept = λ past row. rw (c.move_on.ensures, c.node-node.ensures)
          (kept_moved_on c.args.arena.now past c.args.key.now row c.args.walk.now c.facts.ensures.arena c.requires.kept (free_stable (length c.args.arena.now.nodes) n (c.facts.ensures.arena.nodes.each k c.requires.kept.covers.remembered.there) free));
      judged = search rules;
      settled = search rules;
    }

pub returns-else-is_outdated-clause-locks : goal.returns-else-is_outdated-clause-locks
returns-else-is_outdated-clause-locks c =
    let k = c.args.walk.now.place.node in
    let free = ap (λ (n : NodeView). n.holder) (sym c.node-node.ensures) ∙ sym c.holder.ensures ∙ c.in_default.is in
    record {
      free = free;
      locks = search rules;
      keeps = search rules;
      kept = search rules;
      judged = search rules;
      settled =
          λ judging. rw c.lock.ensures.is (settled_locked c.args.arena.now.nodes k c.args.operation c.requires.kept.covers.remembered.there c.facts.ensures.arena.nodes free);
    }
