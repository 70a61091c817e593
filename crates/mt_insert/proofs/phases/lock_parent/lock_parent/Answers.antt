-- That nobody else is making the parent's tree, and what is kept once it is held: for the right half, which names it from then on.
use Rattle.std.proofs.{Common.{◌≡◌, ℕ, ◌<◌, Option, Some, ap, sym, subst, ◌∙◌, rules}, lemmas.Option.{same_Some, none-some}}
use Rattle.mt_arena.specs.{NodeView.NodeView, Arena.{ArenaView, Guarantee}, Accesses.at}
use Rattle.mt_operation.specs.{declared.phase.Phase.Phase, declared.splits.Halves.Halves}
use Rattle.mt_insert.specs.{KeptSplits.last_of, SplitEdits.{with_parent, for_parent}}
use Rattle.mt_insert.proofs.LockingParents.{parent_made, another_holds, parent_open, parent_interior_still, phase_same, parent_kept, parent_holds, parent_step}
use Rattle.mt_held.specs.Moves.{walk_at}
use Rattle.mt_insert.proofs.phases.lock_parent.lock_parent.Goals as goal

-- what the left half tells of its parent
parent_is : (v : ArenaView) (last halves : Halves) (n : NodeView) (told parent : Option ℕ) → halves ≡ last → n ≡ at v halves.left → told ≡ n.parent
    → told ≡ parent → (at v last.left).parent ≡ parent
parent_is v last halves n told parent same node tells is =
    ap (λ (h : Halves). (at v h.left).parent) (sym same) ∙ ap (λ (x : NodeView). x.parent) (sym node) ∙ sym tells ∙ is

-- and the parent of its holder
holder_is : (v : ArenaView) (p : ℕ) (n : NodeView) (told holder : Option ℕ) → n ≡ at v p → told ≡ n.holder → told ≡ holder → (at v p).holder ≡ holder
holder_is v p n told holder node tells is = ap (λ (x : NodeView). x.holder) (sym node) ∙ sym tells ∙ is

pub returns-in-Some-holder-clause-another : goal.returns-in-Some-holder-clause-another
returns-in-Some-holder-clause-another c =
    another_holds c.args.arena.now c.args.operation c.in-Some.parent c.args.splits.now c.facts.ensures.arena c.requires.kept
    (parent_is c.args.arena.now _ _ _ _ _ c.last-left.ensures c.node.ensures c.parent.ensures c.in-Some.is)
    c.in-Some-holder.holder (holder_is c.args.arena.now _ _ _ _ c.node-2.ensures c.holder.ensures c.in-Some-holder.is)

pub lock-requires-clause-mine : goal.lock-requires-clause-mine
lock-requires-clause-mine c =
    parent_open c.args.arena.now c.args.operation c.in-Some.parent c.args.splits.now c.facts.ensures.arena c.requires.kept
    (parent_is c.args.arena.now _ _ _ _ _ c.last-left.ensures c.node.ensures c.parent.ensures c.in-Some.is)
    (holder_is c.args.arena.now _ _ _ _ c.node-2.ensures c.holder.ensures c.in_default-holder.is)

pub phase_for-walk-requires-clause-interior : goal.phase_for-walk-requires-clause-interior
phase_for-walk-requires-clause-interior c =
    let made = parent_made c.args.arena.now c.lock.new.self c.set_parent.new.self c.in-Some.parent c.args.operation (last_of c.args.splits.now) c.last-left.result c.last-left.ensures c.lock.ensures.is c.set_parent.ensures.is in
    subst (λ (u : ArenaView). 0 < (at u c.in-Some.parent).level) (sym made)
    (parent_interior_still c.args.arena.now c.args.operation c.in-Some.parent c.args.splits.now c.facts.ensures.arena c.requires.kept
    (parent_is c.args.arena.now _ _ _ _ _ c.last-left.ensures c.node.ensures c.parent.ensures c.in-Some.is)
    (holder_is c.args.arena.now _ _ _ _ c.node-2.ensures c.holder.ensures c.in_default-holder.is))

pub returns-clause-locks : goal.returns-clause-locks
returns-clause-locks c =
    let v = c.args.arena.now in
    let o = c.args.operation in
    let p = c.in-Some.parent in
    let s = c.args.splits.now in
    let arena = c.facts.ensures.arena in
    let named = parent_is v _ _ _ _ _ c.last-left.ensures c.node.ensures c.parent.ensures c.in-Some.is in
    let free = holder_is v _ _ _ _ c.node-2.ensures c.holder.ensures c.in_default-holder.is in
    let made = parent_made v c.lock.new.self c.set_parent.new.self p o (last_of s) c.last-left.result c.last-left.ensures c.lock.ensures.is c.set_parent.ensures.is in
    let next = phase_same v o p s arena c.requires.kept named free c.set_parent.new.self c.phase_for-walk.result made c.phase_for-walk.ensures in
    record {
      is = λ parent e. let same : p ≡ parent = same_Some _ _ (sym named ∙ e) in (
        ap (λ k. (at v k).holder) (sym same) ∙ free,
        made ∙ ap (λ (k : ℕ). with_parent v k (last_of s).right o) same,
        ap (λ (phase : Phase). walk_at phase c.args.walk.now) (next ∙ ap (λ (k : ℕ). for_parent (at v k)) same),
        ap (λ (k : ℕ). record s { above = Some k }) same,
      );
      root = λ none. absurd (none-some p (sym none ∙ named));
      on = record {
        keeps = record {
          same = search rules;
          guarantee = rw made (parent_step v o p s arena c.requires.kept named free
              (subst (λ (m : ArenaView). Guarantee o v m) c.lock.ensures.is c.lock.ensures.step)
              (subst (λ (m : ArenaView). Guarantee o m (with_parent v p (last_of s).right o)) c.lock.ensures.is
              (subst (λ (u : ArenaView). Guarantee o c.lock.new.self u) made c.set_parent.ensures.step)));
          contents = search rules;
        };
        kept = rw (next, made) (parent_kept v o p s arena c.requires.kept named free);
        holds = rw made (parent_holds v o p s arena c.requires.kept named free);
      };
    }
