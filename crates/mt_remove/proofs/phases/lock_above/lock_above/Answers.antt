-- That another operation is in the way, that nobody else is making the parent's tree, and what is kept once it is held.
use Rattle.std.proofs.{Common.{◌≡◌, ℕ, ◌<◌, length, Option, Some, ap, sym, subst, ◌∙◌, rules}, lemmas.Option.same_Some}
use Rattle.mt_interior.specs.Places.{place_of}
use Rattle.mt_arena.specs.{NodeView.NodeView, Arena.ArenaView, Accesses.at}
use Rattle.mt_operation.specs.declared.phase.Phase.{Phase}
use Rattle.mt_held.specs.Moves.{walk_at}
use Rattle.mt_remove.specs.{RemovalEdits.with_lock, Unlinks.IsChildBefore}
use Rattle.mt_remove.proofs.LockingAbove.{above_another, above_open, inside, in_place, before_locked, before_unlocked, above_kept, above_holds}
use Rattle.mt_remove.proofs.phases.lock_above.lock_above.Goals as goal

-- the parent that the node names, and who holds it
named : (n m : NodeView) (told parent : Option ℕ) → n ≡ m → told ≡ n.parent → told ≡ parent → m.parent ≡ parent
named n m told parent node tells is = ap (λ (x : NodeView). x.parent) (sym node) ∙ sym tells ∙ is

held_by : (n m : NodeView) (told holder : Option ℕ) → n ≡ m → told ≡ n.holder → told ≡ holder → m.holder ≡ holder
held_by n m told holder node tells is = ap (λ (x : NodeView). x.holder) (sym node) ∙ sym tells ∙ is

pub returns-in-Some-holder-clause-another : goal.returns-in-Some-holder-clause-another
returns-in-Some-holder-clause-another c = λ holds.
    above_another c.args.arena.now c.args.operation c.in-Some.parent c.requires.kept.0 c.args.walk.now c.args.removal.now c.facts.ensures.arena c.requires.kept.1
    (named _ _ _ _ c.node.ensures c.parent.ensures c.in-Some.is) c.in-Some-holder.holder (held_by _ _ _ _ c.node-2.ensures c.holder.ensures c.in-Some-holder.is) holds

pub lock-requires-clause-mine : goal.lock-requires-clause-mine
lock-requires-clause-mine c =
    above_open c.args.arena.now c.args.operation c.in-Some.parent c.requires.kept.0 c.args.walk.now c.args.removal.now c.facts.ensures.arena c.requires.kept.1
    (named _ _ _ _ c.node.ensures c.parent.ensures c.in-Some.is) (held_by _ _ _ _ c.node-2.ensures c.holder.ensures c.in_default-holder.is)

pub phase_above-walk-requires-clause-interior : goal.phase_above-walk-requires-clause-interior
phase_above-walk-requires-clause-interior c =
    subst (λ (u : ArenaView). 0 < (at u c.in-Some.parent).level) (sym c.lock.ensures.is)
    (inside c.args.arena.now c.args.operation c.in-Some.parent c.requires.kept.0 c.args.walk.now c.args.removal.now c.facts.ensures.arena c.requires.kept.1
    (named _ _ _ _ c.node.ensures c.parent.ensures c.in-Some.is) (held_by _ _ _ _ c.node-2.ensures c.holder.ensures c.in_default-holder.is))

pub phase_above-walk-requires-clause-place : goal.phase_above-walk-requires-clause-place
phase_above-walk-requires-clause-place c =
    subst (λ (u : ArenaView). place_of (at u c.in-Some.parent).separators (at u c.args.walk.now.place.node).low < length (at u c.in-Some.parent).children) (sym c.lock.ensures.is)
    (in_place c.args.arena.now c.args.operation c.in-Some.parent c.requires.kept.0 c.args.walk.now c.args.removal.now c.facts.ensures.arena c.requires.kept.1
    (named _ _ _ _ c.node.ensures c.parent.ensures c.in-Some.is) (held_by _ _ _ _ c.node-2.ensures c.holder.ensures c.in_default-holder.is))

pub returns-clause-locks : goal.returns-clause-locks
returns-clause-locks c =
    let v = c.args.arena.now in
    let o = c.args.operation in
    let p = c.in-Some.parent in
    let w = c.args.walk.now in
    let r = c.args.removal.now in
    let arena = c.facts.ensures.arena in
    let key = c.requires.kept.0 in
    let kept = c.requires.kept.1 in
    let above = named _ _ _ _ c.node.ensures c.parent.ensures c.in-Some.is in
    let free = held_by _ _ _ _ c.node-2.ensures c.holder.ensures c.in_default-holder.is in
    let unlinks = rw c.lock.ensures.is at c.phase_above-walk.ensures.unlinks in
    let returns = rw c.lock.ensures.is at c.phase_above-walk.ensures.returns in
    record {
      is = λ parent e. let same : p ≡ parent = same_Some _ _ (sym above ∙ e) in (
        ap (λ k. (at v k).holder) (sym same) ∙ free,
        c.lock.ensures.is ∙ ap (λ (k : ℕ). with_lock v k o) same,
        ap (λ (k : ℕ). record r { parent = Some k }) same,
      );
      unlinks = λ parent e is. ap (λ (phase : Phase). walk_at phase w)
          (unlinks (before_locked v o p key w r arena kept above free (subst (λ k. IsChildBefore (at v k) (at v w.place.node).low r.left) (same_Some _ _ (sym e ∙ above)) is)));
      returns = λ parent e other. ap (λ (phase : Phase). walk_at phase w)
          (returns (λ is. other (subst (λ k. IsChildBefore (at v k) (at v w.place.node).low r.left) (same_Some _ _ (sym above ∙ e)) (before_unlocked v o p key w r arena kept above free is))));
      on = record {
        keeps = search rules;
        kept = λ key kept. rw c.lock.ensures.is (above_kept v o p key w r arena kept above free c.phase_above-walk.result unlinks returns);
        holds = rw c.lock.ensures.is (above_holds v o p key w r arena kept above free c.phase_above-walk.result);
      };
    }
