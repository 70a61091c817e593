-- That another operation is in the way, that nobody else is making the neighbour's tree, and what is kept once it is held.
use Rattle.std.proofs.{Common.{◌≡◌, ℕ, Option, Some, ap, sym, ◌∙◌, rules}, lemmas.Option.same_Some}
use Rattle.mt_arena.specs.{NodeView.NodeView, Accesses.at}
use Rattle.mt_remove.{specs.RemovalEdits.with_lock, proofs.Locking.{prev_another, prev_open, prev_kept, prev_holds}}
use Rattle.mt_remove.proofs.phases.lock_prev.lock_prev.Goals as goal

-- the neighbour that the node names, and who holds it
named : (n m : NodeView) (told before : Option ℕ) → n ≡ m → told ≡ n.previous → told ≡ before → m.previous ≡ before
named n m told before node tells is = ap (λ (x : NodeView). x.previous) (sym node) ∙ sym tells ∙ is

held_by : (n m : NodeView) (told holder : Option ℕ) → n ≡ m → told ≡ n.holder → told ≡ holder → m.holder ≡ holder
held_by n m told holder node tells is = ap (λ (x : NodeView). x.holder) (sym node) ∙ sym tells ∙ is

pub returns-in-Some-holder-clause-another : goal.returns-in-Some-holder-clause-another
returns-in-Some-holder-clause-another c = λ holds.
    prev_another c.args.arena.now c.args.operation c.in-Some.left c.requires.kept.0 c.args.walk.now c.args.removal.now c.facts.ensures.arena c.requires.kept.1
    (named _ _ _ _ c.node.ensures c.previous.ensures c.in-Some.is) c.in-Some-holder.holder (held_by _ _ _ _ c.node-2.ensures c.holder.ensures c.in-Some-holder.is) holds

pub lock-requires-clause-mine : goal.lock-requires-clause-mine
lock-requires-clause-mine c =
    prev_open c.args.arena.now c.args.operation c.in-Some.left c.requires.kept.0 c.args.walk.now c.args.removal.now c.facts.ensures.arena c.requires.kept.1
    (named _ _ _ _ c.node.ensures c.previous.ensures c.in-Some.is) (held_by _ _ _ _ c.node-2.ensures c.holder.ensures c.in_default-holder.is)

pub returns-clause-locks : goal.returns-clause-locks
returns-clause-locks c =
    let v = c.args.arena.now in
    let o = c.args.operation in
    let l = c.in-Some.left in
    let w = c.args.walk.now in
    let r = c.args.removal.now in
    let arena = c.facts.ensures.arena in
    let before = named _ _ _ _ c.node.ensures c.previous.ensures c.in-Some.is in
    let free = held_by _ _ _ _ c.node-2.ensures c.holder.ensures c.in_default-holder.is in
    record {
      is = λ left e. let same : l ≡ left = same_Some _ _ (sym before ∙ e) in (
        ap (λ k. (at v k).holder) (sym same) ∙ free,
        c.lock.ensures.is ∙ ap (λ (k : ℕ). with_lock v k o) same,
        ap (λ (k : ℕ). record r { left = Some k }) same,
      );
      walk = search rules;
      on = record {
        keeps = search rules;
        kept = λ key kept. rw c.lock.ensures.is (prev_kept v o l key w r arena kept before free);
        holds = rw c.lock.ensures.is (prev_holds v o l c.requires.kept.0 w r arena c.requires.kept.1 before free);
      };
    }
