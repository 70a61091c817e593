-- That the node behind may name the left neighbour, and what is kept once it does.
use Rattle.std.proofs.{Common.{◌≡◌, ℕ, Option, Some, None, refl, ap, sym, ◌∙◌, rules}, lemmas.Option.{same_Some, none-some}}
use Rattle.mt_rows.specs.Rows.{Bytes}
use Rattle.mt_arena.specs.{Arena.{ArenaView, content_of}, Accesses.at, NodeView.NodeView}
use Rattle.mt_operation.specs.{declared.phase.Phase.Phase, declared.walk.Walk.Walk, declared.removal.Removal.Removal}
use Rattle.mt_held.specs.Moves.{walk_at, with_named_previous}
use Rattle.mt_remove.specs.{KeptRemovals.IsAtFixNext, RemovalEdits.for_rest}
use Rattle.mt_remove.proofs.{Fixing.{named_border, named_tied, named_open, fix_done, fix_done_holds}, phases.fix_next.fix_next.Goals.{in-Some, in_default}}
use Rattle.mt_remove.proofs.phases.fix_next.fix_next.Goals as goal

pub set_previous-requires-clause-border : goal.set_previous-requires-clause-border
set_previous-requires-clause-border c =
    named_border c.args.arena.now c.args.operation c.requires.kept.0 c.args.walk.now c.args.removal.now c.facts.ensures.arena c.requires.kept.1 c.left_of-left.result c.in-Some.behind c.left_of-left.ensures
    (ap (λ (n : NodeView). n.next) (sym c.node.ensures) ∙ sym c.next.ensures ∙ c.in-Some.is)

pub set_previous-requires-clause-tied : goal.set_previous-requires-clause-tied
set_previous-requires-clause-tied c =
    named_tied c.args.arena.now c.args.operation c.requires.kept.0 c.args.walk.now c.args.removal.now c.facts.ensures.arena c.requires.kept.1 c.left_of-left.result c.in-Some.behind c.left_of-left.ensures
    (ap (λ (n : NodeView). n.next) (sym c.node.ensures) ∙ sym c.next.ensures ∙ c.in-Some.is)

pub set_previous-requires-clause-mine : goal.set_previous-requires-clause-mine
set_previous-requires-clause-mine c =
    named_open c.args.arena.now c.args.operation c.requires.kept.0 c.args.walk.now c.args.removal.now c.facts.ensures.arena c.requires.kept.1 c.left_of-left.result c.in-Some.behind c.left_of-left.ensures
    (ap (λ (n : NodeView). n.next) (sym c.node.ensures) ∙ sym c.next.ensures ∙ c.in-Some.is)

-- a node stands behind the left neighbour
none_behind : (v : ArenaView) (op : ℕ) (key : Bytes) (w : Walk) (r : Removal) → IsAtFixNext v op key w r → {left : ℕ} → r.left ≡ Some left → (at v left).next ≡ None → ⊥
none_behind v op key w r kept {left} is none = none-some kept.behind (sym none ∙ ap (λ k. (at v k).next) (same_Some _ _ (sym is ∙ kept.left_is)) ∙ kept.next)

-- what the left neighbour tells of its next node
next_is : (n m : NodeView) (told next : Option ℕ) → m ≡ n → told ≡ m.next → told ≡ next → n.next ≡ next
next_is n m told next node tells is = ap (λ (x : NodeView). x.next) (sym node) ∙ sym tells ∙ is

pub returns : goal.returns
returns c =
    let v = c.args.arena.now in
    let o = c.args.operation in
    let w = c.args.walk.now in
    let r = c.args.removal.now in
    let arena = c.facts.ensures.arena in
    let l = c.left_of-left.result in
    record {
      is = λ left behind is_left next.
          let same : l ≡ left = same_Some _ _ (sym c.left_of-left.ensures ∙ is_left) in
          elim c.match-next.branch [
            | in-Some b ↦
                let found : b.in-Some.behind ≡ behind = same_Some _ _ (sym (next_is _ _ _ _ c.node.ensures c.next.ensures b.in-Some.is) ∙ ap (λ k. (at v k).next) same ∙ next) in
                b.arena-is ∙ b.set_previous.ensures.is ∙ ap (λ (k : ℕ). with_named_previous v b.in-Some.behind k) same ∙ ap (λ (k : ℕ). with_named_previous v k left) found
            | in_default b ↦ absurd (none-some behind (sym (next_is _ _ _ _ c.node.ensures c.next.ensures b.in_default.is) ∙ ap (λ k. (at v k).next) same ∙ next))
          ];
      walk = λ parent is_parent. ap (λ (phase : Phase). walk_at phase w)
          (c.phase_without-next.ensures ∙ ap (λ k. for_rest (at v k)) (same_Some _ _ (sym c.parent_of.ensures ∙ is_parent)));
      removal = refl;
      on = record {
        keeps = elim c.match-next.branch [
          | in-Some b ↦ record { same = search rules; guarantee = rw b.arena-is b.set_previous.ensures.step; contents = ap content_of b.arena-is ∙ b.set_previous.ensures.contents }
          | in_default b ↦ absurd (none_behind _ _ _ _ _ c.requires.kept.1 c.left_of-left.ensures (next_is _ _ _ _ c.node.ensures c.next.ensures b.in_default.is))
        ];
        kept = λ key kept. elim c.match-next.branch [
          | in-Some b ↦ rw b.arena-is
              (fix_done v o key w r arena kept l b.in-Some.behind c.left_of-left.ensures (next_is _ _ _ _ c.node.ensures c.next.ensures b.in-Some.is)
              b.set_previous.new.self c.parent_of.result c.phase_without-next.result c.parent_of.ensures c.phase_without-next.ensures b.set_previous.ensures.is)
          | in_default b ↦ absurd (none_behind _ _ _ _ _ c.requires.kept.1 c.left_of-left.ensures (next_is _ _ _ _ c.node.ensures c.next.ensures b.in_default.is))
        ];
        holds = elim c.match-next.branch [
          | in-Some b ↦ rw b.arena-is
              (fix_done_holds v o c.requires.kept.0 w r arena c.requires.kept.1 l b.in-Some.behind c.left_of-left.ensures (next_is _ _ _ _ c.node.ensures c.next.ensures b.in-Some.is)
              b.set_previous.new.self c.phase_without-next.result b.set_previous.ensures.is)
          | in_default b ↦ absurd (none_behind _ _ _ _ _ c.requires.kept.1 c.left_of-left.ensures (next_is _ _ _ _ c.node.ensures c.next.ensures b.in_default.is))
        ];
      };
    }
