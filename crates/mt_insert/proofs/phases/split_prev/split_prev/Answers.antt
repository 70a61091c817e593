-- That the node behind may name the right half, and what is kept once it does: only the halves' own next nodes name them as the one before.
use Rattle.mt_held.specs.Moves.{with_named_previous}
use Rattle.mt_insert.specs.KeptSplits.{last_of}
use Rattle.mt_insert.proofs.Behind.{behind_border, behind_tied, behind_open, behind_kept, behind_holds}
use Rattle.mt_insert.proofs.phases.split_prev.split_prev.Goals.{in-Some, in_default}
use Rattle.std.proofs.{lemmas.Option.{same_Some, none-some}, Common.{◌≡◌, ℕ, Option, ap, sym, ◌∙◌, rules, refl}}
use Rattle.mt_arena.specs.{NodeView.NodeView, Arena.{ArenaView, content_of}, Accesses.at}
use Rattle.mt_operation.specs.declared.splits.Halves.{Halves}
use Rattle.mt_insert.proofs.phases.split_prev.split_prev.Goals as goal

-- what the right half tells of its next node
next_is : (v : ArenaView) (last halves : Halves) (n : NodeView) (told next : Option ℕ) → halves ≡ last → n ≡ at v halves.right → told ≡ n.next
    → told ≡ next → (at v last.right).next ≡ next
next_is v last halves n told next same node tells is =
    ap (λ (h : Halves). (at v h.right).next) (sym same) ∙ ap (λ (x : NodeView). x.next) (sym node) ∙ sym tells ∙ is

pub set_previous-requires-clause-border : goal.set_previous-requires-clause-border
set_previous-requires-clause-border c =
    behind_border c.args.arena.now c.args.operation c.in-Some.behind c.args.splits.now c.facts.ensures.arena c.requires.kept
    (next_is c.args.arena.now _ _ _ _ _ c.last-right.ensures c.node.ensures c.next.ensures c.in-Some.is)

pub set_previous-requires-clause-tied : goal.set_previous-requires-clause-tied
set_previous-requires-clause-tied c =
    rw c.last-right.ensures
    (behind_tied c.args.arena.now c.args.operation c.in-Some.behind c.args.splits.now c.facts.ensures.arena c.requires.kept
    (next_is c.args.arena.now _ _ _ _ _ c.last-right.ensures c.node.ensures c.next.ensures c.in-Some.is))

pub set_previous-requires-clause-mine : goal.set_previous-requires-clause-mine
set_previous-requires-clause-mine c =
    behind_open c.args.arena.now c.args.operation c.in-Some.behind c.args.splits.now c.facts.ensures.arena c.requires.kept
    (next_is c.args.arena.now _ _ _ _ _ c.last-right.ensures c.node.ensures c.next.ensures c.in-Some.is)

pub returns : goal.returns
returns c = record {
  is = λ behind next. elim c.match-next.branch [
    | in-Some w ↦
        let same : w.in-Some.behind ≡ behind = same_Some _ _ (sym (next_is c.args.arena.now _ _ _ _ _ c.last-right.ensures c.node.ensures c.next.ensures w.in-Some.is) ∙ next) in
        w.arena-is ∙ w.set_previous.ensures.is ∙ ap (λ (h : Halves). with_named_previous c.args.arena.now w.in-Some.behind h.right) c.last-right.ensures
        ∙ ap (λ k. with_named_previous c.args.arena.now k (last_of c.args.splits.now).right) same
    | in_default w ↦ absurd (none-some behind (sym (next_is c.args.arena.now _ _ _ _ _ c.last-right.ensures c.node.ensures c.next.ensures w.in_default.is) ∙ next))
  ];
  walk = search rules;
  splits = refl;
  on = record {
    keeps = elim c.match-next.branch [
      | in-Some w ↦ record { same = search rules; guarantee = rw w.arena-is w.set_previous.ensures.step; contents = ap content_of w.arena-is ∙ w.set_previous.ensures.contents }
      | in_default w ↦ absurd (c.requires.kept.some_next (next_is c.args.arena.now _ _ _ _ _ c.last-right.ensures c.node.ensures c.next.ensures w.in_default.is))
    ];
    kept = elim c.match-next.branch [
      | in-Some w ↦ rw (w.arena-is, w.set_previous.ensures.is, c.last-right.ensures)
          (behind_kept c.args.arena.now c.args.operation w.in-Some.behind c.args.splits.now c.facts.ensures.arena c.requires.kept
          (next_is c.args.arena.now _ _ _ _ _ c.last-right.ensures c.node.ensures c.next.ensures w.in-Some.is))
      | in_default w ↦ absurd (c.requires.kept.some_next (next_is c.args.arena.now _ _ _ _ _ c.last-right.ensures c.node.ensures c.next.ensures w.in_default.is))
    ];
    holds = elim c.match-next.branch [
      | in-Some w ↦ rw (w.arena-is, w.set_previous.ensures.is, c.last-right.ensures)
          (behind_holds c.args.arena.now c.args.operation w.in-Some.behind c.args.splits.now c.facts.ensures.arena c.requires.kept
          (next_is c.args.arena.now _ _ _ _ _ c.last-right.ensures c.node.ensures c.next.ensures w.in-Some.is))
      | in_default w ↦ rw w.arena-is (λ holds. holds)
    ];
  };
}
