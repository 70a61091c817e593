-- That the root may be taken out, and what is kept then.
use Rattle.std.proofs.{Common.{ℕ, refl, ap, sym, ◌∙◌, rules}, lemmas.Option.same_Some}
use Rattle.mt_arena.specs.Removals.{without_root}
use Rattle.mt_remove.proofs.Collapsing.{may_done, collapse_done, collapse_done_holds}
use Rattle.mt_remove.proofs.phases.collapse.collapse.Goals as goal

pub collapse-requires-clause-may : goal.collapse-requires-clause-may
collapse-requires-clause-may c = may_done c.args.arena.now c.args.operation c.requires.kept.0 c.args.walk.now c.args.removal.now c.facts.ensures.arena c.requires.kept.1 c.left_of-left.result c.parent_of-parent.result c.left_of-left.ensures c.parent_of-parent.ensures

pub returns : goal.returns
returns c =
    let v = c.args.arena.now in
    let u = c.collapse.new.self in
    let o = c.args.operation in
    let w = c.args.walk.now in
    let r = c.args.removal.now in
    let arena = c.facts.ensures.arena in
    record {
      is = λ left parent is_left is_parent.
          c.collapse.ensures.is
          ∙ ap (λ (k : ℕ). without_root v c.parent_of-parent.result k c.args.step) (same_Some _ _ (sym c.left_of-left.ensures ∙ is_left))
          ∙ ap (λ (k : ℕ). without_root v k left c.args.step) (same_Some _ _ (sym c.parent_of-parent.ensures ∙ is_parent));
      walk = search rules;
      removal = refl;
      on = record {
        keeps = search rules;
        kept = λ key kept.
            collapse_done v u o c.args.step key w r arena kept c.left_of-left.result c.parent_of-parent.result c.left_of-left.ensures c.parent_of-parent.ensures c.collapse.ensures.is
            c.collapse.ensures.root_settled c.collapse.ensures.child_settled c.collapse.ensures.others_settled;
        holds = collapse_done_holds v u o c.args.step c.requires.kept.0 w r arena c.requires.kept.1 c.left_of-left.result c.parent_of-parent.result
            c.left_of-left.ensures c.parent_of-parent.ensures c.collapse.ensures.is;
      };
    }
