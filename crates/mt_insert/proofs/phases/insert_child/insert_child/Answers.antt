-- That the right half may be put into the parent, and that all nodes of the splits may be given back then.
use Rattle.std.proofs.{Common.{sym, ap, subst, ◌∙◌, rules, ◌≡◌, ℕ, Some, refl}, lemmas.Option.same_Some}
use Rattle.mt_arena.specs.{Arena.ArenaView, Several.{MayInsert, with_right}}
use Rattle.mt_operation.specs.declared.splits.Halves.{Halves}
use Rattle.mt_insert.{specs.KeptSplits.{last_of, IsAtUnlockAll, HoldsSplits}, proofs.InsertingChildren.{may_insert, kept_inserted, holds_inserted}}
use Rattle.mt_insert.proofs.phases.insert_child.insert_child.Goals as goal

pub insert_child-requires : goal.insert_child-requires
insert_child-requires c =
    let v = c.args.arena.now in
    let kept = c.requires.kept in
    let is = same_Some _ _ (sym kept.at_parent.above ∙ c.above.ensures) in
    subst (λ b. MayInsert v b c.last-left.result.left c.last-left.result.right c.args.operation) is
    (subst (λ (h : Halves). MayInsert v kept.p h.left h.right c.args.operation) (sym c.last-left.ensures) (may_insert v c.args.operation c.args.splits.now c.facts.ensures.arena.nodes kept))

pub returns : goal.returns
returns c =
    let v = c.args.arena.now in
    let o = c.args.operation in
    let s = c.args.splits.now in
    let nodes = c.facts.ensures.arena.nodes in
    let kept = c.requires.kept in
    let is : (parent : ℕ) → s.above ≡ Some parent → c.insert_child.new.self ≡ record v { nodes = with_right v.nodes parent (last_of s).left (last_of s).right } = λ parent e.
    c.insert_child.ensures.is
    ∙ ap (λ (h : Halves). record v { nodes = with_right v.nodes c.above.result h.left h.right }) c.last-left.ensures
    ∙ ap (λ b. record v { nodes = with_right v.nodes b (last_of s).left (last_of s).right }) (same_Some _ _ (sym c.above.ensures ∙ e)) in
    let made = is kept.p kept.at_parent.above in
    record {
      is = is;
      walk = search rules;
      splits = refl;
      on = record {
        keeps = search rules;
        kept = subst (λ (u : ArenaView). IsAtUnlockAll u o s) (sym made) (kept_inserted v o s nodes kept);
        holds = subst (λ (u : ArenaView). HoldsSplits v o s → HoldsSplits u o s) (sym made) (holds_inserted v o s nodes kept);
      };
    }
