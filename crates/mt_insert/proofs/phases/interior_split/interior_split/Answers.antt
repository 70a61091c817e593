-- That the parent may be split, and what is kept of it and of its right half.
use Rattle.std.proofs.{Common.{rules, ◌≡◌, None, refl, sym, ap, subst, ◌∙◌, ℕ, Some, length}, lemmas.Option.same_Some}
use Rattle.mt_arena.specs.{NodeView.NodeView, Arena.ArenaView, Idle.given_interior, Accesses.at, Several.{MaySplitInner, interior_number, with_parts_at}}
use Rattle.mt_operation.specs.{declared.splits.Halves.Halves, declared.splits.Splits.Splits}
use Rattle.mt_insert.specs.{SplitEdits.HasOneMore, KeptSplits.{last_of, IsAtReparent, HoldsSplits}}
use Rattle.mt_insert.proofs.SplittingParents.{HasParts, may_split, has_parts, kept_parted, holds_parted}
use Rattle.mt_insert.proofs.phases.interior_split.interior_split.Goals as goal

pub split_interior-requires-clause-may : goal.split_interior-requires-clause-may
split_interior-requires-clause-may c =
    let v = c.args.arena.now in
    let kept = c.requires.kept in
    let is = same_Some _ _ (sym kept.at_parent.above ∙ c.above-parent.ensures) in
    let next : (at v kept.p).next ≡ None = ap (λ b. (at v b).next) is ∙ ap (λ (n : NodeView). n.next) c.interior.ensures in
    subst (λ b. MaySplitInner v b c.last-left.result.left c.last-left.result.right c.args.operation) is
    (subst (λ (h : Halves). MaySplitInner v kept.p h.left h.right c.args.operation) (sym c.last-left.ensures) (may_split v c.args.operation c.args.splits.now c.facts.ensures.arena.nodes kept next))

pub returns-clause-splits : goal.returns-clause-splits
returns-clause-splits c =
    let v = c.args.arena.now in
    let o = c.args.operation in
    let least = c.args.least in
    let s = c.args.splits.now in
    let nodes = c.facts.ensures.arena.nodes in
    let kept = c.requires.kept in
    let above = same_Some _ _ (sym kept.at_parent.above ∙ c.above-parent.ensures) in
    let next : (at v kept.p).next ≡ None = ap (λ b. (at v b).next) above ∙ ap (λ (n : NodeView). n.next) c.interior.ensures in
    let after : Splits = record { halves = c.push_reserved.new.self; above = None; moved = s.moved } in
    let is : (parent : ℕ) → s.above ≡ Some parent → c.split_interior.new.self ≡ with_parts_at v parent (last_of s).left (last_of s).right least o = λ parent e.
    c.in_ok-half.ensures.is
    ∙ ap (λ (h : Halves). with_parts_at v c.above-parent.result h.left h.right least o) c.last-left.ensures
    ∙ ap (λ b. with_parts_at v b (last_of s).left (last_of s).right least o) (same_Some _ _ (sym c.above-parent.ensures ∙ e)) in
    let splits : (parent : ℕ) → s.above ≡ Some parent → HasOneMore s after parent (interior_number least v) = λ parent e. record { halves = search rules; above = refl; moved = kept.at_parent.moved } in
    let made = is kept.p kept.at_parent.above in
    let more = splits kept.p kept.at_parent.above in
    let new = with_parts_at v kept.p (last_of s).left (last_of s).right least o in
    let parts : HasParts v new.nodes kept.p (last_of s).left (last_of s).right (interior_number least v) o =
    has_parts v o s nodes kept next least c.facts.ensures.retired c.requires.forgotten in
    record {
      is = is;
      splits = splits;
      walk = search rules;
      on = record {
        same = search rules;
        steps = search rules;
        contents = search rules;
        kept = subst (λ (u : ArenaView). IsAtReparent u o after) (sym made) (kept_parted v o s nodes kept next new.nodes (given_interior v.retired least) (interior_number least v) parts after more);
        holds = subst (λ (u : ArenaView). HoldsSplits v o s → HoldsSplits u o after) (sym made) (holds_parted v o s nodes kept next new.nodes (given_interior v.retired least) (interior_number least v) parts after more);
      };
    }
