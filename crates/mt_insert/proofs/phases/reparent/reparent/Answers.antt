-- That a child of the right half may name it as its parent, and what is kept once it does: one child less names the left half.
use Rattle.std.proofs.{Common.{rules, arith, ◌≡◌, ℕ, ◌+◌, List, length, get_or, Some, ap, sym, ◌∙◌}, lemmas.Grind.common_steps}
use Rattle.mt_arena.specs.{NodeView.NodeView, Edits.pointed, Arena.ArenaView, Accesses.{at, with_node}}
use Rattle.mt_operation.specs.declared.splits.Halves.{Halves}
use Rattle.mt_insert.specs.{KeptSplits.last_of, SplitEdits.with_named_parent}
use Rattle.mt_insert.proofs.Reparenting.{child_no_root, child_range, child_knows, child_open, last_kept, more_kept, child_holds}
use Rattle.mt_insert.proofs.phases.reparent.reparent.Goals as goal

-- the list that was read is that of the right half's children
listed : (v : ArenaView) (last halves : Halves) (n : NodeView) (list : List ℕ) → halves ≡ last → at v halves.right ≡ n → list ≡ n.children
    → list ≡ (at v last.right).children
listed v last halves n list same node is = is ∙ ap (λ (x : NodeView). x.children) (sym node) ∙ ap (λ (h : Halves). (at v h.right).children) same

-- and what the child's edit makes
made : (v u : ArenaView) (last halves : Halves) (list : List ℕ) (i : ℕ) → halves ≡ last → list ≡ (at v last.right).children
    → u ≡ with_node v (get_or list i 0) (pointed (at v (get_or list i 0)) (at v (get_or list i 0)).previous (Some halves.right))
    → u ≡ with_named_parent v (get_or (at v last.right).children i 0) last.right
made v u last halves list i same of is =
    is ∙ ap (λ (cs : List ℕ). with_named_parent v (get_or cs i 0) halves.right) of ∙ ap (λ (h : Halves). with_named_parent v (get_or (at v last.right).children i 0) h.right) same

pub set_parent-requires-clause-no_root : goal.set_parent-requires-clause-no_root
set_parent-requires-clause-no_root c =
    rw (listed c.args.arena.now (last_of c.args.splits.now) c.last-right.result _ c.children-children.result.now c.last-right.ensures c.interior.ensures c.children-children.ensures.value)
    (child_no_root c.args.arena.now c.args.operation c.args.splits.now c.facts.ensures.arena c.requires.kept)

pub set_parent-requires-clause-range : goal.set_parent-requires-clause-range
set_parent-requires-clause-range c =
    rw (listed c.args.arena.now (last_of c.args.splits.now) c.last-right.result _ c.children-children.result.now c.last-right.ensures c.interior.ensures c.children-children.ensures.value)
    (child_range c.args.arena.now c.args.operation c.args.splits.now c.facts.ensures.arena c.requires.kept)

pub set_parent-requires-clause-theirs : goal.set_parent-requires-clause-theirs
set_parent-requires-clause-theirs c =
    rw (listed c.args.arena.now (last_of c.args.splits.now) c.last-right.result _ c.children-children.result.now c.last-right.ensures c.interior.ensures c.children-children.ensures.value)
    (λ q holder other. child_knows c.args.arena.now c.args.operation c.args.splits.now c.facts.ensures.arena c.requires.kept)

pub set_parent-requires-clause-mine : goal.set_parent-requires-clause-mine
set_parent-requires-clause-mine c =
    rw (listed c.args.arena.now (last_of c.args.splits.now) c.last-right.result _ c.children-children.result.now c.last-right.ensures c.interior.ensures c.children-children.ensures.value)
    (child_open c.args.arena.now c.args.operation c.args.splits.now c.facts.ensures.arena c.requires.kept)

pub returns-then-splits-count : goal.returns-then-splits-count
returns-then-splits-count c =
    let v = c.args.arena.now in
    let s = c.args.splits.now in
    let of = listed v (last_of s) c.last-right.result _ c.children-children.result.now c.last-right.ensures c.interior.ensures c.children-children.ensures.value in
    let is = made v c.set_parent.new.self (last_of s) c.last-right.result c.children-children.result.now s.moved c.last-right.ensures of c.set_parent.ensures.is in
    record {
      is = is;
      walk = grind (arith, common_steps, of, c.if-splits-count.true);
      splits = grind (arith, common_steps, of, c.if-splits-count.true);
      on = record {
        keeps = search rules;
        kept = rw is (last_kept v c.args.operation s c.facts.ensures.arena c.requires.kept (c.if-splits-count.true ∙ ap (λ (cs : List ℕ). length cs) of));
        holds = rw is (child_holds v c.args.operation s c.facts.ensures.arena c.requires.kept 0);
      };
    }

pub returns-else-splits-count : goal.returns-else-splits-count
returns-else-splits-count c =
    let v = c.args.arena.now in
    let s = c.args.splits.now in
    let of = listed v (last_of s) c.last-right.result _ c.children-children.result.now c.last-right.ensures c.interior.ensures c.children-children.ensures.value in
    let is = made v c.set_parent.new.self (last_of s) c.last-right.result c.children-children.result.now s.moved c.last-right.ensures of c.set_parent.ensures.is in
    record {
      is = is;
      walk = grind (arith, common_steps, of, c.if-splits-count.false);
      splits = grind (arith, common_steps, of, c.if-splits-count.false);
      on = record {
        keeps = search rules;
        kept =
            rw is (more_kept v c.args.operation s c.facts.ensures.arena c.requires.kept (λ same. c.if-splits-count.false (same ∙ ap (λ (cs : List ℕ). length cs) (sym of))));
        holds = rw is (child_holds v c.args.operation s c.facts.ensures.arena c.requires.kept (s.moved + 1));
      };
    }
