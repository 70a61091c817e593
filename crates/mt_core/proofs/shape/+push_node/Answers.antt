use Rattle.std.proofs.{Common.{◌≡◌, ◌≢◌, ◌+◌, ◌<◌, List, ℕ, ◌++◌, length, get_or, take, sym, ap, subst, ◌∙◌, arith, rules}, lemmas.List.take_all}
use Rattle.mt_arena.specs.{NodeView.NodeView, Nodes.IsChild, Accesses.at}
use Rattle.mt_core.proofs.Lines.{lines_above}
use Rattle.mt_core.proofs.shape.+push_node.Goals as goal

-- a child is there, live, and one level below
pub push_node-requires : goal.push_node-requires
push_node-requires t c =
    let v = c.args.arena.now in
    let k : ℕ = c.args.node in
    let i : ℕ = c.loop-child.child-index in
    let items : List ℕ = c.children-child-items.result.now in
    let children : items ≡ (at v k).children = c.children-child-items.ensures.value ∙ sym (ap (λ (n : NodeView). n.children) c.interior-interior.ensures) in
    let lt : i < length (at v k).children = rw children at c.loop-child-test.true in
    let j : ℕ = get_or items i 0 in
    let is : get_or (at v k).children i 0 ≡ j = ap (λ (ks : List ℕ). get_or ks i 0) (sym children) in
    let there : j < length v.nodes = subst (λ (l : ℕ). l < length v.nodes) is ((c.facts.ensures.arena.nodes.each k c.requires.there).names.children i lt) in
    let child : IsChild (at v k) i (at v j) = (c.facts.ensures.arena.nodes.pairs k j c.requires.there there).child i lt is c.requires.live in
    let level : (at v j).level + 1 ≡ c.args.level = child.level ∙ c.requires.level in
    (omega (arith, level, c.decreases), (there, (child.live, (omega (arith, level), omega (arith, level, c.requires.room)))))

-- where all children are through, these are the lines of the node
pub returns : goal.returns
returns t c =
    let v = c.args.arena.now in
    let k : ℕ = c.args.node in
    let items : List ℕ = c.children-child-items.result.now in
    let children : items ≡ (at v k).children = c.children-child-items.ensures.value ∙ sym (ap (λ (n : NodeView). n.children) c.interior-interior.ensures) in
    let above : c.args.level ≢ 0 = λ none. search (rules, c.if-level-eq0.false, none) in
    let own = lines_above v c.args.level c.args.depth k (take c.loop-child.child-index items) above (take_all _ _ c.loop-child-test.false ∙ children) in
    subst (λ lines. c.loop-child.lines.items ≡ c.args.lines.now.items ++ lines) own c.loop-child.invariant
