-- The tree may be made of its prefix and its entry, which are those of the next layer.
use Rattle.std.proofs.Common.{◌≡◌, sym, ap, subst, ◌∙◌, OnOk}
use Rattle.mt_arena.specs.{Arena.ArenaView, Accesses.at, Layering.with_layer_at}
use Rattle.mt_layer.proofs.Making.{prefix_is, may_with, in_border}
use Rattle.mt_layer.proofs.phases.make_layer.grow_layer.Goals as goal

pub make_layer-requires-clause-may : goal.make_layer-requires-clause-may
make_layer-requires-clause-may c =
    let v = c.args.arena.now in
    let w = c.args.walk.now in
    let h = c.requires.kept in
    may_with v c.args.operation c.args.key.now w c.facts.ensures.arena h c.in_ok-prefix.prefix c.in_ok-entry.entry c.in_ok-prefix.ensures
    (c.in_ok-entry.ensures h.pair (in_border (at v w.place.node) c.border.result.now _ _ _ _ w.slot h.pair c.border.ensures h.stable))

pub returns-clause-is : goal.returns-clause-is
returns-clause-is c = λ pair is.
    let v = c.args.arena.now in
    let w = c.args.walk.now in
    let prefix = c.in_ok-prefix.ensures ∙ sym (prefix_is v c.args.operation c.args.key.now w c.facts.ensures.arena c.requires.kept) in
    let entry = c.in_ok-entry.ensures pair (in_border (at v w.place.node) c.border.result.now _ _ _ _ w.slot pair c.border.ensures is) in
    subst (λ (z : ArenaView). OnOk c.make_layer.result (c.make_layer.new.self ≡ z)) (λ a. with_layer_at v (prefix a) (entry a) c.args.least c.args.operation) c.make_layer.ensures.is
