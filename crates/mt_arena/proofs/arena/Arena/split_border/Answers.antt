use Rattle.std.proofs.Common.{ap, sym, ◌∙◌, length, rules, arith}
use Rattle.mt_arena.{proofs.{Halving.{sound_parted, step_parted, content_with, content_without}, Two.written}, specs.Arena.ArenaView}
use Rattle.mt_arena.proofs.arena.Arena.split_border.Goals as goal

pub halve-requires-clause-few : goal.halve-requires-clause-few
halve-requires-clause-few c = rw c.deref_mut.ensures.value (omega (arith, c.self.invariant.enough))

pub halve-requires-clause-missing : goal.halve-requires-clause-missing
halve-requires-clause-missing c =
    let may = rw (← c.self.view_is) at c.requires.may in
    rw c.deref_mut.ensures.value may.missing

pub halve-requires-clause-separator : goal.halve-requires-clause-separator
halve-requires-clause-separator c =
    let may = rw (← c.self.view_is) at c.requires.may in
    rw c.deref_mut.ensures.value may.separator

pub invariant_of-self : goal.invariant_of-self
invariant_of-self c =
    let v : ArenaView = record { nodes = c.self.inside.nodes.items; trees = c.self.inside.trees.items; retired = c.self.inside.retired.places } in
    let may = rw (← c.self.view_is) at c.requires.may in
    let come = rw (← c.self.view_is) at c.requires.entry in
    let done = rw c.deref_mut.ensures.value at c.halve.ensures in
    let long = sym (ap length c.deref_mut.ensures.value) ∙ c.deref_mut.ensures.len in
    let whole = written _ v.nodes c.halve.new.nodes c.self.inside.nodes.len c.args.left c.args.right long done in
    rw whole (sound_parted v _ c.args.left c.args.right c.args.operation c.args.slice c.args.mark c.args.entry _ c.self.invariant may come done)

pub returns : goal.returns
returns c =
    let v : ArenaView = record { nodes = c.self.inside.nodes.items; trees = c.self.inside.trees.items; retired = c.self.inside.retired.places } in
    let may = rw (← c.self.view_is) at c.requires.may in
    let come = rw (← c.self.view_is) at c.requires.entry in
    let live = rw (← c.self.view_is) at c.requires.live in
    let done = rw c.deref_mut.ensures.value at c.halve.ensures in
    let long = sym (ap length c.deref_mut.ensures.value) ∙ c.deref_mut.ensures.len in
    let whole = written _ v.nodes c.halve.new.nodes c.self.inside.nodes.len c.args.left c.args.right long done in
    rw (← c.self.view_is, whole)
    (record {
      nodes = done;
      others = search rules;
      step = step_parted v _ c.args.left c.args.right c.args.operation c.args.slice c.args.mark c.args.entry _ c.self.invariant may come done;
      contents = content_with v _ c.args.left c.args.right c.args.operation c.args.slice c.args.mark c.args.entry _ c.self.invariant may come done;
      kept = content_without v _ c.args.left c.args.right c.args.operation c.args.slice c.args.mark c.args.entry _ c.self.invariant may come done live;
    })
