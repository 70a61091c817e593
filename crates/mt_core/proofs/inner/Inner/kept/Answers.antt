-- What an `Inner` keeps of itself and of its arena.
use Rattle.std.proofs.Common.{subst}
use Rattle.mt_arena.specs.Arena.{IsArena}
use Rattle.mt_state.specs.{Views.Core, Invariant.StateInvariant}
use Rattle.mt_core.proofs.inner.Inner.kept.Goals as goal

pub returns-clause-invariant : goal.returns-clause-invariant
returns-clause-invariant c = subst StateInvariant c.self.view_is c.self.invariant

pub returns-clause-arena : goal.returns-clause-arena
returns-clause-arena c = subst (λ (x : Core). IsArena x.arena.nodes x.arena.trees) c.self.view_is c.facts.ensures.arena
