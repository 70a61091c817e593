-- A lock that was taken or not on the way to the key, and who is in its way.
use Rattle.std.proofs.Common.{inl, refl, sym, ap}
use Rattle.mt_arena.specs.Arena.{ArenaView}
use Rattle.mt_operation.specs.declared.walk.Walk.{Walk}
use Rattle.mt_core.{specs.Writes.parts, proofs.WriteBodies.blocked_lock}
use Rattle.mt_core.proofs.writes.lock_onward.Goals as goal

pub lock-requires : goal.lock-requires
lock-requires c = record { kept = c.requires.may.kept }

pub returns-in-Some : goal.returns-in-Some
returns-in-Some c = λ tape accounts. (
  blocked_lock c.args.id c.args.arena.now c.args.operation.now c.in-Some.holder c.requires.may (sym c.in-Some.ensures.again),
  c.in-Some.ensures.another c.requires.may.free,
  ap (λ (v : ArenaView). parts v tape accounts) c.in-Some.ensures.unchanged.0,
  ap (λ (w : Walk). record c.args.operation.now { walk = w }) c.in-Some.ensures.unchanged.1,
)

pub returns-in-None : goal.returns-in-None
returns-in-None c = λ tape accounts. inl (record { untold = c.requires.untold; locks = c.in-None.ensures.locks; on = record { others = refl; rest = refl } })
