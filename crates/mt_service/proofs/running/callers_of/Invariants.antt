use Rattle.std.{proofs.Common.{◌≡◌, ◌∷◌, ◌++◌}, specs.{Prelude.map, List.flat_map}}
use Rattle.mt_service.specs.Sessions.{pass_in, clerks_in}
use Rattle.mt_service.proofs.running.callers_of.Given as goal

-- the passes and the clerks so far, and those that are still held
abbrev pub invariant-loop-one : goal.invariant-loop-one
invariant-loop-one g l = record {
  passes : l.passes.items ++ map pass_in l.one-iterator.rest.items ≡ l.fn.turner.pass ∷ map pass_in l.fn.served.items;
  clerks : l.clerks.items ++ flat_map clerks_in l.one-iterator.rest.items ≡ l.fn.first ∷ l.fn.turner.clerk ∷ l.fn.turner.logs ∷ flat_map clerks_in l.fn.served.items;
}
