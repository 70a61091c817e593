-- The last generation is 1, and it is tested whether a recovery can begin there.
use Rattle.std.{proofs.Common.map, specs.Option.option_map}
use Rattle.mt_recover.specs.Pairs.{view_of}
use Rattle.mt_chains.specs.Files.{standing_of}
use Rattle.mt_chain_files.proofs.Agreeing.{need_at_one}
use Rattle.mt_chain_files.proofs.opening.need_plain.Goals as goal

pub returns-then-last-eq1 : goal.returns-then-last-eq1
returns-then-last-eq1 c =
    need_at_one (map standing_of c.args.logs.now) (map (option_map view_of) c.args.checkpoints.now) c.can_begin.result c.in-Some.last c.if-last-eq1.true c.in-Some.ensures c.can_begin.ensures
