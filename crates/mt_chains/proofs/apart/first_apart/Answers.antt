-- It is the one that is looked for.
use Rattle.std.proofs.Common.{map}
use Rattle.mt_chains.{specs.Files.standing_of, proofs.ApartLaws.apart_or_none}
use Rattle.mt_chains.proofs.apart.first_apart.Goals as goal

pub returns : goal.returns
returns c = apart_or_none c.args.generation (map standing_of c.args.logs.now) c.find_apart.result c.find_apart.ensures
