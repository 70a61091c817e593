-- The first worker's files have it.
use Rattle.std.proofs.Common.{◌∙◌, sym, map}
use Rattle.mt_chains.{specs.{Files.standing_of, Testing.later_among}, proofs.LastLaws.{first_in, last_of_first}}
use Rattle.mt_chains.proofs.last.last_generation.Goals as goal

pub returns : goal.returns
returns c =
    let files = map standing_of c.args.logs.now in
    let worker = c.index-logs-0.result in
    last_of_first worker files c.later_among.result (first_in c.args.logs.now worker c.requires c.index-logs-0.is)
    (c.later_among.ensures ∙ (λ i. later_among (sym c.index-logs-0.is i).numbered files (c.later-last.ensures i)))
