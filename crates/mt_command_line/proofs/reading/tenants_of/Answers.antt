use Rattle.std.proofs.Common.{refl, subst}
use Rattle.clap.specs.Words.{found_of}
use Rattle.mt_command_line.{specs.Reads.Names, proofs.MatchLemmas.words_are}
use Rattle.mt_command_line.proofs.reading.tenants_of.Goals as goal

pub returns : goal.returns
returns c =
    let words = words_are (found_of c.args.matches.now) c.get_strs.result _ c.unwrap_or.result c.get_strs.ensures c.unwrap_or.ensures refl in
    subst (λ ws. Names ws c.named_by.result) words c.named_by.ensures
