use Rattle.std.proofs.Common.{ap, ◌∙◌, rules, tests}
use Rattle.mt_lines.{specs.Names.{Tickets, shows_in, shows_of}, proofs.NameLemmas.shows_kept}
use Rattle.mt_lines.proofs.names.Names.shows_stamps.Goals as goal

pub returns : goal.returns
returns c =
    shows_kept c.get.result c.is_some_and.result _ c.is_some_and.ensures (λ x p. search (rules, tests)) ∙ ap shows_in c.get.ensures.value ∙ ap (λ (n : Tickets). shows_of n c.args.name) c.self.view_is
