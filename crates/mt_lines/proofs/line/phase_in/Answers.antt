use Rattle.std.proofs.Common.{◌≡◌, ◌∙◌, ap, sym, subst, Option, Result, rules, tests}
use Rattle.std.proofs.{lemmas.Iterator.YieldsList-from_slice, lemmas.Iterator.Search.find_from_yields_List}
use Rattle.std.specs.{List.find, Option.{ok_or, option_copied}}
use Rattle.mt_operation.specs.{declared.phase.Phase.Phase, Phases.name_of}
use Rattle.mt_lines.specs.{declared.fault.LineFault.LineFault, declared.fault.LineFault.TheVariants.BadLine, Words.{Means, is_text}, Line.phase_in}
use Rattle.mt_lines.proofs.PhaseLemmas.{first_named, means_found}
use Rattle.mt_lines.proofs.line.phase_in.Goals as goal

pub returns : goal.returns
returns c =
    let word = c.args.word.now in
    let phases = c.args.phases.now in
    let found : option_copied c.find-found.result ≡ find (λ (phase : Phase). is_text word (name_of phase)) phases = find_from_yields_List _ _ _ c.find-found.result c.find-found.ensures.ran (YieldsList-from_slice _ c.iter.ensures.rest) (λ x b q k. search (rules, tests)) in
    subst (λ (r : Result Phase LineFault). Means (λ (phase : Phase). phase) r (phase_in phases word)) (sym (c.ok_or.ensures.value ∙ ap (λ (o : Option Phase). ok_or o BadLine) (c.copied.ensures ∙ found ∙ first_named word phases))) (means_found (phase_in phases word))
