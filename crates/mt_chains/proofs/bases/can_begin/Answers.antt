-- By the tests of all workers' logs.
use Rattle.std.proofs.{Common.{rules, ⊎_elim, sym, ◌∙◌, map}, lemmas.Bool.{or_left, or_right, or_cases, true≢false}}
use Rattle.std.specs.Option.{option_map}
use Rattle.mt_recover.specs.Pairs.{view_of}
use Rattle.mt_chains.{specs.Files.standing_of, proofs.BaseLaws.{can_tells, can_passes}}
use Rattle.mt_chains.proofs.bases.can_begin.Goals as goal

pub returns-then-all_first : goal.returns-then-all_first
returns-then-all_first c =
    let files = map standing_of c.args.logs.now in
    let slots = map (option_map view_of) c.args.checkpoints.now in
    (λ h. can_tells c.args.generation files slots (or_left _ _ (sym c.all_first.ensures ∙ c.if-all_first.true)), λ can. search rules)

pub returns-else-all_first : goal.returns-else-all_first
returns-else-all_first c =
    let files = map standing_of c.args.logs.now in
    let slots = map (option_map view_of) c.args.checkpoints.now in (
      λ h. can_tells c.args.generation files slots (or_right _ _ (sym c.any_serves.ensures ∙ h)),
      λ can. ⊎_elim
          (λ first. absurd (true≢false (sym (c.all_first.ensures ∙ first) ∙ c.if-all_first.false)))
          (λ any. c.any_serves.ensures ∙ any)
          (or_cases _ _ (can_passes c.args.generation files slots can)),
    )
