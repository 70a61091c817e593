-- By the test of each base.
use Rattle.std.proofs.Common.{◌≡◌, ◌∙◌, ◌↔◌, IsTrue, sym, subst, map, get_or, List, ◌∷◌, [], Option}
use Rattle.std.specs.Option.{option_map}
use Rattle.mt_log.specs.Contents.{contents_of}
use Rattle.mt_checkpoint.specs.declared.checkpoint.Checkpoint.{Checkpoint}
use Rattle.mt_generations.specs.Chains.{HasUse}
use Rattle.mt_recover.specs.Pairs.{view_of}
use Rattle.mt_recover.proofs.Covering.{two_items, base_there, base_test}
use Rattle.mt_recover.proofs.checkpoint.has_base.Goals as goal

pub returns : goal.returns
returns c =
    let fronts = map contents_of c.args.fronts.now in
    let slots = c.args.checkpoints.now in
    let first = get_or slots 0 c.index-checkpoints-0.result in
    let second = get_or slots 1 c.index-checkpoints-1.result in
    let both : slots ≡ first ∷ second ∷ [] = two_items slots c.index-checkpoints-0.result c.index-checkpoints-1.result c.type_inv.checkpoints in
    subst (λ (cs : List (Option Checkpoint)). IsTrue c.has_base_of.result ↔ HasUse fronts (map (option_map view_of) cs)) (sym both)
    (λ h. base_there fronts first second (sym c.has_base_of.ensures ∙ h), λ has. c.has_base_of.ensures ∙ base_test fronts first second has)
