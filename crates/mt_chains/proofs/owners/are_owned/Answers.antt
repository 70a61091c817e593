-- By the test.
use Rattle.std.proofs.{Common.{map, sym, ◌∙◌, ap}, lemmas.List.length-map}
use Rattle.mt_chains.{specs.{Files.standing_of, Testing.are_owned}, proofs.OwnerLaws.{owned_told, told_owned}}
use Rattle.mt_chains.proofs.owners.are_owned.Goals as goal

pub returns : goal.returns
returns c =
    let files = map standing_of c.args.logs.now in
    let count = ap (λ n. are_owned c.args.generation n 0 files) (length-map c.args.logs.now standing_of) in (
      λ yes. owned_told c.args.generation files (count ∙ sym c.all_owned.ensures ∙ yes),
      λ owned. c.all_owned.ensures ∙ sym count ∙ told_owned c.args.generation files owned,
    )
