use Rattle.mt_lives.proofs.Settlings.{kept_later}
use Rattle.mt_lives.proofs.laws.a_number_that_an_owned_store_settled_is_kept.Goals as goal

pub returns : goal.returns
returns c = λ accounts slots standing last serving id steps count number logs notes images r settle lead.
    kept_later accounts slots standing id steps count number logs serving settle notes images r last lead
