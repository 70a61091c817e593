use Rattle.mt_lives.proofs.SettleNotes.{owned_settle}
use Rattle.mt_lives.proofs.laws.a_settle_of_an_owned_store_is_a_settle.Goals as goal

pub returns : goal.returns
returns c = λ accounts slots standing serving id told old new h same none s.
    owned_settle old new (λ x. x.source) (λ x. x.logs.items) old.logs.len old.logs.ok.0 accounts slots standing serving id told h same none s
