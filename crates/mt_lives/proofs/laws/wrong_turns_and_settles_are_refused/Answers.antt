use Rattle.std.proofs.Common.{arith}
use Rattle.mt_lives.proofs.Settlings.{same_log, was_free, within_steps}
use Rattle.mt_lives.proofs.laws.wrong_turns_and_settles_are_refused.Goals as goal

pub returns-clause-turn_of_another_log : goal.returns-clause-turn_of_another_log
returns-clause-turn_of_another_log c worker other mark other_mark told other_told notes apart a b = apart (same_log worker other mark other_mark told other_told notes a b)

pub returns-clause-settle_over_the_last_step : goal.returns-clause-settle_over_the_last_step
returns-clause-settle_over_the_last_step c accounts slots standing life serving id steps count number logs is over w =
    let most = within_steps accounts slots standing id steps count number logs serving w life is in
    omega (arith, most, over)

pub returns-clause-settle_of_an_open_name : goal.returns-clause-settle_of_an_open_name
returns-clause-settle_of_an_open_name c accounts slots standing serving id steps count told logs open_one w =
    open_one (was_free accounts slots standing id steps count told logs serving w)
