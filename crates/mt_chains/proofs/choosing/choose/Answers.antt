-- A recovery can begin at the last generation, or only at the one before it.
use Rattle.std.proofs.{Common.{◌≡◌, ◌+◌, ◌-◌, sym, ◌∙◌, map, arith}, lemmas.Bool.true≢false}
use Rattle.std.specs.Option.{option_map}
use Rattle.mt_recover.specs.Pairs.{view_of}
use Rattle.mt_generations.proofs.Deciding.{have_all}
use Rattle.mt_chains.{specs.Files.standing_of, proofs.ChoiceLaws.{last_chosen, earlier_chosen}}
use Rattle.mt_chains.proofs.choosing.choose.Goals as goal

pub returns-then-can_begin-clause-chosen : goal.returns-then-can_begin-clause-chosen
returns-then-can_begin-clause-chosen c =
    last_chosen c.in_ok-last.last (map standing_of c.args.logs.now) (map (option_map view_of) c.args.checkpoints.now) c.in_ok-last.ensures
    (c.can_begin.ensures.0 c.if-can_begin.true)

pub returns-then-can_begin-2-clause-chosen : goal.returns-then-can_begin-2-clause-chosen
returns-then-can_begin-2-clause-chosen c =
    let last = c.in_ok-last.last in
    let next : last - 1 + 1 ≡ last = omega (arith, c.if-last-eq0.false) in
    earlier_chosen last (last - 1) (map standing_of c.args.logs.now) (map (option_map view_of) c.args.checkpoints.now) next c.in_ok-last.ensures
    (λ can. true≢false (sym (c.can_begin.ensures.1 can) ∙ c.if-can_begin.false))
    (c.can_begin-2.ensures.0 c.if-can_begin-2.true)

pub returns-then-can_begin-2-clause-has : goal.returns-then-can_begin-2-clause-has
returns-then-can_begin-2-clause-has c =
    let can = c.can_begin-2.ensures.0 c.if-can_begin-2.true in
    have_all (c.in_ok-last.last - 1) (map standing_of c.args.logs.now) can.0 can.1
