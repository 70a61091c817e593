use Rattle.std.proofs.Common.{inl, inr, sym, subst}
use Rattle.mt_loop.specs.{Tables.NoneAwaits}
use Rattle.mt_loop.proofs.Deeds.{led_then}
use Rattle.mt_loop.proofs.table.Table.round.Goals as goal

pub returns-clause-asked : goal.returns-clause-asked
returns-clause-asked g c = λ none.
    (c.turns.new.caller.caller, c.turns.new.self, c.turns.ensures.led, c.settle.ensures.asked (c.turns.ensures.queued (λ key entry at a. absurd (none key entry at a))))

pub returns-clause-none : goal.returns-clause-none
returns-clause-none g c = λ none.
    elim (c.settle.ensures.asked (c.turns.ensures.queued (λ key entry at a. absurd (none key entry at a)))) [
      | inl (nobody, same, now) ↦ subst NoneAwaits (sym same) nobody
      | inr (told, mid, asked, led, settled, nobody) ↦ nobody
    ]

pub returns-clause-sessions : goal.returns-clause-sessions
returns-clause-sessions g c = λ beginnings have. c.settle.ensures.sessions beginnings (c.turns.ensures.sessions beginnings have)

pub returns-clause-led : goal.returns-clause-led
returns-clause-led g c =
    led_then g.C.Caller.exchanges g.C.Sharing.resumes c.args.caller.now.caller c.turns.new.caller.caller c.settle.new.caller.caller c.turns.ensures.led c.settle.ensures.led
