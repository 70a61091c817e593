use Rattle.std.proofs.Common.{◌≡◌, ◌<◌, ◌⊎◌, length}
use Rattle.mt_resp_commands.specs.Links.{Asked, ButSettles}
use Rattle.mt_resp_session.specs.Answering.{Answers}
use Rattle.mt_resp_session.proofs.session.answer.Given as goal

-- the commands so far are answered, and each took bytes off the input
abbrev pub invariant-loop : goal.invariant-loop
invariant-loop g l =
    Answers g.C.Caller.exchanges g.C.Knows.knows l.fn.input.items l.fn.session.link l.fn.caller l.fn.output.items l.input.items l.session.link l.caller l.output.items
    × (l.session.settle ≡ 0) × Asked (ButSettles g.C.Caller.exchanges) l.fn.caller l.caller
    × (((l.counter ≡ 0) × (l.input.items ≡ l.fn.input.items) × (l.output.items ≡ l.fn.output.items)) ⊎ ((0 < l.counter) × (length l.input.items < length l.fn.input.items)))
