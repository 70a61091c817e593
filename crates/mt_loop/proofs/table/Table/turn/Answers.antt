use Rattle.std.proofs.Common.{◌≤◌, true, inl, inr, subst}
use Rattle.std.specs.VecDeque.{deque_len, deque_capacity}
use Rattle.mt_loop.specs.{Connections.IsNext, declared.connection.Next.Next}
use Rattle.mt_loop.proofs.Tables.{among, waits_on, goes_again}
use Rattle.mt_loop.proofs.table.Table.turn.Goals as goal

pub returns-in-Again-clause-sessions : goal.returns-in-Again-clause-sessions
returns-in-Again-clause-sessions g c = λ beginnings have.
    among g.C.Caller.exchanges g.C.Sharing.resumes g.C.Sharing.opened g.S.Stream.remaining g.S.Stream.contents beginnings c.turn_of.new.self c.wake.new.self c.turn_of.new.caller.caller c.wake.ensures.among (c.turn_of.ensures.sessions beginnings have)

pub returns-in-Close-clause-sessions : goal.returns-in-Close-clause-sessions
returns-in-Close-clause-sessions g c = λ beginnings have.
    among g.C.Caller.exchanges g.C.Sharing.resumes g.C.Sharing.opened g.S.Stream.remaining g.S.Stream.contents beginnings c.turn_of.new.self c.end_done.new.self c.turn_of.new.caller.caller c.end_done.ensures.among (c.turn_of.ensures.sessions beginnings have)

pub returns-in-Wait-clause-goes_on : goal.returns-in-Wait-clause-goes_on
returns-in-Wait-clause-goes_on g c = λ entry at.
    waits_on entry (subst (λ (n : Next). IsNext n entry.connection) c.in-Wait.is (c.turn_of.ensures.next entry at))

pub returns-in-Wait-clause-ended : goal.returns-in-Wait-clause-ended
returns-in-Wait-clause-ended g c = λ beginning entry at has gone.
    let (last, there, session) = c.turn_of.ensures.one beginning entry at has in absurd (cc)

pub returns-in-Again-clause-goes_on : goal.returns-in-Again-clause-goes_on
returns-in-Again-clause-goes_on g c = λ entry at.
    let (was, there) = c.wake.ensures.among c.args.key entry at in
    goes_again entry (subst (λ (n : Next). IsNext n entry.connection) c.in-Again.is (c.turn_of.ensures.next (record entry { is_queued = was }) there))

pub returns-in-Again-clause-ended : goal.returns-in-Again-clause-ended
returns-in-Again-clause-ended g c = λ beginning entry at has gone.
    let (last, there, session) = c.turn_of.ensures.one beginning entry at has in
    elim (c.wake.ensures.gone gone) [
      | inl none ↦ absurd (cc)
      | inr full ↦ (last, session, inr (subst (λ q. deque_capacity q ≤ deque_len q) c.turn_of.ensures.queue.0 full))
    ]

pub returns-in-Close-clause-goes_on : goal.returns-in-Close-clause-goes_on
returns-in-Close-clause-goes_on g c = λ entry at done. let gone = c.end_done.ensures.gone in absurd (cc)

pub returns-in-Close-clause-ended : goal.returns-in-Close-clause-ended
returns-in-Close-clause-ended g c = λ beginning entry at has gone.
    let (last, there, session) = c.turn_of.ensures.one beginning entry at has in
    (last, session, inl (subst (λ (n : Next). IsNext n last.connection) c.in-Close.is (c.turn_of.ensures.next last there)))

pub returns-in-Again-clause-awaits : goal.returns-in-Again-clause-awaits
returns-in-Again-clause-awaits g c = λ entry at a.
    let (was, there) = c.wake.ensures.among c.args.key entry at in
    let (goes, sent, other) = subst (λ (n : Next). IsNext n entry.connection) c.in-Again.is (c.turn_of.ensures.next (record entry { is_queued = was }) there) in
    absurd (other a)

pub returns-in-Settle-clause-sessions : goal.returns-in-Settle-clause-sessions
returns-in-Settle-clause-sessions g c = λ beginnings have.
    among g.C.Caller.exchanges g.C.Sharing.resumes g.C.Sharing.opened g.S.Stream.remaining g.S.Stream.contents beginnings (record c.turn_of.new.self { is_settling = true }) c.wake-in-Settle.new.self c.turn_of.new.caller.caller c.wake-in-Settle.ensures.among (c.turn_of.ensures.sessions beginnings have)

pub returns-in-Settle-clause-ended : goal.returns-in-Settle-clause-ended
returns-in-Settle-clause-ended g c = λ beginning entry at has gone.
    let (last, there, session) = c.turn_of.ensures.one beginning entry at has in
    elim (c.wake-in-Settle.ensures.gone gone) [
      | inl none ↦ absurd (cc)
      | inr full ↦ (last, session, inr (subst (λ q. deque_capacity q ≤ deque_len q) c.turn_of.ensures.queue.0 full))
    ]
