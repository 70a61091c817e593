use Rattle.mt_loop.proofs.connection.Connection.turn.Goals as goal

pub returns-clause-session : goal.returns-clause-session
returns-clause-session g c before held start session =
    let e = c.let_go.ensures in rw (e.input, e.unsent, e.opened, e.state) (c.go_on-is_drained.ensures.session before held start session)
