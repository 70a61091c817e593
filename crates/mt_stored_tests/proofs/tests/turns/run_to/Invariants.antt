use Rattle.mt_stored_tests.proofs.tests.turns.run_to.Given as goal

-- the ledgers and the history are those that the names are made for
abbrev pub ghosts-played-L-Ledger : goal.ghosts-played-L-Ledger
ghosts-played-L-Ledger g a = record { name = a.names.answers.name; parts = a.names.answers.parts }

abbrev pub ghosts-played-J-Naming : goal.ghosts-played-J-Naming
ghosts-played-J-Naming g a = record { book = a.names.history.seen.book }

abbrev pub ghosts-played-J-Ledger : goal.ghosts-played-J-Ledger
ghosts-played-J-Ledger g a = record { name = a.names.states.name; parts = a.names.states.parts }
