use Rattle.mt_stored_tests.proofs.tests.checks.played.Given as goal

-- the ledgers and the history are those that the names are made for
abbrev pub ghosts-played_named-L-Ledger : goal.ghosts-played_named-L-Ledger
ghosts-played_named-L-Ledger g a = record { name = a.names.answers.name; parts = a.names.answers.parts }

abbrev pub ghosts-played_named-J-Naming : goal.ghosts-played_named-J-Naming
ghosts-played_named-J-Naming g a = record { book = a.names.history.seen.book }

abbrev pub ghosts-played_named-J-Ledger : goal.ghosts-played_named-J-Ledger
ghosts-played_named-J-Ledger g a = record { name = a.names.states.name; parts = a.names.states.parts }
