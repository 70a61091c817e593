use Rattle.mt_stored_tests.proofs.tests.power.stops_at.Given as goal

-- the ledgers and the history are those that the names are made for
abbrev pub ghosts-loses_nothing-L-Ledger : goal.ghosts-loses_nothing-L-Ledger
ghosts-loses_nothing-L-Ledger g a = record { name = a.names.answers.name; parts = a.names.answers.parts }

abbrev pub ghosts-loses_nothing-J-Naming : goal.ghosts-loses_nothing-J-Naming
ghosts-loses_nothing-J-Naming g a = record { book = a.names.history.seen.book }

abbrev pub ghosts-loses_nothing-J-Ledger : goal.ghosts-loses_nothing-J-Ledger
ghosts-loses_nothing-J-Ledger g a = record { name = a.names.states.name; parts = a.names.states.parts }
