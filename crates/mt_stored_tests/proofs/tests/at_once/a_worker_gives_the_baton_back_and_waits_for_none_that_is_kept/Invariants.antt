use Rattle.mt_stored_tests.proofs.tests.at_once.a_worker_gives_the_baton_back_and_waits_for_none_that_is_kept.Given as goal

-- the ledgers and the history are those that the names are made for
abbrev pub ghosts-run-L-Ledger : goal.ghosts-run-L-Ledger
ghosts-run-L-Ledger g a = record { name = a.names.answers.name; parts = a.names.answers.parts }

abbrev pub ghosts-run-J-Naming : goal.ghosts-run-J-Naming
ghosts-run-J-Naming g a = record { book = a.names.history.seen.book }

abbrev pub ghosts-run-J-Ledger : goal.ghosts-run-J-Ledger
ghosts-run-J-Ledger g a = record { name = a.names.states.name; parts = a.names.states.parts }
