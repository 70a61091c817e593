use Rattle.mt_server_tests.proofs.tests.stores.serve_all.Given as goal

-- the ledgers and the history are those that the names are made for
abbrev pub ghosts-run_server-L-Ledger : goal.ghosts-run_server-L-Ledger
ghosts-run_server-L-Ledger g a = record { name = a.names.answers.name; parts = a.names.answers.parts }

abbrev pub ghosts-run_server-J-Naming : goal.ghosts-run_server-J-Naming
ghosts-run_server-J-Naming g a = record { book = a.names.history.seen.book }

abbrev pub ghosts-run_server-J-Ledger : goal.ghosts-run_server-J-Ledger
ghosts-run_server-J-Ledger g a = record { name = a.names.states.name; parts = a.names.states.parts }
