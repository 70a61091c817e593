use Rattle.mt_book_tests.proofs.tests.threads.expect.Given as goal

-- the ledger of the answers
abbrev pub ghosts-play-L-Ledger : goal.ghosts-play-L-Ledger
ghosts-play-L-Ledger g a = record { name = a.names.answers.name; parts = a.names.answers.parts }

-- the history that was just opened
abbrev pub ghosts-play-J-Naming : goal.ghosts-play-J-Naming
ghosts-play-J-Naming g a = record { book = a.names.history.seen.book }

-- and its ledger
abbrev pub ghosts-play-J-Ledger : goal.ghosts-play-J-Ledger
ghosts-play-J-Ledger g a = record { name = a.names.states.name; parts = a.names.states.parts }
