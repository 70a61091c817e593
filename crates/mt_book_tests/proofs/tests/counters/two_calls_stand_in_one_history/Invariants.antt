use Rattle.mt_book_tests.proofs.tests.counters.two_calls_stand_in_one_history.Given as goal

-- the history that was just opened
abbrev pub ghosts-answers_of_both-J-Naming : goal.ghosts-answers_of_both-J-Naming
ghosts-answers_of_both-J-Naming g a = record { book = a.opened.seen.book }

-- and its ledger
abbrev pub ghosts-answers_of_both-J-Ledger : goal.ghosts-answers_of_both-J-Ledger
ghosts-answers_of_both-J-Ledger g a = record { name = a.blank.name; parts = a.blank.parts }
