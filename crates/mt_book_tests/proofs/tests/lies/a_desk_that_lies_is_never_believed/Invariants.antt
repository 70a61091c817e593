use Rattle.mt_book_tests.proofs.tests.lies.a_desk_that_lies_is_never_believed.Given as goal

abbrev pub ghosts-is_asked_on : goal.ghosts-is_asked_on
ghosts-is_asked_on g a = record { name = a.blank.name; parts = a.blank.parts }
