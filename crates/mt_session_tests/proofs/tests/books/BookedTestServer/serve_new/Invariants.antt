use Rattle.mt_session_tests.proofs.tests.books.BookedTestServer.serve_new.Given as goal

abbrev pub ghosts-serve_booked : goal.ghosts-serve_booked
ghosts-serve_booked g a = record { name = a.blank.name; parts = a.blank.parts }
