use Rattle.tt_global_tests.proofs.late_answers.an_answer_that_comes_late_changes_nothing.Given as goal

abbrev pub ghosts-late_answer : goal.ghosts-late_answer
ghosts-late_answer g a = record { name = a.blank.name; parts = a.blank.parts }
