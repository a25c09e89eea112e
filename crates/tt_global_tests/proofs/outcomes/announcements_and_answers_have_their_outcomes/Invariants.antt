use Rattle.tt_global_tests.proofs.outcomes.announcements_and_answers_have_their_outcomes.Given as goal

abbrev pub ghosts-exchange : goal.ghosts-exchange
ghosts-exchange g a = record { name = a.blank.name; parts = a.blank.parts }
