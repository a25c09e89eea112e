use Rattle.tt_table_tests.proofs.changed_tables.one_change_of_a_thousand_clients_takes_one_step.Given as goal

abbrev pub ghosts-one_more : goal.ghosts-one_more
ghosts-one_more g a = record { name = a.blank.name; parts = a.blank.parts }
