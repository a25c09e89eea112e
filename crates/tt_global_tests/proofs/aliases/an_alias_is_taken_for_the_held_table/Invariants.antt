use Rattle.tt_global_tests.proofs.aliases.an_alias_is_taken_for_the_held_table.Given as goal

abbrev pub ghosts-alias_announced : goal.ghosts-alias_announced
ghosts-alias_announced g a = record { name = a.blank.name; parts = a.blank.parts }
