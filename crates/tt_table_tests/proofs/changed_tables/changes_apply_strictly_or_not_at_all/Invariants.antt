use Rattle.tt_table_tests.proofs.changed_tables.changes_apply_strictly_or_not_at_all.Given as goal

abbrev pub ghosts-outcomes : goal.ghosts-outcomes
ghosts-outcomes g a = record { name = a.blank.name; parts = a.blank.parts }
