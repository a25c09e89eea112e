use Rattle.node_tables.proofs.ticks.commit.Given as goal

abbrev pub ghosts-new_commit : goal.ghosts-new_commit
ghosts-new_commit g a = record { name = a.blank.name; parts = a.blank.parts }
