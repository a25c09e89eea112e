use Rattle.node_tables.proofs.answers.take_answer.Given as goal

abbrev pub ghosts-note_answer : goal.ghosts-note_answer
ghosts-note_answer g a = record { name = a.blank.name; parts = a.blank.parts }
