use Rattle.node_tables.proofs.announcements.take_announcement.Given as goal

abbrev pub ghosts-note : goal.ghosts-note
ghosts-note g a = record { name = a.blank.name; parts = a.blank.parts }
