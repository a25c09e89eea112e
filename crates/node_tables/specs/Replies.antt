-- What is put of an answer for a table, in one packet or in parts. No public clause cites this file.
use Rattle.std.specs.Prelude.{ℕ, ◌-◌, ◌&&◌, nat_lt, Bool, List, length, flat_map, map, Option}
use Rattle.std.specs.List.{range_with_len}
use Rattle.mesh_base.specs.declared.address.Mac.{Mac}
use Rattle.mesh_model.specs.declared.act.Act.{Act}
use Rattle.mesh_model.specs.Acts.TableRows.{part_acts}
use Rattle.mesh_model.specs.Tables.Answers.{Reply, numbered_part, parts_of_reply}
use Rattle.mesh_model.specs.Tables.Pieces.{piece_count, piece_size}

-- whether an answer is a whole table with more entries than go in one packet
abbrev pub in_parts : Reply → Bool
in_parts reply = reply.full && nat_lt piece_size (length reply.records)

-- the acts of an answer over a way, where there is one
abbrev pub reply_acts : Option Mac → Mac → Mac → Reply → List Act
reply_acts next orig asker reply = flat_map (part_acts next orig asker) (parts_of_reply reply)

-- those of its parts from a number on
abbrev pub numbered_acts : Option Mac → Mac → Mac → Reply → ℕ → List Act
numbered_acts next orig asker reply number =
    flat_map (part_acts next orig asker) (map (numbered_part reply)
    (range_with_len number (piece_count reply.records - number)))
