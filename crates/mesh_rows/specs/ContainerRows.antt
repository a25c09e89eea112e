-- What is said of containers that a node takes: the table that it looks at, and the checksum that
-- it tells for a VLAN; the part of a table, as it is spelled and read.
use Rattle.std.specs.Prelude.{◌≡◌, ℕ, List, Option, Ok, option_map, option_and_then}
use Rattle.std.specs.Result.{result_map_both}
use Rattle.hex.specs.Hex.{decode_of}
use Rattle.mesh_base.specs.declared.client.Vid.{Vid}
use Rattle.mesh_model.specs.Acts.Packing.{part_containers}
use Rattle.mesh_model.specs.Knowledge.Told.{TableMessage, part_told}
use Rattle.mesh_model.specs.Packets.Containers.{containers_of}
use Rattle.mesh_model.specs.Packets.Contents.{first_part, first_table, told_sum}
use Rattle.mesh_model.specs.Tables.Answers.{ReplyPart}

-- of the containers in these hex digits the table that counts has this version
abbrev pub HasTableVersion : List ℕ → Option ℕ → Type 0
HasTableVersion digits version =
    result_map_both (λ bytes. option_map (λ table. table.ttvn) (first_table (containers_of bytes)))
    (λ error. error) (decode_of digits) ≡ Ok version

-- the table that counts of these containers tells this checksum for a VLAN
abbrev pub TellsSum : List ℕ → Vid → Option ℕ → Type 0
TellsSum digits vid sum =
    result_map_both (λ bytes. option_and_then (λ table. told_sum vid table.vlans)
    (first_table (containers_of bytes))) (λ error. error) (decode_of digits) ≡ Ok sum

-- these hex digits are the containers of a part of an answer
abbrev pub Spells : List ℕ → ReplyPart → Type 0
Spells digits part = decode_of digits ≡ Ok (part_containers part)

-- the part that counts of the containers in these hex digits is this, for the node that they are
-- for
abbrev pub TellsPart : List ℕ → TableMessage → Type 0
TellsPart digits message =
    result_map_both (λ bytes. part_told (first_part (containers_of bytes))) (λ error. error)
    (decode_of digits) ≡ Ok message
