-- How the readers of bodies answer: some parts of a body as pairs.
use Rattle.std.specs.Prelude.{ℕ, Bool}
use Rattle.mesh_base.specs.declared.client.Vid.{Vid}
use Rattle.mesh_base.specs.declared.client.Entry.{Entry}
use Rattle.mesh_model.specs.Packets.Bodies.{Bandwidth, VlanSum, TtChange, TtData, TtPart, entry_of_change, is_deletion}

-- download and upload of a gateway
abbrev pub speeds : Bandwidth → ℕ × ℕ
speeds bandwidth = (bandwidth.download, bandwidth.upload)

-- the wire number of a VLAN, and its checksum
abbrev pub vid_and_sum : VlanSum → Vid × ℕ
vid_and_sum vlan = (vlan.vid, vlan.sum)

-- the client of a record with the flags that it keeps, and whether the record takes it away
abbrev pub entry_and_deletion : TtChange → Entry × Bool
entry_and_deletion change = (entry_of_change change, is_deletion change)

-- a part of a translation table: the table with its records, its number, and how many there are
abbrev pub table_and_place : TtPart → TtData × ℕ × ℕ
table_and_place part = (part.table, part.number, part.count)
