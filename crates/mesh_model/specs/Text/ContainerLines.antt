-- The lines of containers. Each has one that begins `tvlv TYPE version=V len=L`; where type and
-- version are known the fields of the body follow in it. Below that of a translation table, or of a
-- part of one, stand a line for each VLAN and one for each record, whose flags are printed as they
-- stand. The main word is `container_lines`.
use Rattle.std.specs.Prelude.{ℕ, List, [], ◌∷◌, ◌++◌, length, map, codes, Option, Some, None}
use Rattle.mesh_base.specs.declared.client.Key.{Key}
use Rattle.mesh_model.specs.Packets.Bodies.{TtChange, TtData, TtPart, Bandwidth}
use Rattle.mesh_model.specs.Packets.Containers.{Container}
use Rattle.mesh_model.specs.Packets.Contents.{Content, content_of}
use Rattle.mesh_model.specs.Packets.Contents.Content.{gateway, translation, part, roaming, multicast, unread}
use Rattle.mesh_model.specs.Text.PacketLines.{line_of, named_number, named_address, named_flags}
use Rattle.mesh_model.specs.Text.Tables.{vid_text, vlan_line}

-- type, version and length of a container
abbrev pub container_start : Container → List ℕ
container_start container = named_number (codes "tvlv ") container.kind
    ++ named_number (codes " version=") container.version
    ++ named_number (codes " len=") (length container.body)

-- the line of a container with these parts behind its start
abbrev pub container_line : Container → List (List ℕ) → List ℕ
container_line container parts = line_of (container_start container ∷ parts)

-- the line of a container whose body has no fields that are known
unfoldable pub plain_line : Container → List ℕ
plain_line container = container_line container []

-- the line of a gateway's container
unfoldable pub gateway_line : Container → Bandwidth → List ℕ
gateway_line container bandwidth = container_line container
    (named_number (codes " down=") bandwidth.download ∷ named_number (codes " up=") bandwidth.upload
    ∷ [])

-- the line of a roaming advertisement
unfoldable pub roaming_line : Container → Key → List ℕ
roaming_line container client = container_line container
    (named_address (codes " mac=") client.mac ∷ codes " vid=" ∷ vid_text client.vid ∷ [])

-- the line of multicast flags
unfoldable pub multicast_line : Container → ℕ → List ℕ
multicast_line container flags =
    container_line container (named_flags (codes " flags=") flags ∷ [])

-- the first line of a translation table
unfoldable pub table_start : Container → TtData → List ℕ
table_start container table = container_line container
    (named_flags (codes " flags=") table.flags ∷ named_number (codes " ttvn=") table.ttvn
    ∷ named_number (codes " vlans=") (length table.vlans)
    ∷ named_number (codes " changes=") (length table.changes) ∷ [])

-- the first line of a part of a translation table
unfoldable pub part_start : Container → TtPart → List ℕ
part_start container told = container_line container
    (named_flags (codes " flags=") told.table.flags
    ∷ named_number (codes " ttvn=") told.table.ttvn
    ∷ named_number (codes " vlans=") (length told.table.vlans)
    ∷ named_number (codes " part=") told.number ∷ named_number (codes " of=") told.count
    ∷ named_number (codes " changes=") (length told.table.changes) ∷ [])

-- the line of a record of a translation table
unfoldable pub change_line : TtChange → List ℕ
change_line change = line_of
    (named_flags (codes "change ") change.flags ∷ named_address (codes " ") change.key.mac
    ∷ codes " " ∷ vid_text change.key.vid ∷ [])

-- the lines of the VLANs and the records of a translation table
abbrev pub rows_of_table : TtData → List (List ℕ)
rows_of_table table = map vlan_line table.vlans ++ map change_line table.changes

-- the lines of a translation table
abbrev pub table_lines : Container → TtData → List (List ℕ)
table_lines container table = table_start container table ∷ rows_of_table table

-- the lines of a part of a translation table
abbrev pub part_lines : Container → TtPart → List (List ℕ)
part_lines container told = part_start container told ∷ rows_of_table told.table

-- the lines of a container that tells this; there is none for one that is too short
abbrev pub content_lines : Container → Option Content → List (List ℕ)
content_lines container None = []
content_lines container (Some (gateway bandwidth)) = gateway_line container bandwidth ∷ []
content_lines container (Some (translation table)) = table_lines container table
content_lines container (Some (part told)) = part_lines container told
content_lines container (Some (roaming client)) = roaming_line container client ∷ []
content_lines container (Some (multicast flags)) = multicast_line container flags ∷ []
content_lines container (Some unread) = plain_line container ∷ []

-- the lines of a container
abbrev pub container_lines : Container → List (List ℕ)
container_lines container = content_lines container (content_of container)
