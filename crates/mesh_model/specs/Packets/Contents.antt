-- What containers tell. The body of a known type and version is read field by field; it may be too
-- short for its type. Of other containers nothing is told. The main words are `content_of`, what a
-- container tells, `first_table` and its kin, the container of a type and version that a node looks
-- at, and `flaw_of`, why bytes of containers can't be read to their end.
use Rattle.std.specs.Prelude.{ℕ, ◌==◌, ◌&&◌, not, Bool, List, [], ◌∷◌, length, filter, filter_map, find, take_while, Option, Some, None, is_some, option_map, if◌then◌else◌}
use Rattle.std.specs.Option.{option_or}
use Rattle.std.specs.List.{last_or, list_any}
use Rattle.mesh_base.specs.declared.client.Key.{Key}
use Rattle.mesh_base.specs.declared.client.Vid.{Vid}
use Rattle.mesh_model.specs.declared.link_frame.TvlvErr.{TvlvErr}
use Rattle.mesh_model.specs.declared.link_frame.TvlvErr.TheVariants.{Cut, BadLength}
use Rattle.mesh_model.specs.Packets.Numbers.{gateway_tvlv, dat_tvlv, tt_tvlv, roaming_tvlv, multicast_tvlv, tvlv_version, tt_part_version, multicast_version}
use Rattle.mesh_model.specs.Packets.Containers.{Container, containers_of, containers_spelling, rest_of}
use Rattle.mesh_model.specs.Packets.Bodies.{Bandwidth, TtData, TtPart, VlanSum, gateway_of_body, multicast_of_body, part_of_body, roaming_of_body, tt_head_size, tt_of_body}

-- what a container tells; `unread` where nothing of its body is looked at
pub data Content : Type 0 where
  gateway : Bandwidth → Content
  translation : TtData → Content
  part : TtPart → Content
  roaming : Key → Content
  multicast : ℕ → Content
  unread : Content

-- whether a container is of this type and version
abbrev pub is_of : ℕ → ℕ → Container → Bool
is_of kind version container = (container.kind == kind) && (container.version == version)

-- what the body of a translation table tells, in the version that is written
abbrev pub table_of_body : List ℕ → Option TtData
table_of_body body = tt_of_body tt_head_size body

-- what a container tells, or none where it is too short for its type
abbrev pub content_of : Container → Option Content
content_of container =
    if is_of gateway_tvlv tvlv_version container
    then option_map gateway (gateway_of_body container.body)
    else if is_of tt_tvlv tvlv_version container
    then option_map translation (table_of_body container.body)
    else if is_of tt_tvlv tt_part_version container
    then option_map part (part_of_body container.body)
    else if is_of roaming_tvlv tvlv_version container
    then option_map roaming (roaming_of_body container.body)
    else if is_of multicast_tvlv multicast_version container
    then option_map multicast (multicast_of_body container.body)
    else Some unread

-- whether a container is long enough for its type
abbrev pub is_long_enough : Container → Bool
is_long_enough container = is_some (content_of container)

-- ---- the containers that a node looks at

-- the first, where there is one
abbrev pub first_of : {X : Type 0} → List X → Option X
first_of [] = None
first_of (x ∷ xs) = Some x

-- what the first container of this type and version tells that is long enough
abbrev pub first_told : {X : Type 0} → ℕ → ℕ → (List ℕ → Option X) → List Container → Option X
first_told kind version read containers = first_of
    (filter_map (λ container. read container.body) (filter (is_of kind version) containers))

-- what the first gateway's container tells that is long enough
abbrev pub first_gateway : List Container → Option Bandwidth
first_gateway containers = first_told gateway_tvlv tvlv_version gateway_of_body containers

-- whether there is a container of the distributed ARP table
abbrev pub has_dat : List Container → Bool
has_dat containers = list_any (is_of dat_tvlv tvlv_version) containers

-- the first translation table that is long enough
abbrev pub first_table : List Container → Option TtData
first_table containers = first_told tt_tvlv tvlv_version table_of_body containers

-- the first part of a translation table that is long enough
abbrev pub first_part : List Container → Option TtPart
first_part containers = first_told tt_tvlv tt_part_version part_of_body containers

-- the client of the first roaming advertisement that is long enough
abbrev pub first_roaming : List Container → Option Key
first_roaming containers = first_told roaming_tvlv tvlv_version roaming_of_body containers

-- the first multicast flags that are long enough
abbrev pub first_multicast : List Container → Option ℕ
first_multicast containers =
    first_told multicast_tvlv multicast_version multicast_of_body containers

-- the checksum that a translation table tells for a VLAN: where it stands twice, the later one
abbrev pub told_sum : Vid → List VlanSum → Option ℕ
told_sum vid vlans =
    option_map (λ vlan. vlan.sum) (last_or None (filter (λ vlan. vlan.vid.0 == vid.0) vlans))

-- ---- containers to their end

-- the containers of bytes before the first that is too short for its type
abbrev pub sound_containers : List ℕ → List Container
sound_containers bytes = take_while is_long_enough (containers_of bytes)

-- a container that is too short, by its type and the length of its body
abbrev pub bad_length : Container → TvlvErr
bad_length container = BadLength container.kind (length container.body)

-- a cut where bytes are left that begin no whole container, at their place behind the containers
abbrev pub cut_before : List ℕ → ℕ → Option TvlvErr
cut_before [] place = None
cut_before (byte ∷ bytes) place = Some (Cut place)

-- why bytes of containers can't be read to their end: the first that is too short, or else a cut
abbrev pub flaw_of : List ℕ → Option TvlvErr
flaw_of bytes = option_or
    (option_map bad_length
    (find (λ container. not (is_long_enough container)) (containers_of bytes)))
    (cut_before (rest_of bytes) (length (containers_spelling (containers_of bytes))))
