-- The printed tables. Each line ends with a newline; rows stand in key order, ages are in
-- milliseconds. The local table of a node (`show NODE tl`) is `tl NODE version=B clients=C`, a line
-- `vlan VID sum=S` for each VLAN of the last commit, and a line `c MAC VID FF age=AGE` for each
-- present client. Its originators (`show NODE o`) are `o NODE algo=A count=C` and a line
-- `o MAC seq=S seen=AGE next=MAC metric=M` for each, with `next=-` where there is no route. Its
-- neighbours (`show NODE n`) are `n NODE algo=A count=C` and a line for each, `n MAC rq=R eq=E`
-- under algorithm IV and `n MAC tp=T seen=AGE` under algorithm V. The main words are `table_text`,
-- `orig_table_text` and `link_table_text`.
use Rattle.std.specs.Prelude.{ℕ, ◌-◌, ◌/◌, ◌%◌, ◌==◌, nat_le, List, [], ◌∷◌, ◌++◌, length, flat_map, codes, decimal, Option, Some, None, if◌then◌else◌}
use Rattle.byteorder.specs.Endian.{big_bytes}
use Rattle.hex.specs.Hex.{encode_lower}
use Rattle.mesh_base.specs.Address.{mac_text}
use Rattle.mesh_base.specs.Vlan.{tagged_bit}
use Rattle.mesh_base.specs.declared.address.Mac.{Mac}
use Rattle.mesh_base.specs.declared.client.Vid.{Vid}
use Rattle.mesh_model.specs.declared.line_form.Algorithm.{Algorithm}
use Rattle.mesh_model.specs.declared.line_form.Algorithm.TheVariants.{Iv, V}
use Rattle.mesh_model.specs.declared.route.LinkRow.{LinkRow}
use Rattle.mesh_model.specs.declared.route.LinkRow.TheVariants.{Iv as IvLink, V as VLink}
use Rattle.mesh_model.specs.declared.route.OrigRow.{OrigRow}
use Rattle.mesh_model.specs.declared.table_row.LocalRow.{LocalRow}
use Rattle.mesh_model.specs.Packets.Bodies.{VlanSum}
use Rattle.mesh_model.specs.Packets.Numbers.{wifi_flag, isolated_flag}
use Rattle.mesh_model.specs.Text.PacketLines.{line_of, named_number, named_address}

-- a node's local table: its name, the byte and the sums of its last commit, and its present clients
pub record LocalTable : Type 0 where
  pub name : List ℕ
  pub version : ℕ
  pub sums : List VlanSum
  pub rows : List LocalRow

-- a node's live originators: its name, its algorithm, and a row for each
pub record OrigTable : Type 0 where
  pub name : List ℕ
  pub algorithm : Algorithm
  pub rows : List OrigRow

-- a node's neighbours: its name, its algorithm, and a row for each
pub record LinkTable : Type 0 where
  pub name : List ℕ
  pub algorithm : Algorithm
  pub rows : List LinkRow

-- a VLAN as it is printed: `-` for untagged, the number of a tagged one, else `raw:` and the wire
-- number
unfoldable pub vid_text : Vid → List ℕ
vid_text vid =
    if vid.0 == 0 then codes "-"
    else if nat_le tagged_bit vid.0 then decimal (vid.0 - tagged_bit)
    else codes "raw:" ++ decimal vid.0

-- a letter where a flag is set, else `-`
abbrev pub flag_text : ℕ → ℕ → List ℕ → List ℕ
flag_text flags flag letter = if flags / flag % 2 == 1 then letter else codes "-"

-- the flags of an entry: `w` for WIFI, `i` for ISOLATED
unfoldable pub flags_text : ℕ → List ℕ
flags_text flags =
    flag_text flags wifi_flag (codes "w") ++ flag_text flags isolated_flag (codes "i")

-- an age, or `-` for none
unfoldable pub age_text : Option ℕ → List ℕ
age_text (Some age) = decimal age
age_text None = codes "-"

-- a checksum as eight hex digits
unfoldable pub sum_text : ℕ → List ℕ
sum_text sum = encode_lower (big_bytes 4 sum)

-- the line of a VLAN of the last commit
unfoldable pub vlan_line : VlanSum → List ℕ
vlan_line vlan = line_of
    (codes "vlan " ∷ vid_text vlan.vid ∷ codes " sum=" ∷ sum_text vlan.sum ∷ [])

-- the line of a present client
unfoldable pub local_line : LocalRow → List ℕ
local_line row = line_of
    (named_address (codes "c ") row.entry.key.mac ∷ codes " " ∷ vid_text row.entry.key.vid
    ∷ codes " " ∷ flags_text row.entry.flags ∷ codes " age=" ∷ age_text row.age ∷ [])

-- the first line of a local table
unfoldable pub local_header : List ℕ → ℕ → ℕ → List ℕ
local_header name version clients = line_of
    (codes "tl " ∷ name ∷ named_number (codes " version=") version
    ∷ named_number (codes " clients=") clients ∷ [])

-- a local table as it is printed
abbrev pub table_text : LocalTable → List ℕ
table_text table =
    local_header table.name table.version (length table.rows)
    ++ flat_map vlan_line table.sums ++ flat_map local_line table.rows

-- the word of an algorithm
abbrev pub algorithm_word : Algorithm → List ℕ
algorithm_word Iv = codes "iv"
algorithm_word V = codes "v"

-- an address, or `-` for none
abbrev pub address_text : Option Mac → List ℕ
address_text (Some mac) = mac_text mac
address_text None = codes "-"

-- the first line of a table of routing: its letter, the node's name, its algorithm, and how many
-- rows follow
unfoldable pub route_header : List ℕ → List ℕ → Algorithm → ℕ → List ℕ
route_header letter name algorithm count = line_of
    (letter ∷ codes " " ∷ name ∷ codes " algo=" ∷ algorithm_word algorithm
    ∷ named_number (codes " count=") count ∷ [])

-- the line of an originator
unfoldable pub orig_line : OrigRow → List ℕ
orig_line row = line_of
    (named_address (codes "o ") row.orig ∷ named_number (codes " seq=") row.seq
    ∷ named_number (codes " seen=") row.seen ∷ codes " next=" ∷ address_text row.next
    ∷ named_number (codes " metric=") row.metric ∷ [])

-- the line of a neighbour
unfoldable pub neighbor_line : LinkRow → List ℕ
neighbor_line (IvLink neigh rq eq) = line_of
    (named_address (codes "n ") neigh ∷ named_number (codes " rq=") rq
    ∷ named_number (codes " eq=") eq ∷ [])
neighbor_line (VLink neigh tp seen) = line_of
    (named_address (codes "n ") neigh ∷ named_number (codes " tp=") tp
    ∷ named_number (codes " seen=") seen ∷ [])

-- the originators of a node as they are printed
abbrev pub orig_table_text : OrigTable → List ℕ
orig_table_text table =
    route_header (codes "o") table.name table.algorithm (length table.rows)
    ++ flat_map orig_line table.rows

-- the neighbours of a node as they are printed
abbrev pub link_table_text : LinkTable → List ℕ
link_table_text table =
    route_header (codes "n") table.name table.algorithm (length table.rows)
    ++ flat_map neighbor_line table.rows
