-- The distributed ARP table. A pair of an IP address and a VLAN is known at a node while it was
-- last learned less than 300,000 ms ago. The nodes that keep a pair, its candidates, are the three
-- with the least distance from the pair to the node on a ring of 65,536 places, in a tie those of
-- the smaller address. The main words are `known_pair`, `is_awaited` and `candidates_of`.
use Rattle.std.specs.Prelude.{ℕ, ◌+◌, ◌-◌, ◌%◌, ◌==◌, ◌&&◌, nat_lt, nat_eq, ◌||◌, Bool, false, not, List, [], ◌∷◌, ◌++◌, find, take, map, filter_map, Option, Some, None, option_map, option_and_then, if◌then◌else◌}
use Rattle.std.specs.Ordering.{nat_cmp, ordering_then}
use Rattle.std.specs.declared.cmp.Ordering.{Ordering}
use Rattle.byteorder.specs.Endian.{big_bytes}
use Rattle.mesh_base.specs.Ordered.{in_order}
use Rattle.mesh_base.specs.declared.address.Mac.{Mac}
use Rattle.mesh_base.specs.declared.client.Vid.{Vid}
use Rattle.mesh_model.specs.declared.service.ArpRow.{ArpRow}
use Rattle.mesh_model.specs.declared.service.Pair.{Pair}
use Rattle.mesh_model.specs.Routes.Addresses.{is_smaller}
use Rattle.mesh_model.specs.Tables.Checksum.{crc32c}

-- a pair that was learned: when, and its address
pub record Learned : Type 0 where
  pub moment : ℕ
  pub ip : ℕ
  pub vid : Vid
  pub mac : Mac

-- how long a pair is known, in milliseconds
abbrev pub pair_age : ℕ
pair_age = 300000

-- whether a pair is this one
abbrev pub same_pair : ℕ → Vid → ℕ → Vid → Bool
same_pair a_ip a_vid ip vid = (a_ip == ip) && (a_vid.0 == vid.0)

-- whether what was learned is of a pair
abbrev pub is_pair : ℕ → Vid → Learned → Bool
is_pair ip vid learned = same_pair learned.ip learned.vid ip vid

-- what was learned, while it is known
abbrev pub if_known : ℕ → Learned → Option Learned
if_known now learned = if nat_lt (now - learned.moment) pair_age then Some learned else None

-- what is known of a pair at a moment, by what was learned, newest first
abbrev pub known_pair : List Learned → ℕ → ℕ → Vid → Option Learned
known_pair learned now ip vid = option_and_then (if_known now) (find (is_pair ip vid) learned)

-- the address of a pair at a moment
abbrev pub pair_address : List Learned → ℕ → ℕ → Vid → Option Mac
pair_address learned now ip vid =
    option_map (λ (pair : Learned). pair.mac) (known_pair learned now ip vid)

-- ---- questions

-- a pair that other nodes were asked for, or that one of them told
pub data PairCall : Type 0 where
  AskedFor : (ip : ℕ) → (vid : Vid) → PairCall
  ToldOf : (ip : ℕ) → (vid : Vid) → PairCall

-- whether an answer for a pair is awaited: none came since it was last asked for
abbrev pub is_awaited : List PairCall → ℕ → Vid → Bool
is_awaited [] ip vid = false
is_awaited (AskedFor for_ip for_vid ∷ older) ip vid =
    same_pair for_ip for_vid ip vid || is_awaited older ip vid
is_awaited (ToldOf of_ip of_vid ∷ older) ip vid =
    not (same_pair of_ip of_vid ip vid) && is_awaited older ip vid

-- ---- rows

-- how two pairs stand to one another: by IP address, then by the VLAN's wire number
abbrev pub pair_order : Pair → Pair → Ordering
pair_order a b = ordering_then (nat_cmp a.ip b.ip) (nat_cmp a.vid.0 b.vid.0)

-- the row of what was learned, at a moment
abbrev pub row_of_learned : ℕ → Learned → ArpRow
row_of_learned now learned = record {
  ip = learned.ip;
  vid = learned.vid;
  mac = learned.mac;
  age = now - learned.moment;
}

-- the row of a pair at a moment, where it is known
abbrev pub row_of_pair : List Learned → ℕ → Pair → Option ArpRow
row_of_pair learned now pair =
    option_map (row_of_learned now) (known_pair learned now pair.ip pair.vid)

-- the pairs that are known at a moment, by IP address, then by VLAN
abbrev pub pairs_at : List Learned → ℕ → List ArpRow
pairs_at learned now = filter_map (row_of_pair learned now) (in_order pair_order
    (map (λ (one : Learned). record { ip = one.ip; vid = one.vid }) learned))

-- ---- candidates

-- how many places the ring has
abbrev pub ring_size : ℕ
ring_size = 65536

-- the place of a pair on the ring
unfoldable pub pair_place : ℕ → Vid → ℕ
pair_place ip vid = crc32c (big_bytes 4 ip ++ big_bytes 2 vid.0) % ring_size

-- the place of a node
unfoldable pub node_place : Mac → ℕ
node_place mac = crc32c mac.0 % ring_size

-- the distance from a place to a node
abbrev pub distance : ℕ → Mac → ℕ
distance place mac = (place + ring_size - node_place mac) % ring_size

-- whether the first of two nodes is nearer to a place
abbrev pub is_nearer : ℕ → Mac → Mac → Bool
is_nearer place a b = nat_lt (distance place a) (distance place b)
    || (nat_eq (distance place a) (distance place b) && is_smaller a b)

-- nodes with one more, the nearest first
abbrev pub insert_near : ℕ → Mac → List Mac → List Mac
insert_near place mac [] = mac ∷ []
insert_near place mac (first ∷ rest) =
    if is_nearer place mac first then mac ∷ first ∷ rest else first ∷ insert_near place mac rest

-- nodes, the nearest first
abbrev pub nearest : ℕ → List Mac → List Mac
nearest place [] = []
nearest place (mac ∷ rest) = insert_near place mac (nearest place rest)

-- how many candidates a pair has
abbrev pub most_candidates : ℕ
most_candidates = 3

-- the candidates of a pair among nodes
abbrev pub candidates_of : ℕ → Vid → List Mac → List Mac
candidates_of ip vid nodes = take most_candidates (nearest (pair_place ip vid) nodes)
