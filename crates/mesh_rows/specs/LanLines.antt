-- Lines of worked scenarios with LANs. The main words are `two_gateways` and `on_lan`.
use Rattle.std.specs.Prelude.{ℕ, zero, suc, List, [], ◌∷◌, ◌++◌, codes, decimal}

-- a node A that is the gateway of a LAN L
abbrev pub one_gateway : List (List ℕ)
one_gateway = codes "node A 02:00:00:00:00:0a" ∷ codes "lan L A" ∷ []

-- two nodes, A and B, that are the gateways of a LAN L
abbrev pub two_gateways : List (List ℕ)
two_gateways =
    codes "node A 02:00:00:00:00:0a" ∷ codes "node B 02:00:00:00:00:0b" ∷ codes "lan L A B" ∷ []

-- a frame of the client of a last byte, as two digits, to all stations: the place, and the VLAN and
-- the text
abbrev pub to_all : List ℕ → List ℕ → List ℕ → List ℕ
to_all place client rest =
    codes "frame " ++ place ++ codes " 02:00:00:00:01:" ++ client ++ codes " ff:ff:ff:ff:ff:ff "
    ++ rest

-- such a frame of client 1 in no VLAN on the LAN
abbrev pub on_lan : List ℕ → List ℕ
on_lan text = to_all (codes "L") (codes "01") (codes "- " ++ text)

-- the line of such a frame that reaches a node or a LAN: the moment, the name and the text
abbrev pub received_line : List ℕ → List ℕ → List ℕ
received_line place text =
    codes "recv " ++ place ++ codes " - 02:00:00:00:01:01 ff:ff:ff:ff:ff:ff " ++ text

-- the line of a claim of client 1 in no VLAN: its holder's last digit and its age
abbrev pub row_line : List ℕ → List ℕ → List ℕ
row_line holder age =
    codes "k 02:00:00:00:01:01 - holder=02:00:00:00:00:0" ++ holder ++ codes " age=" ++ age

-- the lines of so many LANs, each with a gateway of its own
abbrev pub many_lans : ℕ → List (List ℕ)
many_lans zero = []
many_lans (suc more) =
    many_lans more ++ (codes "lan L" ++ decimal more ++ codes " N" ++ decimal more) ∷ []

-- A sees a client in 16 VLANs, joins a LAN, and claims a client there in another VLAN; 10,000 ms
-- later a frame of that client comes
abbrev pub full_gateway : List (List ℕ)
full_gateway =
    codes "lan L A" ∷ to_all (codes "L") (codes "02") (codes "17 x") ∷ codes "run 10001"
    ∷ to_all (codes "L") (codes "02") (codes "17 y") ∷ codes "run 1" ∷ []

-- two nodes with links of equal throughput under algorithm V, of which A is the gateway of a LAN on
-- which client 1 was claimed and then seen; A commits it, and B hears of it
abbrev pub seen_behind_a : List (List ℕ)
seen_behind_a =
    codes "algo v" ∷ codes "node A 02:00:00:00:00:0a" ∷ codes "node B 02:00:00:00:00:0b"
    ∷ codes "link A B tp=100" ∷ codes "link B A tp=100" ∷ codes "lan L A"
    ∷ on_lan (codes "x") ∷ codes "run 2" ∷ on_lan (codes "y") ∷ codes "run 1100" ∷ []
