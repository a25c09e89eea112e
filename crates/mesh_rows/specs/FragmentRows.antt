-- A packet that A cuts, and parts of A's first cut that come to B; and scenarios in which A cuts.
-- The main words are `packet`, `cut_at`, `comes` and `client_of_gateway`.
use Rattle.std.specs.Prelude.{ℕ, ◌-◌, List, [], ◌∷◌, ◌++◌, codes, flat_map, replicate}
use Rattle.mesh_model.specs.declared.packet.Head.TheVariants.{Unicast}
use Rattle.mesh_model.specs.Fragments.Assembly.{PartCall, part_of}
use Rattle.mesh_model.specs.Fragments.Cutting.{Cut}
use Rattle.mesh_model.specs.Packets.Layout.{spelling}
use Rattle.mesh_model.specs.Packets.Shapes.{header_size, unicast}
use Rattle.mesh_model.specs.Acts.Cuts.{Cutter}
use Rattle.mesh_rows.specs.CallRows.{node}
use Rattle.mesh_rows.specs.ServingLines.{pair_under_v}

-- a packet of this length for B
abbrev pub packet : ℕ → List ℕ
packet size = spelling (Unicast 50 1 (node 11)) (replicate (size - header_size unicast) 97)

-- the first cut of A, of a packet of this length, where at most so many bytes go whole
abbrev pub cut_at : ℕ → ℕ → Cut
cut_at most size = record { most = most; number = 1; me = node 10; packet = packet size }

-- a part of A's first cut comes at a moment: the length of the packet, the place and the tail
abbrev pub comes : ℕ → ℕ → ℕ → List ℕ → PartCall
comes moment total place tail = part_of moment (node 10) 1 total place tail

-- how A cuts at 300 bytes after so many cuts
abbrev pub cutter_after : ℕ → Cutter
cutter_after cuts = record { me = node 10; most = 300; cuts = cuts }

-- ---- scenarios

-- so many letters
abbrev pub letters : ℕ → List ℕ
letters count = replicate count 97

-- the same in hex
abbrev pub letters_in_hex : ℕ → List ℕ
letters_in_hex count = flat_map (λ letter. codes "61") (letters count)

-- A chose B as its gateway, and cuts at 300 bytes
abbrev pub client_of_gateway : List (List ℕ)
client_of_gateway = pair_under_v ++ codes "set B gw server 10 1" ∷ codes "set A gw client best"
    ∷ codes "set A frag 300" ∷ codes "run 2000" ∷ []

-- a call for a gateway with so many letters
abbrev pub call_with : ℕ → List ℕ
call_with count = codes "dhcp A 02:00:00:00:01:01 - " ++ letters count

-- the packet of such a call, in hex
abbrev pub call_in_hex : ℕ → List ℕ
call_in_hex count =
    codes "400f320002000000000bffffffffffff02000000010188b5" ++ letters_in_hex count

-- the line of such a call that came
abbrev pub call_came : ℕ → List ℕ
call_came count =
    codes "recv 2001 B - 02:00:00:00:01:01 ff:ff:ff:ff:ff:ff " ++ letters count
