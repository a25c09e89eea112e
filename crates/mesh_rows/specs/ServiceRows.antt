-- Nodes A to E, a client, and what comes to them: claims on a LAN, gateways, primaries, facts and
-- the parts of a transaction. The main words are `node`, `client`, `claims`, `told` and `part`.
use Rattle.std.specs.Prelude.{ℕ, ◌+◌, [], ◌∷◌, ◌++◌, List, map, replicate, codes, Bool}
use Rattle.mesh_base.specs.declared.address.Mac.{Mac}
use Rattle.mesh_base.specs.declared.client.Key.{Key}
use Rattle.mesh_base.specs.declared.client.Vid.{Vid}
use Rattle.mesh_model.specs.declared.service.Fact.{Fact}
use Rattle.mesh_model.specs.declared.service.GwRow.{GwRow}
use Rattle.mesh_model.specs.declared.service.PrimaryRow.{PrimaryRow}
use Rattle.mesh_model.specs.Bridges.Claims.{ClaimCall}
use Rattle.mesh_model.specs.Services.ArpTable.{Learned}
use Rattle.mesh_model.specs.Services.Transactions.{TxnCall, APart, AnEnd}

-- the node whose address ends with a byte: A with 10, B with 11, and so on
abbrev pub node : ℕ → Mac
node last = record { 0 = 2 ∷ 0 ∷ 0 ∷ 0 ∷ 0 ∷ last ∷ [] }

-- VLANs: none, and the tagged one of a number
abbrev pub no_vlan : Vid
no_vlan = record { 0 = 0 }

abbrev pub vlan : ℕ → Vid
vlan number = record { 0 = 32768 + number }

-- a client of the LAN
abbrev pub client : Key
client = record { mac = record { 0 = 2 ∷ 0 ∷ 0 ∷ 0 ∷ 1 ∷ 1 ∷ [] }; vid = no_vlan }

-- a claim of the client by a node at a moment, or for `claim` false the end of one
abbrev pub claims : ℕ → Mac → Bool → ClaimCall
claims moment sender claim =
    record { moment = moment; sender = sender; key = client; claim = claim }

-- a gateway with a metric
abbrev pub gateway : ℕ → ℕ → GwRow
gateway last metric = record { orig = node last; down = 100; up = 20; metric = metric }

-- a primary with a metric that announced itself at a moment
abbrev pub primary : ℕ → ℕ → ℕ → PrimaryRow
primary last announced metric =
    record { orig = node last; announced = announced; metric = metric }

-- the IP addresses 10.0.0.1 and 10.0.0.2
abbrev pub first_ip : ℕ
first_ip = 167772161

abbrev pub second_ip : ℕ
second_ip = 167772162

-- a pair is learned at a moment
abbrev pub learned : ℕ → ℕ → Vid → Mac → Learned
learned moment ip vid mac = record { moment = moment; ip = ip; vid = vid; mac = mac }

-- a fact of a node and a type, with a text
abbrev pub told : ℕ → ℕ → List ℕ → Fact
told last type_no text =
    record { source = node last; type_no = type_no; version = 1; bytes = text }

-- a part of B's transaction 1, with one fact, comes at a moment; and its end
abbrev pub part : ℕ → ℕ → TxnCall
part moment number = record {
  moment = moment;
  sender = node 11;
  id = 1;
  brought = APart number (told 11 (64 + number) (codes "x") ∷ []);
}

abbrev pub end : ℕ → ℕ → TxnCall
end moment count =
    record { moment = moment; sender = node 11; id = 1; brought = AnEnd count }

-- ---- bytes of the ARP table

-- C is told to have 10.0.0.2, in a frame to all stations that may be tagged: the bytes before the
-- operation, and those of the answer
abbrev pub told_front : List ℕ → ℕ → List ℕ
told_front tag ethertype = 255 ∷ 255 ∷ 255 ∷ 255 ∷ 255 ∷ 255 ∷ (node 12).0 ++ tag
    ++ 8 ∷ ethertype ∷ 0 ∷ 1 ∷ 8 ∷ 0 ∷ 6 ∷ 4 ∷ []

abbrev pub told_rest : ℕ → List ℕ
told_rest operation = 0 ∷ operation ∷ (node 12).0 ++ 10 ∷ 0 ∷ 0 ∷ 2 ∷ replicate 10 0

-- the bytes in no VLAN
abbrev pub told_bytes : List ℕ
told_bytes = told_front [] 6 ++ told_rest 2

-- the bytes with a tag of these two bytes
abbrev pub tagged_bytes : ℕ → ℕ → List ℕ
tagged_bytes high low = told_front (129 ∷ 0 ∷ high ∷ low ∷ []) 6 ++ told_rest 2

-- each front of bytes that is shorter than they are
abbrev pub shorter_fronts : List ℕ → List (List ℕ)
shorter_fronts [] = []
shorter_fronts (byte ∷ rest) = [] ∷ map (λ front. byte ∷ front) (shorter_fronts rest)
