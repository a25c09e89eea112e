-- What is said of calls that are written out: the addresses and keys in them, and the calls in the
-- order in which they were made, the first one first.
use Rattle.std.specs.Prelude.{None, ℕ, true, List, [], ◌∷◌, reverse}
use Rattle.mesh_base.specs.declared.address.Mac.{Mac}
use Rattle.mesh_base.specs.declared.client.Key.{Key}
use Rattle.mesh_model.specs.declared.probe.OpenProbe.{OpenProbe}
use Rattle.mesh_model.specs.Marks.Calls.{Calls, Marked, Unmarked, Advised, Asked}

-- an address 02:00:00:00 with these two last bytes
abbrev pub station : ℕ → ℕ → Mac
station high low = record { 0 = 2 ∷ 0 ∷ 0 ∷ 0 ∷ high ∷ low ∷ [] }

-- an untagged client
abbrev pub client : ℕ → Key
client low = record { mac = station 1 low; vid = record { 0 = 0 } }

-- a node
abbrev pub node : ℕ → Mac
node low = station 0 low

-- calls that were made in this order, newest first
abbrev pub in_order : {Call : Type 0} → List Call → List Call
in_order calls = reverse calls

-- a client is advertised at 0, 1, 2, 3 and 4, and another one at 5
abbrev pub five_adverts : Calls
five_adverts = in_order (Advised 0 (client 1) ∷ Advised 1 (client 1) ∷ Advised 2 (client 1)
    ∷ Advised 3 (client 1) ∷ Advised 4 (client 1) ∷ Advised 5 (client 2) ∷ [])

-- an originator is asked at 10
abbrev pub one_request : Calls
one_request = in_order (Asked 10 (node 10) ∷ [])

-- three clients went to nodes, one came back, and one went on
abbrev pub some_marks : Calls
some_marks = in_order (Marked 1 (client 3) (node 11) None ∷ Marked 2 (client 1) (node 12) None
    ∷ Marked 3 (client 2) (node 11) None ∷ Unmarked (client 3) ∷ Marked 4 (client 2) (node 10) None
    ∷ [])

-- the last probe that a traceroute may send
abbrev pub hop_50 : OpenProbe
hop_50 = record {
  probe = record { target = node 11; seq = 50; ttl = 50 };
  trace = true;
  sent = 100;
}
