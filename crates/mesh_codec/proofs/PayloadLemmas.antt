-- A client frame that was written is read again.
use Rattle.std.proofs.Common.{◌≡◌, refl, ap, Some, option_map, arith}
use Rattle.mesh_model.specs.Packets.Numbers.{client_ethertype}
use Rattle.mesh_model.specs.Packets.Payload.{ClientFrame, client_frame, client_frame_of, ether_frame, payload_spelling}
use Rattle.mesh_codec.specs.Payloads.{CanBeCarried, IsOwnType}
use Rattle.mesh_codec.proofs.EtherLemmas.{ether_back}

client_type : IsOwnType client_ethertype
client_type = record { fits = omega arith; no_tag = refl }

pub frame_back : (frame : ClientFrame) → CanBeCarried frame → client_frame_of (payload_spelling frame) ≡ Some frame
frame_back frame can = ap (option_map client_frame) (ether_back client_ethertype client_type (ether_frame frame) can)
