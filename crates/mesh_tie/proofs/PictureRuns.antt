-- What nodes know of the network by pictures is right in every mesh that is reached, and at each line of
-- a run.
use Rattle.std.proofs.Common.{ℕ, List}
use Rattle.mesh_base.specs.declared.address.Mac.{Mac}
use Rattle.mesh_model.specs.declared.packet.Head.{Head}
use Rattle.mesh_model.specs.declared.packet.Head.TheVariants.{IvOgm, Bcast, Elp, Ogm2, Unicast, Frag, Unicast4, Icmp, Utvlv}
use Rattle.mesh_model.specs.declared.service.Fact.{Fact}
use Rattle.mesh_model.specs.Net.Mesh.{Mesh}
use Rattle.mesh_model.specs.Packets.FactMessages.{FactMessage, HasPart, Primary, Requests, HasEnd}
use Rattle.mesh_model.specs.Routes.Algorithms.{queries_of}
use Rattle.mesh_model.specs.Routes.Queries.{Queries}
use Rattle.mesh_model.specs.Run.PlainRun.{after_lines, start}
use Rattle.mesh_tie.specs.Carried.{BringsFacts, IsPutFact, PayloadBrings, SendsOnly}
use Rattle.mesh_tie.specs.ShownPictures.{IsRightPicture, ReachedPicturesAreRight, RunsShowPictures}
use Rattle.mesh_tie.proofs.CarriedOn.{keeps_put_facts, pictures_are_true, sends_put_facts}
use Rattle.mesh_tie.proofs.FactLemmas.{each_more}
use Rattle.mesh_tie.proofs.LineReach.{first_holds, lines_hold}
use Rattle.mesh_tie.proofs.VLemmas.{algorithms_keep}

message_more : (F G : Fact → Type 0) → ((fact : Fact) → F fact → G fact) → (message : FactMessage) → BringsFacts F message → BringsFacts G message
message_more F G more (HasPart push id number facts) brings = each_more F G more facts brings
message_more F G more Primary brings = tt
message_more F G more (Requests id type_no) brings = tt
message_more F G more (HasEnd push id count) brings = tt

payload_more : (F G : Fact → Type 0) → ((fact : Fact) → F fact → G fact) → (tail : List ℕ) (head : Head) → PayloadBrings F tail head → PayloadBrings G tail head
payload_more F G more tail (IvOgm ttl flags seq orig prev tq) brings = tt
payload_more F G more tail (Bcast ttl seq orig) brings = λ came is. message_more F G more came.message (brings came is)
payload_more F G more tail (Elp orig seq interval) brings = tt
payload_more F G more tail (Ogm2 ttl flags seq orig throughput) brings = tt
payload_more F G more tail (Unicast ttl ttvn dst) brings = λ came is. message_more F G more came.message (brings came is)
payload_more F G more tail (Frag ttl number priority dst orig seq total) brings = tt
payload_more F G more tail (Unicast4 ttl ttvn dst src subtype) brings = tt
payload_more F G more tail (Icmp ttl msg dst orig uid seq) brings = tt
payload_more F G more tail (Utvlv ttl dst src) brings = tt

sends_more : (F G : Fact → Type 0) → ((fact : Fact) → F fact → G fact) → (queries : Mac → Queries) (mesh : Mesh) → SendsOnly F queries mesh → SendsOnly G queries mesh
sends_more F G more queries mesh sends = record {
  sent = λ place frame got packet has. payload_more F G more packet.tail packet.head (sends.sent place frame got packet has);
  pushed = λ place node found call has. λ number facts is. each_more F G more facts (sends.pushed place node found call has number facts is);
  answered = λ place node found call has. λ number facts is. each_more F G more facts (sends.answered place node found call has number facts is);
}

pub reached_pictures_are_right : ReachedPicturesAreRight
reached_pictures_are_right queries keep mesh r = record {
  kept = λ place node found now kept has. pictures_are_true queries mesh kept.fact (keeps_put_facts queries keep mesh r place node found now kept has);
  sent = sends_more (IsPutFact queries mesh) (IsRightPicture queries mesh) (pictures_are_true queries mesh) queries mesh (sends_put_facts queries keep mesh r);
}

pub runs_show_pictures : RunsShowPictures
runs_show_pictures choice lines before after is =
    let state = (after_lines (start choice) before).state in
    reached_pictures_are_right (queries_of state.algorithm) (algorithms_keep state.algorithm) state.mesh (lines_hold (start choice) before (first_holds choice)).reachable
