-- What holds of payloads, and goes on to hold with each step, holds of each that was ever sent.
use Rattle.std.proofs.Common.{◌≡◌, ◌≤◌, ◌⊎◌, ◌++◌, ◌∙◌, Some, sym, ap, inl, inr, ℕ, suc, true, false, List, [], ◌∷◌, slice_get, refl, subst, arith}
use Rattle.std.specs.List.{AllByRecursion}
use Rattle.mesh_base.specs.declared.address.Mac.{Mac}
use Rattle.mesh_base.specs.declared.event.Event.TheVariants.{Alfred, Bridged, Received}
use Rattle.mesh_base.specs.declared.event.FactResult.TheVariants.{Fact as FactTold}
use Rattle.mesh_model.specs.declared.packet.Head.{Head}
use Rattle.mesh_model.specs.declared.packet.Head.TheVariants.{IvOgm, Bcast, Elp, Ogm2, Unicast, Frag, Unicast4, Icmp, Utvlv}
use Rattle.mesh_model.specs.declared.service.Fact.{Fact}
use Rattle.mesh_model.specs.declared.service.KeptFact.{KeptFact}
use Rattle.mesh_model.specs.Acts.Choosing.{cutter_by, whole_acts}
use Rattle.mesh_model.specs.Clients.Log.{Given, Log, LogEntry, Tick, LinkFrame, LanFrame, Line}
use Rattle.mesh_model.specs.Fragments.Cutting.{Cut}
use Rattle.mesh_model.specs.Knowledge.Steps.{knowledge}
use Rattle.mesh_model.specs.Knowledge.Pictured.{picture_by}
use Rattle.mesh_model.specs.Net.Due.{ticks_in}
use Rattle.mesh_model.specs.Net.Inputs.{entry_of, noting}
use Rattle.mesh_model.specs.Net.Limits.{scenario_setup}
use Rattle.mesh_model.specs.Net.Mesh.{NodeLog, Mesh}
use Rattle.mesh_model.specs.Packets.FactMessages.{FactMessage, HasPart, Primary, Requests, HasEnd}
use Rattle.mesh_model.specs.Packets.Payload.{ClientFrame}
use Rattle.mesh_model.specs.Net.Next.{Has}
use Rattle.mesh_model.specs.Routes.Queries.{Queries}
use Rattle.mesh_model.specs.Scenario.AlfredForms.{least_fact_type}
use Rattle.mesh_model.specs.Services.Facts.{facts_at}
use Rattle.mesh_model.specs.Services.Pictures.{picture_fact, picture_type}
use Rattle.mesh_model.specs.Services.Transactions.{TxnCall}
use Rattle.mesh_laws.proofs.Schedule.Steps.{get_front}
use Rattle.mesh_laws.specs.CutLaws.{cuts_made, cuts_of_log}
use Rattle.mesh_laws.proofs.Schedule.Members.{has_left, one_some}
use Rattle.mesh_tie.specs.Carried.{BringsFacts, CallBringsFacts, Carries, IsKept, IsPutFact, IsReadOf, KeepsPutFacts, PayloadBrings, PicturesAreTrue, SendsPutFacts, TailHas, TellsPutFacts, UnlessStored, WasGiven, WasPictured, WasPut, on_lan, to_node}
use Rattle.mesh_laws.proofs.KeptLemmas.{kept_of}
use Rattle.mesh_tie.specs.CutPackets.{WasCut}
use Rattle.mesh_tie.specs.Sources.{IsWhole}
use Rattle.mesh_tie.specs.Tie.{IsOrderly, known_at_node}
use Rattle.mesh_tie.specs.Steps.{IsReachable, Steps, begins, frame_comes, goes_on, lan_comes, lan_joins, line_gives, link_joins, node_joins, node_ticks, put_comes, put_reaches, time_passes, routes_told}
use Rattle.mesh_tie.specs.TieLaws.{AllKeep}
use Rattle.mesh_tie.proofs.CarriedHeads.{IsCarried, IsPart, Kept, HeadHas}
use Rattle.mesh_tie.proofs.CutPieces.{IsPartOf}
use Rattle.mesh_tie.proofs.NodeLists.{Renewed, another, itself, noted_stays, renewed}
use Rattle.mesh_tie.proofs.OrderSteps.{orderly}
use Rattle.mesh_tie.proofs.SentLemmas.{HasGiven, given_is}
use Rattle.mesh_tie.proofs.CarriedSteps.{HasKept, IsPut, Payload, kept_of_frame, kept_in, put_facts, step_keeps}
use Rattle.mesh_tie.proofs.FactLemmas.{AreMore, Brings, CallBrings, Holds, MessageHas, OfKept, each_more, facts_have, more_message, more_stores}
use Rattle.mesh_tie.proofs.LanSteps.{lan_read}

-- ---- what goes on to hold
given_stays : (queries : Mac → Queries) (mesh after : Mesh) (place now root : ℕ) (node : NodeLog) (given : Given) (frame : ClientFrame) → HasGiven (scenario_setup queries) place now root node given mesh after → WasGiven mesh frame → WasGiven after frame
given_stays queries mesh after place now root node given frame has (to_node at was entry line found noted is gives tells) =
    let stays = noted_stays place (entry_of (scenario_setup queries) node now given) mesh.nodes at was found in
    to_node at stays.0 entry line (ap (λ ns. slice_get ns at) has.nodes ∙ stays.1) (stays.2 entry noted) is gives tells
given_stays queries mesh after place now root node given frame has (on_lan at put found by is tells) =
    on_lan at put (ap (λ ps. slice_get ps at) has.puts ∙ get_front mesh.puts has.more_puts at put found) by is tells

-- a client frame that was given stays given
pub was_given : (queries : Mac → Queries) (mesh after : Mesh) (frame : ClientFrame) → Steps queries mesh after → WasGiven mesh frame → WasGiven after frame
was_given queries mesh _ frame (node_joins _ new empty whole fresh) (to_node at node entry line found noted is gives tells) = to_node at node entry line (get_front mesh.nodes (new ∷ []) at node found) noted is gives tells
was_given queries mesh _ frame (node_joins _ new empty whole fresh) (on_lan at put found by is tells) = on_lan at put found by is tells
was_given queries mesh _ frame (link_joins _ link) (to_node at node entry line found noted is gives tells) = to_node at node entry line found noted is gives tells
was_given queries mesh _ frame (link_joins _ link) (on_lan at put found by is tells) = on_lan at put found by is tells
was_given queries mesh after frame (line_gives _ _ place now node line found may of is) was =
    given_stays queries mesh after place now 0 node (Line line) frame (given_is (scenario_setup queries) place now 0 node (Line line) mesh after found is) was
was_given queries mesh after frame (node_ticks _ _ place now node found may is) was =
    let index = suc (ticks_in node.log) in
    given_stays queries mesh after place now index node (Tick index) frame (given_is (scenario_setup queries) place now index node (Tick index) mesh after found is) was
was_given queries mesh after frame (frame_comes _ _ place now number throughput from node sent found may among whole is) was =
    let given = LinkFrame (suc number) from throughput sent.bytes in
    given_stays queries mesh after place now sent.root node given frame (given_is (scenario_setup queries) place now sent.root node given mesh after found is) was
was_given queries mesh _ frame (lan_joins _ lan) (to_node at node entry line found noted is gives tells) = to_node at node entry line found noted is gives tells
was_given queries mesh _ frame (lan_joins _ lan) (on_lan at put found by is tells) = on_lan at put found by is tells
was_given queries mesh _ frame (put_comes _ new one none spelled client) (to_node at node entry line found noted is gives tells) = to_node at node entry line found noted is gives tells
was_given queries mesh _ frame (put_comes _ new one none spelled client) (on_lan at put found by is tells) = on_lan at put (get_front mesh.puts (new ∷ []) at put found) by is tells
was_given queries mesh _ frame (put_reaches _ number now new one there carries) (to_node at node entry line found noted is gives tells) = to_node at node entry line found noted is gives tells
was_given queries mesh _ frame (put_reaches _ number now new one there carries) (on_lan at put found by is tells) = on_lan at put found by is tells
was_given queries mesh after frame (lan_comes _ _ place now number node put found may among is) was =
    given_stays queries mesh after place now 0 node (LanFrame put.bytes) frame (given_is (scenario_setup queries) place now 0 node (LanFrame put.bytes) mesh after found is) was
was_given queries mesh _ frame (time_passes _ happening) (to_node at node entry line found noted is gives tells) = to_node at node entry line found noted is gives tells
was_given queries mesh _ frame (time_passes _ happening) (on_lan at put found by is tells) = on_lan at put found by is tells
was_given queries mesh _ frame (routes_told _ lines watch) (to_node at node entry line found noted is gives tells) = to_node at node entry line found noted is gives tells
was_given queries mesh _ frame (routes_told _ lines watch) (on_lan at put found by is tells) = on_lan at put found by is tells

-- a fact that was put stays put
mac_stays : (at : ℕ) (entry : LogEntry) (nodes : List NodeLog) (place : ℕ) (node after : NodeLog) → slice_get nodes place ≡ Some node → Renewed at entry nodes place after → after.mac ≡ node.mac
mac_stays at entry nodes place node after found (another d got) = ap (λ (n : NodeLog). n.mac) (one_some after node (sym got ∙ found))
mac_stays at entry nodes place node after found (itself before same got noted) = ap (λ (n : NodeLog). n.mac) noted ∙ ap (λ (n : NodeLog). n.mac) (one_some before node (sym got ∙ found))

put_stays : (queries : Mac → Queries) (mesh after : Mesh) (place now root : ℕ) (node : NodeLog) (given : Given) (fact : Fact) → HasGiven (scenario_setup queries) place now root node given mesh after → WasPut mesh fact → WasPut after fact
put_stays queries mesh after place now root node given fact has w =
    let entry = entry_of (scenario_setup queries) node now given in
    let stays = noted_stays place entry mesh.nodes w.place w.node w.found in
    record {
      place = w.place;
      node = stays.0;
      entry = w.entry;
      found = ap (λ ns. slice_get ns w.place) has.nodes ∙ stays.1;
      noted = stays.2 w.entry w.noted;
      given_is = w.given_is;
      source_is = w.source_is ∙ sym (mac_stays place entry mesh.nodes w.place w.node stays.0 w.found (renewed place entry mesh.nodes w.place stays.0 stays.1));
      type_is = w.type_is;
    }

put_same : (mesh after : Mesh) (fact : Fact) → after.nodes ≡ mesh.nodes → WasPut mesh fact → WasPut after fact
put_same mesh after fact same w = record { place = w.place; node = w.node; entry = w.entry; found = ap (λ ns. slice_get ns w.place) same ∙ w.found; noted = w.noted; given_is = w.given_is; source_is = w.source_is; type_is = w.type_is }

was_put : (queries : Mac → Queries) (mesh after : Mesh) (fact : Fact) → Steps queries mesh after → WasPut mesh fact → WasPut after fact
was_put queries mesh _ fact (node_joins _ new empty whole fresh) w = record {
  place = w.place;
  node = w.node;
  entry = w.entry;
  found = get_front mesh.nodes (new ∷ []) w.place w.node w.found;
  noted = w.noted;
  given_is = w.given_is;
  source_is = w.source_is;
  type_is = w.type_is;
}
was_put queries mesh _ fact (link_joins _ link) w = put_same mesh (record mesh { links = mesh.links ++ link ∷ [] }) fact refl w
was_put queries mesh after fact (line_gives _ _ place now node line found may of is) w =
    put_stays queries mesh after place now 0 node (Line line) fact (given_is (scenario_setup queries) place now 0 node (Line line) mesh after found is) w
was_put queries mesh after fact (node_ticks _ _ place now node found may is) w =
    let index = suc (ticks_in node.log) in
    put_stays queries mesh after place now index node (Tick index) fact (given_is (scenario_setup queries) place now index node (Tick index) mesh after found is) w
was_put queries mesh after fact (frame_comes _ _ place now number throughput from node sent found may among whole is) w =
    let given = LinkFrame (suc number) from throughput sent.bytes in
    put_stays queries mesh after place now sent.root node given fact (given_is (scenario_setup queries) place now sent.root node given mesh after found is) w
was_put queries mesh after fact (lan_joins _ lan) w = put_same mesh after fact refl w
was_put queries mesh after fact (put_comes _ new one none spelled client) w = put_same mesh after fact refl w
was_put queries mesh after fact (put_reaches _ number now new one there carries) w = put_same mesh after fact refl w
was_put queries mesh after fact (lan_comes _ _ place now number node put found may among is) w =
    put_stays queries mesh after place now 0 node (LanFrame put.bytes) fact (given_is (scenario_setup queries) place now 0 node (LanFrame put.bytes) mesh after found is) w
was_put queries mesh after fact (time_passes _ happening) w = put_same mesh after fact refl w
was_put queries mesh after fact (routes_told _ lines watch) w = put_same mesh after fact refl w

-- a cut that was made stays made
cuts_stay : (queries : Mac → Queries) (at : ℕ) (entry : LogEntry) (nodes : List NodeLog) (place : ℕ) (node after : NodeLog) (cut : Cut) → slice_get nodes place ≡ Some node → Renewed at entry nodes place after
    → Has (cuts_of_log (queries node.mac) node.mac node.log) cut → (after.mac ≡ node.mac) × Has (cuts_of_log (queries after.mac) after.mac after.log) cut
cuts_stay queries at entry nodes place node after cut found (another d got) made =
    let same = one_some after node (sym got ∙ found) in
    (ap (λ (n : NodeLog). n.mac) same, subst (λ (n : NodeLog). Has (cuts_of_log (queries n.mac) n.mac n.log) cut) (sym same) made)
cuts_stay queries at entry nodes place node after cut found (itself before here got noted) made =
    let same : after ≡ noting entry node = noted ∙ ap (noting entry) (one_some before node (sym got ∙ found)) in (
      ap (λ (n : NodeLog). n.mac) same,
      subst (λ (n : NodeLog). Has (cuts_of_log (queries n.mac) n.mac n.log) cut) (sym same)
          (has_left (cuts_of_log (queries node.mac) node.mac node.log) (cuts_made (cutter_by (queries node.mac) node.mac node.log) (whole_acts (queries node.mac) node.mac node.log entry.moment entry.given)) cut made),
    )

cut_stays : (queries : Mac → Queries) (mesh after : Mesh) (place now root : ℕ) (node : NodeLog) (given : Given) (orig : Mac) (cut : Cut) → HasGiven (scenario_setup queries) place now root node given mesh after → WasCut queries mesh orig cut → WasCut queries after orig cut
cut_stays queries mesh after place now root node given orig cut has w =
    let entry = entry_of (scenario_setup queries) node now given in
    let stays = noted_stays place entry mesh.nodes w.place w.node w.found in
    let kept = cuts_stay queries place entry mesh.nodes w.place w.node stays.0 cut w.found (renewed place entry mesh.nodes w.place stays.0 stays.1) w.made in
    record { place = w.place; node = stays.0; found = ap (λ ns. slice_get ns w.place) has.nodes ∙ stays.1; address = kept.0 ∙ w.address; made = kept.1 }

cut_same : (queries : Mac → Queries) (mesh after : Mesh) (orig : Mac) (cut : Cut) → after.nodes ≡ mesh.nodes → WasCut queries mesh orig cut → WasCut queries after orig cut
cut_same queries mesh after orig cut same w = record { place = w.place; node = w.node; found = ap (λ ns. slice_get ns w.place) same ∙ w.found; address = w.address; made = w.made }

was_cut : (queries : Mac → Queries) (mesh after : Mesh) (orig : Mac) (cut : Cut) → Steps queries mesh after → WasCut queries mesh orig cut → WasCut queries after orig cut
was_cut queries mesh _ orig cut (node_joins _ new empty whole fresh) w = record { place = w.place; node = w.node; found = get_front mesh.nodes (new ∷ []) w.place w.node w.found; address = w.address; made = w.made }
was_cut queries mesh _ orig cut (link_joins _ link) w = cut_same queries mesh (record mesh { links = mesh.links ++ link ∷ [] }) orig cut refl w
was_cut queries mesh after orig cut (line_gives _ _ place now node line found may of is) w =
    cut_stays queries mesh after place now 0 node (Line line) orig cut (given_is (scenario_setup queries) place now 0 node (Line line) mesh after found is) w
was_cut queries mesh after orig cut (node_ticks _ _ place now node found may is) w =
    let index = suc (ticks_in node.log) in
    cut_stays queries mesh after place now index node (Tick index) orig cut (given_is (scenario_setup queries) place now index node (Tick index) mesh after found is) w
was_cut queries mesh after orig cut (frame_comes _ _ place now number throughput from node sent found may among whole is) w =
    let given = LinkFrame (suc number) from throughput sent.bytes in
    cut_stays queries mesh after place now sent.root node given orig cut (given_is (scenario_setup queries) place now sent.root node given mesh after found is) w
was_cut queries mesh after orig cut (lan_joins _ lan) w = cut_same queries mesh after orig cut refl w
was_cut queries mesh after orig cut (put_comes _ put frame by is tells) w = cut_same queries mesh after orig cut refl w
was_cut queries mesh after orig cut (put_reaches _ number now put frame found carries) w = cut_same queries mesh after orig cut refl w
was_cut queries mesh after orig cut (lan_comes _ _ place now number node put found may among is) w =
    cut_stays queries mesh after place now 0 node (LanFrame put.bytes) orig cut (given_is (scenario_setup queries) place now 0 node (LanFrame put.bytes) mesh after found is) w
was_cut queries mesh after orig cut (time_passes _ happening) w = cut_same queries mesh after orig cut refl w
was_cut queries mesh after orig cut (routes_told _ lines watch) w = cut_same queries mesh after orig cut refl w

-- a part stays one
part_stays : (queries : Mac → Queries) (mesh after : Mesh) (Q R : List ℕ → Type 0) (orig : Mac) (seq total place : ℕ) (tail : List ℕ) → Steps queries mesh after → ((payload : List ℕ) → Q payload → R payload)
    → IsPartOf queries mesh Q orig seq total place tail → IsPartOf queries after R orig seq total place tail
part_stays queries mesh after Q R orig seq total place tail s more p = record {
  of = record { cut = p.of.cut; was_cut = was_cut queries mesh after orig p.of.cut s p.of.was_cut; number_is = p.of.number_is; length_is = p.of.length_is; piece = p.of.piece };
  can = p.can;
  low = p.low;
  own = p.own;
  carries = λ front first reach goes. more front.packet.tail (p.carries front first reach goes);
}

-- a picture that was put stays put
record HasLog (mesh : Mesh) (place : ℕ) (mac : Mac) (entry : LogEntry) (older : Log) : Type 0 where
  node : NodeLog
  newer : Log
  found : slice_get mesh.nodes place ≡ Some node
  log_is : node.log ≡ newer ++ entry ∷ older
  mac_is : node.mac ≡ mac

pictured_at : (queries : Mac → Queries) (mesh after : Mesh) (fact : Fact) → (w : WasPictured queries mesh fact) → HasLog after w.place w.node.mac w.entry w.older → WasPictured queries after fact
pictured_at queries mesh after fact w h = record {
  place = w.place;
  node = h.node;
  newer = h.newer;
  entry = w.entry;
  older = w.older;
  index = w.index;
  found = h.found;
  log_is = h.log_is;
  given_is = w.given_is;
  round = w.round;
  fact_is = w.fact_is ∙ ap (λ (mac : Mac). picture_fact mac (picture_by (queries mac) mac w.older w.entry.moment w.index)) (sym h.mac_is);
}

log_stays : (nodes : List NodeLog) (at : ℕ) (entry : LogEntry) (mesh : Mesh) (place : ℕ) (node stays : NodeLog) (newer : Log) (one : LogEntry) (older : Log)
    → slice_get nodes place ≡ Some node → node.log ≡ newer ++ one ∷ older → slice_get mesh.nodes place ≡ Some stays → Renewed at entry nodes place stays → HasLog mesh place node.mac one older
log_stays nodes at entry mesh place node stays newer one older found log_is got (another d before) =
    let same = one_some stays node (sym before ∙ found) in
    record { node = stays; newer = newer; found = got; log_is = ap (λ (n : NodeLog). n.log) same ∙ log_is; mac_is = ap (λ (n : NodeLog). n.mac) same }
log_stays nodes at entry mesh place node stays newer one older found log_is got (itself before is_at there noted) =
    let same = one_some before node (sym there ∙ found) in
    record {
      node = stays;
      newer = entry ∷ newer;
      found = got;
      log_is = ap (λ (n : NodeLog). n.log) noted ∙ ap (λ (log : Log). entry ∷ log) (ap (λ (n : NodeLog). n.log) same ∙ log_is);
      mac_is = ap (λ (n : NodeLog). n.mac) noted ∙ ap (λ (n : NodeLog). n.mac) same;
    }

picture_stays : (queries : Mac → Queries) (mesh after : Mesh) (place now root : ℕ) (node : NodeLog) (given : Given) (fact : Fact) → HasGiven (scenario_setup queries) place now root node given mesh after → WasPictured queries mesh fact → WasPictured queries after fact
picture_stays queries mesh after place now root node given fact has w =
    let entry = entry_of (scenario_setup queries) node now given in
    let stays = noted_stays place entry mesh.nodes w.place w.node w.found in
    pictured_at queries mesh after fact w (log_stays mesh.nodes place entry after w.place w.node stays.0 w.newer w.entry w.older w.found w.log_is
    (ap (λ ns. slice_get ns w.place) has.nodes ∙ stays.1) (renewed place entry mesh.nodes w.place stays.0 stays.1))

picture_same : (queries : Mac → Queries) (mesh after : Mesh) (fact : Fact) → after.nodes ≡ mesh.nodes → WasPictured queries mesh fact → WasPictured queries after fact
picture_same queries mesh after fact same w = pictured_at queries mesh after fact w
    (record { node = w.node; newer = w.newer; found = ap (λ ns. slice_get ns w.place) same ∙ w.found; log_is = w.log_is; mac_is = refl })

was_pictured : (queries : Mac → Queries) (mesh after : Mesh) (fact : Fact) → Steps queries mesh after → WasPictured queries mesh fact → WasPictured queries after fact
was_pictured queries mesh _ fact (node_joins _ new empty whole fresh) w = pictured_at queries mesh (record mesh { nodes = mesh.nodes ++ new ∷ [] }) fact w
    (record { node = w.node; newer = w.newer; found = get_front mesh.nodes (new ∷ []) w.place w.node w.found; log_is = w.log_is; mac_is = refl })
was_pictured queries mesh _ fact (link_joins _ link) w = picture_same queries mesh (record mesh { links = mesh.links ++ link ∷ [] }) fact refl w
was_pictured queries mesh after fact (line_gives _ _ place now node line found may of is) w =
    picture_stays queries mesh after place now 0 node (Line line) fact (given_is (scenario_setup queries) place now 0 node (Line line) mesh after found is) w
was_pictured queries mesh after fact (node_ticks _ _ place now node found may is) w =
    let index = suc (ticks_in node.log) in
    picture_stays queries mesh after place now index node (Tick index) fact (given_is (scenario_setup queries) place now index node (Tick index) mesh after found is) w
was_pictured queries mesh after fact (frame_comes _ _ place now number throughput from node sent found may among whole is) w =
    let given = LinkFrame (suc number) from throughput sent.bytes in
    picture_stays queries mesh after place now sent.root node given fact (given_is (scenario_setup queries) place now sent.root node given mesh after found is) w
was_pictured queries mesh after fact (lan_joins _ lan) w = picture_same queries mesh after fact refl w
was_pictured queries mesh after fact (put_comes _ new one none spelled client) w = picture_same queries mesh after fact refl w
was_pictured queries mesh after fact (put_reaches _ number now new one there carries) w = picture_same queries mesh after fact refl w
was_pictured queries mesh after fact (lan_comes _ _ place now number node put found may among is) w =
    picture_stays queries mesh after place now 0 node (LanFrame put.bytes) fact (given_is (scenario_setup queries) place now 0 node (LanFrame put.bytes) mesh after found is) w
was_pictured queries mesh after fact (time_passes _ happening) w = picture_same queries mesh after fact refl w
was_pictured queries mesh after fact (routes_told _ lines watch) w = picture_same queries mesh after fact refl w

-- so a fact that was put stays put, whoever put it
put_on : (queries : Mac → Queries) (mesh after : Mesh) (fact : Fact) → Steps queries mesh after → IsPutFact queries mesh fact → IsPutFact queries after fact
put_on queries mesh after fact s (inl w) = inl (was_put queries mesh after fact s w)
put_on queries mesh after fact s (inr w) = inr (was_pictured queries mesh after fact s w)

-- one that holds of more
record IsWithin (P R : Kept) : Type 0 where
  carried : (payload : List ℕ) → P.carried payload → R.carried payload
  given : (frame : ClientFrame) → P.given frame → R.given frame
  facts : AreMore P.facts R.facts
  part : (orig : Mac) (seq total place : ℕ) (tail : List ℕ) → P.part orig seq total place tail → R.part orig seq total place tail

more_has : (P R : Kept) → IsWithin P R → (tail : List ℕ) (head : Head) → HeadHas P tail head → HeadHas R tail head
more_has P R more tail (IvOgm ttl flags seq orig prev tq) h = tt
more_has P R more tail (Bcast ttl seq orig) h = (h.0, more.carried tail h.1)
more_has P R more tail (Elp orig seq interval) h = tt
more_has P R more tail (Ogm2 ttl flags seq orig throughput) h = tt
more_has P R more tail (Unicast ttl ttvn dst) h = (h.0, more.carried tail h.1)
more_has P R more tail (Frag ttl number priority dst orig seq total) h = (h.0, h.1, more.part orig seq total number tail h.2)
more_has P R more tail (Unicast4 ttl ttvn dst src subtype) h = tt
more_has P R more tail (Icmp ttl msg dst orig uid seq) h = tt
more_has P R more tail (Utvlv ttl dst src) h = tt

more_carried : (P R : Kept) → IsWithin P R → (frame : ClientFrame) → IsCarried P frame → IsCarried R frame
more_carried P R more frame (inl given) = inl (more.given frame given)
more_carried P R more frame (inr read) = inr (read.0, more.carried read.0 read.1, read.2)

more_kept : (queries : Mac → Queries) (P R : Kept) (mesh : Mesh) → IsWithin P R → HasKept queries P mesh → HasKept queries R mesh
more_kept queries P R mesh more h = record {
  parts = λ place node got newer log split. each_more (IsPart P) (IsPart R) (λ call. more.part call.orig call.seq call.total call.place call.tail) (knowledge (queries node.mac) node.mac log).parts (h.parts place node got newer log split);
  knows = λ place node got. more_stores IsWhole P.facts R.facts more.facts (kept_of (known_at_node queries node)) (h.knows place node got);
  frames = λ place frame got packet has. more_has P R more packet.tail packet.head (h.frames place frame got packet has);
  puts = λ place put got frame is. more.carried put.bytes (h.puts place put got frame is);
  events = λ event among. record {
    handed_out = λ moment node vid src dst text is. more_carried P R more (record { dst = dst; src = src; vid = vid; text = text }) ((h.events event among).handed_out moment node vid src dst text is);
    bridged = λ moment lan vid src dst text is. let read = (h.events event among).bridged moment lan vid src dst text is in (read.0, more.carried read.0 read.1, read.2);
    told = λ me type_no source version text is. let one = (h.events event among).told me type_no source version text is in (one.0, more.facts.answered (record { source = source; type_no = one.0; version = version; bytes = text }) one.1);
  };
}

-- ---- all steps
pub all_kept : (queries : Mac → Queries) (P : Mesh → List ℕ → Type 0) → (kept : IsKept queries P) → AllKeep queries → (mesh : Mesh) → (r : IsReachable queries mesh) → HasKept queries (kept_in queries P kept mesh (orderly queries mesh r)) mesh
all_kept queries P kept keep _ (begins watch) = record { frames = λ place frame got. cc; puts = λ place put got. cc; events = λ event among. absurd among; knows = λ place node got. cc; parts = λ place node got. cc }
all_kept queries P kept keep _ (goes_on mesh after r s) =
    step_keeps queries P mesh after kept keep (orderly queries mesh r) (orderly queries after (goes_on mesh after r s)) s
    (more_kept queries (kept_in queries P kept mesh (orderly queries mesh r)) (kept_in queries P kept after (orderly queries after (goes_on mesh after r s))) mesh
    (record {
      carried = λ payload p. payload_stays payload p;
      part = λ orig seq total place tail p. part_stays queries mesh after (Payload (put_facts queries mesh) (P mesh)) (Payload (put_facts queries after) (P after)) orig seq total place tail s payload_stays p;
      given = λ frame was. was_given queries mesh after frame s was;
      facts = facts_stay;
    }) (all_kept queries P kept keep mesh r))
  where
    stays : (payload : List ℕ) → UnlessStored (P mesh) payload → UnlessStored (P after) payload
    stays payload (inl has) = inl (kept.stays mesh after payload s has)
    stays payload (inr message) = inr message

    one_stays : (fact : Fact) → IsPut queries mesh fact → IsPut queries after fact
    one_stays fact put = (put_on queries mesh after fact s put.0, put.1)

    facts_stay : AreMore (put_facts queries mesh) (put_facts queries after)
    facts_stay = record {
      pushed = one_stays;
      answered = λ fact has. (one_stays fact has.0, has.1);
      asked = λ type_no low. low;
    }

    payload_stays : (payload : List ℕ) → Payload (put_facts queries mesh) (P mesh) payload → Payload (put_facts queries after) (P after) payload
    payload_stays payload p = record { has = stays payload p.has; facts = λ came is. more_message (put_facts queries mesh) (put_facts queries after) facts_stay came.message (p.facts came is) }

tail_has : (queries : Mac → Queries) (P : Mesh → List ℕ → Type 0) (kept : IsKept queries P) (mesh : Mesh) (o : IsOrderly queries mesh) (tail : List ℕ) (head : Head) → HeadHas (kept_in queries P kept mesh o) tail head → TailHas (P mesh) tail head
tail_has queries P kept mesh o tail (IvOgm ttl flags seq orig prev tq) h = tt
tail_has queries P kept mesh o tail (Bcast ttl seq orig) h = h.1.has
tail_has queries P kept mesh o tail (Elp orig seq interval) h = tt
tail_has queries P kept mesh o tail (Ogm2 ttl flags seq orig throughput) h = tt
tail_has queries P kept mesh o tail (Unicast ttl ttvn dst) h = h.1.has
tail_has queries P kept mesh o tail (Frag ttl number priority dst orig seq total) h = tt
tail_has queries P kept mesh o tail (Unicast4 ttl ttvn dst src subtype) h = tt
tail_has queries P kept mesh o tail (Icmp ttl msg dst orig uid seq) h = tt
tail_has queries P kept mesh o tail (Utvlv ttl dst src) h = tt

read_kept : (F : Holds) (P : List ℕ → Type 0) (frame : ClientFrame) → IsReadOf (Payload F P) frame → IsReadOf P frame
read_kept F P frame (payload, has, read) = (payload, kept_of_frame F P payload frame has read, read)

given_or_read : (F : Holds) (P : List ℕ → Type 0) (given : ClientFrame → Type 0) (frame : ClientFrame) → given frame ⊎ IsReadOf (Payload F P) frame → given frame ⊎ IsReadOf P frame
given_or_read F P given frame (inl one) = inl one
given_or_read F P given frame (inr read) = inr (read_kept F P frame read)

-- what is kept holds of all that is carried
pub carried_on : (queries : Mac → Queries) → AllKeep queries → (P : Mesh → List ℕ → Type 0) → IsKept queries P → (mesh : Mesh) → IsReachable queries mesh → Carries P mesh
carried_on queries keep P kept mesh r =
    let all = all_kept queries P kept keep mesh r in
    record {
      frames = λ place frame got packet has. tail_has queries P kept mesh (orderly queries mesh r) packet.tail packet.head (all.frames place frame got packet has);
      puts = λ place put got frame is. kept_of_frame (put_facts queries mesh) (P mesh) put.bytes frame (all.puts place put got frame is) (lan_read put.bytes frame is);
      handed_out = λ moment node vid src dst text among. given_or_read (put_facts queries mesh) (P mesh) (WasGiven mesh) (record { dst = dst; src = src; vid = vid; text = text }) ((all.events (Received moment node vid src dst text) among).handed_out moment node vid src dst text refl);
      bridged = λ moment lan vid src dst text among. read_kept (put_facts queries mesh) (P mesh) (record { dst = dst; src = src; vid = vid; text = text }) ((all.events (Bridged moment lan vid src dst text) among).bridged moment lan vid src dst text refl);
    }

-- ---- facts
-- whatever is said of payloads
pub any_kept : (queries : Mac → Queries) → IsKept queries (λ mesh payload. Unit {0})
any_kept queries = record { stays = λ mesh after payload s p. tt; begun = λ mesh frame was. tt; read_on = λ mesh payload frame p read. tt }

-- what lines may ask for is no picture
put_by_line : (queries : Mac → Queries) (mesh : Mesh) (fact : Fact) → IsPutFact queries mesh fact → least_fact_type ≤ fact.type_no → WasPut mesh fact
put_by_line queries mesh fact (inl w) low = w
put_by_line queries mesh fact (inr w) low = let is : fact.type_no ≡ picture_type = ap (λ (one : Fact). one.type_no) w.fact_is in absurd (omega (arith, low, is))

-- each fact that was printed was put by a line
pub tells_put_facts : TellsPutFacts
tells_put_facts queries keep mesh r me asked source version text has =
    let one = ((all_kept queries (λ m payload. Unit {0}) (any_kept queries) keep mesh r).events (Alfred me asked (FactTold source version text)) has).told me asked source version text refl in
    (one.0, put_by_line queries mesh (record { source = source; type_no = one.0; version = version; bytes = text }) one.1.0.0 one.1.1)

among_kept : (F : Fact → Type 0) (rows : List KeptFact) (kept : KeptFact) → AllByRecursion (OfKept F) rows → Has rows kept → F kept.fact
among_kept F [] kept all has = absurd has
among_kept F (first ∷ rest) kept all (inl same) = subst (OfKept F) (sym same) all.0
among_kept F (first ∷ rest) kept all (inr has) = among_kept F rest kept all.1 has

-- each fact that a node keeps was put
pub keeps_put_facts : KeepsPutFacts
keeps_put_facts queries keep mesh r place node found now kept has =
    let calls = (known_at_node queries node).services.facts in
    let stores = (all_kept queries (λ m payload. Unit {0}) (any_kept queries) keep mesh r).knows place node found in
    (among_kept (IsPut queries mesh) (facts_at calls now) kept (facts_have (IsPut queries mesh) calls now stores.facts) has).0

-- each of facts was put, of those that a message brings too
message_put : (queries : Mac → Queries) (mesh : Mesh) (message : FactMessage) → MessageHas (put_facts queries mesh) message → BringsFacts (IsPutFact queries mesh) message
message_put queries mesh (HasPart true id number facts) has = each_more (put_facts queries mesh).pushed (IsPutFact queries mesh) (λ fact put. put.0) facts has
message_put queries mesh (HasPart false id number facts) has = each_more (put_facts queries mesh).answered (IsPutFact queries mesh) (λ fact put. put.0.0) facts has
message_put queries mesh Primary has = tt
message_put queries mesh (Requests id type_no) has = tt
message_put queries mesh (HasEnd push id count) has = tt

-- each fact that was sent was put
head_brings : (queries : Mac → Queries) (P : Mesh → List ℕ → Type 0) (kept : IsKept queries P) (mesh : Mesh) (o : IsOrderly queries mesh) (tail : List ℕ) (head : Head) → HeadHas (kept_in queries P kept mesh o) tail head
    → PayloadBrings (IsPutFact queries mesh) tail head
head_brings queries P kept mesh o tail (IvOgm ttl flags seq orig prev tq) h = tt
head_brings queries P kept mesh o tail (Bcast ttl seq orig) h = λ came is. message_put queries mesh came.message (h.1.facts came is)
head_brings queries P kept mesh o tail (Elp orig seq interval) h = tt
head_brings queries P kept mesh o tail (Ogm2 ttl flags seq orig throughput) h = tt
head_brings queries P kept mesh o tail (Unicast ttl ttvn dst) h = λ came is. message_put queries mesh came.message (h.1.facts came is)
head_brings queries P kept mesh o tail (Frag ttl number priority dst orig seq total) h = tt
head_brings queries P kept mesh o tail (Unicast4 ttl ttvn dst src subtype) h = tt
head_brings queries P kept mesh o tail (Icmp ttl msg dst orig uid seq) h = tt
head_brings queries P kept mesh o tail (Utvlv ttl dst src) h = tt

call_brings : (F G : Fact → Type 0) → ((fact : Fact) → F fact → G fact) → (calls : List TxnCall) (call : TxnCall) → AllByRecursion (CallBrings F) calls → Has calls call → CallBringsFacts G call
call_brings F G more [] call all has = absurd has
call_brings F G more (first ∷ rest) call all (inl same) = λ number facts is.
    each_more F G more facts (subst (Brings F) (ap (λ (c : TxnCall). c.brought) (sym same) ∙ is) all.0)
call_brings F G more (first ∷ rest) call all (inr has) = call_brings F G more rest call all.1 has

pub sends_put_facts : SendsPutFacts
sends_put_facts queries keep mesh r =
    let all = all_kept queries (λ m payload. Unit {0}) (any_kept queries) keep mesh r in
    record {
      sent = λ place frame got packet has. head_brings queries (λ m payload. Unit {0}) (any_kept queries) mesh (orderly queries mesh r) packet.tail packet.head (all.frames place frame got packet has);
      pushed = λ place node found call has. call_brings (put_facts queries mesh).pushed (IsPutFact queries mesh) (λ fact put. put.0) (known_at_node queries node).services.pushes call (all.knows place node found).pushes has;
      answered = λ place node found call has. call_brings (put_facts queries mesh).answered (IsPutFact queries mesh) (λ fact put. put.0.0) (known_at_node queries node).services.answers call (all.knows place node found).answers has;
    }

-- no line puts a picture
pub pictures_are_true : PicturesAreTrue
pictures_are_true queries mesh fact (inl w) is = absurd (omega (arith, w.type_is, is))
pictures_are_true queries mesh fact (inr w) is = w
