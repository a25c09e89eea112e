-- The texts that a run prints are those of its lines, and have no newline.
use Rattle.std.proofs.Common.{◌≡◌, ◌==◌, ℕ, Bool, true, false, cond, inl, inr, List, Some, slice_get, subst, sym}
use Rattle.hex.specs.Hex.{encode_lower}
use Rattle.mesh_base.specs.declared.address.Mac.{Mac}
use Rattle.mesh_base.specs.declared.event.Event.{Event}
use Rattle.mesh_base.specs.declared.event.Event.TheVariants.{FrameSent, Received, LanSent, Bridged, Lost, Alias, Pinged, Traced, Arp, Alfred, Route}
use Rattle.mesh_base.specs.declared.event.FactResult.{FactResult}
use Rattle.mesh_base.specs.declared.event.FactResult.TheVariants.{Off, NoPrimary, Empty, Fact as FactTold}
use Rattle.mesh_model.specs.declared.line_form.Algorithm.{Algorithm}
use Rattle.mesh_model.specs.declared.service.Fact.{Fact}
use Rattle.mesh_model.specs.Acts.Choosing.{call_frame}
use Rattle.mesh_model.specs.Clients.Log.{LineGiven, Attach, Frame, Gone, Join, Leave, Arp as ArpGiven, Dhcp, Sets, Put, Get, Ping, Trace, Reboot}
use Rattle.mesh_model.specs.Knowledge.Pictured.{picture_by}
use Rattle.mesh_model.specs.Net.Mesh.{Mesh, NodeLog}
use Rattle.mesh_model.specs.Net.Next.{Has}
use Rattle.mesh_model.specs.Packets.Payload.{ClientFrame}
use Rattle.mesh_model.specs.Packets.Pictures.{picture_spelling}
use Rattle.mesh_model.specs.Routes.Algorithms.{queries_of}
use Rattle.mesh_model.specs.Routes.Queries.{Queries}
use Rattle.mesh_model.specs.Run.Shown.{fact_table}
use Rattle.mesh_model.specs.Services.Pictures.{picture_type}
use Rattle.mesh_model.specs.Text.Services.{fact_text}
use Rattle.mesh_laws.specs.Cuts.{IsUnbroken}
use Rattle.mesh_tie.specs.Carried.{HandsOutGiven, IsPutFact, WasGiven, WasPut, frame_of_line, on_lan, to_node}
use Rattle.mesh_tie.specs.Steps.{IsReachable}
use Rattle.mesh_tie.proofs.CarriedClients.{hands_out_given_frames}
use Rattle.mesh_tie.proofs.CarriedOn.{keeps_put_facts, tells_put_facts}
use Rattle.mesh_tie.proofs.VLemmas.{algorithms_keep}
use Rattle.mesh_lines.specs.ItemLines.{ArePlainFacts}
use Rattle.mesh_lines.specs.LineWords.{HasPlainFact, HasPlainText}
use Rattle.mesh_lines.proofs.LogFits.{GivenPlain, LinePlain, MeshFits, noted_fits}
use Rattle.mesh_lines.proofs.LineParts.{unbroken_word}
use Rattle.mesh_lines.proofs.Words.{hex_word}

-- the text of the client frame of a line has no newline
line_plain : (line : LineGiven) (frame : ClientFrame) → LinePlain line → frame_of_line line ≡ Some frame → IsUnbroken frame.text
line_plain (Attach lan gateways) frame plain is = cc
line_plain (Frame src dst vid text) frame plain is = let same : record { dst = dst; src = src; vid = vid; text = text } ≡ frame = cc in subst (λ (f : ClientFrame). IsUnbroken f.text) same plain
line_plain (Gone key) frame plain is = cc
line_plain (Join key) frame plain is = cc
line_plain (Leave key) frame plain is = cc
line_plain (ArpGiven mac own_ip asked_ip vid) frame plain is = cc
line_plain (Dhcp key text) frame plain is = let same : call_frame key text ≡ frame = cc in subst (λ (f : ClientFrame). IsUnbroken f.text) same plain
line_plain (Sets setting) frame plain is = cc
line_plain (Put type_no version text) frame plain is = cc
line_plain (Get type_no) frame plain is = cc
line_plain (Ping target) frame plain is = cc
line_plain (Trace target) frame plain is = cc
line_plain Reboot frame plain is = cc

-- the text of a client frame that a line gave has no newline
given_plain : (mesh : Mesh) (frame : ClientFrame) → MeshFits mesh → WasGiven mesh frame → IsUnbroken frame.text
given_plain mesh frame fits (to_node place node entry line found noted is gives tells) = line_plain line frame (subst GivenPlain is (noted_fits mesh.nodes place node entry fits.logs found noted).plain) gives
given_plain mesh frame fits (on_lan place put found by is tells) = fits.puts place put found by frame is tells.1 tells.0.fits.address

-- so are those that are handed out
handed_out : (algorithm : Algorithm) (mesh : Mesh) → IsReachable (queries_of algorithm) mesh → HandsOutGiven mesh
handed_out algorithm mesh r = hands_out_given_frames (queries_of algorithm) (algorithms_keep algorithm) mesh r

-- ---- facts
-- the text of a fact that a line put has no newline
put_plain : (mesh : Mesh) (fact : Fact) → MeshFits mesh → WasPut mesh fact → IsUnbroken fact.bytes
put_plain mesh fact fits w = subst GivenPlain w.given_is (noted_fits mesh.nodes w.place w.node w.entry fits.logs w.found w.noted).plain

-- so it is of each that is told
told_plain : (algorithm : Algorithm) (mesh : Mesh) → IsReachable (queries_of algorithm) mesh → MeshFits mesh → (node : Mac) (type_no : ℕ) (result : FactResult) → Has mesh.events (Alfred node type_no result) → HasPlainFact result
told_plain algorithm mesh r fits node type_no Off has = tt
told_plain algorithm mesh r fits node type_no NoPrimary has = tt
told_plain algorithm mesh r fits node type_no Empty has = tt
told_plain algorithm mesh r fits node type_no (FactTold source version text) has =
    let one = tells_put_facts (queries_of algorithm) (algorithms_keep algorithm) mesh r node type_no source version text has in
    put_plain mesh (record { source = source; type_no = one.0; version = version; bytes = text }) fits one.1

either_unbroken : (b : Bool) (x y : List ℕ) → IsUnbroken x → IsUnbroken y → IsUnbroken (cond b x y)
either_unbroken true x y p q = p
either_unbroken false x y p q = q

-- the bytes of a fact that was put, as they are printed, have no newline
fact_plain : (queries : Mac → Queries) (mesh : Mesh) (fact : Fact) → MeshFits mesh → IsPutFact queries mesh fact → IsUnbroken (fact_text fact)
fact_plain queries mesh fact fits (inl w) =
    either_unbroken (fact.type_no == picture_type) (encode_lower fact.bytes) fact.bytes (unbroken_word (encode_lower fact.bytes) (hex_word fact.bytes)) (put_plain mesh fact fits w)
fact_plain queries mesh fact fits (inr w) =
    let picture = picture_by (queries w.node.mac) w.node.mac w.older w.entry.moment w.index in
    subst (λ (f : Fact). IsUnbroken (fact_text f)) (sym w.fact_is) (unbroken_word (encode_lower (picture_spelling picture)) (hex_word (picture_spelling picture)))

-- and of each that a node keeps
pub kept_plain : (algorithm : Algorithm) (mesh : Mesh) → IsReachable (queries_of algorithm) mesh → MeshFits mesh → (now place : ℕ) (node : NodeLog) → slice_get mesh.nodes place ≡ Some node → ArePlainFacts (fact_table algorithm now node).rows
kept_plain algorithm mesh r fits now place node found kept has =
    fact_plain (queries_of algorithm) mesh kept.fact fits (keeps_put_facts (queries_of algorithm) (algorithms_keep algorithm) mesh r place node found now kept has)

-- ---- events
pub event_plain : (algorithm : Algorithm) (mesh : Mesh) → IsReachable (queries_of algorithm) mesh → MeshFits mesh → (event : Event) → Has mesh.events event → HasPlainText event
event_plain algorithm mesh r fits (FrameSent number moment from to reason bytes) has = tt
event_plain algorithm mesh r fits (Received moment node vid src dst text) has = given_plain mesh (record { dst = dst; src = src; vid = vid; text = text }) fits ((handed_out algorithm mesh r).handed_out moment node vid src dst text has)
event_plain algorithm mesh r fits (LanSent number moment lan bytes) has = tt
event_plain algorithm mesh r fits (Bridged moment lan vid src dst text) has = given_plain mesh (record { dst = dst; src = src; vid = vid; text = text }) fits ((handed_out algorithm mesh r).bridged moment lan vid src dst text has)
event_plain algorithm mesh r fits (Lost moment node vid src dst reason) has = tt
event_plain algorithm mesh r fits (Alias node commit earlier) has = tt
event_plain algorithm mesh r fits (Pinged node target seq result) has = tt
event_plain algorithm mesh r fits (Traced node target result) has = tt
event_plain algorithm mesh r fits (Arp node ip result) has = tt
event_plain algorithm mesh r fits (Alfred node type_no result) has = told_plain algorithm mesh r fits node type_no result has
event_plain algorithm mesh r fits (Route at node orig next) has = tt
