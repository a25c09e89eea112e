-- The lines of events: each ends at its only newline where names and texts have none, and tells its
-- kind.
use Rattle.std.proofs.Common.{◌≡◌, ◌-◌, ◌/◌, ◌%◌, ℕ, zero, suc, Bool, true, false, cond, List, [], ◌∷◌, ◌++◌, Option, Some, None, refl, inl, inr}
use Rattle.std.specs.Prelude.{codes, decimal, find, option_map, bytes_eq, slice_get, slice_index_or, ◌==◌, ◌&&◌}
use Rattle.std.specs.Option.{option_map_or, unwrap_or}
use Rattle.hex.specs.Hex.{encode_lower}
use Rattle.mesh_base.specs.Address.{mac_text}
use Rattle.mesh_base.specs.Names.{NamesGiven}
use Rattle.mesh_base.specs.declared.address.Mac.{Mac}
use Rattle.mesh_base.specs.declared.client.Vid.{Vid}
use Rattle.mesh_base.specs.declared.event.ArpResult.{ArpResult}
use Rattle.mesh_base.specs.declared.event.ArpResult.TheVariants as arps
use Rattle.mesh_base.specs.declared.event.Event.{Event}
use Rattle.mesh_base.specs.declared.event.Event.TheVariants.{FrameSent, Received, LanSent, Bridged, Lost, Alias, Pinged, Traced, Arp, Alfred as AlfredAsked, Route}
use Rattle.mesh_base.specs.declared.event.FactResult.{FactResult}
use Rattle.mesh_base.specs.declared.event.FactResult.TheVariants as facts
use Rattle.mesh_base.specs.declared.event.LossReason.{LossReason}
use Rattle.mesh_base.specs.declared.event.LossReason.TheVariants.{Unknown, Ttl, NoRoute}
use Rattle.mesh_base.specs.declared.event.PingResult.{PingResult}
use Rattle.mesh_base.specs.declared.event.PingResult.TheVariants as pings
use Rattle.mesh_base.specs.declared.event.Reason.{Reason}
use Rattle.mesh_base.specs.declared.event.Reason.TheVariants.{Roam, Table, Old, Gw, Mc, Alfred, Fwd}
use Rattle.mesh_base.specs.declared.event.TraceResult.{TraceResult}
use Rattle.mesh_base.specs.declared.event.TraceResult.TheVariants as traces
use Rattle.mesh_base.specs.declared.names.NodeName.{NodeName}
use Rattle.mesh_model.specs.declared.route_line.RouteLine.{RouteLine}
use Rattle.mesh_model.specs.Net.Next.{Has}
use Rattle.mesh_model.specs.Packets.LanFrames.{claim_type, is_of_gateway, unclaim_type}
use Rattle.mesh_model.specs.Packets.Shapes.{Shape, shapes}
use Rattle.mesh_model.specs.Text.Events.{arp_text, by_text, client_frame_line, event_line, fact_text, gateway_word, hop_text, ip_text, kind_word, lan_kind_word, lan_text, loss_word, name_text, ping_text, reason_word, session_text, trace_text, type_byte}
use Rattle.mesh_model.specs.Text.PacketLines.{named_address, named_number}
use Rattle.mesh_model.specs.Text.Routes.{next_text, route_text}
use Rattle.mesh_model.specs.Text.Tables.{vid_text}
use Rattle.mesh_laws.specs.Cuts.{IsUnbroken}
use Rattle.mesh_lines.specs.LineWords.{AreNamed, HasPlainFact, HasPlainText, IsWord, event_kind, kind_of, of_alias, of_frame, of_other}
use Rattle.mesh_lines.proofs.LineParts.{Told, mac, number, said, told, unbroken_both, unbroken_word, vid_word}
use Rattle.mesh_lines.proofs.Words.{decimal_word, either_word, hex_word, mac_word, is_word, word_if}

-- the words of kinds
abbrev is_word_each : List Shape → Bool
is_word_each [] = true
is_word_each (shape ∷ rest) = is_word shape.word && is_word_each rest

both_true : (a b : Bool) → (a && b) ≡ true → (a ≡ true) × (b ≡ true)
both_true true true e = (refl, refl)
both_true true false e = (refl, e)
both_true false true e = (e, refl)
both_true false false e = (e, e)

-- ---- names
name_one : (b : Bool) (node : NodeName) (o : Option NodeName) (fallback : List ℕ) → IsWord node.name → IsWord (unwrap_or (option_map (λ (node : NodeName). node.name) o) fallback)
    → IsWord (unwrap_or (option_map (λ (node : NodeName). node.name) (cond b (Some node) o)) fallback)
name_one true node o fallback w more = w
name_one false node o fallback w more = more

found_word : (test : NodeName → Bool) (names : List NodeName) → ((node : NodeName) → Has names node → IsWord node.name) → (fallback : List ℕ) → IsWord fallback → IsWord (unwrap_or (option_map (λ (node : NodeName). node.name) (find test names)) fallback)
found_word test [] all fallback w = w
found_word test (node ∷ rest) all fallback w = name_one (test node) node (find test rest) fallback (all node (inl refl)) (found_word test rest (λ n has. all n (inr has)) fallback w)

pub name_word : (names : NamesGiven) → AreNamed names → (m : Mac) → IsWord (name_text names m)
name_word names all m = found_word (λ node. bytes_eq node.mac.0 m.0) names.nodes all.nodes (mac_text m) (mac_word m)

lan_at : (lans : List (List ℕ)) (place : ℕ) → ((lan : List ℕ) → Has lans lan → IsWord lan) → IsWord (unwrap_or (slice_get lans place) [])
lan_at [] place all = tt
lan_at (lan ∷ rest) zero all = all lan (inl refl)
lan_at (lan ∷ rest) (suc place) all = lan_at rest place (λ one has. all one (inr has))

numbered_word : (b : Bool) (o : Option (List ℕ)) → IsWord (unwrap_or o []) → IsWord (unwrap_or (cond b None o) [])
numbered_word true o w = tt
numbered_word false o w = w

lan_word : (names : NamesGiven) → AreNamed names → (number : ℕ) → IsWord (lan_text names number)
lan_word names all number = numbered_word (number == 0) (slice_get names.lans (number - 1)) (lan_at names.lans (number - 1) all.lans)

name : (names : NamesGiven) → AreNamed names → (m : Mac) → IsUnbroken (name_text names m)
name names all m = unbroken_word (name_text names m) (name_word names all m)

lan_name : (names : NamesGiven) → AreNamed names → (number : ℕ) → IsUnbroken (lan_text names number)
lan_name names all number = unbroken_word (lan_text names number) (lan_word names all number)

-- ---- words
kind_among : (known : List Shape) (kind : ℕ) → is_word_each known ≡ true → IsWord (option_map_or (λ (shape : Shape). shape.word) (find (λ shape. shape.kind == kind) known) (codes "-"))
kind_among [] kind e = word_if (codes "-") refl
kind_among (shape ∷ rest) kind e = one (shape.kind == kind) shape (find (λ s. s.kind == kind) rest) (word_if shape.word (both_true (is_word shape.word) (is_word_each rest) e).0) (kind_among rest kind (both_true (is_word shape.word) (is_word_each rest) e).1)
  where
    one : (b : Bool) (shape : Shape) (o : Option Shape) → IsWord shape.word → IsWord (option_map_or (λ (shape : Shape). shape.word) o (codes "-")) → IsWord (option_map_or (λ (shape : Shape). shape.word) (cond b (Some shape) o) (codes "-"))
    one true shape o w more = w
    one false shape o w more = more

pub kind_is_word : (bytes : List ℕ) → IsWord (kind_word bytes)
kind_is_word bytes = kind_among shapes (type_byte bytes) refl

gateway_is_word : (kind : ℕ) → IsWord (gateway_word kind)
gateway_is_word kind = either_word (kind == claim_type) (codes "claim") (cond (kind == unclaim_type) (codes "unclaim") (codes "announce")) (word_if (codes "claim") refl)
    (either_word (kind == unclaim_type) (codes "unclaim") (codes "announce") (word_if (codes "unclaim") refl) (word_if (codes "announce") refl))

lan_kind_is_word : (bytes : List ℕ) → IsWord (lan_kind_word bytes)
lan_kind_is_word bytes = either_word (is_of_gateway bytes) (gateway_word (slice_index_or bytes 3 255)) (codes "client") (gateway_is_word (slice_index_or bytes 3 255)) (word_if (codes "client") refl)

pub reason_is_word : (r : Reason) → IsWord (reason_word r)
reason_is_word Roam = word_if (codes "roam") refl
reason_is_word Table = word_if (codes "table") refl
reason_is_word Old = word_if (codes "old") refl
reason_is_word Gw = word_if (codes "gw") refl
reason_is_word Mc = word_if (codes "mc") refl
reason_is_word Alfred = word_if (codes "alfred") refl
reason_is_word Fwd = word_if (codes "fwd") refl

by : (o : Option Reason) → IsUnbroken (by_text o)
by None = tt
by (Some r) = unbroken_both (codes " by=") (reason_word r) (said (codes " by=") refl) (unbroken_word (reason_word r) (reason_is_word r))

loss : (r : LossReason) → IsUnbroken (loss_word r)
loss Unknown = said (codes "unknown") refl
loss Ttl = said (codes "ttl") refl
loss NoRoute = said (codes "noroute") refl

session : (word : List ℕ) (names : NamesGiven) → AreNamed names → (a b : Mac) → IsUnbroken word → IsUnbroken (session_text word names a b)
session word names all a b w =
    unbroken_both ((word ++ codes " ") ++ name_text names a ++ codes " ") (name_text names b)
    (unbroken_both ((word ++ codes " ") ++ name_text names a) (codes " ") (unbroken_both (word ++ codes " ") (name_text names a) (unbroken_both word (codes " ") w (said (codes " ") refl)) (name names all a)) (said (codes " ") refl))
    (name names all b)

ping : (names : NamesGiven) → AreNamed names → (r : PingResult) → IsUnbroken (ping_text names r)
ping names all pings.NoRoute = said (codes " noroute") refl
ping names all (pings.Reply ttl rtt) =
    unbroken_both (codes " reply" ++ named_number (codes " ttl=") ttl) (named_number (codes " rtt=") rtt)
    (unbroken_both (codes " reply") (named_number (codes " ttl=") ttl) (said (codes " reply") refl) (number (codes " ttl=") ttl refl)) (number (codes " rtt=") rtt refl)
ping names all (pings.Unreachable from) = unbroken_both (codes " unreachable from=") (name_text names from) (said (codes " unreachable from=") refl) (name names all from)
ping names all (pings.Exceeded from) = unbroken_both (codes " exceeded from=") (name_text names from) (said (codes " exceeded from=") refl) (name names all from)

hop_plain : (names : NamesGiven) → AreNamed names → (hop : ℕ) (from : Mac) → IsUnbroken (hop_text names hop from)
hop_plain names all hop from = unbroken_both (named_number (codes " hop=") hop ++ codes " ") (name_text names from)
    (unbroken_both (named_number (codes " hop=") hop) (codes " ") (number (codes " hop=") hop refl) (said (codes " ") refl)) (name names all from)

trace : (names : NamesGiven) → AreNamed names → (r : TraceResult) → IsUnbroken (trace_text names r)
trace names all traces.NoRoute = said (codes " noroute") refl
trace names all (traces.Passed hop from rtt) = unbroken_both (hop_text names hop from) (named_number (codes " rtt=") rtt) (hop_plain names all hop from) (number (codes " rtt=") rtt refl)
trace names all (traces.Ended hop from rtt) = unbroken_both (hop_text names hop from ++ named_number (codes " rtt=") rtt) (codes " end")
    (unbroken_both (hop_text names hop from) (named_number (codes " rtt=") rtt) (hop_plain names all hop from) (number (codes " rtt=") rtt refl)) (said (codes " end") refl)
trace names all (traces.Unreachable hop from) = unbroken_both (hop_text names hop from) (codes " unreachable") (hop_plain names all hop from) (said (codes " unreachable") refl)

pub ip : (n : ℕ) → IsUnbroken (ip_text n)
unfolding ip_text
ip n =
    let first = decimal (n / 16777216) in
    let second = named_number (codes ".") (n / 65536 % 256) in
    let third = named_number (codes ".") (n / 256 % 256) in
    unbroken_both ((first ++ second) ++ third) (named_number (codes ".") (n % 256))
    (unbroken_both (first ++ second) third (unbroken_both first second (unbroken_word first (decimal_word (n / 16777216))) (number (codes ".") (n / 65536 % 256) refl)) (number (codes ".") (n / 256 % 256) refl))
    (number (codes ".") (n % 256) refl)

arp : (r : ArpResult) → IsUnbroken (arp_text r)
arp arps.Off = said (codes " off") refl
arp arps.Unknown = said (codes " none") refl
arp (arps.Cached m) = unbroken_both (named_address (codes " is ") m) (codes " cache") (mac (codes " is ") m refl) (said (codes " cache") refl)
arp (arps.Found m) = unbroken_both (named_address (codes " is ") m) (codes " dht") (mac (codes " is ") m refl) (said (codes " dht") refl)

fact : (r : FactResult) → HasPlainFact r → IsUnbroken (fact_text r)
fact facts.Off plain = said (codes " off") refl
fact facts.NoPrimary plain = said (codes " noprimary") refl
fact facts.Empty plain = said (codes " empty") refl
fact (facts.Fact source version text) plain =
    unbroken_both ((named_address (codes " ") source ++ named_number (codes " ") version) ++ codes " ") text
    (unbroken_both (named_address (codes " ") source ++ named_number (codes " ") version) (codes " ") (unbroken_both (named_address (codes " ") source) (named_number (codes " ") version) (mac (codes " ") source refl) (number (codes " ") version refl)) (said (codes " ") refl))
    plain

-- ---- events
client_told : (word : List ℕ) (moment : ℕ) (of : List ℕ) (v : Vid) (src dst : Mac) (last : List ℕ) → IsUnbroken word → IsUnbroken of → IsUnbroken last → kind_of (client_frame_line word moment of v src dst last) ≡ of_other
    → Told of_other (client_frame_line word moment of v src dst last)
unfolding client_frame_line
client_told word moment of v src dst last w o l is = told of_other
    (word ∷ named_number (codes " ") moment ∷ codes " " ∷ of ∷ codes " " ∷ vid_text v ∷ named_address (codes " ") src ∷ named_address (codes " ") dst ∷ codes " " ∷ last ∷ [])
    (w, (number (codes " ") moment refl, (said (codes " ") refl, (o, (said (codes " ") refl, (unbroken_word (vid_text v) (vid_word v), (mac (codes " ") src refl, (mac (codes " ") dst refl, (said (codes " ") refl, (l, tt)))))))))) is

recv_kind : (moment : ℕ) (of : List ℕ) (v : Vid) (src dst : Mac) (last : List ℕ) → kind_of (client_frame_line (codes "recv") moment of v src dst last) ≡ of_other
unfolding client_frame_line
recv_kind moment of v src dst last = refl

lost_kind : (moment : ℕ) (of : List ℕ) (v : Vid) (src dst : Mac) (last : List ℕ) → kind_of (client_frame_line (codes "lost") moment of v src dst last) ≡ of_other
unfolding client_frame_line
lost_kind moment of v src dst last = refl

-- ---- routes
next_plain : (next : Option Mac) → IsUnbroken (next_text next)
next_plain None = said (codes " -") refl
next_plain (Some node) = mac (codes " ") node refl

pub route_told : (line : RouteLine) → Told of_other (route_text line)
unfolding route_text
route_told line = told of_other (named_number (codes "route ") line.moment ∷ named_address (codes " ") line.node ∷ named_address (codes " ") line.orig ∷ next_text line.next ∷ [])
    (number (codes "route ") line.moment refl, (mac (codes " ") line.node refl, (mac (codes " ") line.orig refl, (next_plain line.next, tt)))) refl

pub event_told : (names : NamesGiven) → AreNamed names → (event : Event) → HasPlainText event → Told (event_kind event) (event_line names event)
unfolding event_line
event_told names all (FrameSent n moment from to reason bytes) plain = told of_frame
    (named_number (codes "f") n ∷ named_number (codes " ") moment ∷ codes " " ∷ name_text names from ∷ codes ">" ∷ name_text names to ∷ codes " " ∷ kind_word bytes ∷ by_text reason ∷ codes " " ∷ encode_lower bytes ∷ [])
    (number (codes "f") n refl, (number (codes " ") moment refl, (said (codes " ") refl, (name names all from, (said (codes ">") refl, (name names all to, (said (codes " ") refl, (unbroken_word (kind_word bytes) (kind_is_word bytes), (by reason, (said (codes " ") refl, (unbroken_word (encode_lower bytes) (hex_word bytes), tt))))))))))) refl
event_told names all (Received moment node v src dst text) plain = client_told (codes "recv") moment (name_text names node) v src dst text (said (codes "recv") refl) (name names all node) plain (recv_kind moment (name_text names node) v src dst text)
event_told names all (LanSent n moment lan bytes) plain = told of_other
    (named_number (codes "l") n ∷ named_number (codes " ") moment ∷ codes " " ∷ lan_text names lan ∷ codes " " ∷ lan_kind_word bytes ∷ codes " " ∷ encode_lower bytes ∷ [])
    (number (codes "l") n refl, (number (codes " ") moment refl, (said (codes " ") refl, (lan_name names all lan, (said (codes " ") refl, (unbroken_word (lan_kind_word bytes) (lan_kind_is_word bytes), (said (codes " ") refl, (unbroken_word (encode_lower bytes) (hex_word bytes), tt)))))))) refl
event_told names all (Bridged moment lan v src dst text) plain = client_told (codes "recv") moment (lan_text names lan) v src dst text (said (codes "recv") refl) (lan_name names all lan) plain (recv_kind moment (lan_text names lan) v src dst text)
event_told names all (Lost moment node v src dst reason) plain = client_told (codes "lost") moment (name_text names node) v src dst (loss_word reason) (said (codes "lost") refl) (name names all node) (loss reason) (lost_kind moment (name_text names node) v src dst (loss_word reason))
event_told names all (Alias node commit earlier) plain = told of_alias (codes "alias " ∷ name_text names node ∷ named_number (codes " ") commit ∷ named_number (codes " ") earlier ∷ [])
    (said (codes "alias ") refl, (name names all node, (number (codes " ") commit refl, (number (codes " ") earlier refl, tt)))) refl
event_told names all (Pinged node target seq result) plain = told of_other (session_text (codes "ping") names node target ∷ named_number (codes " seq=") seq ∷ ping_text names result ∷ [])
    (session (codes "ping") names all node target (said (codes "ping") refl), (number (codes " seq=") seq refl, (ping names all result, tt))) refl
event_told names all (Traced node target result) plain = told of_other (session_text (codes "trace") names node target ∷ trace_text names result ∷ [])
    (session (codes "trace") names all node target (said (codes "trace") refl), (trace names all result, tt)) refl
event_told names all (Arp node address result) plain = told of_other (codes "arp " ∷ name_text names node ∷ codes " " ∷ ip_text address ∷ arp_text result ∷ [])
    (said (codes "arp ") refl, (name names all node, (said (codes " ") refl, (ip address, (arp result, tt))))) refl
event_told names all (AlfredAsked node type_no result) plain = told of_other (codes "alfred " ∷ name_text names node ∷ named_number (codes " get ") type_no ∷ fact_text result ∷ [])
    (said (codes "alfred ") refl, (name names all node, (number (codes " get ") type_no refl, (fact result plain, tt)))) refl
event_told names all (Route at node orig next) plain = route_told (record { moment = at; node = node; orig = orig; next = next })
