-- What spelled packets carry: a broadcast and a packet for one node their tail, a fragment a piece of a
-- packet that was cut, all others nothing.
use Rattle.std.proofs.Common.{◌≡◌, ◌≤◌, ◌<◌, ◌/◌, ◌%◌, ◌⊎◌, inl, inr, ℕ, List, [], ◌∷◌, Option, Some, None, refl, sym, subst, arith}
use Rattle.std.specs.List.{AllByRecursion}
use Rattle.mesh_base.specs.declared.address.Mac.{Mac}
use Rattle.mesh_base.specs.declared.client.Vid.{Vid}
use Rattle.mesh_base.specs.declared.event.Event.{Event}
use Rattle.mesh_base.specs.declared.event.Event.TheVariants.{Alfred, Bridged, Received}
use Rattle.mesh_base.specs.declared.event.FactResult.TheVariants.{Fact as FactTold}
use Rattle.mesh_base.specs.declared.event.Reason.{Reason}
use Rattle.mesh_model.specs.declared.act.Act.{Act}
use Rattle.mesh_model.specs.declared.act.Act.TheVariants.{Link, Lan, Print}
use Rattle.mesh_model.specs.declared.packet.Head.{Head}
use Rattle.mesh_model.specs.declared.packet.Head.TheVariants.{IvOgm, Bcast, Elp, Ogm2, Unicast, Frag, Unicast4, Icmp, Utvlv}
use Rattle.mesh_model.specs.Acts.BridgeRows.{Place, handed_out}
use Rattle.mesh_model.specs.Acts.Packing.{sent_to, sent_to_all}
use Rattle.mesh_model.specs.Fragments.Assembly.{PartCall}
use Rattle.mesh_model.specs.Knowledge.PutTogether.{Carried, put_together}
use Rattle.mesh_model.specs.Net.Next.{Has}
use Rattle.mesh_model.specs.Packets.FactMessages.{CameFact, FactMessage, fact_message_of, fact_message_spelling}
use Rattle.mesh_model.specs.Packets.FirstPacket.{Packet}
use Rattle.mesh_model.specs.Packets.Layout.{spelling}
use Rattle.mesh_model.specs.Packets.LinkFrame.{link_frame}
use Rattle.mesh_model.specs.Packets.Payload.{ClientFrame, client_frame_of, payload_spelling}
use Rattle.mesh_model.specs.Packets.Shapes.{Shape, elp, icmp, iv_ogm, ogm2, unicast4, utvlv}
use Rattle.mesh_tie.specs.Carried.{IsReadOf, PutCarries}
use Rattle.mesh_tie.specs.Sources.{IsWhole}
use Rattle.mesh_tie.proofs.FactLemmas.{Holds, MessageHas, fitting_facts}
use Rattle.mesh_tie.proofs.HeadLemmas.{bcast_read, four_read, frag_read, fragment_read, one_read, unicast_read}
use Rattle.mesh_tie.proofs.KindLemmas.{EachPacket, IsKind, kind_each}

-- a fragment's originator is whole, and its numbers fit their bytes
pub record FitsPart (orig : Mac) (seq total place : ℕ) : Type 0 where
  pub whole : IsWhole orig
  pub few : place ≤ 15
  pub small : seq < 65536
  pub short : total < 65536

-- what holds of payloads that are carried, of client frames that lines gave, of facts, and of fragments,
-- by their originator, number, length, place and tail: messages of facts of which it holds are
-- carried, and are read back as such; what is put together of fragments carries such a payload
pub record Kept : Type 1 where
  pub carried : List ℕ → Type 0
  pub given : ClientFrame → Type 0
  pub facts : Holds
  pub part : Mac → ℕ → ℕ → ℕ → List ℕ → Type 0
  pub read_on : (payload : List ℕ) (frame : ClientFrame) → carried payload → client_frame_of payload ≡ Some frame → carried (payload_spelling frame)
  pub told : (dst src : Mac) (message : FactMessage) → IsWhole dst → IsWhole src → MessageHas (fitting_facts facts) message → carried (fact_message_spelling dst src message)
  pub taken : (tail : List ℕ) (came : CameFact) → carried tail → fact_message_of tail ≡ Some came → MessageHas facts came.message
  pub fits : (orig : Mac) (seq total place : ℕ) (tail : List ℕ) → part orig seq total place tail → FitsPart orig seq total place
  pub joined : (call : PartCall) (older : List PartCall) (one : Carried) → part call.orig call.seq call.total call.place call.tail
      → AllByRecursion (λ (other : PartCall). part other.orig other.seq other.total other.place other.tail) older → put_together call older ≡ Some one → carried one.payload

-- a part that came
abbrev pub IsPart : Kept → PartCall → Type 0
IsPart P call = P.part call.orig call.seq call.total call.place call.tail

-- a client frame is given, or read of what is carried
abbrev pub IsCarried : Kept → ClientFrame → Type 0
IsCarried P frame = P.given frame ⊎ IsReadOf P.carried frame

-- a fact from a source, of a version, with this text
abbrev pub IsTold : Kept → Mac → ℕ → List ℕ → Type 0
IsTold P source version text = (type_no : ℕ) × P.facts.answered (record { source = source; type_no = type_no; version = version; bytes = text })

-- an event of a client frame that is handed out, or that reaches the clients of a LAN, tells of one
-- that is carried; one of a fact tells of one of which it holds
pub record Tells (P : Kept) (event : Event) : Type 0 where
  pub handed_out : (moment : ℕ) (node : Mac) (vid : Vid) (src dst : Mac) (text : List ℕ) → event ≡ Received moment node vid src dst text → IsCarried P (record { dst = dst; src = src; vid = vid; text = text })
  pub bridged : (moment lan : ℕ) (vid : Vid) (src dst : Mac) (text : List ℕ) → event ≡ Bridged moment lan vid src dst text → IsReadOf P.carried (record { dst = dst; src = src; vid = vid; text = text })
  pub told : (me : Mac) (type_no : ℕ) (source : Mac) (version : ℕ) (text : List ℕ) → event ≡ Alfred me type_no (FactTold source version text) → IsTold P source version text

-- a packet that carries a payload is addressed by a whole address, and its payload has a property; so it
-- is of a fragment, whose priority fits its bits
abbrev pub HeadHas : Kept → List ℕ → Head → Type 0
HeadHas P tail (IvOgm ttl flags seq orig prev tq) = Unit {0}
HeadHas P tail (Bcast ttl seq orig) = IsWhole orig × P.carried tail
HeadHas P tail (Elp orig seq interval) = Unit {0}
HeadHas P tail (Ogm2 ttl flags seq orig throughput) = Unit {0}
HeadHas P tail (Unicast ttl ttvn dst) = IsWhole dst × P.carried tail
HeadHas P tail (Frag ttl number priority dst orig seq total) = IsWhole dst × (priority ≤ 7) × P.part orig seq total number tail
HeadHas P tail (Unicast4 ttl ttvn dst src subtype) = Unit {0}
HeadHas P tail (Icmp ttl msg dst orig uid seq) = Unit {0}
HeadHas P tail (Utvlv ttl dst src) = Unit {0}

abbrev pub PacketHas : Kept → Packet → Type 0
PacketHas P packet = HeadHas P packet.tail packet.head

abbrev pub FrameHas : Kept → List ℕ → Type 0
FrameHas P bytes = EachPacket (PacketHas P) bytes

abbrev pub ActHas : Kept → Act → Type 0
ActHas P (Link to reason bytes) = FrameHas P bytes
ActHas P (Lan bytes) = PutCarries P.carried bytes
ActHas P (Print event) = Tells P event

abbrev pub ActsHave : Kept → List Act → Type 0
ActsHave P acts = AllByRecursion (ActHas P) acts

-- a client frame that is handed out
pub handed_has : (P : Kept) (at : Place) (frame : ClientFrame) → IsCarried P frame → ActHas P (handed_out at frame)
handed_has P at frame carried = record {
  handed_out = λ moment node vid src dst text is.
      let same : ◌≡◌ {A = ClientFrame} (record { dst = frame.dst; src = frame.src; vid = frame.vid; text = frame.text }) (record { dst = dst; src = src; vid = vid; text = text }) = cc in
      subst (IsCarried P) same carried;
  bridged = λ moment lan vid src dst text is. cc;
  told = λ me type_no source version text is. cc;
}

-- ---- spelled packets
one_has : (P : Kept) (bytes : List ℕ) (one : Packet) → (link_frame bytes).packets ≡ one ∷ [] → PacketHas P one → FrameHas P bytes
one_has P bytes one is h packet has = go (subst (λ ps. Has ps packet) is has)
  where
    go : Has (one ∷ []) packet → PacketHas P packet
    go (inl same) = subst (PacketHas P) (sym same) h
    go (inr none) = absurd none

pub bcast_has : (P : Kept) (ttl seq : ℕ) (orig : Mac) (tail : List ℕ) → IsWhole orig → P.carried tail → ActHas P (sent_to_all (Bcast ttl seq orig) tail)
bcast_has P ttl seq orig tail whole p = one_has P (spelling (Bcast ttl seq orig) tail) (record { head = Bcast (one_read ttl) (four_read seq) orig; tail = tail }) (bcast_read ttl seq orig tail whole) (whole, p)

pub unicast_has : (P : Kept) (next : Mac) (reason : Option Reason) (ttl ttvn : ℕ) (dst : Mac) (tail : List ℕ) → IsWhole dst → P.carried tail → ActHas P (sent_to next reason (Unicast ttl ttvn dst) tail)
unicast_has P next reason ttl ttvn dst tail whole p = one_has P (spelling (Unicast ttl ttvn dst) tail) (record { head = Unicast (one_read ttl) (one_read ttvn) dst; tail = tail }) (unicast_read ttl ttvn dst tail whole) (whole, p)

pub frag_has : (P : Kept) (to : Option Mac) (ttl place priority : ℕ) (dst orig : Mac) (seq total : ℕ) (tail : List ℕ) → IsWhole dst → priority ≤ 7 → P.part orig seq total place tail
    → ActHas P (Link to None (spelling (Frag ttl place priority dst orig seq total) tail))
frag_has P to ttl place priority dst orig seq total tail whole low p =
    let f = P.fits orig seq total place tail p in
    let again : fragment_read place priority / 2 % 8 ≤ 7 = omega arith in
    one_has P (spelling (Frag ttl place priority dst orig seq total) tail) (record { head = Frag (one_read ttl) place (fragment_read place priority / 2 % 8) dst orig seq total; tail = tail })
    (frag_read ttl place priority dst orig seq total tail whole f.whole f.few low f.small f.short) (whole, again, p)

-- a frame of a kind that carries none
none_of : (P : Kept) (s : Shape) → IsKind s (PacketHas P) → (fields : List ℕ) → FrameHas P (s.kind ∷ fields)
none_of P s k fields = kind_each s (PacketHas P) k (s.kind ∷ fields) refl

pub iv_none : (P : Kept) (fields : List ℕ) → FrameHas P (0 ∷ fields)
iv_none P fields = none_of P iv_ogm (record { by_type = refl; heads = λ f. refl; each = λ f tail. tt }) fields

pub elp_none : (P : Kept) (fields : List ℕ) → FrameHas P (3 ∷ fields)
elp_none P fields = none_of P elp (record { by_type = refl; heads = λ f. refl; each = λ f tail. tt }) fields

pub ogm2_none : (P : Kept) (fields : List ℕ) → FrameHas P (4 ∷ fields)
ogm2_none P fields = none_of P ogm2 (record { by_type = refl; heads = λ f. refl; each = λ f tail. tt }) fields

pub unicast4_none : (P : Kept) (fields : List ℕ) → FrameHas P (66 ∷ fields)
unicast4_none P fields = none_of P unicast4 (record { by_type = refl; heads = λ f. refl; each = λ f tail. tt }) fields

pub icmp_none : (P : Kept) (fields : List ℕ) → FrameHas P (67 ∷ fields)
icmp_none P fields = none_of P icmp (record { by_type = refl; heads = λ f. refl; each = λ f tail. tt }) fields

pub utvlv_none : (P : Kept) (fields : List ℕ) → FrameHas P (68 ∷ fields)
utvlv_none P fields = none_of P utvlv (record { by_type = refl; heads = λ f. refl; each = λ f tail. tt }) fields
