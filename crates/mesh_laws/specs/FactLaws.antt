-- Laws of the fact store: when a node takes facts. Those of a push are taken once it is whole, all
-- in that step, and at a primary alone; no other packet changes which facts a node has. Of all other
-- inputs a line that puts a fact does, a tick at which the node puts its picture, and a reboot, which
-- leaves none. The main words are `FactsComeWhole`, `WholePushIsTaken` and `LinesPutFacts`.
use Rattle.std.specs.Prelude.{◌≡◌, ◌⊎◌, ℕ, true, List, [], ◌∷◌, ◌++◌, fold, Option, Some, None, option_map, if◌then◌else◌, ⊤}
use Rattle.mesh_base.specs.declared.address.Mac.{Mac}
use Rattle.mesh_model.specs.declared.line_form.AlfredMode.TheVariants.{Primary as IsPrimary}
use Rattle.mesh_model.specs.declared.packet.Head.{Head}
use Rattle.mesh_model.specs.declared.packet.Head.TheVariants.{IvOgm, Bcast, Elp, Ogm2, Unicast, Frag, Unicast4, Icmp, Utvlv}
use Rattle.mesh_model.specs.declared.service.Fact.{Fact}
use Rattle.mesh_model.specs.Clients.Log.{Given, Tick, LinkFrame, LanFrame, Line, LineGiven, Attach, Frame, Gone, Join, Leave, Arp, Dhcp, Sets, Put, Get, Ping, Trace, Reboot, Log, line_reboots}
use Rattle.mesh_model.specs.Fragments.Assembly.{PartCall, part_of}
use Rattle.mesh_model.specs.Knowledge.Known.{Knowledge}
use Rattle.mesh_model.specs.Knowledge.OwnPictures.{put_pictures}
use Rattle.mesh_model.specs.Knowledge.PutTogether.{Carried, put_together}
use Rattle.mesh_model.specs.Knowledge.Steps.{Coming, after_packet, before_round, next_knowledge, table_behind}
use Rattle.mesh_model.specs.Packets.FactMessages.{FactMessage, HasPart, HasEnd, fact_message_of}
use Rattle.mesh_model.specs.Packets.FirstPacket.{Packet}
use Rattle.mesh_model.specs.Routes.Addresses.{same_mac}
use Rattle.mesh_model.specs.Routes.Queries.{Queries}
use Rattle.mesh_model.specs.Services.Facts.{FactCall, WasPut, CameFrom}
use Rattle.mesh_model.specs.Services.Transactions.{Brought, APart, AnEnd, TxnCall, made_whole}

-- ---- pushes

-- the message of a push that brings this under an id
abbrev pub push_message : ℕ → Brought → FactMessage
push_message id (APart number facts) = HasPart true id number facts
push_message id (AnEnd count) = HasEnd true id count

-- the payload of the packet that a part makes whole, after others
abbrev pub whole_payload : PartCall → List PartCall → Option (List ℕ)
whole_payload call older = option_map (λ (one : Carried). one.payload) (put_together call older)

-- the payload that a packet with a head and a tail brings to the node of an address, after parts of
-- packets that were cut: a fragment brings that of the packet that it makes whole
abbrev pub payload_by : Mac → ℕ → List PartCall → List ℕ → Head → Option (List ℕ)
payload_by me now parts tail (IvOgm ttl flags seq orig prev tq) = None
payload_by me now parts tail (Bcast ttl seq orig) = None
payload_by me now parts tail (Elp orig seq interval) = None
payload_by me now parts tail (Ogm2 ttl flags seq orig throughput) = None
payload_by me now parts tail (Unicast ttl ttvn dst) = if same_mac dst me then Some tail else None
payload_by me now parts tail (Frag ttl number priority dst orig seq total) = if same_mac dst me
    then whole_payload (part_of now orig seq total number tail) parts else None
payload_by me now parts tail (Unicast4 ttl ttvn dst src subtype) = None
payload_by me now parts tail (Icmp ttl msg dst orig uid seq) = None
payload_by me now parts tail (Utvlv ttl dst src) = None

-- a packet that comes to the node of an address at a moment brings this of a push
pub record BringsPush (me : Mac) (now : ℕ) (packet : Packet) (parts : List PartCall)
    (call : TxnCall) : Type 0 where
  pub payload : List ℕ
  pub brought : payload_by me now parts packet.tail packet.head ≡ Some payload
  pub read : fact_message_of payload
      ≡ Some (record { sender = call.sender; message = push_message call.id call.brought })
  pub moment_is : call.moment ≡ now

-- at a primary a packet makes a push whole, which has these facts
pub record MakesWhole (me : Mac) (now : ℕ) (packet : Packet) (known : Knowledge) (call : TxnCall)
    (facts : List Fact) : Type 0 where
  pub at_primary : known.services.settings.fact_store ≡ IsPrimary
  pub brings : BringsPush me now packet known.parts call
  pub whole : made_whole call known.services.pushes ≡ Some facts

-- what came for facts, newest first, once these came from a sender too, one after another
abbrev pub facts_with : TxnCall → List Fact → List FactCall → List FactCall
facts_with call facts older =
    fold (λ before fact. CameFrom call.moment call.sender fact ∷ before) older facts

-- ---- when facts are taken

-- a packet makes a push whole at a primary, and all its facts are taken
pub record TakesPush (me : Mac) (now : ℕ) (packet : Packet) (known after : Knowledge) : Type 0 where
  pub call : TxnCall
  pub facts : List Fact
  pub makes_whole : MakesWhole me now packet known call facts
  pub taken : after.services.facts ≡ facts_with call facts known.services.facts

-- by a packet the facts stay as they were, or gain exactly those of a whole push, in this step, at
-- a primary
abbrev pub FactsComeWhole : Type 0
FactsComeWhole = (q : Queries) (me : Mac) (came : Coming) (known : Knowledge) (packet : Packet) →
    ((after_packet q me came known packet).services.facts ≡ known.services.facts)
    ⊎ TakesPush me came.now packet known (after_packet q me came known packet)

-- they do gain them where a packet makes a push whole at a primary
abbrev pub WholePushIsTaken : Type 0
WholePushIsTaken = (q : Queries) (me : Mac) (came : Coming) (known : Knowledge) (packet : Packet)
    (call : TxnCall) (facts : List Fact) → MakesWhole me came.now packet known call facts →
    (after_packet q me came known packet).services.facts
    ≡ facts_with call facts known.services.facts

-- ---- other inputs

-- what a line puts at the node of an address, at a moment
abbrev pub put_by_line : Mac → ℕ → LineGiven → List FactCall
put_by_line me now (Attach lan gateways) = []
put_by_line me now (Frame src dst vid text) = []
put_by_line me now (Gone key) = []
put_by_line me now (Join key) = []
put_by_line me now (Leave key) = []
put_by_line me now (Arp mac own_ip asked_ip vid) = []
put_by_line me now (Dhcp key text) = []
put_by_line me now (Sets setting) = []
put_by_line me now (Put type_no version text) = WasPut now (record {
  source = me;
  type_no = type_no;
  version = version;
  bytes = text;
}) ∷ []
put_by_line me now (Get type_no) = []
put_by_line me now (Ping target) = []
put_by_line me now (Trace target) = []
put_by_line me now Reboot = []

-- what a line leaves of what came for facts: nothing, where it reboots the node
abbrev pub left_by_line : LineGiven → List FactCall → List FactCall
left_by_line line facts = if line_reboots line then [] else facts

-- the picture that a node puts at a tick of an index right after a log, where it puts one
abbrev pub put_by_tick : Queries → Mac → Log → ℕ → ℕ → Knowledge → List FactCall
put_by_tick q me older now index known = put_pictures q me now index
    (table_behind me older now index) (before_round q now index known)

-- what is known after an input of a node has the facts of before, unless it is a reboot, and what a
-- line or a tick put; a link frame is left to the law of its packets
abbrev pub PutsAlone : Queries → Mac → Log → ℕ → Given → Knowledge → Knowledge → Type 0
PutsAlone q me older now (Tick index) known after =
    after.services.facts ≡ put_by_tick q me older now index known ++ known.services.facts
PutsAlone q me older now (LinkFrame number from throughput bytes) known after = ⊤
PutsAlone q me older now (LanFrame bytes) known after =
    after.services.facts ≡ known.services.facts
PutsAlone q me older now (Line line) known after =
    after.services.facts ≡ put_by_line me now line ++ left_by_line line known.services.facts

-- so it is of each input
abbrev pub LinesPutFacts : Type 0
LinesPutFacts = (q : Queries) (me : Mac) (older : Log) (known : Knowledge) (now : ℕ)
    (given : Given) →
    PutsAlone q me older now given known (next_knowledge q me older known now given)
