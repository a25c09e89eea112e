-- Packets that are cut and put together. A fragment says which node cut, under which number, and how
-- long the packet is. Each that was ever sent is a piece of a cut that this node made under that
-- number, and the numbers of a node are of one cut each. So, whatever a network loses, repeats,
-- holds or delivers late, each packet that a node puts together is one that was cut. The main words
-- are `FragmentsAreCut`, `CutsAreKnownByNumber` and `PutTogetherWasCut`.
use Rattle.std.specs.Prelude.{◌≡◌, ℕ, List, ◌∷◌, ◌++◌, length, slice_get, Option, Some, None, if◌then◌else◌, ⊤}
use Rattle.mesh_base.specs.declared.address.Mac.{Mac}
use Rattle.mesh_model.specs.declared.frame_choice.FrameChoice.{FrameChoice}
use Rattle.mesh_model.specs.declared.packet.Head.{Head}
use Rattle.mesh_model.specs.declared.packet.Head.TheVariants.{IvOgm, Bcast, Elp, Ogm2, Unicast, Frag, Unicast4, Icmp, Utvlv}
use Rattle.mesh_model.specs.Clients.Log.{LinkFrame, Log, LogEntry}
use Rattle.mesh_model.specs.Fragments.Assembly.{PartCall, made_whole, part_of}
use Rattle.mesh_model.specs.Fragments.Cutting.{Cut, tails}
use Rattle.mesh_model.specs.Knowledge.Steps.{Coming, after_packets, knowledge}
use Rattle.mesh_model.specs.Net.Inputs.{noting}
use Rattle.mesh_model.specs.Net.Mesh.{NodeLog, SentFrame, Mesh}
use Rattle.mesh_model.specs.Net.Next.{Has}
use Rattle.mesh_model.specs.Packets.FirstPacket.{Packet}
use Rattle.mesh_model.specs.Packets.LinkFrame.{link_frame}
use Rattle.mesh_model.specs.Routes.Addresses.{same_mac}
use Rattle.mesh_model.specs.Routes.Algorithms.{queries_of}
use Rattle.mesh_model.specs.Routes.Queries.{Queries}
use Rattle.mesh_model.specs.Run.PlainRun.{after_lines, start}
use Rattle.mesh_laws.specs.CutLaws.{cuts_of_log}
use Rattle.mesh_tie.specs.Steps.{IsReachable}
use Rattle.mesh_tie.specs.Tie.{known_at_node}
use Rattle.mesh_tie.specs.TieLaws.{AllKeep}

-- ---- cuts

-- the node of an address made a cut
pub record WasCut (queries : Mac → Queries) (mesh : Mesh) (orig : Mac) (cut : Cut) : Type 0 where
  pub place : ℕ
  pub node : NodeLog
  pub found : slice_get mesh.nodes place ≡ Some node
  pub address : node.mac ≡ orig
  pub made : Has (cuts_of_log (queries node.mac) node.mac node.log) cut

-- two cuts of a node with one number are one
abbrev pub CutsAreKnownByNumber : Type 0
CutsAreKnownByNumber = (q : Queries) (me : Mac) (log : Log) (cut other : Cut) →
    Has (cuts_of_log q me log) cut → Has (cuts_of_log q me log) other →
    cut.number ≡ other.number → cut ≡ other

-- ---- fragments

-- a fragment of this originator, number, length and place has the piece at the place of a cut that
-- the originator made under the number, of a packet of this length
pub record IsPieceOfCut (queries : Mac → Queries) (mesh : Mesh) (orig : Mac)
    (seq total place : ℕ) (tail : List ℕ) : Type 0 where
  pub cut : Cut
  pub was_cut : WasCut queries mesh orig cut
  pub number_is : seq ≡ cut.number
  pub length_is : total ≡ length cut.packet
  pub piece : slice_get (tails cut.most cut.packet) place ≡ Some tail

-- a packet with this head and tail is such a piece, where it is a fragment
abbrev pub IsCutPiece : (Mac → Queries) → Mesh → List ℕ → Head → Type 0
IsCutPiece queries mesh tail (IvOgm ttl flags seq orig prev tq) = ⊤
IsCutPiece queries mesh tail (Bcast ttl seq orig) = ⊤
IsCutPiece queries mesh tail (Elp orig seq interval) = ⊤
IsCutPiece queries mesh tail (Ogm2 ttl flags seq orig throughput) = ⊤
IsCutPiece queries mesh tail (Unicast ttl ttvn dst) = ⊤
IsCutPiece queries mesh tail (Frag ttl number priority dst orig seq total) =
    IsPieceOfCut queries mesh orig seq total number tail
IsCutPiece queries mesh tail (Unicast4 ttl ttvn dst src subtype) = ⊤
IsCutPiece queries mesh tail (Icmp ttl msg dst orig uid seq) = ⊤
IsCutPiece queries mesh tail (Utvlv ttl dst src) = ⊤

-- so is each fragment that was ever sent
abbrev pub FragmentsAreCut : Type 0
FragmentsAreCut = (queries : Mac → Queries) → AllKeep queries → (mesh : Mesh) →
    IsReachable queries mesh → (place : ℕ) (frame : SentFrame) (packet : Packet) →
    slice_get mesh.frames place ≡ Some frame → Has (link_frame frame.bytes).packets packet →
    IsCutPiece queries mesh packet.tail packet.head

-- ---- what is put together

-- by its log a node put a packet together: a part that came made it whole, after others
pub record PutsTogether (queries : Mac → Queries) (node : NodeLog) (call : PartCall)
    (packet : List ℕ) : Type 0 where
  pub newer : Log
  pub log : Log
  pub log_is : node.log ≡ newer ++ log
  pub later : List PartCall
  pub older : List PartCall
  pub parts_are : (knowledge (queries node.mac) node.mac log).parts ≡ later ++ call ∷ older
  pub whole : made_whole call older ≡ Some packet

-- the part that a packet with this head and tail is for the node of an address at a moment, where it
-- is a fragment for it
abbrev pub part_for : Mac → ℕ → List ℕ → Head → Option PartCall
part_for me now tail (IvOgm ttl flags seq orig prev tq) = None
part_for me now tail (Bcast ttl seq orig) = None
part_for me now tail (Elp orig seq interval) = None
part_for me now tail (Ogm2 ttl flags seq orig throughput) = None
part_for me now tail (Unicast ttl ttvn dst) = None
part_for me now tail (Frag ttl number priority dst orig seq total) =
    if same_mac dst me then Some (part_of now orig seq total number tail) else None
part_for me now tail (Unicast4 ttl ttvn dst src subtype) = None
part_for me now tail (Icmp ttl msg dst orig uid seq) = None
part_for me now tail (Utvlv ttl dst src) = None

-- of the packets of a link frame that comes to a node one is a part that makes a packet whole, by
-- what the node knew and what those in front of it brought
pub record MakesWhole (queries : Mac → Queries) (node : NodeLog) (came : Coming) (bytes : List ℕ)
    (call : PartCall) (packet : List ℕ) : Type 0 where
  pub front : List Packet
  pub fragment : Packet
  pub back : List Packet
  pub packets_are : (link_frame bytes).packets ≡ front ++ fragment ∷ back
  pub part_is : part_for node.mac came.now fragment.tail fragment.head ≡ Some call
  pub whole : made_whole call
      (after_packets (queries node.mac) node.mac came (known_at_node queries node) front).parts
      ≡ Some packet

-- each packet that a node makes whole is one that it put together, by its log then
abbrev pub NotesWholes : Type 0
NotesWholes = (queries : Mac → Queries) (node : NodeLog) (entry : LogEntry) (number : ℕ)
    (from : Mac) (throughput : ℕ) (bytes : List ℕ) (call : PartCall) (packet : List ℕ) →
    entry.given ≡ LinkFrame number from throughput bytes → MakesWhole queries node (record {
      now = entry.moment;
      from = from;
      throughput = throughput;
      number = number;
    }) bytes call packet → PutsTogether queries (noting entry node) call packet

-- a packet is one that the node of an address cut under a number
pub record IsPacketOfCut (queries : Mac → Queries) (mesh : Mesh) (orig : Mac) (number : ℕ)
    (packet : List ℕ) : Type 0 where
  pub cut : Cut
  pub was_cut : WasCut queries mesh orig cut
  pub number_is : number ≡ cut.number
  pub packet_is : packet ≡ cut.packet

-- each packet that a node ever put together is one that the originator of its fragments cut under
-- their number
abbrev pub PacketsWereCut : (Mac → Queries) → Mesh → Type 0
PacketsWereCut queries mesh = (place : ℕ) (node : NodeLog) (call : PartCall) (packet : List ℕ) →
    slice_get mesh.nodes place ≡ Some node → PutsTogether queries node call packet →
    IsPacketOfCut queries mesh call.orig call.seq packet

-- so it is in every mesh that is reached
abbrev pub PutTogetherWasCut : Type 0
PutTogetherWasCut = (queries : Mac → Queries) → AllKeep queries → (mesh : Mesh) →
    IsReachable queries mesh → PacketsWereCut queries mesh

-- so it is of those that the nodes of a run of any lines put together
abbrev pub RunPacketsWereCut : FrameChoice → List (List ℕ) → Type 0
RunPacketsWereCut choice lines =
    PacketsWereCut (queries_of (after_lines (start choice) lines).state.algorithm)
    (after_lines (start choice) lines).state.mesh

abbrev pub RunsPutCutsTogether : Type 0
RunsPutCutsTogether = (choice : FrameChoice) (lines : List (List ℕ)) →
    RunPacketsWereCut choice lines
