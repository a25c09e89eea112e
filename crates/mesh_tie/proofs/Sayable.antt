-- What acts say can be said by moves of the machine.
use Rattle.std.proofs.Common.{◌≡◌, ◌≢◌, ◌⊎◌, inl, inr, ◌<◌, ℕ, Bool, true, false, List, [], ◌∷◌, length, Option, Some, None, refl, sym, ap, ap₂, subst, ◌∙◌}
use Rattle.std.specs.List.{AllByRecursion}
use Rattle.mesh_base.specs.declared.address.Mac.{Mac}
use Rattle.mesh_base.specs.declared.event.Event.{Event}
use Rattle.mesh_base.specs.declared.event.Event.TheVariants.{Alias}
use Rattle.mesh_model.specs.declared.act.Act.{Act}
use Rattle.mesh_model.specs.declared.act.Act.TheVariants.{Link, Lan, Print}
use Rattle.mesh_model.specs.declared.packet.Head.{Head}
use Rattle.mesh_model.specs.declared.packet.Head.TheVariants.{IvOgm, Bcast, Elp, Ogm2, Unicast, Frag, Unicast4, Icmp, Utvlv}
use Rattle.mesh_model.specs.declared.table_change.Change.{Change}
use Rattle.mesh_model.specs.Acts.Packing.{sent_over, sent_to, with_full}
use Rattle.mesh_model.specs.Clients.Log.{Log}
use Rattle.mesh_model.specs.Knowledge.Told.{Answers, carried_told}
use Rattle.mesh_model.specs.Packets.Containers.{containers_of}
use Rattle.mesh_model.specs.Packets.Contents.{first_part}
use Rattle.mesh_model.specs.Net.Next.{Has}
use Rattle.mesh_model.specs.Packets.FirstPacket.{Packet}
use Rattle.mesh_model.specs.Packets.Layout.{spelling}
use Rattle.mesh_model.specs.Packets.LinkFrame.{link_frame}
use Rattle.mesh_model.specs.Packets.Numbers.{response_flag}
use Rattle.mesh_model.specs.Routes.Addresses.{same_mac}
use Rattle.mesh_model.specs.Tables.Judging.{Carried, InPart}
use Rattle.mesh_model.specs.Tables.Versions.{Stamp, Version}
use Rattle.mesh_laws.specs.Machine.Moves.{Move, Reaches, no_move, then_move}
use Rattle.mesh_laws.specs.Machine.World.{Saying, World, WasSaid, with_saying}
use Rattle.mesh_laws.proofs.MacLemmas.{same_exact, same_self}
use Rattle.std.proofs.lemmas.Bool.{true≢false}
use Rattle.mesh_tie.specs.Sayings.{FrameSays, HoldsAnswer, IsAnnounced, IsAnswered, PacketSays, WordSays, saying_of}
use Rattle.mesh_tie.specs.Sources.{ContainersOf, HasWholeAddresses, IsMessageOf, IsWhole, MessageOf, Nothing, Word, word_of}
use Rattle.mesh_laws.specs.HeldLaws.{stamp_of_commit}
use Rattle.mesh_tie.proofs.HeadLemmas.{IsOnePacket, iv_frame, ogm2_frame, utvlv_frame}
use Rattle.mesh_tie.proofs.KindLemmas.{TellsNothing}
use Rattle.mesh_tie.proofs.TableLemmas.{HoldsNoAnswer, IsPartAgain, IsToldAgain, answers_again, no_part_answers, no_table_answers}

-- two addresses are one, or they aren't
pub one_or_two : (a b : Mac) → (a ≡ b) ⊎ (a ≢ b)
one_or_two a b = go (same_mac a b) refl
  where
    go : (t : Bool) → same_mac a b ≡ t → (a ≡ b) ⊎ (a ≢ b)
    go true is = inl (same_exact a b is)
    go false is = inr (λ same. true≢false (sym (ap (λ x. same_mac a x) (sym same) ∙ same_self a) ∙ is))

-- ---- what is said stays said
-- all that was said in the one was said in the other
abbrev pub Within : List Saying → List Saying → Type 0
Within one other = (x : Saying) → WasSaid one x → WasSaid other x

announced_more : (orig : Mac) (log : Log) (s t : List Saying) (root : ℕ) (tail : List ℕ) → Within s t → IsAnnounced orig log s root tail → IsAnnounced orig log t root tail
announced_more orig log s t root tail more a = record { table = a.table; found = a.found; past = a.past; was_said = more _ a.was_said }

pub answered_more : (s t : List Saying) (tail : List ℕ) → Within s t → IsAnswered s tail → IsAnswered t tail
answered_more s t tail more a = record { small = a.small; was_said = λ stamp carried is. more (saying_of stamp carried) (a.was_said stamp carried is) }

word_more : (orig : Mac) (log : Log) (s t : List Saying) (root : ℕ) (tail : List ℕ) (word : Word) → Within s t → WordSays orig log s root tail word → WordSays orig log t root tail word
word_more orig log s t root tail (MessageOf source) more says = (says.0, λ same. announced_more orig log s t root tail more (says.1 same))
word_more orig log s t root tail (ContainersOf source) more says = λ same. answered_more s t tail more (says same)
word_more orig log s t root tail Nothing more says = tt

pub packet_more : (orig : Mac) (log : Log) (s t : List Saying) (root : ℕ) (packet : Packet) → Within s t → PacketSays orig log s root packet → PacketSays orig log t root packet
packet_more orig log s t root packet more p = record { addresses = p.addresses; says = word_more orig log s t root packet.tail (word_of packet.head) more p.says }

pub frame_more : (orig : Mac) (log : Log) (s t : List Saying) (root : ℕ) (bytes : List ℕ) → Within s t → FrameSays orig log s root bytes → FrameSays orig log t root bytes
frame_more orig log s t root bytes more says packet has = packet_more orig log s t root packet more (says packet has)

-- what an act with a root says
abbrev pub ActSays : Mac → Log → List Saying → ℕ → Act → Type 0
ActSays orig log said root (Link to reason bytes) = FrameSays orig log said root bytes
ActSays orig log said root (Lan bytes) = Unit {0}
ActSays orig log said root (Print event) = Unit {0}

pub act_more : (orig : Mac) (log : Log) (s t : List Saying) (root : ℕ) (act : Act) → Within s t → ActSays orig log s root act → ActSays orig log t root act
act_more orig log s t root (Link to reason bytes) more says = frame_more orig log s t root bytes more says
act_more orig log s t root (Lan bytes) more says = tt
act_more orig log s t root (Print event) more says = tt

-- ---- what frames say
-- a frame of one packet says what that packet does
by_packet : (orig : Mac) (log : Log) (said : List Saying) (root : ℕ) (bytes : List ℕ) (one : Packet) → (link_frame bytes).packets ≡ one ∷ [] → PacketSays orig log said root one → FrameSays orig log said root bytes
by_packet orig log said root bytes one is says packet has = go (subst (λ ps. Has ps packet) is has)
  where
    go : Has (one ∷ []) packet → PacketSays orig log said root packet
    go (inl same) = subst (PacketSays orig log said root) (sym same) says
    go (inr none) = absurd none

nothing_whole : (head : Head) → word_of head ≡ Nothing → HasWholeAddresses head
nothing_whole (IvOgm ttl flags seq orig prev tq) is = cc
nothing_whole (Bcast ttl seq orig) is = tt
nothing_whole (Elp orig seq interval) is = tt
nothing_whole (Ogm2 ttl flags seq orig throughput) is = cc
nothing_whole (Unicast ttl ttvn dst) is = tt
nothing_whole (Frag ttl number priority dst orig seq total) is = tt
nothing_whole (Unicast4 ttl ttvn dst src subtype) is = tt
nothing_whole (Icmp ttl msg dst orig uid seq) is = tt
nothing_whole (Utvlv ttl dst src) is = cc

pub nothing_says : (orig : Mac) (log : Log) (said : List Saying) (root : ℕ) (bytes : List ℕ) → TellsNothing bytes → FrameSays orig log said root bytes
nothing_says orig log said root bytes nothing packet has =
    let none = nothing packet has in
    record { addresses = nothing_whole packet.head none; says = subst (WordSays orig log said root packet.tail) (sym none) tt }

-- a message that is spelled
message_by : (orig : Mac) (log : Log) (said : List Saying) (root : ℕ) (source : Mac) (head : Head) (tail : List ℕ) → word_of head ≡ MessageOf source → length tail < 65536
    → (source ≡ orig → IsAnnounced orig log said root tail) → IsOnePacket (spelling head tail) head tail → FrameSays orig log said root (spelling head tail)
message_by orig log said root source head tail word small says one = by_packet orig log said root (spelling head tail) (record { head = one.sent; tail = tail }) one.packets
    (record { addresses = one.addresses; says = subst (WordSays orig log said root tail) (sym (one.word ∙ word)) (small, says) })

pub message_says : (orig : Mac) (log : Log) (said : List Saying) (root : ℕ) (source : Mac) (head : Head) (tail : List ℕ) → IsMessageOf source head → length tail < 65536
    → (source ≡ orig → IsAnnounced orig log said root tail) → FrameSays orig log said root (spelling head tail)
message_says orig log said root source (IvOgm ttl flags seq o prev tq) tail is small says =
    message_by orig log said root source (IvOgm ttl flags seq o prev tq) tail is.word small says (iv_frame ttl flags seq tq o prev tail is.addresses.0 is.addresses.1 small)
message_says orig log said root source (Bcast ttl seq o) tail is small says = absurd (let e = is.word in cc)
message_says orig log said root source (Elp o seq interval) tail is small says = absurd (let e = is.word in cc)
message_says orig log said root source (Ogm2 ttl flags seq o throughput) tail is small says =
    message_by orig log said root source (Ogm2 ttl flags seq o throughput) tail is.word small says (ogm2_frame ttl flags seq throughput o tail is.addresses small)
message_says orig log said root source (Unicast ttl ttvn dst) tail is small says = absurd (let e = is.word in cc)
message_says orig log said root source (Frag ttl number priority dst o seq total) tail is small says = absurd (let e = is.word in cc)
message_says orig log said root source (Unicast4 ttl ttvn dst src subtype) tail is small says = absurd (let e = is.word in cc)
message_says orig log said root source (Icmp ttl msg dst o uid seq) tail is small says = absurd (let e = is.word in cc)
message_says orig log said root source (Utvlv ttl dst src) tail is small says = absurd (let e = is.word in cc)

-- containers that are spelled
pub containers_say : (orig : Mac) (log : Log) (said : List Saying) (root ttl : ℕ) (dst src : Mac) (tail : List ℕ) → IsWhole dst → IsWhole src
    → (src ≡ orig → IsAnswered said tail) → FrameSays orig log said root (spelling (Utvlv ttl dst src) tail)
containers_say orig log said root ttl dst src tail d s says =
    let one = utvlv_frame ttl dst src tail d s in
    by_packet orig log said root (spelling (Utvlv ttl dst src) tail) one.packet one.packets (record {
      addresses = one.addresses;
      says = subst (WordSays orig log said root one.packet.tail) (sym one.word)
          (λ (same : src ≡ orig). let a = says same in subst (IsAnswered said) (sym (one.whole a.small)) a);
    })

-- containers without an answer
pub no_answer : (said : List Saying) (tail : List ℕ) → length tail < 65536 → HoldsNoAnswer tail → IsAnswered said tail
no_answer said tail small none = record { small = small; was_said = λ stamp carried is. absurd (none stamp carried is) }

answer_one : (s t : Stamp) (c d : Carried) → Answers s c ≡ Answers t d → (s ≡ t) × (c ≡ d)
answer_one s t c d is = (cc, cc)

-- containers with an answer that was said
pub an_answer : (said : List Saying) (full : Bool) (version : Version) (records : List Change) (tail : List ℕ) → IsToldAgain (with_full response_flag full) version records tail
    → first_part (containers_of tail) ≡ None → WasSaid said (saying_of (stamp_of_commit version) (carried_told full records)) → IsAnswered said tail
an_answer said full version records tail again none was = record { small = again.small; was_said = was_said }
  where
    was_said : (stamp : Stamp) (carried : Carried) → HoldsAnswer tail stamp carried → WasSaid said (saying_of stamp carried)
    was_said stamp carried (inl is) =
        let same = answer_one (stamp_of_commit version) stamp (carried_told full records) carried (sym (answers_again full version records tail again) ∙ is) in
        subst (WasSaid said) (ap₂ saying_of same.0 same.1) was
    was_said stamp carried (inr is) = absurd (no_part_answers tail none stamp carried is)

-- containers with a part of an answer that was said
pub a_part : (said : List Saying) (version : Version) (number count : ℕ) (records : List Change) (tail : List ℕ) → IsPartAgain version number count records tail
    → WasSaid said (saying_of (stamp_of_commit version) (InPart number count records)) → IsAnswered said tail
a_part said version number count records tail again was = record { small = again.small; was_said = was_said }
  where
    was_said : (stamp : Stamp) (carried : Carried) → HoldsAnswer tail stamp carried → WasSaid said (saying_of stamp carried)
    was_said stamp carried (inl is) = absurd (no_table_answers tail again.no_table stamp carried is)
    was_said stamp carried (inr is) =
        let same = answer_one (stamp_of_commit version) stamp (InPart number count records) carried (sym again.found ∙ is) in
        subst (WasSaid said) (ap₂ saying_of same.0 same.1) was

-- ---- acts that can be said
-- moves after which something was said; commits and nodes are as before
pub record Speaks (w : World) (Said : List Saying → Type 0) : Type 0 where
  pub world : World
  pub path : Reaches w world
  pub commits : world.commits ≡ w.commits
  pub nodes : world.nodes ≡ w.nodes
  pub more : Within w.said world.said
  pub said : Said world.said

pub silent : (w : World) (Said : List Saying → Type 0) → Said w.said → Speaks w Said
silent w Said said = record { world = w; path = no_move w; commits = refl; nodes = refl; more = λ x was. was; said = said }

pub says_one : (w : World) (Said : List Saying → Type 0) (x : Saying) → Move w (with_saying x w) → (WasSaid (x ∷ w.said) x → Said (x ∷ w.said)) → Speaks w Said
says_one w Said x move said = record {
  world = with_saying x w;
  path = then_move w w (with_saying x w) (no_move w) move;
  commits = refl;
  nodes = refl;
  more = λ y was. inr was;
  said = said (inl refl);
}

-- a world with the same commits and nodes, in which no less was said
pub record IsLater (w y : World) : Type 0 where
  pub commits : y.commits ≡ w.commits
  pub nodes : y.nodes ≡ w.nodes
  pub more : Within w.said y.said

-- an act can be said from a world on
abbrev pub Sayable : Mac → Log → ℕ → World → Act → Type 0
Sayable orig log root w act = (y : World) → IsLater w y → Speaks y (λ said. ActSays orig log said root act)

pub then_path : (u v w : World) → Reaches u v → Reaches v w → Reaches u w
then_path u v _ a (no_move _) = a
then_path u v _ a (then_move _ x w b m) = then_move u x w (then_path u v x a b) m

pub all_said : (orig : Mac) (log : Log) (root : ℕ) (w : World) (acts : List Act) → AllByRecursion (Sayable orig log root w) acts → (y : World) → IsLater w y
    → Speaks y (λ said. AllByRecursion (ActSays orig log said root) acts)
all_said orig log root w [] all y later = silent y (λ said. Unit {0}) tt
all_said orig log root w (act ∷ acts) all y later =
    let one = all.0 y later in
    let rest = all_said orig log root w acts all.1 one.world (record {
      commits = one.commits ∙ later.commits;
      nodes = one.nodes ∙ later.nodes;
      more = λ x was. one.more x (later.more x was);
    }) in
    record {
      world = rest.world;
      path = then_path y one.world rest.world one.path rest.path;
      commits = rest.commits ∙ one.commits;
      nodes = rest.nodes ∙ one.nodes;
      more = λ x was. rest.more x (one.more x was);
      said = (act_more orig log one.world.said rest.world.said root act rest.more one.said, rest.said);
    }

pub itself : (w : World) → IsLater w w
itself w = record { commits = refl; nodes = refl; more = λ x was. was }

-- a frame that says nothing new
pub frame_sayable : (orig : Mac) (log : Log) (root : ℕ) (w : World) (to : Option Mac) (reason : Option Rattle.mesh_base.specs.declared.event.Reason.Reason) (bytes : List ℕ)
    → ((said : List Saying) → Within w.said said → FrameSays orig log said root bytes) → Sayable orig log root w (Link to reason bytes)
frame_sayable orig log root w to reason bytes says y later = silent y (λ said. FrameSays orig log said root bytes) (says y.said later.more)

-- an event that tells of no alias
abbrev pub IsNoAlias : Event → Type 0
IsNoAlias event = (me : Mac) (number earlier : ℕ) → event ≡ Alias me number earlier → ⊥

-- an act that says nothing of tables, and tells of no alias
abbrev pub IsCalm : Act → Type 0
IsCalm (Link to reason bytes) = TellsNothing bytes
IsCalm (Lan bytes) = Unit {0}
IsCalm (Print event) = IsNoAlias event

pub calm_sayable : (orig : Mac) (log : Log) (root : ℕ) (w : World) (act : Act) → IsCalm act → Sayable orig log root w act
calm_sayable orig log root w (Link to reason bytes) calm y later = silent y (λ said. FrameSays orig log said root bytes) (nothing_says orig log y.said root bytes calm)
calm_sayable orig log root w (Lan bytes) calm y later = silent y (λ said. Unit {0}) tt
calm_sayable orig log root w (Print event) calm y later = silent y (λ said. Unit {0}) tt

-- a row of calm acts
pub calm_row : (orig : Mac) (log : Log) (root : ℕ) (w : World) (acts : List Act) → AllByRecursion IsCalm acts → AllByRecursion (Sayable orig log root w) acts
calm_row orig log root w [] calm = tt
calm_row orig log root w (act ∷ acts) calm = (calm_sayable orig log root w act calm.0, calm_row orig log root w acts calm.1)

-- a packet over a way, where there is one
pub over_row : (orig : Mac) (log : Log) (root : ℕ) (w : World) (next : Option Mac) (head : Head) (tail : List ℕ)
    → ((to : Mac) → Sayable orig log root w (sent_to to None head tail)) → AllByRecursion (Sayable orig log root w) (sent_over next head tail)
over_row orig log root w None head tail one = tt
over_row orig log root w (Some to) head tail one = (one to, tt)
