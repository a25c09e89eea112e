-- What a node is given leaves its settings, what it asked for and what it keeps of the fact store, but
-- for what sets one, and for what comes of the ARP table or of the store, or is asked of them.
use Rattle.std.proofs.Common.{◌≡◌, ◌&&◌, ℕ, Bool, true, false, cond, List, ◌∷◌, Option, Some, None, is_some, option_and_then, refl, ◌∙◌, ◌++◌, ap}
use Rattle.mesh_base.specs.declared.address.Mac.{Mac}
use Rattle.mesh_base.specs.declared.client.Entry.{Entry}
use Rattle.mesh_base.specs.declared.client.Key.{Key}
use Rattle.mesh_model.specs.declared.line_form.AlfredMode.{AlfredMode}
use Rattle.mesh_model.specs.declared.line_form.AlfredMode.TheVariants.{Off, Primary as IsPrimary, Secondary}
use Rattle.mesh_model.specs.declared.packet.Head.{Head}
use Rattle.mesh_model.specs.declared.packet.Head.TheVariants.{IvOgm, Bcast, Elp, Ogm2, Unicast, Frag, Unicast4, Icmp, Utvlv}
use Rattle.mesh_model.specs.Clients.Lans.{bridge}
use Rattle.mesh_model.specs.Clients.Log.{Log}
use Rattle.mesh_model.specs.Clients.Mentions.{Mention, key_of, mentions}
use Rattle.mesh_model.specs.Clients.Settings.{Settings}
use Rattle.mesh_model.specs.Knowledge.FactStore.{after_asking_for, after_fact_message, after_get, after_round, announcing, chosen_primary, if_announces}
use Rattle.mesh_model.specs.Knowledge.Known.{Broadcast, Knowledge, is_new_broadcast}
use Rattle.mesh_model.specs.Knowledge.Offers.{gateway_way}
use Rattle.mesh_model.specs.Fragments.Assembly.{PartCall, part_of}
use Rattle.mesh_model.specs.Knowledge.OwnPictures.{put_pictures}
use Rattle.mesh_model.specs.Knowledge.PutTogether.{after_part}
use Rattle.mesh_model.specs.Knowledge.Pairs.{after_arp}
use Rattle.mesh_model.specs.Knowledge.Served.{PrimaryCall}
use Rattle.mesh_model.specs.Knowledge.Steps.{Coming, after_announcement, after_answer, after_bridged, after_broadcast, after_reply, after_call, after_containers, after_frame, after_head, after_message, after_passed, after_roaming, after_sighting, after_round_at, after_sent, after_taken, after_tick, announced_by, before_announcement, before_round, before_telling, is_flooded, stays_on_lan, with_head, with_life, with_offered}
use Rattle.mesh_model.specs.Knowledge.Told.{Message, TableMessage, Asks, Answers, Neither, message_in, part_told}
use Rattle.mesh_model.specs.Commits.History.{is_commit_tick}
use Rattle.mesh_model.specs.Packets.ArpMessages.{ArpCame, arp_came}
use Rattle.mesh_model.specs.Packets.Containers.{containers_of}
use Rattle.mesh_model.specs.Packets.Contents.{first_part, first_roaming, first_table}
use Rattle.mesh_model.specs.Packets.FactMessages.{CameFact, FactMessage, HasPart, Primary, Requests, HasEnd, fact_message_of}
use Rattle.mesh_model.specs.Packets.Payload.{ClientFrame}
use Rattle.mesh_model.specs.Probes.OpenProbes.{is_answer}
use Rattle.mesh_model.specs.Routes.Addresses.{same_mac}
use Rattle.mesh_model.specs.Routes.Queries.{Queries}
use Rattle.mesh_model.specs.Routes.RouteLog.{OwnTick, is_round}
use Rattle.mesh_model.specs.Services.ArpTable.{PairCall}
use Rattle.mesh_model.specs.Services.Facts.{FactCall}
use Rattle.mesh_model.specs.Services.Transactions.{TxnCall}

-- the settings of a node, what it asked for, what it keeps of the fact store, and the parts of packets
-- that were cut
pub record Kept : Type 0 where
  pub settings : Settings
  pub asks : List PairCall
  pub primaries : List PrimaryCall
  pub facts : List FactCall
  pub pushes : List TxnCall
  pub answers : List TxnCall
  pub parts : List PartCall

-- those that are known
abbrev pub kept_of : Knowledge → Kept
kept_of known = record {
  settings = known.services.settings;
  asks = known.services.asks;
  primaries = known.services.primaries;
  facts = known.services.facts;
  pushes = known.services.pushes;
  answers = known.services.answers;
  parts = known.parts;
}

-- of two, each with these, one has them
either : (b : Bool) (x y : Knowledge) (k : Kept) → kept_of x ≡ k → kept_of y ≡ k → kept_of (cond b x y) ≡ k
either true x y k e f = e
either false x y k e f = f

-- ---- packets

life_kept : (orig : Mac) (begins : Bool) (known : Knowledge) → kept_of (with_life orig begins known) ≡ kept_of known
life_kept orig true known = refl
life_kept orig false known = refl

message_kept : (q : Queries) (came : Coming) (head : Head) (message : Message) (known : Knowledge)
    → kept_of (after_message q came head message known) ≡ kept_of known
message_kept q came head message known =
    let heard = q.hear known.routes came.now came.from came.throughput head in
    either heard.accepted (after_announcement q came message (before_announcement q came head message.orig known)) (with_head came head known)
    (kept_of known) (life_kept message.orig heard.began (with_head came head known)) refl

offered_kept : (accepted : Bool) (orig : Mac) (tail : List ℕ) (known : Knowledge)
    → kept_of (with_offered accepted orig tail known) ≡ kept_of known
offered_kept true orig tail known = refl
offered_kept false orig tail known = refl

taken_kept : (q : Queries) (came : Coming) (head : Head) (message : Option Message) (tail : List ℕ) (known : Knowledge)
    → kept_of (after_taken q came head message tail known) ≡ kept_of known
taken_kept q came head None tail known = refl
taken_kept q came head (Some message) tail known =
    offered_kept (q.hear known.routes came.now came.from came.throughput head).accepted message.orig tail (after_message q came head message known)
    ∙ message_kept q came head message known

answer_kept : (q : Queries) (now : ℕ) (src : Mac) (message : TableMessage) (known : Knowledge)
    → kept_of (after_answer q now src message known) ≡ kept_of known
answer_kept q now src (Asks full stamp) known = refl
answer_kept q now src (Answers stamp carried) known = either (q.live known.routes now src) _ known (kept_of known) refl refl
answer_kept q now src Neither known = refl

roaming_kept : (q : Queries) (now : ℕ) (src : Mac) (key : Option Key) (known : Knowledge)
    → kept_of (after_roaming q now src key known) ≡ kept_of known
roaming_kept q now src None known = refl
roaming_kept q now src (Some key) known = refl

containers_kept : (q : Queries) (now : ℕ) (src : Mac) (tail : List ℕ) (known : Knowledge)
    → kept_of (after_containers q now src tail known) ≡ kept_of known
containers_kept q now src tail known =
    let message = message_in (first_table (containers_of tail)) in
    let part = part_told (first_part (containers_of tail)) in
    roaming_kept q now src (first_roaming (containers_of tail)) (after_answer q now src part (after_answer q now src message known))
    ∙ answer_kept q now src part (after_answer q now src message known) ∙ answer_kept q now src message known

-- whether a packet may bring a payload
abbrev pub has_payload : Head → Bool
has_payload (IvOgm ttl flags seq orig prev tq) = false
has_payload (Bcast ttl seq orig) = true
has_payload (Elp orig seq interval) = false
has_payload (Ogm2 ttl flags seq orig throughput) = false
has_payload (Unicast ttl ttvn dst) = true
has_payload (Frag ttl number priority dst orig seq total) = true
has_payload (Unicast4 ttl ttvn dst src subtype) = false
has_payload (Icmp ttl msg dst orig uid seq) = false
has_payload (Utvlv ttl dst src) = false

-- the part that a packet with a head and a tail is at a moment, where it is a fragment
abbrev pub head_part : ℕ → Head → List ℕ → Option PartCall
head_part now (IvOgm ttl flags seq orig prev tq) tail = None
head_part now (Bcast ttl seq orig) tail = None
head_part now (Elp orig seq interval) tail = None
head_part now (Ogm2 ttl flags seq orig throughput) tail = None
head_part now (Unicast ttl ttvn dst) tail = None
head_part now (Frag ttl number priority dst orig seq total) tail = Some (part_of now orig seq total number tail)
head_part now (Unicast4 ttl ttvn dst src subtype) tail = None
head_part now (Icmp ttl msg dst orig uid seq) tail = None
head_part now (Utvlv ttl dst src) tail = None

-- what a packet with a head and a tail makes of what is known: these stay, or it is one of the ARP table or of
-- the fact store, or a part of a packet that was cut
pub data HasCome (now : ℕ) (head : Head) (tail : List ℕ) (known : Knowledge) : Knowledge → Type 0 where
  leaves : (after : Knowledge) → kept_of after ≡ kept_of known → HasCome now head tail known after
  brings : (came : Option ArpCame) → HasCome now head tail known (after_arp now came known)
  stores : (told : Option CameFact) (before : Knowledge) → has_payload head ≡ true → head_part now head tail ≡ None → ((came : CameFact) → told ≡ Some came → fact_message_of tail ≡ Some came)
      → kept_of before ≡ kept_of known → HasCome now head tail known (after_fact_message now told before)
  joins : (call : PartCall) → has_payload head ≡ true → head_part now head tail ≡ Some call → HasCome now head tail known (after_part call known)

-- what announces a primary is a message
announces : (o : Option CameFact) (came : CameFact) → option_and_then if_announces o ≡ Some came → o ≡ Some came
announces None came is = cc
announces (Some one) came is = go one.message is
  where
    go : (message : FactMessage) → announcing one message ≡ Some came → Some one ≡ Some came
    go (HasPart push id number facts) is = cc
    go Primary is = is
    go (Requests id type_no) is = cc
    go (HasEnd push id count) is = cc

announces_if : (b : Bool) (o : Option CameFact) (came : CameFact) → cond b (option_and_then if_announces o) None ≡ Some came → o ≡ Some came
announces_if true o came is = announces o came is
announces_if false o came is = cc

pub head_comes : (q : Queries) (me : Mac) (came : Coming) (message : Option Message) (tail : List ℕ) (head : Head) (known : Knowledge)
    → HasCome came.now head tail known (after_head q me came message tail head known)
head_comes q me came message tail (IvOgm ttl flags seq orig prev tq) known =
    leaves (after_taken q came (IvOgm ttl flags seq orig prev tq) message tail known) (taken_kept q came (IvOgm ttl flags seq orig prev tq) message tail known)
head_comes q me came message tail (Bcast ttl seq orig) known =
    let broadcast : Broadcast = record { orig = orig; number = seq } in
    stores (announced_by me came.now broadcast tail known) (after_broadcast me came.now broadcast known) refl refl
    (announces_if (is_new_broadcast me came.now broadcast known.taken) (fact_message_of tail))
    (either (is_new_broadcast me came.now broadcast known.taken) _ known (kept_of known) refl refl)
head_comes q me came message tail (Elp orig seq interval) known = leaves (with_head came (Elp orig seq interval) known) refl
head_comes q me came message tail (Ogm2 ttl flags seq orig throughput) known =
    leaves (after_taken q came (Ogm2 ttl flags seq orig throughput) message tail known) (taken_kept q came (Ogm2 ttl flags seq orig throughput) message tail known)
head_comes q me came message tail (Unicast ttl ttvn dst) known = go (same_mac dst me)
  where
    go : (b : Bool) → HasCome came.now (Unicast ttl ttvn dst) tail known (cond b (after_fact_message came.now (fact_message_of tail) known) known)
    go true = stores (fact_message_of tail) known refl refl (λ one is. is) refl
    go false = leaves known refl
head_comes q me came message tail (Frag ttl number priority dst orig seq total) known = go (same_mac dst me)
  where
    call : PartCall
    call = part_of came.now orig seq total number tail

    go : (b : Bool) → HasCome came.now (Frag ttl number priority dst orig seq total) tail known (cond b (after_part call known) known)
    go true = joins call refl refl
    go false = leaves known refl
head_comes q me came message tail (Unicast4 ttl ttvn dst src subtype) known = go (same_mac dst me)
  where
    go : (b : Bool) → HasCome came.now (Unicast4 ttl ttvn dst src subtype) tail known (cond b (after_arp came.now (arp_came subtype tail) known) known)
    go true = brings (arp_came subtype tail)
    go false = leaves known refl
head_comes q me came message tail (Icmp ttl msg dst orig uid seq) known =
    let answers = same_mac dst me && is_answer msg in
    leaves (cond answers (after_reply q came.now msg seq known) known) (either answers _ known (kept_of known) refl refl)
head_comes q me came message tail (Utvlv ttl dst src) known =
    leaves (cond (same_mac dst me) (after_containers q came.now src tail known) known)
    (either (same_mac dst me) (after_containers q came.now src tail known) known (kept_of known) (containers_kept q came.now src tail known) refl)

-- ---- lines, and frames of a LAN

pub frame_kept : (q : Queries) (now : ℕ) (key : Key) (known : Knowledge) → kept_of (after_frame q now key known) ≡ kept_of known
frame_kept q now key known = either (is_flooded q known now key) (after_sent known) known (kept_of known) refl refl

pub call_kept : (q : Queries) (now : ℕ) (known : Knowledge) → kept_of (after_call q now known) ≡ kept_of known
call_kept q now known = either (is_some (gateway_way q known now)) known (after_sent known) (kept_of known) refl refl

bridged_kept : (q : Queries) (now : ℕ) (stays : Bool) (key : Key) (known : Knowledge) → kept_of (after_bridged q now stays key known) ≡ kept_of known
bridged_kept q now true key known = refl
bridged_kept q now false key known = frame_kept q now key known

pub passed_kept : (q : Queries) (me : Mac) (older : Log) (known : Knowledge) (now : ℕ) (mentions : List Mention) (frame : Option ClientFrame)
    → kept_of (after_passed q me older known now mentions frame) ≡ kept_of known
passed_kept q me older known now mentions None = refl
passed_kept q me older known now mentions (Some frame) =
    let seen = after_sighting q me older now (key_of frame.src frame.vid) known in
    bridged_kept q now (stays_on_lan q mentions (bridge older).lan now (key_of frame.dst frame.vid) seen) (key_of frame.dst frame.vid) seen

-- a round leaves it
pub round_kept : (q : Queries) (now index : ℕ) (known : Knowledge) → kept_of (after_round_at q now index known) ≡ kept_of known
round_kept q now index known = go (is_round index)
  where
    by_part : (mode : AlfredMode) → kept_of (after_round q now mode known) ≡ kept_of known
    by_part Off = refl
    by_part IsPrimary = refl
    by_part Secondary = refl

    go : (b : Bool) → kept_of (cond b (after_round q now known.services.settings.fact_store known) known) ≡ kept_of known
    go true = by_part known.services.settings.fact_store
    go false = refl

-- what is kept after a tick, with the picture that is put
abbrev pub with_put : List FactCall → Kept → Kept
with_put put kept = record kept { facts = put ++ kept.facts }

pub tick_kept : (q : Queries) (me : Mac) (now index : ℕ) (table : List Entry) (known : Knowledge)
    → kept_of (after_tick q me now index table known) ≡ with_put (put_pictures q me now index table (before_round q now index known)) (kept_of known)
tick_kept q me now index table known = round_kept q now index (before_telling q me now index table known)
    ∙ ap (with_put (put_pictures q me now index table (before_round q now index known))) (either (is_commit_tick index) _ with_tick (kept_of known) refl refl)
  where
    with_tick : Knowledge
    with_tick = record known { routes = OwnTick now index ∷ known.routes }

pub get_kept : (q : Queries) (now type_no : ℕ) (mode : AlfredMode) (known : Knowledge) → kept_of (after_get q now type_no mode known) ≡ kept_of known
get_kept q now type_no Off known = refl
get_kept q now type_no IsPrimary known = refl
get_kept q now type_no Secondary known = go (chosen_primary q known now)
  where
    go : (o : Option Mac) → kept_of (after_asking_for type_no o known) ≡ kept_of known
    go None = refl
    go (Some primary) = refl
