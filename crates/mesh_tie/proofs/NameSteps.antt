-- What every node ever sent by table, by the acts in its log.
use Rattle.std.proofs.Common.{◌≡◌, ◌≢◌, ◌⊎◌, inl, inr, ◌-◌, ℕ, suc, true, false, List, [], ◌∷◌, ◌++◌, slice_get, Option, Some, None, Ok, refl, sym, ap, subst, ◌∙◌, arith}
use Rattle.std.specs.List.{AllByRecursion}
use Rattle.mesh_base.specs.declared.address.Mac.{Mac}
use Rattle.mesh_base.specs.declared.event.Reason.TheVariants.{Table}
use Rattle.mesh_model.specs.declared.act.Act.{Act}
use Rattle.mesh_model.specs.declared.act.Act.TheVariants.{Link, Lan, Print}
use Rattle.mesh_model.specs.Acts.Choosing.{acts_of, asking_acts, call_frame, calling_acts, claimed_first, client_acts, cutter_by, from_lan_acts, on_from_lan, probing_acts, sighting_acts, whole_acts}
use Rattle.mesh_model.specs.Acts.BridgeRows.{Place}
use Rattle.mesh_model.specs.Acts.FactRows.{fact_round_acts, get_acts}
use Rattle.mesh_model.specs.Acts.FrameRows.{frame_acts}
use Rattle.mesh_model.specs.Acts.Rows.{Own, own_by, packet_acts, packets_acts, tick_acts}
use Rattle.mesh_model.specs.Clients.Lans.{bridge}
use Rattle.mesh_model.specs.Clients.Log.{Given, Tick, LinkFrame, Frame, Gone, Join, Leave, Arp, Dhcp, Ping, Trace, Reboot, Log, LogEntry, LanFrame, Line, LineGiven, Attach, Sets, Put, Get, line_reboots}
use Rattle.mesh_model.specs.Clients.Mentions.{Mention, key_of, mentions, next_mentions, passed_from_lan}
use Rattle.mesh_model.specs.Commits.History.{commits, history, restarted}
use Rattle.mesh_model.specs.Knowledge.Known.{Knowledge}
use Rattle.mesh_model.specs.Knowledge.Steps.{Coming, advertised, after_packet, after_sighting, before_telling, knowledge, stays_on_lan, table_behind}
use Rattle.mesh_model.specs.Net.Due.{ticks_in}
use Rattle.mesh_model.specs.Net.Inputs.{entry_of, given_to, noted_at, noting}
use Rattle.mesh_model.specs.Net.Limits.{scenario_setup}
use Rattle.mesh_model.specs.Net.Mesh.{NodeLog, SentFrame, Mesh}
use Rattle.mesh_model.specs.Net.Next.{Has}
use Rattle.mesh_model.specs.Packets.FirstPacket.{Packet}
use Rattle.mesh_model.specs.Packets.LanFrames.{client_frame_in, lan_message_of}
use Rattle.mesh_model.specs.Packets.LinkFrame.{link_frame}
use Rattle.mesh_model.specs.Packets.Payload.{ClientFrame}
use Rattle.mesh_model.specs.Routes.Queries.{Queries}
use Rattle.mesh_model.specs.Tables.Known.{TableCalls, known_by, names}
use Rattle.mesh_model.specs.Tables.Versions.{Version}
use Rattle.mesh_laws.specs.Machine.Agreement.{HasNoAlias}
use Rattle.mesh_laws.specs.Machine.World.{World, commit_numbered}
use Rattle.mesh_laws.proofs.LastLogLemmas.{reboot_line}
use Rattle.mesh_laws.proofs.Schedule.Members.{one_some}
use Rattle.mesh_laws.proofs.Schedule.Steps.{get_front}
use Rattle.mesh_tie.specs.ByTable.{FramesByTable, HadCome, IsOfPacket, IsSentByTable, NamedThen}
use Rattle.mesh_tie.specs.Originators.{commits_of, log_of}
use Rattle.mesh_tie.specs.Sayings.{PacketSays}
use Rattle.mesh_tie.specs.Sources.{IsWhole, KeepsOriginators}
use Rattle.mesh_tie.specs.Steps.{IsReachable, Steps, TellsClient, begins, frame_comes, goes_on, lan_comes, lan_joins, line_gives, link_joins, node_joins, node_ticks, put_comes, put_reaches, time_passes, routes_told}
use Rattle.mesh_tie.specs.Tie.{CommitsFit, KnowsWhole, NodeIsTied, known_at_node}
use Rattle.mesh_tie.specs.TieLaws.{AllKeep}
use Rattle.mesh_tie.proofs.BridgeActs.{claimed_puts}
use Rattle.mesh_tie.proofs.EtherReading.{dst_whole, src_whole}
use Rattle.mesh_tie.proofs.CommitLemmas.{Follows, numbered_next}
use Rattle.mesh_tie.proofs.CutActs.{cut_any}
use Rattle.mesh_tie.proofs.EntryLemmas.{each_appended}
use Rattle.mesh_tie.proofs.FitLemmas.{commits_always_fit}
use Rattle.mesh_tie.proofs.KnowsLemmas.{packet_knows, sighting_knows}
use Rattle.mesh_tie.proofs.LogLemmas.{Grows, grows_same}
use Rattle.mesh_tie.proofs.LanSteps.{lan_read, passed_came}
use Rattle.mesh_tie.proofs.MeshSteps.{LogAfter, Reached, came_in, fits_among, frame_ready, grows_after, log_after, log_joined, midway_of}
use Rattle.mesh_tie.proofs.NodeLists.{Renewed, another, got_front, itself, renewed}
use Rattle.mesh_tie.proofs.ReachLemmas.{reached}
use Rattle.mesh_tie.proofs.NamesRows.{ActNames, CanName, IsClear, found_told, frame_names, names_aliases, names_if, names_tick, packet_names, plain_advert, plain_call, plain_bridges, plain_names, plain_question, plain_session, plain_store}
use Rattle.mesh_tie.proofs.FactActs.{get_stores, round_stores}
use Rattle.mesh_tie.proofs.NodeSteps.{Ready, packet_goes, ready_later}
use Rattle.mesh_tie.proofs.PacketSteps.{CameIn}
use Rattle.mesh_tie.proofs.Sayable.{one_or_two, packet_more}
use Rattle.mesh_tie.proofs.SentLemmas.{HasGiven, given_is}

-- ---- packets
can_name : (looks : Act → TableCalls → Type 0) (orig : Mac) (log : Log) (frames : List SentFrame) (w : World) (m : ℕ) (known : Knowledge) → ((act : Act) → looks act known.tables) → KnowsWhole known → IsClear orig log w → NodeIsTied orig log frames w.said (known_by known.tables orig) (w.nodes m) → CanName looks orig log frames known
can_name looks orig log frames w m known looked whole clear tied = record {
  whole = whole;
  looked = looked;
  found = λ key agreed named. found_told orig log frames w m known.tables key clear tied agreed named;
}

-- bytes that were sent by table were so, where what they name is named otherwise
sent_with : (P Q : TableCalls → Type 0) (orig : Mac) (log after : Log) (frames later : List SentFrame) (bytes : List ℕ) → ((payload : List ℕ) → NamedThen P orig log frames payload → NamedThen Q orig after later payload) → IsSentByTable P orig log frames bytes → IsSentByTable Q orig after later bytes
sent_with P Q orig log after frames later bytes name s = record {
  ttl = s.ttl;
  ttvn = s.ttvn;
  dst = s.dst;
  payload = s.payload;
  whole = s.whole;
  bytes_are = s.bytes_are;
  named = λ same. name s.payload (s.named same);
}

-- what had come for one act had come for it among more acts
sent_looks : (P Q : TableCalls → Type 0) (orig : Mac) (log : Log) (frames : List SentFrame) (bytes : List ℕ) → ((came : TableCalls) → P came → Q came) → IsSentByTable P orig log frames bytes → IsSentByTable Q orig log frames bytes
sent_looks P Q orig log frames bytes more s = sent_with P Q orig log log frames frames bytes (λ payload n. record { came = n.came; then = more n.came n.then; names_client = n.names_client }) s

act_looks : (P Q : Act → TableCalls → Type 0) (orig : Mac) (log : Log) (frames : List SentFrame) (act : Act) → ((came : TableCalls) → P act came → Q act came) → ActNames P orig log frames act → ActNames Q orig log frames act
act_looks P Q orig log frames (Link to reason bytes) more a = λ is. sent_looks (P (Link to reason bytes)) (Q (Link to reason bytes)) orig log frames bytes more (a is)
act_looks P Q orig log frames (Lan bytes) more a = tt
act_looks P Q orig log frames (Print event) more a = a

acts_look : (P Q : Act → TableCalls → Type 0) (orig : Mac) (log : Log) (frames : List SentFrame) (acts : List Act) → ((act : Act) → Has acts act → (came : TableCalls) → P act came → Q act came) → AllByRecursion (ActNames P orig log frames) acts → AllByRecursion (ActNames Q orig log frames) acts
acts_look P Q orig log frames [] more a = tt
acts_look P Q orig log frames (act ∷ acts) more a = (act_looks P Q orig log frames act (more act (inl refl)) a.0, acts_look P Q orig log frames acts (λ other has. more other (inr has)) a.1)

packets_name : (orig : Mac) (log : Log) (frames : List SentFrame) (root : ℕ) (w : World) (m : ℕ) (q : Queries) (me : Mac) (own : Own) (came : Coming) (packets : List Packet) (known : Knowledge)
    → KeepsOriginators me q → IsWhole came.from → CameIn frames root came.number → Ready orig w m me own → NodeIsTied orig log frames w.said (known_by known.tables orig) (w.nodes m)
    → ((packet : Packet) → Has packets packet → PacketSays orig log w.said root packet) → HasNoAlias w.commits → w.commits ≡ commits orig log → KnowsWhole known
    → AllByRecursion (ActNames (IsOfPacket q me own came known packets) orig log frames) (packets_acts q me own came known packets)
unfolding packets_acts
packets_name orig log frames root w m q me own came [] known keeps from f r tied says none made whole = tt
packets_name orig log frames root w m q me own came (packet ∷ rest) known keeps from f r tied says none made whole =
    let next = after_packet q me came known packet in
    let Here : Act → TableCalls → Type 0 = λ act c. c ≡ known.tables in
    let one = packet_goes orig log frames root w m q me own came packet known keeps from f r tied (says packet (inl refl)) in
    let clear : IsClear orig log w = record { base = r.base; none = none; commits = made } in
    each_appended (ActNames (IsOfPacket q me own came known (packet ∷ rest)) orig log frames) (packet_acts q me own came known packet) (packets_acts q me own came next rest)
    (acts_look Here (IsOfPacket q me own came known (packet ∷ rest)) orig log frames (packet_acts q me own came known packet)
    (λ act has c is. record { front = []; packet = packet; back = rest; packets_are = refl; among = has; came_is = is })
    (packet_names Here orig log frames q me own came packet known (can_name Here orig log frames w m known (λ act. refl) whole clear tied)))
    (acts_look (IsOfPacket q me own came next rest) (IsOfPacket q me own came known (packet ∷ rest)) orig log frames (packets_acts q me own came next rest)
    (λ act has c is. record { front = packet ∷ is.front; packet = is.packet; back = is.back; packets_are = ap (λ ps. packet ∷ ps) is.packets_are; among = is.among; came_is = is.came_is })
    (packets_name orig log frames root one.world m q me own came rest next keeps from f (ready_later orig w one.world m me own r one.path one.commits) one.tied
    (λ p has. packet_more orig log w.said one.world.said root p one.more (says p (inr has))) (subst HasNoAlias (sym one.commits) none) (one.commits ∙ made)
    (packet_knows q me came packet known (says packet (inl refl)).addresses whole)))

-- ---- one input
-- all that had come before an input
abbrev Before : Queries → Mac → Log → Act → TableCalls → Type 0
Before q me mine act came = came ≡ (knowledge q me mine).tables

-- the acts of an input, from the world midway
line_names : (orig : Mac) (log : Log) (frames : List SentFrame) (v : World) (m : ℕ) (q : Queries) (me : Mac) (mine : Log) (now : ℕ) (line : LineGiven) → TellsClient line → KnowsWhole (knowledge q me mine) → IsClear orig log v
    → NodeIsTied orig log frames v.said (known_by (knowledge q me mine).tables orig) (v.nodes m) → AllByRecursion (ActNames (Before q me mine) orig log frames) (whole_acts q me mine now (Line line))
line_names orig log frames v m q me mine now (Attach lan gateways) of k clear tied = tt
line_names orig log frames v m q me mine now (Frame src dst vid text) of k clear tied =
    let client : ClientFrame = record { dst = dst; src = src; vid = vid; text = text } in
    let key = key_of src vid in
    let known = knowledge q me mine in
    let seen = after_sighting q me mine now key known in
    let ms = next_mentions me mine (mentions me mine) now (Line (Frame src dst vid text)) in
    each_appended (ActNames (Before q me mine) orig log frames) (sighting_acts q me mine now key) (client_acts q me mine now client)
    (plain_names (Before q me mine) orig log frames (sighting_acts q me mine now key) (plain_advert me key (advertised q me mine known now key)))
    (frame_names (Before q me mine) orig log frames q seen ms (record { me = me; now = now }) client of.1 of.0.fits.address
    (can_name (Before q me mine) orig log frames v m seen (λ act. refl) (sighting_knows q me mine now key known k) clear tied))
line_names orig log frames v m q me mine now (Gone key) of k clear tied = tt
line_names orig log frames v m q me mine now (Join key) of k clear tied = tt
line_names orig log frames v m q me mine now (Leave key) of k clear tied = tt
line_names orig log frames v m q me mine now (Arp mac own_ip asked_ip vid) of k clear tied =
    let key = key_of mac vid in
    let known = after_sighting q me mine now key (knowledge q me mine) in
    let asking = asking_acts q me mine now mac own_ip asked_ip vid in
    each_appended (ActNames (Before q me mine) orig log frames) (sighting_acts q me mine now key) asking
    (plain_names (Before q me mine) orig log frames (sighting_acts q me mine now key) (plain_advert me key (advertised q me mine (knowledge q me mine) now key)))
    (plain_names (Before q me mine) orig log frames asking (plain_question q known (record { me = me; now = now }) mac own_ip asked_ip vid))
line_names orig log frames v m q me mine now (Dhcp key text) of k clear tied =
    let known = after_sighting q me mine now key (knowledge q me mine) in
    each_appended (ActNames (Before q me mine) orig log frames) (sighting_acts q me mine now key) (calling_acts q me mine now key text)
    (plain_names (Before q me mine) orig log frames (sighting_acts q me mine now key) (plain_advert me key (advertised q me mine (knowledge q me mine) now key)))
    (plain_names (Before q me mine) orig log frames (calling_acts q me mine now key text) (plain_call q known (record { me = me; now = now }) (call_frame key text)))
line_names orig log frames v m q me mine now (Sets setting) of k clear tied = tt
line_names orig log frames v m q me mine now (Put type_no version text) of k clear tied = tt
line_names orig log frames v m q me mine now (Get type_no) of k clear tied =
    let known = knowledge q me mine in
    let at : Place = record { me = me; now = now } in
    plain_names (Before q me mine) orig log frames (get_acts q known at type_no) (plain_store me (get_acts q known at type_no) (get_stores q known at type_no))
line_names orig log frames v m q me mine now (Ping target) of k clear tied =
    let known = knowledge q me mine in
    plain_names (Before q me mine) orig log frames (probing_acts q me mine now target false) (plain_session q known (record { me = me; now = now }) target false)
line_names orig log frames v m q me mine now (Trace target) of k clear tied =
    let known = knowledge q me mine in
    plain_names (Before q me mine) orig log frames (probing_acts q me mine now target true) (plain_session q known (record { me = me; now = now }) target true)
line_names orig log frames v m q me mine now Reboot of k clear tied = let old = history me mine in names_aliases (Before q me mine) orig log frames me old.commits (restarted old).commits

-- a frame of a LAN
lan_names : (orig : Mac) (log : Log) (frames : List SentFrame) (v : World) (m : ℕ) (q : Queries) (me : Mac) (mine : Log) (now : ℕ) (bytes : List ℕ) → KnowsWhole (knowledge q me mine) → IsClear orig log v
    → NodeIsTied orig log frames v.said (known_by (knowledge q me mine).tables orig) (v.nodes m) → AllByRecursion (ActNames (Before q me mine) orig log frames) (whole_acts q me mine now (LanFrame bytes))
lan_names orig log frames v m q me mine now bytes k clear tied =
    each_appended Names (claimed_first me mine now came) (from_lan_acts q me mine now ms (passed_from_lan me mine now came))
    (plain_names (Before q me mine) orig log frames (claimed_first me mine now came) (plain_bridges (claimed_first me mine now came) (claimed_puts me mine now came)))
    (go (passed_from_lan me mine now came) (λ frame is. passed_came me mine now came frame is))
  where
    known : Knowledge
    known = knowledge q me mine

    Names : Act → Type 0
    Names act = ActNames (Before q me mine) orig log frames act

    came : Option ClientFrame
    came = client_frame_in (lan_message_of bytes)

    ms : List Mention
    ms = next_mentions me mine (mentions me mine) now (LanFrame bytes)

    go : (o : Option ClientFrame) → ((frame : ClientFrame) → o ≡ Some frame → client_frame_in (lan_message_of bytes) ≡ Some frame) → AllByRecursion (ActNames (Before q me mine) orig log frames) (from_lan_acts q me mine now ms o)
    go None from = tt
    go (Some frame) from =
        let read = lan_read bytes frame (from frame refl) in
        let key = key_of frame.src frame.vid in
        let seen = after_sighting q me mine now key known in
        let acts = frame_acts q seen ms (record { me = me; now = now }) frame in
        each_appended (ActNames (Before q me mine) orig log frames) (sighting_acts q me mine now key) (on_from_lan q me mine now seen ms frame)
        (plain_names (Before q me mine) orig log frames (sighting_acts q me mine now key) (plain_advert me key (advertised q me mine known now key)))
        (names_if (Before q me mine) orig log frames (stays_on_lan q ms (bridge mine).lan now (key_of frame.dst frame.vid) seen) [] acts tt
        (frame_names (Before q me mine) orig log frames q seen ms (record { me = me; now = now }) frame (dst_whole bytes frame read) (src_whole bytes frame read)
        (can_name (Before q me mine) orig log frames v m seen (λ act. refl) (sighting_knows q me mine now key known k) clear tied)))

-- ---- it stays so
name_grows : (looks : TableCalls → Type 0) (orig : Mac) (log after : Log) (frames more : List SentFrame) (payload : List ℕ) → Grows orig log after → NamedThen looks orig log frames payload → NamedThen looks orig after (frames ++ more) payload
name_grows looks orig log after frames more payload g h =
    let n = h.names_client in
    record {
      came = h.came;
      then = h.then;
      names_client = record {
        client = n.client;
        carried = n.carried;
        last = n.last;
        told = n.told;
        frame = n.frame;
        sent = get_front frames more (n.last.frame - 1) n.frame n.sent;
        past = let past = n.past in let ticks = g.ticks in omega (arith, past, ticks);
        named = subst (λ c. Rattle.std.specs.Prelude.IsTrue (names (key_of n.client.dst n.client.vid) (Some c))) (sym (g.roots n.frame.root n.past)) n.named;
      };
    }

pub sent_grows : (looks : TableCalls → Type 0) (orig : Mac) (log after : Log) (frames more : List SentFrame) (bytes : List ℕ) → Grows orig log after → IsSentByTable looks orig log frames bytes → IsSentByTable looks orig after (frames ++ more) bytes
sent_grows looks orig log after frames more bytes g s = sent_with looks looks orig log after frames (frames ++ more) bytes (λ payload n. name_grows looks orig log after frames more payload g n) s

act_grows : (looks : Act → TableCalls → Type 0) (orig : Mac) (log after : Log) (frames more : List SentFrame) (act : Act) → Grows orig log after → ActNames looks orig log frames act → ActNames looks orig after (frames ++ more) act
act_grows looks orig log after frames more (Link to reason bytes) g a = λ is. sent_grows (looks (Link to reason bytes)) orig log after frames more bytes g (a is)
act_grows looks orig log after frames more (Lan bytes) g a = tt
act_grows looks orig log after frames more (Print event) g a = a

abbrev pub AllName : (Act → TableCalls → Type 0) → Mac → Log → List SentFrame → List Act → Type 0
AllName looks orig log frames acts = AllByRecursion (ActNames looks orig log frames) acts

acts_grow : (looks : Act → TableCalls → Type 0) (orig : Mac) (log after : Log) (frames more : List SentFrame) (acts : List Act) → Grows orig log after → AllName looks orig log frames acts → AllName looks orig after (frames ++ more) acts
acts_grow looks orig log after frames more [] g a = tt
acts_grow looks orig log after frames more (act ∷ acts) g a = (act_grows looks orig log after frames more act g a.0, acts_grow looks orig log after frames more acts g a.1)

-- what an entry of a node behind a log says of what was sent by table
abbrev pub EntryNames : (Mac → Queries) → Mac → Mac → Log → List SentFrame → Log → LogEntry → Type 0
EntryNames queries orig me log frames older entry = AllName (HadCome (queries me) me older entry.moment entry.given) orig log frames entry.acts

entry_grows : (queries : Mac → Queries) (orig me : Mac) (log after : Log) (frames more : List SentFrame) (older : Log) (entry : LogEntry) → Grows orig log after → EntryNames queries orig me log frames older entry → EntryNames queries orig me after (frames ++ more) older entry
entry_grows queries orig me log after frames more older entry g names = acts_grow (HadCome (queries me) me older entry.moment entry.given) orig log after frames more entry.acts g names

-- what a mesh's logs say of what was sent by table
abbrev Named : (Mac → Queries) → Mac → Mesh → Type 0
Named queries orig mesh = (place : ℕ) (node : NodeLog) (newer older : Log) (entry : LogEntry) → slice_get mesh.nodes place ≡ Some node → node.log ≡ newer ++ entry ∷ older → EntryNames queries orig node.mac (log_of orig mesh.nodes) mesh.frames older entry

heads : {X : Type 0} (a b : X) (xs ys : List X) → a ∷ xs ≡ b ∷ ys → (a ≡ b) × (xs ≡ ys)
heads a b xs ys is = (cc, cc)

-- an input at a node
given_named : (queries : Mac → Queries) (orig : Mac) (mesh after : Mesh) (place now root : ℕ) (node : NodeLog) (given : Given) → Named queries orig mesh → slice_get mesh.nodes place ≡ Some node → Follows node.log given
    → LogAfter orig node (entry_of (scenario_setup queries) node now given) (log_of orig mesh.nodes) (log_of orig (noted_at place (entry_of (scenario_setup queries) node now given) mesh.nodes))
    → given_to (scenario_setup queries) place now root given mesh ≡ Ok after
    → EntryNames queries orig node.mac (log_of orig (noted_at place (entry_of (scenario_setup queries) node now given) mesh.nodes)) mesh.frames node.log (entry_of (scenario_setup queries) node now given)
    → Named queries orig after
given_named queries orig mesh after place now root node given named found next l is new at n newer older e got split =
    subst (λ log. EntryNames queries orig n.mac log after.frames older e) (ap (log_of orig) (sym given_has.nodes))
    (subst (λ fs. EntryNames queries orig n.mac later fs older e) (sym given_has.frames)
    (go (renewed place entry mesh.nodes at n (subst (λ ns. slice_get ns at ≡ Some n) given_has.nodes got))))
  where
    entry : LogEntry
    entry = entry_of (scenario_setup queries) node now given

    later : Log
    later = log_of orig (noted_at place (entry_of (scenario_setup queries) node now given) mesh.nodes)

    given_has : HasGiven (scenario_setup queries) place now root node given mesh after
    given_has = given_is (scenario_setup queries) place now root node given mesh after found is

    grows : Grows orig (log_of orig mesh.nodes) later
    grows = grows_after orig node entry (log_of orig mesh.nodes) later l next

    here : (newer : Log) → entry ∷ node.log ≡ newer ++ e ∷ older → EntryNames queries orig node.mac later (mesh.frames ++ given_has.more) older e
    here [] is =
        let parts = heads entry e node.log older is in
        subst (λ x. EntryNames queries orig node.mac later (mesh.frames ++ given_has.more) x e) parts.1
        (subst (EntryNames queries orig node.mac later (mesh.frames ++ given_has.more) node.log) parts.0
        (entry_grows queries orig node.mac later later mesh.frames given_has.more node.log entry (grows_same orig later later refl) new))
    here (x ∷ more) is =
        entry_grows queries orig node.mac (log_of orig mesh.nodes) later mesh.frames given_has.more older e grows (named place node more older e found (heads entry x node.log (more ++ e ∷ older) is).1)

    go : Renewed place entry mesh.nodes at n → EntryNames queries orig n.mac later (mesh.frames ++ given_has.more) older e
    go (another d old) = entry_grows queries orig n.mac (log_of orig mesh.nodes) later mesh.frames given_has.more older e grows (named at n newer older e old split)
    go (itself before same old noted) =
        let one : node ≡ before = one_some node before (sym found ∙ ap (slice_get mesh.nodes) same ∙ old) in
        let after_is : noting entry node ≡ n = ap (noting entry) one ∙ sym noted in
        subst (λ (x : NodeLog). EntryNames queries orig x.mac later (mesh.frames ++ given_has.more) older e) after_is
        (here newer (ap (λ (x : NodeLog). x.log) after_is ∙ split))

-- ---- commits only grow
commits_kept : (orig : Mac) (node : NodeLog) (entry : LogEntry) (log after : Log) → LogAfter orig node entry log after → (n : ℕ) (version : Version) → commit_numbered n (commits orig log) ≡ Some version → commit_numbered n (commits orig after) ≡ Some version
commits_kept orig node entry log after l n version is = go (one_or_two node.mac orig)
  where
    go : (node.mac ≡ orig) ⊎ (node.mac ≢ orig) → commit_numbered n (commits orig after) ≡ Some version
    go (inl same) =
        let parts = l.itself same in
        ap (λ x. commit_numbered n (commits orig x)) parts.1
        ∙ numbered_next (mentions orig node.log) (history orig node.log) entry.moment entry.given n version (ap (λ x. commit_numbered n (commits orig x)) (sym parts.0) ∙ is)
    go (inr other) = ap (λ x. commit_numbered n (commits orig x)) (l.other other) ∙ is

none_before : (before after : List Version) → ((n : ℕ) (version : Version) → commit_numbered n before ≡ Some version → commit_numbered n after ≡ Some version) → HasNoAlias after → HasNoAlias before
none_before before after kept none one other a b = none one other (a.0, kept a.0 one a.1) (b.0, kept b.0 other b.1)

-- ---- all steps
joined_named : (queries : Mac → Queries) (orig : Mac) (mesh : Mesh) (new : NodeLog) → new.log ≡ [] → Named queries orig mesh → Named queries orig (record mesh { nodes = mesh.nodes ++ new ∷ [] })
joined_named queries orig mesh new empty named at n newer older e got split = subst (λ log. EntryNames queries orig n.mac log mesh.frames older e) (sym (log_joined orig mesh.nodes new empty)) (go (got_front mesh.nodes new at n got))
  where
    no_entry : (newer : Log) → [] ≡ newer ++ e ∷ older → ⊥
    no_entry [] is = cc
    no_entry (x ∷ newer) is = cc

    go : (slice_get mesh.nodes at ≡ Some n) ⊎ ((n ≡ new) × (slice_get mesh.nodes at ≡ None)) → EntryNames queries orig n.mac (log_of orig mesh.nodes) mesh.frames older e
    go (inl old) = named at n newer older e old split
    go (inr is) = absurd (no_entry newer (sym (ap (λ (x : NodeLog). x.log) is.0 ∙ empty) ∙ split))

-- where the mesh before is named, once no two commits are an alias
abbrev NamedIf : (Mac → Queries) → Mac → Mesh → Type 0
NamedIf queries orig mesh = HasNoAlias (commits_of orig mesh) → Named queries orig mesh

-- fragments are sent by no table
cut_names : (queries : Mac → Queries) (orig me : Mac) (log : Log) (frames : List SentFrame) (older : Log) (now : ℕ) (given : Given) → AllName (HadCome (queries me) me older now given) orig log frames (whole_acts (queries me) me older now given)
    → AllName (HadCome (queries me) me older now given) orig log frames (acts_of (queries me) me older now given)
cut_names queries orig me log frames older now given all =
    cut_any (ActNames (HadCome (queries me) me older now given) orig log frames) (cutter_by (queries me) me older) (whole_acts (queries me) me older now given) (λ to ttl place dst mac number total tail. λ is. cc) all

-- what the acts of a step's input name, where no two commits behind it are an alias
pub line_acts_name : (queries : Mac → Queries) (mesh : Mesh) (place now : ℕ) (node : NodeLog) (line : LineGiven) (orig : Mac) → TellsClient line → Reached queries mesh → slice_get mesh.nodes place ≡ Some node
    → HasNoAlias (commits orig (log_of orig (noted_at place (entry_of (scenario_setup queries) node now (Line line)) mesh.nodes)))
    → EntryNames queries orig node.mac (log_of orig (noted_at place (entry_of (scenario_setup queries) node now (Line line)) mesh.nodes)) mesh.frames node.log (entry_of (scenario_setup queries) node now (Line line))
line_acts_name queries mesh place now node line orig of h found clear =
    let entry = entry_of (scenario_setup queries) node now (Line line) in
    let log = log_of orig (noted_at place entry mesh.nodes) in
    let l = log_after queries orig mesh place node entry h.holds.orderly found in
    let tie = h.ties orig in
    let v = midway_of queries orig mesh node entry log tie.0 l tt tie.1 tie.2 in
    cut_names queries orig node.mac log mesh.frames node.log now (Line line)
    (line_names orig log mesh.frames v.0 place (queries node.mac) node.mac node.log now line of (h.holds.orderly.knows place node found)
    (record { base = v.1.base; none = subst HasNoAlias (sym v.1.commits) clear; commits = v.1.commits }) (v.1.nodes place node found))

-- those of a reboot send nothing
pub reboot_names : (queries : Mac → Queries) (mesh : Mesh) (place now : ℕ) (node : NodeLog) (line : LineGiven) (orig : Mac) (log : Log) → line_reboots line ≡ true
    → EntryNames queries orig node.mac log mesh.frames node.log (entry_of (scenario_setup queries) node now (Line line))
reboot_names queries mesh place now node line orig log is =
    let old = history node.mac node.log in
    let Looks : Act → TableCalls → Type 0 = Before (queries node.mac) node.mac node.log in
    cut_names queries orig node.mac log mesh.frames node.log now (Line line)
    (subst (λ x. AllByRecursion (ActNames Looks orig log mesh.frames) (whole_acts (queries node.mac) node.mac node.log now (Line x))) (sym (reboot_line line is))
    (names_aliases Looks orig log mesh.frames node.mac old.commits (restarted old).commits))

pub lan_acts_name : (queries : Mac → Queries) (mesh : Mesh) (place now : ℕ) (node : NodeLog) (bytes : List ℕ) (orig : Mac) → Reached queries mesh → slice_get mesh.nodes place ≡ Some node
    → HasNoAlias (commits orig (log_of orig (noted_at place (entry_of (scenario_setup queries) node now (LanFrame bytes)) mesh.nodes)))
    → EntryNames queries orig node.mac (log_of orig (noted_at place (entry_of (scenario_setup queries) node now (LanFrame bytes)) mesh.nodes)) mesh.frames node.log (entry_of (scenario_setup queries) node now (LanFrame bytes))
lan_acts_name queries mesh place now node bytes orig h found clear =
    let entry = entry_of (scenario_setup queries) node now (LanFrame bytes) in
    let log = log_of orig (noted_at place entry mesh.nodes) in
    let l = log_after queries orig mesh place node entry h.holds.orderly found in
    let tie = h.ties orig in
    let v = midway_of queries orig mesh node entry log tie.0 l tt tie.1 tie.2 in
    cut_names queries orig node.mac log mesh.frames node.log now (LanFrame bytes)
    (lan_names orig log mesh.frames v.0 place (queries node.mac) node.mac node.log now bytes (h.holds.orderly.knows place node found)
    (record { base = v.1.base; none = subst HasNoAlias (sym v.1.commits) clear; commits = v.1.commits }) (v.1.nodes place node found))

pub tick_names : (queries : Mac → Queries) (mesh : Mesh) (place now : ℕ) (node : NodeLog) (orig : Mac) (log : Log)
    → EntryNames queries orig node.mac log mesh.frames node.log (entry_of (scenario_setup queries) node now (Tick (suc (ticks_in node.log))))
tick_names queries mesh place now node orig log =
    let known = known_at_node queries node in
    let q = queries node.mac in
    let index = suc (ticks_in node.log) in
    let before = before_telling q node.mac now index (table_behind node.mac node.log now index) known in
    let at : Place = record { me = node.mac; now = now } in
    let told = fact_round_acts q before at index in
    cut_names queries orig node.mac log mesh.frames node.log now (Tick index)
    (each_appended (ActNames (Before q node.mac node.log) orig log mesh.frames)
    (tick_acts q node.mac known.services.settings known.routes (mentions node.mac node.log) (history node.mac node.log) (bridge node.log) now index) told
    (names_tick (Before q node.mac node.log) orig log mesh.frames q node.mac known.services.settings known.routes (mentions node.mac node.log) (history node.mac node.log) (bridge node.log) now index)
    (plain_names (Before q node.mac node.log) orig log mesh.frames told (plain_store node.mac told (round_stores q before at index))))

pub frame_acts_name : (queries : Mac → Queries) (mesh after : Mesh) (place now number throughput : ℕ) (from : Mac) (node : NodeLog) (frame : SentFrame) (orig : Mac) → AllKeep queries → Reached queries mesh → CommitsFit after → slice_get mesh.nodes place ≡ Some node
    → slice_get mesh.frames number ≡ Some frame → IsWhole from → given_to (scenario_setup queries) place now frame.root (LinkFrame (suc number) from throughput frame.bytes) mesh ≡ Ok after
    → HasNoAlias (commits orig (log_of orig (noted_at place (entry_of (scenario_setup queries) node now (LinkFrame (suc number) from throughput frame.bytes)) mesh.nodes)))
    → EntryNames queries orig node.mac (log_of orig (noted_at place (entry_of (scenario_setup queries) node now (LinkFrame (suc number) from throughput frame.bytes)) mesh.nodes)) mesh.frames node.log
    (entry_of (scenario_setup queries) node now (LinkFrame (suc number) from throughput frame.bytes))
frame_acts_name queries mesh after place now number throughput from node frame orig keep h fit found sent whole is clear =
    let given = LinkFrame (suc number) from throughput frame.bytes in
    let entry = entry_of (scenario_setup queries) node now given in
    let log = log_of orig (noted_at place entry mesh.nodes) in
    let has = given_is (scenario_setup queries) place now frame.root node given mesh after found is in
    let l = log_after queries orig mesh place node entry h.holds.orderly found in
    let tie = h.ties orig in
    let v = midway_of queries orig mesh node entry log tie.0 l tt tie.1 tie.2 in
    let known = known_at_node queries node in
    let came : Coming = record { now = now; from = from; throughput = throughput; number = suc number } in
    let packets = (link_frame frame.bytes).packets in
    cut_names queries orig node.mac log mesh.frames node.log now given
    (packets_name orig log mesh.frames frame.root v.0 place (queries node.mac) node.mac (own_by node.mac node.log) came packets known (keep node.mac) whole
    (came_in mesh number frame sent)
    (frame_ready queries orig mesh place now (suc number) throughput from node frame.bytes (log_of orig mesh.nodes) log h.holds.orderly found l (h.holds.fits place node found)
    (subst (λ ns. Rattle.mesh_tie.proofs.EntryLemmas.OfCommits Rattle.mesh_tie.specs.Tie.FitsEntry (commits orig (log_of orig ns))) has.nodes (fits_among after.nodes fit orig)) v.0 v.1)
    (v.1.nodes place node found) (v.1.frames number frame sent) (subst HasNoAlias (sym v.1.commits) clear) v.1.commits (h.holds.orderly.knows place node found))

step_named : (queries : Mac → Queries) (mesh after : Mesh) → AllKeep queries → Reached queries mesh → CommitsFit after → Steps queries mesh after → (orig : Mac) → NamedIf queries orig mesh → NamedIf queries orig after
step_named queries mesh _ keep h fit (node_joins _ node empty whole fresh) orig named none = joined_named queries orig mesh node empty (named (subst (λ l. HasNoAlias (commits orig l)) (log_joined orig mesh.nodes node empty) none))
step_named queries mesh _ keep h fit (link_joins _ link) orig named none = named none
step_named queries mesh after keep h fit (line_gives _ _ place now node line found may of is) orig named none =
    let entry = entry_of (scenario_setup queries) node now (Line line) in
    let log = log_of orig (noted_at place entry mesh.nodes) in
    let has = given_is (scenario_setup queries) place now 0 node (Line line) mesh after found is in
    let l = log_after queries orig mesh place node entry h.holds.orderly found in
    let clear : HasNoAlias (commits orig log) = subst (λ ns. HasNoAlias (commits orig (log_of orig ns))) (has.nodes) none in
    given_named queries orig mesh after place now 0 node (Line line) (named (none_before (commits orig (log_of orig mesh.nodes)) (commits orig log) (commits_kept orig node entry (log_of orig mesh.nodes) log l) clear)) found tt l is
    (line_acts_name queries mesh place now node line orig of h found clear)
step_named queries mesh after keep h fit (node_ticks _ _ place now node found may is) orig named none =
    let index = suc (ticks_in node.log) in
    let entry = entry_of (scenario_setup queries) node now (Tick index) in
    let log = log_of orig (noted_at place entry mesh.nodes) in
    let has = given_is (scenario_setup queries) place now index node (Tick index) mesh after found is in
    let l = log_after queries orig mesh place node entry h.holds.orderly found in
    let clear : HasNoAlias (commits orig log) = subst (λ ns. HasNoAlias (commits orig (log_of orig ns))) (has.nodes) none in
    given_named queries orig mesh after place now index node (Tick index) (named (none_before (commits orig (log_of orig mesh.nodes)) (commits orig log) (commits_kept orig node entry (log_of orig mesh.nodes) log l) clear)) found refl l is
    (tick_names queries mesh place now node orig log)
step_named queries mesh after keep h fit (frame_comes _ _ place now number throughput from node frame found may sent whole is) orig named none =
    let given = LinkFrame (suc number) from throughput frame.bytes in
    let entry = entry_of (scenario_setup queries) node now given in
    let log = log_of orig (noted_at place entry mesh.nodes) in
    let has = given_is (scenario_setup queries) place now frame.root node given mesh after found is in
    let l = log_after queries orig mesh place node entry h.holds.orderly found in
    let clear : HasNoAlias (commits orig log) = subst (λ ns. HasNoAlias (commits orig (log_of orig ns))) (has.nodes) none in
    given_named queries orig mesh after place now frame.root node given (named (none_before (commits orig (log_of orig mesh.nodes)) (commits orig log) (commits_kept orig node entry (log_of orig mesh.nodes) log l) clear)) found tt l is
    (frame_acts_name queries mesh after place now number throughput from node frame orig keep h fit found sent whole is clear)
step_named queries mesh _ keep h fit (lan_joins _ lan) orig named none = named none
step_named queries mesh _ keep h fit (put_comes _ put frame by is tells) orig named none = named none
step_named queries mesh _ keep h fit (put_reaches _ number now put frame found carries) orig named none = named none
step_named queries mesh after keep h fit (lan_comes _ _ place now number node put found may among is) orig named none =
    let given = LanFrame put.bytes in
    let entry = entry_of (scenario_setup queries) node now given in
    let log = log_of orig (noted_at place entry mesh.nodes) in
    let has = given_is (scenario_setup queries) place now 0 node given mesh after found is in
    let l = log_after queries orig mesh place node entry h.holds.orderly found in
    let clear : HasNoAlias (commits orig log) = subst (λ ns. HasNoAlias (commits orig (log_of orig ns))) (has.nodes) none in
    given_named queries orig mesh after place now 0 node given (named (none_before (commits orig (log_of orig mesh.nodes)) (commits orig log) (commits_kept orig node entry (log_of orig mesh.nodes) log l) clear)) found tt l is
    (lan_acts_name queries mesh place now node put.bytes orig h found clear)
step_named queries mesh _ keep h fit (time_passes _ happening) orig named none = named none
step_named queries mesh _ keep h fit (routes_told _ lines watch) orig named none = named none

all_named : (queries : Mac → Queries) → AllKeep queries → (mesh : Mesh) → IsReachable queries mesh → (orig : Mac) → NamedIf queries orig mesh
all_named queries keep _ (begins watch) orig = λ none place node newer older entry got split. cc
all_named queries keep _ (goes_on mesh after r s) orig =
    step_named queries mesh after keep (reached queries keep mesh r) (commits_always_fit queries keep after (goes_on mesh after r s)) s orig (all_named queries keep mesh r orig)

-- an act among others
pub act_of : (looks : Act → TableCalls → Type 0) (orig : Mac) (log : Log) (frames : List SentFrame) (to : Option Mac) (bytes : List ℕ) (acts : List Act) → AllName looks orig log frames acts → Has acts (Link to (Some Table) bytes) → IsSentByTable (looks (Link to (Some Table) bytes)) orig log frames bytes
act_of looks orig log frames to bytes [] each has = absurd has
act_of looks orig log frames to bytes (act ∷ rest) each (inl is) = subst (ActNames looks orig log frames) (sym is) each.0 refl
act_of looks orig log frames to bytes (act ∷ rest) each (inr has) = act_of looks orig log frames to bytes rest each.1 has

pub frames_by_table : FramesByTable
frames_by_table queries orig mesh is place node newer older entry found split to bytes sent =
    act_of (HadCome (queries node.mac) node.mac older entry.moment entry.given) orig (log_of orig mesh.nodes) mesh.frames to bytes entry.acts
    (all_named queries is.keep mesh is.reachable orig is.none place node newer older entry found split) sent
