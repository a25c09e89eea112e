-- What a node does with one input: its acts are said, and what it knows then is tied again.
use Rattle.std.proofs.Common.{◌≡◌, ◌≢◌, ◌⊎◌, inl, inr, ◌≤◌, ℕ, Bool, true, false, cond, ◌==◌, List, [], ◌∷◌, ◌++◌, length, is_some, Option, Some, None, refl, sym, ap, subst, ◌∙◌, arith}
use Rattle.std.specs.List.{AllByRecursion}
use Rattle.mesh_base.specs.declared.address.Mac.{Mac}
use Rattle.mesh_base.specs.declared.client.Entry.{Entry}
use Rattle.mesh_base.specs.declared.client.Key.{Key}
use Rattle.mesh_model.specs.declared.act.Act.{Act}
use Rattle.mesh_model.specs.declared.packet.Head.{Head}
use Rattle.mesh_model.specs.declared.packet.Head.TheVariants.{Utvlv}
use Rattle.mesh_model.specs.declared.table_change.Change.{Change}
use Rattle.mesh_model.specs.Acts.BridgeRows.{Place, round_acts}
use Rattle.mesh_model.specs.Acts.Choosing.{asking_acts, call_frame, calling_acts, client_acts, probing_acts, sighting_acts, whole_acts}
use Rattle.mesh_model.specs.Acts.FactRows.{get_acts}
use Rattle.mesh_model.specs.Acts.FrameRows.{advert_acts}
use Rattle.mesh_model.specs.Acts.OwnContainers.{own_containers}
use Rattle.mesh_model.specs.Acts.Packing.{roaming_container, sent_to_all}
use Rattle.mesh_model.specs.Acts.Rows.{Own, alias_acts, alias_event, commit_acts, elp_acts, message_acts, packet_acts, packets_acts, tick_acts}
use Rattle.mesh_model.specs.Clients.Lans.{Bridge}
use Rattle.mesh_model.specs.Clients.Log.{Frame, Gone, Join, Leave, Arp, Dhcp, Ping, Trace, Reboot, Log, Line, LineGiven, Attach, Sets, Put, Get, line_reboots}
use Rattle.mesh_model.specs.Clients.Mentions.{Mention, key_of, mentions, next_mentions}
use Rattle.mesh_model.specs.Clients.Settings.{Settings}
use Rattle.mesh_model.specs.Commits.Announcements.{announced_changes, announcement}
use Rattle.mesh_model.specs.Commits.History.{History, committed, history, is_commit_tick, present_table, restarted}
use Rattle.mesh_model.specs.Commits.Aliases.{last_alias}
use Rattle.mesh_model.specs.Commits.Versions.{last_commit}
use Rattle.mesh_model.specs.Knowledge.Addressee.{Way}
use Rattle.mesh_model.specs.Knowledge.FactStore.{after_get}
use Rattle.mesh_model.specs.Knowledge.Known.{Knowledge}
use Rattle.mesh_model.specs.Knowledge.Steps.{Coming, advertised, after_call, after_frame, after_sent, after_tick, before_round, is_flooded, line_knowledge, after_packet, after_packets, after_sighting, knowledge}
use Rattle.mesh_model.specs.Knowledge.Offers.{choice_by, gateway_way}
use Rattle.mesh_model.specs.Knowledge.Told.{stamp_told}
use Rattle.mesh_model.specs.Net.Due.{ticks_in}
use Rattle.mesh_model.specs.Net.Mesh.{SentFrame}
use Rattle.mesh_model.specs.Net.Next.{Has}
use Rattle.mesh_model.specs.Packets.Containers.{containers_spelling}
use Rattle.mesh_model.specs.Packets.FirstPacket.{Packet}
use Rattle.mesh_model.specs.Packets.Layout.{spelling}
use Rattle.mesh_model.specs.Packets.Payload.{ClientFrame}
use Rattle.mesh_model.specs.Routes.Queries.{Queries}
use Rattle.mesh_model.specs.Routes.RouteLog.{RouteLog, OwnTick}
use Rattle.mesh_model.specs.Tables.Known.{TableCalls, known_by}
use Rattle.mesh_model.specs.Tables.Sums.{sums_of}
use Rattle.mesh_model.specs.Tables.Versions.{Stamp, Version}
use Rattle.mesh_laws.specs.Machine.Moves.{AreLastChanges, Reaches, announcement_of, announces}
use Rattle.mesh_laws.specs.Machine.World.{Announcement, Node, Saying, World, WasSaid, start}
use Rattle.mesh_laws.proofs.LastLogLemmas.{reboot_line}
use Rattle.mesh_laws.proofs.StoreLemmas.{get_rest, tick_rest}
use Rattle.mesh_tvlv.specs.Laws.{FitsKey}
use Rattle.mesh_tie.specs.Originators.{last_number, number_at_root}
use Rattle.mesh_tie.specs.Sayings.{FrameSays, IsAnnounced, PacketSays}
use Rattle.mesh_tie.specs.Sources.{IsWhole, KeepsOriginators}
use Rattle.mesh_tie.specs.Steps.{TellsClient}
use Rattle.mesh_tie.specs.Tie.{FitsAnswer, FitsEntry, KnowsWhole, NodeIsTied}
use Rattle.mesh_tie.proofs.CalmRows.{calm_call, calm_elps, calm_frame, calm_question, calm_round, calm_session, calm_store}
use Rattle.mesh_tie.proofs.FactActs.{get_stores}
use Rattle.mesh_tie.proofs.CommitLemmas.{Chain, announced_are, last_and_older}
use Rattle.mesh_tie.proofs.EntryLemmas.{OfCommits, each_appended, reached_entries}
use Rattle.mesh_tie.proofs.LogLemmas.{node_more}
use Rattle.mesh_tie.proofs.KnowsLemmas.{advertised_whole, packet_knows, sighting_knows}
use Rattle.mesh_tie.proofs.NodeMoves.{Comes, at_same, forgets}
use Rattle.mesh_tie.proofs.PairLemmas.{Leaves, question_leaves, rest_leaves}
use Rattle.mesh_tie.proofs.PacketSteps.{CameIn, packet_comes, packet_row}
use Rattle.mesh_tie.proofs.Sayable.{ActSays, IsLater, Sayable, Speaks, Within, act_more, all_said, calm_row, containers_say, frame_sayable, itself, message_says, no_answer, one_or_two, packet_more, says_one, silent, then_path}
use Rattle.mesh_tie.proofs.ServesLemmas.{choice_whole, set_whole}
use Rattle.mesh_tie.proofs.TableLemmas.{FitsChange, IsToldAgain, advert_answers_none, advert_small, own_again}
use Rattle.mesh_tie.proofs.TableRows.{Holder, Speaker}

-- ---- a world behind an input
pub record Goes (orig : Mac) (log : Log) (frames : List SentFrame) (root : ℕ) (w : World) (m : ℕ) (acts : List Act) (calls : TableCalls) : Type 0 where
  pub world : World
  pub path : Reaches w world
  pub commits : world.commits ≡ w.commits
  pub others : (k : ℕ) → (k == m) ≡ false → world.nodes k ≡ w.nodes k
  pub more : Within w.said world.said
  pub says : AllByRecursion (ActSays orig log world.said root) acts
  pub tied : NodeIsTied orig log frames world.said (known_by calls orig) (world.nodes m)

-- the acts are said, and then the node moves
pub goes_by : (orig : Mac) (log : Log) (frames : List SentFrame) (root : ℕ) (w : World) (m : ℕ) (acts : List Act) (calls : TableCalls) → AllByRecursion (Sayable orig log root w) acts
    → ((v : World) → IsLater w v → Comes orig log frames v m (known_by calls orig)) → Goes orig log frames root w m acts calls
goes_by orig log frames root w m acts calls row comes =
    let s = all_said orig log root w acts row w (itself w) in
    let c = comes s.world (record { commits = s.commits; nodes = s.nodes; more = s.more }) in
    record {
      world = c.moved.world;
      path = then_path w s.world c.moved.world s.path c.moved.path;
      commits = c.moved.commits ∙ s.commits;
      others = λ k other. c.moved.others k other ∙ ap (λ (ns : ℕ → Node). ns k) s.nodes;
      more = λ x was. subst (λ t. WasSaid t x) (sym c.moved.said) (s.more x was);
      says = subst (λ t. AllByRecursion (ActSays orig log t root) acts) (sym c.moved.said) s.said;
      tied = subst (NodeIsTied orig log frames c.moved.world.said (known_by calls orig)) (sym c.moved.at) (subst (λ t. NodeIsTied orig log frames t (known_by calls orig) c.node) (sym c.moved.said) c.tied);
    }

each_act_more : (orig : Mac) (log : Log) (s t : List Saying) (root : ℕ) (acts : List Act) → Within s t → AllByRecursion (ActSays orig log s root) acts → AllByRecursion (ActSays orig log t root) acts
each_act_more orig log s t root [] more all = tt
each_act_more orig log s t root (act ∷ acts) more all = (act_more orig log s t root act more all.0, each_act_more orig log s t root acts more all.1)

goes_then : (orig : Mac) (log : Log) (frames : List SentFrame) (root : ℕ) (w : World) (m : ℕ) (first second : List Act) (one two : TableCalls) (g : Goes orig log frames root w m first one)
    → Goes orig log frames root g.world m second two → Goes orig log frames root w m (first ++ second) two
goes_then orig log frames root w m first second one two g h = record {
  world = h.world;
  path = then_path w g.world h.world g.path h.path;
  commits = h.commits ∙ g.commits;
  others = λ k other. h.others k other ∙ g.others k other;
  more = λ x was. h.more x (g.more x was);
  says = each_appended (ActSays orig log h.world.said root) first second (each_act_more orig log g.world.said h.world.said root first h.more g.says) h.says;
  tied = h.tied;
}

-- a node that knows no more of tables
pub stays_tied : (orig : Mac) (log : Log) (frames : List SentFrame) (w : World) (m : ℕ) (calls : TableCalls) → NodeIsTied orig log frames w.said (known_by calls orig) (w.nodes m)
    → (v : World) → IsLater w v → Comes orig log frames v m (known_by calls orig)
stays_tied orig log frames w m calls tied v later = record {
  node = w.nodes m;
  moved = at_same v m (w.nodes m) (ap (λ (ns : ℕ → Node). ns m) later.nodes);
  tied = node_more orig log frames w.said v.said (known_by calls orig) (w.nodes m) later.more tied;
}

-- ---- packets
pub record Ready (orig : Mac) (w : World) (m : ℕ) (me : Mac) (own : Own) : Type 0 where
  pub base : Reaches start w
  pub fits : OfCommits FitsEntry w.commits
  pub speaker : Speaker orig w me own

pub ready_later : (orig : Mac) (w v : World) (m : ℕ) (me : Mac) (own : Own) → Ready orig w m me own → Reaches w v → v.commits ≡ w.commits → Ready orig v m me own
ready_later orig w v m me own r path same = record {
  base = then_path start w v r.base path;
  fits = subst (OfCommits FitsEntry) (sym same) r.fits;
  speaker = record {
    whole = r.speaker.whole;
    fits = r.speaker.fits;
    told_fit = r.speaker.told_fit;
    older = r.speaker.older;
    commits = λ mine. same ∙ r.speaker.commits mine;
    told_last = r.speaker.told_last;
  };
}

holder_of : (orig : Mac) (log : Log) (frames : List SentFrame) (w : World) (m : ℕ) (me : Mac) (own : Own) (known : Knowledge) → Ready orig w m me own → NodeIsTied orig log frames w.said (known_by known.tables orig) (w.nodes m) → Holder orig w m known
holder_of orig log frames w m me own known r tied = record {
  held = tied.held;
  fits = λ version is. (reached_entries FitsEntry w r.base r.fits).held m version is;
}

-- one packet
pub packet_goes : (orig : Mac) (log : Log) (frames : List SentFrame) (root : ℕ) (w : World) (m : ℕ) (q : Queries) (me : Mac) (own : Own) (came : Coming) (packet : Packet) (known : Knowledge)
    → KeepsOriginators me q → IsWhole came.from → CameIn frames root came.number → Ready orig w m me own → NodeIsTied orig log frames w.said (known_by known.tables orig) (w.nodes m) → PacketSays orig log w.said root packet
    → Goes orig log frames root w m (packet_acts q me own came known packet) (after_packet q me came known packet).tables
packet_goes orig log frames root w m q me own came packet known keeps from f r tied says =
    goes_by orig log frames root w m (packet_acts q me own came known packet) (after_packet q me came known packet).tables
    (packet_row orig log w m q me own root came packet known keeps from r.speaker (holder_of orig log frames w m me own known r tied) says)
    (λ v later. packet_comes orig log frames v m q me root came packet known f (packet_more orig log w.said v.said root packet later.more says) (stays_tied orig log frames w m known.tables tied v later))

pub packets_go : (orig : Mac) (log : Log) (frames : List SentFrame) (root : ℕ) (w : World) (m : ℕ) (q : Queries) (me : Mac) (own : Own) (came : Coming) (packets : List Packet) (known : Knowledge)
    → KeepsOriginators me q → IsWhole came.from → CameIn frames root came.number → Ready orig w m me own → NodeIsTied orig log frames w.said (known_by known.tables orig) (w.nodes m)
    → ((packet : Packet) → Has packets packet → PacketSays orig log w.said root packet)
    → Goes orig log frames root w m (packets_acts q me own came known packets) (after_packets q me came known packets).tables
unfolding packets_acts
packets_go orig log frames root w m q me own came [] known keeps from f r tied says = goes_by orig log frames root w m [] known.tables tt (stays_tied orig log frames w m known.tables tied)
packets_go orig log frames root w m q me own came (packet ∷ rest) known keeps from f r tied says =
    let one = packet_goes orig log frames root w m q me own came packet known keeps from f r tied (says packet (inl refl)) in
    let more = packets_go orig log frames root one.world m q me own came rest (after_packet q me came known packet) keeps from f (ready_later orig w one.world m me own r one.path one.commits) one.tied
    (λ p has. packet_more orig log w.said one.world.said root p one.more (says p (inr has))) in
    goes_then orig log frames root w m (packet_acts q me own came known packet) (packets_acts q me own came (after_packet q me came known packet) rest)
    (after_packet q me came known packet).tables (after_packets q me came (after_packet q me came known packet) rest).tables one more

pub packets_know : (q : Queries) (me : Mac) (came : Coming) (packets : List Packet) (known : Knowledge) → ((packet : Packet) → Has packets packet → Rattle.mesh_tie.specs.Sources.HasWholeAddresses packet.head) → KnowsWhole known → KnowsWhole (after_packets q me came known packets)
packets_know q me came [] known whole k = k
packets_know q me came (packet ∷ rest) known whole k = packets_know q me came rest (after_packet q me came known packet) (λ p has. whole p (inr has)) (packet_knows q me came packet known (whole packet (inl refl)) k)

-- ---- ticks
-- what a node commits and announces at a tick
pub record Announcer (orig : Mac) (log : Log) (w : World) (me : Mac) (index : ℕ) (after : History) : Type 0 where
  pub whole : IsWhole me
  pub chain : Chain after
  pub fits : FitsAnswer (last_commit after.commits).table
  pub changes_fit : AllByRecursion FitsChange (announced_changes after)
  pub commits : me ≡ orig → w.commits ≡ after.commits
  pub past : me ≡ orig → index ≤ ticks_in log
  pub number : me ≡ orig → number_at_root orig log index ≡ last_number after.commits

own_message : (orig : Mac) (log : Log) (w : World) (q : Queries) (me : Mac) (settings : Settings) (routes : RouteLog) (index : ℕ) (after : History) (head : Head) → KeepsOriginators me q → Announcer orig log w me index after → (q.beats routes index).ogm ≡ Some head
    → Sayable orig log index w (sent_to_all head (containers_spelling (own_containers settings (announcement after))))
own_message orig log w q me settings routes index after head keeps a is y later = go (one_or_two me orig)
  where
    tail : List ℕ
    tail = containers_spelling (own_containers settings (announcement after))

    changes : List Change
    changes = announced_changes after

    last : Version
    last = last_commit after.commits

    again : IsToldAgain 1 last changes tail
    again = let few = (announced_are after a.chain).1 in own_again settings last changes a.fits a.changes_fit (omega (arith, few))

    Said : List Saying → Type 0
    Said said = FrameSays orig log said index (spelling head tail)

    says : (said : List Saying) → (me ≡ orig → IsAnnounced orig log said index tail) → Said said
    says said announced = message_says orig log said index me head tail (keeps.own routes index head a.whole is) again.small announced

    go : (me ≡ orig) ⊎ (me ≢ orig) → Speaks y Said
    go (inr other) = silent y Said (says y.said (λ same. absurd (other same)))
    go (inl same) =
        let parts = last_and_older after a.chain in
        let older = parts.0 in
        let all : w.commits ≡ last ∷ older = a.commits same ∙ parts.1 in
        let which : (changes ≡ []) ⊎ AreLastChanges (last ∷ older) changes = subst (λ cs. (changes ≡ []) ⊎ AreLastChanges cs changes) parts.1 (announced_are after a.chain).0 in
        says_one y Said (announcement_of (length older) last changes) (announces y last older changes (later.commits ∙ all) which) (λ was.
        says (announcement_of (length older) last changes ∷ y.said) (λ mine. record {
          table = announcement after;
          found = again.found;
          past = a.past same;
          was_said = subst (WasSaid (announcement_of (length older) last changes ∷ y.said))
              (ap (λ n. Announcement n last.byte (sums_of last.table) changes) (sym (a.number same ∙ parts.2))
              ∙ ap (λ (s : Stamp). Announcement (number_at_root orig log index) s.byte s.sums changes) (sym again.stamp)
              ∙ ap (λ cs. Announcement (number_at_root orig log index) (stamp_told (announcement after)).byte (stamp_told (announcement after)).sums cs) (sym again.changes)) was;
        }))

own_row : (orig : Mac) (log : Log) (w : World) (q : Queries) (me : Mac) (settings : Settings) (routes : RouteLog) (index : ℕ) (after : History) (o : Option Head) → KeepsOriginators me q → Announcer orig log w me index after → (q.beats routes index).ogm ≡ o
    → AllByRecursion (Sayable orig log index w) (message_acts o (containers_spelling (own_containers settings (announcement after))))
unfolding message_acts
own_row orig log w q me settings routes index after None keeps a is = tt
own_row orig log w q me settings routes index after (Some head) keeps a is = (own_message orig log w q me settings routes index after head keeps a is, tt)

-- an event says nothing
event_row : (orig : Mac) (log : Log) (root : ℕ) (w : World) (me : Mac) (number : ℕ) (o : Option ℕ) → AllByRecursion (Sayable orig log root w) (alias_event me number o)
event_row orig log root w me number None = tt
event_row orig log root w me number (Some earlier) = ((λ y later. silent y (λ said. Unit {0}) tt), tt)

alias_row : (orig : Mac) (log : Log) (root : ℕ) (w : World) (me : Mac) (before after : List Version) → AllByRecursion (Sayable orig log root w) (alias_acts me before after)
alias_row orig log root w me before after = go (length after == length before)
  where
    go : (b : Bool) → AllByRecursion (Sayable orig log root w) (cond b [] (alias_event me (length before) (last_alias after)))
    go true = tt
    go false = event_row orig log root w me (length before) (last_alias after)

pub tick_row : (orig : Mac) (log : Log) (w : World) (q : Queries) (me : Mac) (settings : Settings) (routes : RouteLog) (ms : List Mention) (before : History) (bridge : Bridge) (now index : ℕ) → KeepsOriginators me q
    → (is_commit_tick index ≡ true → Announcer orig log w me index (committed (present_table ms now) before))
    → AllByRecursion (Sayable orig log index w) (tick_acts q me settings routes ms before bridge now index)
unfolding tick_acts
tick_row orig log w q me settings routes ms before bridge now index keeps a =
    each_appended (Sayable orig log index w) (elp_acts q routes index) (cond (is_commit_tick index) (commit_acts q me settings routes index before after) [] ++ round)
    (calm_row orig log index w (elp_acts q routes index) (calm_elps me q routes index keeps))
    (each_appended (Sayable orig log index w) (cond (is_commit_tick index) (commit_acts q me settings routes index before after) []) round (go (is_commit_tick index) refl)
    (calm_row orig log index w round (calm_round (record { me = me; now = now }) bridge index)))
  where
    round : List Act
    round = round_acts (record { me = me; now = now }) bridge index

    after : History
    after = committed (present_table ms now) before

    go : (b : Bool) → is_commit_tick index ≡ b → AllByRecursion (Sayable orig log index w) (cond b (commit_acts q me settings routes index before after) [])
    go true is = each_appended (Sayable orig log index w) (alias_acts me before.commits after.commits) (message_acts (q.beats routes index).ogm (containers_spelling (own_containers settings (announcement after))))
        (alias_row orig log index w me before.commits after.commits)
        (own_row orig log w q me settings routes index after (q.beats routes index).ogm keeps (a is) refl)
    go false is = tt

-- ---- lines
advert_row : (orig : Mac) (log : Log) (root : ℕ) (w : World) (me : Mac) (key : Key) (o : Option Way) → IsWhole me → FitsKey key → ((way : Way) → o ≡ Some way → IsWhole way.orig)
    → AllByRecursion (Sayable orig log root w) (advert_acts me key o)
advert_row orig log root w me key None mine fits whole = tt
advert_row orig log root w me key (Some way) mine fits whole =
    let tail = containers_spelling (roaming_container key ∷ []) in (
      frame_sayable orig log root w (Some way.next) None (spelling (Utvlv 50 way.orig me) tail)
          (λ said more. containers_say orig log said root 50 way.orig me tail (whole way refl) mine (λ same. no_answer said tail (advert_small key fits) (advert_answers_none key fits))),
      tt,
    )

pub sighting_row : (orig : Mac) (log : Log) (root : ℕ) (w : World) (q : Queries) (me : Mac) (mine : Log) (now : ℕ) (key : Key) → IsWhole me → KnowsWhole (knowledge q me mine) → FitsKey key
    → AllByRecursion (Sayable orig log root w) (sighting_acts q me mine now key)
sighting_row orig log root w q me mine now key whole k fits = advert_row orig log root w me key (advertised q me mine (knowledge q me mine) now key) whole fits (advertised_whole q me mine (knowledge q me mine) now key k)

pub line_row : (orig : Mac) (log : Log) (root : ℕ) (w : World) (q : Queries) (me : Mac) (mine : Log) (now : ℕ) (line : LineGiven) → TellsClient line → IsWhole me → KnowsWhole (knowledge q me mine)
    → AllByRecursion (Sayable orig log root w) (whole_acts q me mine now (Line line))
line_row orig log root w q me mine now (Attach lan gateways) of whole k = tt
line_row orig log root w q me mine now (Frame src dst vid text) of whole k =
    let frame : ClientFrame = record { dst = dst; src = src; vid = vid; text = text } in
    let known = after_sighting q me mine now (key_of src vid) (knowledge q me mine) in
    let ms = next_mentions me mine (mentions me mine) now (Line (Frame src dst vid text)) in
    each_appended (Sayable orig log root w) (sighting_acts q me mine now (key_of src vid)) (client_acts q me mine now frame) (sighting_row orig log root w q me mine now (key_of src vid) whole k of.0.fits)
    (calm_row orig log root w (client_acts q me mine now frame) (calm_frame q known ms (record { me = me; now = now }) frame))
line_row orig log root w q me mine now (Gone key) of whole k = tt
line_row orig log root w q me mine now (Join key) of whole k = tt
line_row orig log root w q me mine now (Leave key) of whole k = tt
line_row orig log root w q me mine now (Arp mac own_ip asked_ip vid) of whole k =
    let key = key_of mac vid in
    let known = after_sighting q me mine now key (knowledge q me mine) in
    let asking = asking_acts q me mine now mac own_ip asked_ip vid in
    each_appended (Sayable orig log root w) (sighting_acts q me mine now key) asking (sighting_row orig log root w q me mine now key whole k of.fits)
    (calm_row orig log root w asking (calm_question q known (record { me = me; now = now }) mac own_ip asked_ip vid))
line_row orig log root w q me mine now (Dhcp key text) of whole k =
    let known = after_sighting q me mine now key (knowledge q me mine) in
    each_appended (Sayable orig log root w) (sighting_acts q me mine now key) (calling_acts q me mine now key text) (sighting_row orig log root w q me mine now key whole k of.fits)
    (calm_row orig log root w (calling_acts q me mine now key text) (calm_call q known (record { me = me; now = now }) (call_frame key text)))
line_row orig log root w q me mine now (Sets setting) of whole k = tt
line_row orig log root w q me mine now (Put type_no version text) of whole k = tt
line_row orig log root w q me mine now (Get type_no) of whole k =
    let at : Place = record { me = me; now = now } in
    let got = get_acts q (knowledge q me mine) at type_no in
    calm_row orig log root w got (calm_store me got (get_stores q (knowledge q me mine) at type_no))
line_row orig log root w q me mine now (Ping target) of whole k = calm_row orig log root w (probing_acts q me mine now target false) (calm_session q (knowledge q me mine) (record { me = me; now = now }) target false)
line_row orig log root w q me mine now (Trace target) of whole k = calm_row orig log root w (probing_acts q me mine now target true) (calm_session q (knowledge q me mine) (record { me = me; now = now }) target true)
line_row orig log root w q me mine now Reboot of whole k = let old = history me mine in alias_row orig log root w me old.commits (restarted old).commits

-- what is known after a broadcast was sent, or not
sent_knows : (b : Bool) (known : Knowledge) → KnowsWhole known → KnowsWhole (cond b (after_sent known) known)
sent_knows true known k = record { tables = k.tables; marks = k.marks; services = k.services }
sent_knows false known k = k

sent_same : (b : Bool) (known : Knowledge) → (cond b (after_sent known) known).tables ≡ known.tables
sent_same true known = refl
sent_same false known = refl

pub frame_knows : (q : Queries) (now : ℕ) (key : Key) (known : Knowledge) → KnowsWhole known → KnowsWhole (after_frame q now key known)
frame_knows q now key known k = sent_knows (is_flooded q known now key) known k

pub frame_same : (q : Queries) (now : ℕ) (key : Key) (known : Knowledge) → (after_frame q now key known).tables ≡ known.tables
frame_same q now key known = sent_same (is_flooded q known now key) known

call_knows : (q : Queries) (now : ℕ) (known : Knowledge) → KnowsWhole known → KnowsWhole (after_call q now known)
call_knows q now known k = go (is_some (gateway_way q known now))
  where
    go : (b : Bool) → KnowsWhole (cond b known (after_sent known))
    go true = k
    go false = sent_knows true known k

call_same : (q : Queries) (now : ℕ) (known : Knowledge) → (after_call q now known).tables ≡ known.tables
call_same q now known = go (is_some (gateway_way q known now))
  where
    go : (b : Bool) → (cond b known (after_sent known)).tables ≡ known.tables
    go true = refl
    go false = refl

-- a tick
pub tick_knows : (q : Queries) (me : Mac) (now index : ℕ) (table : List Entry) (known : Knowledge) → KnowsWhole known → KnowsWhole (after_tick q me now index table known)
tick_knows q me now index table known k = (rest_leaves before (after_tick q me now index table known) (tick_rest q me now index table known)).knows (go (is_commit_tick index))
  where
    before : Knowledge
    before = before_round q now index known

    ticked : Knowledge
    ticked = record known { routes = OwnTick now index ∷ known.routes }

    go : (b : Bool) → KnowsWhole (cond b (record ticked { services = record ticked.services { choice = choice_by known.services.settings.gateway q ticked now } }) ticked)
    go true = record { tables = k.tables; marks = k.marks; services = record { offers = k.services.offers; choice = choice_whole known.services.settings.gateway q ticked now k.services } }
    go false = record { tables = k.tables; marks = k.marks; services = k.services }

pub tick_same : (q : Queries) (me : Mac) (now index : ℕ) (table : List Entry) (known : Knowledge) → (after_tick q me now index table known).tables ≡ known.tables
tick_same q me now index table known = (rest_leaves before (after_tick q me now index table known) (tick_rest q me now index table known)).tables ∙ go (is_commit_tick index)
  where
    before : Knowledge
    before = before_round q now index known

    ticked : Knowledge
    ticked = record known { routes = OwnTick now index ∷ known.routes }

    go : (b : Bool) → (cond b (record ticked { services = record ticked.services { choice = choice_by known.services.settings.gateway q ticked now } }) ticked).tables ≡ known.tables
    go true = refl
    go false = refl

-- a question for facts
get_leaves : (q : Queries) (now type_no : ℕ) (known : Knowledge) → Leaves known (after_get q now type_no known.services.settings.fact_store known)
get_leaves q now type_no known =
    let mode = known.services.settings.fact_store in
    rest_leaves known (after_get q now type_no mode known) (get_rest q now type_no mode known)

-- a line that isn't a reboot leaves what is known of tables as it is
line_same : (q : Queries) (me : Mac) (mine : Log) (known : Knowledge) (now : ℕ) (line : LineGiven) → line_reboots line ≡ false → (line_knowledge q me mine known now line).tables ≡ known.tables
line_same q me mine known now (Attach lan gateways) calm = refl
line_same q me mine known now (Frame src dst vid text) calm = frame_same q now (key_of dst vid) (after_sighting q me mine now (key_of src vid) known)
line_same q me mine known now (Gone key) calm = refl
line_same q me mine known now (Join key) calm = refl
line_same q me mine known now (Leave key) calm = refl
line_same q me mine known now (Arp mac own_ip asked_ip vid) calm = (question_leaves q me now mac own_ip asked_ip vid (after_sighting q me mine now (key_of mac vid) known)).tables
line_same q me mine known now (Dhcp key text) calm = call_same q now (after_sighting q me mine now key known)
line_same q me mine known now (Sets setting) calm = refl
line_same q me mine known now (Put type_no version text) calm = refl
line_same q me mine known now (Get type_no) calm = (get_leaves q now type_no known).tables
line_same q me mine known now (Ping target) calm = refl
line_same q me mine known now (Trace target) calm = refl
line_same q me mine known now Reboot calm = cc

-- after a reboot nothing is known of them
line_none : (q : Queries) (me : Mac) (mine : Log) (known : Knowledge) (now : ℕ) (line : LineGiven) → line_reboots line ≡ true → (line_knowledge q me mine known now line).tables ≡ []
line_none q me mine known now line is = ap (λ x. (line_knowledge q me mine known now x).tables) (reboot_line line is)

-- so the node stays tied behind a line: it forgets what it knew, or knows what it knew
pub line_comes : (orig : Mac) (log : Log) (frames : List SentFrame) (w : World) (m : ℕ) (q : Queries) (me : Mac) (mine : Log) (known : Knowledge) (now : ℕ) (line : LineGiven) → Comes orig log frames w m (known_by known.tables orig)
    → Comes orig log frames w m (known_by (line_knowledge q me mine known now line).tables orig)
line_comes orig log frames w m q me mine known now line c = go (line_reboots line) refl
  where
    go : (b : Bool) → line_reboots line ≡ b → Comes orig log frames w m (known_by (line_knowledge q me mine known now line).tables orig)
    go true is = subst (λ calls. Comes orig log frames w m (known_by calls orig)) (sym (line_none q me mine known now line is)) (forgets orig log frames w m (known_by known.tables orig) c)
    go false is = subst (λ calls. Comes orig log frames w m (known_by calls orig)) (sym (line_same q me mine known now line is)) c

pub line_knows : (q : Queries) (me : Mac) (mine : Log) (known : Knowledge) (now : ℕ) (line : LineGiven) → KnowsWhole known → KnowsWhole (line_knowledge q me mine known now line)
line_knows q me mine known now (Attach lan gateways) k = k
line_knows q me mine known now (Frame src dst vid text) k = frame_knows q now (key_of dst vid) (after_sighting q me mine now (key_of src vid) known) (sighting_knows q me mine now (key_of src vid) known k)
line_knows q me mine known now (Gone key) k = k
line_knows q me mine known now (Join key) k = k
line_knows q me mine known now (Leave key) k = k
line_knows q me mine known now (Arp mac own_ip asked_ip vid) k =
    let key = key_of mac vid in
    (question_leaves q me now mac own_ip asked_ip vid (after_sighting q me mine now key known)).knows (sighting_knows q me mine now key known k)
line_knows q me mine known now (Dhcp key text) k = call_knows q now (after_sighting q me mine now key known) (sighting_knows q me mine now key known k)
line_knows q me mine known now (Sets setting) k = record { tables = k.tables; marks = k.marks; services = set_whole setting known.services k.services }
line_knows q me mine known now (Put type_no version text) k = record { tables = k.tables; marks = k.marks; services = record { offers = k.services.offers; choice = k.services.choice } }
line_knows q me mine known now (Get type_no) k = (get_leaves q now type_no known).knows k
line_knows q me mine known now (Ping target) k = record { tables = k.tables; marks = k.marks; services = k.services }
line_knows q me mine known now (Trace target) k = record { tables = k.tables; marks = k.marks; services = k.services }
line_knows q me mine known now Reboot k = record { tables = tt; marks = tt; services = record { offers = tt; choice = λ gateway is. cc } }
