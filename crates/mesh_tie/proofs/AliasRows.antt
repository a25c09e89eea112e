-- Which acts tell of an alias: those of a tick that commits one, or of a reboot, and no others.
use Rattle.std.proofs.Common.{◌≡◌, ◌⊎◌, inl, inr, ◌-◌, ◌==◌, ℕ, suc, Bool, true, false, cond, List, [], ◌∷◌, ◌++◌, length, Option, Some, None, refl, sym, ap, subst, append-nil, ◌∙◌, arith}
use Rattle.std.specs.List.{AllByRecursion}
use Rattle.std.proofs.lemmas.Bool.{ne_eqb}
use Rattle.mesh_base.specs.declared.address.Mac.{Mac}
use Rattle.mesh_base.specs.declared.event.Event.TheVariants.{Alias}
use Rattle.mesh_model.specs.declared.act.Act.{Act}
use Rattle.mesh_model.specs.declared.act.Act.TheVariants.{Link, Lan, Print}
use Rattle.mesh_model.specs.declared.packet.Head.{Head}
use Rattle.mesh_model.specs.declared.packet.Head.TheVariants.{IvOgm, Bcast, Elp, Ogm2, Unicast, Frag, Unicast4, Icmp, Utvlv}
use Rattle.mesh_model.specs.Acts.Choosing.{acts_of, asking_acts, call_frame, calling_acts, claimed_first, client_acts, cutter_by, from_lan_acts, on_from_lan, probing_acts, sighting_acts, whole_acts}
use Rattle.mesh_model.specs.Acts.Cuts.{Cutter, cut_acts, passes_cuts}
use Rattle.mesh_model.specs.Acts.BridgeRows.{Place, round_acts, unclaim_acts}
use Rattle.mesh_model.specs.Acts.FactRows.{fact_round_acts, get_acts}
use Rattle.mesh_model.specs.Acts.FragmentRows.{carried_here, passed_fragment, unicast_here}
use Rattle.mesh_model.specs.Acts.FrameRows.{broadcast_acts, passed_frame}
use Rattle.mesh_model.specs.Acts.OwnContainers.{own_containers}
use Rattle.mesh_model.specs.Acts.ProbeRows.{IcmpMessage}
use Rattle.mesh_model.specs.Acts.Rows.{Own, alias_acts, alias_event, commit_acts, elp_acts, head_acts, icmp_acts, message_acts, own_by, packet_acts, packets_acts, place_at, reboot_acts, taken_acts, tick_acts}
use Rattle.mesh_model.specs.Acts.TableRows.{other_containers, own_answer}
use Rattle.mesh_model.specs.Clients.Log.{LinkFrame, LanFrame, Frame, Gone, Join, Leave, Arp, Dhcp, Ping, Trace, Reboot, Log, Line, LineGiven, Attach, Sets, Put, Get, line_reboots}
use Rattle.mesh_model.specs.Clients.Lans.{Bridge}
use Rattle.mesh_model.specs.Clients.Mentions.{Mention, key_of, mentions, next_mentions, passed_from_lan}
use Rattle.mesh_model.specs.Clients.Settings.{Settings}
use Rattle.mesh_model.specs.Commits.Aliases.{alias_before, last_alias}
use Rattle.mesh_model.specs.Commits.Announcements.{announcement}
use Rattle.mesh_model.specs.Commits.History.{History, with_message, commits, committed, history, is_commit_tick, present_table, restarted}
use Rattle.mesh_model.specs.Commits.Versions.{first_commit}
use Rattle.mesh_model.specs.Knowledge.Known.{Knowledge}
use Rattle.mesh_model.specs.Fragments.Assembly.{part_of}
use Rattle.mesh_model.specs.Knowledge.PutTogether.{put_together}
use Rattle.mesh_model.specs.Knowledge.Steps.{Coming, advertised, after_packet, after_sighting, knowledge}
use Rattle.mesh_model.specs.Knowledge.Told.{Message, message_in, message_of, message_with}
use Rattle.mesh_model.specs.Net.Next.{Has}
use Rattle.mesh_model.specs.Packets.Containers.{containers_of, containers_spelling}
use Rattle.mesh_model.specs.Packets.Contents.{first_roaming, first_table}
use Rattle.mesh_model.specs.Packets.FirstPacket.{Packet}
use Rattle.mesh_model.specs.Packets.LanFrames.{client_frame_in, lan_message_of}
use Rattle.mesh_model.specs.Packets.LinkFrame.{link_frame}
use Rattle.mesh_model.specs.Packets.Payload.{ClientFrame}
use Rattle.mesh_model.specs.Routes.Addresses.{same_mac}
use Rattle.mesh_model.specs.Routes.Queries.{Queries}
use Rattle.mesh_model.specs.Routes.RouteLog.{RouteLog}
use Rattle.mesh_model.specs.Tables.Versions.{Version}
use Rattle.mesh_laws.proofs.LastLogLemmas.{reboot_line}
use Rattle.mesh_laws.proofs.Schedule.Members.{has_either, has_left, has_right}
use Rattle.mesh_tie.proofs.ArpActs.{unicast4_acts}
use Rattle.mesh_tie.proofs.BridgeActs.{claimed_puts}
use Rattle.mesh_tie.proofs.LanSteps.{lan_on}
use Rattle.mesh_tie.proofs.CalmRows.{calm_call, calm_carried, calm_frame, calm_session, calm_unicast_here}
use Rattle.mesh_tie.proofs.CutActs.{cut_any, print_came, print_stays}
use Rattle.mesh_tie.proofs.CommitLemmas.{Committed, as_before, committed_is, one_more}
use Rattle.mesh_tie.proofs.EntryLemmas.{each_appended}
use Rattle.mesh_tie.proofs.NamesRows.{IsPlain, plain_bridges, plain_round, plain_unclaim, plain_advert, plain_broadcast, plain_fragment, plain_icmp, plain_message, plain_ogm, plain_other, plain_own, plain_passed, plain_question, plain_store, plain_unicast4}
use Rattle.mesh_tie.proofs.FactActs.{get_stores, round_stores}
use Rattle.mesh_tie.proofs.Sayable.{IsCalm, IsNoAlias}

-- ---- acts that tell of none
-- an act that tells of no alias
abbrev pub IsQuiet : Act → Type 0
IsQuiet (Link to reason bytes) = Unit {0}
IsQuiet (Lan bytes) = Unit {0}
IsQuiet (Print event) = IsNoAlias event

abbrev pub AreQuiet : List Act → Type 0
AreQuiet acts = AllByRecursion IsQuiet acts

pub plain_quiet : (acts : List Act) → AllByRecursion IsPlain acts → AreQuiet acts
plain_quiet [] plain = tt
plain_quiet (Link to reason bytes ∷ acts) plain = (tt, plain_quiet acts plain.1)
plain_quiet (Lan bytes ∷ acts) plain = (tt, plain_quiet acts plain.1)
plain_quiet (Print event ∷ acts) plain = (plain.0.1, plain_quiet acts plain.1)

calm_quiet : (acts : List Act) → AllByRecursion IsCalm acts → AreQuiet acts
calm_quiet [] calm = tt
calm_quiet (Link to reason bytes ∷ acts) calm = (tt, calm_quiet acts calm.1)
calm_quiet (Lan bytes ∷ acts) calm = (tt, calm_quiet acts calm.1)
calm_quiet (Print event ∷ acts) calm = (calm.0, calm_quiet acts calm.1)

-- none among these acts tells of an alias
pub quiet_none : (acts : List Act) (me : Mac) (number earlier : ℕ) → AreQuiet acts → Has acts (Print (Alias me number earlier)) → ⊥
quiet_none [] me number earlier quiet has = has
quiet_none (act ∷ acts) me number earlier quiet (inl is) = subst IsQuiet (sym is) quiet.0 me number earlier refl
quiet_none (act ∷ acts) me number earlier quiet (inr has) = quiet_none acts me number earlier quiet.1 has

quiet_if : (b : Bool) (xs ys : List Act) → AreQuiet xs → AreQuiet ys → AreQuiet (cond b xs ys)
quiet_if true xs ys a b = a
quiet_if false xs ys a b = b

-- ---- packets
packet_quiet : (q : Queries) (me : Mac) (own : Own) (came : Coming) (known : Knowledge) (packet : Packet) → AreQuiet (packet_acts q me own came known packet)
unfolding packet_acts
packet_quiet q me own came known packet = go packet.head packet.tail
  where
    taken : (head : Head) (tail : List ℕ) (o : Option Message) → AreQuiet (taken_acts q me came head o tail known)
    taken head tail None = tt
    taken head tail (Some message) = plain_quiet (taken_acts q me came head (Some message) tail known) (plain_ogm q me came head message tail known)

    go : (head : Head) (tail : List ℕ) → AreQuiet (head_acts q me own came known (message_of (record { head = head; tail = tail })) tail head)
    go (IvOgm ttl flags seq o prev tq) tail = taken (IvOgm ttl flags seq o prev tq) tail (message_with o (first_table (containers_of tail)))
    go (Bcast ttl seq o) tail = plain_quiet (broadcast_acts known own.bridge (place_at me came) ttl (record { orig = o; number = seq }) tail) (plain_broadcast known own.bridge (place_at me came) ttl (record { orig = o; number = seq }) tail)
    go (Elp o seq interval) tail = tt
    go (Ogm2 ttl flags seq o throughput) tail = taken (Ogm2 ttl flags seq o throughput) tail (message_with o (first_table (containers_of tail)))
    go (Unicast ttl ttvn dst) tail =
        let here = unicast_here q known own.mentions own.bridge (place_at me came) ttl tail in
        let passed = passed_frame q known (place_at me came) ttl ttvn dst tail in
        quiet_if (same_mac dst me) here passed (calm_quiet here (calm_unicast_here q known own.mentions own.bridge (place_at me came) ttl tail))
        (plain_quiet passed (plain_passed q known (place_at me came) ttl ttvn dst tail))
    go (Frag ttl number priority dst o seq total) tail =
        let one = put_together (part_of came.now o seq total number tail) known.parts in
        let here = carried_here q known own.mentions own.bridge (place_at me came) one in
        let head = Frag (ttl - 1) number priority dst o seq total in
        let passed = passed_fragment q known came.now ttl dst head tail in
        quiet_if (same_mac dst me) here passed (calm_quiet here (calm_carried q known own.mentions own.bridge (place_at me came) one)) (plain_quiet passed (plain_fragment q known came.now ttl dst head tail))
    go (Unicast4 ttl ttvn dst src subtype) tail = plain_quiet (unicast4_acts q me came known ttl ttvn dst src subtype tail) (plain_unicast4 q me came known ttl ttvn dst src subtype tail)
    go (Icmp ttl msg dst o uid seq) tail =
        let m : IcmpMessage = record { ttl = ttl; kind = msg; dst = dst; orig = o; uid = uid; seq = seq } in
        plain_quiet (icmp_acts q known (place_at me came) m) (plain_icmp q known (place_at me came) m)
    go (Utvlv ttl dst src) tail =
        let message = message_in (first_table (containers_of tail)) in
        let answer = own_answer q me known came.now own.last own.told src message in
        let unclaim = unclaim_acts (place_at me came) own.bridge (first_roaming (containers_of tail)) in
        let mine = answer ++ unclaim in
        let others = other_containers q known came.now ttl dst src tail in
        quiet_if (same_mac dst me) mine others (plain_quiet mine (each_appended IsPlain answer unclaim (plain_own q me known came.now own src message) (plain_unclaim (place_at me came) own.bridge (first_roaming (containers_of tail))))) (plain_quiet others (plain_other q known came.now ttl dst src tail))

packets_quiet : (q : Queries) (me : Mac) (own : Own) (came : Coming) (known : Knowledge) (packets : List Packet) → AreQuiet (packets_acts q me own came known packets)
unfolding packets_acts
packets_quiet q me own came known [] = tt
packets_quiet q me own came known (packet ∷ rest) = each_appended IsQuiet (packet_acts q me own came known packet) (packets_acts q me own came (after_packet q me came known packet) rest)
    (packet_quiet q me own came known packet) (packets_quiet q me own came (after_packet q me came known packet) rest)

-- ---- inputs
-- so do fragments, and what is put for acts that tell of none
pub cut_quiet : (cutter : Cutter) (acts : List Act) → AreQuiet acts → AreQuiet (cut_acts cutter acts)
cut_quiet cutter acts quiet = cut_any IsQuiet cutter acts (λ to ttl place dst me number total tail. tt) quiet

pub frame_quiet : (q : Queries) (me : Mac) (mine : Log) (now number : ℕ) (from : Mac) (throughput : ℕ) (bytes : List ℕ) → AreQuiet (acts_of q me mine now (LinkFrame number from throughput bytes))
frame_quiet q me mine now number from throughput bytes = cut_quiet (cutter_by q me mine) (whole_acts q me mine now (LinkFrame number from throughput bytes)) (packets_quiet q me (own_by me mine) (record { now = now; from = from; throughput = throughput; number = number }) (knowledge q me mine) (link_frame bytes).packets)

-- a line that isn't a reboot tells of none
quiet_line : (q : Queries) (me : Mac) (mine : Log) (now : ℕ) (line : LineGiven) → line_reboots line ≡ false → AreQuiet (whole_acts q me mine now (Line line))
quiet_line q me mine now (Attach lan gateways) calm = tt
quiet_line q me mine now (Frame src dst vid text) calm =
    let client : ClientFrame = record { dst = dst; src = src; vid = vid; text = text } in
    let key = key_of src vid in
    let known = knowledge q me mine in
    let ms = next_mentions me mine (mentions me mine) now (Line (Frame src dst vid text)) in
    each_appended IsQuiet (sighting_acts q me mine now key) (client_acts q me mine now client)
    (plain_quiet (sighting_acts q me mine now key) (plain_advert me key (advertised q me mine known now key)))
    (calm_quiet (client_acts q me mine now client) (calm_frame q (after_sighting q me mine now key known) ms (record { me = me; now = now }) client))
quiet_line q me mine now (Gone key) calm = tt
quiet_line q me mine now (Join key) calm = tt
quiet_line q me mine now (Leave key) calm = tt
quiet_line q me mine now (Arp mac own_ip asked_ip vid) calm =
    let key = key_of mac vid in
    let known = after_sighting q me mine now key (knowledge q me mine) in
    let asking = asking_acts q me mine now mac own_ip asked_ip vid in
    plain_quiet (sighting_acts q me mine now key ++ asking)
    (each_appended IsPlain (sighting_acts q me mine now key) asking (plain_advert me key (advertised q me mine (knowledge q me mine) now key))
    (plain_question q known (record { me = me; now = now }) mac own_ip asked_ip vid))
quiet_line q me mine now (Dhcp key text) calm =
    let known = after_sighting q me mine now key (knowledge q me mine) in
    each_appended IsQuiet (sighting_acts q me mine now key) (calling_acts q me mine now key text)
    (plain_quiet (sighting_acts q me mine now key) (plain_advert me key (advertised q me mine (knowledge q me mine) now key)))
    (calm_quiet (calling_acts q me mine now key text) (calm_call q known (record { me = me; now = now }) (call_frame key text)))
quiet_line q me mine now (Sets setting) calm = tt
quiet_line q me mine now (Put type_no version text) calm = tt
quiet_line q me mine now (Get type_no) calm =
    let at : Place = record { me = me; now = now } in
    let got = get_acts q (knowledge q me mine) at type_no in
    plain_quiet got (plain_store me got (get_stores q (knowledge q me mine) at type_no))
quiet_line q me mine now (Ping target) calm = calm_quiet (probing_acts q me mine now target false) (calm_session q (knowledge q me mine) (record { me = me; now = now }) target false)
quiet_line q me mine now (Trace target) calm = calm_quiet (probing_acts q me mine now target true) (calm_session q (knowledge q me mine) (record { me = me; now = now }) target true)
quiet_line q me mine now Reboot calm = cc

pub line_quiet : (q : Queries) (me : Mac) (mine : Log) (now : ℕ) (line : LineGiven) → line_reboots line ≡ false → AreQuiet (acts_of q me mine now (Line line))
line_quiet q me mine now line calm = cut_quiet (cutter_by q me mine) (whole_acts q me mine now (Line line)) (quiet_line q me mine now line calm)

quiet_lan : (q : Queries) (me : Mac) (mine : Log) (now : ℕ) (bytes : List ℕ) → AreQuiet (whole_acts q me mine now (LanFrame bytes))
quiet_lan q me mine now bytes =
    each_appended IsQuiet (claimed_first me mine now came) (from_lan_acts q me mine now ms (passed_from_lan me mine now came))
    (plain_quiet (claimed_first me mine now came) (plain_bridges (claimed_first me mine now came) (claimed_puts me mine now came))) (go (passed_from_lan me mine now came))
  where
    came : Option ClientFrame
    came = client_frame_in (lan_message_of bytes)

    ms : List Mention
    ms = next_mentions me mine (mentions me mine) now (LanFrame bytes)

    go : (o : Option ClientFrame) → AreQuiet (from_lan_acts q me mine now ms o)
    go None = tt
    go (Some frame) =
        let key = key_of frame.src frame.vid in
        let known = after_sighting q me mine now key (knowledge q me mine) in
        each_appended IsQuiet (sighting_acts q me mine now key) (on_from_lan q me mine now known ms frame)
        (plain_quiet (sighting_acts q me mine now key) (plain_advert me key (advertised q me mine (knowledge q me mine) now key)))
        (calm_quiet (on_from_lan q me mine now known ms frame) (lan_on q me mine now known ms frame))

pub lan_quiet : (q : Queries) (me : Mac) (mine : Log) (now : ℕ) (bytes : List ℕ) → AreQuiet (acts_of q me mine now (LanFrame bytes))
lan_quiet q me mine now bytes = cut_quiet (cutter_by q me mine) (whole_acts q me mine now (LanFrame bytes)) (quiet_lan q me mine now bytes)

-- ---- ticks
-- acts tell of the aliases that commits gain, and of no others
pub data Gains (me : Mac) (before : List Version) : List Version → List Act → Type 0 where
  gains_none : (acts : List Act) → AreQuiet acts → Gains me before before acts
  gains_one : (version : Version) (acts : List Act)
      → ((mac : Mac) (number earlier : ℕ) → Has acts (Print (Alias mac number earlier)) → (mac ≡ me) × (number ≡ length before) × (alias_before version before ≡ Some earlier))
      → ((earlier : ℕ) → alias_before version before ≡ Some earlier → Has acts (Print (Alias me (length before) earlier)))
      → Gains me before (version ∷ before) acts

same_event : (m k : Mac) (a b c d : ℕ) → Print (Alias m a c) ≡ Print (Alias k b d) → (m ≡ k) × (a ≡ b) × (c ≡ d)
same_event m k a b c d is = (cc, cc, cc)

event_told : (me : Mac) (n : ℕ) (o : Option ℕ) (mac : Mac) (number earlier : ℕ) → Has (alias_event me n o) (Print (Alias mac number earlier)) → (mac ≡ me) × (number ≡ n) × (o ≡ Some earlier)
event_told me n None mac number earlier has = absurd has
event_told me n (Some e) mac number earlier (inl is) = let s = same_event mac me number n earlier e is in (s.0, s.1, ap Some (sym s.2))
event_told me n (Some e) mac number earlier (inr none) = absurd none

event_tells : (me : Mac) (n : ℕ) (o : Option ℕ) (earlier : ℕ) → o ≡ Some earlier → Has (alias_event me n o) (Print (Alias me n earlier))
event_tells me n None earlier is = cc
event_tells me n (Some e) earlier is = inl (let same : e ≡ earlier = cc in ap (λ x. Print (Alias me n x)) (sym same))

same_length : (me : Mac) (before : List Version) → alias_acts me before before ≡ []
same_length me before = go (length before == length before) (Rattle.std.proofs.lemmas.Bool.eq-eqb (length before) (length before) refl)
  where
    go : (b : Bool) → b ≡ true → cond b [] (alias_event me (length before) (last_alias before)) ≡ []
    go true is = refl
    go false is = cc

-- the events of one commit more, with acts behind them that tell of no alias
more_gains : (me : Mac) (before : List Version) (version : Version) (quiet : List Act) → AreQuiet quiet → Gains me before (version ∷ before) (alias_acts me before (version ∷ before) ++ quiet)
more_gains me before version quiet none = gains_one version (events ++ quiet) only each
  where
    events : List Act
    events = alias_acts me before (version ∷ before)

    events_are : alias_acts me before (version ∷ before) ≡ alias_event me (length before) (alias_before version before)
    events_are = ap (λ b. cond b [] (alias_event me (length before) (alias_before version before))) (ne_eqb (suc (length before)) (length before) (λ e. omega (arith, e)))

    only : (mac : Mac) (number earlier : ℕ) → Has (events ++ quiet) (Print (Alias mac number earlier)) → (mac ≡ me) × (number ≡ length before) × (alias_before version before ≡ Some earlier)
    only mac number earlier has = go (has_either events quiet (Print (Alias mac number earlier)) has)
      where
        go : Has events (Print (Alias mac number earlier)) ⊎ Has quiet (Print (Alias mac number earlier)) → (mac ≡ me) × (number ≡ length before) × (alias_before version before ≡ Some earlier)
        go (inl told) = event_told me (length before) (alias_before version before) mac number earlier (subst (λ acts. Has acts (Print (Alias mac number earlier))) events_are told)
        go (inr sent) = absurd (quiet_none quiet mac number earlier none sent)

    each : (earlier : ℕ) → alias_before version before ≡ Some earlier → Has (events ++ quiet) (Print (Alias me (length before) earlier))
    each earlier is = has_left events quiet (Print (Alias me (length before) earlier))
        (subst (λ acts. Has acts (Print (Alias me (length before) earlier))) (sym events_are) (event_tells me (length before) (alias_before version before) earlier is))

commit_gains : (q : Queries) (me : Mac) (settings : Settings) (routes : RouteLog) (index : ℕ) (before after : History) → Committed before after → Gains me before.commits after.commits (commit_acts q me settings routes index before after)
commit_gains q me settings routes index before after (as_before same) = subst (λ (h : History). Gains me before.commits h.commits (commit_acts q me settings routes index before h)) (sym same)
    (gains_none (commit_acts q me settings routes index before before) (subst (λ acts. AreQuiet (acts ++ message)) (sym (same_length me before.commits)) (plain_quiet message (plain_message (q.beats routes index).ogm (containers_spelling (own_containers settings (announcement before)))))))
  where
    message : List Act
    message = message_acts (q.beats routes index).ogm (containers_spelling (own_containers settings (announcement before)))
commit_gains q me settings routes index before after (one_more version byte order same) = subst (λ (h : History). Gains me before.commits h.commits (commit_acts q me settings routes index before h)) (sym same)
    (more_gains me before.commits version message (plain_quiet message (plain_message (q.beats routes index).ogm (containers_spelling (own_containers settings (announcement more))))))
  where
    more : History
    more = record { commits = version ∷ before.commits; start = before.start; sent = 0 }

    message : List Act
    message = message_acts (q.beats routes index).ogm (containers_spelling (own_containers settings (announcement more)))

-- a reboot tells of the alias of its first commit
reboot_gains : (me : Mac) (before : History) → Gains me before.commits (restarted before).commits (reboot_acts me before)
reboot_gains me before = subst (Gains me before.commits (restarted before).commits) (append-nil (reboot_acts me before)) (more_gains me before.commits first_commit [] tt)

-- a line tells of the aliases that its node's commits gain
pub line_gains : (q : Queries) (me : Mac) (mine : Log) (now : ℕ) (line : LineGiven) (acts : List Act) → acts ≡ whole_acts q me mine now (Line line)
    → Gains me (commits me mine) (commits me (record { moment = now; given = Line line; acts = acts } ∷ mine)) acts
line_gains q me mine now line acts is = go (line_reboots line) refl
  where
    go : (b : Bool) → line_reboots line ≡ b → Gains me (commits me mine) (cond b (restarted (history me mine)) (history me mine)).commits acts
    go true reboots = subst (Gains me (commits me mine) (restarted (history me mine)).commits) (sym (is ∙ ap (λ x. whole_acts q me mine now (Line x)) (reboot_line line reboots))) (reboot_gains me (history me mine))
    go false calm = gains_none acts (subst AreQuiet (sym is) (quiet_line q me mine now line calm))

-- so do they once long packets are cut
pub gains_cut : (me : Mac) (before after : List Version) (cutter : Cutter) (acts : List Act) → passes_cuts cutter acts ≡ false → Gains me before after acts → Gains me before after (cut_acts cutter acts)
gains_cut me before _ cutter _ none (gains_none acts quiet) = gains_none (cut_acts cutter acts) (cut_quiet cutter acts quiet)
gains_cut me before _ cutter _ none (gains_one version acts only each) = gains_one version (cut_acts cutter acts)
    (λ mac number earlier has. only mac number earlier (print_came cutter acts (Alias mac number earlier) has))
    (λ earlier is. print_stays cutter acts none (Alias me (length before) earlier) (each earlier is))

-- acts that tell of no alias may stand before others
gains_behind : (me : Mac) (before after : List Version) (quiet acts : List Act) → AreQuiet quiet → Gains me before after acts → Gains me before after (quiet ++ acts)
gains_behind me before _ quiet _ none (gains_none acts all) = gains_none (quiet ++ acts) (each_appended IsQuiet quiet acts none all)
gains_behind me before _ quiet _ none (gains_one version acts only each) = gains_one version (quiet ++ acts)
    (λ mac number earlier has. go mac number earlier (has_either quiet acts (Print (Alias mac number earlier)) has))
    (λ earlier is. has_right quiet acts (Print (Alias me (length before) earlier)) (each earlier is))
  where
    go : (mac : Mac) (number earlier : ℕ) → Has quiet (Print (Alias mac number earlier)) ⊎ Has acts (Print (Alias mac number earlier)) → (mac ≡ me) × (number ≡ length before) × (alias_before version before ≡ Some earlier)
    go mac number earlier (inl told) = absurd (quiet_none quiet mac number earlier none told)
    go mac number earlier (inr told) = only mac number earlier told

-- and such may stand behind others
gains_then : (me : Mac) (before after : List Version) (acts quiet : List Act) → AreQuiet quiet → Gains me before after acts → Gains me before after (acts ++ quiet)
gains_then me before _ _ quiet none (gains_none acts all) = gains_none (acts ++ quiet) (each_appended IsQuiet acts quiet all none)
gains_then me before _ _ quiet none (gains_one version acts only each) = gains_one version (acts ++ quiet)
    (λ mac number earlier has. go mac number earlier (has_either acts quiet (Print (Alias mac number earlier)) has))
    (λ earlier is. has_left acts quiet (Print (Alias me (length before) earlier)) (each earlier is))
  where
    go : (mac : Mac) (number earlier : ℕ) → Has acts (Print (Alias mac number earlier)) ⊎ Has quiet (Print (Alias mac number earlier)) → (mac ≡ me) × (number ≡ length before) × (alias_before version before ≡ Some earlier)
    go mac number earlier (inl told) = only mac number earlier told
    go mac number earlier (inr told) = absurd (quiet_none quiet mac number earlier none told)

tick_gains : (q : Queries) (me : Mac) (settings : Settings) (routes : RouteLog) (ms : List Mention) (before : History) (bridge : Bridge) (now index : ℕ)
    → Gains me before.commits (cond (is_commit_tick index) (with_message (committed (present_table ms now) before)) before).commits (tick_acts q me settings routes ms before bridge now index)
unfolding tick_acts
tick_gains q me settings routes ms before bridge now index =
    let at : Place = record { me = me; now = now } in
    let round = round_acts at bridge index in
    let acts = cond (is_commit_tick index) (commit_acts q me settings routes index before (committed (present_table ms now) before)) [] in
    gains_behind me before.commits (cond (is_commit_tick index) (with_message (committed (present_table ms now) before)) before).commits (elp_acts q routes index) (acts ++ round)
    (plain_quiet (elp_acts q routes index) (plain_message (q.beats routes index).elp []))
    (gains_then me before.commits (cond (is_commit_tick index) (with_message (committed (present_table ms now) before)) before).commits acts round (plain_quiet round (plain_round at bridge index)) (go (is_commit_tick index)))
  where
    go : (b : Bool) → Gains me before.commits (cond b (with_message (committed (present_table ms now) before)) before).commits (cond b (commit_acts q me settings routes index before (committed (present_table ms now) before)) [])
    go true = commit_gains q me settings routes index before (committed (present_table ms now) before) (committed_is ms now before)
    go false = gains_none [] tt

-- so do they with a round of the fact store behind them
pub ticks_gain : (q : Queries) (me : Mac) (settings : Settings) (routes : RouteLog) (ms : List Mention) (before : History) (bridge : Bridge) (now index : ℕ) (known : Knowledge)
    → Gains me before.commits (cond (is_commit_tick index) (with_message (committed (present_table ms now) before)) before).commits
    (tick_acts q me settings routes ms before bridge now index ++ fact_round_acts q known (record { me = me; now = now }) index)
ticks_gain q me settings routes ms before bridge now index known =
    let at : Place = record { me = me; now = now } in
    let round = fact_round_acts q known at index in
    gains_then me before.commits (cond (is_commit_tick index) (with_message (committed (present_table ms now) before)) before).commits (tick_acts q me settings routes ms before bridge now index) round
    (plain_quiet round (plain_store me round (round_stores q known at index))) (tick_gains q me settings routes ms before bridge now index)
