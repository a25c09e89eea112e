-- What a node asked for, a line asked it for.
use Rattle.std.proofs.Common.{◌≡◌, ◌⊎◌, inl, inr, ℕ, Bool, true, false, cond, List, [], ◌∷◌, Option, Some, None, refl, sym, ap, subst, ◌∙◌}
use Rattle.mesh_base.specs.declared.address.Mac.{Mac}
use Rattle.mesh_base.specs.declared.client.Vid.{Vid}
use Rattle.mesh_model.specs.declared.packet.Head.{Head}
use Rattle.mesh_model.specs.Clients.Log.{Given, Tick, LinkFrame, LanFrame, Line, LineGiven, Attach, Frame, Gone, Join, Leave, Arp, Dhcp, Sets, Put, Get, Ping, Trace, Reboot, Log}
use Rattle.mesh_model.specs.Clients.Mentions.{key_of, mentions, next_mentions, passed_from_lan}
use Rattle.mesh_model.specs.Clients.Settings.{Setting, Wifi, Gateway, Multicast, ArpTable, FactStore, LongestWhole, Pictures}
use Rattle.mesh_model.specs.Knowledge.FactStore.{after_get}
use Rattle.mesh_model.specs.Knowledge.Known.{Knowledge}
use Rattle.mesh_model.specs.Knowledge.PutTogether.{fact_carried, put_together, with_part}
use Rattle.mesh_model.specs.Knowledge.Pairs.{after_asking, after_came, after_question, is_asked, with_ask, with_learned}
use Rattle.mesh_model.specs.Knowledge.Steps.{Coming, after_call, after_frame, after_packet, after_packets, after_passed, after_sighting, knowledge, line_knowledge, next_knowledge, table_behind, with_set}
use Rattle.mesh_model.specs.Knowledge.Told.{message_of}
use Rattle.mesh_model.specs.Net.Next.{Has}
use Rattle.mesh_model.specs.Packets.ArpMessages.{ArpCame, Asks, Puts, Tells}
use Rattle.mesh_model.specs.Packets.FirstPacket.{Packet}
use Rattle.mesh_model.specs.Packets.LanFrames.{client_frame_in, lan_message_of}
use Rattle.mesh_model.specs.Packets.LinkFrame.{link_frame}
use Rattle.mesh_model.specs.Routes.Queries.{Queries}
use Rattle.mesh_model.specs.Services.ArpTable.{PairCall, AskedFor}
use Rattle.mesh_laws.specs.AddressLaws.{AwaitedByLines, WasAskedByLine}
use Rattle.mesh_laws.proofs.KeptLemmas.{HasCome, Kept, brings, call_kept, frame_kept, get_kept, head_comes, joins, kept_of, leaves, passed_kept, stores, tick_kept}
use Rattle.mesh_laws.proofs.StoreLemmas.{Rest, message_rest}
use Rattle.mesh_laws.proofs.Schedule.Members.{has_right}

-- a pair was asked for
abbrev Asked : Knowledge → ℕ → Vid → Type 0
Asked known ip vid = Has known.services.asks (AskedFor ip vid)

-- what asks stay as they were
kept_asks : (ip : ℕ) (vid : Vid) (before after : Knowledge) → kept_of after ≡ kept_of before → Asked after ip vid → Asked before ip vid
kept_asks ip vid before after same asked = subst (λ (k : Kept). Has k.asks (AskedFor ip vid)) same asked

-- ---- packets

came_asks : (ip : ℕ) (vid : Vid) (now : ℕ) (came : Option ArpCame) (known : Knowledge) → Asked (after_came now came known) ip vid → Asked known ip vid
came_asks ip vid now None known asked = asked
came_asks ip vid now (Some (Puts m)) known asked = asked
came_asks ip vid now (Some (Asks m)) known asked = asked
came_asks ip vid now (Some (Tells m)) known (inl is) = cc
came_asks ip vid now (Some (Tells m)) known (inr asked) = asked

step_asks : (ip : ℕ) (vid : Vid) (now : ℕ) (head : Head) (tail : List ℕ) (known after : Knowledge) → HasCome now head tail known after → Asked after ip vid → Asked known ip vid
step_asks ip vid now head tail known _ (leaves after same) asked = kept_asks ip vid known after same asked
step_asks ip vid now head tail known _ (stores told before payload uncut of same) asked =
    kept_asks ip vid known before same (subst (λ (r : Rest). Has r.asks (AskedFor ip vid)) (message_rest now told before) asked)
step_asks ip vid now head tail known _ (joins call payload is) asked =
    let carried = fact_carried (put_together call known.parts) in
    subst (λ (r : Rest). Has r.asks (AskedFor ip vid)) (message_rest call.moment carried (with_part call known)) asked
step_asks ip vid now head tail known _ (brings came) asked = go known.services.settings.arp_table asked
  where
    go : (b : Bool) → Asked (cond b (after_came now came known) known) ip vid → Asked known ip vid
    go true asked = came_asks ip vid now came known asked
    go false asked = asked

packets_asks : (ip : ℕ) (vid : Vid) (q : Queries) (me : Mac) (came : Coming) (known : Knowledge) (packets : List Packet) → Asked (after_packets q me came known packets) ip vid → Asked known ip vid
packets_asks ip vid q me came known [] asked = asked
packets_asks ip vid q me came known (packet ∷ rest) asked =
    let after = after_packet q me came known packet in
    step_asks ip vid came.now packet.head packet.tail known after (head_comes q me came (message_of packet) packet.tail packet.head known) (packets_asks ip vid q me came after rest asked)

-- ---- lines

-- a line asks for a pair
pub record AsksFor (line : LineGiven) (ip : ℕ) (vid : Vid) : Type 0 where
  pub client : Mac
  pub own_ip : ℕ
  pub line_is : line ≡ Arp client own_ip ip vid

same_call : (a b : ℕ) (v w : Vid) → AskedFor a v ≡ AskedFor b w → (a ≡ b) × (v ≡ w)
same_call a b v w is = (cc, cc)

question_asks : (ip : ℕ) (vid : Vid) (q : Queries) (me : Mac) (now : ℕ) (mac : Mac) (own_ip asked_ip : ℕ) (asked_vid : Vid) (known : Knowledge)
    → Asked (after_question q me now mac own_ip asked_ip asked_vid known) ip vid → AsksFor (Arp mac own_ip asked_ip asked_vid) ip vid ⊎ Asked known ip vid
question_asks ip vid q me now mac own_ip asked_ip asked_vid known asked = go known.services.settings.arp_table asked
  where
    learned : Knowledge
    learned = with_learned now own_ip asked_vid mac known

    by : (b : Bool) → Asked (cond b (with_ask (AskedFor asked_ip asked_vid) learned) learned) ip vid → AsksFor (Arp mac own_ip asked_ip asked_vid) ip vid ⊎ Asked known ip vid
    by true (inl is) =
        let s = same_call ip asked_ip vid asked_vid is in
        inl (record { client = mac; own_ip = own_ip; line_is = ap (λ i. Arp mac own_ip i asked_vid) (sym s.0) ∙ ap (Arp mac own_ip ip) (sym s.1) })
    by true (inr before) = inr before
    by false before = inr before

    go : (b : Bool) → Asked (cond b (after_asking q me now asked_ip asked_vid learned) known) ip vid → AsksFor (Arp mac own_ip asked_ip asked_vid) ip vid ⊎ Asked known ip vid
    go true asked = by (is_asked q me learned now asked_ip asked_vid) asked
    go false before = inr before

set_asks : (ip : ℕ) (vid : Vid) (setting : Setting) (known : Knowledge) → Asked (with_set setting known) ip vid → Asked known ip vid
set_asks ip vid (Wifi on) known asked = asked
set_asks ip vid (Gateway part) known asked = asked
set_asks ip vid (Multicast flags) known asked = asked
set_asks ip vid (ArpTable on) known asked = asked
set_asks ip vid (FactStore mode) known asked = asked
set_asks ip vid (Pictures on) known asked = asked
set_asks ip vid (LongestWhole size) known asked = asked

line_asks : (ip : ℕ) (vid : Vid) (q : Queries) (me : Mac) (older : Log) (known : Knowledge) (now : ℕ) (line : LineGiven) → Asked (line_knowledge q me older known now line) ip vid → AsksFor line ip vid ⊎ Asked known ip vid
line_asks ip vid q me older known now (Attach lan gateways) asked = inr asked
line_asks ip vid q me older known now (Frame src dst own text) asked =
    let seen = after_sighting q me older now (key_of src own) known in
    inr (kept_asks ip vid seen (after_frame q now (key_of dst own) seen) (frame_kept q now (key_of dst own) seen) asked)
line_asks ip vid q me older known now (Gone key) asked = inr asked
line_asks ip vid q me older known now (Join key) asked = inr asked
line_asks ip vid q me older known now (Leave key) asked = inr asked
line_asks ip vid q me older known now (Arp mac own_ip asked_ip asked_vid) asked =
    question_asks ip vid q me now mac own_ip asked_ip asked_vid (after_sighting q me older now (key_of mac asked_vid) known) asked
line_asks ip vid q me older known now (Dhcp key text) asked =
    let seen = after_sighting q me older now key known in
    inr (kept_asks ip vid seen (after_call q now seen) (call_kept q now seen) asked)
line_asks ip vid q me older known now (Sets setting) asked = inr (set_asks ip vid setting known asked)
line_asks ip vid q me older known now (Put type_no version text) asked = inr asked
line_asks ip vid q me older known now (Get type_no) asked = inr (kept_asks ip vid known (after_get q now type_no known.services.settings.fact_store known) (get_kept q now type_no known.services.settings.fact_store known) asked)
line_asks ip vid q me older known now (Ping target) asked = inr asked
line_asks ip vid q me older known now (Trace target) asked = inr asked
line_asks ip vid q me older known now Reboot asked = absurd asked

-- ---- the log

-- what is given asks for a pair
abbrev GivenAsks : Given → ℕ → Vid → Type 0
GivenAsks given ip vid = (client : Mac) × (own_ip : ℕ) × (given ≡ Line (Arp client own_ip ip vid))

given_asks : (ip : ℕ) (vid : Vid) (q : Queries) (me : Mac) (older : Log) (known : Knowledge) (now : ℕ) (given : Given) → Asked (next_knowledge q me older known now given) ip vid → GivenAsks given ip vid ⊎ Asked known ip vid
given_asks ip vid q me older known now (Tick index) asked =
    inr (subst (λ (k : Kept). Has k.asks (AskedFor ip vid)) (tick_kept q me now index (table_behind me older now index) known) asked)
given_asks ip vid q me older known now (LinkFrame number from throughput bytes) asked =
    inr (packets_asks ip vid q me (record { now = now; from = from; throughput = throughput; number = number }) known (link_frame bytes).packets asked)
given_asks ip vid q me older known now (LanFrame bytes) asked =
    let ms = next_mentions me older (mentions me older) now (LanFrame bytes) in
    let passed = passed_from_lan me older now (client_frame_in (lan_message_of bytes)) in
    inr (kept_asks ip vid known (after_passed q me older known now ms passed) (passed_kept q me older known now ms passed) asked)
given_asks ip vid q me older known now (Line line) asked = go (line_asks ip vid q me older known now line asked)
  where
    go : AsksFor line ip vid ⊎ Asked known ip vid → GivenAsks (Line line) ip vid ⊎ Asked known ip vid
    go (inl a) = inl (a.client, a.own_ip, ap Line a.line_is)
    go (inr before) = inr before

asked_by_line : (ip : ℕ) (vid : Vid) (q : Queries) (me : Mac) (log : Log) → Asked (knowledge q me log) ip vid → WasAskedByLine log ip vid
asked_by_line ip vid q me [] asked = absurd asked
asked_by_line ip vid q me (entry ∷ older) asked = go (given_asks ip vid q me older (knowledge q me older) entry.moment entry.given asked) (asked_by_line ip vid q me older)
  where
    go : GivenAsks entry.given ip vid ⊎ Asked (knowledge q me older) ip vid → (Asked (knowledge q me older) ip vid → WasAskedByLine older ip vid) → WasAskedByLine (entry ∷ older) ip vid
    go (inl a) before = record { entry = entry; among = inl refl; client = a.0; own_ip = a.1; given_is = a.2 }
    go (inr asked) before = let w = before asked in record { entry = w.entry; among = inr w.among; client = w.client; own_ip = w.own_ip; given_is = w.given_is }

pub awaited_by_lines : AwaitedByLines
awaited_by_lines q me log ip vid w =
    asked_by_line ip vid q me log (subst (λ (calls : List PairCall). Has calls (AskedFor ip vid)) (sym w.calls_are) (has_right w.newer (AskedFor ip vid ∷ w.older) (AskedFor ip vid) (inl refl)))
