-- What a node is given leaves its settings, but for a line that sets one.
use Rattle.std.proofs.Common.{◌≡◌, ℕ, Bool, true, false, cond, List, [], ◌∷◌, Option, Some, None, refl, ap, ◌∙◌}
use Rattle.mesh_base.specs.declared.address.Mac.{Mac}
use Rattle.mesh_base.specs.declared.client.Vid.{Vid}
use Rattle.mesh_model.specs.declared.packet.Head.{Head}
use Rattle.mesh_model.specs.Clients.Log.{Given, Tick, LinkFrame, LanFrame, Line, LineGiven, Attach, Frame, Gone, Join, Leave, Arp, Dhcp, Sets, Put, Get, Ping, Trace, Reboot, Log, after_setting, setting_of, settings}
use Rattle.mesh_model.specs.Clients.Mentions.{key_of, mentions, next_mentions, passed_from_lan}
use Rattle.mesh_model.specs.Clients.Settings.{Setting, Wifi, Gateway, Multicast, ArpTable, FactStore, LongestWhole, Pictures, Settings, set_to}
use Rattle.mesh_model.specs.Knowledge.Known.{Knowledge}
use Rattle.mesh_model.specs.Knowledge.PutTogether.{fact_carried, put_together, with_part}
use Rattle.mesh_model.specs.Knowledge.Pairs.{after_asking, after_came, after_question, is_asked, with_ask, with_learned}
use Rattle.mesh_model.specs.Knowledge.Steps.{Coming, after_packet, after_packets, after_sighting, knowledge, line_knowledge, next_knowledge, table_behind, with_set}
use Rattle.mesh_model.specs.Knowledge.Told.{message_of}
use Rattle.mesh_model.specs.Packets.ArpMessages.{ArpCame, Asks, Puts, Tells}
use Rattle.mesh_model.specs.Packets.FirstPacket.{Packet}
use Rattle.mesh_model.specs.Packets.LanFrames.{client_frame_in, lan_message_of}
use Rattle.mesh_model.specs.Packets.LinkFrame.{link_frame}
use Rattle.mesh_model.specs.Routes.Queries.{Queries}
use Rattle.mesh_model.specs.Services.ArpTable.{AskedFor}
use Rattle.mesh_laws.proofs.KeptLemmas.{HasCome, Kept, brings, call_kept, frame_kept, get_kept, head_comes, joins, leaves, passed_kept, stores, tick_kept}
use Rattle.mesh_laws.proofs.StoreLemmas.{Rest, message_rest}

-- the settings that are known
abbrev set_of : Knowledge → Settings
set_of known = known.services.settings

-- those among what is kept
abbrev settings_in : Kept → Settings
settings_in kept = kept.settings

-- of two, each with these settings, one has them
either : (b : Bool) (x y : Knowledge) (s : Settings) → set_of x ≡ s → set_of y ≡ s → set_of (cond b x y) ≡ s
either true x y s e f = e
either false x y s e f = f

-- ---- packets

came_set : (now : ℕ) (came : Option ArpCame) (known : Knowledge) → set_of (after_came now came known) ≡ set_of known
came_set now None known = refl
came_set now (Some (Puts m)) known = refl
came_set now (Some (Asks m)) known = refl
came_set now (Some (Tells m)) known = refl

step_set : (now : ℕ) (head : Head) (tail : List ℕ) (known after : Knowledge) → HasCome now head tail known after → set_of after ≡ set_of known
step_set now head tail known _ (leaves after same) = ap settings_in same
step_set now head tail known _ (stores told before payload uncut of same) = ap (λ (r : Rest). r.settings) (message_rest now told before) ∙ ap settings_in same
step_set now head tail known _ (joins call payload is) = ap (λ (r : Rest). r.settings) (message_rest call.moment (fact_carried (put_together call known.parts)) (with_part call known))
step_set now head tail known _ (brings came) =
    either known.services.settings.arp_table (after_came now came known) known (set_of known) (came_set now came known) refl

packets_set : (q : Queries) (me : Mac) (came : Coming) (known : Knowledge) (packets : List Packet)
    → set_of (after_packets q me came known packets) ≡ set_of known
packets_set q me came known [] = refl
packets_set q me came known (packet ∷ rest) =
    let after = after_packet q me came known packet in
    packets_set q me came after rest ∙ step_set came.now packet.head packet.tail known after (head_comes q me came (message_of packet) packet.tail packet.head known)

-- ---- lines

question_set : (q : Queries) (me : Mac) (now : ℕ) (mac : Mac) (own_ip asked_ip : ℕ) (vid : Vid) (known : Knowledge)
    → set_of (after_question q me now mac own_ip asked_ip vid known) ≡ set_of known
question_set q me now mac own_ip asked_ip vid known =
    let learned = with_learned now own_ip vid mac known in
    either known.services.settings.arp_table (after_asking q me now asked_ip vid learned) known (set_of known)
    (either (is_asked q me learned now asked_ip vid) (with_ask (AskedFor asked_ip vid) learned) learned (set_of known) refl refl) refl

setting_set : (setting : Setting) (known : Knowledge) → set_of (with_set setting known) ≡ set_to setting (set_of known)
setting_set (Wifi on) known = refl
setting_set (Gateway part) known = refl
setting_set (Multicast flags) known = refl
setting_set (ArpTable on) known = refl
setting_set (FactStore mode) known = refl
setting_set (Pictures on) known = refl
setting_set (LongestWhole size) known = refl

-- what a line leaves of the settings
line_set : (q : Queries) (me : Mac) (older : Log) (known : Knowledge) (now : ℕ) (line : LineGiven)
    → set_of (line_knowledge q me older known now line) ≡ after_setting (setting_of (Line line)) (set_of known)
line_set q me older known now (Attach lan gateways) = refl
line_set q me older known now (Frame src dst vid text) = ap settings_in (frame_kept q now (key_of dst vid) (after_sighting q me older now (key_of src vid) known))
line_set q me older known now (Gone key) = refl
line_set q me older known now (Join key) = refl
line_set q me older known now (Leave key) = refl
line_set q me older known now (Arp mac own_ip asked_ip vid) =
    question_set q me now mac own_ip asked_ip vid (after_sighting q me older now (key_of mac vid) known)
line_set q me older known now (Dhcp key text) = ap settings_in (call_kept q now (after_sighting q me older now key known))
line_set q me older known now (Sets setting) = setting_set setting known
line_set q me older known now (Put type_no version text) = refl
line_set q me older known now (Get type_no) = ap settings_in (get_kept q now type_no known.services.settings.fact_store known)
line_set q me older known now (Ping target) = refl
line_set q me older known now (Trace target) = refl
line_set q me older known now Reboot = refl

-- ---- the log

given_set : (q : Queries) (me : Mac) (older : Log) (known : Knowledge) (now : ℕ) (given : Given)
    → set_of (next_knowledge q me older known now given) ≡ after_setting (setting_of given) (set_of known)
given_set q me older known now (Tick index) = ap settings_in (tick_kept q me now index (table_behind me older now index) known)
given_set q me older known now (LinkFrame number from throughput bytes) =
    packets_set q me (record { now = now; from = from; throughput = throughput; number = number }) known (link_frame bytes).packets
given_set q me older known now (LanFrame bytes) = ap settings_in (passed_kept q me older known now
    (next_mentions me older (mentions me older) now (LanFrame bytes))
    (passed_from_lan me older now (client_frame_in (lan_message_of bytes))))
given_set q me older known now (Line line) = line_set q me older known now line

pub settings_known : (q : Queries) (me : Mac) (log : Log) → (knowledge q me log).services.settings ≡ settings log
settings_known q me [] = refl
settings_known q me (entry ∷ older) = given_set q me older (knowledge q me older) entry.moment entry.given
    ∙ ap (after_setting (setting_of entry.given)) (settings_known q me older)
