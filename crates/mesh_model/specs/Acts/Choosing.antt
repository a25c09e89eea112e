-- What a node puts when it is given something: the row of the input, by what the node knows, of
-- whose packets those are cut that are too long. A node's cuts are counted over its log. A
-- sighting comes first, with its advertisement; before the sighting of a client on a LAN comes its
-- claim. A LAN that is joined, a setting, a joining, a leaving, a departure and a fact that is put
-- put nothing. The main word is `acts_of`.
use Rattle.std.specs.Prelude.{ℕ, ◌+◌, ◌==◌, Bool, true, false, List, [], ◌∷◌, ◌++◌, Option, Some, None, if◌then◌else◌}
use Rattle.mesh_base.specs.declared.address.Mac.{Mac}
use Rattle.mesh_base.specs.declared.client.Key.{Key}
use Rattle.mesh_base.specs.declared.client.Vid.{Vid}
use Rattle.mesh_model.specs.declared.act.Act.{Act}
use Rattle.mesh_model.specs.Acts.ArpRows.{question_acts}
use Rattle.mesh_model.specs.Acts.BridgeRows.{claim_acts}
use Rattle.mesh_model.specs.Acts.Cuts.{Cutter, cut_acts, cuts_among}
use Rattle.mesh_model.specs.Acts.FactRows.{fact_round_acts, get_acts}
use Rattle.mesh_model.specs.Acts.FrameRows.{advert_acts, frame_acts}
use Rattle.mesh_model.specs.Acts.GroupRows.{call_acts}
use Rattle.mesh_model.specs.Acts.ProbeRows.{session_acts}
use Rattle.mesh_model.specs.Acts.Rows.{own_by, packets_acts, reboot_acts, tick_acts}
use Rattle.mesh_model.specs.Bridges.Verdicts.{verdict_from_lan}
use Rattle.mesh_model.specs.Clients.Lans.{LanOf, bridge}
use Rattle.mesh_model.specs.Clients.Log.{Given, Tick, LinkFrame, LanFrame, Line, LineGiven, Attach, Frame, Gone, Join, Leave, Arp, Dhcp, Sets, Put, Get, Ping, Trace, Reboot, Log, settings}
use Rattle.mesh_model.specs.Clients.Mentions.{Mention, key_of, mentions, next_mentions, passed_from_lan}
use Rattle.mesh_model.specs.Commits.History.{history}
use Rattle.mesh_model.specs.Knowledge.Known.{Knowledge}
use Rattle.mesh_model.specs.Knowledge.Steps.{advertised, after_sighting, before_telling, knowledge, stays_on_lan, table_behind}
use Rattle.mesh_model.specs.Packets.Ethernet.{all_stations}
use Rattle.mesh_model.specs.Packets.LanFrames.{client_frame_in, lan_message_of}
use Rattle.mesh_model.specs.Packets.LinkFrame.{link_frame}
use Rattle.mesh_model.specs.Packets.Payload.{ClientFrame}
use Rattle.mesh_model.specs.Routes.Queries.{Queries}

-- a sighting: its advertisement
abbrev pub sighting_acts : Queries → Mac → Log → ℕ → Key → List Act
sighting_acts q me log now key =
    advert_acts me key (advertised q me log (knowledge q me log) now key)

-- a client frame, behind its sighting
abbrev pub client_acts : Queries → Mac → Log → ℕ → ClientFrame → List Act
client_acts q me log now frame = frame_acts q
    (after_sighting q me log now (key_of frame.src frame.vid) (knowledge q me log))
    (next_mentions me log (mentions me log) now
    (Line (Frame frame.src frame.dst frame.vid frame.text)))
    (record { me = me; now = now }) frame

-- the client frame that a call for a gateway is
abbrev pub call_frame : Key → List ℕ → ClientFrame
call_frame key text = record { dst = all_stations; src = key.mac; vid = key.vid; text = text }

-- a call for a gateway, behind its sighting
abbrev pub calling_acts : Queries → Mac → Log → ℕ → Key → List ℕ → List Act
calling_acts q me log now key text = call_acts q
    (after_sighting q me log now key (knowledge q me log)) (record { me = me; now = now })
    (call_frame key text)

-- the question of a client, behind its sighting
abbrev pub asking_acts : Queries → Mac → Log → ℕ → Mac → ℕ → ℕ → Vid → List Act
asking_acts q me log now mac own_ip asked_ip vid = question_acts q
    (after_sighting q me log now (key_of mac vid) (knowledge q me log))
    (record { me = me; now = now }) mac own_ip asked_ip vid

-- a ping or, for `trace`, a traceroute begins
abbrev pub probing_acts : Queries → Mac → Log → ℕ → Mac → Bool → List Act
probing_acts q me log now target trace =
    session_acts q (knowledge q me log) (record { me = me; now = now }) target trace

-- ---- frames of a LAN

-- the claim of a client frame's source on the LAN that it came from
abbrev pub claiming_acts : Mac → Log → ℕ → ClientFrame → Option LanOf → List Act
claiming_acts me log now frame None = []
claiming_acts me log now frame (Some lan) =
    claim_acts (record { me = me; now = now }) lan (key_of frame.src frame.vid)
    (verdict_from_lan me (bridge log).claims now (key_of frame.src frame.vid)).claim

-- the same, where a client frame came
abbrev pub claimed_first : Mac → Log → ℕ → Option ClientFrame → List Act
claimed_first me log now None = []
claimed_first me log now (Some frame) = claiming_acts me log now frame (bridge log).lan

-- a client frame from a LAN, behind its sighting, by what is known and mentioned then: it goes on,
-- unless it stays there
abbrev pub on_from_lan : Queries → Mac → Log → ℕ → Knowledge → List Mention → ClientFrame → List Act
on_from_lan q me log now known after frame =
    if stays_on_lan q after (bridge log).lan now (key_of frame.dst frame.vid) known then []
    else frame_acts q known after (record { me = me; now = now }) frame

-- a client frame that a gateway passes of its LAN, where it passes one, with the mentions behind
-- its sighting
abbrev pub from_lan_acts : Queries → Mac → Log → ℕ → List Mention → Option ClientFrame → List Act
from_lan_acts q me log now after None = []
from_lan_acts q me log now after (Some frame) =
    sighting_acts q me log now (key_of frame.src frame.vid)
    ++ on_from_lan q me log now
    (after_sighting q me log now (key_of frame.src frame.vid) (knowledge q me log)) after frame

-- the acts, in order, of a frame on the LAN of a gateway
abbrev pub lan_acts : Queries → Mac → Log → ℕ → List ℕ → List Act
lan_acts q me log now bytes =
    claimed_first me log now (client_frame_in (lan_message_of bytes))
    ++ from_lan_acts q me log now (next_mentions me log (mentions me log) now (LanFrame bytes))
    (passed_from_lan me log now (client_frame_in (lan_message_of bytes)))

-- ---- the choice

-- the acts, in order, of what a line gives a node at a moment
abbrev pub line_acts : Queries → Mac → Log → ℕ → LineGiven → List Act
line_acts q me log now (Attach lan gateways) = []
line_acts q me log now (Frame src dst vid text) = sighting_acts q me log now (key_of src vid)
    ++ client_acts q me log now (record { dst = dst; src = src; vid = vid; text = text })
line_acts q me log now (Gone key) = []
line_acts q me log now (Join key) = []
line_acts q me log now (Leave key) = []
line_acts q me log now (Arp mac own_ip asked_ip vid) =
    sighting_acts q me log now (key_of mac vid)
    ++ asking_acts q me log now mac own_ip asked_ip vid
line_acts q me log now (Dhcp key text) =
    sighting_acts q me log now key ++ calling_acts q me log now key text
line_acts q me log now (Sets setting) = []
line_acts q me log now (Put type_no version text) = []
line_acts q me log now (Get type_no) =
    get_acts q (knowledge q me log) (record { me = me; now = now }) type_no
line_acts q me log now (Ping target) = probing_acts q me log now target false
line_acts q me log now (Trace target) = probing_acts q me log now target true
line_acts q me log now Reboot = reboot_acts me (history me log)

-- the acts, in order, of a node with this algorithm, address and log that is given something at a
-- moment, with whole packets
abbrev pub whole_acts : Queries → Mac → Log → ℕ → Given → List Act
whole_acts q me log now (Tick index) = tick_acts q me (knowledge q me log).services.settings
    (knowledge q me log).routes (mentions me log) (history me log) (bridge log) now index
    ++ fact_round_acts q
    (before_telling q me now index (table_behind me log now index) (knowledge q me log))
    (record { me = me; now = now }) index
whole_acts q me log now (LinkFrame number from throughput bytes) =
    packets_acts q me (own_by me log)
    (record { now = now; from = from; throughput = throughput; number = number })
    (knowledge q me log) (link_frame bytes).packets
whole_acts q me log now (LanFrame bytes) = lan_acts q me log now bytes
whole_acts q me log now (Line line) = line_acts q me log now line

-- ---- long packets

-- how many of the acts of an entry are cut, by the settings before it
abbrev pub cuts_of : Queries → Mac → Log → ℕ → Given → ℕ
cuts_of q me log now given = if (settings log).longest_whole == 0 then 0
    else cuts_among (settings log).longest_whole (whole_acts q me log now given)

-- how many cuts a node made by its log, over all its reboots
abbrev pub cuts_by : Queries → Mac → Log → ℕ
cuts_by q me [] = 0
cuts_by q me (entry ∷ older) =
    cuts_by q me older + cuts_of q me older entry.moment entry.given

-- how a node cuts by its log
abbrev pub cutter_by : Queries → Mac → Log → Cutter
cutter_by q me log =
    record { me = me; most = (settings log).longest_whole; cuts = cuts_by q me log }

-- the acts, in order, with long packets cut
abbrev pub acts_of : Queries → Mac → Log → ℕ → Given → List Act
acts_of q me log now given = cut_acts (cutter_by q me log) (whole_acts q me log now given)
