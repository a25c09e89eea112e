-- What is asked of a log is the same of the log since its last reboot.
use Rattle.std.proofs.Common.{◌≡◌, ◌∙◌, refl, sym, ap, ap₂, subst, ℕ, Bool, true, false, ◌&&◌, cond, List, [], ◌∷◌, ◌++◌, Option, Some, None, is_none, is_some}
use Rattle.mesh_base.specs.declared.address.Mac.{Mac}
use Rattle.mesh_base.specs.declared.client.Entry.{Entry}
use Rattle.mesh_base.specs.declared.client.Key.{Key}
use Rattle.mesh_model.specs.Bridges.Verdicts.{verdict_from_lan}
use Rattle.mesh_model.specs.Clients.Lans.{Bridge, bridge, next_bridge, no_bridge}
use Rattle.mesh_model.specs.Clients.LastLog.{last_log, moved_to, settings_in}
use Rattle.mesh_model.specs.Clients.Log.{Given, Tick, LinkFrame, LanFrame, Line, LineGiven, Attach, Frame, Gone, Join, Leave, Arp, Dhcp, Sets, Put, Get, Ping, Trace, Reboot, Log, LogEntry, after_setting, is_reboot, line_reboots, setting_of, settings}
use Rattle.mesh_model.specs.Clients.Mentions.{Mention, News, Sighted, key_of, line_mentions, mentions, mentions_by, next_mentions, passed_from_lan, passed_mentions}
use Rattle.mesh_model.specs.Clients.Present.{present_row}
use Rattle.mesh_model.specs.Clients.Settings.{Setting, Wifi, Gateway, Multicast, ArpTable, FactStore, LongestWhole, Pictures, Settings, set_to}
use Rattle.mesh_model.specs.Commits.History.{History, after_tick, commits, committed, history, is_commit_tick, next_history, present_table, restarted, with_commit, with_message}
use Rattle.mesh_model.specs.Commits.Versions.{first_commit, last_commit, same_table}
use Rattle.mesh_model.specs.Tables.Versions.{Version, next_byte}
use Rattle.mesh_model.specs.Knowledge.Addressee.{addressee}
use Rattle.mesh_model.specs.Knowledge.Known.{Knowledge, no_knowledge}
use Rattle.mesh_model.specs.Knowledge.Pairs.{after_question}
use Rattle.mesh_model.specs.Knowledge.Served.{no_services}
use Rattle.mesh_model.specs.Knowledge.Steps.{after_tick as after_node_tick, after_bridged, after_call, after_frame, after_passed, after_sighting, knowledge, line_knowledge, next_knowledge, sighting_calls, stays_on_lan, with_set}
use Rattle.mesh_model.specs.Marks.Advertisements.{too_many}
use Rattle.mesh_model.specs.Packets.LanFrames.{client_frame_in, lan_message_of}
use Rattle.mesh_model.specs.Packets.Numbers.{wifi_flag}
use Rattle.mesh_model.specs.Packets.Payload.{ClientFrame}
use Rattle.mesh_model.specs.Routes.Queries.{Queries}
use Rattle.mesh_laws.specs.LastLogLaws.{AnswerAlike, LastLogAnswers}
use Rattle.mesh_laws.proofs.SettingLemmas.{settings_known}

-- ---- a log of settings

-- what sets something is a line that does
pub record IsSet (given : Given) : Type 0 where
  setting : Setting
  given_is : given ≡ Line (Sets setting)

set_line : (given : Given) (setting : Setting) → setting_of given ≡ Some setting → IsSet given
set_line (Tick index) setting is = cc
set_line (LinkFrame number from throughput bytes) setting is = cc
set_line (LanFrame bytes) setting is = cc
set_line (Line (Attach lan gateways)) setting is = cc
set_line (Line (Frame src dst vid text)) setting is = cc
set_line (Line (Gone key)) setting is = cc
set_line (Line (Join key)) setting is = cc
set_line (Line (Leave key)) setting is = cc
set_line (Line (Arp mac own_ip asked_ip vid)) setting is = cc
set_line (Line (Dhcp key text)) setting is = cc
set_line (Line (Sets one)) setting is = record { setting = one; given_is = refl }
set_line (Line (Put type_no version text)) setting is = cc
set_line (Line (Get type_no)) setting is = cc
set_line (Line (Ping target)) setting is = cc
set_line (Line (Trace target)) setting is = cc
set_line (Line Reboot) setting is = cc

-- what is known where nothing but settings was given
abbrev only_set : Settings → Knowledge
only_set set = record no_knowledge { services = record no_services { settings = set } }

only_set_with : (setting : Setting) (set : Settings) → with_set setting (only_set set) ≡ only_set (set_to setting set)
only_set_with (Wifi on) set = refl
only_set_with (Gateway part) set = refl
only_set_with (Multicast flags) set = refl
only_set_with (ArpTable on) set = refl
only_set_with (FactStore mode) set = refl
only_set_with (Pictures on) set = refl
only_set_with (LongestWhole size) set = refl

-- nothing but settings is in a log
record OnlySets (log : Log) (set : Settings) : Type 0 where
  settings_are : settings log ≡ set
  no_lan : bridge log ≡ no_bridge
  none_mentioned : (me : Mac) → mentions me log ≡ []
  none_committed : (me : Mac) → last_commit (commits me log) ≡ first_commit
  known : (q : Queries) (me : Mac) → knowledge q me log ≡ only_set set

one_more_set : (entry : LogEntry) (setting : Setting) (log : Log) (set : Settings) → entry.given ≡ Line (Sets setting) → OnlySets log set → OnlySets (entry ∷ log) (set_to setting set)
one_more_set entry setting log set is o = record {
  settings_are = ap (λ given. after_setting (setting_of given) (settings log)) is ∙ ap (set_to setting) o.settings_are;
  no_lan = ap (λ given. next_bridge (bridge log) entry.moment given) is ∙ o.no_lan;
  none_mentioned = λ me. ap (λ given. next_mentions me log (mentions me log) entry.moment given) is ∙ o.none_mentioned me;
  none_committed = λ me. ap (λ given. last_commit (next_history (mentions me log) (history me log) entry.moment given).commits) is ∙ o.none_committed me;
  known = λ q me. ap (λ given. next_knowledge q me log (knowledge q me log) entry.moment given) is
      ∙ ap (with_set setting) (o.known q me) ∙ only_set_with setting set;
}

-- the settings in a log, at a moment, are those of the log
settings_alone : (moment : ℕ) (log : Log) → OnlySets (moved_to moment (settings_in log)) (settings log)
settings_alone moment [] = record { settings_are = refl; no_lan = refl; none_mentioned = λ me. refl; none_committed = λ me. refl; known = λ q me. refl }
settings_alone moment (entry ∷ older) = go (setting_of entry.given) refl (settings_alone moment older)
  where
    moved : LogEntry
    moved = record entry { moment = moment }

    go : (o : Option Setting) → setting_of entry.given ≡ o → OnlySets (moved_to moment (settings_in older)) (settings older)
        → OnlySets (moved_to moment (cond (is_some o) (entry ∷ settings_in older) (settings_in older))) (after_setting o (settings older))
    go None none rest = rest
    go (Some setting) is rest =
        let s = set_line entry.given setting is in
        let found : Some s.setting ≡ Some setting = ap setting_of (sym s.given_is) ∙ is in
        let same : s.setting ≡ setting = cc in
        subst (λ (x : Setting). OnlySets (moved ∷ moved_to moment (settings_in older)) (set_to x (settings older))) same
        (one_more_set moved s.setting (moved_to moment (settings_in older)) (settings older) s.given_is rest)

-- ---- one more input

-- the client frame that is passed is the same
passed_same : (me : Mac) (older other : Log) (now : ℕ) (came : Option ClientFrame) → bridge older ≡ bridge other → passed_from_lan me older now came ≡ passed_from_lan me other now came
passed_same me older other now None same = refl
passed_same me older other now (Some frame) same =
    ap (λ (b : Bridge). cond (verdict_from_lan me b.claims now (key_of frame.src frame.vid)).pass (Some frame) None) same

-- a sighting says the same
sighted_same : (older other : Log) → settings older ≡ settings other → Sighted (cond (settings older).wifi wifi_flag 0) ≡ Sighted (cond (settings other).wifi wifi_flag 0)
sighted_same older other same = ap (λ (set : Settings). Sighted (cond set.wifi wifi_flag 0)) same

mentioned_same : (me : Mac) (older other : Log) (now : ℕ) (given : Given) → settings older ≡ settings other → bridge older ≡ bridge other → mentions_by me older now given ≡ mentions_by me other now given
mentioned_same me older other now (Tick index) set lan = refl
mentioned_same me older other now (LinkFrame number from throughput bytes) set lan = refl
mentioned_same me older other now (LanFrame bytes) set lan =
    let came = client_frame_in (lan_message_of bytes) in
    ap (λ (news : News). passed_mentions news now (passed_from_lan me older now came)) (sighted_same older other set)
    ∙ ap (passed_mentions (Sighted (cond (settings other).wifi wifi_flag 0)) now) (passed_same me older other now came lan)
mentioned_same me older other now (Line line) set lan = ap (λ (news : News). line_mentions news now line) (sighted_same older other set)

next_mentioned : (me : Mac) (older other : Log) (now : ℕ) (given : Given) → AnswerAlike older other
    → next_mentions me older (mentions me older) now given ≡ next_mentions me other (mentions me other) now given
next_mentioned me older other now given a =
    ap (λ (ms : List Mention). cond (is_reboot given) [] (ms ++ mentions me older)) (mentioned_same me older other now given a.settings_same a.bridge_same)
    ∙ ap (λ (ms : List Mention). cond (is_reboot given) [] (mentions_by me other now given ++ ms)) (a.mentions_same me)

-- a sighting leads to the same
seen_same : (q : Queries) (me : Mac) (older other : Log) (now : ℕ) (key : Key) (known : Knowledge) → mentions me older ≡ mentions me other
    → after_sighting q me older now key known ≡ after_sighting q me other now key known
seen_same q me older other now key known same = ap (λ (ms : List Mention). record known {
  marks = sighting_calls now key (cond (is_none (present_row ms now key) && is_none (too_many now known.marks key)) (addressee q known now key) None) known.marks;
}) same

line_same : (q : Queries) (me : Mac) (older other : Log) (known : Knowledge) (now : ℕ) (line : LineGiven) → mentions me older ≡ mentions me other
    → line_knowledge q me older known now line ≡ line_knowledge q me other known now line
line_same q me older other known now (Attach lan gateways) same = refl
line_same q me older other known now (Frame src dst vid text) same = ap (after_frame q now (key_of dst vid)) (seen_same q me older other now (key_of src vid) known same)
line_same q me older other known now (Gone key) same = refl
line_same q me older other known now (Join key) same = refl
line_same q me older other known now (Leave key) same = refl
line_same q me older other known now (Arp mac own_ip asked_ip vid) same =
    ap (after_question q me now mac own_ip asked_ip vid) (seen_same q me older other now (key_of mac vid) known same)
line_same q me older other known now (Dhcp key text) same = ap (after_call q now) (seen_same q me older other now key known same)
line_same q me older other known now (Sets setting) same = refl
line_same q me older other known now (Put type_no version text) same = refl
line_same q me older other known now (Get type_no) same = refl
line_same q me older other known now (Ping target) same = refl
line_same q me older other known now (Trace target) same = refl
line_same q me older other known now Reboot same = refl

passing_same : (q : Queries) (me : Mac) (older other : Log) (known : Knowledge) (now : ℕ) (ms : List Mention) (came : Option ClientFrame) → mentions me older ≡ mentions me other → bridge older ≡ bridge other
    → after_passed q me older known now ms came ≡ after_passed q me other known now ms came
passing_same q me older other known now ms None same lan = refl
passing_same q me older other known now ms (Some frame) same lan =
    let to = key_of frame.dst frame.vid in
    ap (λ (after : Knowledge). after_bridged q now (stays_on_lan q ms (bridge older).lan now to after) to after) (seen_same q me older other now (key_of frame.src frame.vid) known same)
    ∙ ap (λ (b : Bridge). after_bridged q now (stays_on_lan q ms b.lan now to (after_sighting q me other now (key_of frame.src frame.vid) known)) to (after_sighting q me other now (key_of frame.src frame.vid) known)) lan

-- ---- the last commit

-- the last commit once a table is committed, from the one before
abbrev last_with : Version → List Entry → Version
last_with last table = cond (same_table last.table table) last (record { byte = next_byte last.byte; table = table })

commit_same : (table : List Entry) (h : History) → last_commit (committed table h).commits ≡ last_with (last_commit h.commits) table
commit_same table h = go (same_table (last_commit h.commits).table table) refl
  where
    go : (b : Bool) → same_table (last_commit h.commits).table table ≡ b
        → last_commit (cond b h (with_commit table h)).commits ≡ cond b (last_commit h.commits) (record { byte = next_byte (last_commit h.commits).byte; table = table })
    go true is = refl
    go false is = refl

-- the last commit behind a tick, where one is committed
ticked_same : (index : ℕ) (table : List Entry) (h : History)
    → last_commit (after_tick index table h).commits ≡ cond (is_commit_tick index) (last_with (last_commit h.commits) table) (last_commit h.commits)
ticked_same index table h = go (is_commit_tick index)
  where
    go : (b : Bool) → last_commit (cond b (with_message (committed table h)) h).commits ≡ cond b (last_with (last_commit h.commits) table) (last_commit h.commits)
    go true = commit_same table h
    go false = refl

-- what the last commit is after an input, from the one before and the mentions
abbrev last_after : Version → List Mention → ℕ → Given → Version
last_after last ms now (Tick index) = cond (is_commit_tick index) (last_with last (present_table ms now)) last
last_after last ms now (LinkFrame number from throughput bytes) = last
last_after last ms now (LanFrame bytes) = last
last_after last ms now (Line line) = cond (line_reboots line) first_commit last

next_last : (ms : List Mention) (h : History) (now : ℕ) (given : Given)
    → last_commit (next_history ms h now given).commits ≡ last_after (last_commit h.commits) ms now given
next_last ms h now (Tick index) = ticked_same index (present_table ms now) h
next_last ms h now (LinkFrame number from throughput bytes) = refl
next_last ms h now (LanFrame bytes) = refl
next_last ms h now (Line line) = go (line_reboots line)
  where
    go : (b : Bool) → last_commit (cond b (restarted h) h).commits ≡ cond b first_commit (last_commit h.commits)
    go true = refl
    go false = refl

last_next : (me : Mac) (older other : Log) (now : ℕ) (given : Given) → mentions me older ≡ mentions me other
    → last_commit (commits me older) ≡ last_commit (commits me other)
    → last_commit (next_history (mentions me older) (history me older) now given).commits ≡ last_commit (next_history (mentions me other) (history me other) now given).commits
last_next me older other now given same last =
    next_last (mentions me older) (history me older) now given
    ∙ ap₂ (λ (v : Version) (ms : List Mention). last_after v ms now given) last same
    ∙ sym (next_last (mentions me other) (history me other) now given)

next_known : (q : Queries) (me : Mac) (older other : Log) (known : Knowledge) (now : ℕ) (given : Given) → AnswerAlike older other
    → next_knowledge q me older known now given ≡ next_knowledge q me other known now given
next_known q me older other known now (Tick index) a =
    ap (λ (v : Version). after_node_tick q me now index v.table known) (last_next me older other now (Tick index) (a.mentions_same me) (a.last_same me))
next_known q me older other known now (LinkFrame number from throughput bytes) a = refl
next_known q me older other known now (LanFrame bytes) a =
    let came = client_frame_in (lan_message_of bytes) in
    ap (λ (ms : List Mention). after_passed q me older known now ms (passed_from_lan me older now came)) (next_mentioned me older other now (LanFrame bytes) a)
    ∙ ap (after_passed q me older known now (next_mentions me other (mentions me other) now (LanFrame bytes))) (passed_same me older other now came a.bridge_same)
    ∙ passing_same q me older other known now (next_mentions me other (mentions me other) now (LanFrame bytes)) (passed_from_lan me other now came) (a.mentions_same me) a.bridge_same
next_known q me older other known now (Line line) a = line_same q me older other known now line (a.mentions_same me)

-- with the knowledge, the services are the same
alike : (log other : Log) → settings log ≡ settings other → bridge log ≡ bridge other → ((me : Mac) → mentions me log ≡ mentions me other)
    → ((me : Mac) → last_commit (commits me log) ≡ last_commit (commits me other)) → ((q : Queries) (me : Mac) → knowledge q me log ≡ knowledge q me other)
    → AnswerAlike log other
alike log other set lan mentioned last known =
    record { settings_same = set; bridge_same = lan; mentions_same = mentioned; last_same = last; knowledge_same = known; services_same = λ q me. ap (λ (k : Knowledge). k.services) (known q me) }

alike_next : (entry : LogEntry) (older other : Log) → AnswerAlike older other → AnswerAlike (entry ∷ older) (entry ∷ other)
alike_next entry older other a = alike (entry ∷ older) (entry ∷ other) (ap (after_setting (setting_of entry.given)) a.settings_same)
    (ap (λ (b : Bridge). next_bridge b entry.moment entry.given) a.bridge_same)
    (λ me. next_mentioned me older other entry.moment entry.given a)
    (λ me. last_next me older other entry.moment entry.given (a.mentions_same me) (a.last_same me))
    (λ q me. next_known q me older other (knowledge q me older) entry.moment entry.given a
    ∙ ap (λ (k : Knowledge). next_knowledge q me other k entry.moment entry.given) (a.knowledge_same q me))

-- ---- a reboot

-- what reboots is the line that does
pub reboot_line : (line : LineGiven) → line_reboots line ≡ true → line ≡ Reboot
reboot_line (Attach lan gateways) is = cc
reboot_line (Frame src dst vid text) is = cc
reboot_line (Gone key) is = cc
reboot_line (Join key) is = cc
reboot_line (Leave key) is = cc
reboot_line (Arp mac own_ip asked_ip vid) is = cc
reboot_line (Dhcp key text) is = cc
reboot_line (Sets setting) is = cc
reboot_line (Put type_no version text) is = cc
reboot_line (Get type_no) is = cc
reboot_line (Ping target) is = cc
reboot_line (Trace target) is = cc
reboot_line Reboot is = refl

reboot_is : (given : Given) → is_reboot given ≡ true → given ≡ Line Reboot
reboot_is (Tick index) is = cc
reboot_is (LinkFrame number from throughput bytes) is = cc
reboot_is (LanFrame bytes) is = cc
reboot_is (Line line) is = ap Line (reboot_line line is)

alike_rebooted : (entry : LogEntry) (older other : Log) → entry.given ≡ Line Reboot → bridge older ≡ no_bridge → AnswerAlike older other
    → AnswerAlike (entry ∷ older) (moved_to entry.moment (settings_in other))
alike_rebooted entry older other is lan a =
    let s = settings_alone entry.moment other in
    alike (entry ∷ older) (moved_to entry.moment (settings_in other))
    (ap (λ given. after_setting (setting_of given) (settings older)) is ∙ a.settings_same ∙ sym s.settings_are)
    (ap (λ given. next_bridge (bridge older) entry.moment given) is ∙ lan ∙ sym s.no_lan)
    (λ me. ap (λ given. next_mentions me older (mentions me older) entry.moment given) is ∙ sym (s.none_mentioned me))
    (λ me. ap (λ given. last_commit (next_history (mentions me older) (history me older) entry.moment given).commits) is ∙ sym (s.none_committed me))
    (λ q me. ap (λ given. next_knowledge q me older (knowledge q me older) entry.moment given) is
    ∙ ap only_set (settings_known q me older ∙ a.settings_same) ∙ sym (s.known q me))

pub last_log_answers : LastLogAnswers
last_log_answers [] off = alike [] [] refl refl (λ me. refl) (λ me. refl) (λ q me. refl)
last_log_answers (entry ∷ older) off = go (is_reboot entry.given) refl (last_log_answers older off.1)
  where
    go : (b : Bool) → is_reboot entry.given ≡ b → AnswerAlike older (last_log older)
        → AnswerAlike (entry ∷ older) (cond b (moved_to entry.moment (settings_in (last_log older))) (entry ∷ last_log older))
    go true is a = alike_rebooted entry older (last_log older) (reboot_is entry.given is) (off.0 is) a
    go false is a = alike_next entry older (last_log older) a
