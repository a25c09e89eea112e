-- Every commit can be told: its entries fit records, and there are no more of them than may be.
use Rattle.std.proofs.Common.{◌≡◌, ◌≤◌, ◌<◌, ◌^◌, ◌-◌, ◌/◌, ◌%◌, ◌⊎◌, inl, inr, ℕ, zero, suc, Bool, true, false, cond, not, ◌&&◌, ◌==◌, nat_lt, List, [], ◌∷◌, ◌++◌, length, map, filter_map, find, fold, slice_get, Option, Some, None, option_map, option_and_then, Ok, Err, bit_xor, refl, sym, ap, subst, ◌∙◌, arith}
use Rattle.std.specs.Fn.{iterate}
use Rattle.std.specs.List.{AllByRecursion, cons_option}
use Rattle.std.specs.Option.{option_or}
use Rattle.std.proofs.lemmas.Nat.{and_le_r, xor_of_32}
use Rattle.mesh_base.specs.declared.address.Mac.{Mac}
use Rattle.mesh_base.specs.declared.client.Key.{Key}
use Rattle.mesh_model.specs.declared.act.Act.{Act}
use Rattle.mesh_model.specs.declared.ending.LimitName.{LimitName}
use Rattle.mesh_model.specs.declared.packet.Head.{Head}
use Rattle.mesh_model.specs.declared.packet.Head.TheVariants.{IvOgm, Bcast, Elp, Ogm2, Unicast, Frag, Unicast4, Icmp, Utvlv}
use Rattle.mesh_model.specs.declared.table_row.LocalRow.{LocalRow}
use Rattle.mesh_model.specs.Acts.Choosing.{cutter_by, whole_acts}
use Rattle.mesh_model.specs.Acts.NodeLimits.{NodeLimit, acts_before_sighting, cut_limit}
use Rattle.mesh_model.specs.Clients.Limits.{clients_limit, limit_of_mention, limit_of_mentions, passed_limit}
use Rattle.mesh_model.specs.Clients.Log.{Given, Tick, LinkFrame, Frame, Gone, Join, Leave, Arp, Dhcp, Ping, Trace, Reboot, Log, LogEntry, LanFrame, Line, LineGiven, Attach, Sets, Put, Get}
use Rattle.mesh_model.specs.Clients.Mentions.{Mention, News, Sighted, Departed, Roamed, Joined, Left, is_wifi_on, key_of, mentions, passed_from_lan, passed_mentions, roamed, roamed_by, roamed_in, sighted_after}
use Rattle.mesh_model.specs.Clients.Present.{entry_with, is_membership, last_membership, last_mention, mentioned_keys, present_clients, present_row, row_after, row_by, same_key, sighting_age}
use Rattle.mesh_model.specs.Commits.History.{History, with_message, commits, committed, history, is_commit_tick, present_table, with_commit}
use Rattle.mesh_model.specs.Commits.Versions.{commit_numbered, first_commit, last_commit, same_table}
use Rattle.mesh_model.specs.Net.Inputs.{entry_of as log_entry, given_node, given_to, noting, unless_passed, after_entry}
use Rattle.mesh_model.specs.Net.Limits.{scenario_setup}
use Rattle.mesh_model.specs.Net.Mesh.{NodeLog, LanPut, Mesh, Setup}
use Rattle.mesh_model.specs.Net.Due.{ticks_in}
use Rattle.mesh_model.specs.Net.Sending.{Actor, Attempt, after_acts, on_ok}
use Rattle.mesh_model.specs.Packets.Bodies.{client_flags}
use Rattle.mesh_model.specs.Packets.Containers.{containers_of}
use Rattle.mesh_model.specs.Packets.Contents.{first_roaming}
use Rattle.mesh_model.specs.Packets.FirstPacket.{Packet}
use Rattle.mesh_model.specs.Packets.LanFrames.{client_frame_in, lan_message_of}
use Rattle.mesh_model.specs.Packets.LinkFrame.{link_frame}
use Rattle.mesh_model.specs.Packets.Payload.{ClientFrame}
use Rattle.mesh_model.specs.Routes.Addresses.{same_mac}
use Rattle.mesh_model.specs.Routes.Queries.{Queries}
use Rattle.mesh_model.specs.Tables.Checksum.{after_bit, after_byte, all_ones, crc32c, crc_polynomial}
use Rattle.mesh_model.specs.Tables.Sums.{entry_sum}
use Rattle.mesh_model.specs.Tables.Versions.{Version, next_byte}
use Rattle.mesh_laws.proofs.MachineInvariant.{newest_or_older}
use Rattle.mesh_laws.proofs.Schedule.Members.{one_some}
use Rattle.mesh_tie.specs.Steps.{IsClient, IsReachable, MayBeGiven, Steps, begins, frame_comes, goes_on, lan_comes, lan_joins, line_gives, link_joins, newest_moment, node_joins, node_ticks, put_comes, put_reaches, time_passes, TellsClient, routes_told}
use Rattle.mesh_tie.specs.Tie.{FitsAnswer, FitsEntry}
use Rattle.mesh_tie.specs.TieLaws.{AllKeep, CommitsAlwaysFit}
use Rattle.mesh_tie.proofs.EntryLemmas.{each_appended}
use Rattle.mesh_laws.proofs.FewLemmas.{HasFew, few_with}
use Rattle.mesh_tie.proofs.CarriedClients.{puts_bring}
use Rattle.mesh_tie.proofs.LanSteps.{BringsClient, passed_came}
use Rattle.mesh_tie.proofs.NodeLists.{Renewed, another, got_front, itself, renewed}
use Rattle.mesh_tie.proofs.SentLemmas.{given_is}

-- ---- the checksum of an entry fits four bytes
bit_small : (register : ℕ) → register < 2 ^ 32 → after_bit register < 2 ^ 32
bit_small register small = go (register % 2 == 1)
  where
    half : register / 2 < 2 ^ 32
    half = omega (arith, small)

    go : (b : Bool) → cond b (bit_xor (register / 2) crc_polynomial) (register / 2) < 2 ^ 32
    go true = xor_of_32 (register / 2) crc_polynomial half (omega arith)
    go false = half

bits_small : (n register : ℕ) → register < 2 ^ 32 → iterate after_bit n register < 2 ^ 32
bits_small zero register small = small
bits_small (suc n) register small = bits_small n (after_bit register) (bit_small register small)

-- each of some bytes
abbrev EachByte : List ℕ → Type 0
EachByte bytes = AllByRecursion (λ byte. byte < 2 ^ 8) bytes

register_small : (bytes : List ℕ) (register : ℕ) → register < 2 ^ 32 → EachByte bytes → fold after_byte register bytes < 2 ^ 32
register_small [] register small each = small
register_small (byte ∷ bytes) register small each =
    let low = each.0 in
    register_small bytes (after_byte register byte) (bits_small 8 (bit_xor register byte) (xor_of_32 register byte small (omega (arith, low)))) each.1

crc_small : (bytes : List ℕ) → EachByte bytes → crc32c bytes < 2 ^ 32
unfolding crc32c
crc_small bytes each = xor_of_32 (fold after_byte all_ones bytes) all_ones (register_small bytes all_ones (omega arith) each) (omega arith)

sum_small : (key : Key) (flags : ℕ) → IsClient key → entry_sum (entry_with key flags) < 2 ^ 32
unfolding entry_sum
sum_small key flags client =
    let low : client_flags flags ≤ 48 = and_le_r flags 48 in
    crc_small (key.vid.0 / 256 % 256 ∷ key.vid.0 % 256 ∷ client_flags flags ∷ key.mac.0) (omega arith, (omega arith, (omega (arith, low), client.bytes)))

-- ---- mentions
-- what news say of a key gives an entry that fits
abbrev NewsFit : Key → News → Type 0
NewsFit key (Sighted flags) = FitsEntry (entry_with key flags)
NewsFit key Departed = Unit {0}
NewsFit key Roamed = Unit {0}
NewsFit key Joined = FitsEntry (entry_with key 0)
NewsFit key Left = Unit {0}

abbrev MentionFits : Mention → Type 0
MentionFits m = NewsFit m.key m.news

joined_fits : (key : Key) → IsClient key → FitsEntry (entry_with key 0)
joined_fits key client = record { key = client.fits; flags = refl; sum = sum_small key 0 client }

sighted_fits : (older : Log) (key : Key) → IsClient key → NewsFit key (sighted_after older)
sighted_fits older key client = go (is_wifi_on older)
  where
    go : (b : Bool) → FitsEntry (entry_with key (cond b 16 0))
    go true = record { key = client.fits; flags = refl; sum = sum_small key 16 client }
    go false = joined_fits key client

-- ---- who is present
abbrev IfRow : Option LocalRow → Type 0
IfRow o = (row : LocalRow) → o ≡ Some row → FitsEntry row.entry

row_fits : (key : Key) (age : ℕ) (news : News) → NewsFit key news → IfRow (row_after key age news)
row_fits key age (Sighted flags) fits = go (nat_lt age sighting_age)
  where
    go : (b : Bool) → IfRow (cond b (Some (record { entry = entry_with key flags; age = Some age })) None)
    go true row is = let same : record { entry = entry_with key flags; age = Some age } ≡ row = cc in subst (λ (r : LocalRow). FitsEntry r.entry) same fits
    go false row is = cc
row_fits key age Departed fits = λ row is. cc
row_fits key age Roamed fits = λ row is. cc
row_fits key age Joined fits = λ row is. let same : record { entry = entry_with key 0; age = None } ≡ row = cc in subst (λ (r : LocalRow). FitsEntry r.entry) same fits
row_fits key age Left fits = λ row is. cc

found_fits : (test : Mention → Bool) (ms : List Mention) (now : ℕ) → AllByRecursion MentionFits ms → IfRow (option_and_then (row_by now) (find test ms))
found_fits test [] now all = λ row is. cc
found_fits test (m ∷ ms) now all = go (test m) (found_fits test ms now all.1)
  where
    go : (b : Bool) → IfRow (option_and_then (row_by now) (find test ms)) → IfRow (option_and_then (row_by now) (cond b (Some m) (find test ms)))
    go true rest = row_fits m.key (now - m.moment) m.news all.0
    go false rest = rest

either_fits : (o p : Option LocalRow) → IfRow o → IfRow p → IfRow (option_or o p)
either_fits None p a b = b
either_fits (Some row) p a b = a

present_fits : (ms : List Mention) (now : ℕ) (key : Key) → AllByRecursion MentionFits ms → IfRow (present_row ms now key)
present_fits ms now key all = either_fits (option_and_then (row_by now) (last_membership ms key)) (option_and_then (row_by now) (last_mention ms key))
    (found_fits (λ m. same_key key m.key && is_membership m.news) ms now all) (found_fits (λ m. same_key key m.key && not (is_membership m.news)) ms now all)

rows_fit : (f : Key → Option LocalRow) (keys : List Key) → ((key : Key) → IfRow (f key)) → AllByRecursion FitsEntry (map (λ (row : LocalRow). row.entry) (filter_map f keys))
rows_fit f [] fits = tt
rows_fit f (key ∷ keys) fits = go (f key) (fits key) (rows_fit f keys fits)
  where
    go : (o : Option LocalRow) → IfRow o → AllByRecursion FitsEntry (map (λ (row : LocalRow). row.entry) (filter_map f keys)) → AllByRecursion FitsEntry (map (λ (row : LocalRow). row.entry) (cons_option o (filter_map f keys)))
    go None one rest = rest
    go (Some row) one rest = (one row refl, rest)

length_mapped : {X Y : Type 0} (f : X → Y) (xs : List X) → length (map f xs) ≡ length xs
length_mapped f [] = refl
length_mapped f (x ∷ xs) = ap suc (length_mapped f xs)

table_fits : (ms : List Mention) (now : ℕ) → AllByRecursion MentionFits ms → length (present_clients ms now) ≤ clients_limit → FitsAnswer (present_table ms now)
table_fits ms now all few = record {
  few = let same = length_mapped (λ (row : LocalRow). row.entry) (present_clients ms now) in omega (arith, few, same);
  each = rows_fit (present_row ms now) (mentioned_keys ms) (λ key. present_fits ms now key all);
}

-- ---- logs
-- each commit fits an answer
abbrev EachFits : List Version → Type 0
EachFits made = (number : ℕ) (version : Version) → commit_numbered number made ≡ Some version → FitsAnswer version.table

record LogFits (me : Mac) (log : Log) : Type 0 where
  few : HasFew (mentions me log) (newest_moment log)
  mentioned : AllByRecursion MentionFits (mentions me log)
  made : EachFits (commits me log)

first_fits : EachFits (first_commit ∷ [])
first_fits = newest_or_older (λ v. FitsAnswer v.table) first_commit [] (record { few = omega arith; each = tt }) (λ n c is. cc)

log_begins : (me : Mac) → LogFits me []
log_begins me = record { few = λ now late. omega arith; mentioned = tt; made = first_fits }

few_since : (ms : List Mention) (since now : ℕ) → HasFew ms since → since ≤ now → HasFew ms now
few_since ms since now few late = λ at later. few at (omega (arith, late, later))

-- the mention of one that roamed
abbrev IsRoamed : ℕ → Option Mention → Type 0
IsRoamed now o = (m : Mention) → o ≡ Some m → (key : Key) × (m ≡ roamed now key)

roamed_one : (now : ℕ) (o : Option Key) → IsRoamed now (option_map (roamed now) o)
roamed_one now None = λ m is. cc
roamed_one now (Some key) = λ m is. (key, let same : roamed now key ≡ m = cc in sym same)

roamed_is : (me : Mac) (now : ℕ) (tail : List ℕ) (head : Head) → IsRoamed now (roamed_in me now tail head)
roamed_is me now tail (IvOgm ttl flags seq o prev tq) = λ m is. cc
roamed_is me now tail (Bcast ttl seq o) = λ m is. cc
roamed_is me now tail (Elp o seq interval) = λ m is. cc
roamed_is me now tail (Ogm2 ttl flags seq o throughput) = λ m is. cc
roamed_is me now tail (Unicast ttl ttvn dst) = λ m is. cc
roamed_is me now tail (Frag ttl number priority dst o seq total) = λ m is. cc
roamed_is me now tail (Unicast4 ttl ttvn dst src subtype) = λ m is. cc
roamed_is me now tail (Icmp ttl msg dst o uid seq) = λ m is. cc
roamed_is me now tail (Utvlv ttl dst src) = go (same_mac dst me)
  where
    go : (b : Bool) → IsRoamed now (cond b (option_map (roamed now) (first_roaming (containers_of tail))) None)
    go true = roamed_one now (first_roaming (containers_of tail))
    go false = λ m is. cc

few_frame : (me : Mac) (older : List Mention) (since now : ℕ) (packets : List Packet) → HasFew older since → since ≤ now → HasFew (filter_map (roamed_by me now) packets ++ older) now
few_frame me older since now [] few late = few_since older since now few late
few_frame me older since now (packet ∷ packets) few late = go (roamed_by me now packet) (roamed_is me now packet.tail packet.head) (few_frame me older since now packets few late)
  where
    rest : List Mention
    rest = filter_map (roamed_by me now) packets

    go : (o : Option Mention) → IsRoamed now o → HasFew (rest ++ older) now → HasFew (cons_option o rest ++ older) now
    go None is more = more
    go (Some m) is more =
        let r = is m refl in
        subst (λ (x : Mention). HasFew (x ∷ rest ++ older) now) (sym r.1) (few_with (rest ++ older) now (roamed now r.0) more (omega arith) refl)

frame_mentions : (me : Mac) (now : ℕ) (packets : List Packet) → AllByRecursion MentionFits (filter_map (roamed_by me now) packets)
frame_mentions me now [] = tt
frame_mentions me now (packet ∷ packets) = go (roamed_by me now packet) (roamed_is me now packet.tail packet.head) (frame_mentions me now packets)
  where
    go : (o : Option Mention) → IsRoamed now o → AllByRecursion MentionFits (filter_map (roamed_by me now) packets) → AllByRecursion MentionFits (cons_option o (filter_map (roamed_by me now) packets))
    go None is more = more
    go (Some m) is more = let r = is m refl in (subst MentionFits (sym r.1) tt, more)

first_none : (o p : Option LimitName) → option_or o p ≡ None → o ≡ None
first_none None p is = refl
first_none (Some limit) p is = cc

-- a log with one mention more
one_mention : (me : Mac) (log : Log) (entry : LogEntry) (m : Mention) → LogFits me log → newest_moment log ≤ entry.moment → m.moment ≡ entry.moment → MentionFits m
    → mentions me (entry ∷ log) ≡ m ∷ mentions me log → commits me (entry ∷ log) ≡ commits me log → option_or (limit_of_mention (mentions me log) m) None ≡ None → LogFits me (entry ∷ log)
one_mention me log entry m fits late now one is same none = record {
  few = subst (λ ms. HasFew ms entry.moment) (sym is) (subst (HasFew (m ∷ mentions me log)) now (few_with (mentions me log) (newest_moment log) m fits.few (omega (arith, late, now)) (first_none (limit_of_mention (mentions me log) m) None none)));
  mentioned = subst (AllByRecursion MentionFits) (sym is) (one, fits.mentioned);
  made = subst EachFits (sym same) fits.made;
}

committed_fits : (ms : List Mention) (now : ℕ) (before : History) → FitsAnswer (present_table ms now) → EachFits before.commits → EachFits (committed (present_table ms now) before).commits
committed_fits ms now before table made = go (same_table (last_commit before.commits).table (present_table ms now))
  where
    go : (b : Bool) → EachFits (cond b before (with_commit (present_table ms now) before)).commits
    go true = made
    go false = newest_or_older (λ v. FitsAnswer v.table) (record { byte = next_byte (last_commit before.commits).byte; table = present_table ms now }) before.commits table made

-- a log with one input more that mentions no client and commits nothing
log_stays : (me : Mac) (log : Log) (now : ℕ) (given : Given) (acts : List Act) → LogFits me log → newest_moment log ≤ now
    → mentions me (record { moment = now; given = given; acts = acts } ∷ log) ≡ mentions me log → commits me (record { moment = now; given = given; acts = acts } ∷ log) ≡ commits me log
    → LogFits me (record { moment = now; given = given; acts = acts } ∷ log)
log_stays me log now given acts fits late same made = record {
  few = subst (λ ms. HasFew ms now) (sym same) (few_since (mentions me log) (newest_moment log) now fits.few late);
  mentioned = subst (AllByRecursion MentionFits) (sym same) fits.mentioned;
  made = subst EachFits (sym made) fits.made;
}

-- a log with one line more
line_next : (me : Mac) (log : Log) (now : ℕ) (line : LineGiven) (acts : List Act) → LogFits me log → newest_moment log ≤ now → TellsClient line → passed_limit me log now (Line line) ≡ None
    → LogFits me (record { moment = now; given = Line line; acts = acts } ∷ log)
line_next me log now (Attach lan gateways) acts fits late names none = log_stays me log now (Line (Attach lan gateways)) acts fits late refl refl
line_next me log now (Frame src dst vid text) acts fits late names none =
    one_mention me log (record { moment = now; given = Line (Frame src dst vid text); acts = acts }) (record { moment = now; key = key_of src vid; news = sighted_after log }) fits late refl (sighted_fits log (key_of src vid) names.0) refl refl none
line_next me log now (Gone key) acts fits late names none =
    one_mention me log (record { moment = now; given = Line (Gone key); acts = acts }) (record { moment = now; key = key; news = Departed }) fits late refl tt refl refl none
line_next me log now (Join key) acts fits late names none =
    one_mention me log (record { moment = now; given = Line (Join key); acts = acts }) (record { moment = now; key = key; news = Joined }) fits late refl (joined_fits key names) refl refl none
line_next me log now (Leave key) acts fits late names none =
    one_mention me log (record { moment = now; given = Line (Leave key); acts = acts }) (record { moment = now; key = key; news = Left }) fits late refl tt refl refl none
line_next me log now (Arp mac own_ip asked_ip vid) acts fits late names none =
    one_mention me log (record { moment = now; given = Line (Arp mac own_ip asked_ip vid); acts = acts }) (record { moment = now; key = key_of mac vid; news = sighted_after log }) fits late refl (sighted_fits log (key_of mac vid) names) refl refl none
line_next me log now (Dhcp key text) acts fits late names none =
    one_mention me log (record { moment = now; given = Line (Dhcp key text); acts = acts }) (record { moment = now; key = key; news = sighted_after log }) fits late refl (sighted_fits log key names) refl refl none
line_next me log now (Sets setting) acts fits late names none = log_stays me log now (Line (Sets setting)) acts fits late refl refl
line_next me log now (Put type_no version text) acts fits late names none = log_stays me log now (Line (Put type_no version text)) acts fits late refl refl
line_next me log now (Get type_no) acts fits late names none = log_stays me log now (Line (Get type_no)) acts fits late refl refl
line_next me log now (Ping target) acts fits late names none = log_stays me log now (Line (Ping target)) acts fits late refl refl
line_next me log now (Trace target) acts fits late names none = log_stays me log now (Line (Trace target)) acts fits late refl refl
line_next me log now Reboot acts fits late names none = record {
  few = λ at later. omega arith;
  mentioned = tt;
  made = newest_or_older (λ v. FitsAnswer v.table) first_commit (commits me log) (record { few = omega arith; each = tt }) fits.made;
}

-- a log with one frame of a LAN more
lan_next : (me : Mac) (log : Log) (now : ℕ) (bytes : List ℕ) (acts : List Act) → LogFits me log → newest_moment log ≤ now → BringsClient bytes → passed_limit me log now (LanFrame bytes) ≡ None
    → LogFits me (record { moment = now; given = LanFrame bytes; acts = acts } ∷ log)
lan_next me log now bytes acts fits late brings none = go (passed_from_lan me log now came) refl
  where
    came : Option ClientFrame
    came = client_frame_in (lan_message_of bytes)

    entry : LogEntry
    entry = record { moment = now; given = LanFrame bytes; acts = acts }

    go : (o : Option ClientFrame) → passed_from_lan me log now came ≡ o → LogFits me (entry ∷ log)
    go None is = log_stays me log now (LanFrame bytes) acts fits late (ap (λ p. passed_mentions (sighted_after log) now p ++ mentions me log) is) refl
    go (Some frame) is =
        let key = key_of frame.src frame.vid in
        one_mention me log entry (record { moment = now; key = key; news = sighted_after log }) fits late refl (sighted_fits log key (brings frame (passed_came me log now came frame is)))
        (ap (λ p. passed_mentions (sighted_after log) now p ++ mentions me log) is) refl (ap (λ p. limit_of_mentions (mentions me log) (passed_mentions (sighted_after log) now p)) (sym is) ∙ none)

-- what an input brings of clients can be told
abbrev Brings : Given → Type 0
Brings (Tick index) = Unit {0}
Brings (LinkFrame number from throughput bytes) = Unit {0}
Brings (LanFrame bytes) = BringsClient bytes
Brings (Line line) = TellsClient line

log_next : (me : Mac) (log : Log) (now : ℕ) (given : Given) (acts : List Act) → LogFits me log → newest_moment log ≤ now → Brings given → passed_limit me log now given ≡ None
    → LogFits me (record { moment = now; given = given; acts = acts } ∷ log)
log_next me log now (Tick index) acts fits late names none = record {
  few = few_since (mentions me log) (newest_moment log) now fits.few late;
  mentioned = fits.mentioned;
  made = go (is_commit_tick index);
}
  where
    go : (b : Bool) → EachFits (cond b (with_message (committed (present_table (mentions me log) now) (history me log))) (history me log)).commits
    go true = committed_fits (mentions me log) now (history me log) (table_fits (mentions me log) now fits.mentioned (fits.few now late)) fits.made
    go false = fits.made
log_next me log now (LinkFrame number from throughput bytes) acts fits late names none = record {
  few = few_frame me (mentions me log) (newest_moment log) now (link_frame bytes).packets fits.few late;
  mentioned = each_appended MentionFits (filter_map (roamed_by me now) (link_frame bytes).packets) (mentions me log) (frame_mentions me now (link_frame bytes).packets) fits.mentioned;
  made = fits.made;
}
log_next me log now (LanFrame bytes) acts fits late names none = lan_next me log now bytes acts fits late names none
log_next me log now (Line line) acts fits late names none = line_next me log now line acts fits late names none

-- ---- meshes
abbrev LogsFit : Mesh → Type 0
LogsFit mesh = (place : ℕ) (node : NodeLog) → slice_get mesh.nodes place ≡ Some node → LogFits node.mac node.log

no_limit : (limit : LimitName) (o : Attempt) (after : Mesh) → on_ok (λ (mesh : Mesh). Err limit) o ≡ Ok after → ⊥
no_limit limit (Ok mesh) after e = cc
no_limit limit (Err other) after e = cc

limit_free : (setup : Setup) (actor : Actor) (mesh : Mesh) (acts : List Act) (o : Option LimitName) (cuts : Option NodeLimit) (step : Attempt) (after : Mesh) → unless_passed setup actor mesh (option_or (option_map (λ limit. record { acts = acts; limit = limit }) o) cuts) step ≡ Ok after → o ≡ None
limit_free setup actor mesh acts None cuts step after e = refl
limit_free setup actor mesh acts (Some limit) cuts step after e = absurd (no_limit limit (after_acts setup actor acts mesh) after e)

given_fits : (queries : Mac → Queries) (mesh after : Mesh) (place now root : ℕ) (node : NodeLog) (given : Given) → LogsFit mesh → slice_get mesh.nodes place ≡ Some node → MayBeGiven node now → Brings given
    → given_to (scenario_setup queries) place now root given mesh ≡ Ok after → LogsFit after
given_fits queries mesh after place now root node given fits found may names is at n got = go (renewed place entry mesh.nodes at n (subst (λ ns. slice_get ns at ≡ Some n) (given_is (scenario_setup queries) place now root node given mesh after found is).nodes got))
  where
    setup : Setup
    setup = scenario_setup queries

    entry : LogEntry
    entry = log_entry (scenario_setup queries) node now given

    actor : Actor
    actor = record { place = place; mac = node.mac; now = now; root = root }

    none : passed_limit node.mac node.log now given ≡ None
    none = limit_free setup actor mesh (acts_before_sighting node.mac node.log now given) (passed_limit node.mac node.log now given)
        (cut_limit (cutter_by (queries node.mac) node.mac node.log) (whole_acts (queries node.mac) node.mac node.log now given)) (after_entry setup actor entry mesh) after
        (ap (λ (o : Option NodeLog). given_node (scenario_setup queries) place now root given o mesh) (sym found) ∙ is)

    go : Renewed place entry mesh.nodes at n → LogFits n.mac n.log
    go (another d old) = fits at n old
    go (itself before same old noted) =
        let one : node ≡ before = one_some node before (sym found ∙ ap (slice_get mesh.nodes) same ∙ old) in
        subst (λ (x : NodeLog). LogFits x.mac x.log) (ap (noting entry) one ∙ sym noted) (log_next node.mac node.log now given entry.acts (fits place node found) may names none)

step_fits : (queries : Mac → Queries) (mesh after : Mesh) → ((place : ℕ) (put : LanPut) → slice_get mesh.puts place ≡ Some put → BringsClient put.bytes) → LogsFit mesh → Steps queries mesh after → LogsFit after
step_fits queries mesh _ bring fits (node_joins _ node empty whole fresh) = λ at n got. go at n (got_front mesh.nodes node at n got)
  where
    go : (at : ℕ) (n : NodeLog) → (slice_get mesh.nodes at ≡ Some n) ⊎ ((n ≡ node) × (slice_get mesh.nodes at ≡ None)) → LogFits n.mac n.log
    go at n (inl old) = fits at n old
    go at n (inr is) = subst (LogFits n.mac) (sym (ap (λ (x : NodeLog). x.log) is.0 ∙ empty)) (log_begins n.mac)
step_fits queries mesh _ bring fits (link_joins _ link) = fits
step_fits queries mesh after bring fits (line_gives _ _ place now node line found may of is) = given_fits queries mesh after place now 0 node (Line line) fits found may of is
step_fits queries mesh after bring fits (node_ticks _ _ place now node found may is) = given_fits queries mesh after place now (suc (ticks_in node.log)) node (Tick (suc (ticks_in node.log))) fits found may tt is
step_fits queries mesh after bring fits (frame_comes _ _ place now number throughput from node frame found may sent whole is) =
    given_fits queries mesh after place now frame.root node (LinkFrame (suc number) from throughput frame.bytes) fits found may tt is
step_fits queries mesh _ bring fits (lan_joins _ lan) = fits
step_fits queries mesh _ bring fits (put_comes _ put frame by is tells) = fits
step_fits queries mesh _ bring fits (put_reaches _ number now put frame found carries) = fits
step_fits queries mesh after bring fits (lan_comes _ _ place now number node put found may among is) = given_fits queries mesh after place now 0 node (LanFrame put.bytes) fits found may (bring number put among) is
step_fits queries mesh _ bring fits (time_passes _ happening) = fits
step_fits queries mesh _ bring fits (routes_told _ lines watch) = fits

logs_fit : (queries : Mac → Queries) → AllKeep queries → (mesh : Mesh) → IsReachable queries mesh → LogsFit mesh
logs_fit queries keep _ (begins watch) = λ place node got. cc
logs_fit queries keep _ (goes_on mesh after r s) = step_fits queries mesh after (puts_bring queries keep mesh r) (logs_fit queries keep mesh r) s

pub commits_always_fit : CommitsAlwaysFit
commits_always_fit queries keep mesh r place node found version is = (logs_fit queries keep mesh r place node found).made is.0 version is.1
