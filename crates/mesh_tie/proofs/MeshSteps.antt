-- Each step of a mesh is a list of moves of the machine.
use Rattle.std.proofs.Common.{◌≡◌, ◌≢◌, ◌⊎◌, inl, inr, ◌≤◌, ◌-◌, ℕ, suc, Bool, true, false, cond, ◌==◌, List, [], ◌∷◌, ◌++◌, length, slice_get, Option, Some, None, Ok, refl, sym, ap, subst, ◌∙◌, arith}
use Rattle.std.specs.List.{AllByRecursion}
use Rattle.mesh_base.specs.declared.address.Mac.{Mac}
use Rattle.mesh_model.specs.declared.act.Act.{Act}
use Rattle.mesh_model.specs.declared.act.Act.TheVariants.{Link}
use Rattle.mesh_model.specs.declared.table_change.Change.{Change}
use Rattle.mesh_model.specs.declared.packet.Head.TheVariants.{Frag}
use Rattle.mesh_model.specs.Acts.Choosing.{cutter_by, whole_acts}
use Rattle.mesh_model.specs.Acts.Cuts.{Cutter, cut_acts}
use Rattle.mesh_model.specs.Acts.FactRows.{fact_round_acts}
use Rattle.mesh_model.specs.Acts.Rows.{own_by, tick_acts}
use Rattle.mesh_model.specs.Clients.Lans.{bridge}
use Rattle.mesh_model.specs.Clients.Log.{Given, Tick, LinkFrame, Log, LogEntry, LanFrame, Line, LineGiven, line_reboots}
use Rattle.mesh_model.specs.Clients.Mentions.{Mention, mentions}
use Rattle.mesh_model.specs.Commits.Announcements.{announced_changes, told_changes}
use Rattle.mesh_model.specs.Commits.History.{History, with_message, commits, committed, history, is_commit_tick, next_history, present_table, restarted}
use Rattle.mesh_model.specs.Commits.Versions.{first_commit, last_commit}
use Rattle.mesh_model.specs.Knowledge.Known.{Knowledge}
use Rattle.mesh_model.specs.Knowledge.Steps.{before_telling, line_knowledge, knowledge, next_knowledge, table_behind}
use Rattle.mesh_model.specs.Net.Due.{ticks_in}
use Rattle.mesh_model.specs.Net.Inputs.{entry_of, given_to, noted_at, noting}
use Rattle.mesh_model.specs.Net.Limits.{scenario_setup}
use Rattle.mesh_model.specs.Net.Mesh.{NodeLog, SentFrame, LanPut, Mesh, begun_mesh}
use Rattle.mesh_model.specs.Net.Next.{Has}
use Rattle.mesh_model.specs.Packets.Layout.{spelling}
use Rattle.mesh_model.specs.Packets.LinkFrame.{link_frame}
use Rattle.mesh_model.specs.Routes.Queries.{Queries}
use Rattle.mesh_model.specs.Tables.Known.{TableCalls, known_by}
use Rattle.mesh_model.specs.Tables.Versions.{Version}
use Rattle.mesh_laws.specs.Machine.Moves.{AreLastChanges, Reaches, commits as commits_move, no_move, then_move}
use Rattle.mesh_laws.specs.Machine.World.{Node, Saying, World, IsCommit, commit_numbered, silent_node, start, with_commit as with_world_commit}
use Rattle.mesh_laws.proofs.Schedule.Members.{get_either, one_some}
use Rattle.mesh_tie.specs.Originators.{last_number, log_of, number_at_root}
use Rattle.mesh_tie.specs.Sayings.{FrameSays}
use Rattle.mesh_tie.specs.Sources.{IsWhole, KeepsOriginators}
use Rattle.mesh_tie.specs.Steps.{IsReachable, Steps, begins, frame_comes, goes_on, lan_comes, lan_joins, line_gives, link_joins, node_joins, node_ticks, put_comes, put_reaches, time_passes, TellsClient, routes_told}
use Rattle.mesh_tie.specs.Tie.{CommitsFit, FitsAnswer, FitsEntry, IsOrderly, IsTied, NodeIsTied, known_at_node}
use Rattle.mesh_tie.specs.TieLaws.{AllKeep}
use Rattle.mesh_tie.proofs.CommitLemmas.{Chain, Committed, Follows, announced_are, as_before, chain, chain_committed, committed_is, last_and_older, last_at, none_in_order, number_now, one_more, told_are}
use Rattle.mesh_tie.proofs.CalmRows.{calm_frag, calm_store}
use Rattle.mesh_tie.proofs.CutActs.{cut_any}
use Rattle.mesh_tie.proofs.FactActs.{round_stores}
use Rattle.mesh_tie.proofs.EntryLemmas.{OfCommits, changes_of, each_appended}
use Rattle.mesh_tie.proofs.LanSteps.{BringsClient, lan_row, lan_same}
use Rattle.mesh_tie.proofs.GatheredSaid.{none_said}
use Rattle.mesh_tie.proofs.LogLemmas.{Grows, log_first, log_rest, frame_grows, grows_entry, grows_same, log_found, log_itself, log_other, node_grows, node_later, node_more}
use Rattle.mesh_tie.proofs.NodeLists.{Renewed, another, got_front, got_noted, itself, none_front, noted_none, other_place, renewed}
use Rattle.mesh_tie.proofs.NodeSteps.{Announcer, Goes, Ready, goes_by, line_comes, line_row, packets_go, stays_tied, tick_row, tick_same}
use Rattle.mesh_tie.proofs.NodeMoves.{Comes}
use Rattle.mesh_tie.proofs.OrderSteps.{joined, orderly}
use Rattle.mesh_tie.proofs.PacketSteps.{CameIn}
use Rattle.mesh_tie.proofs.Sayable.{ActSays, Sayable, calm_row, frame_more, nothing_says, one_or_two, then_path}
use Rattle.mesh_tie.proofs.SentLemmas.{HasGiven, IsFromActs, given_is}
use Rattle.mesh_tie.proofs.TableLemmas.{FitsChange}
use Rattle.mesh_model.specs.declared.route_line.RouteLine.{RouteLine}

-- ---- commits
-- a world whose commits are these, and all else as before
record Committing (w : World) (made : List Version) : Type 0 where
  world : World
  path : Reaches w world
  commits : world.commits ≡ made
  said : world.said ≡ w.said
  nodes : world.nodes ≡ w.nodes

commits_stay : (w : World) (made : List Version) → w.commits ≡ made → Committing w made
commits_stay w made is = record { world = w; path = no_move w; commits = is; said = refl; nodes = refl }

commits_more : (w : World) (before after : History) → w.commits ≡ before.commits → Committed before after → Committing w after.commits
commits_more w before after is (as_before same) = commits_stay w after.commits (is ∙ ap (λ (h : History). h.commits) (sym same))
commits_more w before after is (one_more version byte order same) = record {
  world = with_world_commit version w;
  path = then_move w w (with_world_commit version w) (no_move w) (commits_move w version (omega (arith, byte)) order);
  commits = ap (λ cs. version ∷ cs) is ∙ ap (λ (h : History). h.commits) (sym same);
  said = refl;
  nodes = refl;
}

-- a reboot commits the empty table under byte 0
commits_first : (w : World) (made : List Version) → w.commits ≡ made → Committing w (first_commit ∷ made)
commits_first w made is = record {
  world = with_world_commit first_commit w;
  path = then_move w w (with_world_commit first_commit w) (no_move w) (commits_move w first_commit (omega arith) none_in_order);
  commits = ap (λ cs. first_commit ∷ cs) is;
  said = refl;
  nodes = refl;
}

commits_next : (w : World) (ms : List Mention) (before : History) (now : ℕ) (given : Given) → w.commits ≡ before.commits → Committing w (next_history ms before now given).commits
commits_next w ms before now (Tick index) is = go (is_commit_tick index)
  where
    go : (b : Bool) → Committing w (cond b (with_message (committed (present_table ms now) before)) before).commits
    go true = commits_more w before (committed (present_table ms now) before) is (committed_is ms now before)
    go false = commits_stay w before.commits is
commits_next w ms before now (LinkFrame number from throughput bytes) is = commits_stay w before.commits is
commits_next w ms before now (LanFrame bytes) is = commits_stay w before.commits is
commits_next w ms before now (Line line) is = go (line_reboots line)
  where
    go : (b : Bool) → Committing w (cond b (restarted before) before).commits
    go true = commits_first w before.commits is
    go false = commits_stay w before.commits is

-- ---- a node that is given something
-- what holds before its acts: the commits are those after the input, and all else is as before
pub record IsMidway (queries : Mac → Queries) (orig : Mac) (mesh : Mesh) (log : Log) (made : List Version) (v : World) : Type 0 where
  pub base : Reaches start v
  pub commits : v.commits ≡ made
  pub frames : (place : ℕ) (frame : SentFrame) → slice_get mesh.frames place ≡ Some frame → FrameSays orig log v.said frame.root frame.bytes
  pub nodes : (place : ℕ) (node : NodeLog) → slice_get mesh.nodes place ≡ Some node → NodeIsTied orig log mesh.frames v.said (known_by (known_at_node queries node).tables orig) (v.nodes place)
  pub absent : (place : ℕ) → slice_get mesh.nodes place ≡ None → v.nodes place ≡ silent_node

-- how the log of the originator is after an input at a node
pub record LogAfter (orig : Mac) (node : NodeLog) (entry : LogEntry) (log after : Log) : Type 0 where
  pub itself : node.mac ≡ orig → (log ≡ node.log) × (after ≡ entry ∷ node.log)
  pub other : node.mac ≢ orig → after ≡ log

pub log_after : (queries : Mac → Queries) (orig : Mac) (mesh : Mesh) (place : ℕ) (node : NodeLog) (entry : LogEntry) → IsOrderly queries mesh → slice_get mesh.nodes place ≡ Some node → LogAfter orig node entry (log_of orig mesh.nodes) (log_of orig (noted_at place entry mesh.nodes))
log_after queries orig mesh place node entry o found = record {
  itself = λ same. (log_found orig mesh.nodes place node o.distinct found same, log_itself orig mesh.nodes place node entry o.distinct found same);
  other = λ other. log_other orig mesh.nodes place node entry found other;
}

pub grows_after : (orig : Mac) (node : NodeLog) (entry : LogEntry) (log after : Log) → LogAfter orig node entry log after → Follows node.log entry.given → Grows orig log after
grows_after orig node entry log after l next = go (one_or_two node.mac orig)
  where
    go : (node.mac ≡ orig) ⊎ (node.mac ≢ orig) → Grows orig log after
    go (inl same) =
        let parts = l.itself same in
        subst (λ b. Grows orig b after) (sym parts.0) (subst (λ a. Grows orig node.log a) (sym parts.1) (grows_entry orig node.log entry next))
    go (inr other) = grows_same orig log after (l.other other)

commits_after : (orig : Mac) (node : NodeLog) (entry : LogEntry) (log after : Log) (w : World) → LogAfter orig node entry log after → w.commits ≡ commits orig log → Committing w (commits orig after)
commits_after orig node entry log after w l is = go (one_or_two node.mac orig)
  where
    go : (node.mac ≡ orig) ⊎ (node.mac ≢ orig) → Committing w (commits orig after)
    go (inl same) =
        let parts = l.itself same in
        subst (λ a. Committing w (commits orig a)) (sym parts.1) (commits_next w (mentions orig node.log) (history orig node.log) entry.moment entry.given (is ∙ ap (commits orig) parts.0))
    go (inr other) = commits_stay w (commits orig after) (is ∙ ap (commits orig) (sym (l.other other)))

-- a world where the commits were made that a node makes is midway of a mesh that is tied
midway_by : (queries : Mac → Queries) (orig : Mac) (mesh : Mesh) (log : Log) (w : World) (c : Committing w (commits orig log)) → Grows orig (log_of orig mesh.nodes) log → Reaches start w → IsTied queries orig mesh w → IsMidway queries orig mesh log (commits orig log) c.world
midway_by queries orig mesh log w c grows base tied = record {
  base = then_path start w c.world base c.path;
  commits = c.commits;
  frames = λ at frame got. subst (λ s. FrameSays orig log s frame.root frame.bytes) (sym c.said) (frame_grows orig (log_of orig mesh.nodes) log w.said frame.root frame.bytes grows (tied.frames at frame got));
  nodes = λ at n got. subst (λ (ns : ℕ → Node). NodeIsTied orig log mesh.frames c.world.said (known_by (known_at_node queries n).tables orig) (ns at)) (sym c.nodes)
      (subst (λ s. NodeIsTied orig log mesh.frames s (known_by (known_at_node queries n).tables orig) (w.nodes at)) (sym c.said)
      (node_grows orig (log_of orig mesh.nodes) log mesh.frames w.said (known_by (known_at_node queries n).tables orig) (w.nodes at) grows (tied.nodes at n got)));
  absent = λ at none. ap (λ (ns : ℕ → Node). ns at) c.nodes ∙ tied.absent at none;
}

-- the world midway of a mesh that is tied
pub midway_of : (queries : Mac → Queries) (orig : Mac) (mesh : Mesh) (node : NodeLog) (entry : LogEntry) (log : Log) (w : World) → LogAfter orig node entry (log_of orig mesh.nodes) log → Follows node.log entry.given → Reaches start w → IsTied queries orig mesh w
    → (v : World) × IsMidway queries orig mesh log (commits orig log) v
midway_of queries orig mesh node entry log w l next base tied =
    let c = commits_after orig node entry (log_of orig mesh.nodes) log w l tied.commits in
    (c.world, midway_by queries orig mesh log w c (grows_after orig node entry (log_of orig mesh.nodes) log l next) base tied)

-- fragments say nothing
cut_goes : (orig : Mac) (log : Log) (frames : List SentFrame) (root : ℕ) (w : World) (m : ℕ) (cutter : Cutter) (acts : List Act) (calls : TableCalls) → Goes orig log frames root w m acts calls → Goes orig log frames root w m (cut_acts cutter acts) calls
cut_goes orig log frames root w m cutter acts calls g = record {
  world = g.world;
  path = g.path;
  commits = g.commits;
  others = g.others;
  more = g.more;
  says = cut_any (ActSays orig log g.world.said root) cutter acts (λ to ttl place dst me number total tail. nothing_says orig log g.world.said root (spelling (Frag ttl place 0 dst me number total) tail) (calm_frag to ttl place 0 dst me number total tail)) g.says;
  tied = g.tied;
}

-- what a node that is given something does, from each world midway, of whole packets
abbrev DoesIt : (Mac → Queries) → Mac → Mesh → ℕ → NodeLog → LogEntry → ℕ → Log → Type 0
DoesIt queries orig mesh place node entry root log = (v : World) → IsMidway queries orig mesh log (commits orig log) v
    → Goes orig log mesh.frames root v place (whole_acts (queries node.mac) node.mac node.log entry.moment entry.given) (next_knowledge (queries node.mac) node.mac node.log (known_at_node queries node) entry.moment entry.given).tables

-- the frame of a Link act says what the act does
from_act : (orig : Mac) (log : Log) (said : List Saying) (root : ℕ) (acts : List Act) (frame : SentFrame) → AllByRecursion (ActSays orig log said root) acts → IsFromActs acts root frame → FrameSays orig log said frame.root frame.bytes
from_act orig log said root acts frame all f = subst (λ r. FrameSays orig log said r frame.bytes) (sym f.root_is) (find acts all f.act)
  where
    find : (acts : List Act) → AllByRecursion (ActSays orig log said root) acts → Has acts (Link f.to f.reason frame.bytes) → FrameSays orig log said root frame.bytes
    find [] all has = absurd has
    find (act ∷ rest) all (inl is) = subst (ActSays orig log said root) (sym is) all.0
    find (act ∷ rest) all (inr has) = find rest all.1 has

-- the world after an input
pub record Stepped (queries : Mac → Queries) (orig : Mac) (w : World) (after : Mesh) : Type 0 where
  pub world : World
  pub path : Reaches w world
  pub tied : IsTied queries orig after world

given_step : (queries : Mac → Queries) (orig : Mac) (mesh after : Mesh) (place now root : ℕ) (node : NodeLog) (given : Given) (w : World)
    → IsOrderly queries mesh → slice_get mesh.nodes place ≡ Some node → Follows node.log given → given_to (scenario_setup queries) place now root given mesh ≡ Ok after
    → DoesIt queries orig mesh place node (entry_of (scenario_setup queries) node now given) root (log_of orig (noted_at place (entry_of (scenario_setup queries) node now given) mesh.nodes))
    → Reaches start w → IsTied queries orig mesh w → Stepped queries orig w after
given_step queries orig mesh after place now root node given w o found next is does base tied = record {
  world = g.world;
  path = then_path w c.world g.world c.path g.path;
  tied = record {
    commits = g.commits ∙ c.commits ∙ ap (commits orig) logs;
    frames = λ at frame got. subst (λ l. FrameSays orig l g.world.said frame.root frame.bytes) logs (frame_either at frame (get_either mesh.frames given_has.more at frame (subst (λ fs. slice_get fs at ≡ Some frame) given_has.frames got)));
    nodes = λ at node_after got. subst (λ l. NodeIsTied orig l after.frames g.world.said (known_by (known_at_node queries node_after).tables orig) (g.world.nodes at)) logs
        (subst (λ fs. NodeIsTied orig log fs g.world.said (known_by (known_at_node queries node_after).tables orig) (g.world.nodes at)) (sym given_has.frames)
        (node_later orig log mesh.frames given_has.more g.world.said (known_by (known_at_node queries node_after).tables orig) (g.world.nodes at)
        (node_either at node_after (renewed place entry mesh.nodes at node_after (subst (λ ns. slice_get ns at ≡ Some node_after) given_has.nodes got)))));
    absent = λ at none. let was = noted_none place entry mesh.nodes at (subst (λ ns. slice_get ns at ≡ None) given_has.nodes none) in
        g.others at (other_place place at (λ same. let both : ◌≡◌ {A = Option NodeLog} (Some node) None = sym found ∙ ap (slice_get mesh.nodes) same ∙ was in absurd cc)) ∙ midway.absent at was;
  };
}
  where
    entry : LogEntry
    entry = entry_of (scenario_setup queries) node now given

    log : Log
    log = log_of orig (noted_at place entry mesh.nodes)

    given_has : HasGiven (scenario_setup queries) place now root node given mesh after
    given_has = given_is (scenario_setup queries) place now root node given mesh after found is

    logs : log ≡ log_of orig after.nodes
    logs = ap (log_of orig) (sym given_has.nodes)

    l : LogAfter orig node entry (log_of orig mesh.nodes) log
    l = log_after queries orig mesh place node entry o found

    grows : Grows orig (log_of orig mesh.nodes) log
    grows = grows_after orig node entry (log_of orig mesh.nodes) log l next

    c : Committing w (commits orig log)
    c = commits_after orig node entry (log_of orig mesh.nodes) log w l tied.commits

    midway : IsMidway queries orig mesh log (commits orig log) c.world
    midway = midway_by queries orig mesh log w c grows base tied

    g : Goes orig log mesh.frames root c.world place entry.acts (next_knowledge (queries node.mac) node.mac node.log (known_at_node queries node) entry.moment entry.given).tables
    g = cut_goes orig log mesh.frames root c.world place (cutter_by (queries node.mac) node.mac node.log) (whole_acts (queries node.mac) node.mac node.log now given)
        (next_knowledge (queries node.mac) node.mac node.log (known_at_node queries node) now given).tables (does c.world midway)

    frame_either : (at : ℕ) (frame : SentFrame) → (slice_get mesh.frames at ≡ Some frame) ⊎ Has given_has.more frame → FrameSays orig log g.world.said frame.root frame.bytes
    frame_either at frame (inl old) = frame_more orig log c.world.said g.world.said frame.root frame.bytes g.more (midway.frames at frame old)
    frame_either at frame (inr new) = from_act orig log g.world.said root entry.acts frame g.says (given_has.made frame new)

    node_either : (at : ℕ) (n : NodeLog) → Renewed place entry mesh.nodes at n → NodeIsTied orig log mesh.frames g.world.said (known_by (known_at_node queries n).tables orig) (g.world.nodes at)
    node_either at n (another d got) = subst (NodeIsTied orig log mesh.frames g.world.said (known_by (known_at_node queries n).tables orig)) (sym (g.others at (other_place place at d)))
        (node_more orig log mesh.frames c.world.said g.world.said (known_by (known_at_node queries n).tables orig) (c.world.nodes at) g.more (midway.nodes at n got))
    node_either at n (itself before same got noted) =
        let one : node ≡ before = one_some node before (sym found ∙ ap (slice_get mesh.nodes) same ∙ got) in
        subst (λ (x : NodeLog). NodeIsTied orig log mesh.frames g.world.said (known_by (known_at_node queries x).tables orig) (g.world.nodes at)) (ap (noting entry) one ∙ sym noted)
        (subst (λ p. NodeIsTied orig log mesh.frames g.world.said (known_by (known_at_node queries (noting entry node)).tables orig) (g.world.nodes p)) same g.tied)

-- ---- the kinds of inputs
-- the commits of an originator, where those of each node fit
pub fits_among : (nodes : List NodeLog) → ((place : ℕ) (node : NodeLog) → slice_get nodes place ≡ Some node → (version : Version) → IsCommit (commits node.mac node.log) version → FitsAnswer version.table)
    → (orig : Mac) → OfCommits FitsEntry (commits orig (log_of orig nodes))
fits_among [] fit orig = none
  where
    none : (n : ℕ) (version : Version) → commit_numbered n (first_commit ∷ []) ≡ Some version → AllByRecursion FitsEntry version.table
    none n version is = go (n == 0) is
      where
        go : (b : Bool) → cond b (Some first_commit) None ≡ Some version → AllByRecursion FitsEntry version.table
        go true q = let same : first_commit ≡ version = cc in subst (λ (v : Version). AllByRecursion FitsEntry v.table) same tt
        go false q = cc
fits_among (first ∷ rest) fit orig = go (one_or_two first.mac orig) (fits_among rest (λ place node got. fit (suc place) node got) orig)
  where
    go : (first.mac ≡ orig) ⊎ (first.mac ≢ orig) → OfCommits FitsEntry (commits orig (log_of orig rest)) → OfCommits FitsEntry (commits orig (log_of orig (first ∷ rest)))
    go (inl same) more = subst (λ l. OfCommits FitsEntry (commits orig l)) (sym (log_first orig first rest same))
        (subst (λ m. OfCommits FitsEntry (commits m first.log)) same (λ n version is. (fit 0 first refl version (n, is)).each))
    go (inr other) more = subst (λ l. OfCommits FitsEntry (commits orig l)) (sym (log_rest orig first rest other)) more

line_does : (queries : Mac → Queries) (orig : Mac) (mesh : Mesh) (place now : ℕ) (node : NodeLog) (line : LineGiven) (log : Log) → IsOrderly queries mesh → slice_get mesh.nodes place ≡ Some node → TellsClient line
    → DoesIt queries orig mesh place node (entry_of (scenario_setup queries) node now (Line line)) 0 log
line_does queries orig mesh place now node line log o found of v midway =
    let q = queries node.mac in
    let known = known_at_node queries node in
    goes_by orig log mesh.frames 0 v place (whole_acts q node.mac node.log now (Line line)) (line_knowledge q node.mac node.log known now line).tables
    (line_row orig log 0 v q node.mac node.log now line of (o.whole place node found) (o.knows place node found))
    (λ u later. line_comes orig log mesh.frames u place q node.mac node.log known now line (stays_tied orig log mesh.frames v place known.tables (midway.nodes place node found) u later))

lan_does : (queries : Mac → Queries) (orig : Mac) (mesh : Mesh) (place now : ℕ) (node : NodeLog) (bytes : List ℕ) (log : Log) → IsOrderly queries mesh → slice_get mesh.nodes place ≡ Some node → BringsClient bytes
    → DoesIt queries orig mesh place node (entry_of (scenario_setup queries) node now (LanFrame bytes)) 0 log
lan_does queries orig mesh place now node bytes log o found brings v midway =
    let q = queries node.mac in
    let known = known_at_node queries node in
    goes_by orig log mesh.frames 0 v place (whole_acts q node.mac node.log now (LanFrame bytes)) (next_knowledge q node.mac node.log known now (LanFrame bytes)).tables
    (lan_row orig log 0 v q node.mac node.log now bytes brings (o.whole place node found) (o.knows place node found))
    (λ u later. subst (λ calls. Comes orig log mesh.frames u place (known_by calls orig)) (sym (lan_same q node.mac node.log known now bytes)) (stays_tied orig log mesh.frames v place known.tables (midway.nodes place node found) u later))

-- what a tick commits fits
abbrev FitsLog : NodeLog → LogEntry → Type 0
FitsLog node entry = (version : Version) → IsCommit (commits node.mac (entry ∷ node.log)) version → FitsAnswer version.table

tick_does : (queries : Mac → Queries) (orig : Mac) (mesh : Mesh) (place now : ℕ) (node : NodeLog) (before log : Log) → KeepsOriginators node.mac (queries node.mac) → IsOrderly queries mesh → slice_get mesh.nodes place ≡ Some node
    → LogAfter orig node (entry_of (scenario_setup queries) node now (Tick (suc (ticks_in node.log)))) before log
    → FitsLog node (entry_of (scenario_setup queries) node now (Tick (suc (ticks_in node.log))))
    → DoesIt queries orig mesh place node (entry_of (scenario_setup queries) node now (Tick (suc (ticks_in node.log)))) (suc (ticks_in node.log)) log
tick_does queries orig mesh place now node before log keeps o found l fit v midway =
    subst (Goes orig log mesh.frames index v place acts) (sym (tick_same q node.mac now index (table_behind node.mac node.log now index) known))
    (goes_by orig log mesh.frames index v place acts known.tables
    (each_appended (Sayable orig log index v) ticks told
    (tick_row orig log v q node.mac known.services.settings known.routes ms old (bridge node.log) now index keeps announcer)
    (calm_row orig log index v told (calm_store node.mac told (round_stores q (before_telling q node.mac now index (table_behind node.mac node.log now index) known) (record { me = node.mac; now = now }) index)))) (stays_tied orig log mesh.frames v place known.tables (midway.nodes place node found)))
  where
    q : Queries
    q = queries node.mac

    known : Knowledge
    known = known_at_node queries node

    ms : List Mention
    ms = mentions node.mac node.log

    old : History
    old = history node.mac node.log

    index : ℕ
    index = suc (ticks_in node.log)

    ticks : List Act
    ticks = tick_acts q node.mac known.services.settings known.routes ms old (bridge node.log) now index

    told : List Act
    told = fact_round_acts q (before_telling q node.mac now index (table_behind node.mac node.log now index) known) (record { me = node.mac; now = now }) index

    acts : List Act
    acts = ticks ++ told

    entry : LogEntry
    entry = entry_of (scenario_setup queries) node now (Tick index)

    after : History
    after = committed (present_table ms now) old

    linked : Chain after
    linked = chain_committed old after (committed_is ms now old) (chain node.mac node.log)

    made : is_commit_tick index ≡ true → commits node.mac (entry ∷ node.log) ≡ after.commits
    made is = ap (λ b. (cond b (with_message after) old).commits) is

    all_fit : is_commit_tick index ≡ true → (n : ℕ) (version : Version) → commit_numbered n after.commits ≡ Some version → FitsAnswer version.table
    all_fit is n version found_at = fit version (n, ap (commit_numbered n) (made is) ∙ found_at)

    changes_fit : is_commit_tick index ≡ true → ((announced_changes after ≡ []) ⊎ AreLastChanges after.commits (announced_changes after)) → AllByRecursion FitsChange (announced_changes after)
    changes_fit is (inl none) = subst (AllByRecursion FitsChange) (sym none) tt
    changes_fit is (inr are) =
        let parts = last_and_older after linked in
        changes_of FitsEntry after.commits (last_commit after.commits) parts.0 (announced_changes after) (λ n version got. (all_fit is n version got).each) parts.1
        (subst (λ cs. AreLastChanges cs (announced_changes after)) parts.1 are)

    announcer : is_commit_tick index ≡ true → Announcer orig log v node.mac index after
    announcer is = record {
      whole = o.whole place node found;
      chain = linked;
      fits = all_fit is (last_number after.commits) (last_commit after.commits) (last_at after linked);
      changes_fit = changes_fit is (announced_are after linked).0;
      commits = λ same. midway.commits ∙ ap (commits orig) (l.itself same).1 ∙ ap (λ m. commits m (entry ∷ node.log)) (sym same) ∙ made is;
      past = λ same. subst (λ x. index ≤ ticks_in x) (sym (l.itself same).1) (omega arith);
      number = λ same. ap (λ x. number_at_root orig x index) (l.itself same).1 ∙ ap (λ m. number_at_root m (entry ∷ node.log) index) (sym same)
          ∙ number_now node.mac node.log now index entry.acts ∙ ap last_number (made is);
    }

-- a node is ready for packets
pub frame_ready : (queries : Mac → Queries) (orig : Mac) (mesh : Mesh) (place now number throughput : ℕ) (from : Mac) (node : NodeLog) (bytes : List ℕ) (before log : Log) → IsOrderly queries mesh → slice_get mesh.nodes place ≡ Some node
    → LogAfter orig node (entry_of (scenario_setup queries) node now (LinkFrame number from throughput bytes)) before log
    → ((version : Version) → IsCommit (commits node.mac node.log) version → FitsAnswer version.table) → OfCommits FitsEntry (commits orig log)
    → (v : World) → IsMidway queries orig mesh log (commits orig log) v → Ready orig v place node.mac (own_by node.mac node.log)
frame_ready queries orig mesh place now number throughput from node bytes before log o found l fit all v midway = record {
  base = midway.base;
  fits = subst (OfCommits FitsEntry) (sym midway.commits) all;
  speaker = record {
    whole = o.whole place node found;
    fits = fit (last_commit own.commits) (last_number own.commits, last_at own linked);
    told_fit = changes_fit;
    older = (last_and_older own linked).0;
    commits = λ same. midway.commits ∙ ap (commits orig) (l.itself same).1 ∙ ap (λ m. commits m node.log) (sym same) ∙ (last_and_older own linked).1;
    told_last = λ same changes is. subst (λ cs. AreLastChanges cs changes) (last_and_older own linked).1 (told_are own changes linked is).last;
  };
}
  where
    own : History
    own = history node.mac node.log

    linked : Chain own
    linked = chain node.mac node.log

    changes_fit : (changes : List Change) → told_changes own ≡ Some changes → AllByRecursion FitsChange changes × (length changes ≤ 120)
    changes_fit changes is =
        let told = told_are own changes linked is in
        let parts = last_and_older own linked in
        (changes_of FitsEntry own.commits (last_commit own.commits) parts.0 changes (λ n version got. (fit version (n, got)).each) parts.1 (subst (λ cs. AreLastChanges cs changes) parts.1 told.last), told.few)

-- the frame of a number
pub came_in : (mesh : Mesh) (number : ℕ) (frame : SentFrame) → slice_get mesh.frames number ≡ Some frame → CameIn mesh.frames frame.root (suc number)
came_in mesh number frame sent = record { frame = frame; sent = ap (slice_get mesh.frames) (let one_less : suc number - 1 ≡ number = omega arith in one_less) ∙ sent; root_is = refl }

frame_does : (queries : Mac → Queries) (orig : Mac) (mesh : Mesh) (place now number throughput : ℕ) (from : Mac) (node : NodeLog) (frame : SentFrame) (before log : Log) → KeepsOriginators node.mac (queries node.mac) → IsOrderly queries mesh → slice_get mesh.nodes place ≡ Some node
    → slice_get mesh.frames number ≡ Some frame → IsWhole from
    → LogAfter orig node (entry_of (scenario_setup queries) node now (LinkFrame (suc number) from throughput frame.bytes)) before log
    → ((version : Version) → IsCommit (commits node.mac node.log) version → FitsAnswer version.table) → OfCommits FitsEntry (commits orig log)
    → DoesIt queries orig mesh place node (entry_of (scenario_setup queries) node now (LinkFrame (suc number) from throughput frame.bytes)) frame.root log
frame_does queries orig mesh place now number throughput from node frame before log keeps o found sent whole l fit all v midway =
    packets_go orig log mesh.frames frame.root v place (queries node.mac) node.mac (own_by node.mac node.log)
    (record { now = now; from = from; throughput = throughput; number = suc number }) (link_frame frame.bytes).packets (known_at_node queries node) keeps whole
    (came_in mesh number frame sent) (frame_ready queries orig mesh place now (suc number) throughput from node frame.bytes before log o found l fit all v midway) (midway.nodes place node found) (midway.frames number frame sent)

pub log_joined : (orig : Mac) (nodes : List NodeLog) (new : NodeLog) → new.log ≡ [] → log_of orig (nodes ++ new ∷ []) ≡ log_of orig nodes
log_joined orig [] new empty = go (Rattle.mesh_model.specs.Routes.Addresses.same_mac new.mac orig)
  where
    go : (b : Bool) → cond b new.log [] ≡ []
    go true = empty
    go false = refl
log_joined orig (first ∷ rest) new empty = ap (λ l. cond (Rattle.mesh_model.specs.Routes.Addresses.same_mac first.mac orig) first.log l) (log_joined orig rest new empty)

joined_tied : (queries : Mac → Queries) (orig : Mac) (mesh : Mesh) (new : NodeLog) (w : World) → new.log ≡ [] → IsTied queries orig mesh w → IsTied queries orig (joined mesh new) w
joined_tied queries orig mesh new w empty tied = record {
  commits = tied.commits ∙ ap (commits orig) (sym logs);
  frames = λ at frame got. subst (λ l. FrameSays orig l w.said frame.root frame.bytes) (sym logs) (tied.frames at frame got);
  nodes = λ at n got. subst (λ l. NodeIsTied orig l mesh.frames w.said (known_by (known_at_node queries n).tables orig) (w.nodes at)) (sym logs) (node_at at n (got_front mesh.nodes new at n got));
  absent = λ at none. tied.absent at (none_front mesh.nodes new at none);
}
  where
    logs : log_of orig (mesh.nodes ++ new ∷ []) ≡ log_of orig mesh.nodes
    logs = log_joined orig mesh.nodes new empty

    node_at : (at : ℕ) (n : NodeLog) → (slice_get mesh.nodes at ≡ Some n) ⊎ ((n ≡ new) × (slice_get mesh.nodes at ≡ None)) → NodeIsTied orig (log_of orig mesh.nodes) mesh.frames w.said (known_by (known_at_node queries n).tables orig) (w.nodes at)
    node_at at n (inl old) = tied.nodes at n old
    node_at at n (inr is) = subst (λ l. NodeIsTied orig (log_of orig mesh.nodes) mesh.frames w.said (known_by (knowledge (queries n.mac) n.mac l).tables orig) (w.nodes at)) (sym (ap (λ (x : NodeLog). x.log) is.0 ∙ empty))
        (subst (NodeIsTied orig (log_of orig mesh.nodes) mesh.frames w.said Rattle.mesh_model.specs.Tables.Known.nothing) (sym (tied.absent at is.1)) (record { held = refl; told = refl; gathered = none_said w.said None }))

pub noted_fits : (queries : Mac → Queries) (mesh after : Mesh) (place now root : ℕ) (node : NodeLog) (given : Given) → slice_get mesh.nodes place ≡ Some node → given_to (scenario_setup queries) place now root given mesh ≡ Ok after
    → CommitsFit after → FitsLog node (entry_of (scenario_setup queries) node now given)
noted_fits queries mesh after place now root node given found is fit =
    let entry = entry_of (scenario_setup queries) node now given in
    let has = given_is (scenario_setup queries) place now root node given mesh after found is in
    fit place (noting entry node) (ap (λ ns. slice_get ns place) has.nodes ∙ got_noted mesh.nodes place node entry found)

-- ---- all steps
-- each client frame on a LAN is from a client that records can tell
abbrev pub PutsBring : Mesh → Type 0
PutsBring mesh = (place : ℕ) (put : LanPut) → slice_get mesh.puts place ≡ Some put → BringsClient put.bytes

-- what holds of every mesh that is reached
pub record Holds (queries : Mac → Queries) (mesh : Mesh) : Type 0 where
  pub orderly : IsOrderly queries mesh
  pub fits : CommitsFit mesh
  pub puts : PutsBring mesh

pub step_tied : (queries : Mac → Queries) (mesh after : Mesh) → AllKeep queries → Holds queries mesh → CommitsFit after → Steps queries mesh after → (orig : Mac) (w : World) → Reaches start w → IsTied queries orig mesh w → Stepped queries orig w after
step_tied queries mesh _ keep h fit (node_joins _ node empty whole fresh) orig w base tied = record { world = w; path = no_move w; tied = joined_tied queries orig mesh node w empty tied }
step_tied queries mesh _ keep h fit (link_joins _ link) orig w base tied = record { world = w; path = no_move w; tied = record { commits = tied.commits; frames = tied.frames; nodes = tied.nodes; absent = tied.absent } }
step_tied queries mesh after keep h fit (line_gives _ _ place now node line found may of is) orig w base tied =
    given_step queries orig mesh after place now 0 node (Line line) w h.orderly found tt is
    (line_does queries orig mesh place now node line (log_of orig (noted_at place (entry_of (scenario_setup queries) node now (Line line)) mesh.nodes)) h.orderly found of) base tied
step_tied queries mesh after keep h fit (node_ticks _ _ place now node found may is) orig w base tied =
    let entry = entry_of (scenario_setup queries) node now (Tick (suc (ticks_in node.log))) in
    given_step queries orig mesh after place now (suc (ticks_in node.log)) node (Tick (suc (ticks_in node.log))) w h.orderly found refl is
    (tick_does queries orig mesh place now node (log_of orig mesh.nodes) (log_of orig (noted_at place entry mesh.nodes)) (keep node.mac) h.orderly found
    (log_after queries orig mesh place node entry h.orderly found) (noted_fits queries mesh after place now (suc (ticks_in node.log)) node (Tick (suc (ticks_in node.log))) found is fit)) base tied
step_tied queries mesh after keep h fit (frame_comes _ _ place now number throughput from node frame found may sent whole is) orig w base tied =
    let given = LinkFrame (suc number) from throughput frame.bytes in
    let entry = entry_of (scenario_setup queries) node now given in
    let has = given_is (scenario_setup queries) place now frame.root node given mesh after found is in
    given_step queries orig mesh after place now frame.root node given w h.orderly found tt is
    (frame_does queries orig mesh place now number throughput from node frame (log_of orig mesh.nodes) (log_of orig (noted_at place entry mesh.nodes)) (keep node.mac) h.orderly found sent whole
    (log_after queries orig mesh place node entry h.orderly found) (h.fits place node found)
    (subst (λ ns. OfCommits FitsEntry (commits orig (log_of orig ns))) has.nodes (fits_among after.nodes fit orig))) base tied
step_tied queries mesh _ keep h fit (lan_joins _ lan) orig w base tied = record { world = w; path = no_move w; tied = record { commits = tied.commits; frames = tied.frames; nodes = tied.nodes; absent = tied.absent } }
step_tied queries mesh _ keep h fit (put_comes _ put frame by is tells) orig w base tied = record { world = w; path = no_move w; tied = record { commits = tied.commits; frames = tied.frames; nodes = tied.nodes; absent = tied.absent } }
step_tied queries mesh _ keep h fit (put_reaches _ number now put frame found carries) orig w base tied = record { world = w; path = no_move w; tied = record { commits = tied.commits; frames = tied.frames; nodes = tied.nodes; absent = tied.absent } }
step_tied queries mesh after keep h fit (lan_comes _ _ place now number node put found may among is) orig w base tied =
    given_step queries orig mesh after place now 0 node (LanFrame put.bytes) w h.orderly found tt is
    (lan_does queries orig mesh place now node put.bytes (log_of orig (noted_at place (entry_of (scenario_setup queries) node now (LanFrame put.bytes)) mesh.nodes)) h.orderly found (h.puts number put among)) base tied
step_tied queries mesh _ keep h fit (time_passes _ happening) orig w base tied = record { world = w; path = no_move w; tied = record { commits = tied.commits; frames = tied.frames; nodes = tied.nodes; absent = tied.absent } }
step_tied queries mesh _ keep h fit (routes_told _ lines watch) orig w base tied = record { world = w; path = no_move w; tied = record { commits = tied.commits; frames = tied.frames; nodes = tied.nodes; absent = tied.absent } }

-- every commit of every mesh that is reached can be told
abbrev pub AlwaysFit : (Mac → Queries) → Type 0
AlwaysFit queries = (mesh : Mesh) → IsReachable queries mesh → CommitsFit mesh

-- what holds of every mesh that is reached, with its ties
pub record Reached (queries : Mac → Queries) (mesh : Mesh) : Type 0 where
  pub holds : Holds queries mesh
  pub ties : (orig : Mac) → (w : World) × Reaches start w × IsTied queries orig mesh w

empty_tied : (queries : Mac → Queries) (watch : Option (List RouteLine)) (orig : Mac) → IsTied queries orig (begun_mesh watch) start
empty_tied queries watch orig = record {
  commits = refl;
  frames = λ place frame got. cc;
  nodes = λ place node got. cc;
  absent = λ place none. refl;
}

-- each client frame on the LANs of every mesh that is reached is from a client that can be told
abbrev pub AlwaysBring : (Mac → Queries) → Type 0
AlwaysBring queries = (mesh : Mesh) → IsReachable queries mesh → PutsBring mesh

holds_at : (queries : Mac → Queries) → AlwaysFit queries → AlwaysBring queries → (mesh : Mesh) → IsReachable queries mesh → Holds queries mesh
holds_at queries fit bring mesh r = record { orderly = orderly queries mesh r; fits = fit mesh r; puts = bring mesh r }

pub reached_by : (queries : Mac → Queries) → AllKeep queries → AlwaysFit queries → AlwaysBring queries → (mesh : Mesh) → IsReachable queries mesh → Reached queries mesh
reached_by queries keep fit bring _ (begins watch) = record {
  holds = holds_at queries fit bring (begun_mesh watch) (begins watch);
  ties = λ orig. (start, no_move start, empty_tied queries watch orig);
}
reached_by queries keep fit bring _ (goes_on mesh after r s) =
    let before = reached_by queries keep fit bring mesh r in
    record {
      holds = holds_at queries fit bring after (goes_on mesh after r s);
      ties = λ orig.
          let tie = before.ties orig in
          let next = step_tied queries mesh after keep before.holds (fit after (goes_on mesh after r s)) s orig tie.0 tie.1 tie.2 in
          (next.world, then_path start tie.0 next.world tie.1 next.path, next.tied);
    }
