-- How what a node keeps of its own clients goes on to stand for its log with one more input.
use Rattle.std.proofs.Common.{◌≡◌, ◌≤◌, ℕ, Bool, true, false, List, [], ◌∷◌, ◌++◌, length, map, refl, sym, ap, subst, ◌∙◌, arith, None}
use Rattle.std.specs.Prelude.{filter_map, if◌then◌else◌}
use Rattle.mesh_base.specs.declared.address.Mac.{Mac}
use Rattle.mesh_base.specs.declared.client.Key.{Key}
use Rattle.mesh_model.specs.Clients.Limits.{clients_limit, limit_of_mention, limit_of_mentions}
use Rattle.mesh_model.specs.Clients.Log.{Log, Tick, LinkFrame, Line, Attach, Gone, Join, Leave, Sets, Put, Get, Reboot}
use Rattle.mesh_model.specs.Clients.Settings.{Setting}
use Rattle.mesh_model.specs.Clients.Mentions.{Mention, is_wifi_on, Departed, Joined, Left, mentions, roamed, roamed_by}
use Rattle.mesh_model.specs.Commits.History.{History, after_tick, with_message, committed, first_history, history, is_commit_tick, present_table, restarted}
use Rattle.mesh_model.specs.Commits.Versions.{last_commit}
use Rattle.mesh_model.specs.Packets.FirstPacket.{Packet}
use Rattle.mesh_model.specs.Packets.LinkFrame.{link_frame}
use Rattle.mesh_model.specs.Knowledge.Known.{Knowledge}
use Rattle.mesh_model.specs.Knowledge.Served.{after_set}
use Rattle.mesh_model.specs.Knowledge.Steps.{with_set}
use Rattle.mesh_model.specs.Routes.Queries.{Queries}
use Rattle.mesh_model.specs.Routes.RouteLog.{RouteLog}
use Rattle.mesh_laws.proofs.SettingLemmas.{settings_known}
use Rattle.mesh_node.specs.declared.node.Node.{Node}
use Rattle.node_ground.specs.declared.knowledge.NodeKnowledge.{NodeKnowledge}
use Rattle.node_ground.specs.declared.services.Services.{Services}
use Rattle.node_ground.specs.KnowledgeStands.{KnowledgeStands}
use Rattle.node_ground.proofs.StandsLemmas.{with_services}
use Rattle.node_ground.specs.ServicesStand.{ServicesStand}
use Rattle.mesh_node.specs.NodeStands.{KeepsLog, given_session}
use Rattle.node_ground.specs.OwnStands.{with_input}
use Rattle.node_ground.specs.OwnStands.{AreFew, HasClients, newest_moment}
use Rattle.node_clients.proofs.RoamingLemmas.{named}
use Rattle.node_tables.proofs.TickLemmas.{committed_few}
use Rattle.tt_local.specs.Locals.{LocalsStand, LocalsView}
use Rattle.node_ground.proofs.OwnLemmas.{few_later, few_news}

-- before the first input
pub has_none : (locals : LocalsView) (me : Mac) → LocalsStand locals [] first_history 0 → HasClients locals me []
has_none locals me stand = record {
  since = 0;
  stand = stand;
  settled = omega arith;
  few = record {
    present = λ now late. omega arith;
    committed = omega arith;
  };
}

-- ---- ticks

few_ticked : (mentions : List Mention) (history : History) (since now index : ℕ) → AreFew mentions history since → since ≤ now
    → AreFew mentions (after_tick index (present_table mentions now) history) now
few_ticked mentions history since now index few late = record {
  present = λ at later. few.present at (omega (arith, late, later));
  committed = by_index (is_commit_tick index);
}
  where
    by_index : (even : Bool) → length (last_commit (if even then with_message (committed (present_table mentions now) history) else history).commits).table ≤ clients_limit
    by_index true = committed_few mentions history now (few.present now late) few.committed
    by_index false = few.committed

-- after a tick
pub has_ticked : (q : Queries) (old new : LocalsView) (me : Mac) (log : Log) (now index : ℕ) → HasClients old me log → newest_moment log ≤ now
    → LocalsStand new (mentions me log) (after_tick index (present_table (mentions me log) now) (history me log)) now
    → HasClients new me (with_input q me log now (Tick index))
has_ticked q old new me log now index has late stand = record {
  since = now;
  stand = stand;
  settled = omega arith;
  few = few_ticked (mentions me log) (history me log) (newest_moment log) now index has.few late;
}

-- ---- link frames

few_roamed : (older : List Mention) (history : History) (since now : ℕ) (keys : List Key) → AreFew older history since → since ≤ now
    → AreFew (map (roamed now) keys ++ older) history now
few_roamed older history since now [] few late = few_later older history since now few late
few_roamed older history since now (key ∷ keys) few late =
    few_news (map (roamed now) keys ++ older) history now (roamed now key) (few_roamed older history since now keys few late) (omega arith) refl

no_limit : (older : List Mention) (now : ℕ) (keys : List Key) → limit_of_mentions older (map (roamed now) keys) ≡ None
no_limit older now [] = refl
no_limit older now (key ∷ keys) = no_limit older now keys

-- clients that roam away pass no limit
pub roaming_limit : (me : Mac) (older : List Mention) (now : ℕ) (packets : List Packet) → limit_of_mentions older (filter_map (roamed_by me now) packets) ≡ None
roaming_limit me older now packets =
    let keys = named me now packets in
    ap (limit_of_mentions older) keys.1 ∙ no_limit older now keys.0

-- after a link frame
pub has_roamed : (q : Queries) (old new : LocalsView) (me from : Mac) (log : Log) (now number throughput : ℕ) (bytes : List ℕ) (has : HasClients old me log) → newest_moment log ≤ now
    → LocalsStand new (filter_map (roamed_by me now) (link_frame bytes).packets ++ mentions me log) (history me log) has.since
    → HasClients new me (with_input q me log now (LinkFrame number from throughput bytes))
has_roamed q old new me from log now number throughput bytes has late stand =
    let keys = named me now (link_frame bytes).packets in
    record {
      since = has.since;
      stand = stand;
      settled = (let settled = has.settled in omega (arith, settled, late));
      few = subst (λ ms. AreFew (ms ++ mentions me log) (history me log) now) (sym keys.1)
          (few_roamed (mentions me log) (history me log) (newest_moment log) now keys.0 has.few late);
    }

-- ---- what lines give

-- after a departure
pub has_departed : (q : Queries) (old new : LocalsView) (me : Mac) (log : Log) (now : ℕ) (key : Key) (has : HasClients old me log) → newest_moment log ≤ now
    → LocalsStand new (record { moment = now; key = key; news = Departed } ∷ mentions me log) (history me log) has.since
    → HasClients new me (with_input q me log now (Line (Gone key)))
has_departed q old new me log now key has late stand = record {
  since = has.since;
  stand = stand;
  settled = (let settled = has.settled in omega (arith, settled, late));
  few = few_news (mentions me log) (history me log) (newest_moment log) (record { moment = now; key = key; news = Departed }) has.few late refl;
}

-- after the joining of a group
pub has_joined : (q : Queries) (old new : LocalsView) (me : Mac) (log : Log) (now : ℕ) (key : Key) (has : HasClients old me log) → newest_moment log ≤ now
    → limit_of_mention (mentions me log) (record { moment = now; key = key; news = Joined }) ≡ None
    → LocalsStand new (record { moment = now; key = key; news = Joined } ∷ mentions me log) (history me log) has.since
    → HasClients new me (with_input q me log now (Line (Join key)))
has_joined q old new me log now key has late none stand = record {
  since = has.since;
  stand = stand;
  settled = (let settled = has.settled in omega (arith, settled, late));
  few = few_news (mentions me log) (history me log) (newest_moment log) (record { moment = now; key = key; news = Joined }) has.few late none;
}

-- after the leaving of a group
pub has_left : (q : Queries) (old new : LocalsView) (me : Mac) (log : Log) (now : ℕ) (key : Key) (has : HasClients old me log) → newest_moment log ≤ now
    → LocalsStand new (record { moment = now; key = key; news = Left } ∷ mentions me log) (history me log) has.since
    → HasClients new me (with_input q me log now (Line (Leave key)))
has_left q old new me log now key has late stand = record {
  since = has.since;
  stand = stand;
  settled = (let settled = has.settled in omega (arith, settled, late));
  few = few_news (mentions me log) (history me log) (newest_moment log) (record { moment = now; key = key; news = Left }) has.few late refl;
}

-- after a setting
pub has_set : (q : Queries) (locals : LocalsView) (me : Mac) (log : Log) (now : ℕ) (setting : Setting) → HasClients locals me log → newest_moment log ≤ now
    → HasClients locals me (with_input q me log now (Line (Sets setting)))
has_set q locals me log now setting has late = record {
  since = has.since;
  stand = has.stand;
  settled = (let settled = has.settled in omega (arith, settled, late));
  few = few_later (mentions me log) (history me log) (newest_moment log) now has.few late;
}

-- after a fact was put
pub has_put : (q : Queries) (locals : LocalsView) (me : Mac) (log : Log) (now type_no version : ℕ) (text : List ℕ) → HasClients locals me log → newest_moment log ≤ now
    → HasClients locals me (with_input q me log now (Line (Put type_no version text)))
has_put q locals me log now type_no version text has late = record {
  since = has.since;
  stand = has.stand;
  settled = (let settled = has.settled in omega (arith, settled, late));
  few = few_later (mentions me log) (history me log) (newest_moment log) now has.few late;
}

-- after facts were asked for
pub has_got : (q : Queries) (locals : LocalsView) (me : Mac) (log : Log) (now type_no : ℕ) → HasClients locals me log → newest_moment log ≤ now
    → HasClients locals me (with_input q me log now (Line (Get type_no)))
has_got q locals me log now type_no has late = record {
  since = has.since;
  stand = has.stand;
  settled = (let settled = has.settled in omega (arith, settled, late));
  few = few_later (mentions me log) (history me log) (newest_moment log) now has.few late;
}

-- after a LAN was joined
pub has_attached : (q : Queries) (locals : LocalsView) (me : Mac) (log : Log) (now lan : ℕ) (gateways : List Mac) → HasClients locals me log → newest_moment log ≤ now
    → HasClients locals me (with_input q me log now (Line (Attach lan gateways)))
has_attached q locals me log now lan gateways has late = record {
  since = has.since;
  stand = has.stand;
  settled = (let settled = has.settled in omega (arith, settled, late));
  few = few_later (mentions me log) (history me log) (newest_moment log) now has.few late;
}

-- after a reboot
pub has_rebooted : (q : Queries) (old new : LocalsView) (me : Mac) (log : Log) (now : ℕ) → HasClients old me log → LocalsStand new [] (restarted (history me log)) 0 → HasClients new me (with_input q me log now (Line Reboot))
has_rebooted q old new me log now has stand = record {
  since = 0;
  stand = stand;
  settled = omega arith;
  few = record {
    present = λ at late. omega arith;
    committed = omega arith;
  };
}

-- after a ping or a traceroute began
pub has_session : (q : Queries) (locals : LocalsView) (me : Mac) (log : Log) (now : ℕ) (target : Mac) (trace : Bool) → HasClients locals me log → newest_moment log ≤ now
    → HasClients locals me (with_input q me log now (given_session target trace))
has_session q locals me log now target true has late = record {
  since = has.since;
  stand = has.stand;
  settled = (let settled = has.settled in omega (arith, settled, late));
  few = few_later (mentions me log) (history me log) (newest_moment log) now has.few late;
}
has_session q locals me log now target false has late = record {
  since = has.since;
  stand = has.stand;
  settled = (let settled = has.settled in omega (arith, settled, late));
  few = few_later (mentions me log) (history me log) (newest_moment log) now has.few late;
}

-- ---- settings

-- sightings are marked as it was set
pub wifi_is : {A : Type 0} (stands : A → Mac → RouteLog → Type 0) (queries : Mac → Queries) (node : Node A) (me : Mac) (log : Log) → KeepsLog stands queries node me log
    → node.kept.services.settings.wifi ≡ is_wifi_on log
wifi_is stands queries node me log is = ap (λ s. s.wifi) (is.kept.services.settings ∙ settings_known (queries me) me log)

-- what is kept after a setting
pub set_stands : {A : Type 0} (stands : A → Mac → RouteLog → Type 0) (kept : NodeKnowledge A) (services : Services) (me : Mac) (setting : Setting) (known : Knowledge) → KnowledgeStands stands kept me known
    → ServicesStand services me (after_set setting known.services) → KnowledgeStands stands (record kept { services = services }) me (with_set setting known)
set_stands stands kept services me setting known is set = with_services stands kept me known is services (after_set setting known.services) set
