-- A sighting that is refused, and one that is noted.
use Rattle.std.proofs.Common.{◌≡◌, ℕ, List, [], ◌++◌, refl, ap, subst, sym, ◌∙◌, arith, ◌≤◌, Option, Some, None, Result, Ok, Err}
use Rattle.std.specs.Option.{option_or}
use Rattle.mesh_base.specs.declared.client.Key.{Key}
use Rattle.mesh_model.specs.declared.act.Act.{Act}
use Rattle.mesh_model.specs.declared.ending.LimitName.{LimitName}
use Rattle.mesh_model.specs.Clients.Limits.{limit_of_mention, limit_of_mentions}
use Rattle.mesh_model.specs.Clients.Mentions.{Mention, News, Sighted, key_of, mentions, passed_mentions, sighted_after}
use Rattle.tt_local.specs.declared.failure.LocalErr.{LocalErr}
use Rattle.tt_local.specs.Limits.{HasLimit}
use Rattle.node_ground.specs.declared.failure.NodeErr.{NodeErr}
use Rattle.node_ground.specs.Errors.{HasOwnCause, client_error_of}
use Rattle.node_ground.specs.Puts.{Leaves, Puts, behind}
use Rattle.node_ground.proofs.PutsLemmas.{stops_among}
use Rattle.node_ground.proofs.LeavesLemmas.{client_cause, free_cause, leaves_first, leaves_then}
use Rattle.mesh_base.specs.declared.address.Mac.{Mac}
use Rattle.mesh_model.specs.Clients.Log.{Log, LanFrame}
use Rattle.mesh_model.specs.Commits.History.{History, history}
use Rattle.mesh_model.specs.Routes.Queries.{Queries}
use Rattle.mesh_model.specs.Routes.RouteLog.{RouteLog}
use Rattle.node_ground.specs.declared.knowledge.NodeKnowledge.{NodeKnowledge}
use Rattle.node_ground.specs.OwnStands.{AreFew, HasClients, OwnStands, newest_moment, with_input}
use Rattle.node_ground.proofs.OwnLemmas.{few_later, few_news}
use Rattle.tt_local.specs.Locals.{LocalsView}
use Rattle.mesh_model.specs.Acts.Choosing.{call_frame, sighting_acts}
use Rattle.mesh_model.specs.Acts.Rows.{own_by}
use Rattle.mesh_model.specs.Packets.LanFrames.{lan_message_of}
use Rattle.mesh_model.specs.Packets.Payload.{ClientFrame}
use Rattle.node_clients.specs.FrameRows.{Before, HasMentioned, given_call, given_frame, key_from, sighting_of}
use Rattle.node_clients.specs.LanRows.{passed_of}

within_one : (o : Option LimitName) → option_or o None ≡ None → o ≡ None
within_one None is = refl
within_one (Some limit) is = is

-- where a mention passes no limit, it passes none alone
pub within_mention : (o : Option LimitName) → o ≡ None → option_or o None ≡ None
within_mention o is = ap (λ limit. option_or limit None) is

-- clients are few with the mentions of a client frame that is passed
few_passed : (older : List Mention) (history : History) (since now : ℕ) (news : News) (passed : Option ClientFrame) → AreFew older history since → since ≤ now
    → limit_of_mentions older (passed_mentions news now passed) ≡ None → AreFew (passed_mentions news now passed ++ older) history now
few_passed older history since now news None few late within = few_later older history since now few late
few_passed older history since now news (Some frame) few late within =
    few_news older history since (record { moment = now; key = key_of frame.src frame.vid; news = news }) few late
    (within_one (limit_of_mention older (record { moment = now; key = key_of frame.src frame.vid; news = news })) within)

module _ {A : Type 0} {stands : A → Mac → RouteLog → Type 0} {queries : Mac → Queries} {kept : NodeKnowledge A} {old new : LocalsView} {me : Mac} {log : Log} {now : ℕ}
    (before : Before stands queries kept old me log now) where
  -- the clients after a client frame
  pub has_sighted : (frame : ClientFrame) → HasMentioned new me log (sighting_of log now (key_from frame)) → HasClients new me (with_input (queries me) me log now (given_frame frame))
  has_sighted frame mentioned = record {
    since = mentioned.since;
    stand = mentioned.stand;
    settled = (let settled = mentioned.settled in let late = before.later in omega (arith, settled, late));
    few = few_passed (mentions me log) (history me log) (newest_moment log) now (sighted_after log) (Some frame) before.clients.few before.later mentioned.within;
  }

  -- and after a call for a gateway
  pub has_called : (key : Key) (text : List ℕ) → HasMentioned new me log (sighting_of log now key) → HasClients new me (with_input (queries me) me log now (given_call key text))
  has_called key text mentioned = record {
    since = mentioned.since;
    stand = mentioned.stand;
    settled = (let settled = mentioned.settled in let late = before.later in omega (arith, settled, late));
    few = few_passed (mentions me log) (history me log) (newest_moment log) now (sighted_after log) (Some (call_frame key text)) before.clients.few before.later mentioned.within;
  }

  -- and after a frame of a LAN
  pub has_passed : (bytes : List ℕ) → HasMentioned new me log (passed_mentions (sighted_after log) now (passed_of me log now (lan_message_of bytes)))
      → HasClients new me (with_input (queries me) me log now (LanFrame bytes))
  has_passed bytes mentioned = record {
    since = mentioned.since;
    stand = mentioned.stand;
    settled = (let settled = mentioned.settled in let late = before.later in omega (arith, settled, late));
    few = few_passed (mentions me log) (history me log) (newest_moment log) now (sighted_after log) (passed_of me log now (lan_message_of bytes)) before.clients.few before.later mentioned.within;
  }

  -- the own clients at a moment, with these mentions
  pub owned_news : {news : List Mention} → HasMentioned new me log news → OwnStands new (record (own_by me log) { mentions = news ++ mentions me log }) now
  owned_news mentioned = record {
    history = history me log;
    since = mentioned.since;
    stand = mentioned.stand;
    settled = (let settled = mentioned.settled in let late = before.later in omega (arith, settled, late));
    last = refl;
    told = refl;
    few = before.clients.few.committed;
  }

-- nothing is mentioned
pub none_mentioned : (locals : LocalsView) (me : Mac) (log : Log) → HasClients locals me log → HasMentioned locals me log []
none_mentioned locals me log has = record { since = has.since; stand = has.stand; settled = has.settled; within = refl }

-- what a mention of a client at a moment passes
abbrev pub limit_by : List Mention → ℕ → Key → News → Option LimitName
limit_by mentions now key news = limit_of_mention mentions (record { moment = now; key = key; news = news })

module _ {P : Type 0} (takes : P → Act → P → Type 0) (same : P → P → Type 0) (over : P → Act → Option LimitName)
    (mentions : List Mention) (now : ℕ) (key : Key) (flags : ℕ) (news : News) (is : Sighted flags ≡ news) where
  refused_leaves : (limit : Option LimitName) (error : NodeErr) (port : P) (acts : List Act) → same port port → HasOwnCause limit error
      → Leaves takes same over (behind [] (option_or limit None)) port acts (Err error) port
  refused_leaves None error port acts as_is cause = stops_among takes same over error port port [] acts (as_is, free_cause error cause)
  refused_leaves (Some limit) error port acts as_is cause = (as_is, cause)

  -- a refused sighting puts nothing, whatever would follow
  pub frame_refused : (error : LocalErr) → HasLimit (limit_by mentions now key (Sighted flags)) error → (port : P) (acts : List Act) → same port port
      → Leaves takes same over (behind [] (option_or (limit_by mentions now key news) None)) port acts (Err (client_error_of error)) port
  frame_refused error cause port acts as_is =
      refused_leaves (limit_by mentions now key news) (client_error_of error) port acts as_is
      (subst (λ n. HasOwnCause (limit_by mentions now key n) (client_error_of error)) is (client_cause (limit_by mentions now key (Sighted flags)) error cause))

  -- a sighting that passes no limit leads to the acts
  pub frame_taken : limit_by mentions now key (Sighted flags) ≡ None → (old new : P) (acts : List Act) (result : Result Unit NodeErr)
      → Puts takes same over old acts result new → Leaves takes same over (behind [] (option_or (limit_by mentions now key news) None)) old acts result new
  frame_taken within old new acts result puts =
      subst (λ limit. Leaves takes same over (behind [] (option_or limit None)) old acts result new) (sym (sym (ap (limit_by mentions now key) is) ∙ within)) puts

-- what a node puts for an input that sights a client of it, by this key: its advertisement, and then
-- the rest
module _ {P : Type 0} (takes : P → Act → P → Type 0) (same : P → P → Type 0) (over : P → Act → Option LimitName)
    (q : Queries) (me : Mac) (log : Log) (now : ℕ) (source : Key) (rest : List Act) {key : Key} (is : key ≡ source) where
  abbrev sighting_limit : Key → Option LimitName
  sighting_limit k = limit_of_mentions (mentions me log) (sighting_of log now k)

  abbrev SightingLeaves : Key → P → Result Unit NodeErr → P → Type 0
  SightingLeaves k old result new = Leaves takes same over (behind [] (sighting_limit k)) old (sighting_acts q me log now k) result new

  -- where the sighting stops, nothing comes behind it
  pub stops_at_sighting : (error : NodeErr) (old new : P) → SightingLeaves key old (Err error) new
      → Leaves takes same over (behind [] (sighting_limit source)) old (sighting_acts q me log now source ++ rest) (Err error) new
  stops_at_sighting error old new left =
      leaves_first takes same over (sighting_limit source) error old new (sighting_acts q me log now source) rest (subst (λ k. SightingLeaves k old (Err error) new) is left)

  -- the rest is put behind the sighting
  pub behind_sighting : (old mid new : P) (result : Result Unit NodeErr) → SightingLeaves key old (Ok tt) mid → Puts takes same over mid rest result new
      → Leaves takes same over (behind [] (sighting_limit source)) old (sighting_acts q me log now source ++ rest) result new
  behind_sighting old mid new result left =
      leaves_then takes same over (sighting_limit source) old mid new (sighting_acts q me log now source) rest result (subst (λ k. SightingLeaves k old (Ok tt) mid) is left)
