-- What a frame of a LAN rests on.
use Rattle.std.proofs.Common.{◌≡◌, ◌∙◌, ◌++◌, ℕ, Bool, true, false, not, [], List, refl, ap, subst, sym, Option, Some, None, Result, Ok, Err}
use Rattle.std.specs.Prelude.{if◌then◌else◌}
use Rattle.std.proofs.lemmas.Bool.{false≢true, true≢false}
use Rattle.mesh_base.specs.declared.address.Mac.{Mac}
use Rattle.mesh_base.specs.declared.client.Key.{Key}
use Rattle.mesh_model.specs.declared.act.Act.{Act}
use Rattle.mesh_model.specs.declared.claim.Verdict.{Verdict}
use Rattle.mesh_model.specs.declared.ending.LimitName.{LimitName}
use Rattle.mesh_model.specs.Acts.BridgeRows.{is_beside}
use Rattle.mesh_model.specs.Acts.Choosing.{claimed_first, from_lan_acts, on_from_lan, sighting_acts, whole_acts}
use Rattle.mesh_model.specs.Acts.FrameRows.{frame_acts}
use Rattle.mesh_model.specs.Acts.NodeLimits.{client_limit}
use Rattle.mesh_model.specs.Bridges.Verdicts.{verdict_from_lan}
use Rattle.mesh_model.specs.Clients.Lans.{LanOf, bridge}
use Rattle.mesh_model.specs.Clients.Limits.{limit_of_mentions}
use Rattle.mesh_model.specs.Clients.Log.{LanFrame, Log}
use Rattle.mesh_model.specs.Clients.Mentions.{Mention, mentions, passed_mentions, sighted_after}
use Rattle.mesh_model.specs.Knowledge.Addressee.{Way}
use Rattle.mesh_model.specs.Knowledge.Known.{Knowledge}
use Rattle.mesh_model.specs.Knowledge.Steps.{after_bridged, after_passed, after_sighting, knowledge, leads_to_gateway, next_knowledge, stays_on_lan}
use Rattle.mesh_model.specs.Packets.LanFrames.{Carries, LanMessage, lan_message_of}
use Rattle.mesh_model.specs.Packets.Payload.{ClientFrame}
use Rattle.mesh_model.specs.Routes.Queries.{Queries}
use Rattle.mesh_model.specs.Routes.RouteLog.{RouteLog}
use Rattle.node_clients.specs.FrameRows.{Before, HasMentioned, key_from, key_to, sighting_of}
use Rattle.node_clients.specs.LanRows.{mentions_behind, message_acts, message_knowledge, message_limit, passed_of}
use Rattle.node_ground.specs.declared.failure.NodeErr.{NodeErr}
use Rattle.node_ground.specs.declared.knowledge.NodeKnowledge.{NodeKnowledge}
use Rattle.node_ground.specs.KnowledgeStands.{KnowledgeStands}
use Rattle.node_ground.specs.OwnStands.{HasClients, with_input}
use Rattle.node_ground.specs.Puts.{Leaves, Puts, StopsAt, TakesAll, behind}
use Rattle.node_ground.proofs.LeavesLemmas.{leaves_among, leaves_behind}
use Rattle.node_clients.proofs.SightLemmas.{behind_sighting, has_passed, stops_at_sighting}
use Rattle.tt_local.specs.Locals.{LocalsView}

-- a way leads to a gateway where its originator is one
pub leads_by_way : (lan : Option LanOf) (way : Way) → is_beside lan way.orig ≡ leads_to_gateway lan (Some way)
leads_by_way None way = refl
leads_by_way (Some lan) way = refl

-- no way leads to none
pub leads_nowhere : (lan : Option LanOf) → leads_to_gateway lan None ≡ false
leads_nowhere None = refl
leads_nowhere (Some lan) = refl

-- a client frame of a LAN goes on, unless it stays there
module _ (q : Queries) (me : Mac) (log : Log) (now : ℕ) (known : Knowledge) (after : List Mention) (frame : ClientFrame)
    {stays : Bool} (is : stays ≡ stays_on_lan q after (bridge log).lan now (key_to frame) known) where
  pub on_its_way : {P : Type 0} (takes : P → Act → P → Type 0) (same : P → P → Type 0) (over : P → Act → Option LimitName) (old new : P) (result : Result Unit NodeErr)
      → Puts takes same over old (if stays then [] else frame_acts q known after (record { me = me; now = now }) frame) result new
      → Puts takes same over old (on_from_lan q me log now known after frame) result new
  on_its_way takes same over old new result puts =
      subst (λ (b : Bool). Puts takes same over old (if b then [] else frame_acts q known after (record { me = me; now = now }) frame) result new) is puts

  pub known_on_its_way : {A : Type 0} {stands : A → Mac → RouteLog → Type 0} {kept : NodeKnowledge A} → KnowledgeStands stands kept me (after_bridged q now stays (key_to frame) known)
      → KnowledgeStands stands kept me (after_bridged q now (stays_on_lan q after (bridge log).lan now (key_to frame) known) (key_to frame) known)
  known_on_its_way {A} {stands} {kept} stand = subst (λ (b : Bool). KnowledgeStands stands kept me (after_bridged q now b (key_to frame) known)) is stand

-- a client frame is passed of a LAN, or not, by this verdict on it
module _ (me : Mac) (log : Log) (now : ℕ) (frame : ClientFrame) where
  passed_by : {verdict : Verdict} (pass : Bool) → verdict ≡ verdict_from_lan me (bridge log).claims now (key_from frame) → pass ≡ verdict.pass
      → (if pass then Some frame else None) ≡ passed_of me log now (Carries frame)
  passed_by pass is by = ap (λ (b : Bool). if b then Some frame else None) (by ∙ ap (λ (v : Verdict). v.pass) is)

  pub held_back : {verdict : Verdict} → verdict ≡ verdict_from_lan me (bridge log).claims now (key_from frame) → not verdict.pass ≡ true → None ≡ passed_of me log now (Carries frame)
  held_back {verdict} is holds = passed_by false is (sym (not_passed verdict.pass holds))
    where
      not_passed : (pass : Bool) → not pass ≡ true → pass ≡ false
      not_passed true is = absurd (false≢true is)
      not_passed false is = refl

  pub let_pass : {verdict : Verdict} → verdict ≡ verdict_from_lan me (bridge log).claims now (key_from frame) → not verdict.pass ≡ false → Some frame ≡ passed_of me log now (Carries frame)
  let_pass {verdict} is passes = passed_by true is (sym (is_passed verdict.pass passes))
    where
      is_passed : (pass : Bool) → not pass ≡ false → pass ≡ true
      is_passed true is = refl
      is_passed false is = absurd (true≢false is)

  -- what it mentions, by what is passed of it
  pub mentioned_by : {passed : Option ClientFrame} → passed ≡ passed_of me log now (Carries frame) → {locals : LocalsView} → HasMentioned locals me log (passed_mentions (sighted_after log) now passed)
      → HasMentioned locals me log (passed_mentions (sighted_after log) now (passed_of me log now (Carries frame)))
  mentioned_by is {locals} mentioned = subst (λ (passed : Option ClientFrame). HasMentioned locals me log (passed_mentions (sighted_after log) now passed)) is mentioned

-- what is put for a client frame on a LAN, and known after it
module _ (me : Mac) (log : Log) (now : ℕ) (frame : ClientFrame) (q : Queries) where
  -- by what is passed of it
  module _ {passed : Option ClientFrame} (is : passed ≡ passed_of me log now (Carries frame)) where
    pub known_after : {A : Type 0} {stands : A → Mac → RouteLog → Type 0} {kept : NodeKnowledge A}
        → KnowledgeStands stands kept me (after_passed q me log (knowledge q me log) now (mentions_behind me log now passed) passed)
        → KnowledgeStands stands kept me (message_knowledge q me log now (Carries frame))
    known_after {A} {stands} {kept} stand =
        subst (λ (passed : Option ClientFrame). KnowledgeStands stands kept me (after_passed q me log (knowledge q me log) now (mentions_behind me log now passed) passed)) is stand

    -- what is passed comes behind the claim of its source
    pub behind_claim : {P : Type 0} (takes : P → Act → P → Type 0) (same : P → P → Type 0) (over : P → Act → Option LimitName) (old mid new : P) (result : Result Unit NodeErr)
        → TakesAll takes over old (claimed_first me log now (Some frame)) mid
        → Leaves takes same over (behind [] (limit_of_mentions (mentions me log) (passed_mentions (sighted_after log) now passed))) mid (from_lan_acts q me log now (mentions_behind me log now passed) passed) result new
        → Leaves takes same over (message_limit me log now (Carries frame)) old (message_acts q me log now (Carries frame)) result new
    behind_claim takes same over old mid new result claimed left =
        let first = claimed_first me log now (Some frame) in
        subst (λ (passed : Option ClientFrame). Leaves takes same over (behind first (limit_of_mentions (mentions me log) (passed_mentions (sighted_after log) now passed))) old
        (first ++ from_lan_acts q me log now (mentions_behind me log now passed) passed) result new) is
        (leaves_behind takes same over (limit_of_mentions (mentions me log) (passed_mentions (sighted_after log) now passed)) old mid new first
        (from_lan_acts q me log now (mentions_behind me log now passed) passed) result claimed left)

  -- where the frame is passed: its sighting, by this key, and then its way on
  module _ (goes : Some frame ≡ passed_of me log now (Carries frame))
      {P : Type 0} (takes : P → Act → P → Type 0) (same : P → P → Type 0) (over : P → Act → Option LimitName) {key : Key} (is : key ≡ key_from frame) (old claimed : P) where
    abbrev way_on : List Act
    way_on = on_from_lan q me log now (after_sighting q me log now (key_from frame) (knowledge q me log)) (mentions_behind me log now (Some frame)) frame

    abbrev SightingLeaves : Result Unit NodeErr → P → Type 0
    SightingLeaves result new = Leaves takes same over (behind [] (limit_of_mentions (mentions me log) (sighting_of log now key))) claimed (sighting_acts q me log now key) result new

    pub passed_stops : (new : P) (error : NodeErr) → TakesAll takes over old (claimed_first me log now (Some frame)) claimed → SightingLeaves (Err error) new
        → Leaves takes same over (message_limit me log now (Carries frame)) old (message_acts q me log now (Carries frame)) (Err error) new
    passed_stops new error all left =
        behind_claim goes takes same over old claimed new (Err error) all (stops_at_sighting takes same over q me log now (key_from frame) way_on is error claimed new left)

    pub passed_puts : (mid new : P) (result : Result Unit NodeErr) → TakesAll takes over old (claimed_first me log now (Some frame)) claimed → SightingLeaves (Ok tt) mid → Puts takes same over mid way_on result new
        → Leaves takes same over (message_limit me log now (Carries frame)) old (message_acts q me log now (Carries frame)) result new
    passed_puts mid new result all left puts =
        behind_claim goes takes same over old claimed new result all (behind_sighting takes same over q me log now (key_from frame) way_on is claimed mid new result left puts)

-- where the claim of its source stops, nothing more is put
pub claim_stops : {P : Type 0} (takes : P → Act → P → Type 0) (same : P → P → Type 0) (over : P → Act → Option LimitName) (q : Queries) (me : Mac) (log : Log) (now : ℕ) (frame : ClientFrame) (error : NodeErr) (old new : P)
    → StopsAt takes same over error old (claimed_first me log now (Some frame)) new
    → Leaves takes same over (message_limit me log now (Carries frame)) old (message_acts q me log now (Carries frame)) (Err error) new
claim_stops takes same over q me log now frame error old new stop =
    let passed = passed_of me log now (Carries frame) in
    leaves_among takes same over (limit_of_mentions (mentions me log) (passed_mentions (sighted_after log) now passed)) error old new (claimed_first me log now (Some frame))
    (from_lan_acts q me log now (mentions_behind me log now passed) passed) stop

-- what the rows say of a frame on a LAN, by the message that its bytes are
module _ {A : Type 0} {stands : A → Mac → RouteLog → Type 0} {queries : Mac → Queries} {kept : NodeKnowledge A} {old : LocalsView} {me : Mac} {log : Log} {now : ℕ}
    (before : Before stands queries kept old me log now) (bytes : List ℕ) {message : LanMessage} (is : message ≡ lan_message_of bytes) where
  -- what it puts
  pub frame_leaves : {P : Type 0} (takes : P → Act → P → Type 0) (same : P → P → Type 0) (over : P → Act → Option LimitName) (port new : P) (result : Result Unit NodeErr)
      → Leaves takes same over (message_limit me log now message) port (message_acts (queries me) me log now message) result new
      → Leaves takes same over (client_limit me log now (LanFrame bytes)) port (whole_acts (queries me) me log now (LanFrame bytes)) result new
  frame_leaves takes same over port new result left =
      subst (λ (m : LanMessage). Leaves takes same over (message_limit me log now m) port (message_acts (queries me) me log now m) result new) is left

  -- what is known after it
  pub frame_known : {new : NodeKnowledge A} → KnowledgeStands stands new me (message_knowledge (queries me) me log now message)
      → KnowledgeStands stands new me (next_knowledge (queries me) me log (knowledge (queries me) me log) now (LanFrame bytes))
  frame_known {new} stand = subst (λ (m : LanMessage). KnowledgeStands stands new me (message_knowledge (queries me) me log now m)) is stand

  -- the clients after it
  pub frame_mentioned : {new : LocalsView} → HasMentioned new me log (passed_mentions (sighted_after log) now (passed_of me log now message))
      → HasClients new me (with_input (queries me) me log now (LanFrame bytes))
  frame_mentioned {new} mentioned =
      has_passed before bytes (subst (λ (m : LanMessage). HasMentioned new me log (passed_mentions (sighted_after log) now (passed_of me log now m))) is mentioned)
