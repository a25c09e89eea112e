-- How a node cuts by its log, and how its count of cuts goes on.
use Rattle.std.proofs.Common.{◌≡◌, ◌+◌, ℕ, Bool, true, false, cond, List, [], ◌∷◌, filter, length, Option, Some, None, option_map, Result, Ok, Err, is_err, refl, sym, ap, subst, ◌∙◌, arith}
use Rattle.std.specs.Prelude.{◌==◌, if◌then◌else◌}
use Rattle.std.specs.Option.{option_or}
use Rattle.std.specs.Result.{OnOk}
use Rattle.std.proofs.lemmas.Bool.{eqb-true, true≢false}
use Rattle.mesh_base.specs.declared.address.Mac.{Mac}
use Rattle.mesh_model.specs.declared.act.Act.{Act}
use Rattle.mesh_model.specs.declared.act.Act.TheVariants.{Link, Lan, Print}
use Rattle.mesh_model.specs.declared.ending.LimitName.{LimitName}
use Rattle.mesh_model.specs.Acts.BridgeRows.{claim_acts}
use Rattle.mesh_model.specs.Acts.Choosing.{acts_of, claimed_first, claiming_acts, cuts_by, cutter_by, whole_acts}
use Rattle.mesh_model.specs.Acts.Cuts.{Cutter, cut_acts, cuts_among, is_cut}
use Rattle.mesh_model.specs.Acts.NodeLimits.{NodeLimit, acts_before_sighting, client_limit, cut_limit, node_limit}
use Rattle.mesh_model.specs.Bridges.Verdicts.{verdict_from_lan}
use Rattle.mesh_model.specs.Clients.Lans.{LanOf, bridge}
use Rattle.mesh_model.specs.Clients.Limits.{passed_limit}
use Rattle.mesh_model.specs.Clients.Log.{Given, Tick, LinkFrame, LanFrame, Line, Log, settings}
use Rattle.mesh_model.specs.Clients.Mentions.{key_of}
use Rattle.mesh_model.specs.Packets.LanFrames.{client_frame_in, lan_message_of}
use Rattle.mesh_model.specs.Packets.Payload.{ClientFrame}
use Rattle.mesh_model.specs.Routes.Queries.{Queries}
use Rattle.mesh_model.specs.Routes.RouteLog.{RouteLog}
use Rattle.mesh_laws.proofs.SettingLemmas.{settings_known}
use Rattle.mesh_node.specs.declared.node.Node.{Node}
use Rattle.mesh_node.specs.NodeStands.{KeepsLog, NodeStands}
use Rattle.node_cuts.specs.Collected.{AreUncut, Collected, Collects, cutter_of}
use Rattle.node_cuts.specs.declared.cutter.Cutter.{Cutter as CutterCode}
use Rattle.node_ground.specs.declared.failure.NodeErr.{NodeErr}
use Rattle.node_ground.specs.Puts.{Leaves}
use Rattle.node_ground.specs.OwnStands.{with_input}

-- ---- how a node cuts
most_is : {A : Type 0} (stands : A → Mac → RouteLog → Type 0) (queries : Mac → Queries) (node : Node A) (me : Mac) (log : Log) → KeepsLog stands queries node me log
    → node.kept.services.settings.longest_whole ≡ (settings log).longest_whole
most_is stands queries node me log is = ap (λ s. s.longest_whole) (is.kept.services.settings ∙ settings_known (queries me) me log)

-- how one cuts with this address, length and count
abbrev seen_cutter : Mac → ℕ → ℕ → Cutter
seen_cutter me most cuts = record { me = me; most = most; cuts = cuts }

-- a node cuts as its log says
pub cutter_is : {A : Type 0} (stands : A → Mac → RouteLog → Type 0) (queries : Mac → Queries) (node : Node A) (me : Mac) (log : Log) → NodeStands stands queries node me log
    → seen_cutter node.me node.kept.services.settings.longest_whole node.cuts ≡ cutter_by (queries me) me log
cutter_is stands queries node me log is =
    let most = most_is stands queries node me log is.keeps in
    λ i. seen_cutter (is.keeps.mac i) (most i) (is.cuts i)

-- ---- counts
-- where all packets go whole, none is cut
none_cut : (acts : List Act) → filter (is_cut 0) acts ≡ []
none_cut [] = refl
none_cut (Link to reason bytes ∷ acts) = none_cut acts
none_cut (Lan bytes ∷ acts) = none_cut acts
none_cut (Print event ∷ acts) = none_cut acts

counted_as : (most : ℕ) (acts : List Act) → cuts_among most acts ≡ (if most == 0 then 0 else cuts_among most acts)
counted_as most acts = go (most == 0) refl
  where
    go : (none : Bool) → (most == 0) ≡ none → cuts_among most acts ≡ cond none 0 (cuts_among most acts)
    go true is = ap length (ap (λ n. filter (is_cut n) acts) (eqb-true most 0 is) ∙ none_cut acts)
    go false is = refl

-- the count goes on with what is cut of an input
pub count_is : (q : Queries) (me : Mac) (log : Log) (now : ℕ) (given : Given) (cutter : Cutter) (cuts : ℕ) → cutter ≡ cutter_by q me log
    → cuts ≡ cutter.cuts + cuts_among cutter.most (whole_acts q me log now given) → cuts ≡ cuts_by q me (with_input q me log now given)
count_is q me log now given cutter cuts same counted =
    counted
    ∙ ap (λ (c : Cutter). c.cuts + cuts_among c.most (whole_acts q me log now given)) same
    ∙ ap (λ n. cuts_by q me log + n) (counted_as (settings log).longest_whole (whole_acts q me log now given))

-- where all packets go whole, the count stays
pub none_counted : (cutter : Cutter) (acts : List Act) → cutter.most ≡ 0 → cutter.cuts ≡ cutter.cuts + cuts_among cutter.most acts
none_counted cutter acts whole =
    let none : cuts_among cutter.most acts ≡ 0 = ap length (ap (λ n. filter (is_cut n) acts) whole ∙ none_cut acts) in
    omega (arith, none)

-- a node stands for its log with one more input, where that is done
pub stands_on : {A : Type 0} (stands : A → Mac → RouteLog → Type 0) (queries : Mac → Queries) (node : Node A) (cuts : ℕ) (dead : Bool) (answer : Result Unit NodeErr) (me : Mac) (log : Log)
    → dead ≡ is_err answer → OnOk answer (KeepsLog stands queries node me log) → OnOk answer (cuts ≡ cuts_by (queries me) me log)
    → OnOk answer (NodeStands stands queries (record node { cuts = cuts; dead = dead }) me log)
stands_on stands queries node cuts dead (Ok done) me log is keeps count = record {
  keeps = record {
    mac = keeps.mac;
    kept = keeps.kept;
    clients = keeps.clients;
    bridge = keeps.bridge;
    rising = keeps.rising;
    alive = is;
  };
  cuts = count;
}
stands_on stands queries node cuts dead (Err error) me log is keeps count = tt

-- ---- what comes before a sighting
uncut_claim : (most : ℕ) (me : Mac) (log : Log) (now : ℕ) (frame : ClientFrame) (lan : Option LanOf) → filter (is_cut most) (claiming_acts me log now frame lan) ≡ []
uncut_claim most me log now frame None = refl
uncut_claim most me log now frame (Some lan) = go (verdict_from_lan me (bridge log).claims now (key_of frame.src frame.vid)).claim
  where
    go : (claim : Bool) → filter (is_cut most) (claim_acts (record { me = me; now = now }) lan (key_of frame.src frame.vid) claim) ≡ []
    go true = refl
    go false = refl

uncut_first : (most : ℕ) (me : Mac) (log : Log) (now : ℕ) (frame : Option ClientFrame) → filter (is_cut most) (claimed_first me log now frame) ≡ []
uncut_first most me log now None = refl
uncut_first most me log now (Some frame) = uncut_claim most me log now frame (bridge log).lan

uncut_acts : (most : ℕ) (me : Mac) (log : Log) (now : ℕ) (given : Given) → filter (is_cut most) (acts_before_sighting me log now given) ≡ []
uncut_acts most me log now (Tick index) = refl
uncut_acts most me log now (LinkFrame number from throughput bytes) = refl
uncut_acts most me log now (LanFrame bytes) = uncut_first most me log now (client_frame_in (lan_message_of bytes))
uncut_acts most me log now (Line line) = refl

-- what comes before a limit of clients isn't cut
pub uncut_before : (most : ℕ) (me : Mac) (log : Log) (now : ℕ) (given : Given) → AreUncut most (client_limit me log now given)
uncut_before most me log now given = go (passed_limit me log now given)
  where
    go : (limit : Option LimitName) → AreUncut most (option_map (λ limit. record { acts = acts_before_sighting me log now given; limit = limit }) limit)
    go None = tt
    go (Some limit) = uncut_acts most me log now given

-- where all packets go whole, the acts are those of the rows
none_too_long : (me : Mac) (cuts : ℕ) (acts : List Act) → cut_acts (seen_cutter me 0 cuts) acts ≡ acts
none_too_long me cuts [] = refl
none_too_long me cuts (Link to reason bytes ∷ acts) = ap (λ rest. Link to reason bytes ∷ rest) (none_too_long me cuts acts)
none_too_long me cuts (Lan bytes ∷ acts) = ap (λ rest. Lan bytes ∷ rest) (none_too_long me cuts acts)
none_too_long me cuts (Print event ∷ acts) = ap (λ rest. Print event ∷ rest) (none_too_long me cuts acts)

alone : (own : Option NodeLimit) → option_or own None ≡ own
alone None = refl
alone (Some limit) = refl

-- ---- what is handed over
module _ {P : Type 0} (takes : P → Act → P → Type 0) (same : P → P → Type 0) (over : P → Act → Option LimitName) where
  -- what a port takes once the list of whole acts is handed over to it
  pub handed : (q : Queries) (me : Mac) (log : Log) (now : ℕ) (given : Given) (cutter : CutterCode) (answer : Result Unit NodeErr) (list : List Act) (old new : P) (result : Result Unit NodeErr)
      → cutter_of cutter ≡ cutter_by q me log
      → Collected (client_limit me log now given) (whole_acts q me log now given) answer list
      → ((own : Option NodeLimit) (whole : List Act) → AreUncut cutter.most own → Collected own whole answer list
      → Leaves takes same over (option_or own (cut_limit (cutter_of cutter) whole)) old (cut_acts (cutter_of cutter) whole) result new)
      → Leaves takes same over (node_limit q me log now given) old (acts_of q me log now given) result new
  handed q me log now given cutter answer list old new result is collected puts =
      let whole = whole_acts q me log now given in
      subst (λ (c : Cutter). Leaves takes same over (option_or (client_limit me log now given) (cut_limit c whole)) old (cut_acts c whole) result new) is
      (puts (client_limit me log now given) whole (uncut_before cutter.most me log now given) collected)

  -- what a port takes where all packets go whole
  pub left_whole : (q : Queries) (me : Mac) (log : Log) (now : ℕ) (given : Given) (old new : P) (result : Result Unit NodeErr) → (cutter_by q me log).most ≡ 0
      → Leaves takes same over (client_limit me log now given) old (whole_acts q me log now given) result new
      → Leaves takes same over (node_limit q me log now given) old (acts_of q me log now given) result new
  left_whole q me log now given old new result none left =
      let own = client_limit me log now given in
      let whole = whole_acts q me log now given in
      let cuts = cuts_by q me log in
      subst (λ most. Leaves takes same over (option_or own (cut_limit (seen_cutter me most cuts) whole)) old (cut_acts (seen_cutter me most cuts) whole) result new) (sym none)
      (subst (λ acts. Leaves takes same over (option_or own None) old acts result new) (sym (none_too_long me cuts whole))
      (subst (λ limit. Leaves takes same over limit old whole result new) (sym (alone own)) left))

-- what holds where a call succeeds, holds where it didn't fail
pub where_done : (result : Result Unit NodeErr) (holds : Type 0) → is_err result ≡ false → OnOk result holds → holds
where_done (Ok done) holds is what = what
where_done (Err error) holds is what = absurd (true≢false is)

-- what holds anyhow, holds where a call succeeds
pub on_any : (result : Result Unit NodeErr) (holds : Type 0) → holds → OnOk result holds
on_any (Ok done) holds what = what
on_any (Err error) holds what = tt

-- what a row put into a list that was empty
pub collected_from : (own : Option NodeLimit) (whole before list : List Act) (answer : Result Unit NodeErr) → before ≡ [] → Leaves Collects (λ old new. old ≡ new) (λ _ _. None) own before whole answer list
    → Collected own whole answer list
collected_from own whole before list answer none left = subst (λ (b : List Act). Leaves Collects (λ old new. old ≡ new) (λ _ _. None) own b whole answer list) none left
