-- What happens keeps the names of a state words, and each event printed by names that nodes have.
use Rattle.std.proofs.Common.{◌≤◌, arith, ◌≡◌, inl, inr, ◌⊎◌, ◌+◌, ℕ, zero, suc, Bool, true, false, cond, nat_lt, List, [], ◌∷◌, ◌++◌, map, Option, Some, None, Ok, Err, refl, sym, ap, subst, ◌∙◌, append-nil}
use Rattle.std.specs.Option.{option_map_or}
use Rattle.std.specs.Prelude.{◌-◌, ◌==◌, codes, slice_get, option_and_then}
use Rattle.mesh_base.specs.Names.{NamesGiven, lan_name}
use Rattle.mesh_base.specs.declared.address.Mac.{Mac}
use Rattle.mesh_base.specs.declared.event.Event.{Event}
use Rattle.mesh_base.specs.declared.names.NodeName.{NodeName}
use Rattle.mesh_model.specs.declared.ending.LimitName.TheVariants.{Clock, Lans}
use Rattle.mesh_model.specs.declared.ending.Stop.TheVariants.{Limit}
use Rattle.mesh_model.specs.declared.line_form.Algorithm.{Algorithm}
use Rattle.mesh_model.specs.declared.line_form.Table.{Table}
use Rattle.mesh_model.specs.declared.line_form.Table.TheVariants.{Originators, Neighbors, Locals, Globals, Claims, Gateways, Groups, Addresses, Facts, Pictures}
use Rattle.mesh_model.specs.Clients.Log.{Frame as FrameGiven, Line, LineGiven}
use Rattle.mesh_model.specs.Clients.Lans.{LanOf, bridge}
use Rattle.mesh_model.specs.Net.Inputs.{all_given, given_to}
use Rattle.mesh_model.specs.Net.Lans.{attachment, gateways_at, joins_lan, with_lan}
use Rattle.mesh_model.specs.Net.Limits.{clock_limit, scenario_setup}
use Rattle.mesh_model.specs.Net.Mesh.{NodeLog, NetLan, LanPut, Mesh, Setup, address_at}
use Rattle.mesh_model.specs.Net.Next.{Has}
use Rattle.mesh_model.specs.Net.Runs.{Course, PassedLimit, begin, run_to}
use Rattle.mesh_model.specs.Net.Sending.{Attempt, with_put}
use Rattle.mesh_model.specs.Run.Outcome.{Outcome, Ends, Goes, reached}
use Rattle.mesh_model.specs.Run.Passing.{after_attempt, course_outcome, events_since, gone_on, run_until}
use Rattle.mesh_model.specs.Run.Rules.{setup_of}
use Rattle.mesh_model.specs.Run.Shown.{after_print, fact_table, shown}
use Rattle.mesh_model.specs.Run.State.{Printed, Happened, State, lan_place_of, names_of, node_named, node_names, place_of}
use Rattle.mesh_model.specs.Run.Steps.{Step, at_node, at_place, gateways_step, input_step, lan_frame_step, session_step, show_step, with_node}
use Rattle.std.proofs.lemmas.Bool.{ltb-false}
use Rattle.mesh_model.specs.Packets.Payload.{ClientFrame, payload_spelling}
use Rattle.mesh_model.specs.Routes.Algorithms.{queries_of}
use Rattle.mesh_model.specs.Routes.Queries.{Queries}
use Rattle.mesh_model.specs.Text.Claims.{name_or_dash}
use Rattle.mesh_laws.specs.LineLaws.{IsReached}
use Rattle.mesh_laws.specs.Soundness.{FitsPlaces}
use Rattle.mesh_laws.proofs.Lines.Keeping.{can_pass}
use Rattle.mesh_laws.proofs.Lines.Passing.{begun}
use Rattle.mesh_laws.proofs.Lines.Courses.{going_follows}
use Rattle.mesh_laws.proofs.Schedule.Members.{has_either, has_right, map_has}
use Rattle.mesh_laws.proofs.Schedule.Steps.{Effect, all_effect, lan_joins, no_ticks, tickless}
use Rattle.mesh_laws.specs.Cuts.{IsUnbroken}
use Rattle.mesh_lines.specs.ItemLines.{ArePlainFacts}
use Rattle.mesh_lines.specs.LineWords.{AreNamed, IsWord}
use Rattle.mesh_tie.specs.PlainRuns.{HasReachableMesh}
use Rattle.mesh_tie.specs.Sources.{IsWhole}
use Rattle.mesh_tie.proofs.GainLemmas.{gained_is, put_gains, put_is}
use Rattle.mesh_lines.proofs.LogFits.{LinePlain, LogFits, PutFits, all_fits, given_fits, nodes_joined, put_fits, run_fits, spelled_fits}
use Rattle.mesh_lines.proofs.NodeNames.{AreOfNodes, IsOfName, of_name}
use Rattle.mesh_lines.proofs.PlainTexts.{kept_plain}
use Rattle.mesh_lines.proofs.Words.{word_if}
use Rattle.mesh_lines.proofs.NamesGoOn.{GoOn, HasNames, IsNamed, Passes, effect_passes, follows_passes, names_grow, one_more, same_names}

one_some : {X : Type 0} (x y : X) → Some x ≡ Some y → x ≡ y
one_some x y e = cc

-- where events are of nodes, an outcome is named
abbrev pub NamedOutcome : Outcome → Type 0
NamedOutcome outcome = AreOfNodes (reached outcome).mesh → IsNamed (reached outcome)

-- ---- what happens
happened_named : (all : NamesGiven) (known events : List Event) → ((event : Event) → Has events event → IsOfName all.nodes event × Has known event) → (item : Printed) → Has (map (Happened all) events) item → HasNames all known item
happened_named all known events of item has =
    let p = map_has (Happened all) events item has in
    let q = of p.0 p.1 in
    subst (HasNames all known) (sym p.2) (same_names all all refl, q.0, q.1)

gone_named : (state : State) (now : ℕ) (mesh : Mesh) → Passes state.mesh mesh → IsNamed state → AreOfNodes mesh → IsNamed (gone_on state now mesh)
gone_named state now mesh p n of = record { named = p.named n.named; printed = all; fits = p.fits n.fits }
  where
    since : List Event
    since = events_since state.mesh mesh

    among : (event : Event) → Has since event → Has mesh.events event
    among event has = subst (λ es. Has es event) (sym p.gains.events) (has_right state.mesh.events p.gains.more event (subst (λ es. Has es event) (gained_is state.mesh mesh p.gains) has))

    all : (item : Printed) → Has (state.printed ++ map (Happened (names_of mesh)) since) item → HasNames (names_of mesh) mesh.events item
    all item has = go (has_either state.printed (map (Happened (names_of mesh)) since) item has)
      where
        go : Has state.printed item ⊎ Has (map (Happened (names_of mesh)) since) item → HasNames (names_of mesh) mesh.events item
        go (inl old) = subst (λ es. HasNames (names_of mesh) es item) (sym p.gains.events) (names_grow (names_of state.mesh) (names_of mesh) state.mesh.events p.gains.more item p.names (n.printed item old))
        go (inr new) = happened_named (names_of mesh) mesh.events since (λ event has. (of_name mesh.nodes event (of event (among event has)), among event has)) item new

pub attempt_named : (state : State) (attempt : Attempt) → IsNamed state → ((after : Mesh) → attempt ≡ Ok after → Passes state.mesh after) → NamedOutcome (after_attempt state attempt)
attempt_named state (Ok after) n passes = gone_named state state.clock after (passes after refl) n
attempt_named state (Err limit) n passes = λ of. n

pub at_named : (state : State) (step : ℕ → Step) (o : Option ℕ) → IsNamed state → ((place : ℕ) → NamedOutcome (step place state)) → NamedOutcome (option_map_or (λ place. step place state) o (Goes state))
at_named state step None n all = λ of. n
at_named state step (Some place) n all = all place

pub given_named : (state : State) (place : ℕ) (line : LineGiven) → state.clock ≤ clock_limit → LinePlain line → IsNamed state → NamedOutcome (input_step (setup_of state.algorithm) line place state)
given_named state place line low plain n =
    attempt_named state (given_to (setup_of state.algorithm) place state.clock 0 (Line line) state.mesh) n (λ after is.
    effect_passes (setup_of state.algorithm) state.clock state.mesh after (tickless (setup_of state.algorithm) state.mesh place state.clock 0 (Line line) after refl tt is) (given_fits (queries_of state.algorithm) state.mesh after place state.clock 0 (Line line) low plain is))

pub session_named : (state : State) (line : Mac → LineGiven) (node target : List ℕ) → state.clock ≤ clock_limit → ((mac : Mac) → LinePlain (line mac)) → IsNamed state → NamedOutcome (session_step (setup_of state.algorithm) line node target state)
session_named state line node target low plain n =
    let to : ℕ → ℕ → Step = λ place end s. input_step (setup_of state.algorithm) (line (address_at end s.mesh.nodes)) place s in
    at_named state (λ place. at_node target (to place)) (place_of state node) n (λ place.
    at_named state (to place) (place_of state target) n (λ end. given_named state place (line (address_at end state.mesh.nodes)) low (plain (address_at end state.mesh.nodes)) n))

pub line_named : (state : State) (name : List ℕ) (line : LineGiven) → state.clock ≤ clock_limit → LinePlain line → IsNamed state → NamedOutcome (at_node name (input_step (setup_of state.algorithm) line) state)
line_named state name line low plain n = at_named state (input_step (setup_of state.algorithm) line) (place_of state name) n (λ place. given_named state place line low plain n)

pub full_named : (b : Bool) (stopped going : Outcome) → NamedOutcome stopped → NamedOutcome going → NamedOutcome (cond b stopped going)
full_named true stopped going a b = a
full_named false stopped going a b = b

-- ---- LANs
-- at the LAN of a name, or else at the node of it
place_named : (state : State) (name : List ℕ) (on_lan : ℕ → Step) (line : LineGiven) → state.clock ≤ clock_limit → LinePlain line → IsNamed state → ((lan : ℕ) → NamedOutcome (on_lan lan state))
    → NamedOutcome (at_place name on_lan (input_step (setup_of state.algorithm) line) state)
place_named state name on_lan line low plain n all = go (lan_place_of state name)
  where
    go : (o : Option ℕ) → NamedOutcome (option_map_or (λ lan. on_lan lan state) o (at_node name (input_step (setup_of state.algorithm) line) state))
    go None = line_named state name line low plain n
    go (Some lan) = all lan

put_passes : (setup : Setup) (put : LanPut) (mesh after : Mesh) → PutFits put → with_put setup put mesh ≡ Ok after → Passes mesh after
put_passes setup put mesh after plain e =
    let names : names_of after ≡ names_of mesh = ap names_of (sym (put_is setup put mesh after e)) in
    record { gains = put_gains setup put mesh after e; names = same_names (names_of mesh) (names_of after) names; named = subst AreNamed (sym names); fits = put_fits setup put mesh after plain e }

pub frame_named : (state : State) (name : List ℕ) (frame : ClientFrame) → state.clock ≤ clock_limit → IsWhole frame.dst → IsWhole frame.src → IsUnbroken frame.text → IsNamed state
    → NamedOutcome (at_place name (lan_frame_step (setup_of state.algorithm) (payload_spelling frame)) (input_step (setup_of state.algorithm) (FrameGiven frame.src frame.dst frame.vid frame.text)) state)
frame_named state name frame low dst src plain n = place_named state name (lan_frame_step (setup_of state.algorithm) (payload_spelling frame)) (FrameGiven frame.src frame.dst frame.vid frame.text) low plain n (λ lan.
    let put : LanPut = record { lan = lan; moment = state.clock; bytes = payload_spelling frame; by = None } in
    attempt_named state (with_put (setup_of state.algorithm) put state.mesh) n (λ after is. put_passes (setup_of state.algorithm) put state.mesh after (spelled_fits put frame refl dst src plain) is))

pub gone_from : (state : State) (name : List ℕ) (line : LineGiven) → state.clock ≤ clock_limit → LinePlain line → IsNamed state → NamedOutcome (at_place name (gateways_step (setup_of state.algorithm) line) (input_step (setup_of state.algorithm) line) state)
gone_from state name line low plain n = place_named state name (gateways_step (setup_of state.algorithm) line) line low plain n (λ lan.
    let places = gateways_at lan state.mesh.lans in
    attempt_named state (all_given (setup_of state.algorithm) places state.clock (Line line) state.mesh) n (λ after is.
    effect_passes (setup_of state.algorithm) state.clock state.mesh after (all_effect (setup_of state.algorithm) places state.clock (Line line) state.mesh after refl (λ frames. tt) is) (all_fits (queries_of state.algorithm) places state.mesh after state.clock (Line line) low plain is)))

lans_both : (xs ys : List NetLan) → map (λ (lan : NetLan). lan.name) (xs ++ ys) ≡ map (λ (lan : NetLan). lan.name) xs ++ map (λ (lan : NetLan). lan.name) ys
lans_both [] ys = refl
lans_both (x ∷ xs) ys = ap (λ ns. x.name ∷ ns) (lans_both xs ys)

join_passes : (queries : Mac → Queries) (name gateways : List ℕ) (now : ℕ) (mesh after : Mesh) → IsWord name → now ≤ clock_limit → joins_lan (scenario_setup queries) name gateways now mesh ≡ Ok after → Passes mesh after
join_passes queries name gateways now mesh after word low e = record {
  gains = record { more = effect.adds.more_events; events = effect.adds.events };
  names = record {
    more = [];
    nodes = ap (λ (n : NamesGiven). n.nodes) effect.names ∙ sym (append-nil (node_names mesh.nodes));
    more_lans = name ∷ [];
    lans = lans_are;
  };
  named = λ old. record {
    nodes = λ one has. old.nodes one (subst (λ ns. Has ns one) (ap (λ (n : NamesGiven). n.nodes) effect.names) has);
    lans = λ one has. one_more IsWord (map (λ (lan : NetLan). lan.name) mesh.lans) name old.lans word one (subst (λ ns. Has ns one) lans_are has);
  };
  fits = λ fits. all_fits queries gateways (with_lan lan mesh) after now (attachment mesh gateways) low tt e (record { logs = fits.logs; puts = fits.puts });
}
  where
    lan : NetLan
    lan = record { name = name; gateways = gateways }

    effect : Effect (scenario_setup queries) no_ticks now (with_lan (record { name = name; gateways = gateways }) mesh) after
    effect = lan_joins (scenario_setup queries) name gateways now mesh after e

    lans_are : map (λ (lan : NetLan). lan.name) after.lans ≡ map (λ (lan : NetLan). lan.name) mesh.lans ++ name ∷ []
    lans_are = ap (λ (n : NamesGiven). n.lans) effect.names ∙ lans_both mesh.lans (lan ∷ [])

pub lan_named : (state : State) (name places : List ℕ) (full : Bool) → IsWord name → state.clock ≤ clock_limit → IsNamed state
    → NamedOutcome (cond full (Ends state (Limit Lans)) (after_attempt state (joins_lan (setup_of state.algorithm) name places state.clock state.mesh)))
lan_named state name places full word low n = full_named full (Ends state (Limit Lans)) (after_attempt state (joins_lan (setup_of state.algorithm) name places state.clock state.mesh)) (λ of. n)
    (attempt_named state (joins_lan (setup_of state.algorithm) name places state.clock state.mesh) n (λ after is. join_passes (queries_of state.algorithm) name places state.clock state.mesh after word low is))

-- ---- nodes
names_both : (xs ys : List NodeLog) → node_names (xs ++ ys) ≡ node_names xs ++ node_names ys
names_both [] ys = refl
names_both (x ∷ xs) ys = ap (λ ns. record { mac = x.mac; name = x.name } ∷ ns) (names_both xs ys)

pub with_node_named : (state : State) (node : NodeLog) → IsWord node.name → LogFits node.log → IsNamed state → IsNamed (with_node state node)
with_node_named state node word log n = record {
  fits = record { logs = nodes_joined state.mesh.nodes (node ∷ []) n.fits.logs (log, tt); puts = n.fits.puts };
  named = record {
    nodes = λ one has. one_more (λ (x : NodeName). IsWord x.name) (node_names state.mesh.nodes) own n.named.nodes word one (subst (λ ns. Has ns one) both has);
    lans = n.named.lans;
  };
  printed = λ item has. subst (λ es. HasNames (names_of (with_node state node).mesh) es item) (append-nil state.mesh.events)
      (names_grow (names_of state.mesh) (names_of (with_node state node).mesh) state.mesh.events [] item further (n.printed item has));
}
  where
    own : NodeName
    own = record { mac = node.mac; name = node.name }

    both : node_names (state.mesh.nodes ++ node ∷ []) ≡ node_names state.mesh.nodes ++ own ∷ []
    both = names_both state.mesh.nodes (node ∷ [])

    further : GoOn (names_of state.mesh) (names_of (with_node state node).mesh)
    further = record { more = own ∷ []; nodes = both; more_lans = []; lans = sym (append-nil (map (λ (lan : NetLan). lan.name) state.mesh.lans)) }

-- ---- time
course_named : (state : State) (t : ℕ) (o : Course) (stop : Option PassedLimit) → Passes state.mesh o.mesh → IsNamed state → NamedOutcome (course_outcome state t o.mesh stop)
course_named state t o None p n = gone_named state t o.mesh p n
course_named state t o (Some passed) p n = gone_named state passed.moment o.mesh p n

fits_places : (algorithm : Algorithm) → FitsPlaces (setup_of algorithm)
fits_places algorithm = omega arith

pub time_named : (state : State) (time : ℕ) (past : Bool) → nat_lt clock_limit (state.clock + time) ≡ past → IsReached state → IsNamed state → NamedOutcome (cond past (Ends state (Limit Clock)) (run_until (setup_of state.algorithm) (state.clock + time) state))
time_named state time true test r n = λ of. n
time_named state time false test r n =
    let t = state.clock + time in
    let setup = setup_of state.algorithm in
    let low = ltb-false clock_limit t test in
    course_named state t (run_to setup t state.mesh) (run_to setup t state.mesh).stop
    (follows_passes state.mesh (run_to setup t state.mesh).mesh (going_follows setup t (begin state.mesh))
    (run_fits (queries_of state.algorithm) t state.mesh (fits_places state.algorithm) low (begun setup t state (can_pass setup time state (fits_places state.algorithm) r low)))) n

pub print_named : (state : State) (item : Printed) → HasNames (names_of state.mesh) state.mesh.events item → IsNamed state → IsNamed (after_print state item)
print_named state item own n = record { named = n.named; printed = one_more (HasNames (names_of state.mesh) state.mesh.events) state.printed item n.printed own; fits = n.fits }

-- ---- what is shown
-- what is shown of a node has its name, and that of its LAN, and its facts have no newline
abbrev ShowsName : State → NodeLog → Printed → Type 0
ShowsName state node item = AreNamed (names_of state.mesh) → IsWord node.name → ArePlainFacts (fact_table state.algorithm state.clock node).rows → HasNames (names_of state.mesh) state.mesh.events item

lan_or_dash : (names : NamesGiven) → AreNamed names → (o : Option LanOf) → IsWord (name_or_dash (option_and_then (λ (lan : LanOf). lan_name names.lans lan.number) o))
lan_or_dash names all None = word_if (codes "-") refl
lan_or_dash names all (Some lan) = numbered (lan.number == 0)
  where
    at : (lans : List (List ℕ)) (place : ℕ) → ((one : List ℕ) → Has lans one → IsWord one) → IsWord (name_or_dash (slice_get lans place))
    at [] place words = word_if (codes "-") refl
    at (first ∷ rest) zero words = words first (inl refl)
    at (first ∷ rest) (suc place) words = at rest place (λ one has. words one (inr has))

    numbered : (b : Bool) → IsWord (name_or_dash (cond b None (slice_get names.lans (lan.number - 1))))
    numbered true = word_if (codes "-") refl
    numbered false = at names.lans (lan.number - 1) all.lans

shows_name : (table : Table) (state : State) (node : NodeLog) → ShowsName state node (shown table state node)
shows_name Originators state node all word facts = word
shows_name Neighbors state node all word facts = word
shows_name Locals state node all word facts = word
shows_name Globals state node all word facts = word
shows_name Claims state node all word facts = (word, lan_or_dash (names_of state.mesh) all (bridge node.log).lan)
shows_name Gateways state node all word facts = word
shows_name Groups state node all word facts = word
shows_name Addresses state node all word facts = word
shows_name Facts state node all word facts = (word, facts)
shows_name Pictures state node all word facts = word

got_named : (nodes : List NodeLog) (place : ℕ) (node : NodeLog) → ((one : NodeName) → Has (node_names nodes) one → IsWord one.name) → slice_get nodes place ≡ Some node → IsWord node.name
got_named [] place node all got = cc
got_named (first ∷ rest) zero node all got = subst (λ (x : NodeLog). IsWord x.name) (one_some first node got) (all (record { mac = first.mac; name = first.name }) (inl refl))
got_named (first ∷ rest) (suc place) node all got = got_named rest place node (λ one has. all one (inr has)) got

at_place_named : (state : State) (table : Table) (o : Option ℕ) (node : NodeLog) → HasReachableMesh state → IsNamed state → option_and_then (slice_get state.mesh.nodes) o ≡ Some node → HasNames (names_of state.mesh) state.mesh.events (shown table state node)
at_place_named state table None node r n is = cc
at_place_named state table (Some place) node r n is =
    shows_name table state node n.named (got_named state.mesh.nodes place node n.named.nodes is) (kept_plain state.algorithm state.mesh r n.fits state.clock place node is)

pub show_named : (state : State) (name : List ℕ) (table : Table) → HasReachableMesh state → IsNamed state → NamedOutcome (show_step name (shown table) state)
show_named state name table r n = go (node_named state name) (λ node is. at_place_named state table (place_of state name) node r n is)
  where
    go : (o : Option NodeLog) → ((node : NodeLog) → o ≡ Some node → HasNames (names_of state.mesh) state.mesh.events (shown table state node)) → NamedOutcome (option_map_or (λ node. Goes (after_print state (shown table state node))) o (Goes state))
    go None at = λ of. n
    go (Some node) at = λ of. print_named state (shown table state node) (at node refl) n
