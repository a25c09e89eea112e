-- Each line leads to a mesh that steps reach, and so does every plain run.
use Rattle.std.proofs.Common.{map, ◌≡◌, ◌⊎◌, inl, inr, ◌≤◌, ◌+◌, ◌-◌, ◌||◌, ℕ, zero, suc, Bool, true, false, cond, nat_lt, nat_le, List, [], ◌∷◌, length, slice_get, Option, Some, None, is_some, Ok, Err, refl, sym, ap, subst, ◌∙◌, arith}
use Rattle.std.specs.List.{list_any}
use Rattle.std.specs.Option.{option_map_or, option_or}
use Rattle.std.proofs.lemmas.Bool.{ltb-false, true≢false}
use Rattle.mesh_base.specs.declared.address.Mac.{Mac}
use Rattle.mesh_model.specs.declared.ending.LimitName.TheVariants.{Clock, Input, Lans, Line, Links, Nodes}
use Rattle.mesh_model.specs.declared.ending.Refusal.{Refusal}
use Rattle.mesh_model.specs.declared.ending.Refusal.TheVariants.{AddressTaken, AlgoAfterNode, NameTaken}
use Rattle.mesh_model.specs.declared.ending.Stop.{Stop}
use Rattle.mesh_model.specs.declared.ending.Stop.TheVariants.{Limit, Refused}
use Rattle.mesh_model.specs.declared.frame_choice.FrameChoice.{FrameChoice}
use Rattle.mesh_model.specs.declared.line_form.Algorithm.{Algorithm}
use Rattle.mesh_model.specs.declared.line_form.Command.{Command}
use Rattle.mesh_model.specs.declared.line_form.Command.TheVariants.{Nothing, Algo, Node, Link, Lan, Frame, Gone, Join, Leave, Arp, Dhcp, Wifi, GwOff, GwServer, GwClient, Mcast, Dat, Frag, Vis, Alfred, Put, Get, Ping, Trace, Reboot, Run as RunFor, Deliver, Show, Decode}
use Rattle.mesh_model.specs.Clients.Log.{Line, LineGiven, Attach, Sets}
use Rattle.mesh_model.specs.Clients.Settings.{NoPart, Serves, Chooses}
use Rattle.mesh_model.specs.Clients.Settings.{ArpTable as ArpTableSet, FactStore as FactStoreSet, Gateway as GatewaySet, LongestWhole as LongestWholeSet, Multicast as MulticastSet, Pictures as PicturesSet, Wifi as WifiSet}
use Rattle.mesh_model.specs.Clients.Log.{Frame as FrameGiven, Gone as GoneGiven, Join as JoinGiven, Leave as LeaveGiven, Arp as ArpGiven, Dhcp as DhcpGiven, Put as PutGiven, Get as GetGiven, Ping as PingGiven, Trace as TraceGiven, Reboot as RebootGiven}
use Rattle.mesh_model.specs.Net.Inputs.{all_given, given_to}
use Rattle.mesh_model.specs.Net.Lans.{gateways_at, joins_lan, with_lan}
use Rattle.mesh_model.specs.Net.Limits.{clock_limit, lans_limit, links_limit, nodes_limit}
use Rattle.mesh_model.specs.Net.Mesh.{NodeLog, NetLan, NetLink, LanPut, Mesh, begun_mesh, has_address, address_at}
use Rattle.mesh_model.specs.Net.Next.{Happens, delivers, lan_delivers, ticks}
use Rattle.mesh_model.specs.Net.Runs.{Course, PassedLimit, begin, delivered, run_to}
use Rattle.mesh_model.specs.Net.Sending.{Attempt, with_put}
use Rattle.mesh_model.specs.Packets.Payload.{ClientFrame, payload_spelling}
use Rattle.mesh_model.specs.Routes.Algorithms.{queries_of}
use Rattle.mesh_model.specs.Run.Demands.{first_unmet, is_taken, refusal_if}
use Rattle.mesh_model.specs.Run.Outcome.{Outcome, Ends, Goes, reached}
use Rattle.mesh_model.specs.Run.Passing.{after_attempt, course_outcome, gone_on, run_until}
use Rattle.mesh_model.specs.Run.PlainRun.{Run, after_line, after_lines, after_outcome, after_reading, line_outcome, passes_input, passes_line, plain_run, start}
use Rattle.mesh_model.specs.Run.Rules.{carried_out, first_refused_rule, setup_of, unless_refused, wrong_name}
use Rattle.mesh_model.specs.Run.Shown.{after_print, shown}
use Rattle.mesh_model.specs.Run.State.{Decoded, Printed, State, first_state, lan_place_of, node_named, place_of, first_watch}
use Rattle.mesh_model.specs.Run.Steps.{Step, at_node, at_place, gateways_step, lan_frame_step, places_named, choice_step, input_step, link_step, new_node, session_step, step_of, with_link, with_node}
use Rattle.mesh_model.specs.Scenario.Commands.{command_of_line}
use Rattle.mesh_model.specs.Scenario.Lines.{content, lines_of}
use Rattle.mesh_model.specs.Scenario.Readings.{Reading}
use Rattle.mesh_laws.specs.LineLaws.{HasDelay, IsInRange, IsReached}
use Rattle.mesh_laws.specs.Soundness.{FitsPlaces}
use Rattle.mesh_laws.proofs.Lines.Keeping.{can_pass, first_is_reached, outcome_reached}
use Rattle.mesh_laws.proofs.Lines.Passing.{begun}
use Rattle.mesh_laws.proofs.Lines.Quiet.{goes_quiet}
use Rattle.mesh_laws.proofs.Lines.ReadRange.{read-in-range}
use Rattle.mesh_laws.proofs.Lines.Ways.{led}
use Rattle.mesh_laws.proofs.MacLemmas.{same_self}
use Rattle.mesh_tie.specs.PlainRuns.{CommandsAreSteps, HasReachableMesh, IsBetweenLines, IsTellable, NoneIsLater, PlainRunsAreReachable}
use Rattle.mesh_tie.specs.Sources.{IsWhole}
use Rattle.mesh_tie.specs.Steps.{IsNew, begins, goes_on, lan_joins, line_gives, link_joins, newest_moment, node_joins, put_comes, with_lan_frame, TellsClient}
use Rattle.mesh_tie.proofs.NodeLists.{got_front}
use Rattle.mesh_tie.proofs.NoNodes.{reachable_anyhow}
use Rattle.mesh_tie.proofs.GainLemmas.{put_is}
use Rattle.mesh_tie.proofs.RunReach.{Comes, Runs, begun_runs, delivered_comes, given_comes, lines_all, run_runs}
use Rattle.mesh_tie.proofs.TellReading.{read_is_tellable}
use Rattle.mesh_tie.proofs.VLemmas.{algorithms_keep}

-- ---- outcomes
-- an outcome's mesh is one that steps reach, and where it goes on nothing was later than the clock
record Leads (outcome : Outcome) : Type 0 where
  reachable : HasReachableMesh (reached outcome)
  settled : (after : State) → outcome ≡ Goes after → NoneIsLater after.mesh after.clock

goes_one : (a b : State) → Goes a ≡ Goes b → a ≡ b
goes_one a b e = cc

no_end : (a b : State) (stop : Stop) → Ends a stop ≡ Goes b → ⊥
no_end a b stop e = cc

goes_leads : (state : State) → HasReachableMesh state → NoneIsLater state.mesh state.clock → Leads (Goes state)
goes_leads state r settled = record { reachable = r; settled = λ after e. subst (λ (s : State). NoneIsLater s.mesh s.clock) (goes_one state after e) settled }

ends_leads : (state : State) (stop : Stop) → HasReachableMesh state → Leads (Ends state stop)
ends_leads state stop r = record { reachable = r; settled = λ after e. absurd (no_end state after stop e) }

stays_leads : (state : State) → IsBetweenLines state → Leads (Goes state)
stays_leads state b = goes_leads state b.reachable b.settled

fits : (algorithm : Algorithm) → FitsPlaces (setup_of algorithm)
fits algorithm = omega arith

-- ---- nodes and links
node_leads : (state : State) (name : List ℕ) (mac : Mac) → IsBetweenLines state → IsWhole mac → IsNew mac state.mesh.nodes → (full : Bool)
    → Leads (cond full (Ends state (Limit Nodes)) (Goes (with_node state (new_node name mac state.clock))))
node_leads state name mac b whole fresh true = ends_leads state (Limit Nodes) b.reachable
node_leads state name mac b whole fresh false =
    let new = new_node name mac state.clock in
    goes_leads (with_node state new) (goes_on state.mesh (with_node state new).mesh b.reachable (node_joins state.mesh new refl whole fresh)) (λ place n got. go place n (got_front state.mesh.nodes new place n got))
  where
    go : (place : ℕ) (n : NodeLog) → (slice_get state.mesh.nodes place ≡ Some n) ⊎ ((n ≡ new_node name mac state.clock) × (slice_get state.mesh.nodes place ≡ None)) → newest_moment n.log ≤ state.clock
    go place n (inl old) = b.settled place n old
    go place n (inr is) = subst (λ (x : NodeLog). newest_moment x.log ≤ state.clock) (sym is.0) (omega arith)

link_leads : (state : State) (link : NetLink) → IsBetweenLines state → (full : Bool) → Leads (cond full (Ends state (Limit Links)) (Goes (with_link state link)))
link_leads state link b true = ends_leads state (Limit Links) b.reachable
link_leads state link b false = goes_leads (with_link state link) (goes_on state.mesh (with_link state link).mesh b.reachable (link_joins state.mesh link)) b.settled

at_leads : (state : State) (step : ℕ → Step) (o : Option ℕ) → IsBetweenLines state → ((place : ℕ) → Leads (step place state)) → Leads (option_map_or (λ place. step place state) o (Goes state))
at_leads state step None b all = stays_leads state b
at_leads state step (Some place) b all = all place

-- ---- inputs and time
attempt_leads : (state : State) (attempt : Attempt) → IsBetweenLines state → ((after : Mesh) → attempt ≡ Ok after → Comes (queries_of state.algorithm) state.mesh after state.clock) → Leads (after_attempt state attempt)
attempt_leads state (Ok after) b comes = let c = comes after refl in goes_leads (gone_on state state.clock after) c.reachable c.settled
attempt_leads state (Err limit) b comes = ends_leads state (Limit limit) b.reachable

input_leads : (state : State) (line : LineGiven) (place : ℕ) → IsBetweenLines state → TellsClient line → Leads (input_step (setup_of state.algorithm) line place state)
input_leads state line place b of = attempt_leads state (given_to (setup_of state.algorithm) place state.clock 0 (Line line) state.mesh) b (λ after is.
    given_comes (queries_of state.algorithm) state.mesh after place state.clock 0 (Line line) b.reachable b.settled (λ node found may got. line_gives state.mesh after place state.clock node line found may of got) is)

line_leads : (state : State) (name : List ℕ) (line : LineGiven) → IsBetweenLines state → TellsClient line → Leads (at_node name (input_step (setup_of state.algorithm) line) state)
line_leads state name line b of = at_leads state (input_step (setup_of state.algorithm) line) (place_of state name) b (λ place. input_leads state line place b of)

session_leads : (state : State) (line : Mac → LineGiven) → ((mac : Mac) → TellsClient (line mac)) → (node target : List ℕ) → IsBetweenLines state → Leads (session_step (setup_of state.algorithm) line node target state)
session_leads state line of node target b =
    let to : ℕ → ℕ → Step = λ place end s. input_step (setup_of state.algorithm) (line (address_at end s.mesh.nodes)) place s in
    at_leads state (λ place. at_node target (to place)) (place_of state node) b (λ place.
    at_leads state (to place) (place_of state target) b (λ end. input_leads state (line (address_at end state.mesh.nodes)) place b (of (address_at end state.mesh.nodes))))

again_leads : (state : State) (place : ℕ) → IsBetweenLines state → Leads (after_attempt state (delivered (setup_of state.algorithm) place state.clock state.mesh))
again_leads state place b = attempt_leads state (delivered (setup_of state.algorithm) place state.clock state.mesh) b (λ after is. delivered_comes (queries_of state.algorithm) state.mesh after place state.clock (algorithms_keep state.algorithm) b.reachable b.settled is)

course_leads : (state : State) (t : ℕ) (o : Course) (stop : Option PassedLimit) → o.stop ≡ stop → Runs (queries_of state.algorithm) t o → Leads (course_outcome state t o.mesh stop)
course_leads state t o None is runs = goes_leads (gone_on state t o.mesh) runs.reachable (λ place n got. let low = runs.settled place n got in let within = runs.within in omega (arith, low, within))
course_leads state t o (Some passed) is runs = ends_leads (gone_on state passed.moment o.mesh) (Limit passed.limit) runs.reachable

time_leads : (state : State) (time : ℕ) (past : Bool) → nat_lt clock_limit (state.clock + time) ≡ past → IsBetweenLines state → Leads (cond past (Ends state (Limit Clock)) (run_until (setup_of state.algorithm) (state.clock + time) state))
time_leads state time true e b = ends_leads state (Limit Clock) b.reachable
time_leads state time false e b =
    let t = state.clock + time in
    let can = can_pass (setup_of state.algorithm) time state (fits state.algorithm) b.is_reached (ltb-false clock_limit (state.clock + time) e) in
    let o = run_to (setup_of state.algorithm) t state.mesh in
    course_leads state t o o.stop refl (run_runs (queries_of state.algorithm) t (begin state.mesh) (algorithms_keep state.algorithm) (fits state.algorithm) (begun_runs (queries_of state.algorithm) t state.clock state.mesh (begun (setup_of state.algorithm) t state can) b.reachable b.settled can.begins b.quiet))

show_leads : (state : State) (print : State → NodeLog → Printed) (o : Option NodeLog) → IsBetweenLines state → Leads (option_map_or (λ node. Goes (after_print state (print state node))) o (Goes state))
show_leads state print None b = stays_leads state b
show_leads state print (Some node) b = goes_leads (after_print state (print state node)) b.reachable b.settled

-- ---- LANs
-- at the LAN of a name, or else at the node of it
place_leads : (state : State) (name : List ℕ) (line : LineGiven) (on_lan : ℕ → Step) → IsBetweenLines state → TellsClient line → ((lan : ℕ) → Leads (on_lan lan state)) → Leads (at_place name on_lan (input_step (setup_of state.algorithm) line) state)
place_leads state name line on_lan b of all = go (lan_place_of state name)
  where
    go : (o : Option ℕ) → Leads (option_map_or (λ lan. on_lan lan state) o (at_node name (input_step (setup_of state.algorithm) line) state))
    go None = line_leads state name line b of
    go (Some lan) = all lan

-- a client's frame comes on a LAN
put_leads : (state : State) (lan : ℕ) (frame : ClientFrame) → IsBetweenLines state → TellsClient (FrameGiven frame.src frame.dst frame.vid frame.text) → Leads (lan_frame_step (setup_of state.algorithm) (payload_spelling frame) lan state)
put_leads state lan frame b of =
    let put : LanPut = record { lan = lan; moment = state.clock; bytes = payload_spelling frame; by = None } in
    attempt_leads state (with_put (setup_of state.algorithm) put state.mesh) b (λ after is.
    let same = put_is (setup_of state.algorithm) put state.mesh after is in
    subst (λ m. Comes (queries_of state.algorithm) state.mesh m state.clock) same
    (record { reachable = goes_on state.mesh (with_lan_frame put state.mesh) b.reachable (put_comes state.mesh put frame refl refl of); settled = b.settled }))

frame_leads : (state : State) (name : List ℕ) (frame : ClientFrame) → IsBetweenLines state → TellsClient (FrameGiven frame.src frame.dst frame.vid frame.text)
    → Leads (at_place name (lan_frame_step (setup_of state.algorithm) (payload_spelling frame)) (input_step (setup_of state.algorithm) (FrameGiven frame.src frame.dst frame.vid frame.text)) state)
frame_leads state name frame b of = place_leads state name (FrameGiven frame.src frame.dst frame.vid frame.text) (lan_frame_step (setup_of state.algorithm) (payload_spelling frame)) b of (λ lan. put_leads state lan frame b of)

gone_leads : (state : State) (name : List ℕ) (line : LineGiven) → IsBetweenLines state → TellsClient line → Leads (at_place name (gateways_step (setup_of state.algorithm) line) (input_step (setup_of state.algorithm) line) state)
gone_leads state name line b of = place_leads state name line (gateways_step (setup_of state.algorithm) line) b of (λ lan.
    let places = gateways_at lan state.mesh.lans in
    attempt_leads state (all_given (setup_of state.algorithm) places state.clock (Line line) state.mesh) b (λ after is. lines_all (queries_of state.algorithm) places state.mesh after state.clock line b.reachable b.settled of is))

lan_leads : (state : State) (name : List ℕ) (places : List ℕ) (full : Bool) → IsBetweenLines state → Leads (cond full (Ends state (Limit Lans)) (after_attempt state (joins_lan (setup_of state.algorithm) name places state.clock state.mesh)))
lan_leads state name places true b = ends_leads state (Limit Lans) b.reachable
lan_leads state name places false b = attempt_leads state (joins_lan (setup_of state.algorithm) name places state.clock state.mesh) b (λ after is.
    let lan : NetLan = record { name = name; gateways = places } in
    let mid = with_lan lan state.mesh in
    let addresses = map (λ place. address_at place state.mesh.nodes) places in
    let c = lines_all (queries_of state.algorithm) places mid after state.clock (Attach (suc (length state.mesh.lans)) addresses) (goes_on state.mesh mid b.reachable (lan_joins state.mesh lan)) b.settled tt is in
    record { reachable = c.reachable; settled = c.settled })

-- ---- the rules on a new node
second_none : (o p : Option Refusal) → option_or o p ≡ None → p ≡ None
second_none None p is = is
second_none (Some r) p is = cc

unmet_none : (b : Bool) (r : Refusal) → refusal_if b r ≡ None → b ≡ false
unmet_none true r is = cc
unmet_none false r is = refl

or_none : (a b : Bool) → (a || b) ≡ false → (a ≡ false) × (b ≡ false)
or_none true b e = absurd (true≢false e)
or_none false b e = (refl, e)

none_has : (nodes : List NodeLog) (mac : Mac) (place : ℕ) (n : NodeLog) → list_any (has_address mac) nodes ≡ false → slice_get nodes place ≡ Some n → has_address mac n ≡ false
none_has [] mac place n none got = cc
none_has (first ∷ rest) mac zero n none got =
    let same : first ≡ n = cc in
    subst (λ (x : NodeLog). has_address mac x ≡ false) same (or_none (has_address mac first) (list_any (has_address mac) rest) none).0
none_has (first ∷ rest) mac (suc place) n none got = none_has rest mac place n (or_none (has_address mac first) (list_any (has_address mac) rest) none).1 got

fresh_mac : (state : State) (name : List ℕ) (mac : Mac) → first_refused_rule state (Node name mac) ≡ None → IsNew mac state.mesh.nodes
fresh_mac state name mac none place other got same =
    let unmet = second_none (wrong_name state (Node name mac)) (first_unmet state (Rattle.mesh_model.specs.Run.Demands.NewNode name mac)) none in
    let taken = unmet_none (list_any (has_address mac) state.mesh.nodes) AddressTaken (second_none (refusal_if (is_taken state name) NameTaken) (refusal_if (list_any (has_address mac) state.mesh.nodes) AddressTaken) unmet) in
    true≢false (sym (ap (λ (m : Mac). Rattle.mesh_model.specs.Routes.Addresses.same_mac m mac) same ∙ same_self mac) ∙ none_has state.mesh.nodes mac place other taken got)

-- ---- the rule on an algorithm
no_nodes : (nodes : List NodeLog) → length nodes ≤ 0 → nodes ≡ []
no_nodes [] few = refl
no_nodes (first ∷ rest) few = absurd (omega (arith, few))

none_yet : (state : State) (algorithm : Algorithm) → first_refused_rule state (Algo algorithm) ≡ None → state.mesh.nodes ≡ []
none_yet state algorithm none = no_nodes state.mesh.nodes (ltb-false 0 (length state.mesh.nodes) (unmet_none (nat_lt 0 (length state.mesh.nodes)) AlgoAfterNode none))

choice_leads : (state : State) (algorithm : Algorithm) → IsBetweenLines state → state.mesh.nodes ≡ [] → Leads (choice_step algorithm state)
choice_leads state algorithm b none = goes_leads (record state { algorithm = algorithm }) (reachable_anyhow (queries_of state.algorithm) (queries_of algorithm) state.mesh b.reachable none) b.settled

-- ---- commands
step_leads : (state : State) (command : Command) → IsBetweenLines state → IsTellable command → first_refused_rule state command ≡ None → Leads (step_of (setup_of state.algorithm) command state)
step_leads state Nothing b tell none = stays_leads state b
step_leads state (Algo algorithm) b tell none = choice_leads state algorithm b (none_yet state algorithm none)
step_leads state (Node name mac) b tell none = node_leads state name mac b tell (fresh_mac state name mac none) (nat_le nodes_limit (length state.mesh.nodes))
step_leads state (Link from to delay pattern throughput) b tell none =
    let link : ℕ → ℕ → NetLink = λ start end. record { from = start; to = end; delay = delay; pattern = pattern; throughput = throughput } in
    at_leads state (λ start. at_node to (λ end. link_step (link start end))) (place_of state from) b (λ start.
    at_leads state (λ end. link_step (link start end)) (place_of state to) b (λ end. link_leads state (link start end) b (nat_le links_limit (length state.mesh.links))))
step_leads state (Lan name gateways) b tell none = lan_leads state name (places_named gateways 0 state.mesh.nodes) (nat_le lans_limit (length state.mesh.lans)) b
step_leads state (Frame place src dst vid text) b tell none = frame_leads state place (record { dst = dst; src = src; vid = vid; text = text }) b tell
step_leads state (Gone place key) b tell none = gone_leads state place (GoneGiven key) b tell
step_leads state (Join node key) b tell none = line_leads state node (JoinGiven key) b tell
step_leads state (Leave node key) b tell none = line_leads state node (LeaveGiven key) b tell
step_leads state (Arp node mac own asked vid) b tell none = line_leads state node (ArpGiven mac own asked vid) b tell
step_leads state (Dhcp node key text) b tell none = line_leads state node (DhcpGiven key text) b tell
step_leads state (Wifi node on) b tell none = line_leads state node (Sets (WifiSet on)) b tt
step_leads state (GwOff node) b tell none = line_leads state node (Sets (GatewaySet NoPart)) b tt
step_leads state (GwServer node down up) b tell none = line_leads state node (Sets (GatewaySet (Serves (record { download = down; upload = up })))) b tt
step_leads state (GwClient node policy) b tell none = line_leads state node (Sets (GatewaySet (Chooses policy))) b tt
step_leads state (Mcast node flags) b tell none = line_leads state node (Sets (MulticastSet flags)) b tt
step_leads state (Dat node on) b tell none = line_leads state node (Sets (ArpTableSet on)) b tt
step_leads state (Frag node longest) b tell none = line_leads state node (Sets (LongestWholeSet longest)) b tt
step_leads state (Vis node on) b tell none = line_leads state node (Sets (PicturesSet on)) b tt
step_leads state (Alfred node mode) b tell none = line_leads state node (Sets (FactStoreSet mode)) b tt
step_leads state (Put node type_no version text) b tell none = line_leads state node (PutGiven type_no version text) b tell
step_leads state (Get node type_no) b tell none = line_leads state node (GetGiven type_no) b tell
step_leads state (Ping node target) b tell none = session_leads state PingGiven (λ mac. tt) node target b
step_leads state (Trace node target) b tell none = session_leads state TraceGiven (λ mac. tt) node target b
step_leads state (Reboot node) b tell none = line_leads state node RebootGiven b tt
step_leads state (RunFor time) b tell none = time_leads state time (nat_lt clock_limit (state.clock + time)) refl b
step_leads state (Deliver number) b tell none = again_leads state (number - 1) b
step_leads state (Show node table) b tell none = show_leads state (shown table) (node_named state node) b
step_leads state (Decode bytes) b tell none = goes_leads (after_print state (Decoded bytes)) b.reachable b.settled

command_leads : (state : State) (command : Command) → IsBetweenLines state → IsTellable command → Leads (carried_out (setup_of state.algorithm) state command)
command_leads state command b tell = go (first_refused_rule state command) refl
  where
    go : (o : Option Refusal) → first_refused_rule state command ≡ o → Leads (unless_refused state o (step_of (setup_of state.algorithm) command state))
    go None none = step_leads state command b tell none
    go (Some refusal) none = ends_leads state (Refused refusal) b.reachable

pub commands_are_steps : CommandsAreSteps
commands_are_steps state command b delay tell = (command_leads state command b tell).reachable

next_between : (state after : State) (command : Command) → IsBetweenLines state → HasDelay command → IsTellable command → carried_out (setup_of state.algorithm) state command ≡ Goes after → IsBetweenLines after
next_between state after command b delay tell is =
    let l = command_leads state command b tell in
    record {
      is_reached = subst (λ o. IsReached (reached o)) is (outcome_reached (setup_of state.algorithm) state command (carried_out (setup_of state.algorithm) state command) (fits state.algorithm) b.is_reached delay (led (setup_of state.algorithm) state command));
      quiet = goes_quiet (setup_of state.algorithm) state after command (carried_out (setup_of state.algorithm) state command) (fits state.algorithm) b.is_reached delay (led (setup_of state.algorithm) state command) is b.quiet;
      reachable = subst (λ o. HasReachableMesh (reached o)) is l.reachable;
      settled = l.settled after is;
    }

-- ---- a whole run
pub record RunHolds (run : Run) : Type 0 where
  pub going : run.halt ≡ None → IsBetweenLines run.state
  pub reachable : HasReachableMesh run.state

-- what an outcome is for a run
abbrev OutcomeHolds : Outcome → Type 0
OutcomeHolds (Goes state) = IsBetweenLines state
OutcomeHolds (Ends state stop) = HasReachableMesh state

range_delay : (command : Command) → IsInRange command → HasDelay command
range_delay command range from to pattern delay throughput is = (range from to pattern delay throughput is).least

carried_holds : (state : State) (command : Command) → IsBetweenLines state → HasDelay command → IsTellable command → OutcomeHolds (carried_out (setup_of state.algorithm) state command)
carried_holds state command b delay tell = go (carried_out (setup_of state.algorithm) state command) refl
  where
    go : (o : Outcome) → carried_out (setup_of state.algorithm) state command ≡ o → OutcomeHolds o
    go (Goes after) is = next_between state after command b delay tell is
    go (Ends after stop) is = subst (λ o. HasReachableMesh (reached o)) is (command_leads state command b tell).reachable

reading_holds : (state : State) (line : List ℕ) → IsBetweenLines state → OutcomeHolds (after_reading state (command_of_line line))
reading_holds state line b = go (command_of_line line) refl
  where
    go : (r : Reading) → command_of_line line ≡ r → OutcomeHolds (after_reading state r)
    go (Ok command) is = carried_holds state command b (range_delay command (read-in-range line command is)) (read_is_tellable line command is)
    go (Err stop) is = b.reachable

line_holds : (state : State) (before : ℕ) (line : List ℕ) → IsBetweenLines state → OutcomeHolds (line_outcome state before line)
unfolding line_outcome
line_holds state before line b = go (passes_line before line) (passes_input before line)
  where
    go : (l i : Bool) → OutcomeHolds (cond l (Ends state (Limit Line)) (cond i (Ends state (Limit Input)) (after_reading state (command_of_line (content line)))))
    go true i = b.reachable
    go false true = b.reachable
    go false false = reading_holds state (content line) b

outcome_holds : (run : Run) (line : List ℕ) (o : Outcome) → OutcomeHolds o → RunHolds (after_outcome run line o)
outcome_holds run line (Goes state) b = record { going = λ none. b; reachable = b.reachable }
outcome_holds run line (Ends state stop) r = record { going = λ none. absurd (not_halted none); reachable = r }
  where
    not_halted : (after_outcome run line (Ends state stop)).halt ≡ None → ⊥
    not_halted none = cc

after_holds : (run : Run) (line : List ℕ) → RunHolds run → RunHolds (after_line run line)
after_holds run line h = go run.halt refl
  where
    go : (o : Option Rattle.mesh_model.specs.Scenario.Halt.Halt) → run.halt ≡ o → RunHolds (cond (is_some o) run (after_outcome run line (line_outcome run.state run.bytes line)))
    go None none = outcome_holds run line (line_outcome run.state run.bytes line) (line_holds run.state run.bytes line (h.going none))
    go (Some halt) is = h

pub lines_hold : (run : Run) (lines : List (List ℕ)) → RunHolds run → RunHolds (after_lines run lines)
lines_hold run [] h = h
lines_hold run (line ∷ lines) h = lines_hold (after_line run line) lines (after_holds run line h)

first_between : (choice : FrameChoice) → IsBetweenLines (first_state choice)
first_between choice = record {
  is_reached = first_is_reached choice;
  quiet = λ x happens later. absurd (none_happens x happens);
  reachable = begins (first_watch choice);
  settled = λ place node got. cc;
}
  where
    none_happens : (x : Rattle.mesh_model.specs.declared.happening.Happening.Happening) → Happens (begun_mesh (first_watch choice)) x → ⊥
    none_happens x (delivers d) = let found = d.found in cc
    none_happens x (lan_delivers d) = let found = d.found in cc
    none_happens x (ticks d) = let found = d.found in cc

pub first_holds : (choice : FrameChoice) → RunHolds (start choice)
first_holds choice = record { going = λ none. first_between choice; reachable = begins (first_watch choice) }

pub plain_runs_are_reachable : PlainRunsAreReachable
unfolding plain_run
plain_runs_are_reachable choice input = (lines_hold (start choice) (lines_of input) (record { going = λ none. first_between choice; reachable = begins (first_watch choice) })).reachable
